-- The message that is read next, once parts were consumed.
use Rattle.std.proofs.Common.{◌≡◌, ℕ, zero, suc, ◌+◌, ◌<◌, ◌≤◌, leb, List, length, take, Some, None, Option, refl, ◌∙◌, sym, arith, inl, inr}
use Rattle.std.specs.Prelude.{slice_get, All}
use Rattle.std.proofs.lemmas.Bool.{cases_lt, cases_eq}
use Rattle.std.proofs.lemmas.Option.{same_Some}
use Rattle.udt_rcv_buffer.specs.declared.head.Head.{Head}
use Rattle.udt_rcv_buffer.specs.declared.messages.Found.{Found}
use Rattle.udt_ring.specs.Parts.{Part}
use Rattle.udt_rcv_buffer.specs.PlacedParts.{consumed_part, consume_parts, IsUsed}
use Rattle.udt_rcv_buffer.specs.Marked.{EndsRun}
use Rattle.udt_rcv_buffer.specs.Walked.{NoneEnds, IsNext, Breaks, StartsAt}
use Rattle.udt_rcv_buffer.specs.Walks.{end_of, WasConsumed}
use Rattle.udt_rcv_buffer.proofs.PlacedLemmas.{length-consume_parts}
use Rattle.udt_rcv_buffer.proofs.BufferLemmas.{get-set, get-set_other}
use Rattle.udt_rcv_buffer.proofs.WalkedLemmas.{SameBelow, none_ends-same, begun-consumed}
use Rattle.udt_rcv_buffer.proofs.NextLemmas.{ends-same, end-within, was-none, starts-at}

-- what stands before them stays
before-consumed : (at count k : ℕ) (parts : List (Part Head)) → k < at → slice_get parts k ≡ slice_get (consume_parts at count parts) k
unfolding consume_parts
before-consumed at zero k parts lt = refl
before-consumed at (suc count) k parts lt =
    before-consumed at count k parts lt ∙ sym (get-set_other (consume_parts at count parts) k (at + count) consumed_part (λ is. omega (arith, is, lt)))

-- and they are consumed
at-consumed : (at count k : ℕ) (parts : List (Part Head)) → at + count ≤ length parts → at ≤ k → k < at + count → slice_get (consume_parts at count parts) k ≡ Some consumed_part
unfolding consume_parts
at-consumed at zero k parts within from to = absurd (omega (arith, from, to))
at-consumed at (suc count) k parts within from to = elim (cases_eq k (at + count)) [
  | inl last ↦ rw last (get-set (consume_parts at count parts) (at + count) consumed_part (omega (arith, within, length-consume_parts at count parts)))
  | inr other ↦ get-set_other (consume_parts at count parts) k (at + count) consumed_part other
      ∙ at-consumed at count k parts (omega (arith, within)) from (omega (arith, to, other))
]

module _ (found : Option Found) (place count : ℕ) (parts : List (Part Head)) (was : WasConsumed found place count parts) where
  same_below : (n : ℕ) → n ≤ place → SameBelow n was.before parts
  same_below n le k lt = rw (was.is) (before-consumed place count k was.before (omega (arith, le, lt)))

  consumed_at : (k : ℕ) → place ≤ k → k < place + count → slice_get parts k ≡ Some consumed_part
  consumed_at k from to = rw (was.is) (at-consumed place count k was.before was.within from to)

  len : length was.before ≡ length parts
  len = rw (was.is) (sym (length-consume_parts place count was.before))

  pub within_all : end_of found (length parts) ≤ length parts
  within_all = rw (← len) (end-within found was.before was.next)

  -- a message that ends before them is still the next
  pub stays_before : end_of found (length parts) ≤ place → IsNext found parts
  stays_before le = by_found found refl
    where
      by_found : (o : Option Found) → found ≡ o → IsNext o parts
      by_found None is = absurd (omega (arith, rw is at le, was.some, was.within, len))
      by_found (Some f) is =
          let low : f.first + f.count ≤ place = rw is at le in
          ends-same f was.before parts (same_below (f.first + f.count) low) (rw is at was.next)

  none_upto : place < end_of found (length parts) → NoneEnds (place + count) parts
  none_upto lt at part below there last = elim (cases_lt at place) [
    | inl before ↦
        none_ends-same place was.before parts (same_below place (omega arith)) (was-none found place was.before (rw len lt) was.next) at part before there last
    | inr from ↦ begun-consumed at parts consumed_part (consumed_at at from below) refl
  ]

  nothing_over : Breaks (place + count) parts
  nothing_over at before part next found_before found_part =
      let there = consumed_at at (omega (arith, next, was.some)) (omega (arith, next)) in
      let same : consumed_part ≡ before = same_Some consumed_part before (sym there ∙ found_before) in
      rw (← same) refl

  -- or else none begins before their end
  pub starts_after : (run : ℕ) → All IsUsed (take run parts) → run ≤ length parts → EndsRun run parts → place < end_of found (length parts)
      → StartsAt (place + count) (leb (place + count) run) parts
  starts_after run used within ends lt =
      starts-at run (place + count) (place + count) parts used within ends (none_upto lt) (omega arith) nothing_over
