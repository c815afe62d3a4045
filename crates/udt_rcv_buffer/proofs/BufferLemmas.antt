-- What was received, by the parts that hold it.
use Rattle.std.proofs.Common.{◌≡◌, ◌≢◌, ℕ, zero, suc, ◌+◌, ◌-◌, ◌<◌, ◌≤◌, max, Bool, true, false, cond, ◌&&◌, eqb, ltb, leb, List, [], ◌∷◌, ◌++◌, length, take, drop, set, Some, refl, ap, ◌∙◌, sym, arith, inl, inr}
use Rattle.std.specs.Prelude.{All, slice_get}
use Rattle.std.proofs.lemmas.Bool.{cases_lt, false≢true, lt-ltb, le-ltb, le-leb, lt-leb, ne_eqb}
use Rattle.std.proofs.lemmas.Option.{slice_get_within}
use Rattle.std.proofs.lemmas.List.{length-set, length-drop, take-set-le, drop-set-lt, take-append-drop, drop-append-le, take-append-le, take_at}
use Rattle.std.proofs.lemmas.List.Elements.{All-nil, All-head}
use Rattle.udt_model.specs.ReceiveBlocks.{ReceiveBlocks, waiting_of, beginning, begins_at, given_after, with_consumed, after_consuming}
use Rattle.udt_rcv_buffer.specs.declared.marks.Marks.{Marks}
use Rattle.udt_rcv_buffer.specs.declared.buffer.RcvBuffer.TheInside.{Inside}
use Rattle.udt_rcv_buffer.specs.declared.head.Head.{Head}
use Rattle.udt_ring.specs.Parts.{Part, joined}
use Rattle.udt_rcv_buffer.specs.PlacedParts.{placed_from, consumed_part, consume_parts, IsUsed, IsUnused, IsSettled}
use Rattle.udt_rcv_buffer.specs.Marked.{IsMarked, EndsRun}
use Rattle.udt_rcv_buffer.specs.Buffers.{received_of, IsReceived}
use Rattle.udt_ring.proofs.JoinedLemmas.{joined-append, joined-take_le}
use Rattle.udt_rcv_buffer.proofs.MarkLemmas.{used_at, given_within, higher}
use Rattle.udt_rcv_buffer.proofs.PlacedLemmas.{bytes_from-run, beginning-settled, placed_from-consumed}

-- ---- nothing was received

pub none_settled : (parts : List (Part Head)) → All IsUnused parts → IsSettled 0 parts
none_settled [] unused = refl
none_settled (part ∷ parts) unused =
    record { block = λ used. absurd (false≢true (sym (All-head IsUnused part parts unused) ∙ used)); none = λ _. refl }

pub none_marked : (marks : Marks) (parts : List (Part Head)) → All IsUnused parts → marks.run ≡ 0 → marks.bytes ≡ 0 → marks.top ≡ 0 → IsMarked marks parts
none_marked marks parts unused run bytes top = record {
  within = omega (arith, run);
  used = rw run (All-nil IsUsed);
  bytes = rw (run, bytes) refl;
  top = omega (arith, top);
  unused = rw top unused;
}

-- the first part isn't used either
pub none_first : (parts : List (Part Head)) → All IsUnused parts → EndsRun 0 parts
none_first [] unused part found = absurd cc
none_first (first ∷ parts) unused part found = let same : first ≡ part = cc in rw (← same) (All-head IsUnused first parts unused)

-- ---- the bytes that wait

module _ (b : Inside) (ok : IsReceived b) where
  -- they are those of the run that weren't given
  pub waiting_is : waiting_of (received_of b) ≡ drop b.marks.given (joined (take b.marks.run b.ring.list))
  waiting_is = rw (bytes_from-run b.ring.list b.base b.marks.run (omega (arith, ok.marked.within, ok.marked.top)) ok.marked.used ok.run) refl

  pub given_le : b.marks.given ≤ b.marks.bytes
  given_le = given_within b.marks b.ring.list ok.marked ok.run ok.settled

  pub waiting_len : length (waiting_of (received_of b)) ≡ b.marks.bytes - b.marks.given
  waiting_len = ap (λ (bs : List ℕ). length bs) waiting_is ∙ omega (arith, length-drop b.marks.given (joined (take b.marks.run b.ring.list)), ok.marked.bytes)

  -- they are the first of all bytes
  pub run_first : (count : ℕ) → b.marks.given + count ≤ b.marks.bytes
      → take count (drop b.marks.given (joined b.ring.list)) ≡ take count (waiting_of (received_of b))
  run_first count le =
      let front = joined (take b.marks.run b.ring.list) in
      let after = joined (drop b.marks.run b.ring.list) in
      let split : joined b.ring.list ≡ front ++ after = ap joined (sym (take-append-drop b.marks.run b.ring.list)) ∙ joined-append (take b.marks.run b.ring.list) (drop b.marks.run b.ring.list) in
      let long : b.marks.given ≤ length front = omega (arith, le, ok.marked.bytes) in
      let longer : count ≤ length (drop b.marks.given front) = omega (arith, le, ok.marked.bytes, length-drop b.marks.given front) in
      rw (split, drop-append-le b.marks.given front after long, take-append-le count (drop b.marks.given front) after longer, waiting_is) refl

  pub all_bytes : b.marks.bytes ≤ length (joined b.ring.list)
  all_bytes = omega (arith, ok.marked.bytes, joined-take_le b.marks.run b.ring.list)

-- ---- a block is placed

-- an unused part isn't in the run
past_run : (marks : Marks) (parts : List (Part Head)) (place : ℕ) (part : Part Head) → IsMarked marks parts → slice_get parts place ≡ Some part → part.head.used ≡ false → marks.run ≤ place
past_run marks parts place part m found unused = elim (cases_lt place marks.run) [
  | inl lt ↦ absurd (false≢true (sym unused ∙ used_at parts marks.run place part m.used lt found))
  | inr le ↦ le
]

pub placed_marked : (marks new : Marks) (parts : List (Part Head)) (place : ℕ) (part with : Part Head) → IsMarked marks parts → slice_get parts place ≡ Some part → part.head.used ≡ false
    → new.run ≡ marks.run → new.bytes ≡ marks.bytes → new.top ≡ max marks.top (place + 1) → IsMarked new (set parts place with)
placed_marked marks new parts place part with m found unused run bytes top =
    let same = take-set-le marks.run parts place with (past_run marks parts place part m found unused) in
    let above = higher marks new parts m run bytes (omega (arith, top)) (omega (arith, top, m.top, slice_get_within parts place part found)) in
    record {
      within = omega (arith, run, top, m.within);
      used = rw (run, same) m.used;
      bytes = rw (run, bytes, same) m.bytes;
      top = omega (arith, length-set parts place with, above.top);
      unused = rw (drop-set-lt new.top parts place with (omega (arith, top))) above.unused;
    }

-- the part is there
pub get-set : (parts : List (Part Head)) (place : ℕ) (with : Part Head) → place < length parts → slice_get (set parts place with) place ≡ Some with
get-set [] place with within = absurd (omega (arith, within))
get-set (first ∷ parts) zero with within = refl
get-set (first ∷ parts) (suc place) with within = get-set parts place with (omega (arith, within))

-- and no other has changed, so that what ended the run still ends it
pub get-set_other : (parts : List (Part Head)) (i place : ℕ) (with : Part Head) → i ≢ place → slice_get (set parts place with) i ≡ slice_get parts i
get-set_other [] i place with other = refl
get-set_other (first ∷ parts) zero zero with other = absurd (other refl)
get-set_other (first ∷ parts) zero (suc place) with other = refl
get-set_other (first ∷ parts) (suc i) zero with other = refl
get-set_other (first ∷ parts) (suc i) (suc place) with other = get-set_other parts i place with (λ same. other (ap suc same))

pub ends-set : (run : ℕ) (parts : List (Part Head)) (place : ℕ) (with : Part Head) → run ≢ place → EndsRun run parts → EndsRun run (set parts place with)
ends-set run parts place with other ends part found = ends part (sym (get-set_other parts run place with other) ∙ found)

-- what was given stays so
pub placed_settled : (given : ℕ) (parts : List (Part Head)) (place : ℕ) (part with : Part Head) → IsSettled given parts → slice_get parts place ≡ Some part → part.head.used ≡ false
    → with.head.used ≡ true → 0 < length with.bytes → IsSettled given (set parts place with)
placed_settled given [] place part with settled found unused used some = absurd cc
placed_settled given (first ∷ parts) zero part with settled found unused used some =
    let same : first ≡ part = cc in
    let none : given ≡ 0 = settled.none (rw (← same) at unused) in
    record { block = λ _. omega (arith, none, some); none = λ not_used. absurd (false≢true (sym not_used ∙ used)) }
placed_settled given (first ∷ parts) (suc place) part with settled found unused used some = settled

-- ---- parts are consumed

-- the first part stays as it was, where it isn't among them
pub consumed_settled : (given at count : ℕ) (parts : List (Part Head)) → 0 < at → IsSettled given parts → IsSettled given (consume_parts at count parts)
unfolding consume_parts
consumed_settled given at zero parts after settled = settled
consumed_settled given at (suc count) parts after settled = past_first (consume_parts at count parts) (at + count) (omega (arith, after)) (consumed_settled given at count parts after settled)
  where
    past_first : (ps : List (Part Head)) (i : ℕ) → 0 < i → IsSettled given ps → IsSettled given (set ps i consumed_part)
    past_first [] i some h = h
    past_first (p ∷ ps) zero some h = absurd (omega (arith, some))
    past_first (p ∷ ps) (suc i) some h = h

-- no more was given than is there then
pub consumed_given : (given at count : ℕ) (parts : List (Part Head)) (marks : Marks) → IsSettled given parts
    → marks.given ≡ cond (eqb at 0) 0 given → IsMarked marks (consume_parts at count parts) → EndsRun marks.run (consume_parts at count parts) → marks.given ≤ marks.bytes
consumed_given given zero count parts marks settled is m ends = omega (arith, is)
consumed_given given (suc at) count parts marks settled is m ends =
    let same : marks.given ≡ given = rw (ne_eqb (suc at) 0 (λ e. absurd (omega (arith, e)))) at is in
    given_within marks (consume_parts (suc at) count parts) m ends (rw same (consumed_settled given (suc at) count parts (omega arith) settled))

-- how many bytes of the first block were given then
given_same : (base given at count : ℕ) → 0 < count → cond (eqb at 0) 0 given ≡ cond (leb (base + at) base && ltb base (base + at + count)) 0 given
given_same base given zero count some = rw (le-leb (base + 0) base (omega arith), lt-ltb base (base + 0 + count) (omega (arith, some))) refl
given_same base given (suc at) count some = rw (ne_eqb (suc at) 0 (λ e. absurd (omega (arith, e))), lt-leb (base + suc at) base (omega arith)) refl

-- where the received blocks begin once parts are consumed
pub consumed_beginning : (r : ReceiveBlocks) (at count : ℕ) (parts : List (Part Head)) (given : ℕ) → r.placed ≡ placed_from r.base parts → 0 < count → at + count ≤ length parts
    → given ≡ cond (eqb at 0) 0 r.given
    → after_consuming r (r.base + at) count ≡ begins_at r (beginning r.base given (placed_from r.base (consume_parts at count parts)))
consumed_beginning r at count parts given placed some within is =
    rw (is, given_same r.base r.given at count some, placed, placed_from-consumed r.base at count parts within) refl

-- where nothing is consumed, all stays
pub nothing_consumed : (r : ReceiveBlocks) (from : ℕ) (parts : List (Part Head)) → r.placed ≡ placed_from r.base parts → r.base ≤ from → IsSettled r.given parts
    → after_consuming r from 0 ≡ r
unfolding with_consumed
nothing_consumed r from parts placed le settled =
    let given : given_after r from 0 ≡ r.given = none_given r.base r.given from le in
    let stays = beginning-settled parts r.base r.given settled in
    rw (given, placed, stays, ← placed) refl
  where
    and_false : (b : Bool) → (b && false) ≡ false
    and_false true = refl
    and_false false = refl

    none_given : (base given from : ℕ) → base ≤ from → cond (leb from base && ltb base (from + 0)) 0 given ≡ given
    none_given base given from le = elim (cases_lt base from) [
      | inl above ↦ rw (lt-leb from base above) refl
      | inr here ↦ rw (le-ltb base (from + 0) (omega (arith, here)), and_false (leb from base)) refl
    ]

-- the bytes of a message are the first of those from its first part on
pub message_bytes : (parts : List (Part Head)) (first count len : ℕ) → len ≡ length (joined (take count (drop first parts)))
    → (len ≤ length (joined (drop first parts))) × (take len (joined (drop first parts)) ≡ joined (take count (drop first parts)))
message_bytes parts first count len is =
    let front = joined (take count (drop first parts)) in
    let after = joined (drop count (drop first parts)) in
    let split : joined (drop first parts) ≡ front ++ after = ap joined (sym (take-append-drop count (drop first parts))) ∙ joined-append (take count (drop first parts)) (drop count (drop first parts)) in
    (omega (arith, is, joined-take_le count (drop first parts)), rw split (take_at front after len (sym is)))
