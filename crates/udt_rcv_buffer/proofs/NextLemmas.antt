-- The message that is read next, as the walk over the parts finds it, and what a placed block changes of it.
use Rattle.std.proofs.Common.{◌≡◌, ℕ, zero, suc, ◌+◌, ◌-◌, ◌<◌, ◌≤◌, Bool, true, false, ◌&&◌, leb, List, length, take, drop, Some, None, Option, refl, ap, ◌∙◌, sym, subst, arith, inl, inr}
use Rattle.std.specs.Prelude.{slice_get, All, IfSome, IfNone}
use Rattle.std.proofs.lemmas.Bool.{cases_Bool, cases_lt, cases_eq, le-leb, lt-leb}
use Rattle.std.proofs.lemmas.Option.{slice_get_within}
use Rattle.udt_model.specs.ReceiveBlocks.{message_from}
use Rattle.udt_rcv_buffer.specs.declared.head.Head.{Head}
use Rattle.udt_rcv_buffer.specs.declared.marks.Marks.{Marks}
use Rattle.udt_rcv_buffer.specs.declared.messages.Begun.{Begun}
use Rattle.udt_rcv_buffer.specs.declared.messages.Found.{Found}
use Rattle.udt_ring.specs.Parts.{Part}
use Rattle.udt_rcv_buffer.specs.PlacedParts.{placed_from, IsUsed, IsUnused}
use Rattle.udt_rcv_buffer.specs.Marked.{IsMarked, EndsRun}
use Rattle.udt_rcv_buffer.specs.Messages.{begun_then, sought, IsBegun, IsFound}
use Rattle.udt_rcv_buffer.specs.Walked.{is_used, gapless_at, begun_by, begun_at, NoneEnds, EndsWith, IsNext, Breaks, NoneBegins, StartsAt}
use Rattle.udt_rcv_buffer.specs.Walks.{end_of, WasNext}
use Rattle.udt_rcv_buffer.proofs.MarkLemmas.{below_top}
use Rattle.udt_rcv_buffer.proofs.WalkLemmas.{Passes, passes, counted, sought-past}
use Rattle.udt_rcv_buffer.proofs.WalkedLemmas.{SameBelow, gapless-next, begun-next, begun-same, none_ends-same, begun-goes, begun-unused, begun-none, none_ends-upto, fresh-at, get_within, gapless-in, gapless-past, none_ends-fewer}

-- ---- what the walk finds

-- what is begun has bytes of the parts from its first on
begun-counted : (place : ℕ) (parts : List (Part Head)) (b : Begun) → begun_at place parts ≡ Some b → IsBegun place parts b
unfolding begun_at
begun-counted zero parts b is = absurd cc
begun-counted (suc place) parts b is = by_part (begun-counted place parts) (slice_get parts place) refl
  where
    next : suc place ≡ place + 1
    next = omega arith

    by_part : ((a : Begun) → begun_at place parts ≡ Some a → IsBegun place parts a) → (o : Option (Part Head)) → slice_get parts place ≡ o → IsBegun (suc place) parts b
    by_part before None there =
        let nothing : begun_at (suc place) parts ≡ None = rw there refl in
        absurd cc
    by_part before (Some part) there =
        subst (λ (n : ℕ). IsBegun n parts b) (sym next)
        (counted parts place part (gapless_at place parts && part.head.used) (begun_at place parts) before there b (rw there at is))

-- the walk passes a part
passing : (base place : ℕ) (parts : List (Part Head)) (part : Part Head) → slice_get parts place ≡ Some part
    → Passes base place (gapless_at place parts) (begun_at place parts) (begun_then (begun_at place parts) part.head place (length part.bytes) (gapless_at place parts && part.head.used)) parts part
passing base place parts part there =
    passes base place (gapless_at place parts) parts part there (begun_at place parts) (length part.bytes)
    (λ b is. let first = (begun-counted place parts b is).first in omega (arith, first))

-- where no message ends below a place, the search goes on there
search-on : (base place : ℕ) (parts : List (Part Head)) → NoneEnds place parts → place ≤ length parts
    → message_from base true (placed_from base parts) ≡ sought base place (gapless_at place parts) (begun_at place parts) parts
unfolding gapless_at begun_at
search-on base zero parts none within = let e : base + 0 ≡ base = omega arith in rw e refl
search-on base (suc place) parts none within =
    by_part (search-on base place parts (none_ends-fewer place (suc place) parts (omega arith) none) (omega (arith, within))) (slice_get parts place) refl
  where
    next : suc place ≡ place + 1
    next = omega arith

    by_part : message_from base true (placed_from base parts) ≡ sought base place (gapless_at place parts) (begun_at place parts) parts
        → (o : Option (Part Head)) → slice_get parts place ≡ o
        → message_from base true (placed_from base parts) ≡ sought base (suc place) (gapless_at (suc place) parts) (begun_at (suc place) parts) parts
    by_part before None there = absurd (get_within parts place (omega (arith, within)) there)
    by_part before (Some part) there =
        let step = passing base place parts part there in
        let then : begun_at (suc place) parts ≡ begun_then (begun_at place parts) part.head place (length part.bytes) (gapless_at place parts && part.head.used) = rw there refl in
        let still : gapless_at (suc place) parts ≡ (gapless_at place parts && part.head.used) = rw there refl in
        before ∙ rw (then, still, next) (elim (cases_Bool part.head.flags.last) [
          | inl last ↦
              let ended = none place part (omega arith) there last in
              let nothing : begun_at (suc place) parts ≡ None = ap (λ (n : ℕ). begun_at n parts) next ∙ ended in
              step.none (sym then ∙ nothing)
          | inr more ↦ step.goes more
        ])

-- no message can be read where none ends
pub next-none : (base top : ℕ) (parts : List (Part Head)) → NoneEnds (length parts) parts → top ≤ length parts → All IsUnused (drop top parts)
    → message_from base true (placed_from base parts) ≡ None
next-none base top parts none within unused =
    search-on base top parts (none_ends-fewer top (length parts) parts within none) within ∙ sought-past base top (gapless_at top parts) (begun_at top parts) parts unused

-- and the one that ends first is the next
pub next-found : (found : Found) (marks : Marks) (parts : List (Part Head)) → IsMarked marks parts → EndsWith found parts → IsFound found marks.top parts
next-found found marks parts m ends =
    let b : Begun = record { first = found.first; number = ends.number; len = found.len } in
    let goes = begun-goes ends.place parts ends.part b ends.there ends.begun in
    let top = below_top marks parts ends.place ends.part m ends.there goes.used in
    let is = begun-counted (ends.place + 1) parts b ends.begun in
    let count : ends.place + 1 - found.first ≡ found.count = omega (arith, ends.end) in
    let then = rw (ends.there) at (sym (begun-next ends.place parts) ∙ ends.begun) in
    record {
      some = ends.some;
      within = omega (arith, ends.end, top);
      len = rw count at is.len;
      next = λ base. search-on base ends.place parts ends.before (omega (arith, top, m.top))
          ∙ rw count at ((passing base ends.place parts ends.part ends.there).whole b then ends.last);
    }

pub found-is : (found : Option Found) (marks : Marks) (parts : List (Part Head)) → IsMarked marks parts → IsNext found parts
    → IfSome found (λ f. IsFound f marks.top parts) × IfNone found ((base : ℕ) → message_from base true (placed_from base parts) ≡ None)
found-is None marks parts m next = (tt, λ base. next-none base marks.top parts next m.top m.unused)
found-is (Some found) marks parts m next = (next-found found marks parts m next, tt)

-- ---- equal parts up to a place

-- a message that ends there ends the walk over the others too
pub ends-same : (found : Found) (xs ys : List (Part Head)) → SameBelow (found.first + found.count) xs ys → EndsWith found xs → EndsWith found ys
ends-same found xs ys same ends =
    record {
      place = ends.place;
      part = ends.part;
      number = ends.number;
      some = ends.some;
      end = ends.end;
      before = none_ends-same ends.place xs ys (λ k lt. same k (omega (arith, lt, ends.end))) ends.before;
      begun = sym (begun-same (ends.place + 1) xs ys (λ k lt. same k (omega (arith, lt, ends.end)))) ∙ ends.begun;
      there = sym (same ends.place (omega (arith, ends.end))) ∙ ends.there;
      last = ends.last;
    }

-- ---- equal parts from a place on

merge : (n more : ℕ) (xs ys : List (Part Head)) → ((k : ℕ) → n ≤ k → slice_get xs k ≡ slice_get ys k) → gapless_at n xs ≡ gapless_at n ys → begun_at n xs ≡ begun_at n ys
    → (gapless_at (n + more) xs ≡ gapless_at (n + more) ys) × (begun_at (n + more) xs ≡ begun_at (n + more) ys)
merge n zero xs ys same gapless begun = let e : n + 0 ≡ n = omega arith in rw e (gapless, begun)
merge n (suc more) xs ys same gapless begun =
    let e : n + suc more ≡ (n + more) + 1 = omega arith in
    let before = merge n more xs ys same gapless begun in
    let here = same (n + more) (omega arith) in
    rw e (
      gapless-next (n + more) xs ∙ rw (before.0, here) (sym (gapless-next (n + more) ys)),
      begun-next (n + more) xs ∙ rw (before.0, before.1, here) (sym (begun-next (n + more) ys)),
    )

begun-merged : (n k : ℕ) (xs ys : List (Part Head)) → n ≤ k → ((k : ℕ) → n ≤ k → slice_get xs k ≡ slice_get ys k) → gapless_at n xs ≡ gapless_at n ys → begun_at n xs ≡ begun_at n ys
    → begun_at k xs ≡ begun_at k ys
begun-merged n k xs ys le same gapless begun =
    let e : n + (k - n) ≡ k = omega (arith, le) in
    rw e at ((merge n (k - n) xs ys same gapless begun).1)

-- what begins at a place after a gap
begins-gapped : (place : ℕ) (gapless : Bool) (o : Option (Part Head)) → (gapless && is_used o) ≡ false → begun_by None place gapless o ≡ begun_by None place false o
begins-gapped place gapless None gapped = refl
begins-gapped place gapless (Some part) gapped = rw gapped refl

-- where nothing goes on after a gap, what is begun is what begins there
begun-fresh : (place : ℕ) (parts : List (Part Head)) → NoneEnds place parts → Breaks place parts → gapless_at (place + 1) parts ≡ false
    → begun_at (place + 1) parts ≡ begun_by None place false (slice_get parts place)
begun-fresh place parts none breaks gapped =
    begun-next place parts ∙ fresh-at place parts (gapless_at place parts) none breaks
    ∙ begins-gapped place (gapless_at place parts) (slice_get parts place) (sym (gapless-next place parts) ∙ gapped)

-- ---- a block is placed

-- a message that is next ends with a part that is there
pub end-within : (found : Option Found) (parts : List (Part Head)) → IsNext found parts → end_of found (length parts) ≤ length parts
end-within None parts next = omega arith
end-within (Some found) parts next = omega (arith, next.end, slice_get_within parts next.place next.part next.there)

-- none ended before the message that was next
pub was-none : (found : Option Found) (n : ℕ) (parts : List (Part Head)) → n < end_of found (length parts) → IsNext found parts → NoneEnds n parts
was-none None n parts lt next = none_ends-fewer n (length parts) parts (omega (arith, lt)) next
was-none (Some found) n parts lt next = none_ends-fewer n next.place parts (omega (arith, lt, next.end)) next.before

pub gapless-after : (run place : ℕ) (parts : List (Part Head)) → EndsRun run parts → run ≤ place → gapless_at (place + 1) parts ≡ false
gapless-after run place parts ends le =
    let e : run + (place - run) ≡ place = omega (arith, le) in
    rw e at (gapless-past run (place - run) parts ends)

module _ (found : Option Found) (place run : ℕ) (parts : List (Part Head)) (was : WasNext found place run parts) where
  -- before the block nothing has changed
  pub same_below : (n : ℕ) → n ≤ place → SameBelow n was.before parts
  same_below n le k lt = was.same k (λ is. omega (arith, is, lt, le))

  pub none_below : place < end_of found (length parts) → NoneEnds place parts
  none_below lt =
      none_ends-same place was.before parts (same_below place (omega arith)) (was-none found place was.before (rw (was.len) lt) was.next)

  -- a message that ends before the block is still the next
  pub stays_before : place < length parts → end_of found (length parts) ≤ place → IsNext found parts
  stays_before within le = by_found found refl
    where
      by_found : (o : Option Found) → found ≡ o → IsNext o parts
      by_found None is = absurd (omega (arith, within, rw is at le))
      by_found (Some f) is =
          let low : f.first + f.count ≤ place = rw is at le in
          ends-same f was.before parts (same_below (f.first + f.count) low) (rw is at was.next)

  -- where nothing goes on now, nothing did
  broke : (i : ℕ) → place < i → Breaks i parts → Breaks i was.before
  broke i after breaks at before part next found_before found_part = elim (cases_eq at place) [
    | inl here ↦
        let missing : before.head.used ≡ false = was.missing before (rw here at found_before) in
        rw missing refl
    | inr other ↦ breaks at before part next (sym (was.same at other) ∙ found_before) (sym (was.same i (λ is. omega (arith, is, after))) ∙ found_part)
  ]

  -- where nothing goes on after a gap, the walk is then as it was
  pub later-broken : (i : ℕ) → EndsRun run parts → run ≤ i → place < i → i < end_of found (length parts) → Breaks i parts → NoneEnds i parts
      → (k : ℕ) → i ≤ k → begun_at (k + 1) was.before ≡ begun_at (k + 1) parts
  later-broken i ends past after below breaks none k le =
      let gapless_before = was.gapped i past in
      let gapless_now = gapless-after run i parts ends past in
      let none_before : NoneEnds i was.before = was-none found i was.before (rw (was.len) below) was.next in
      let begun_before = begun-fresh i was.before none_before (broke i after breaks) gapless_before in
      let begun_now = begun-fresh i parts none breaks gapless_now in
      begun-merged (i + 1) (k + 1) was.before parts (omega (arith, le)) (λ n from. was.same n (λ is. omega (arith, is, from, after))) (gapless_before ∙ sym gapless_now)
      (begun_before ∙ ap (begun_by None i false) (was.same i (λ is. omega (arith, is, after))) ∙ sym begun_now)

  -- nothing was begun after the part while it was missing
  unbegun : begun_at (place + 1) was.before ≡ None
  unbegun = by_part (slice_get was.before place) refl
    where
      by_part : (o : Option (Part Head)) → slice_get was.before place ≡ o → begun_at (place + 1) was.before ≡ None
      by_part None there = begun-next place was.before ∙ rw there refl
      by_part (Some part) there = begun-unused place was.before part there (was.missing part there)

  -- and where nothing is begun now, the walk is then as it was
  pub later-unbegun : EndsRun run parts → run ≤ place → begun_at (place + 1) parts ≡ None → (k : ℕ) → place + 1 ≤ k → begun_at (k + 1) was.before ≡ begun_at (k + 1) parts
  later-unbegun ends past nothing k le =
      begun-merged (place + 1) (k + 1) was.before parts (omega (arith, le)) (λ n from. was.same n (λ is. omega (arith, is, from)))
      (was.gapped place past ∙ sym (gapless-after run place parts ends past)) (unbegun ∙ sym nothing)

  module _ (i : ℕ) (after : place < i) (below : i < end_of found (length parts)) (none : NoneEnds i parts) (later : (k : ℕ) → i ≤ k → begun_at (k + 1) was.before ≡ begun_at (k + 1) parts) where
    apart : (k : ℕ) → i ≤ k → k ≡ place → ⊥
    apart k le is = omega (arith, is, le, after)

    none_later : (n : ℕ) → NoneEnds n was.before → NoneEnds n parts
    none_later n before at part lt there last = elim (cases_lt at i) [
      | inl low ↦ none at part low there last
      | inr from ↦ sym (later at from) ∙ before at part lt (was.same at (apart at from) ∙ there) last
    ]

    -- so the same message is the next
    pub stays_next : IsNext found parts
    stays_next = by_found found refl
      where
        by_found : (o : Option Found) → found ≡ o → IsNext o parts
        by_found None is =
            let before : NoneEnds (length was.before) was.before = rw is at was.next in
            rw (was.len) at (none_later (length was.before) before)
        by_found (Some f) is =
            let e : EndsWith f was.before = rw is at was.next in
            let from : i ≤ e.place = omega (arith, rw is at below, e.end) in
            record {
              place = e.place;
              part = e.part;
              number = e.number;
              some = e.some;
              end = e.end;
              before = none_later e.place e.before;
              begun = sym (later e.place from) ∙ e.begun;
              there = sym (was.same e.place (apart e.place from)) ∙ e.there;
              last = e.last;
            }

  -- where nothing goes on after a gap, the same message is the next
  pub stops_next : (i : ℕ) → EndsRun run parts → run ≤ i → place < i → i < end_of found (length parts) → Breaks i parts → NoneEnds i parts → IsNext found parts
  stops_next i ends past after below breaks none = stays_next i after below none (later-broken i ends past after below breaks none)

  -- and where no block up to the new one is a first one
  pub unbegun_next : (from : ℕ) → EndsRun run parts → run ≤ place → from ≤ place → place + 1 < end_of found (length parts) → Breaks from parts → NoneBegins from place parts → IsNext found parts
  unbegun_next from ends past le below breaks first =
      let before = none_below (omega (arith, below)) in
      let e : from + (place - from) ≡ place = omega (arith, le) in
      let nothing = rw e at (begun-none from (place - from) parts (none_ends-fewer from place parts le before) breaks (rw e first)) in
      let none : NoneEnds (place + 1) parts = none_ends-upto place parts before nothing in
      stays_next (place + 1) (omega arith) below none (later-unbegun ends past nothing)

-- a walk may start where nothing goes on
pub starts-at : (run place from : ℕ) (parts : List (Part Head)) → All IsUsed (take run parts) → run ≤ length parts → EndsRun run parts → NoneEnds place parts → from ≤ place → Breaks from parts
    → StartsAt from (leb from run) parts
starts-at run place from parts used within ends none le breaks =
    let before = none_ends-fewer from place parts le none in
    record {
      before = before;
      still = elim (cases_lt run from) [
        | inl past ↦
            let e : (from - 1) + 1 ≡ from = omega (arith, past) in
            lt-leb from run past ∙ sym (rw e at (gapless-after run (from - 1) parts ends (omega (arith, past))))
        | inr in_run ↦ le-leb from run in_run ∙ sym (gapless-in run from parts used within in_run)
      ];
      fresh = fresh-at from parts (leb from run) before breaks;
    }

-- or at the first part
pub starts-first : (run : ℕ) (parts : List (Part Head)) → StartsAt 0 (leb 0 run) parts
unfolding gapless_at begun_at
starts-first run parts = record { before = λ at part lt. absurd (omega (arith, lt)); still = le-leb 0 run (omega arith); fresh = refl }
