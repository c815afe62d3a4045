-- What a walk over the parts has come to at a place, by the parts before it.
use Rattle.std.proofs.Common.{◌≡◌, ℕ, zero, suc, ◌+◌, ◌<◌, ◌≤◌, Bool, true, false, not, ◌&&◌, ◌||◌, List, [], ◌∷◌, length, take, drop, Some, None, Option, refl, ap, ◌∙◌, sym, arith, inl, inr}
use Rattle.std.specs.Prelude.{slice_get, All, ◌==◌}
use Rattle.std.proofs.lemmas.Bool.{or_parts, cases_Bool, cases_lt, and_parts, false≢true, eqb-true}
use Rattle.std.proofs.lemmas.Option.{cond_some, same_Some}
use Rattle.udt_rcv_buffer.specs.declared.head.Head.{Head}
use Rattle.udt_rcv_buffer.specs.declared.messages.Begun.{Begun}
use Rattle.udt_ring.specs.Parts.{Part}
use Rattle.udt_rcv_buffer.specs.PlacedParts.{IsUsed, IsUnused}
use Rattle.udt_rcv_buffer.specs.Marked.{EndsRun}
use Rattle.udt_rcv_buffer.specs.Messages.{begins, begun_then}
use Rattle.udt_rcv_buffer.specs.Walked.{is_used, gapless_at, begun_by, begun_at, NoneEnds, goes_over, Breaks, NoneBegins}
use Rattle.udt_rcv_buffer.proofs.MarkLemmas.{used_at, unused_at}

-- ---- one part more

pub gapless-next : (place : ℕ) (parts : List (Part Head)) → gapless_at (place + 1) parts ≡ (gapless_at place parts && is_used (slice_get parts place))
unfolding gapless_at
gapless-next place parts = let e : place + 1 ≡ suc place = omega arith in rw e refl

pub begun-next : (place : ℕ) (parts : List (Part Head)) → begun_at (place + 1) parts ≡ begun_by (begun_at place parts) place (gapless_at place parts) (slice_get parts place)
unfolding begun_at
begun-next place parts = let e : place + 1 ≡ suc place = omega arith in rw e refl

-- ---- equal parts

abbrev pub SameBelow : ℕ → List (Part Head) → List (Part Head) → Type 0
SameBelow n xs ys = (k : ℕ) → k < n → slice_get xs k ≡ slice_get ys k

gapless-same : (n : ℕ) (xs ys : List (Part Head)) → SameBelow n xs ys → gapless_at n xs ≡ gapless_at n ys
unfolding gapless_at
gapless-same zero xs ys same = refl
gapless-same (suc n) xs ys same = rw (gapless-same n xs ys (λ k lt. same k (omega (arith, lt))), same n (omega arith)) refl

pub begun-same : (n : ℕ) (xs ys : List (Part Head)) → SameBelow n xs ys → begun_at n xs ≡ begun_at n ys
unfolding begun_at
begun-same zero xs ys same = refl
begun-same (suc n) xs ys same =
    let below : SameBelow n xs ys = λ k lt. same k (omega (arith, lt)) in
    rw (begun-same n xs ys below, gapless-same n xs ys below, same n (omega arith)) refl

pub none_ends-same : (n : ℕ) (xs ys : List (Part Head)) → SameBelow n xs ys → NoneEnds n xs → NoneEnds n ys
none_ends-same n xs ys same none place part lt there last =
    sym (begun-same (place + 1) xs ys (λ k below. same k (omega (arith, lt, below)))) ∙ none place part lt (same place lt ∙ there) last

-- ---- what is begun

-- it is of the last part's number, and that part is there
pub record GoesTo (head : Head) (b : Begun) : Type 0 where
  pub used : head.used ≡ true
  pub unconsumed : head.consumed ≡ false
  pub number : b.number ≡ head.flags.message

pub not_true : (b : Bool) → not b ≡ true → b ≡ false
not_true true is = absurd (false≢true is)
not_true false is = refl

begins-goes : (head : Head) (place len : ℕ) (gapless : Bool) (b : Begun) → begins head place len gapless ≡ Some b → GoesTo head b
begins-goes head place len gapless b is =
    let picked = cond_some (head.used && not head.consumed && head.flags.first && (not head.flags.order || gapless)) (record { first = place; number = head.flags.message; len = len }) b is in
    let one = and_parts (head.used && not head.consumed && head.flags.first) (not head.flags.order || gapless) picked.0 in
    let two = and_parts (head.used && not head.consumed) head.flags.first one.0 in
    let three = and_parts head.used (not head.consumed) two.0 in
    record { used = three.0; unconsumed = not_true head.consumed three.1; number = sym (ap (λ (x : Begun). x.number) picked.1) }

then-goes : (begun : Option Begun) (head : Head) (place len : ℕ) (gapless : Bool) (b : Begun) → begun_then begun head place len gapless ≡ Some b → GoesTo head b
then-goes None head place len gapless b is = begins-goes head place len gapless b is
then-goes (Some a) head place len gapless b is = elim (cases_Bool (head.used && not head.consumed && head.flags.message == a.number)) [
  | inl goes ↦
      let same : ◌≡◌ {A = Option Begun} (Some (record { first = a.first; number = a.number; len = a.len + len })) (Some b) = rw goes at is in
      let same' = same_Some (record { first = a.first; number = a.number; len = a.len + len }) b same in
      let one = and_parts (head.used && not head.consumed) (head.flags.message == a.number) goes in
      let two = and_parts head.used (not head.consumed) one.0 in
      let number : a.number ≡ b.number = ap (λ (x : Begun). x.number) same' in
      record { used = two.0; unconsumed = not_true head.consumed two.1; number = sym number ∙ sym (eqb-true head.flags.message a.number one.1) }
  | inr not_goes ↦ begins-goes head place len gapless b (rw not_goes at is)
]

pub begun-goes : (place : ℕ) (parts : List (Part Head)) (part : Part Head) (b : Begun) → slice_get parts place ≡ Some part → begun_at (place + 1) parts ≡ Some b → GoesTo part.head b
begun-goes place parts part b found is =
    let step : begun_then (begun_at place parts) part.head place (length part.bytes) (gapless_at place parts && part.head.used) ≡ Some b = rw (begun-next place parts, found) at is in
    then-goes (begun_at place parts) part.head place (length part.bytes) (gapless_at place parts && part.head.used) b step

-- nothing is begun with a part that isn't used
pub begun-unused : (place : ℕ) (parts : List (Part Head)) (part : Part Head) → slice_get parts place ≡ Some part → part.head.used ≡ false → begun_at (place + 1) parts ≡ None
begun-unused place parts part found unused = by_begun (begun_at (place + 1) parts) refl
  where
    by_begun : (o : Option Begun) → begun_at (place + 1) parts ≡ o → begun_at (place + 1) parts ≡ None
    by_begun None is = is
    by_begun (Some b) is = absurd (false≢true (sym unused ∙ (begun-goes place parts part b found is).used))

-- or with one that is consumed
pub begun-consumed : (place : ℕ) (parts : List (Part Head)) (part : Part Head) → slice_get parts place ≡ Some part → part.head.consumed ≡ true → begun_at (place + 1) parts ≡ None
begun-consumed place parts part found consumed = by_begun (begun_at (place + 1) parts) refl
  where
    by_begun : (o : Option Begun) → begun_at (place + 1) parts ≡ o → begun_at (place + 1) parts ≡ None
    by_begun None is = is
    by_begun (Some b) is = absurd (false≢true (sym (begun-goes place parts part b found is).unconsumed ∙ consumed))

-- ---- where nothing goes on

-- a message that was begun doesn't go on there
other_begins : (b : Begun) (before head : Head) (place len : ℕ) (gapless : Bool) → GoesTo before b → before.flags.last ≡ false → goes_over before head ≡ false
    → begun_then (Some b) head place len gapless ≡ begins head place len gapless
other_begins b before head place len gapless goes more apart =
    let other : (head.used && not head.consumed && head.flags.message == b.number) ≡ false = rw (goes.number) (rw (goes.used, goes.unconsumed, more) at apart) in
    rw other refl

-- so a walk may start there
pub fresh-at : (place : ℕ) (parts : List (Part Head)) (gapless : Bool) → NoneEnds place parts → Breaks place parts
    → begun_by (begun_at place parts) place gapless (slice_get parts place) ≡ begun_by None place gapless (slice_get parts place)
unfolding begun_at
fresh-at zero parts gapless none breaks = refl
fresh-at (suc at) parts gapless none breaks = by_begun (begun_at (suc at) parts) (slice_get parts (suc at)) (slice_get parts at) refl refl refl
  where
    next : suc at ≡ at + 1
    next = omega arith

    by_begun : (o : Option Begun) (here before : Option (Part Head)) → begun_at (suc at) parts ≡ o → slice_get parts (suc at) ≡ here → slice_get parts at ≡ before
        → begun_by (begun_at (suc at) parts) (suc at) gapless (slice_get parts (suc at)) ≡ begun_by None (suc at) gapless (slice_get parts (suc at))
    by_begun None here before is there found = rw is refl
    by_begun (Some b) None before is there found = rw there refl
    by_begun (Some b) (Some part) None is there found =
        let nothing : begun_at (suc at) parts ≡ None = rw found refl in
        absurd cc
    by_begun (Some b) (Some part) (Some prior) is there found =
        let goes = begun-goes at parts prior b found (ap (λ (n : ℕ). begun_at n parts) (sym next) ∙ is) in
        let more : prior.head.flags.last ≡ false = elim (cases_Bool prior.head.flags.last) [
          | inl last ↦
              let nothing : begun_at (at + 1) parts ≡ None = none at prior (omega arith) found last in
              let something : begun_at (at + 1) parts ≡ Some b = ap (λ (n : ℕ). begun_at n parts) (sym next) ∙ is in
              absurd cc
          | inr not_last ↦ not_last
        ] in
        rw (is, there) (other_begins b prior.head part.head (suc at) (length part.bytes) (gapless && part.head.used) goes more (breaks at prior part next found there))

-- ---- where no message begins

pub none_begins-one : (place : ℕ) (parts : List (Part Head)) (part : Part Head) → slice_get parts place ≡ Some part → part.head.flags.first ≡ false → NoneBegins place place parts
none_begins-one place parts part found first at other from to there =
    let is : at ≡ place = omega (arith, from, to) in
    let found_too : slice_get parts place ≡ Some other = rw is at there in
    let same : part ≡ other = same_Some part other (sym found ∙ found_too) in
    rw (← same) first

pub none_begins-more : (earlier start place : ℕ) (parts : List (Part Head)) (part : Part Head) → earlier + 1 ≡ start → slice_get parts earlier ≡ Some part
    → (begins : Bool) → (begins ≡ false → NoneBegins start place parts) → (begins || part.head.flags.first) ≡ false → NoneBegins earlier place parts
none_begins-more earlier start place parts part next found begins before first at other from to there =
    let both = or_parts begins part.head.flags.first first in
    elim (cases_lt earlier at) [
      | inl after ↦ before both.0 at other (omega (arith, after, next)) to there
      | inr here ↦ none_begins-one earlier parts part found both.1 at other from (omega (arith, here)) there
    ]

begins-none : (head : Head) (place len : ℕ) (gapless : Bool) → head.flags.first ≡ false → begins head place len gapless ≡ None
begins-none head place len gapless first = by_begins (begins head place len gapless) refl
  where
    by_begins : (o : Option Begun) → begins head place len gapless ≡ o → begins head place len gapless ≡ None
    by_begins None is = is
    by_begins (Some b) is =
        let picked = cond_some (head.used && not head.consumed && head.flags.first && (not head.flags.order || gapless)) (record { first = place; number = head.flags.message; len = len }) b is in
        let one = and_parts (head.used && not head.consumed && head.flags.first) (not head.flags.order || gapless) picked.0 in
        let two = and_parts (head.used && not head.consumed) head.flags.first one.0 in
        absurd (false≢true (sym first ∙ two.1))

begun_by-none : (place : ℕ) (gapless : Bool) (o : Option (Part Head)) → ((part : Part Head) → o ≡ Some part → part.head.flags.first ≡ false) → begun_by None place gapless o ≡ None
begun_by-none place gapless None first = refl
begun_by-none place gapless (Some part) first = begins-none part.head place (length part.bytes) (gapless && part.head.used) (first part refl)

-- nothing is begun after blocks of which none is a first one
pub begun-none : (from more : ℕ) (parts : List (Part Head)) → NoneEnds from parts → Breaks from parts → NoneBegins from (from + more) parts → begun_at (from + more + 1) parts ≡ None
begun-none from zero parts none breaks first =
    let e : from + zero + 1 ≡ from + 1 = omega arith in
    rw e (begun-next from parts ∙ fresh-at from parts (gapless_at from parts) none breaks
    ∙ begun_by-none from (gapless_at from parts) (slice_get parts from) (λ part there. first from part (omega arith) (omega arith) there))
begun-none from (suc more) parts none breaks first =
    let e : from + suc more + 1 ≡ (from + more + 1) + 1 = omega arith in
    let before = begun-none from more parts none breaks (λ at part low high there. first at part low (omega (arith, high)) there) in
    rw e (begun-next (from + more + 1) parts ∙ rw before
    (begun_by-none (from + more + 1) (gapless_at (from + more + 1) parts) (slice_get parts (from + more + 1)) (λ part there. first (from + more + 1) part (omega arith) (omega arith) there)))

-- ---- whether a part is missing

pub get_within : (parts : List (Part Head)) (i : ℕ) → i < length parts → slice_get parts i ≡ None → ⊥
get_within [] i lt none = omega (arith, lt)
get_within (part ∷ parts) zero lt none = cc
get_within (part ∷ parts) (suc i) lt none = get_within parts i (omega (arith, lt)) none

pub gapless-in : (run place : ℕ) (parts : List (Part Head)) → All IsUsed (take run parts) → run ≤ length parts → place ≤ run → gapless_at place parts ≡ true
unfolding gapless_at
gapless-in run zero parts used within le = refl
gapless-in run (suc place) parts used within le = by_part (gapless-in run place parts used within (omega (arith, le))) (slice_get parts place) refl
  where
    by_part : gapless_at place parts ≡ true → (o : Option (Part Head)) → slice_get parts place ≡ o → (gapless_at place parts && is_used (slice_get parts place)) ≡ true
    by_part before None is = absurd (get_within parts place (omega (arith, le, within)) is)
    by_part before (Some part) is = rw (before, is, used_at parts run place part used (omega (arith, le)) is) refl

and_false : (b : Bool) → (b && false) ≡ false
and_false true = refl
and_false false = refl

pub gapless-past : (run more : ℕ) (parts : List (Part Head)) → EndsRun run parts → gapless_at (run + more + 1) parts ≡ false
gapless-past run zero parts ends = by_part (slice_get parts run) refl
  where
    by_part : (o : Option (Part Head)) → slice_get parts run ≡ o → gapless_at (run + zero + 1) parts ≡ false
    by_part None is = let e : run + zero + 1 ≡ run + 1 = omega arith in rw (e, gapless-next run parts, is) (and_false (gapless_at run parts))
    by_part (Some part) is = let e : run + zero + 1 ≡ run + 1 = omega arith in rw (e, gapless-next run parts, is, ends part is) (and_false (gapless_at run parts))
gapless-past run (suc more) parts ends =
    let e : run + suc more + 1 ≡ (run + more + 1) + 1 = omega arith in
    rw (e, gapless-next (run + more + 1) parts, gapless-past run more parts ends) refl

-- ---- where no message ends

-- nor with one part more
pub none_ends-more : (place : ℕ) (parts : List (Part Head)) (part : Part Head) → NoneEnds place parts → slice_get parts place ≡ Some part
    → (part.head.flags.last ≡ true → begun_at (place + 1) parts ≡ None) → NoneEnds (place + 1) parts
none_ends-more place parts part none found here at other lt there last = elim (cases_lt at place) [
  | inl below ↦ none at other below there last
  | inr from ↦
      let is : at ≡ place = omega (arith, lt, from) in
      let found_too : slice_get parts place ≡ Some other = rw is at there in
      let same : part ≡ other = same_Some part other (sym found ∙ found_too) in
      rw is (here (rw (← same) at last))
]

pub none_ends-upto : (place : ℕ) (parts : List (Part Head)) → NoneEnds place parts → begun_at (place + 1) parts ≡ None → NoneEnds (place + 1) parts
none_ends-upto place parts none nothing at part lt there last = elim (cases_lt at place) [
  | inl below ↦ none at part below there last
  | inr from ↦ let is : at ≡ place = omega (arith, lt, from) in rw is nothing
]

-- nor with parts that aren't used
pub none_ends-all : (top : ℕ) (parts : List (Part Head)) → All IsUnused (drop top parts) → NoneEnds top parts → NoneEnds (length parts) parts
none_ends-all top parts unused none at part lt there last = elim (cases_lt at top) [
  | inl below ↦ none at part below there last
  | inr from ↦ begun-unused at parts part there (unused_at parts top at part unused from there)
]

-- nor below an earlier place
pub none_ends-fewer : (n m : ℕ) (parts : List (Part Head)) → n ≤ m → NoneEnds m parts → NoneEnds n parts
none_ends-fewer n m parts le none at part lt there last = none at part (omega (arith, le, lt)) there last
