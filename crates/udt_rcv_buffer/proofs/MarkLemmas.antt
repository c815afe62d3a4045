-- What is kept in mind of parts, when parts change.
use Rattle.std.proofs.Common.{◌≡◌, ℕ, zero, suc, ◌+◌, ◌-◌, ◌<◌, ◌≤◌, Bool, not, true, false, cond, List, [], ◌∷◌, ◌++◌, length, take, drop, set, replicate, get_or, ltb, Some, refl, ap, ◌∙◌, sym, arith, inl, inr}
use Rattle.std.specs.Prelude.{All, slice_get}
use Rattle.std.proofs.lemmas.Bool.{cases_lt, lt-ltb, le-ltb, false≢true}
use Rattle.std.proofs.lemmas.List.{length-set, length-append, length-drop, take-set-le, take-take, take-append-drop, take-append-le, drop-set-lt, drop-drop, drop-append-le, drop-take}
use Rattle.std.proofs.lemmas.List.Elements.{All-get_or, All-more, All-set, All-drop, All-append, All-replicate}
use Rattle.std.proofs.lemmas.Option.{slice_get_within, get_or_from_slice_get}
use Rattle.udt_rcv_buffer.specs.declared.marks.Marks.{Marks}
use Rattle.udt_rcv_buffer.specs.declared.head.Head.{Head}
use Rattle.udt_ring.specs.Parts.{Part, joined}
use Rattle.udt_rcv_buffer.specs.PlacedParts.{consumed_part, IsUsed, IsUnused, IsSettled}
use Rattle.udt_rcv_buffer.specs.Marked.{IsMarked, EndsRun}
use Rattle.udt_ring.proofs.JoinedLemmas.{joined-append, joined_more, joined-set}
use Rattle.udt_ring.proofs.TurnLemmas.{slice_get-drop, slice_get-take, slice_get-append_left, length-passed}

-- a part of the run is used
pub used_at : (parts : List (Part Head)) (run i : ℕ) (part : Part Head) → All IsUsed (take run parts) → i < run → slice_get parts i ≡ Some part → part.head.used ≡ true
used_at parts run i part used lt found =
    let there : slice_get (take run parts) i ≡ Some part = slice_get-take run i parts lt ∙ found in
    let within = slice_get_within (take run parts) i part there in
    rw (get_or_from_slice_get (take run parts) i part part there) at (All-get_or IsUsed (take run parts) i part within used)

-- a part from the top on isn't
pub unused_at : (parts : List (Part Head)) (top i : ℕ) (part : Part Head) → All IsUnused (drop top parts) → top ≤ i → slice_get parts i ≡ Some part → part.head.used ≡ false
unused_at parts top i part unused le found =
    let place : top + (i - top) ≡ i = omega (arith, le) in
    let there : slice_get (drop top parts) (i - top) ≡ Some part = slice_get-drop top (i - top) parts ∙ ap (slice_get parts) place ∙ found in
    let within = slice_get_within (drop top parts) (i - top) part there in
    rw (get_or_from_slice_get (drop top parts) (i - top) part part there) at (All-get_or IsUnused (drop top parts) (i - top) part within unused)

-- so a part that is used stands below the top
pub below_top : (marks : Marks) (parts : List (Part Head)) (i : ℕ) (part : Part Head) → IsMarked marks parts → slice_get parts i ≡ Some part → part.head.used ≡ true → i < marks.top
below_top marks parts i part m found used = elim (cases_lt i marks.top) [
  | inl lt ↦ lt
  | inr past ↦ absurd (false≢true (sym (unused_at parts marks.top i part m.unused past found) ∙ used))
]

-- the top may be higher
pub higher : (marks new : Marks) (parts : List (Part Head)) → IsMarked marks parts → new.run ≡ marks.run → new.bytes ≡ marks.bytes → marks.top ≤ new.top → new.top ≤ length parts → IsMarked new parts
higher marks new parts m run bytes le within =
    let more : marks.top + (new.top - marks.top) ≡ new.top = omega (arith, le) in
    record {
      within = omega (arith, run, le, m.within);
      used = rw run m.used;
      bytes = rw (run, bytes) m.bytes;
      top = within;
      unused = rw (drop-drop (new.top - marks.top) marks.top parts, more) at (All-drop IsUnused (new.top - marks.top) (drop marks.top parts) m.unused);
    }

-- ---- the run

take-set-lt : (n i : ℕ) (xs : List (Part Head)) (x : Part Head) → i < n → take n (set xs i x) ≡ set (take n xs) i x
take-set-lt zero i xs x lt = absurd (omega (arith, lt))
take-set-lt (suc n) i [] x lt = refl
take-set-lt (suc n) zero (y ∷ xs) x lt = refl
take-set-lt (suc n) (suc i) (y ∷ xs) x lt = rw (take-set-lt n i xs x (omega (arith, lt))) refl

-- ---- the run grows

pub grown : (marks new : Marks) (parts : List (Part Head)) (part : Part Head) → IsMarked marks parts → slice_get parts marks.run ≡ Some part → part.head.used ≡ true
    → new.run ≡ marks.run + 1 → new.bytes ≡ marks.bytes + length part.bytes → new.top ≡ marks.top → IsMarked new parts
grown marks new parts part m found used run bytes top =
    let within = slice_get_within parts marks.run part found in
    let here : IsUsed (get_or parts marks.run part) = rw (get_or_from_slice_get parts marks.run part part found) used in
    let all : All IsUsed (take (marks.run + 1) parts) = All-more IsUsed parts marks.run part within m.used here in
    let len : length (joined (take (marks.run + 1) parts)) ≡ length (joined (take marks.run parts)) + length part.bytes =
    rw (joined_more parts marks.run part found) (length-append (joined (take marks.run parts)) part.bytes) in
    record {
      within = omega (arith, run, top, below_top marks parts marks.run part m found used);
      used = rw run all;
      bytes = rw (run, bytes) (omega (arith, len, m.bytes));
      top = omega (arith, top, m.top);
      unused = rw top m.unused;
    }

-- ---- a part is consumed

-- the bytes of a part in the run are among those of the run
pub bytes_within : (marks : Marks) (parts : List (Part Head)) (i : ℕ) (part : Part Head) → IsMarked marks parts → i < marks.run → slice_get parts i ≡ Some part → length part.bytes ≤ marks.bytes
bytes_within marks parts i part m lt found =
    let there : slice_get (take marks.run parts) i ≡ Some part = slice_get-take marks.run i parts lt ∙ found in
    omega (arith, joined-set (take marks.run parts) i part consumed_part there, m.bytes)

pub consumed : (marks new : Marks) (parts : List (Part Head)) (i : ℕ) (part : Part Head) → IsMarked marks parts → slice_get parts i ≡ Some part → i < marks.top
    → new.run ≡ marks.run → new.bytes ≡ cond (ltb i marks.run) (marks.bytes - length part.bytes) marks.bytes → new.top ≡ marks.top → IsMarked new (set parts i consumed_part)
consumed marks new parts i part m found below run bytes top =
    let len = length-set parts i consumed_part in
    let front = elim (cases_lt i marks.run) as (λ _. All IsUsed (take marks.run (set parts i consumed_part)) × (new.bytes ≡ length (joined (take marks.run (set parts i consumed_part))))) [
      | inl lt ↦
          let there : slice_get (take marks.run parts) i ≡ Some part = slice_get-take marks.run i parts lt ∙ found in
          let less = joined-set (take marks.run parts) i part consumed_part there in
          let changed = take-set-lt marks.run i parts consumed_part lt in
          let is : new.bytes ≡ marks.bytes - length part.bytes = rw (lt-ltb i marks.run lt) at bytes in
          (rw changed (All-set IsUsed (take marks.run parts) i consumed_part refl m.used), rw changed (omega (arith, is, less, m.bytes)))
      | inr after ↦
          let same = take-set-le marks.run parts i consumed_part after in
          let is : new.bytes ≡ marks.bytes = rw (le-ltb i marks.run after) at bytes in
          (rw same m.used, rw same (is ∙ m.bytes))
    ] in
    record {
      within = omega (arith, run, top, m.within);
      used = rw run front.0;
      bytes = rw run front.1;
      top = omega (arith, top, len, m.top);
      unused = rw (top, drop-set-lt marks.top parts i consumed_part below) m.unused;
    }

-- ---- the first parts are freed

pub freed : (marks new : Marks) (count : ℕ) (empty : Part Head) (parts : List (Part Head)) → IsMarked marks parts → count ≤ marks.run → empty.head.used ≡ false
    → new.run ≡ marks.run - count → length (joined (take count parts)) + new.bytes ≡ marks.bytes → new.top ≡ marks.top - count
    → IsMarked new (drop count parts ++ replicate count empty)
freed marks new count empty parts m few unused run bytes top =
    let run_back : count + new.run ≡ marks.run = omega (arith, run, few) in
    let top_back : count + new.top ≡ marks.top = omega (arith, top, few, m.within) in
    let rest_len = length-drop count parts in
    let used : take new.run (drop count parts ++ replicate count empty) ≡ drop count (take marks.run parts) =
    take-append-le new.run (drop count parts) (replicate count empty) (omega (arith, rest_len, run_back, m.within, m.top)) ∙ (sym (drop-take count new.run parts) ∙ ap (λ (n : ℕ). drop count (take n parts)) run_back) in
    let back : drop new.top (drop count parts ++ replicate count empty) ≡ drop marks.top parts ++ replicate count empty =
    drop-append-le new.top (drop count parts) (replicate count empty) (omega (arith, rest_len, top_back, m.top)) ∙ ap (λ (ps : List (Part Head)). ps ++ replicate count empty) (drop-drop new.top count parts ∙ ap (λ (n : ℕ). drop n parts) top_back) in
    let split = ap (λ (ps : List (Part Head)). length (joined ps)) (take-append-drop count (take marks.run parts)) in
    let both = ap (λ (bs : List ℕ). length bs) (joined-append (take count (take marks.run parts)) (drop count (take marks.run parts))) in
    let front = ap (λ (ps : List (Part Head)). length (joined ps)) (take-take count marks.run parts few) in
    let sum = length-append (joined (take count (take marks.run parts))) (joined (drop count (take marks.run parts))) in
    record {
      within = omega (arith, run, top, m.within);
      used = rw used (All-drop IsUsed count (take marks.run parts) m.used);
      bytes = rw used (omega (arith, bytes, m.bytes, split, both, front, sum));
      top = omega (arith, top, m.top, length-passed count parts empty (omega (arith, few, m.within, m.top)));
      unused = rw back (All-append IsUnused (drop marks.top parts) (replicate count empty) m.unused (All-replicate IsUnused count empty unused));
    }

-- what ends the run still ends it
pub freed_ends : (run count : ℕ) (empty : Part Head) (parts : List (Part Head)) → EndsRun run parts → count ≤ run → empty.head.used ≡ false
    → EndsRun (run - count) (drop count parts ++ replicate count empty)
freed_ends run count empty parts ends few unused other found =
    let back : count + (run - count) ≡ run = omega (arith, few) in
    at_end (drop count parts) (run - count) count other (λ p there. ends p (ap (slice_get parts) (sym back) ∙ (sym (slice_get-drop count (run - count) parts) ∙ there))) found
  where
    at_end : (ps : List (Part Head)) (r n : ℕ) (o : Part Head) → ((p : Part Head) → slice_get ps r ≡ Some p → IsUnused p) → slice_get (ps ++ replicate n empty) r ≡ Some o → IsUnused o
    at_end [] r zero o ends there = absurd cc
    at_end [] zero (suc n) o ends there = let same : empty ≡ o = cc in rw (← same) unused
    at_end [] (suc r) (suc n) o ends there = at_end [] r n o (λ p none. absurd cc) there
    at_end (p ∷ ps) zero n o ends there = ends o there
    at_end (p ∷ ps) (suc r) n o ends there = at_end ps r n o ends there

-- the first part then is the one after those that were freed
pub freed_first : (count : ℕ) (empty : Part Head) (parts : List (Part Head)) → count < length parts → slice_get (drop count parts ++ replicate count empty) 0 ≡ slice_get parts count
freed_first count empty parts more =
    let place : count + 0 ≡ count = omega arith in
    slice_get-append_left (drop count parts) (replicate count empty) 0 (omega (arith, more, length-drop count parts)) ∙ (slice_get-drop count 0 parts ∙ ap (slice_get parts) place)

-- ---- what was given

-- no more was given than the run has
pub given_within : (marks : Marks) (parts : List (Part Head)) → IsMarked marks parts → EndsRun marks.run parts → IsSettled marks.given parts → marks.given ≤ marks.bytes
given_within marks [] m ends settled = omega (arith, settled)
given_within marks (part ∷ parts) m ends settled = elim (cases_lt 0 marks.run) [
  | inl some ↦
      let used = used_at (part ∷ parts) marks.run 0 part m.used some refl in
      let left = settled.block used in
      omega (arith, left, bytes_within marks (part ∷ parts) 0 part m some refl)
  | inr none ↦
      let is : marks.run ≡ 0 = omega (arith, none) in
      let there : slice_get (part ∷ parts) marks.run ≡ Some part = rw is refl in
      omega (arith, settled.none (ends part there))
]

-- where a part of the run has bytes left, or nothing was given, all is settled
pub settled_at : (marks : Marks) (parts : List (Part Head)) → IsMarked marks parts → EndsRun marks.run parts → marks.given ≤ marks.bytes
    → (0 < marks.run → (part : Part Head) → slice_get parts 0 ≡ Some part → marks.given < length part.bytes) → IsSettled marks.given parts
settled_at marks [] m ends le left =
    let none : marks.run ≡ 0 = omega (arith, m.within, m.top) in
    let bytes : marks.bytes ≡ length (joined {H = Head} (take 0 [])) = rw none at m.bytes in
    omega (arith, le, bytes)
settled_at marks (part ∷ parts) m ends le left = elim (cases_lt 0 marks.run) [
  | inl some ↦
      let used = used_at (part ∷ parts) marks.run 0 part m.used some refl in
      record { block = λ _. left some part refl; none = λ unused. absurd (false≢true (sym unused ∙ used)) }
  | inr no_run ↦
      let is : marks.run ≡ 0 = omega (arith, no_run) in
      let there : slice_get (part ∷ parts) marks.run ≡ Some part = rw is refl in
      let bytes : marks.bytes ≡ length (joined (take 0 (part ∷ parts))) = rw is at m.bytes in
      record { block = λ used. absurd (false≢true (sym (ends part there) ∙ used)); none = λ _. omega (arith, le, bytes) }
]

pub is_true : (b : Bool) → not b ≡ false → b ≡ true
is_true true h = refl
is_true false h = absurd (false≢true (sym h))
