-- The ranges of words, one after the other.
use Rattle.std.proofs.Common.{◌≡◌, ℕ, zero, suc, ◌+◌, ◌-◌, ◌%◌, ◌^◌, ◌<◌, ◌≤◌, Bool, true, false, not, List, [], ◌∷◌, length, drop, Some, None, refl, sym, ap, subst, ◌∙◌, arith, inl, inr}
use Rattle.std.specs.Prelude.{Option, ◌&&◌, ◌==◌, nat_lt, All}
use Rattle.std.specs.Option.{is_some, IfSome}
use Rattle.std.proofs.lemmas.Bool.{cases_lt, cases_eq, both_ways, lt-ltb, le-ltb, and_from, and_left, and_right, eq-eqb, ne_eqb}
use Rattle.std.proofs.lemmas.List.{length-drop, drop-drop}
use Rattle.udt_model.specs.Wire.{WireRange, IsRange, reach, word_at, words_of, before, ranges_from, ranges_of}
use Rattle.udt_packet.specs.Ranges.{those, ranges_in, AreRanges}

abbrev pub ends : ℕ → ℕ → WireRange
ends first last = record { first = first; last = last }

-- ---- words

-- the first word, and the words after it
words-first : (bytes : List ℕ) → 4 ≤ length bytes → words_of bytes ≡ word_at 0 bytes ∷ words_of (drop 4 bytes)
unfolding words_of
words-first [] long = absurd (omega arith)
words-first (a ∷ []) long = absurd (omega arith)
words-first (a ∷ b ∷ []) long = absurd (omega arith)
words-first (a ∷ b ∷ c ∷ []) long = absurd (omega arith)
words-first (a ∷ b ∷ c ∷ d ∷ bytes) long = refl

-- no word is left of nothing
words-none : words_of [] ≡ []
unfolding words_of
words-none = refl

nothing : (bytes : List ℕ) → length bytes ≡ 0 → bytes ≡ []
nothing [] none = refl
nothing (byte ∷ bytes) none = absurd (omega arith)

-- the word at a place, and the words after it
pub words-from : (bytes : List ℕ) (place : ℕ) → place + 4 ≤ length bytes
    → words_of (drop place bytes) ≡ word_at place bytes ∷ words_of (drop (place + 4) bytes)
words-from bytes place long =
    words-first (drop place bytes) (omega (arith, length-drop place bytes)) ∙ ap (λ (rest : List ℕ). word_at place bytes ∷ words_of rest) (drop-drop 4 place bytes)

pub words-end : (bytes : List ℕ) (place : ℕ) → length bytes ≤ place → words_of (drop place bytes) ≡ []
words-end bytes place over =
    ap words_of (nothing (drop place bytes) (omega (arith, length-drop place bytes))) ∙ words-none

-- ---- ranges

module _ (word : ℕ) (words : List ℕ) where
  pub stands_alone : word < 2 ^ 31 → ranges_from None (word ∷ words) ≡ before (ends word word) (ranges_from None words)
  unfolding ranges_from
  stands_alone low = let is : nat_lt word (2 ^ 31) ≡ true = lt-ltb word (2 ^ 31) low in rw is refl

  pub begins : 2 ^ 31 ≤ word → word < 2 ^ 32 → ranges_from None (word ∷ words) ≡ ranges_from (Some (word - 2 ^ 31)) words
  unfolding ranges_from
  begins high fits =
      let is : nat_lt word (2 ^ 31) ≡ false = le-ltb word (2 ^ 31) high in
      let rest : word % 2 ^ 31 ≡ word - 2 ^ 31 = omega arith in
      rw (is, rest) refl

  pub ends_well : (first : ℕ) → word < 2 ^ 31 → reach first word < 2 ^ 30
      → ranges_from (Some first) (word ∷ words) ≡ before (ends first word) (ranges_from None words)
  unfolding ranges_from
  ends_well first low near =
      let is : (nat_lt word (2 ^ 31) && nat_lt (reach first word) (2 ^ 30)) ≡ true =
      and_from _ _ (lt-ltb word (2 ^ 31) low) (lt-ltb (reach first word) (2 ^ 30) near) in
      rw is refl

  pub ends_high : (first : ℕ) → 2 ^ 31 ≤ word → ranges_from (Some first) (word ∷ words) ≡ None
  unfolding ranges_from
  ends_high first high =
      let is : (nat_lt word (2 ^ 31) && nat_lt (reach first word) (2 ^ 30)) ≡ false = and_left _ _ (le-ltb word (2 ^ 31) high) in
      rw is refl

  pub ends_far : (first : ℕ) → 2 ^ 30 ≤ reach first word → ranges_from (Some first) (word ∷ words) ≡ None
  unfolding ranges_from
  ends_far first far =
      let is : (nat_lt word (2 ^ 31) && nat_lt (reach first word) (2 ^ 30)) ≡ false = and_right _ _ (le-ltb (reach first word) (2 ^ 30) far) in
      rw is refl

pub none_left : ranges_from None [] ≡ Some []
unfolding ranges_from
none_left = refl

pub open_left : (first : ℕ) → ranges_from (Some first) [] ≡ None
unfolding ranges_from
open_left first = refl

-- at the end there are ranges exactly where none has begun
pub closed : (begun : Option ℕ) (none : Bool) → is_some begun ≡ not none → none ≡ is_some (ranges_from begun [])
closed None true is = ap is_some (sym none_left)
closed None false is = cc
closed (Some first) true is = cc
closed (Some first) false is = ap is_some (sym (open_left first))

-- a range before them changes nothing of whether there are ranges
pub some-before : (range : WireRange) (ranges : Option (List WireRange)) → is_some (before range ranges) ≡ is_some ranges
some-before range (Some ranges) = refl
some-before range None = refl

those-before : (range : WireRange) (ranges : Option (List WireRange)) → is_some ranges ≡ true → those (before range ranges) ≡ range ∷ those ranges
those-before range (Some ranges) some = refl
those-before range None some = cc

-- ---- the first range

-- what the first range leaves
pub record LeavesRanges (bytes : List ℕ) (range : WireRange) (rest : List ℕ) : Type 0 where
  pub ranges : ranges_in bytes ≡ range ∷ ranges_in rest
  pub are : AreRanges rest

leaves : (bytes : List ℕ) (range : WireRange) (rest : List ℕ) → AreRanges bytes → length rest % 4 ≡ 0
    → ranges_from None (words_of bytes) ≡ before range (ranges_from None (words_of rest)) → LeavesRanges bytes range rest
leaves bytes range rest are whole is =
    let some : is_some (ranges_from None (words_of rest)) ≡ true = sym (some-before range _) ∙ ap is_some (sym is) ∙ are.spelled in
    record { ranges = ap those is ∙ those-before range _ some; are = record { whole = whole; spelled = some } }

-- a number alone is the first range
pub alone-first : (bytes : List ℕ) → AreRanges bytes → 4 ≤ length bytes → word_at 0 bytes < 2 ^ 31
    → LeavesRanges bytes (ends (word_at 0 bytes) (word_at 0 bytes)) (drop 4 bytes)
alone-first bytes are long low =
    leaves bytes (ends (word_at 0 bytes) (word_at 0 bytes)) (drop 4 bytes) are (omega (arith, length-drop 4 bytes, are.whole))
    (ap (ranges_from None) (words-first bytes long) ∙ stands_alone (word_at 0 bytes) (words_of (drop 4 bytes)) low)

module _ (bytes : List ℕ) (are : AreRanges bytes) (long : 4 ≤ length bytes) (high : 2 ^ 31 ≤ word_at 0 bytes) (fits : word_at 0 bytes < 2 ^ 32) where
  begun : ranges_from None (words_of bytes) ≡ ranges_from (Some (word_at 0 bytes - 2 ^ 31)) (words_of (drop 4 bytes))
  begun = ap (ranges_from None) (words-first bytes long) ∙ begins (word_at 0 bytes) (words_of (drop 4 bytes)) high fits

  -- where a range begins its end stands too
  pub has-end : 8 ≤ length bytes
  has-end =
      elim (cases_lt (length bytes) 8) [
        | inl short ↦
            let none : words_of (drop 4 bytes) ≡ [] = words-end bytes 4 (omega (arith, are.whole)) in
            let left : is_some (ranges_from (Some (word_at 0 bytes - 2 ^ 31)) []) ≡ true =
            ap (λ (words : List ℕ). is_some (ranges_from (Some (word_at 0 bytes - 2 ^ 31)) words)) (sym none) ∙ ap is_some (sym begun) ∙ are.spelled in
            let no : is_some (ranges_from (Some (word_at 0 bytes - 2 ^ 31)) []) ≡ false = ap is_some (open_left (word_at 0 bytes - 2 ^ 31)) in
            absurd (both_ways _ no left)
        | inr enough ↦ enough
      ]

  ended : ranges_from None (words_of bytes) ≡ ranges_from (Some (word_at 0 bytes - 2 ^ 31)) (word_at 4 bytes ∷ words_of (drop 8 bytes))
  ended = begun ∙ ap (ranges_from (Some (word_at 0 bytes - 2 ^ 31))) (words-from bytes 4 (omega (arith, has-end)))

  spelled-not : ranges_from (Some (word_at 0 bytes - 2 ^ 31)) (word_at 4 bytes ∷ words_of (drop 8 bytes)) ≡ None → ⊥
  spelled-not none = both_ways (is_some (ranges_from None (words_of bytes))) (ap is_some (ended ∙ none)) are.spelled

  -- its first bit isn't set, and it lies near the start
  pub end-low : word_at 4 bytes < 2 ^ 31
  end-low =
      elim (cases_lt (word_at 4 bytes) (2 ^ 31)) [
        | inl low ↦ low
        | inr high_end ↦ absurd (spelled-not (ends_high (word_at 4 bytes) (words_of (drop 8 bytes)) (word_at 0 bytes - 2 ^ 31) high_end))
      ]

  pub end-near : reach (word_at 0 bytes - 2 ^ 31) (word_at 4 bytes) < 2 ^ 30
  end-near =
      elim (cases_lt (reach (word_at 0 bytes - 2 ^ 31) (word_at 4 bytes)) (2 ^ 30)) [
        | inl near ↦ near
        | inr far ↦ absurd (spelled-not (ends_far (word_at 4 bytes) (words_of (drop 8 bytes)) (word_at 0 bytes - 2 ^ 31) far))
      ]

  -- so they are the first range
  pub two-first : LeavesRanges bytes (ends (word_at 0 bytes - 2 ^ 31) (word_at 4 bytes)) (drop 8 bytes)
  two-first =
      leaves bytes _ (drop 8 bytes) are (omega (arith, length-drop 8 bytes, are.whole))
      (ended ∙ ends_well (word_at 4 bytes) (words_of (drop 8 bytes)) (word_at 0 bytes - 2 ^ 31) end-low end-near)

-- nothing has no ranges
pub none-in : (bytes : List ℕ) → length bytes ≡ 0 → ranges_in bytes ≡ []
none-in bytes none =
    let words : words_of bytes ≡ [] = ap words_of (nothing bytes none) ∙ words-none in
    ap those (ap (ranges_from None) words ∙ none_left)

-- ---- what the code has read

pub alone : (bytes rest : List ℕ) (word : ℕ) → AreRanges bytes → (length bytes ≡ 0 → ⊥) → word ≡ word_at 0 bytes → word < 2 ^ 31 → rest ≡ drop 4 bytes
    → LeavesRanges bytes (ends word word) rest
alone bytes rest word are some is low rest_is =
    rw (is, rest_is) (alone-first bytes are (omega (arith, are.whole)) (omega arith))

-- the end of a first range of two words, and what it leaves
pub record HasEnd (bytes : List ℕ) (word : ℕ) : Type 0 where
  pub long : 8 ≤ length bytes
  pub range : (last : ℕ) → last ≡ word_at 4 bytes → IsRange (ends (word - 2 ^ 31) last)
  pub leaves : (last : ℕ) (rest : List ℕ) → last ≡ word_at 4 bytes → rest ≡ drop 8 bytes → LeavesRanges bytes (ends (word - 2 ^ 31) last) rest

pub two : (bytes : List ℕ) (word : ℕ) → AreRanges bytes → (length bytes ≡ 0 → ⊥) → word ≡ word_at 0 bytes → 2 ^ 31 ≤ word → word < 2 ^ 32 → HasEnd bytes word
two bytes word are some is high fits =
    let long : 4 ≤ length bytes = omega (arith, are.whole) in
    let high_word : 2 ^ 31 ≤ word_at 0 bytes = omega arith in
    let word_fits : word_at 0 bytes < 2 ^ 32 = omega arith in
    record {
      long = has-end bytes are long high_word word_fits;
      range = λ last last_is. rw (is, last_is) (record {
        first = omega arith;
        last = end-low bytes are long high_word word_fits;
        near = end-near bytes are long high_word word_fits;
      });
      leaves = λ last rest last_is rest_is. rw (is, last_is, rest_is) (two-first bytes are long high_word word_fits);
    }

-- ---- all ranges

abbrev AllRanges : Option (List WireRange) → Type 0
AllRanges ranges = All IsRange (those ranges)

before-in_range : (range : WireRange) (ranges : Option (List WireRange)) → IsRange range → AllRanges ranges → AllRanges (before range ranges)
before-in_range range (Some ranges) is each zero d lt = is
before-in_range range (Some ranges) is each (suc k) d lt = each k d (omega arith)
before-in_range range None is each k d lt = absurd (omega arith)

none-in_range : (ranges : Option (List WireRange)) → ranges ≡ None → AllRanges ranges
none-in_range (Some ranges) none = cc
none-in_range None none = λ k d lt. absurd (omega arith)

nothing-in_range : AllRanges (Some [])
nothing-in_range k d lt = absurd (omega arith)

pub begins_any : (word : ℕ) (words : List ℕ) → 2 ^ 31 ≤ word → ranges_from None (word ∷ words) ≡ ranges_from (Some (word % 2 ^ 31)) words
unfolding ranges_from
begins_any word words high = let is : nat_lt word (2 ^ 31) ≡ false = le-ltb word (2 ^ 31) high in rw is refl

-- the ranges that words spell have their ends, near their starts
pub from-in_range : (begun : Option ℕ) (words : List ℕ) → IfSome begun (λ first. first < 2 ^ 31) → AllRanges (ranges_from begun words)
from-in_range None [] fits = subst AllRanges (sym none_left) nothing-in_range
from-in_range (Some first) [] fits = none-in_range _ (open_left first)
from-in_range None (word ∷ words) fits =
    elim (cases_lt word (2 ^ 31)) [
      | inl low ↦
          subst AllRanges (sym (stands_alone word words low))
          (before-in_range (ends word word) _ (record { first = low; last = low; near = omega arith }) (from-in_range None words tt))
      | inr high ↦ subst AllRanges (sym (begins_any word words high)) (from-in_range (Some (word % 2 ^ 31)) words (omega arith))
    ]
from-in_range (Some first) (word ∷ words) fits =
    elim (cases_lt word (2 ^ 31)) [
      | inl low ↦
          elim (cases_lt (reach first word) (2 ^ 30)) [
            | inl near ↦
                subst AllRanges (sym (ends_well word words first low near))
                (before-in_range (ends first word) _ (record { first = fits; last = low; near = near }) (from-in_range None words tt))
            | inr far ↦ none-in_range _ (ends_far word words first far)
          ]
      | inr high ↦ none-in_range _ (ends_high word words first high)
    ]

-- ---- what is told of a field

some-those : (ranges : Option (List WireRange)) → is_some ranges ≡ true → Some (those ranges) ≡ ranges
some-those (Some ranges) some = refl
some-those None some = cc

none-false : (ranges : Option (List WireRange)) → is_some ranges ≡ false → ranges ≡ None
none-false (Some ranges) none = cc
none-false None none = refl

-- a field of whole words spells what its words do
pub field-ranges : (field : List ℕ) → (length field ≡ 0 → ⊥) → length field % 4 ≡ 0 → ranges_of field ≡ ranges_from None (words_of field)
unfolding ranges_of
field-ranges field some whole =
    let is : (nat_lt 0 (length field) && (length field % 4 == 0)) ≡ true = and_from _ _ (lt-ltb 0 (length field) (omega arith)) (eq-eqb (length field % 4) 0 whole) in
    rw is refl

pub field-some : (field : List ℕ) → (length field ≡ 0 → ⊥) → length field % 4 ≡ 0 → is_some (ranges_from None (words_of field)) ≡ true
    → Some (ranges_in field) ≡ ranges_of field
field-some field some whole spelled = some-those _ spelled ∙ sym (field-ranges field some whole)

pub field-unspelled : (field : List ℕ) → (length field ≡ 0 → ⊥) → length field % 4 ≡ 0 → is_some (ranges_from None (words_of field)) ≡ false
    → None ≡ ranges_of field
field-unspelled field some whole unspelled = sym (none-false _ unspelled) ∙ sym (field-ranges field some whole)

-- nothing, and what isn't made of whole words, spells none
pub field-empty : (field : List ℕ) → length field ≡ 0 → None ≡ ranges_of field
unfolding ranges_of
field-empty field none =
    let is : (nat_lt 0 (length field) && (length field % 4 == 0)) ≡ false = and_left _ _ (le-ltb 0 (length field) (omega arith)) in
    rw is refl

pub field-broken : (field : List ℕ) → (length field % 4 ≡ 0 → ⊥) → None ≡ ranges_of field
unfolding ranges_of
field-broken field part =
    let is : (nat_lt 0 (length field) && (length field % 4 == 0)) ≡ false = and_right _ _ (ne_eqb (length field % 4) 0 part) in
    rw is refl

-- words that aren't nothing and spell ranges spell at least one
abbrev HasSome : Option (List WireRange) → Type 0
HasSome ranges = is_some ranges ≡ true → 0 < length (those ranges)

before-some : (range : WireRange) (ranges : Option (List WireRange)) → HasSome (before range ranges)
before-some range (Some ranges) some = omega arith
before-some range None some = cc

none-some : (ranges : Option (List WireRange)) → ranges ≡ None → HasSome ranges
none-some (Some ranges) none some = cc
none-some None none some = cc

open-some : (first : ℕ) (words : List ℕ) → HasSome (ranges_from (Some first) words)
open-some first [] = none-some _ (open_left first)
open-some first (word ∷ words) =
    elim (cases_lt word (2 ^ 31)) [
      | inl low ↦
          elim (cases_lt (reach first word) (2 ^ 30)) [
            | inl near ↦ subst HasSome (sym (ends_well word words first low near)) (before-some (ends first word) _)
            | inr far ↦ none-some _ (ends_far word words first far)
          ]
      | inr high ↦ none-some _ (ends_high word words first high)
    ]

words-some : (word : ℕ) (words : List ℕ) → HasSome (ranges_from None (word ∷ words))
words-some word words =
    elim (cases_lt word (2 ^ 31)) [
      | inl low ↦ subst HasSome (sym (stands_alone word words low)) (before-some (ends word word) _)
      | inr high ↦ subst HasSome (sym (begins_any word words high)) (open-some (word % 2 ^ 31) words)
    ]

pub some-in : (field : List ℕ) → (length field ≡ 0 → ⊥) → length field % 4 ≡ 0 → is_some (ranges_from None (words_of field)) ≡ true → 0 < length (ranges_in field)
some-in field some whole spelled =
    let words : words_of field ≡ word_at 0 field ∷ words_of (drop 4 field) = words-first field (omega arith) in
    subst (λ (w : List ℕ). HasSome (ranges_from None w)) (sym words) (words-some (word_at 0 field) (words_of (drop 4 field))) spelled

-- the ranges of a field are some, and are ranges
pub field-in_range : (field : List ℕ) (ranges : List WireRange) → ranges_of field ≡ Some ranges → (0 < length ranges) × All IsRange ranges
field-in_range field ranges is =
    elim (cases_eq (length field) 0) [
      | inl none ↦ let no : None ≡ Some ranges = field-empty field none ∙ is in cc
      | inr some ↦
          elim (cases_eq (length field % 4) 0) [
            | inl whole ↦
                let from : ranges_from None (words_of field) ≡ Some ranges = sym (field-ranges field some whole) ∙ is in
                let each : AllRanges (Some ranges) = subst AllRanges from (from-in_range None (words_of field) tt) in
                let same : ranges_in field ≡ ranges = ap those from in
                (rw (← same) (some-in field some whole (ap is_some from)), each)
            | inr part ↦ let no : None ≡ Some ranges = field-broken field part ∙ is in cc
          ]
    ]
