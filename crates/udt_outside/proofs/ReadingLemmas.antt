-- How texts of addresses are read.
use Rattle.std.proofs.Common.{◌≡◌, ℕ, ◌<◌, Bool, true, false, ◌==◌, List, [], ◌∷◌, ◌++◌, length, get_or, drop, map, Option, Some, None, All, decimal, refl, sym, ap, ap₂, ◌∙◌, subst, arith, append_assoc, lit<, ne_eqb, eqb-true}
use Rattle.std.specs.List.{join_with_byte}
use Rattle.std.proofs.lemmas.Option.{same_Some}
use Rattle.std.proofs.lemmas.Fmt.{decimal_is_IsNumeral}
use Rattle.std.proofs.lemmas.List.Elements.{All-from_get_or}
use Rattle.std.proofs.lemmas.List.Splits.{slice_split_none, slice_split_at, join_with_byte-slice_split}
use Rattle.std.proofs.lemmas.Str.Parse.{digit_at}
use Rattle.std.proofs.NetLemmas.Options.{and_then_some, cond_some}
use Rattle.std.specs.Net.Grammar.{IsDotted}
use Rattle.std.specs.Net.Text.{dotted_text}
use Rattle.udt_model.specs.Words.{number_within}
use Rattle.udt_model.specs.Addresses.{pieces_of, each_of, bytes_of_v4, begins_with, before, following, v6_of, port_of, with_port, addr_of}
use Rattle.udt_model.specs.declared.addresses.Ip.{Ip}
use Rattle.udt_model.specs.declared.addresses.Addr.{Addr}
use Rattle.udt_outside.proofs.NumberLemmas.{number_within-decimal, number_within_sound}

-- ---- V4

no_dot : (n : ℕ) → n < 256 → All (λ c. (c == 46) ≡ false) (decimal n)
no_dot n fits =
    All-from_get_or (λ c. (c == 46) ≡ false) (decimal n) 0 λ i h.
    let digit = digit_at (decimal n) i (decimal_is_IsNumeral n (omega arith)).0.1 h in
    ne_eqb (get_or (decimal n) i 0) 46 (omega arith)

by_first : (a b c d : ℕ) → dotted_text a b c d ≡ decimal a ++ 46 ∷ (decimal b ++ 46 ∷ (decimal c ++ 46 ∷ decimal d))
by_first a b c d = simp append_assoc

abbrev is_dot : ℕ → Bool
is_dot c = c == 46

-- what std's grammar spells is read
pub v4_complete : (text bytes : List ℕ) → IsDotted text bytes → bytes_of_v4 text ≡ Some bytes
unfolding bytes_of_v4
v4_complete text bytes h =
    let (fa, fb, fc, fd) = h.fit in
    rw (
      h.spelled,
      h.value,
      by_first h.a h.b h.c h.d,
      slice_split_at is_dot (decimal h.a) 46 _ (no_dot h.a fa) refl,
      slice_split_at is_dot (decimal h.b) 46 _ (no_dot h.b fb) refl,
      slice_split_at is_dot (decimal h.c) 46 _ (no_dot h.c fc) refl,
      slice_split_none is_dot (decimal h.d) (no_dot h.d fd),
      number_within-decimal 255 h.a (omega arith) (lit< tt),
      number_within-decimal 255 h.b (omega arith) (lit< tt),
      number_within-decimal 255 h.c (omega arith) (lit< tt),
      number_within-decimal 255 h.d (omega arith) (lit< tt),
    )

-- the pieces are the decimal spellings of the numbers
abbrev AllBytes : List ℕ → Type 0
AllBytes [] = Unit {0}
AllBytes (n ∷ ns) = (n < 256) × AllBytes ns

each_sound : (pieces : List (List ℕ)) (ns : List ℕ) → each_of (number_within 0 255) pieces ≡ Some ns → (pieces ≡ map decimal ns) × AllBytes ns
each_sound [] ns e = subst (λ xs. ([] ≡ map decimal xs) × AllBytes xs) (same_Some _ _ e) (refl, tt)
each_sound (piece ∷ pieces) ns e =
    and_then_some _ (number_within 0 255 piece) ns e λ n spelled e₁.
    and_then_some _ (each_of (number_within 0 255) pieces) ns e₁ λ more read e₂.
    let (piece_is, fits) = number_within_sound 255 n piece (lit< tt) spelled in
    let (pieces_are, all) = each_sound pieces more read in
    subst (λ xs. (piece ∷ pieces ≡ map decimal xs) × AllBytes xs) (same_Some _ _ e₂) (cc, (omega arith, all))

dotted_from_bytes : (ns : List ℕ) → length ns ≡ 4 → AllBytes ns → IsDotted (join_with_byte 46 (map decimal ns)) ns
dotted_from_bytes [] four all = absurd (omega arith)
dotted_from_bytes (a ∷ []) four all = absurd (omega arith)
dotted_from_bytes (a ∷ b ∷ []) four all = absurd (omega arith)
dotted_from_bytes (a ∷ b ∷ c ∷ []) four all = absurd (omega arith)
dotted_from_bytes (a ∷ b ∷ c ∷ d ∷ []) four all =
    record { a = a; b = b; c = c; d = d; fit = (all.0, all.1.0, all.1.1.0, all.1.1.1.0); value = refl; spelled = sym (by_first a b c d) }
dotted_from_bytes (a ∷ b ∷ c ∷ d ∷ e ∷ ns) four all = absurd (omega arith)

-- and nothing else is
pub v4_sound : (text bytes : List ℕ) → bytes_of_v4 text ≡ Some bytes → IsDotted text bytes
unfolding bytes_of_v4
v4_sound text bytes e =
    and_then_some _ (each_of (number_within 0 255) (pieces_of 46 text)) bytes e λ ns read kept.
    let (test, same) = cond_some (length ns == 4) ns bytes kept in
    let (pieces_are, all) = each_sound (pieces_of 46 text) ns read in
    let four = eqb-true (length ns) 4 test in
    let whole : join_with_byte 46 (map decimal ns) ≡ text = ap (join_with_byte 46) (sym pieces_are) ∙ join_with_byte-slice_split 46 text in
    subst (λ xs. IsDotted text xs) same (subst (λ t. IsDotted t ns) whole (dotted_from_bytes ns four all))

pub v4_none : (text : List ℕ) → ((bytes : List ℕ) → ¬ (IsDotted text bytes)) → bytes_of_v4 text ≡ None
v4_none text never = go (bytes_of_v4 text) refl
  where
    go : (o : Option (List ℕ)) → bytes_of_v4 text ≡ o → bytes_of_v4 text ≡ None
    go None e = e
    go (Some bytes) e = absurd (never bytes (v4_sound text bytes e))

-- ---- the first byte

pub begins_with_empty : (byte : ℕ) (text : List ℕ) → length text ≡ 0 → begins_with byte text ≡ false
begins_with_empty byte [] none = refl
begins_with_empty byte (c ∷ cs) none = absurd (omega arith)

pub begins_with_is : (byte : ℕ) (text : List ℕ) → 0 < length text → begins_with byte text ≡ (get_or text 0 0 == byte)
begins_with_is byte [] some = absurd (omega arith)
begins_with_is byte (c ∷ cs) some = refl

-- a text that begins with a bracket is a V6 text in brackets, and a port
pub bracketed : (text inner front back : List ℕ) (ip : Option Ip) (port : Option ℕ) (r : Option Addr) → begins_with 91 text ≡ true → inner ≡ drop 1 text → front ≡ before 93 inner → ip ≡ v6_of front → back ≡ following 93 inner → port ≡ port_of back → r ≡ with_port ip port → r ≡ addr_of text
unfolding addr_of
bracketed text inner front back ip port r bracket inner_is front_is ip_is back_is port_is r_is =
    rw bracket (r_is ∙ ap₂ with_port (ip_is ∙ ap v6_of (front_is ∙ ap (before 93) inner_is)) (port_is ∙ ap port_of (back_is ∙ ap (following 93) inner_is)))
