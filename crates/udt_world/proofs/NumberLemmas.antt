-- No socket has the number of one that isn't there yet as its name.
use Rattle.std.proofs.Common.{◌≡◌, ℕ, ◌+◌, ◌%◌, ◌<◌, ◌≤◌, ◌^◌, Bool, true, false, List, [], ◌∷◌, length, get_or, Some, None, refl, ap, ◌∙◌, sym, arith, inl, inr}
use Rattle.std.specs.Prelude.{decimal, slice_get}
use Rattle.std.specs.Char.{is_ascii_lowercase}
use Rattle.std.proofs.lemmas.Bool.{and_parts}
use Rattle.std.proofs.lemmas.Fmt.{decimal_by_steps, decimal_injective}
use Rattle.std.proofs.lemmas.List.{get_or_append_left, length-append, length-map}
use Rattle.std.proofs.lemmas.Option.{slice_get_within}
use Rattle.udt_model.specs.declared.limits.TheConstants.{MOST_SOCKETS}
use Rattle.udt_model.specs.Words.{is_name, is_word}
use Rattle.udt_world.specs.declared.network.Network.{Network}
use Rattle.udt_world.specs.Views.{Sight, sight_of}
use Rattle.udt_world.specs.Wiring.{IsWired, place_seen, sights_of}
use Rattle.udt_world.proofs.PlaceLemmas.{same_word}
use Rattle.udt_world.proofs.PushLemmas.{none_first}

-- a number begins with a digit, and a name with a letter
first-digit : (n : ℕ) → n < 2 ^ 64 → (0 < length (decimal n)) × (get_or (decimal n) 0 0 ≤ 57)
first-digit n small =
    decimal_by_steps (λ m ds. (0 < length ds) × (get_or ds 0 0 ≤ 57)) (λ m l. (omega arith, omega arith))
    (λ m ds l h. (
      omega (arith, length-append ds ((48 + m % 10) ∷ [])),
      omega (arith, get_or_append_left ds ((48 + m % 10) ∷ []) 0 0 h.0, h.1),
    )) n small

lower : (c : ℕ) → is_ascii_lowercase c ≡ true → 97 ≤ c
lower c is = grind (arith, is)

no-digit-first : (word : List ℕ) → 0 < length word → get_or word 0 0 ≤ 57 → is_name word ≡ true → ⊥
no-digit-first [] some digit is = omega (arith, some)
no-digit-first (first ∷ others) some digit is = omega (arith, digit, lower first (and_parts _ _ (and_parts _ _ is).0).0)

no-name : (n : ℕ) → n < 2 ^ 64 → is_name (decimal n) ≡ true → ⊥
no-name n small is = let first = first-digit n small in no-digit-first (decimal n) first.0 first.1 is

pub number_free : {C : Type 0} (network : Network C) → IsWired network → (count : ℕ) → count ≡ length (sights_of network)
    → place_seen (sights_of network) (decimal (count + 1)) ≡ None
number_free {C} network wired count is =
    none_first (λ (s : Sight C). is_word s.name (decimal (count + 1))) (sights_of network) (λ place s at.
    fails place s at (is_word s.name (decimal (count + 1))) refl)
  where
    few : count ≤ MOST_SOCKETS
    few = omega (arith, is, wired.few, network.sockets.ok.0, length-map network.sockets.items sight_of)

    fails : (place : ℕ) (s : Sight C) → slice_get (sights_of network) place ≡ Some s → (b : Bool)
        → is_word s.name (decimal (count + 1)) ≡ b → b ≡ false
    fails place s at false test = refl
    fails place s at true test =
        let name : s.name ≡ decimal (count + 1) = same_word s.name (decimal (count + 1)) test in
        let within = slice_get_within (sights_of network) place s at in
        elim (wired.given place s at) [
          | inl number ↦
              let same : place + 1 ≡ count + 1 =
              decimal_injective (place + 1) (count + 1) (omega (arith, within, is, few)) (omega (arith, few)) (sym number ∙ name) in
              absurd (omega (arith, same, within, is))
          | inr named ↦ absurd (no-name (count + 1) (omega (arith, few)) (ap (λ (n : List ℕ). is_name n) (sym name) ∙ named))
        ]
