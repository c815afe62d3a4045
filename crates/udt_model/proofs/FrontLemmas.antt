-- Where the blocks of a receiving half begin: between the base and the greatest offset that arrived.
use Rattle.std.proofs.Common.{◌≡◌, ℕ, ◌+◌, ◌-◌, ◌<◌, ◌≤◌, true, false, List, [], ◌∷◌, length, refl, arith}
use Rattle.std.specs.Prelude.{nat_le, ◌==◌, ◌&&◌, if◌then◌else◌}
use Rattle.std.proofs.lemmas.Bool.{eqb-true, and_parts}
use Rattle.udt_model.specs.ReceiveBlocks.{PlacedBlock, Beginning, beginning}
use Rattle.udt_model.proofs.ReceivingLemmas.{AllPlaced}

-- each placed offset is below this one
abbrev pub AreBelow : ℕ → List PlacedBlock → Type 0
AreBelow top placed = AllPlaced (λ offset bytes. offset < top) placed

pub AreBelow-higher : (top higher : ℕ) (placed : List PlacedBlock) → top ≤ higher → AreBelow top placed → AreBelow higher placed
AreBelow-higher top higher [] up below = tt
AreBelow-higher top higher (block ∷ others) up below = (omega arith, AreBelow-higher top higher others up below.1)

-- the front after some bytes were read
pub record IsFrontWithin (low high : ℕ) (front : Beginning) : Type 0 where
  pub not_below : low ≤ front.base
  pub not_above : front.base ≤ high
  pub below : AreBelow high front.placed

pub beginning-within : (top base given : ℕ) (placed : List PlacedBlock) → base ≤ top → AreBelow top placed
    → IsFrontWithin base top (beginning base given placed)
unfolding beginning
beginning-within top base given [] low below = record { not_below = omega arith; not_above = low; below = tt }
beginning-within top base given (block ∷ others) low below =
    elim (block.offset == base && nat_le (length block.bytes) given) as (λ read. (block.offset == base && nat_le (length block.bytes) given) ≡ read
    → IsFrontWithin base top (
    if read
    then beginning (base + 1) (given - length block.bytes) others
    else record { base = base; given = given; placed = block ∷ others })) [
      | true ↦ λ test.
          let same = eqb-true block.offset base (and_parts (block.offset == base) _ test).0 in
          let after = beginning-within top (base + 1) (given - length block.bytes) others (omega (arith, below.0)) below.1 in
          record { not_below = omega (arith, after.not_below); not_above = after.not_above; below = after.below }
      | false ↦ λ test. record { not_below = omega arith; not_above = low; below = below }
    ] refl
