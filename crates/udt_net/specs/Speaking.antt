-- What an end heard and said, and that what was heard was said.
use Rattle.std.specs.Prelude.{◌≡◌, ℕ, ◌⊎◌, List, [], ◌∷◌, ◌++◌}
use Rattle.udt_model.specs.State.{Datagram}
use Rattle.udt_turn.specs.History.{MayFollow, keep_if}
use Rattle.udt_net.specs.declared.side.Side.{Side}
use Rattle.udt_net.specs.Networks.{Spoken, Said, Heard, IsSilent, Network, address_of, same_side, datagram_from, tale_of_nets}

-- the datagram was said to that end's address
abbrev pub WasSaid : List (ℕ × Spoken) → Side → Datagram → Type 0
WasSaid [] at datagram = ⊥
WasSaid ((by, Said from to bytes) ∷ items) at datagram =
    ((to ≡ address_of at) × (datagram ≡ datagram_from from bytes)) ⊎ WasSaid items at datagram
WasSaid ((by, Heard other heard) ∷ items) at datagram = WasSaid items at datagram

-- each datagram that was heard at an address was said to that address earlier
pub record HeardWasSaid (items : List (ℕ × Spoken)) : Type 0 where
  pub earlier : (before later : List (ℕ × Spoken)) (by : ℕ) (at : Side) (datagram : Datagram)
      → items ≡ before ++ (by, Heard at datagram) ∷ later → WasSaid before at datagram

-- that is so in each history of a network that was silent at first
abbrev pub HearsWhatWasSaid : Type 0
HearsWhatWasSaid =
    (net : Network) (items : List (ℕ × Spoken)) → IsSilent net → MayFollow tale_of_nets net items → HeardWasSaid items

-- the datagrams that were heard at an end, each with its sender
abbrev pub heard_at : Side → List (ℕ × Spoken) → List Datagram
heard_at at [] = []
heard_at at ((by, Said from to bytes) ∷ items) = heard_at at items
heard_at at ((by, Heard other datagram) ∷ items) = keep_if (same_side other at) datagram (heard_at at items)

-- the datagrams that an end said, each with its receiver
abbrev pub said_from : Side → List (ℕ × Spoken) → List Datagram
said_from from [] = []
said_from from ((by, Said other to bytes) ∷ items) =
    keep_if (same_side other from) (record { addr = to; bytes = bytes }) (said_from from items)
said_from from ((by, Heard at datagram) ∷ items) = said_from from items
