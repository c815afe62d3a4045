-- What a socket emitted, with the offsets that each datagram names, and what arrived at it.
use Rattle.std.specs.Prelude.{◌≡◌, ℕ, List, [], ◌∷◌, ◌++◌, Some, Ok, slice_get}
use Rattle.std.specs.List.{Contains, concat}
use Rattle.udt_model.specs.declared.addresses.Addr.{Addr}
use Rattle.udt_model.specs.declared.packets.Flags.{Flags}
use Rattle.udt_model.specs.Numbers.{sequence_number}
use Rattle.udt_model.specs.Rate.{Ways}
use Rattle.udt_model.specs.Wire.{Block, read}
use Rattle.udt_model.specs.State.{State, Datagram, Emission}
use Rattle.udt_model.specs.Step.{step}
use Rattle.udt_model.specs.Events.{Act, Arrive}
use Rattle.udt_model.specs.History.{Item, History}

-- the first list is where the second begins
abbrev pub IsPrefix : List ℕ → List ℕ → Type 0
IsPrefix prefix whole = (rest : List ℕ) × (whole ≡ prefix ++ rest)

-- ---- what was emitted

module _ {C : Type 0} (w : Ways C) where
  -- what these items emitted, from this state on
  unfoldable pub emitted_by : State C → List Item → List Emission
  emitted_by s [] = []
  emitted_by s (item ∷ items) = (step w s item.event).emissions ++ emitted_by (step w s item.event).after items

  -- all datagrams that a socket emitted, each with the offsets that it names. Only membership matters
  abbrev pub emitted : History C → List Emission
  emitted h = emitted_by h.opening h.items

-- what these items emitted, without the offsets
unfoldable pub sent_by : List Item → List Datagram
sent_by [] = []
sent_by (item ∷ items) = item.outs ++ sent_by items

-- ---- what arrived

-- what arrives with an event, with the address that it comes from
abbrev pub arrived_by_act : Act → List Datagram
arrived_by_act (Arrive from bytes) = record { addr = from; bytes = bytes } ∷ []
arrived_by_act act = []

-- what arrived with these items
unfoldable pub arrived_by : List Item → List Datagram
arrived_by [] = []
arrived_by (item ∷ items) = arrived_by_act item.event.act ++ arrived_by items

module _ {C : Type 0} where
  -- all datagrams that a socket emitted, in order
  abbrev pub sent : History C → List Datagram
  sent h = sent_by h.items

  -- all datagrams that arrived, each with the address that it came from
  abbrev pub arrivals : History C → List Datagram
  arrivals h = arrived_by h.items

-- one of the datagrams is a data packet from this address for this ID, with this sequence number and these bytes
pub record IsCarried (datagrams : List Datagram) (id : ℕ) (addr : Addr) (number : ℕ) (payload : List ℕ) : Type 0 where
  pub datagram : Datagram
  pub flags : Flags
  pub stamp : ℕ
  pub among : Contains datagrams datagram
  pub from : datagram.addr ≡ addr
  pub reads : read datagram.bytes ≡ Ok (Block number flags stamp id payload)

-- the bytes are a prefix of payloads that the datagrams from this address carry to this ID, the n-th under the wire
-- number of n
pub record IsMadeOf (bytes : List ℕ) (datagrams : List Datagram) (id : ℕ) (addr : Addr) (isn : ℕ) : Type 0 where
  pub payloads : List (List ℕ)
  pub carried : (n : ℕ) (payload : List ℕ) → slice_get payloads n ≡ Some payload
      → IsCarried datagrams id addr (sequence_number isn n) payload
  pub front : IsPrefix bytes (concat payloads)
