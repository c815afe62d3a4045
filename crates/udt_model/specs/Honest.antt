-- When records are honest: each arrival was emitted, and lies near where it is read.
use Rattle.std.specs.Prelude.{◌≡◌, ℕ, ◌+◌, ◌^◌, ◌<◌, List, [], ◌∷◌, Ok}
use Rattle.std.specs.List.{Contains}
use Rattle.udt_model.specs.declared.addresses.Addr.{Addr}
use Rattle.udt_model.specs.Wire.{Packet, Ack, Nak, read}
use Rattle.udt_model.specs.Rate.{Ways}
use Rattle.udt_model.specs.SendHalf.{acked_of}
use Rattle.udt_model.specs.State.{State, Emission}
use Rattle.udt_model.specs.Step.{step}
use Rattle.udt_model.specs.Events.{Act, Arrive}
use Rattle.udt_model.specs.History.{Item}
use Rattle.udt_model.specs.Emissions.{emitted}
use Rattle.udt_model.specs.Records.{Enrolled, EndpointRecord, StandsAt}

-- ---- honest

-- two offsets differ by less than 2^30
abbrev pub IsClose : ℕ → ℕ → Type 0
IsClose offset other = (offset < other + 2 ^ 30) × (other < offset + 2 ^ 30)

module _ {C : Type 0} where
  -- the offset by which a packet's numbers are read: those of ACKs and NAKs by the first that isn't acknowledged, those of
  -- data packets and message drop requests by the highest that arrived plus one. Others have no numbers
  abbrev pub read_by : State C → Packet → ℕ
  read_by s (Ack number stamp dest body) = acked_of s.sending
  read_by s (Nak stamp dest ranges) = acked_of s.sending
  read_by s other = s.receiving.top

module _ {C : Type 0} (w : Ways C) where
  -- these bytes from this address were emitted there, to the other address, and all that they name lies near where a
  -- socket in this state reads them
  pub record WasEmitted (net : List (EndpointRecord C)) (s : State C) (from to : Addr) (bytes : List ℕ) : Type 0 where
    pub socket : Enrolled C
    pub emission : Emission
    pub stands : StandsAt net from socket
    pub emits : Contains (emitted w socket.history) emission
    pub datagram : emission.datagram ≡ record { addr = to; bytes = bytes }
    pub close : (packet : Packet) (offset : ℕ) → read bytes ≡ Ok packet → Contains emission.offsets offset
        → IsClose offset (read_by s packet)

  -- an arrival at a socket of this address in this state was so emitted. Calls are free
  abbrev pub IsHonestAct : List (EndpointRecord C) → Addr → State C → Act → Type 0
  IsHonestAct net addr s (Arrive from bytes) = WasEmitted net s from addr bytes
  IsHonestAct net addr s act = Unit {0}

  -- and so was each arrival of these items. No order in time is asked
  unfoldable pub AreHonest : List (EndpointRecord C) → Addr → State C → List Item → Type 0
  AreHonest net addr s [] = Unit {0}
  AreHonest net addr s (item ∷ items) =
      IsHonestAct net addr s item.event.act × AreHonest net addr (step w s item.event).after items

  -- nothing that arrived was forged, and nothing outlived the passing of 2^30 packets
  abbrev pub IsHonest : List (EndpointRecord C) → Type 0
  IsHonest net =
      (addr : Addr) (socket : Enrolled C) → StandsAt net addr socket
      → AreHonest net addr socket.history.opening socket.history.items
