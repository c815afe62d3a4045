-- A network in memory: what waits at its two ends, and what is said and heard there.
use Rattle.std.specs.Prelude.{◌≡◌, ℕ, ◌+◌, ◌-◌, ◌%◌, ◌^◌, ◌<◌, ◌==◌, List, [], length, insert, take, drop, Bool, true, false, Option, Some, None, slice_get, nat_lt, nat_le, if◌then◌else◌}
use Rattle.udt_model.specs.declared.addresses.Addr.{Addr}
use Rattle.udt_model.specs.declared.addresses.Ip.TheVariants.{V4}
use Rattle.udt_model.specs.Addresses.{same_addr}
use Rattle.udt_model.specs.Draws.{next_state, draw}
use Rattle.udt_model.specs.State.{Datagram}
use Rattle.udt_turn.specs.Story.{Telling}
use Rattle.udt_net.specs.declared.side.Side.{Side}
use Rattle.udt_net.specs.declared.side.Side.TheVariants.{First, Second}
use Rattle.udt_outside.specs.declared.ports.Heard.{Heard as What}
use Rattle.udt_outside.specs.declared.ports.Heard.TheVariants as what
use Rattle.udt_net.specs.declared.draws.Fate.{Fate}
use Rattle.udt_net.specs.declared.draws.Fate.TheVariants.{Lost, Doubled, Overtaking, Ordinary}

-- ---- ends

-- 10.0.0.1:9000 and 10.0.0.2:9000
abbrev pub address_of : Side → Addr
address_of First = record { ip = V4 167772161; port = 9000 }
address_of Second = record { ip = V4 167772162; port = 9000 }

abbrev pub same_side : Side → Side → Bool
same_side First First = true
same_side Second Second = true
same_side First Second = false
same_side Second First = false

-- the end with this address
abbrev pub side_at : Addr → Option Side
side_at addr =
    if same_addr addr (address_of First) then Some First else if same_addr addr (address_of Second) then Some Second
    else None

-- no longer datagram reaches an end
abbrev pub most_bytes : ℕ
most_bytes = 9000

-- no more datagrams wait at an end
abbrev pub most_waiting : ℕ
most_waiting = 4096

-- the end that a datagram reaches
abbrev pub receiver_of : Addr → List ℕ → Option Side
receiver_of to bytes = if nat_le (length bytes) most_bytes then side_at to else None

-- ---- what becomes of a datagram

-- one draw for each datagram that is said
abbrev pub fate_of : ℕ → Fate
fate_of drawn =
    if drawn % 64 == 0 then Lost else if drawn % 64 == 1 then Doubled else if drawn % 64 == 2 then Overtaking else Ordinary

-- at a place of the waiting ones, or lost where there is no room
abbrev pub put_at : ℕ → List Datagram → Datagram → List Datagram
put_at place waiting datagram = if nat_lt (length waiting) most_waiting then insert waiting place datagram else waiting

-- after all that wait
abbrev pub put_last : List Datagram → Datagram → List Datagram
put_last waiting datagram = put_at (length waiting) waiting datagram

-- before the last one that waits, if one does
abbrev pub put_before_last : List Datagram → Datagram → List Datagram
put_before_last waiting datagram = put_at (length waiting - 1) waiting datagram

-- lost, or after all that wait, twice or once, or before the last one that waits
abbrev pub arrived : Fate → List Datagram → Datagram → List Datagram
arrived Lost waiting datagram = waiting
arrived Doubled waiting datagram = put_last (put_last waiting datagram) datagram
arrived Overtaking waiting datagram = put_before_last waiting datagram
arrived Ordinary waiting datagram = put_last waiting datagram

-- ---- the network

-- what waits at each end, each datagram with its sender, where the draws stand, and how many datagrams were said and heard
pub record Network : Type 0 where
  pub first : List Datagram
  pub second : List Datagram
  pub draws : ℕ
  pub count : ℕ

-- a network in which nothing was said
abbrev pub silent : ℕ → Network
silent draws = record { first = []; second = []; draws = draws; count = 0 }

-- nothing was said or heard yet
pub record IsSilent (net : Network) : Type 0 where
  pub first : net.first ≡ []
  pub second : net.second ≡ []
  pub count : net.count ≡ 0

-- what waits at an end
abbrev pub waiting_at : Network → Side → List Datagram
waiting_at net First = net.first
waiting_at net Second = net.second

-- the network with other datagrams waiting at an end
abbrev pub with_waiting : Network → Side → List Datagram → Network
with_waiting net First waiting = record net { first = waiting }
with_waiting net Second waiting = record net { second = waiting }

-- a datagram came to the end that it reaches, if it reaches one
abbrev pub delivered : Network → Option Side → Fate → Datagram → Network
delivered net None fate datagram = net
delivered net (Some at) fate datagram = with_waiting net at (arrived fate (waiting_at net at) datagram)

-- ---- what is said and heard

pub data Spoken : Type 0 where
  -- an end said these bytes to an address
  Said : (from : Side) → (to : Addr) → (bytes : List ℕ) → Spoken
  -- an end heard a datagram
  Heard : (at : Side) → (datagram : Datagram) → Spoken

-- a datagram with its sender
abbrev pub datagram_from : Side → List ℕ → Datagram
datagram_from from bytes = record { addr = address_of from; bytes = bytes }

-- the network after it
abbrev pub after : Network → Spoken → Network
after net (Said from to bytes) =
    delivered (record net { draws = next_state net.draws; count = net.count + 1 })
    (receiver_of to bytes) (fate_of (draw net.draws)) (datagram_from from bytes)
after net (Heard at datagram) = with_waiting (record net { count = net.count + 1 }) at (drop 1 (waiting_at net at))

-- anything may be said, and what is heard is the first that waits
abbrev pub MayCome : Network → Spoken → Type 0
MayCome net (Said from to bytes) = Unit {0}
MayCome net (Heard at datagram) = slice_get (waiting_at net at) 0 ≡ Some datagram

abbrev pub tale_of_nets : Telling Network Spoken
tale_of_nets = record { after = after; legal = MayCome; count = λ net. net.count; bits = λ net. 0 }

-- where the count stands here, nothing more is said or heard
abbrev pub last_count : ℕ
last_count = 2 ^ 55 - 1

-- one item was said or heard
pub record Follows (item : Spoken) (before now : Network) : Type 0 where
  pub may : MayCome before item
  pub value : now ≡ after before item
  pub few : before.count < last_count

-- an end heard the first that waits, which is the prefix of the buffer; or nothing waits there, and nothing changed
abbrev pub Hears : Side → What → List ℕ → Network → Network → Type 0
Hears at (what.Datagram len from) buffer before now =
    Follows (Heard at (record { addr = from; bytes = take len buffer })) before now
Hears at what.Quiet buffer before now = (now ≡ before) × (waiting_at before at ≡ []) × (before.count < last_count)
