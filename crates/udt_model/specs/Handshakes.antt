-- Handshakes: cookies, how a listener judges a request, and what a client and a meeting socket make of what arrives.
use Rattle.std.specs.Prelude.{ℕ, ◌+◌, ◌-◌, ◌/◌, ◌==◌, ℤ, pos, negsuc, min, Bool, ◌&&◌, ◌||◌, List, ◌++◌, take, replicate, Option, Some, None, nat_lt, if◌then◌else◌}
use Rattle.std.specs.Int.{w16, w32, w64, w128, to_be_bytes, from_be_bytes}
use Rattle.md5.specs.Md5.{md5}
use Rattle.udt_model.specs.declared.addresses.Addr.{Addr}
use Rattle.udt_model.specs.declared.addresses.Ip.{Ip}
use Rattle.udt_model.specs.declared.addresses.Ip.TheVariants.{V4, V6}
use Rattle.udt_model.specs.declared.answers.Peer.{Peer}
use Rattle.udt_model.specs.declared.handshakes.TheConstants.{VERSION, SIZE_OVER_PAYLOAD, COOKIE_LIFE}
use Rattle.udt_model.specs.declared.handshakes.Asked.{Asked}
use Rattle.udt_model.specs.declared.handshakes.Asked.TheVariants as asks
use Rattle.udt_model.specs.declared.handshakes.Caller.{Caller}
use Rattle.udt_model.specs.declared.handshakes.Verdict.{Verdict}
use Rattle.udt_model.specs.declared.handshakes.Verdict.TheVariants as verdict
use Rattle.udt_model.specs.declared.handshakes.ClientSaw.{ClientSaw}
use Rattle.udt_model.specs.declared.handshakes.ClientSaw.TheVariants as client
use Rattle.udt_model.specs.declared.handshakes.MeetSaw.{MeetSaw}
use Rattle.udt_model.specs.declared.handshakes.MeetSaw.TheVariants as meet
use Rattle.udt_model.specs.declared.packets.Config.{Config}
use Rattle.udt_model.specs.declared.packets.Kind.{Kind}
use Rattle.udt_model.specs.declared.packets.Kind.TheVariants.{Stream, Message}
use Rattle.udt_model.specs.declared.packets.Shake.{Shake}
use Rattle.udt_model.specs.Addresses.{same_addr}
use Rattle.udt_model.specs.SendHalf.{clamped}

-- ---- what a handshake carries

-- what a connection type asks or answers
abbrev pub asked : ℤ → Asked
asked (pos n) =
    if n == 0 then asks.Meets else (if n == 1 then asks.Requests else (if n == 1002 then asks.Refuses else asks.Other))
asked (negsuc n) = if n == 0 then asks.Answers else (if n == 1 then asks.Agrees else asks.Other)

-- the connection type that asks or answers this
abbrev pub type_of : Asked → ℤ
type_of asks.Meets = pos 0
type_of asks.Requests = pos 1
type_of asks.Refuses = pos 1002
type_of asks.Answers = negsuc 0
type_of asks.Agrees = negsuc 1
type_of asks.Other = pos 2

-- the number of a socket type
abbrev pub kind_number : Kind → ℕ
kind_number Stream = 1
kind_number Message = 2

-- the bytes of an address, four or sixteen
abbrev pub ip_bytes : Ip → List ℕ
ip_bytes (V4 bits) = to_be_bytes w32 bits
ip_bytes (V6 bits) = to_be_bytes w128 bits

-- the sixteen bytes in which a handshake names the address to which it is sent
abbrev pub address_field : Ip → List ℕ
address_field (V4 bits) = to_be_bytes w32 bits ++ replicate 12 0
address_field (V6 bits) = to_be_bytes w128 bits

-- what a socket says of itself, with this payload and cookie
abbrev pub says : Caller → ℕ → Asked → ℕ → Shake
says caller payload asks cookie = record {
  version = VERSION;
  kind = kind_number caller.config.kind;
  isn = caller.isn;
  packet = payload + SIZE_OVER_PAYLOAD;
  flow = caller.config.rcv_blocks;
  ask = type_of asks;
  id = caller.own;
  cookie = cookie;
  address = address_field caller.to.ip;
}

-- version and socket type are the same as here, and a block has at least one byte
abbrev pub suits : Config → Shake → Bool
suits config shake =
    (shake.version == VERSION) && (shake.kind == kind_number config.kind) && nat_lt SIZE_OVER_PAYLOAD shake.packet

-- the peer that a handshake from this address makes known: the lesser payload is agreed on
abbrev pub peer_in : Config → Addr → Shake → Peer
peer_in config from shake = record {
  addr = from;
  id = shake.id;
  isn = shake.isn;
  payload = min config.payload (shake.packet - SIZE_OVER_PAYLOAD);
  flow = clamped shake.flow;
}

-- ---- a listener

-- the cookie of an address in a minute: the first four bytes of a digest, or 1 in place of 0
abbrev pub nonzero : ℕ → ℕ
nonzero number = if number == 0 then 1 else number

unfoldable pub cookie_of : Addr → List ℕ → ℕ → ℕ
cookie_of from secret minute =
    nonzero (from_be_bytes w32 (take 4 (md5 (ip_bytes from.ip ++ to_be_bytes w16 from.port ++ secret ++ to_be_bytes w64 minute))))

-- a listener: its secret of 16 bytes, and what its sockets are opened with
pub record Listening : Type 0 where
  pub secret : List ℕ
  pub config : Config

abbrev pub minute_of : ℕ → ℕ
minute_of now = now / COOKIE_LIFE

-- the cookie is that of this minute or of the last one
abbrev pub has_cookie : Listening → Shake → Addr → ℕ → Bool
has_cookie l shake from minute =
    (shake.cookie == cookie_of from l.secret minute)
    || (nat_lt 0 minute && (shake.cookie == cookie_of from l.secret (minute - 1)))

-- the request sent back to the address that it came from
abbrev pub sent_back : Shake → Addr → Shake
sent_back shake from = record shake { address = address_field from.ip }

-- what a listener makes of a request: the cookie is tested first, and then version, socket type, packet size, and whether
-- there is room in the backlog
unfoldable pub judged : Listening → Shake → Addr → ℕ → Bool → Verdict
judged l shake from now room =
    if has_cookie l shake from (minute_of now)
    then (if suits l.config shake && room
    then verdict.Request
    else verdict.Reject (record (sent_back shake from) { ask = type_of asks.Refuses }))
    else verdict.Cookie (record (sent_back shake from) { cookie = cookie_of from l.secret (minute_of now) })

-- ---- a client

-- a client that waits for an answer, and the cookie that it was given, or 0
pub record Connecting : Type 0 where
  pub caller : Caller
  pub cookie : ℕ

-- its request
abbrev pub client_request : Connecting → Shake
client_request c = says c.caller c.caller.config.payload asks.Requests c.cookie

-- a cookie that isn't 0 is taken
abbrev pub takes_cookie : Shake → ClientSaw
takes_cookie shake = if shake.cookie == 0 then client.Stale else client.Cookie

abbrev pub client_sees : Connecting → Addr → Shake → Asked → ClientSaw
client_sees c from shake asks.Requests = takes_cookie shake
client_sees c from shake asks.Answers =
    if suits c.caller.config shake then client.Connected (peer_in c.caller.config from shake) else client.Stale
client_sees c from shake asks.Refuses = client.Rejected
client_sees c from shake asks.Meets = client.Stale
client_sees c from shake asks.Agrees = client.Stale
client_sees c from shake asks.Other = client.Stale

-- what a client makes of a handshake for this ID: it must come from the address that was asked, to the client's own ID
unfoldable pub client_saw : Connecting → ℕ → Shake → Addr → ClientSaw
client_saw c dest shake from =
    if same_addr from c.caller.to && (dest == c.caller.own) then client_sees c from shake (asked shake.ask) else client.Stale

-- a cookie is kept
abbrev pub client_keeps : Connecting → Shake → ClientSaw → Connecting
client_keeps c shake client.Cookie = record c { cookie = shake.cookie }
client_keeps c shake (client.Connected peer) = c
client_keeps c shake client.Rejected = c
client_keeps c shake client.Stale = c

-- ---- a rendezvous

-- a socket that meets another, and the peer that it has adopted
pub record Meeting : Type 0 where
  pub caller : Caller
  pub adopted : Option Peer

-- what it says: that it wants to meet while it has adopted nobody, and that it answers afterwards
abbrev pub meet_says : Caller → Option Peer → Shake
meet_says caller None = says caller caller.config.payload asks.Meets 0
meet_says caller (Some peer) = says caller peer.payload asks.Answers 0

abbrev pub meet_request : Meeting → Shake
meet_request m = meet_says m.caller m.adopted

-- a first handshake is adopted, and answered again as often as it comes
abbrev pub meets_first : Meeting → Addr → Shake → Option Peer → MeetSaw
meets_first m from shake None = meet.Adopted (peer_in m.caller.config from shake)
meets_first m from shake (Some peer) = if peer.id == shake.id then meet.Answered else meet.Stale

-- an answer connects with its sender where nobody was adopted, and else with the adopted peer as it was adopted
abbrev pub meets_answer : Meeting → Addr → Shake → Option Peer → MeetSaw
meets_answer m from shake None = meet.Connected (peer_in m.caller.config from shake)
meets_answer m from shake (Some peer) = if peer.id == shake.id then meet.Connected peer else meet.Stale

-- an answer to an answer comes from the adopted peer alone
abbrev pub meets_agreement : Shake → Option Peer → MeetSaw
meets_agreement shake None = meet.Stale
meets_agreement shake (Some peer) = if peer.id == shake.id then meet.Connected peer else meet.Stale

abbrev pub meet_sees : Meeting → ℕ → Addr → Shake → Asked → MeetSaw
meet_sees m dest from shake asks.Meets = meets_first m from shake m.adopted
meet_sees m dest from shake asks.Answers = if dest == m.caller.own then meets_answer m from shake m.adopted else meet.Stale
meet_sees m dest from shake asks.Agrees = if dest == m.caller.own then meets_agreement shake m.adopted else meet.Stale
meet_sees m dest from shake asks.Requests = meet.Stale
meet_sees m dest from shake asks.Refuses = meet.Stale
meet_sees m dest from shake asks.Other = meet.Stale

-- what a meeting socket makes of a handshake: it must come from the address that it meets, and suit
unfoldable pub meet_saw : Meeting → ℕ → Shake → Addr → MeetSaw
meet_saw m dest shake from =
    if same_addr from m.caller.to && suits m.caller.config shake
    then meet_sees m dest from shake (asked shake.ask)
    else meet.Stale

-- the peer is adopted for good
abbrev pub meet_keeps : Meeting → MeetSaw → Meeting
meet_keeps m (meet.Adopted peer) = record m { adopted = Some peer }
meet_keeps m (meet.Connected peer) = record m { adopted = Some peer }
meet_keeps m meet.Answered = m
meet_keeps m meet.Stale = m
