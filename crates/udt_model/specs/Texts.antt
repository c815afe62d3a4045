-- What a script prints for each call, arrival and datagram.
use Rattle.std.specs.Prelude.{ℕ, ◌+◌, List, [], ◌∷◌, ◌++◌, Result, Ok, Err, decimal, codes}
use Rattle.udt_model.specs.declared.answers.Cause.{Cause}
use Rattle.udt_model.specs.declared.answers.Heard.{Heard}
use Rattle.udt_model.specs.declared.answers.Packed.{Packed}
use Rattle.udt_model.specs.declared.answers.Perf.{Perf}
use Rattle.udt_model.specs.declared.answers.Refusal.{Refusal}
use Rattle.udt_model.specs.declared.answers.Shaken.{Shaken}
use Rattle.udt_model.specs.declared.packets.Malformed.{Malformed}
use Rattle.udt_model.specs.declared.answers.Cause.TheVariants as cause
use Rattle.udt_model.specs.declared.answers.Heard.TheVariants as heard
use Rattle.udt_model.specs.declared.answers.Packed.TheVariants as packed
use Rattle.udt_model.specs.declared.answers.Refusal.TheVariants as refusal
use Rattle.udt_model.specs.declared.answers.Shaken.TheVariants as shaken
use Rattle.udt_model.specs.declared.packets.Malformed.TheVariants as malformed
use Rattle.udt_model.specs.Addresses.{address_text}
use Rattle.udt_model.specs.Events.{Act, Offer, Reply, DidListen, DidConnect, DidMeet, Accepted, DidShake, DidOffer, DidWithdraw, Sent, Received, SentMessage, ReceivedMessage, DidPack, DidTick, DidClose, DidPortDown, DidMeasure, DidHear}
use Rattle.udt_model.specs.Words.{hex_word}
use Rattle.udt_model.specs.Lines.{Pairing, OpeningLine}
use Rattle.udt_model.specs.Network.{ScriptDatagram}

-- ---- what is printed

-- the cause of a loss
abbrev pub cause_text : Cause → List ℕ
cause_text cause.PeerShutdown = codes "shutdown"
cause_text cause.Expired = codes "expired"
cause_text cause.PortDown = codes "port"

-- the number of a refusal
abbrev pub refusal_text : Refusal → List ℕ
refusal_text (refusal.ConnLost why) = codes "2001 " ++ cause_text why
refusal_text refusal.NotConnected = codes "2002"
refusal_text refusal.OutOfMemory = codes "3002"
refusal_text refusal.Connected = codes "5002"
refusal_text refusal.BadParameter = codes "5003"
refusal_text refusal.NotListening = codes "5006"
refusal_text refusal.StreamOnly = codes "5009"
refusal_text refusal.MessageOnly = codes "5010"
refusal_text refusal.TooLarge = codes "5012"
refusal_text refusal.AgainSend = codes "6001"
refusal_text refusal.AgainRecv = codes "6002"
refusal_text refusal.Spent = codes "9001"
refusal_text refusal.EventsSpent = codes "9003"

-- a call that may be tried again, or one that is refused
abbrev pub no_text : Refusal → List ℕ
no_text refusal.AgainSend = codes "again"
no_text refusal.AgainRecv = codes "again"
no_text why = codes "refused " ++ refusal_text why

abbrev pub malformed_text : Malformed → List ℕ
malformed_text malformed.TooShort = codes "1"
malformed_text malformed.UnknownType = codes "2"
malformed_text malformed.BadHandshakeLength = codes "3"
malformed_text malformed.BadNakRange = codes "4"
malformed_text malformed.BadDropLength = codes "5"
malformed_text malformed.BadAckLength = codes "6"

abbrev pub heard_text : Heard → List ℕ
heard_text heard.Placed = codes "placed"
heard_text heard.Double = codes "double"
heard_text heard.Below = codes "below"
heard_text heard.Above = codes "above"
heard_text heard.BadLength = codes "badlength"
heard_text heard.Ack = codes "ack"
heard_text heard.Nak = codes "nak"
heard_text heard.Ack2 = codes "ack2"
heard_text heard.Dropped = codes "dropped"
heard_text heard.Alive = codes "alive"
heard_text heard.Shutdown = codes "shutdown"
heard_text heard.Cookie = codes "cookie"
heard_text heard.Request = codes "request"
heard_text heard.Reject = codes "reject"
heard_text heard.Connected = codes "connected"
heard_text heard.Answered = codes "answered"
heard_text heard.Adopted = codes "adopted"
heard_text heard.Rejected = codes "rejected"
heard_text heard.Stale = codes "stale"
heard_text heard.Foreign = codes "foreign"
heard_text (heard.Malformed why) = codes "malformed " ++ malformed_text why

abbrev pub packed_text : Packed → List ℕ
packed_text (packed.Block size) = codes "data"
packed_text (packed.DropAsk size) = codes "drop"
packed_text (packed.NotYet until) = codes "notyet " ++ decimal until
packed_text packed.Nothing = codes "nothing"

abbrev pub sent_text : Result ℕ Refusal → List ℕ
sent_text (Ok count) = decimal count
sent_text (Err why) = no_text why

abbrev pub received_text : Result (List ℕ) Refusal → List ℕ
received_text (Ok bytes) = hex_word bytes
received_text (Err why) = no_text why

-- a word and a space after it, a last word and the line feed after it
abbrev pub spaced : List ℕ → List ℕ
spaced word = word ++ 32 ∷ []

abbrev pub ended : List ℕ → List ℕ
ended word = word ++ 10 ∷ []

-- a word, and a number after it
abbrev pub counted : List ℕ → ℕ → List ℕ
counted word number = 32 ∷ spaced word ++ decimal number

-- what a socket has measured of its path
unfoldable pub path_text : Perf → List ℕ
path_text p =
    counted (codes "rtt") p.rtt ++ counted (codes "var") p.var ++ counted (codes "window") p.window
    ++ counted (codes "period") p.period

-- how many blocks it sent, and what became of those that arrived
unfoldable pub blocks_text : Perf → List ℕ
blocks_text p =
    counted (codes "sent") p.sent ++ counted (codes "resent") p.resent ++ counted (codes "placed") p.placed
    ++ counted (codes "double") p.double ++ counted (codes "below") p.below ++ counted (codes "above") p.above

-- what it counted of other packets, and what is acknowledged
unfoldable pub others_text : Perf → List ℕ
others_text p =
    counted (codes "control") p.control ++ counted (codes "stale") p.stale ++ counted (codes "foreign") p.foreign
    ++ counted (codes "malformed") p.malformed ++ counted (codes "acked") p.acked

-- all that it has measured and counted
unfoldable pub perf_text : Perf → List ℕ
perf_text p = codes "perf" ++ path_text p ++ blocks_text p ++ others_text p

-- a call that was done, or refused
abbrev pub done_text : Result (Unit {0}) Refusal → List ℕ
done_text (Ok done) = []
done_text (Err why) = 32 ∷ no_text why

-- what became of a connection
abbrev pub shaken_text : Shaken → List ℕ
shaken_text shaken.Idle = codes "idle"
shaken_text shaken.Waiting = codes "waiting"
shaken_text shaken.Done = codes "connected"
shaken_text shaken.TimedOut = codes "refused 1001"
shaken_text shaken.Rejected = codes "refused 1002"
shaken_text (shaken.Lost why) = codes "refused 2001 " ++ cause_text why

-- what an event is called, and what it answered
abbrev pub reply_text : Reply → List ℕ
reply_text (DidListen answer) = codes "listen" ++ done_text answer
reply_text (DidConnect answer) = codes "connect" ++ done_text answer
reply_text (DidMeet answer) = codes "meet" ++ done_text answer
reply_text (Accepted answer) = codes "accept " ++ sent_text answer
reply_text (DidShake answer) = codes "shake " ++ shaken_text answer
reply_text (DidOffer answer) = codes "offer"
reply_text DidWithdraw = codes "withdraw"
reply_text (Sent answer) = codes "send " ++ sent_text answer
reply_text (Received answer) = codes "recv " ++ received_text answer
reply_text (SentMessage answer) = codes "sendmsg " ++ sent_text answer
reply_text (ReceivedMessage answer) = codes "recvmsg " ++ received_text answer
reply_text (DidPack answer) = codes "pack " ++ packed_text answer
reply_text DidTick = codes "tick"
reply_text DidClose = codes "close"
reply_text DidPortDown = codes "port"
reply_text (DidMeasure answer) = perf_text answer
reply_text (DidHear answer) = codes "arrive " ++ heard_text answer

-- an offer tells of which socket
abbrev pub told : Act → Reply → List ℕ
told (Offer id) reply = codes "offer " ++ decimal id
told act reply = reply_text reply

-- a datagram and its number
unfoldable pub datagram_text : ℕ → ScriptDatagram → List ℕ
datagram_text number datagram =
    codes "datagram " ++ spaced (decimal number) ++ spaced (address_text datagram.from) ++ spaced (address_text datagram.to)
    ++ ended (hex_word datagram.bytes)

-- datagrams with their numbers, a line each
unfoldable pub datagrams_text : ℕ → List ScriptDatagram → List ℕ
datagrams_text number [] = []
datagrams_text number (datagram ∷ datagrams) = datagram_text number datagram ++ datagrams_text (number + 1) datagrams

-- a call's or an arrival's line
unfoldable pub event_text : List ℕ → Act → Reply → List ℕ
event_text name act reply = spaced name ++ ended (told act reply)

-- the line of an accept that gives a connection, with its new name and its ID
abbrev pub accept_text : List ℕ → List ℕ → ℕ → List ℕ
accept_text name accepted id = spaced name ++ codes "accept " ++ spaced accepted ++ ended (decimal id)

-- a place at the host is taken: that of the listener, or of an address that is met
abbrev pub listen_twice_text : List ℕ → List ℕ
listen_twice_text name = spaced name ++ ended (codes "listen refused 5011")

abbrev pub meet_taken_text : List ℕ → List ℕ
meet_taken_text name = spaced name ++ ended (codes "meet refused 5007")

abbrev pub host_text : List ℕ → List ℕ
host_text name = codes "host " ++ ended name

abbrev pub open_text : OpeningLine → ℕ → List ℕ
open_text o count = codes "open " ++ spaced o.name ++ ended (decimal (count + 1))

abbrev pub pair_text : Pairing → ℕ → List ℕ
pair_text p count =
    codes "pair " ++ spaced p.a ++ spaced (decimal (count + 1)) ++ spaced p.b ++ ended (decimal (count + 2))
