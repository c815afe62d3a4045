-- The forms of a script's lines.
use Rattle.std.specs.Prelude.{◌≡◌, ℕ, ◌-◌, ◌^◌, ◌==◌, ◌||◌, Bool, List, [], ◌∷◌, replicate, All, Option, Some, None, option_map, codes, if◌then◌else◌}
use Rattle.udt_model.specs.declared.limits.TheConstants.{MOST_PAYLOAD, FEWEST_BLOCKS, MOST_BLOCKS, LAST_START, LAST_MOMENT}
use Rattle.udt_model.specs.declared.addresses.Addr.{Addr}
use Rattle.udt_model.specs.declared.packets.Kind.{Kind}
use Rattle.udt_model.specs.declared.packets.Kind.TheVariants as kind
use Rattle.udt_model.specs.Addresses.{addr_of}
use Rattle.udt_model.specs.Events.{Act, Listen, Connect, Meet, Shake, Send, Recv, SendMessage, RecvMessage, Pack, Tick, Close, Measure, Arrive, Event}
use Rattle.udt_model.specs.Network.{ScriptDatagram}
use Rattle.udt_model.specs.Words.{◌>>=◌, words_of, is_word, name_of, number_within, bytes_of}

-- two sockets that are to be paired: what they carry, their names, the bytes and number of their blocks, the initial sequence
-- number and the offset at which both directions begin
pub record Pairing : Type 0 where
  pub kind : Kind
  pub a : List ℕ
  pub b : List ℕ
  pub payload : ℕ
  pub isn : ℕ
  pub blocks : ℕ
  pub start : ℕ

-- a socket that is to be opened: what it carries, its name and its host's, the bytes and number of its blocks, and its initial
-- sequence number
pub record OpeningLine : Type 0 where
  pub kind : Kind
  pub name : List ℕ
  pub host : List ℕ
  pub payload : ℕ
  pub isn : ℕ
  pub blocks : ℕ

-- bytes come from outside
abbrev pub is_arrival : Act → Bool
is_arrival (Arrive from bytes) = Bool.true
is_arrival act = Bool.false

-- a line: a pair of sockets, a host, a socket, a call of a named socket at a moment, an accept with the name for the connection,
-- the arrival of a datagram that was printed under a number, or that of any bytes, from any address to any
pub data Line : Type 0 where
  Silent : Line
  PairLine : (pairing : Pairing) → Line
  HostLine : (name : List ℕ) → (addr : Addr) → Line
  OpenLine : (opening : OpeningLine) → Line
  AcceptLine : (name : List ℕ) → (now : ℕ) → (accepted : List ℕ) → Line
  CallLine : (name : List ℕ) → (event : Event) → Line
  DeliverLine : (number : ℕ) → (now : ℕ) → Line
  RawLine : (now : ℕ) → (datagram : ScriptDatagram) → Line

-- an empty line, or a comment
abbrev pub is_silent : List ℕ → Bool
is_silent [] = Bool.true
is_silent (byte ∷ line) = byte == 35

-- a moment, in microseconds
abbrev pub moment_of : List ℕ → Option ℕ
moment_of word = number_within 0 LAST_MOMENT word

-- KIND
abbrev pub kind_of : List ℕ → Option Kind
kind_of word =
    if is_word word (codes "stream") then Some kind.Stream else (if is_word word (codes "message") then Some kind.Message else None)

abbrev pub pairing_of : List ℕ → List ℕ → List ℕ → List ℕ → List ℕ → List ℕ → ℕ → Option Line
pairing_of kind a b payload isn blocks start = do
  kind ← kind_of kind
  a ← name_of a
  b ← name_of b
  payload ← number_within 1 MOST_PAYLOAD payload
  isn ← number_within 0 (2 ^ 31 - 1) isn
  blocks ← number_within FEWEST_BLOCKS MOST_BLOCKS blocks
  Some (PairLine (record { kind = kind; a = a; b = b; payload = payload; isn = isn; blocks = blocks; start = start }))

-- pair KIND A B PAYLOAD ISN BUFFER, and a START after it where the directions don't begin at 0
unfoldable pub pair_line : List ℕ → List (List ℕ) → Option Line
pair_line kind (a ∷ b ∷ payload ∷ isn ∷ blocks ∷ []) = pairing_of kind a b payload isn blocks 0
pair_line kind (a ∷ b ∷ payload ∷ isn ∷ blocks ∷ start ∷ []) =
    number_within 0 LAST_START start >>= λ start. pairing_of kind a b payload isn blocks start
pair_line kind words = None

-- host H ADDR
unfoldable pub host_line : List ℕ → List (List ℕ) → Option Line
host_line name (addr ∷ []) = do
  name ← name_of name
  addr ← addr_of addr
  Some (HostLine name addr)
host_line name words = None

-- open KIND A H PAYLOAD ISN BUFFER
unfoldable pub open_line : List ℕ → List (List ℕ) → Option Line
open_line kind (name ∷ host ∷ payload ∷ isn ∷ blocks ∷ []) = do
  kind ← kind_of kind
  name ← name_of name
  host ← name_of host
  payload ← number_within 1 MOST_PAYLOAD payload
  isn ← number_within 0 (2 ^ 31 - 1) isn
  blocks ← number_within FEWEST_BLOCKS MOST_BLOCKS blocks
  Some (OpenLine (record { kind = kind; name = name; host = host; payload = payload; isn = isn; blocks = blocks }))
open_line kind words = None

-- a call with nothing after its moment
abbrev pub alone : Act → List (List ℕ) → Option Act
alone act [] = Some act
alone act (word ∷ words) = None

-- the secret of a script's listeners
abbrev pub no_secret : List ℕ
no_secret = replicate 16 0

-- N
abbrev pub listen_of : List (List ℕ) → Option Act
listen_of (most ∷ []) = number_within 0 (2 ^ 32 - 1) most >>= λ most. Some (Listen most no_secret)
listen_of words = None

-- ADDR
abbrev pub connect_of : List (List ℕ) → Option Act
connect_of (to ∷ []) = addr_of to >>= λ to. Some (Connect to)
connect_of words = None

abbrev pub meet_of : List (List ℕ) → Option Act
meet_of (to ∷ []) = addr_of to >>= λ to. Some (Meet to)
meet_of words = None

-- HEX
abbrev pub send_of : List (List ℕ) → Option Act
send_of (bytes ∷ []) = bytes_of bytes >>= λ bytes. Some (Send bytes)
send_of words = None

-- CAP
abbrev pub recv_of : List (List ℕ) → Option Act
recv_of (room ∷ []) = number_within 0 65536 room >>= λ room. Some (Recv room)
recv_of words = None

-- a time to live, or a dash for none
abbrev pub ttl_of : List ℕ → Option (Option ℕ)
ttl_of word = if is_word word (codes "-") then Some None else option_map (λ ttl. Some ttl) (moment_of word)

-- 1 for a message that must be delivered in order, 0 for another
abbrev pub order_of : List ℕ → Option Bool
order_of word = option_map (λ number. number == 1) (number_within 0 1 word)

-- TTL ORDER HEX
abbrev pub sendmsg_of : List (List ℕ) → Option Act
sendmsg_of (ttl ∷ order ∷ bytes ∷ []) = do
  ttl ← ttl_of ttl
  order ← order_of order
  bytes ← bytes_of bytes
  Some (SendMessage ttl order bytes)
sendmsg_of words = None

-- CAP
abbrev pub recvmsg_of : List (List ℕ) → Option Act
recvmsg_of (room ∷ []) = number_within 0 65536 room >>= λ room. Some (RecvMessage room)
recvmsg_of words = None

-- the call with this name, by the words after its moment
unfoldable pub call_of : List ℕ → List (List ℕ) → Option Act
call_of call words =
    if is_word call (codes "listen")
    then listen_of words
    else (if is_word call (codes "connect")
    then connect_of words
    else (if is_word call (codes "meet")
    then meet_of words
    else (if is_word call (codes "shake")
    then alone Shake words
    else (if is_word call (codes "send")
    then send_of words
    else (if is_word call (codes "recv")
    then recv_of words
    else (if is_word call (codes "sendmsg")
    then sendmsg_of words
    else (if is_word call (codes "recvmsg")
    then recvmsg_of words
    else (if is_word call (codes "pack")
    then alone Pack words
    else (if is_word call (codes "tick")
    then alone Tick words
    else (if is_word call (codes "close")
    then alone Close words
    else (if is_word call (codes "perf") then alone Measure words else None)))))))))))

-- A listen T N, A connect T ADDR, A meet T ADDR, A shake T, A send T HEX, A recv T CAP, A sendmsg T TTL ORDER HEX,
-- A recvmsg T CAP, A pack T, A tick T, A close T, A perf T
unfoldable pub call_line : List ℕ → List ℕ → List (List ℕ) → Option Line
call_line name call [] = None
call_line name call (now ∷ words) = do
  name ← name_of name
  now ← moment_of now
  act ← call_of call words
  Some (CallLine name (record { now = now; act = act }))

-- A accept T B
unfoldable pub accept_line : List ℕ → List (List ℕ) → Option Line
accept_line name (now ∷ accepted ∷ []) = do
  name ← name_of name
  now ← moment_of now
  accepted ← name_of accepted
  Some (AcceptLine name now accepted)
accept_line name words = None

-- deliver K T. No script prints 2^64 datagrams
unfoldable pub deliver_line : List ℕ → List (List ℕ) → Option Line
deliver_line number (now ∷ []) = do
  number ← number_within 0 (2 ^ 64 - 1) number
  now ← moment_of now
  Some (DeliverLine number now)
deliver_line number words = None

-- raw T FROM TO HEX
unfoldable pub raw_line : List ℕ → List (List ℕ) → Option Line
raw_line now (from ∷ to ∷ bytes ∷ []) = do
  now ← moment_of now
  from ← addr_of from
  to ← addr_of to
  bytes ← bytes_of bytes
  Some (RawLine now (record { from = from; to = to; bytes = bytes }))
raw_line now words = None

-- the first word tells the lines that aren't calls
abbrev pub line_by_first : List ℕ → List ℕ → List (List ℕ) → Option Line
line_by_first first second others =
    if is_word first (codes "deliver")
    then deliver_line second others
    else (if is_word first (codes "raw")
    then raw_line second others
    else (if is_word first (codes "pair")
    then pair_line second others
    else (if is_word first (codes "open")
    then open_line second others
    else (if is_word first (codes "host") then host_line second others else None))))

-- and the second one the calls of a socket
abbrev pub line_by_second : List ℕ → List ℕ → List (List ℕ) → Option Line
line_by_second first second others =
    if is_word second (codes "accept")
    then accept_line first others
    else call_line first second others

-- the first of two readings that there is
abbrev pub or_else : Option Line → Option Line → Option Line
or_else None other = other
or_else (Some line) other = Some line

-- A name may be any word, so a line that isn't of a form by its first word is read as one of a socket. No line is of two forms
unfoldable pub line_by_words : List (List ℕ) → Option Line
line_by_words [] = None
line_by_words (first ∷ []) = None
line_by_words (first ∷ second ∷ others) = or_else (line_by_first first second others) (line_by_second first second others)

-- what a line says, where it is of a form and each value is in its range
unfoldable pub read_line : List ℕ → Option Line
read_line line = if is_silent line then Some Silent else line_by_words (words_of line)

-- the line gives bytes that need not be those of a datagram that was emitted. No call of a line is an arrival
abbrev pub is_raw : Option Line → Bool
is_raw None = Bool.false
is_raw (Some Silent) = Bool.false
is_raw (Some (PairLine pairing)) = Bool.false
is_raw (Some (HostLine name addr)) = Bool.false
is_raw (Some (OpenLine opening)) = Bool.false
is_raw (Some (AcceptLine name now accepted)) = Bool.false
is_raw (Some (CallLine name event)) = is_arrival event.act
is_raw (Some (DeliverLine number now)) = Bool.false
is_raw (Some (RawLine now datagram)) = Bool.true

-- no line of these does
abbrev pub AreEmitted : List (List ℕ) → Type 0
AreEmitted lines = All (λ line. is_raw (read_line line) ≡ Bool.false) lines
