-- The commands of the program, by their words.
use Rattle.std.specs.Prelude.{String, ℕ, ◌==◌, Bool, false, List, [], ◌∷◌, drop, map, codes, Option, Some, None, if◌then◌else◌}
use Rattle.std.specs.List.{list_any}
use Rattle.std.specs.String.{string_bytes}
use Rattle.udt_model.specs.declared.addresses.Addr.{Addr}
use Rattle.udt_model.specs.declared.addresses.Family.{Family}
use Rattle.udt_model.specs.declared.addresses.Family.TheVariants.{Four, Six}
use Rattle.udt_model.specs.declared.scripts.ControlName.{ControlName}
use Rattle.udt_model.specs.declared.scripts.ControlName.TheVariants.{Native, Fixed, Aimd}
use Rattle.udt_model.specs.Addresses.{ip_of}
use Rattle.udt_model.specs.Words.{◌>>=◌, is_word, number_within}
use Rattle.udt_words.specs.declared.limits.TheConstants.{LAST_SEED, MOST_WORLD_TURNS, MOST_RECORD_TURNS, MOST_PAIR_BYTES, MOST_CONNECTIONS}
use Rattle.udt_words.specs.declared.commands.Command.{Command}
use Rattle.udt_words.specs.declared.commands.Command.TheVariants as command
use Rattle.udt_words.specs.declared.order.Order.{Order}
use Rattle.udt_words.specs.declared.order.Order.TheVariants.{Replay, World, Pair, Recv, Recv6, Send, Record, Check}

-- a word, as its bytes
abbrev pub Word : Type 0
Word = List ℕ

-- the bytes of the words
abbrev pub spelled : {A : Type 0} → List (String A) → List Word
spelled words = map string_bytes words

-- ---- what stands for a word in the lines below

-- CONTROL
abbrev pub control_of : Word → Option ControlName
control_of word =
    if is_word word (codes "native")
    then Some Native
    else (if is_word word (codes "fixed") then Some Fixed else (if is_word word (codes "aimd") then Some Aimd else None))

-- FILE: at least a byte
abbrev pub file_of : Word → Option (List ℕ)
file_of [] = None
file_of (byte ∷ bytes) = Some (byte ∷ bytes)

-- PORT: from 1 to 65,535
abbrev pub port_of : Word → Option ℕ
port_of = number_within 1 65535

-- COUNT: from 1 to 64
abbrev pub count_of : Word → Option ℕ
count_of = number_within 1 MOST_CONNECTIONS

-- N: below 2^32
abbrev pub seed_of : Word → Option ℕ
seed_of = number_within 0 LAST_SEED

-- ADDR and PORT: an IPv4 or IPv6 address, and a port of it
abbrev pub target_of : Word → Word → Option Addr
target_of addr port = do
  ip ← ip_of addr
  port ← port_of port
  Some (record { ip = ip; port = port })

-- ---- a line for each command, by the words after its name

-- replay [CONTROL]
unfoldable pub replay_order : List Word → Option Order
replay_order [] = Some (Replay Native)
replay_order (control ∷ []) = do
  control ← control_of control
  Some (Replay control)
replay_order words = None

-- N TURNS with a control: at most 400,000 turns
abbrev pub generated : Word → Word → Option ControlName → Option Order
generated n turns control = do
  n ← seed_of n
  turns ← number_within 0 MOST_WORLD_TURNS turns
  control ← control
  Some (World n turns control)

-- world N TURNS [CONTROL]
unfoldable pub world_order : List Word → Option Order
world_order (n ∷ turns ∷ []) = generated n turns (Some Native)
world_order (n ∷ turns ∷ control ∷ []) = generated n turns (control_of control)
world_order words = None

-- pair SIZE COUNT N: at most 100,000,000 bytes
unfoldable pub pair_order : List Word → Option Order
pair_order (size ∷ count ∷ n ∷ []) = do
  size ← number_within 0 MOST_PAIR_BYTES size
  count ← count_of count
  n ← seed_of n
  Some (Pair size count n)
pair_order words = None

-- to accept files over IPv4 or IPv6
abbrev pub receives : Family → ℕ → List ℕ → ℕ → Order
receives Four = Recv
receives Six = Recv6

-- recv PORT FILE COUNT, and recv6 PORT FILE COUNT
unfoldable pub recv_order : Family → List Word → Option Order
recv_order family (port ∷ file ∷ count ∷ []) = do
  port ← port_of port
  file ← file_of file
  count ← count_of count
  Some (receives family port file count)
recv_order family words = None

-- send FILE ADDR PORT
unfoldable pub send_order : List Word → Option Order
send_order (file ∷ addr ∷ port ∷ []) = do
  file ← file_of file
  to ← target_of addr port
  Some (Send file to)
send_order words = None

-- record TURNS N: at most 10,000 turns
unfoldable pub record_order : List Word → Option Order
record_order (turns ∷ n ∷ []) = do
  turns ← number_within 0 MOST_RECORD_TURNS turns
  n ← seed_of n
  Some (Record turns n)
record_order words = None

-- check
unfoldable pub check_order : List Word → Option Order
check_order [] = Some Check
check_order words = None

-- ---- the table

-- the command that a word names
abbrev pub command_of : Word → Option Command
command_of word =
    if is_word word (codes "replay")
    then Some command.Replay
    else (if is_word word (codes "world")
    then Some command.World
    else (if is_word word (codes "pair")
    then Some command.Pair
    else (if is_word word (codes "recv")
    then Some command.Recv
    else (if is_word word (codes "recv6")
    then Some command.Recv6
    else (if is_word word (codes "send")
    then Some command.Send
    else (if is_word word (codes "record")
    then Some command.Record
    else (if is_word word (codes "check")
    then Some command.Check
    else None)))))))

-- what a command does with the words after its name
abbrev pub ordered : Command → List Word → Option Order
ordered command.Replay = replay_order
ordered command.World = world_order
ordered command.Pair = pair_order
ordered command.Recv = recv_order Four
ordered command.Recv6 = recv_order Six
ordered command.Send = send_order
ordered command.Record = record_order
ordered command.Check = check_order

-- a word that begins with a hyphen
abbrev pub is_option : Word → Bool
is_option [] = false
is_option (byte ∷ bytes) = byte == 45

-- the command that words call: the first one names it, and none begins with a hyphen
abbrev pub called : List Word → Option Command
called [] = None
called (name ∷ words) = if list_any is_option (name ∷ words) then None else command_of name

-- what the words ask for: the command's line, read from the words after the name
abbrev pub order_of : List Word → Option Order
order_of words = called words >>= λ command. ordered command (drop 1 words)
