-- The code's lines, as the definitions of the script language see them.
use Rattle.std.specs.Prelude.{◌≤◌, ◌<◌, ◌^◌}
use Rattle.udt_model.specs.declared.limits.TheConstants.{MOST_PAYLOAD, FEWEST_BLOCKS, MOST_BLOCKS, LAST_START, LAST_MOMENT}
use Rattle.udt_model.specs.Events.{Act, Listen, Connect, Meet, Shake, Send, Recv, SendMessage, RecvMessage}
use Rattle.udt_model.specs.Events.{Pack, Tick, Close, Measure, event}
use Rattle.udt_model.specs.Network.{ScriptDatagram as ModelDatagram}
use Rattle.udt_model.specs.Lines as model
use Rattle.udt_script.specs.declared.lines.Call.{Call}
use Rattle.udt_script.specs.declared.lines.Call.TheVariants as code_call
use Rattle.udt_script.specs.declared.lines.Line.{Line}
use Rattle.udt_script.specs.declared.lines.Line.TheVariants as code
use Rattle.udt_script.specs.declared.lines.Opening.{Opening}
use Rattle.udt_script.specs.declared.lines.Pairing.{Pairing}
use Rattle.udt_script.specs.declared.lines.ScriptDatagram.{ScriptDatagram}

-- a pairing without where its names lie in memory
abbrev pub pairing_of : Pairing → model.Pairing
pairing_of p = record {
  kind = p.kind;
  a = p.a.now;
  b = p.b.now;
  payload = p.payload;
  isn = p.isn;
  blocks = p.blocks;
  start = p.start;
}

-- an opening, likewise
abbrev pub opening_of : Opening → model.OpeningLine
opening_of o = record {
  kind = o.kind;
  name = o.name.now;
  host = o.host.now;
  payload = o.payload;
  isn = o.isn;
  blocks = o.blocks;
}

-- a datagram, likewise
abbrev pub datagram_of : ScriptDatagram → ModelDatagram
datagram_of datagram = record { from = datagram.from; to = datagram.to; bytes = datagram.bytes.items }

-- a call of a socket. The secret of a script's listeners is sixteen zero bytes
abbrev pub act_of : Call → Act
act_of (code_call.Listen most) = Listen most model.no_secret
act_of (code_call.Connect to) = Connect to
act_of (code_call.Meet to) = Meet to
act_of code_call.Shake = Shake
act_of (code_call.Send bytes) = Send bytes.items
act_of (code_call.Recv room) = Recv room
act_of (code_call.SendMessage ttl order bytes) = SendMessage ttl order bytes.items
act_of (code_call.RecvMessage room) = RecvMessage room
act_of code_call.Pack = Pack
act_of code_call.Tick = Tick
act_of code_call.Close = Close
act_of code_call.Perf = Measure

-- a line without where its parts lie in memory
abbrev pub line_of : Line → model.Line
line_of code.Silent = model.Silent
line_of (code.Pair pairing) = model.PairLine (pairing_of pairing)
line_of (code.Host name addr) = model.HostLine name.now addr
line_of (code.Open opening) = model.OpenLine (opening_of opening)
line_of (code.Accept name now accepted) = model.AcceptLine name.now now accepted.now
line_of (code.Call name now call) = model.CallLine name.now (event now (act_of call))
line_of (code.Deliver number now) = model.DeliverLine number now
line_of (code.Raw now datagram) = model.RawLine now (datagram_of datagram)

-- the numbers of a pairing are such as a pair of sockets may have
pub record IsPairable (p : Pairing) : Type 0 where
  pub payload_least : 1 ≤ p.payload
  pub payload_most : p.payload ≤ MOST_PAYLOAD
  pub isn : p.isn < 2 ^ 31
  pub blocks_least : FEWEST_BLOCKS ≤ p.blocks
  pub blocks_most : p.blocks ≤ MOST_BLOCKS
  pub start : p.start ≤ LAST_START

-- the numbers of an opening are such as a socket may have
pub record IsOpenable (o : Opening) : Type 0 where
  pub payload_least : 1 ≤ o.payload
  pub payload_most : o.payload ≤ MOST_PAYLOAD
  pub isn : o.isn < 2 ^ 31
  pub blocks_least : FEWEST_BLOCKS ≤ o.blocks
  pub blocks_most : o.blocks ≤ MOST_BLOCKS

-- a receive has room for at most 65,536 bytes
abbrev pub IsRoomy : Call → Type 0
IsRoomy (code_call.Listen most) = Unit {0}
IsRoomy (code_call.Connect to) = Unit {0}
IsRoomy (code_call.Meet to) = Unit {0}
IsRoomy code_call.Shake = Unit {0}
IsRoomy (code_call.Send bytes) = Unit {0}
IsRoomy (code_call.Recv room) = room ≤ 65536
IsRoomy (code_call.SendMessage ttl order bytes) = Unit {0}
IsRoomy (code_call.RecvMessage room) = room ≤ 65536
IsRoomy code_call.Pack = Unit {0}
IsRoomy code_call.Tick = Unit {0}
IsRoomy code_call.Close = Unit {0}
IsRoomy code_call.Perf = Unit {0}

-- each number of the line lies in its range
abbrev pub IsInRange : Line → Type 0
IsInRange code.Silent = Unit {0}
IsInRange (code.Pair pairing) = IsPairable pairing
IsInRange (code.Host name addr) = Unit {0}
IsInRange (code.Open opening) = IsOpenable opening
IsInRange (code.Accept name now accepted) = now ≤ LAST_MOMENT
IsInRange (code.Call name now call) = (now ≤ LAST_MOMENT) × IsRoomy call
IsInRange (code.Deliver number now) = now ≤ LAST_MOMENT
IsInRange (code.Raw now datagram) = now ≤ LAST_MOMENT
