-- A network that opens its ends and takes them back.
use Rattle.std.specs.Prelude.{◌≡◌, ℕ, List, [], ◌++◌, Option, is_some}
use Rattle.std.specs.Arc.{arc_value}
use Rattle.udt_model.specs.State.{Datagram}
use Rattle.udt_turn.specs.History.{mine_in, Begins, keep_if}
use Rattle.udt_turn.specs.Kinds.{IsSound}
use Rattle.udt_turn.specs.declared.story.Story as story
use Rattle.udt_turn.specs.declared.pass.Pass.{Pass}
use Rattle.udt_turn.specs.Words.{opening_of, view_of, seen_of, names_of, made_of, mine_of}
use Rattle.udt_net.specs.declared.side.Side.{Side}
use Rattle.udt_net.specs.declared.side.Side.TheVariants.{First, Second}
use Rattle.udt_net.specs.declared.ends.NetIn.{NetIn}
use Rattle.udt_net.specs.declared.ends.NetOut.{NetOut}
use Rattle.udt_net.specs.declared.memory_net.MemoryNet.{MemoryNet}
use Rattle.udt_net.specs.Networks.{Network, Spoken, silent, tale_of_nets}
use Rattle.udt_net.specs.Speaking.{HeardWasSaid}
use Rattle.udt_net.specs.Ends.{in_given, out_taken, SameIn, SameOut, InOf, OutOf, stays_in, stays_out}

-- the ends that were not opened yet, the one that is opened next first
abbrev pub sides_left : MemoryNet → List Side
sides_left net = keep_if (is_some net.first) First (keep_if (is_some net.second) Second [])

-- nothing was said yet, and the draws stand here
pub record NothingSaid (draws : ℕ) (net : MemoryNet) : Type 0 where
  pub opening : opening_of (arc_value net.turn) ≡ silent draws
  pub items : (seen_of net.pass).items ≡ []

-- each datagram heard in the history that its own pass has seen was said to that address earlier
abbrev pub NetSees : MemoryNet → Type 0
NetSees net = HeardWasSaid (seen_of net.pass).items

-- the end is of this network
abbrev pub HasIn : MemoryNet → NetIn → Type 0
HasIn net e = InOf (arc_value net.turn) e

abbrev pub HasOut : MemoryNet → NetOut → Type 0
HasOut net e = OutOf (arc_value net.turn) e

pub in_stays : (net : MemoryNet) (a b : NetIn) → HasIn net a → SameIn a b → HasIn net b
in_stays net a b ours same = stays_in (arc_value net.turn) a b ours same

pub out_stays : (net : MemoryNet) (a b : NetOut) → HasOut net a → SameOut a b → HasOut net b
out_stays net a b ours same = stays_out (arc_value net.turn) a b ours same

-- what the ends that were last taken back tell
abbrev pub last_given : MemoryNet → Option (List Datagram)
last_given net = in_given net.last_in.value

abbrev pub last_taken : MemoryNet → Option (List Datagram)
last_taken net = out_taken net.last_out.value

-- the same network, with the same pass, and with as many openings refused
pub record IsSameNet (before after : MemoryNet) : Type 0 where
  pub turn : after.turn ≡ before.turn
  pub pass : after.pass ≡ before.pass
  pub refused : after.refused ≡ before.refused

module _ {g : story.Ghosts Network Spoken} where
  -- the one pass was joined into the other, which then answers for both, and has seen what both had. In that history the
  -- items of each are those that were its own before
  pub record IsJoinedBy (gone before after : Pass Network Spoken g) : Type 0 where
    pub names : names_of after ≡ names_of before ++ names_of gone
    pub made : made_of after ≡ made_of before ++ made_of gone
    pub from_before : Begins (seen_of before).items (seen_of after).items
    pub from_gone : Begins (seen_of gone).items (seen_of after).items
    pub of_before : mine_in (names_of before) (seen_of after).items ≡ mine_of before
    pub of_gone : mine_in (names_of gone) (seen_of after).items ≡ mine_of gone

  -- the two passes were joined into one, the first one first
  pub record AreJoinedBy (first second before after : Pass Network Spoken g) : Type 0 where
    pub middle : Pass Network Spoken g
    pub one : IsJoinedBy first before middle
    pub other : IsJoinedBy second middle after
    pub sound : IsSound tale_of_nets (view_of after)
