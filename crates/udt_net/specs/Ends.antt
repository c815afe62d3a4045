-- The ends of a network, and what they tell.
use Rattle.std.specs.Prelude.{◌≡◌, List, [], Option, Some, refl}
use Rattle.std.proofs.Common.{sym, ap, ◌∙◌}
use Rattle.std.specs.Arc.{arc_value}
use Rattle.udt_model.specs.State.{Datagram}
use Rattle.udt_turn.specs.declared.story.Story as story
use Rattle.udt_turn.specs.declared.pass.Pass.{Pass}
use Rattle.udt_turn.specs.declared.turn.Turn.{Turn}
use Rattle.udt_turn.specs.Words.{IsPassOf, opening_of, table_of, seen_of, mine_of}
use Rattle.udt_net.specs.declared.side.Side.{Side}
use Rattle.udt_net.specs.declared.ends.NetIn.{NetIn}
use Rattle.udt_net.specs.declared.ends.NetOut.{NetOut}
use Rattle.udt_net.specs.Networks.{Network, Spoken}
use Rattle.udt_net.specs.Speaking.{HeardWasSaid, heard_at, said_from}

-- the end at which it hears
abbrev pub in_side : NetIn → Side
in_side e = e.at

-- the end from which it says
abbrev pub out_side : NetOut → Side
out_side e = e.at

-- what its own pass heard there, in order
abbrev pub in_given : NetIn → Option (List Datagram)
in_given e = Some (heard_at e.at (mine_of e.pass))

-- what its own pass said there, in order
abbrev pub out_taken : NetOut → Option (List Datagram)
out_taken e = Some (said_from e.at (mine_of e.pass))

-- the second is an end of the same network as the first
pub record SameIn (a b : NetIn) : Type 0 where
  pub turn : arc_value b.turn ≡ arc_value a.turn

pub record SameOut (a b : NetOut) : Type 0 where
  pub turn : arc_value b.turn ≡ arc_value a.turn

pub same_in_refl : (e : NetIn) → SameIn e e
same_in_refl e = record { turn = refl }

pub same_in_trans : (a b c : NetIn) → SameIn a b → SameIn b c → SameIn a c
same_in_trans a b c p q = record { turn = q.turn ∙ p.turn }

pub same_out_refl : (e : NetOut) → SameOut e e
same_out_refl e = record { turn = refl }

pub same_out_trans : (a b c : NetOut) → SameOut a b → SameOut b c → SameOut a c
same_out_trans a b c p q = record { turn = q.turn ∙ p.turn }

-- the end is one of the network in this turn
pub record InOf (turn : Turn Network Spoken) (e : NetIn) : Type 0 where
  pub pass : IsPassOf turn e.pass

pub record OutOf (turn : Turn Network Spoken) (e : NetOut) : Type 0 where
  pub pass : IsPassOf turn e.pass

-- both ends at an address, which have heard and said nothing
pub record AreFresh (at : Side) (turn : Turn Network Spoken) (ends : NetIn × NetOut) : Type 0 where
  pub in_own : IsPassOf turn ends.0.pass
  pub out_own : IsPassOf turn ends.1.pass
  pub in_side : ends.0.at ≡ at
  pub out_side : ends.1.at ≡ at
  pub in_faults : ends.0.faults ≡ 0
  pub in_quiets : ends.0.quiets ≡ 0
  pub out_faults : ends.1.faults ≡ 0
  pub in_seen : (seen_of ends.0.pass).items ≡ []
  pub out_seen : (seen_of ends.1.pass).items ≡ []

-- each datagram heard in the history that its pass has seen was said to that address earlier
abbrev pub InSees : NetIn → Type 0
InSees e = HeardWasSaid (seen_of e.pass).items

abbrev pub OutSees : NetOut → Type 0
OutSees e = HeardWasSaid (seen_of e.pass).items

-- ---- an end stays of its network, whatever it hears or says

module _ {g : story.Ghosts Network Spoken} where
  stays : (net mine its : Turn Network Spoken) (a b : Pass Network Spoken g) → its ≡ mine → IsPassOf net a
      → IsPassOf mine a → IsPassOf its b → IsPassOf net b
  stays net mine its a b same ours own other = record {
    table = other.table ∙ ap (λ t. table_of t) same ∙ sym own.table ∙ ours.table;
    slots = other.slots;
    idle = other.idle;
    opened = other.opened ∙ ap (λ t. opening_of t) same ∙ sym own.opened ∙ ours.opened;
  }

pub stays_in : (turn : Turn Network Spoken) (a b : NetIn) → InOf turn a → SameIn a b → InOf turn b
stays_in turn a b ours same =
    record { pass = stays turn (arc_value a.turn) (arc_value b.turn) a.pass b.pass same.turn ours.pass a.own b.own }

pub stays_out : (turn : Turn Network Spoken) (a b : NetOut) → OutOf turn a → SameOut a b → OutOf turn b
stays_out turn a b ours same =
    record { pass = stays turn (arc_value a.turn) (arc_value b.turn) a.pass b.pass same.turn ours.pass a.own b.own }
