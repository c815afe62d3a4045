-- What a call of a shared socket does to the pass under which it is made.
use Rattle.std.specs.Prelude.{◌≡◌, ℕ, ◌<◌, List}
use Rattle.udt_model.specs.Events.{Act, Reply, event}
use Rattle.udt_model.specs.Rate.{Ways}
use Rattle.udt_model.specs.State.{State, Datagram}
use Rattle.udt_turn.specs.declared.story.Story as story
use Rattle.udt_turn.specs.declared.pass.Pass.{Pass}
use Rattle.udt_turn.specs.History.{value_of}
use Rattle.udt_turn.specs.Words.{seen_of, Adds, OnlySees}
use Rattle.udt_cell.specs.Entries.{Entry, entry, tale_of_sockets, last_count}

module _ {C : Type 0} (w : Ways C) {g : story.Ghosts (State C) Entry} where
  -- the state of the socket as the pass has seen it
  abbrev pub state_of : Pass (State C) Entry g → State C
  state_of pass = value_of (tale_of_sockets w) (seen_of pass)

  -- this act at this moment, with its reply and what it emitted, is the last item that the pass has seen, and one more of
  -- its own
  abbrev pub AddsEvent : ℕ → Act → Reply → List Datagram → Pass (State C) Entry g → Pass (State C) Entry g → Type 0
  AddsEvent now act reply outs before after = Adds (tale_of_sockets w) (entry (event now act) reply outs) before after

  -- no item was added, and the count stands where the socket takes no further event
  pub record FindsSpent (before after : Pass (State C) Entry g) : Type 0 where
    pub only : OnlySees (tale_of_sockets w) before after
    pub spent : (state_of after).count ≡ last_count

  -- no item was added, though the socket takes further events
  pub record FindsUnspent (before after : Pass (State C) Entry g) : Type 0 where
    pub only : OnlySees (tale_of_sockets w) before after
    pub unspent : (state_of after).count < last_count
