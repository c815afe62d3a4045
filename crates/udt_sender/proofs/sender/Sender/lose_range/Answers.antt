-- The range lies where packets are in flight.
use Rattle.std.proofs.Common.{◌<◌, ◌≤◌, refl}
use Rattle.udt_model.specs.SendReports.{with_ranges}
use Rattle.udt_sender.proofs.LostLemmas.{Rising-with_range}
use Rattle.udt_sender.proofs.sender.Sender.lose_range.Goals as goal

pub invariant_of-self : goal.invariant_of-self
invariant_of-self g c =
    let i = c.self.invariant in
    let s = c.self.inside in
    let acked : s.buffer.first ≤ c.in-Some.from = rw (← c.self.view_is) at c.in-Some.ensures.acked in
    let sent : c.in-Some.to < s.next = rw (← c.self.view_is) at c.in-Some.ensures.sent in
    record {
      isn = i.isn;
      payload = i.payload;
      room = i.room;
      small = i.small;
      blocks = i.blocks;
      kept = i.kept;
      sound = i.sound;
      messages = i.messages;
      sent = i.sent;
      unsent = i.unsent;
      within = i.within;
      floor = rw c.add.ensures i.floor;
      window = rw c.add.ensures i.window;
      lost = rw c.add.ensures (Rising-with_range s.buffer.first s.next c.in-Some.from c.in-Some.to s.loss.lost acked c.in-Some.ensures.order sent i.lost);
      least_message = i.least_message;
      message = i.message;
      least_flow = i.least_flow;
      flow = i.flow;
      due = i.due;
    }

pub returns-in-None-clause-next : goal.returns-in-None-clause-next
unfolding with_ranges
returns-in-None-clause-next g c = rw (← c.in-None.ensures.value) refl

pub returns-in-Some-clause-next : goal.returns-in-Some-clause-next
unfolding with_ranges
returns-in-Some-clause-next g c = rw (← c.in-Some.ensures.value, ← c.self.view_is, c.add.ensures) refl
