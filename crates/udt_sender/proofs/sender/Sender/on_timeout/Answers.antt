-- All that is in flight is lost.
use Rattle.std.proofs.Common.{◌≡◌, ◌-◌, ◌<◌, refl, arith}
use Rattle.udt_sender.proofs.LostLemmas.{Rising-with_range}
use Rattle.udt_sender.proofs.sender.Sender.on_timeout.Goals as goal

pub invariant_of-self : goal.invariant_of-self
invariant_of-self g c =
    let i = c.self.invariant in
    let s = c.self.inside in
    let first : c.kept-first.result.0 ≡ s.buffer.first = rw c.kept-first.ensures.value refl in
    let some : s.buffer.first < s.next = omega (arith, c.if-first-self.false, first, i.sent) in
    let rising = Rising-with_range s.buffer.first s.next s.buffer.first (s.next - 1) s.loss.lost (omega arith) (omega (arith, some)) (omega (arith, some)) i.lost in
    record {
      isn = i.isn;
      payload = i.payload;
      room = i.room;
      small = i.small;
      blocks = i.blocks;
      kept = i.kept;
      sound = i.sound;
      messages = i.messages;
      sent = i.sent;
      unsent = i.unsent;
      within = i.within;
      floor = rw c.add.ensures i.floor;
      window = rw c.add.ensures i.window;
      lost = rw (c.add.ensures, first) rising;
      least_message = i.least_message;
      message = i.message;
      least_flow = i.least_flow;
      flow = i.flow;
      due = i.due;
    }
