-- The blocks below the offset leave, and with them the lost ones.
use Rattle.std.proofs.Common.{◌-◌, ◌≤◌, refl, arith}
use Rattle.std.proofs.lemmas.List.{length-drop}
use Rattle.std.proofs.lemmas.List.Elements.{All-drop}
use Rattle.udt_ranges.proofs.OffsetLemmas.{Rising-from_offset}
use Rattle.udt_sender.specs.Packets.{IsSound}
use Rattle.udt_sender.proofs.MessageLemmas.{release_in_messages}
use Rattle.udt_sender.proofs.sender.Sender.release.Goals as goal

pub invariant_of-self : goal.invariant_of-self
invariant_of-self g c =
    let i = c.self.invariant in
    let s = c.self.inside in
    let acked : s.buffer.first ≤ c.args.offset = rw (← c.self.view_is) at c.requires.acked in
    let sent : c.args.offset ≤ s.next = rw (← c.self.view_is) at c.requires.sent in
    let next = c.release_to.ensures in
    let len = length-drop (c.args.offset - s.buffer.first) s.buffer.kept in
    record {
      isn = i.isn;
      payload = rw next i.payload;
      room = rw next i.room;
      small = rw next i.small;
      blocks = rw next i.blocks;
      kept = rw next (omega (arith, len, i.kept));
      sound = rw next (All-drop (IsSound s.buffer.payload) (c.args.offset - s.buffer.first) s.buffer.kept i.sound);
      messages = rw next (release_in_messages s.buffer c.args.offset acked (omega (arith, sent, i.unsent)) i.messages);
      sent = rw next sent;
      unsent = rw next (omega (arith, len, acked, sent, i.unsent));
      within = rw next (omega (arith, len, acked, sent, i.unsent, i.within));
      floor = rw (next, c.drop_below.ensures) refl;
      window = rw (next, c.drop_below.ensures) i.window;
      lost = rw (next, c.drop_below.ensures) (Rising-from_offset c.args.offset s.buffer.first s.next s.loss.lost i.lost);
      least_message = i.least_message;
      message = i.message;
      least_flow = c.flow_after-self-inside.ensures.least;
      flow = c.flow_after-self-inside.ensures.most;
      due = i.due;
    }
