-- The message is kept to its end, and a drop request has six words.
use Rattle.std.proofs.Common.{◌+◌, ◌<◌, max, ap, ◌∙◌, arith}
use Rattle.udt_model.specs.declared.answers.Packed.TheVariants as packed
use Rattle.udt_model.specs.SendBlocks.{end_of}
use Rattle.udt_sender.proofs.BlockLemmas.{length-drop_spelling}
use Rattle.udt_sender.proofs.LostLemmas.{Rising-without_range}
use Rattle.udt_sender.proofs.sender.Sender.pack_drop.Goals as goal

pub invariant_of-self : goal.invariant_of-self
invariant_of-self g c =
    let i = c.self.invariant in
    let s = c.self.inside in
    let message = c.args.message in
    let kept : message.last < end_of s.buffer = rw (← c.self.view_is) at c.requires.kept in
    let lost = Rising-without_range s.buffer.first s.next (max s.next (message.last + 1)) message.first message.last s.loss.lost (omega arith) i.lost in
    record {
      isn = i.isn;
      payload = i.payload;
      room = i.room;
      small = i.small;
      blocks = i.blocks;
      kept = i.kept;
      sound = i.sound;
      messages = i.messages;
      sent = omega (arith, i.sent, c.max-self-inside.ensures);
      unsent = omega (arith, i.unsent, kept, c.max-self-inside.ensures);
      within = i.within;
      floor = rw c.remove.ensures i.floor;
      window = rw c.remove.ensures i.window;
      lost = rw (c.remove.ensures, c.max-self-inside.ensures) lost;
      least_message = i.least_message;
      message = i.message;
      least_flow = i.least_flow;
      flow = i.flow;
      due = i.due;
    }

pub write-requires-clause-fits : goal.write-requires-clause-fits
write-requires-clause-fits g c = omega (arith, c.requires.room, length-drop_spelling c.args.message.message c.args.stamp c.args.dest c.seq_of.result c.seq_of-2.result)

pub returns-clause-value : goal.returns-clause-value
returns-clause-value g c =
    ap packed.DropAsk (c.write.ensures.value ∙ length-drop_spelling c.args.message.message c.args.stamp c.args.dest c.seq_of.result c.seq_of-2.result)
