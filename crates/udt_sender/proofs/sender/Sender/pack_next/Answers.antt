-- The next block is kept, and is in flight once it was sent.
use Rattle.std.proofs.Common.{◌+◌, ◌<◌, refl, arith}
use Rattle.udt_model.specs.SendBlocks.{end_of}
use Rattle.udt_ranges.proofs.OffsetLemmas.{Rising-higher}
use Rattle.udt_sender.proofs.BlockLemmas.{kept_is, found_sound}
use Rattle.udt_sender.proofs.sender.Sender.pack_next.Goals as goal
use Rattle.udt_sender.proofs.sender.Sender.pack_next.Goals.{After-write_kept-size}

unsent : (g : _) (c : After-write_kept-size g) → c.self.inside.next < end_of c.self.inside.buffer
unsent g c = rw (← c.self.view_is) at (c.if-not-may_send.ensures.kept refl)

pub invariant_of-self : goal.invariant_of-self
invariant_of-self g c =
    let i = c.self.invariant in
    let s = c.self.inside in
    let here = unsent g (goal.at.invariant_of-self g c).After-write_kept-size in
    record {
      isn = i.isn;
      payload = i.payload;
      room = i.room;
      small = i.small;
      blocks = i.blocks;
      kept = i.kept;
      sound = i.sound;
      messages = i.messages;
      sent = omega (arith, i.sent);
      unsent = omega (arith, here);
      within = i.within;
      floor = i.floor;
      window = i.window;
      lost = Rising-higher s.buffer.first s.next (s.next + 1) s.loss.lost (omega arith) i.lost;
      least_message = i.least_message;
      message = i.message;
      least_flow = i.least_flow;
      flow = i.flow;
      due = c.due_after-self-inside.ensures.bound;
    }

pub returns-clause-size : goal.returns-clause-size
returns-clause-size g c =
    let i = c.self.invariant in
    let s = c.self.inside in
    let block = kept_is s.buffer s.next i.sent (unsent g (goal.at.returns-clause-size g c).After-write_kept-size) in
    let sound = found_sound s.buffer.payload s.buffer s.next block.0 i.sound block.1 in
    let size = c.write_kept-size.ensures.value block.0 block.1 in
    rw (← c.self.view_is) (omega (arith, size, sound.some), omega (arith, size, sound.fits))
