-- The least lost block is kept. It is retransmitted, or its message is dropped where that has expired.
use Rattle.std.proofs.Common.{◌≡◌, ℕ, true, false, List, Some, refl, ap, sym, subst, ◌∙◌, arith}
use Rattle.udt_model.specs.declared.answers.Packed.TheVariants as packed
use Rattle.udt_model.specs.Numbers.{sequence_number}
use Rattle.udt_model.specs.SendBlocks.{kept_at}
use Rattle.udt_model.specs.SendHalf.{Sending, Retransmits, Drops, has_passed, leaves_next, after_packing, packed_as, packet_of}
use Rattle.udt_model.specs.Wire.{Block}
use Rattle.udt_snd_loss.specs.Lost.{LossList}
use Rattle.udt_sender.specs.declared.sender.packing.Dropping.{Dropping}
use Rattle.udt_sender.specs.Halves.{sending_of}
use Rattle.udt_sender.specs.Messages.{dropping_of, drop_packet_of, after_dropping}
use Rattle.udt_sender.specs.Packets.{with_packet}
use Rattle.udt_sender.proofs.BlockLemmas.{found_sound}
use Rattle.udt_sender.proofs.LostLemmas.{LostFirst, Rising-drop, first_lost}
use Rattle.udt_sender.proofs.MessageLemmas.{lies_at, has_expired, has_lasted}
use Rattle.udt_sender.proofs.PackLemmas.{leaves-again, leaves-drop, drops-lost}
use Rattle.udt_sender.proofs.sender.Sender.pack_lost.Goals as goal
use Rattle.udt_sender.proofs.sender.Sender.pack_lost.Goals.{After-expired, In-Some-expired, After-write_kept-size}

-- it is the first of the list
first : (g : _) (c : After-expired g) → LostFirst c.self.inside.buffer c.self.inside.loss.lost c.in-Some.offset
first g c =
    let i = c.self.invariant in
    let s = c.self.inside in
    first_lost s.buffer s.next s.loss.lost c.in-Some.offset i.lost i.unsent c.in-Some.ensures.value

-- ---- where its message has expired

dropped : (g : _) (c : In-Some-expired g) → LostFirst c.self.inside.buffer c.self.inside.loss.lost c.in-Some.offset
dropped g c =
    let i = c.self.invariant in
    let s = c.self.inside in
    first_lost s.buffer s.next s.loss.lost c.in-Some.offset i.lost i.unsent c.in-Some.ensures.value

expired : (g : _) (c : In-Some-expired g)
    → (has_passed c.args.now (dropped g c).block.message.expires ≡ true) × (c.in-Some-expired.message ≡ dropping_of (dropped g c).block.message)
expired g c =
    has_expired c.args.now (kept_at c.self.inside.buffer c.in-Some.offset) (dropped g c).block c.in-Some-expired.message (dropped g c).found c.in-Some-expired.ensures

-- so it is dropped
drops : (g : _) (c : In-Some-expired g)
    → leaves_next g.C.Control.ways c.args.self.now c.args.now c.args.self.now.lost ≡ Drops (dropped g c).block.message
drops g c =
    subst (λ (s : Sending g.row.C.Denot). leaves_next g.C.Control.ways s c.args.now s.lost ≡ Drops (dropped g c).block.message) c.self.view_is
    (leaves-drop g.C.Control.ways (sending_of c.self.inside) c.args.now c.in-Some.offset (dropped g c) (expired g c).0)

pub invariant_of-self-in-Some-expired : goal.invariant_of-self-in-Some-expired
invariant_of-self-in-Some-expired g c =
    let i = c.self.invariant in
    let s = c.self.inside in
    record {
      isn = i.isn;
      payload = i.payload;
      room = i.room;
      small = i.small;
      blocks = i.blocks;
      kept = i.kept;
      sound = i.sound;
      messages = i.messages;
      sent = i.sent;
      unsent = i.unsent;
      within = i.within;
      floor = rw c.take_first.ensures.next i.floor;
      window = rw c.take_first.ensures.next i.window;
      lost = rw c.take_first.ensures.next (Rising-drop s.buffer.first s.next s.loss.lost i.lost);
      least_message = i.least_message;
      message = i.message;
      least_flow = i.least_flow;
      flow = i.flow;
      due = i.due;
    }

pub pack_drop-requires-clause-number : goal.pack_drop-requires-clause-number
pack_drop-requires-clause-number g c =
    let here = (goal.at.pack_drop-requires-clause-number g c).In-Some-expired in
    let s = c.self.inside in
    let first = dropped g here in
    let number = ap (λ (m : Dropping). m.message) (expired g here).1 in
    let sound = found_sound s.buffer.payload s.buffer c.in-Some.offset first.block c.self.invariant.sound first.found in
    omega (arith, number, sound.number, sound.message)

pub pack_drop-requires-clause-kept : goal.pack_drop-requires-clause-kept
pack_drop-requires-clause-kept g c =
    let here = (goal.at.pack_drop-requires-clause-kept g c).In-Some-expired in
    let first = dropped g here in
    let last = ap (λ (m : Dropping). m.last) (expired g here).1 in
    let lies = lies_at c.self.inside.buffer c.in-Some.offset first.block c.self.invariant.messages first.found in
    omega (arith, last, lies.2)

pub returns-in-Some-expired-clause-value : goal.returns-in-Some-expired-clause-value
returns-in-Some-expired-clause-value g c =
    let here = (goal.at.returns-in-Some-expired-clause-value g c).In-Some-expired in
    c.pack_drop.ensures.value ∙ sym (ap packed_as (drops g here))

pub returns-in-Some-expired-clause-next : goal.returns-in-Some-expired-clause-next
returns-in-Some-expired-clause-next g c =
    let here = (goal.at.returns-in-Some-expired-clause-next g c).In-Some-expired in
    let w = g.C.Control.ways in
    let s = sending_of c.self.inside in
    let message = c.in-Some-expired.message in
    let first = dropped g here in
    let lies = lies_at c.self.inside.buffer c.in-Some.offset first.block c.self.invariant.messages first.found in
    let others = ap (λ (l : LossList). l.lost) c.take_first.ensures.next in
    c.pack_drop.ensures.next ∙ ap (λ (lost : List ℕ). after_dropping (record s { lost = lost }) message) others
    ∙ drops-lost w s c.args.now c.in-Some.offset message first (expired g here).1 lies.0 lies.1
    ∙ ap (λ (s : Sending g.row.C.Denot). after_packing w s c.args.now (Drops first.block.message)) c.self.view_is
    ∙ sym (ap (after_packing w c.args.self.now c.args.now) (drops g here))

pub returns-in-Some-expired-clause-into : goal.returns-in-Some-expired-clause-into
returns-in-Some-expired-clause-into g c =
    let here = (goal.at.returns-in-Some-expired-clause-into g c).In-Some-expired in
    let isn : c.self.inside.isn ≡ c.args.self.now.isn = ap (λ (s : Sending g.row.C.Denot). s.isn) c.self.view_is in
    let stamp = c.args.stamp in
    let dest = c.args.dest in
    c.pack_drop.ensures.into
    ∙ ap (λ (m : Dropping). with_packet (Some (drop_packet_of c.self.inside.isn stamp dest m)) c.args.into.now) (expired g here).1
    ∙ ap (λ (isn : ℕ). with_packet (Some (drop_packet_of isn stamp dest (dropping_of (dropped g here).block.message))) c.args.into.now) isn
    ∙ sym (ap (λ p. with_packet (packet_of c.args.self.now stamp dest p) c.args.into.now) (drops g here))

-- ---- where it hasn't

-- the block is retransmitted
again : (g : _) (c : After-write_kept-size g) → (first : LostFirst c.self.inside.buffer c.self.inside.loss.lost c.in-Some.offset)
    → leaves_next g.C.Control.ways c.args.self.now c.args.now c.args.self.now.lost ≡ Retransmits c.in-Some.offset first.block
again g c first =
    let lasts : has_passed c.args.now first.block.message.expires ≡ false =
    has_lasted c.args.now (kept_at c.self.inside.buffer c.in-Some.offset) first.block first.found (sym c.in_default-expired.is ∙ c.expired.ensures) in
    subst (λ (s : Sending g.row.C.Denot). leaves_next g.C.Control.ways s c.args.now s.lost ≡ Retransmits c.in-Some.offset first.block) c.self.view_is
    (leaves-again g.C.Control.ways (sending_of c.self.inside) c.args.now c.in-Some.offset first lasts)

pub invariant_of-self-2 : goal.invariant_of-self-2
invariant_of-self-2 g c =
    let i = c.self.invariant in
    let s = c.self.inside in
    record {
      isn = i.isn;
      payload = i.payload;
      room = i.room;
      small = i.small;
      blocks = i.blocks;
      kept = i.kept;
      sound = i.sound;
      messages = i.messages;
      sent = i.sent;
      unsent = i.unsent;
      within = i.within;
      floor = rw c.take_first.ensures.next i.floor;
      window = rw c.take_first.ensures.next i.window;
      lost = rw c.take_first.ensures.next (Rising-drop s.buffer.first s.next s.loss.lost i.lost);
      least_message = i.least_message;
      message = i.message;
      least_flow = i.least_flow;
      flow = i.flow;
      due = c.due_after-self-inside.ensures.bound;
    }

pub returns-clause-value : goal.returns-clause-value
returns-clause-value g c =
    let at = goal.at.returns-clause-value g c in
    let first = first g at.After-expired in
    ap packed.Block (c.write_kept-size.ensures.value first.block first.found) ∙ sym (ap packed_as (again g at.After-write_kept-size first))

pub returns-clause-next : goal.returns-clause-next
returns-clause-next g c =
    let at = goal.at.returns-clause-next g c in
    rw (again g at.After-write_kept-size (first g at.After-expired), ← c.self.view_is, c.take_first.ensures.next, c.due_after-self-inside.ensures.value, c.seq_of.ensures, c.period_of.ensures.value) refl

pub returns-clause-into : goal.returns-clause-into
returns-clause-into g c =
    let at = goal.at.returns-clause-into g c in
    let first = first g at.After-expired in
    let isn : c.self.inside.isn ≡ c.args.self.now.isn = ap (λ (s : Sending g.row.C.Denot). s.isn) c.self.view_is in
    c.write_kept-size.ensures.after first.block first.found
    ∙ ap (λ (isn : ℕ). with_packet (Some (Block (sequence_number isn c.in-Some.offset) first.block.flags c.args.stamp c.args.dest first.block.bytes)) c.args.into.now) isn
    ∙ sym (ap (λ p. with_packet (packet_of c.args.self.now c.args.stamp c.args.dest p) c.args.into.now) (again g at.After-write_kept-size first))

pub returns-clause-size : goal.returns-clause-size
returns-clause-size g c =
    let i = c.self.invariant in
    let s = c.self.inside in
    let first = first g (goal.at.returns-clause-size g c).After-expired in
    let sound = found_sound s.buffer.payload s.buffer c.in-Some.offset first.block i.sound first.found in
    let size = c.write_kept-size.ensures.value first.block first.found in
    rw (← c.self.view_is) (omega (arith, size, sound.some), omega (arith, size, sound.fits))
