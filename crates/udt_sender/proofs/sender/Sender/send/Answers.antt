-- What is accepted can be sent.
use Rattle.std.proofs.Common.{◌≡◌, false, eqb, ◌+◌, ◌-◌, length, None, refl, ◌∙◌, arith}
use Rattle.udt_model.specs.declared.limits.TheConstants.{PACKET_LIMIT}
use Rattle.udt_model.specs.SendBlocks.{end_of, free_of}
use Rattle.udt_model.specs.SendHalf.{room_of}
use Rattle.udt_sender.specs.Halves.{sending_of}
use Rattle.udt_sender.proofs.BlockLemmas.{accept_sound, accept_kept}
use Rattle.udt_sender.proofs.MessageLemmas.{accept_in_messages}
use Rattle.udt_sender.proofs.PackLemmas.{fits-some, takes-some}
use Rattle.udt_sender.proofs.sender.Sender.send.Goals as goal
use Rattle.udt_sender.proofs.sender.Sender.send.Goals.{After-accept-taken}

-- the room that is left
room_is : (g : _) (c : After-accept-taken g) → PACKET_LIMIT - (c.kept-first.result.0 + c.kept-first.result.1) ≡ PACKET_LIMIT - end_of c.self.inside.buffer
room_is g c = rw c.kept-first.ensures.value refl

pub invariant_of-self : goal.invariant_of-self
invariant_of-self g c =
    let i = c.self.invariant in
    let s = c.self.inside in
    let room = room_is g (goal.at.invariant_of-self g c).After-accept-taken in
    let most = PACKET_LIMIT - end_of s.buffer in
    let next = rw room at c.accept-taken.ensures.next in
    let kept = accept_kept s.buffer c.args.bytes.now most s.message false None i.payload in
    record {
      isn = i.isn;
      payload = rw next i.payload;
      room = rw next i.room;
      small = rw next i.small;
      blocks = rw next i.blocks;
      kept = rw next (omega (arith, kept, i.kept));
      sound = rw next (accept_sound s.buffer c.args.bytes.now most s.message false None (omega (arith, i.message)) i.payload i.sound);
      messages = rw next (accept_in_messages s.buffer c.args.bytes.now most s.message false None i.messages);
      sent = rw next i.sent;
      unsent = rw next (omega (arith, kept, i.unsent));
      within = rw next (omega (arith, kept, i.within));
      floor = rw next i.floor;
      window = rw next i.window;
      lost = rw next i.lost;
      least_message = c.message_after-self-inside.ensures.least;
      message = c.message_after-self-inside.ensures.most;
      least_flow = i.least_flow;
      flow = i.flow;
      due = i.due;
    }

pub returns-clause-next : goal.returns-clause-next
returns-clause-next g c =
    let i = c.self.invariant in
    let s = c.self.inside in
    let room = room_is g (goal.at.returns-clause-next g c).After-accept-taken in
    let some : length c.args.bytes.now ≡ 0 → ⊥ = λ none. let full : false ≡ eqb 0 0 = rw none at c.if-is_empty.ensures in cc in
    let spent : room_of (sending_of s) ≡ 0 → ⊥ = λ none. c.if-room-eq0.false (room ∙ none) in
    let free : free_of s.buffer ≡ 0 → ⊥ = λ none. c.if-free-eq0.false (c.free.ensures ∙ none) in
    let positive = fits-some (sending_of s) (length c.args.bytes.now) some spent free i.payload in
    let takes = takes-some (sending_of s) c.args.bytes.now _ some spent free positive refl in
    rw (← c.self.view_is, takes, c.accept-taken.ensures.next, room, c.message_after-self-inside.ensures.value) refl
