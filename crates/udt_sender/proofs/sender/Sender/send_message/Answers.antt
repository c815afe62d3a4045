-- A message whose blocks all fit is taken whole, and can be sent.
use Rattle.std.proofs.Common.{◌≡◌, ℕ, false, eqb, ◌+◌, ◌-◌, ◌≤◌, length, Ok, refl, ap, sym, subst, ◌∙◌, arith}
use Rattle.udt_model.specs.declared.limits.TheConstants.{PACKET_LIMIT}
use Rattle.udt_model.specs.SendBlocks.{end_of, free_of, accepted_of, with_bytes}
use Rattle.udt_model.specs.SendHalf.{Sending, room_of, blocks_for, message_answer}
use Rattle.udt_sender.specs.Halves.{sending_of}
use Rattle.udt_sender.proofs.BlockLemmas.{accept_sound, accept_kept}
use Rattle.udt_sender.proofs.MessageLemmas.{accept_in_messages}
use Rattle.udt_sender.proofs.PackLemmas.{fits-whole, keeps-whole, answers-length, takes-whole}
use Rattle.udt_sender.proofs.sender.Sender.send_message.Goals as goal
use Rattle.udt_sender.proofs.sender.Sender.send_message.Goals.{After-accept-taken}

-- the room that is left
room_is : (g : _) (c : After-accept-taken g) → PACKET_LIMIT - (c.kept-first.result.0 + c.kept-first.result.1) ≡ PACKET_LIMIT - end_of c.self.inside.buffer
room_is g c = rw c.kept-first.ensures.value refl

-- the message's blocks are no more than all, than may ever follow, and than are free
abbrev Few : {C : Type 0} → Sending C → ℕ → ℕ → Type 0
Few s len most = blocks_for s len ≤ most

few_of_all : (g : _) (c : After-accept-taken g) → Few (sending_of c.self.inside) (length c.args.bytes.now) c.self.inside.buffer.blocks
few_of_all g c = subst (λ (n : ℕ). n ≤ c.self.inside.buffer.blocks) c.blocks_for-count.ensures (omega (arith, c.if-blocks-count.false, c.blocks-2.ensures))

few_of_room : (g : _) (c : After-accept-taken g) → Few (sending_of c.self.inside) (length c.args.bytes.now) (room_of (sending_of c.self.inside))
few_of_room g c =
    subst (λ (n : ℕ). n ≤ PACKET_LIMIT - end_of c.self.inside.buffer) c.blocks_for-count.ensures
    (subst (λ (n : ℕ). c.blocks_for-count.result ≤ n) (room_is g c) c.if-room-count.false)

few_of_free : (g : _) (c : After-accept-taken g) → Few (sending_of c.self.inside) (length c.args.bytes.now) (free_of c.self.inside.buffer)
few_of_free g c =
    subst (λ (n : ℕ). n ≤ free_of c.self.inside.buffer) c.blocks_for-count.ensures
    (subst (λ (n : ℕ). c.blocks_for-count.result ≤ n) c.free.ensures c.if-free-count.false)

-- so all its bytes are taken
whole : (g : _) (c : After-accept-taken g)
    → accepted_of c.self.inside.buffer (length c.args.bytes.now) (PACKET_LIMIT - end_of c.self.inside.buffer) ≡ length c.args.bytes.now
whole g c = fits-whole (sending_of c.self.inside) (length c.args.bytes.now) c.self.invariant.payload (few_of_room g c) (few_of_free g c)

pub invariant_of-self : goal.invariant_of-self
invariant_of-self g c =
    let i = c.self.invariant in
    let s = c.self.inside in
    let room = room_is g (goal.at.invariant_of-self g c).After-accept-taken in
    let most = PACKET_LIMIT - end_of s.buffer in
    let order = c.args.order in
    let expires = c.expiry_of-expires.result in
    let next = rw room at c.accept-taken.ensures.next in
    let kept = accept_kept s.buffer c.args.bytes.now most s.message order expires i.payload in
    record {
      isn = i.isn;
      payload = rw next i.payload;
      room = rw next i.room;
      small = rw next i.small;
      blocks = rw next i.blocks;
      kept = rw next (omega (arith, kept, i.kept));
      sound = rw next (accept_sound s.buffer c.args.bytes.now most s.message order expires (omega (arith, i.message)) i.payload i.sound);
      messages = rw next (accept_in_messages s.buffer c.args.bytes.now most s.message order expires i.messages);
      sent = rw next i.sent;
      unsent = rw next (omega (arith, kept, i.unsent));
      within = rw next (omega (arith, kept, i.within));
      floor = rw next i.floor;
      window = rw next i.window;
      lost = rw next i.lost;
      least_message = c.message_after-self-inside.ensures.least;
      message = c.message_after-self-inside.ensures.most;
      least_flow = i.least_flow;
      flow = i.flow;
      due = i.due;
    }

pub returns-clause-value : goal.returns-clause-value
returns-clause-value g c =
    let here = (goal.at.returns-clause-value g c).After-accept-taken in
    let s = sending_of c.self.inside in
    let value = rw (room_is g here) at c.accept-taken.ensures.value in
    let answer = answers-length s (length c.args.bytes.now) (few_of_all g here) (few_of_room g here) (few_of_free g here) in
    ap Ok (value ∙ whole g here) ∙ sym answer ∙ ap (λ (s : Sending g.row.C.Denot). message_answer s (length c.args.bytes.now)) c.self.view_is

pub returns-clause-next : goal.returns-clause-next
returns-clause-next g c =
    let here = (goal.at.returns-clause-next g c).After-accept-taken in
    let s = c.self.inside in
    let order = c.args.order in
    let expires = c.expiry_of-expires.result in
    let some : length c.args.bytes.now ≡ 0 → ⊥ = λ none. let full : false ≡ eqb 0 0 = rw none at c.if-is_empty.ensures in cc in
    let takes = takes-whole (sending_of s) c.args.now c.args.ttl order c.args.bytes.now some (few_of_all g here) (few_of_room g here) (few_of_free g here) in
    let taken = rw (room_is g here) at c.accept-taken.ensures.next in
    let next : c.accept-taken.new.self ≡ with_bytes s.buffer s.message order expires c.args.bytes.now =
    taken ∙ keeps-whole (sending_of s) order expires c.args.bytes.now (whole g here) in
    rw (← c.self.view_is, takes, next, c.expiry_of-expires.ensures, c.message_after-self-inside.ensures.value) refl
