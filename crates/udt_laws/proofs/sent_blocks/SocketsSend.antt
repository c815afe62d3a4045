-- What a socket emits, however it was opened: blocks of what it accepted, answers to its own peer, and handshakes
-- that tell whose they are.
use Rattle.std.proofs.Common.{◌≡◌, ℕ, ◌-◌, ◌≤◌, [], Some, refl, ap, ◌∙◌, sym, subst, inl, inr}
use Rattle.std.specs.Prelude.{drop, map, slice_get}
use Rattle.std.proofs.lemmas.List.{drop_all}
use Rattle.std.proofs.Common.{arith}
use Rattle.udt_model.specs.History.{History, state_of, start_of}
use Rattle.udt_model.specs.Numbers.{sequence_number}
use Rattle.udt_model.specs.Rate.{Ways}
use Rattle.udt_model.specs.SendHalf.{Sending}
use Rattle.udt_model.specs.SendBlocks.{KeptBlock}
use Rattle.udt_model.specs.State.{State}
use Rattle.udt_model.proofs.ShakeLemmas.{bound-goes, shake-names}
use Rattle.udt_laws.specs.Laws.{HasBlocks, EmittedBlocks, Addressed, Named}
use Rattle.udt_laws.proofs.sockets.ConnectedParts.{ConnectedPart, NeverConnected, socket-parts, part-emitted, never-emits}
use Rattle.udt_laws.proofs.sent_blocks.SentBlocks.{has_blocks}

module _ {C : Type 0} (w : Ways C) where
  -- the blocks of a history are those since the socket was connected
  pub part-blocks : (h : History C) → (since : ConnectedPart w h) → HasBlocks w since.part → HasBlocks w h
  part-blocks h since has = record {
    blocks = has.blocks;
    joined = has.joined ∙ sym since.goes_on.accepted;
    kept = subst (λ (s : State C). map (λ (block : KeptBlock). block.bytes) s.sending.blocks.kept
        ≡ drop (s.sending.blocks.first - start_of h) has.blocks)
        (sym since.goes_on.ends)
        (subst (λ (n : ℕ). map (λ (block : KeptBlock). block.bytes) (state_of w since.part).sending.blocks.kept
        ≡ drop ((state_of w since.part).sending.blocks.first - n) has.blocks) since.same_start has.kept);
    emits = λ emission number flags stamp dest payload among reads.
        let carries = has.emits emission number flags stamp dest payload
        (part-emitted w h since emission _ among reads refl) reads in
        let same = sym since.goes_on.ends in
        record {
          offset = carries.offset;
          names = carries.names;
          not_before = subst (λ (n : ℕ). n ≤ carries.offset) since.same_start carries.not_before;
          carries = subst (λ (n : ℕ). slice_get has.blocks (carries.offset - n) ≡ Some payload) since.same_start
              carries.carries;
          numbered = carries.numbered ∙ ap (λ (s : State C). sequence_number s.sending.isn carries.offset) same;
          sent_to = carries.sent_to ∙ ap (λ (s : State C). s.peer.addr) same;
          destined = carries.destined ∙ ap (λ (s : State C). s.peer.id) same;
        };
  }

  -- a socket that was never connected has none
  never-blocks : (h : History C) → NeverConnected w h → HasBlocks w h
  never-blocks h never = record {
    blocks = [];
    joined = sym never.quiet.accepted;
    kept = ap (λ (sending : Sending C). map (λ (block : KeptBlock). block.bytes) sending.blocks.kept)
        never.still.sending
        ∙ sym (drop_all ((state_of w h).sending.blocks.first - start_of h) [] (omega arith));
    emits = λ emission number flags stamp dest payload among reads. absurd
        (never-emits w h never emission _ among reads refl);
  }

  pub emitted_blocks : EmittedBlocks w
  emitted_blocks socket is stream = elim (socket-parts w socket is) [
    | inl never ↦ never-blocks socket.history never
    | inr since ↦ part-blocks socket.history since (has_blocks w since.part since.begins)
  ]

  pub addressed : Addressed w
  addressed socket emission packet is among reads bound =
      bound-goes w socket.own socket.way socket.history.opening is.in_range is.opened socket.history.items emission
      packet among reads bound

  pub named : Named w
  named socket emission stamp dest shake is among reads names =
      shake-names w socket.own socket.way socket.history.opening is.in_range is.opened socket.history.items emission
      stamp dest shake among reads names
