-- Histories that begin as connected: what they begin with, and what they keep.
use Rattle.std.proofs.Common.{◌≡◌, ℕ, ◌^◌, ◌<◌, ◌≤◌, true, [], Some, ap, ◌∙◌, sym}
use Rattle.udt_model.specs.declared.answers.Peer.{Peer}
use Rattle.udt_model.specs.declared.packets.Config.{Config}
use Rattle.udt_model.specs.History.{History, state_of, start_of, IsLegal}
use Rattle.udt_model.specs.Opening.{CanOpen}
use Rattle.udt_model.specs.Rate.{Ways}
use Rattle.udt_model.specs.ReceiveHalf.{Receiving}
use Rattle.udt_model.specs.Records.{own_peer}
use Rattle.udt_model.specs.SendHalf.{Sending}
use Rattle.udt_model.proofs.PeerLemmas.{has_peer}
use Rattle.udt_model.proofs.PhaseLemmas.{is_settled}
use Rattle.udt_model.proofs.SettlingLemmas.{IsFresh}
use Rattle.udt_model.proofs.ShakeLemmas.{has-names}
use Rattle.udt_model.proofs.StepLemmas.{after_items-keeps}

module _ {C : Type 0} (w : Ways C) where
  -- a history that begins with a state that was just connected, of a socket that was opened with values in range, and
  -- in which happened what the machine does
  pub record Begins (h : History C) : Type 0 where
    pub config : Config
    pub start : ℕ
    pub values : CanOpen config
    pub own_fits : h.opening.own < 2 ^ 32
    pub id_fits : h.opening.peer.id < 2 ^ 32
    pub isn_fits : h.opening.isn < 2 ^ 31
    pub payload : 1 ≤ h.opening.peer.payload
    pub somebody : has_peer h.opening.origin ≡ true
    pub fresh : IsFresh w config start h.opening
    pub legal : IsLegal w h

  module _ (h : History C) (begins : Begins h) where
    pub begins_settled : is_settled h.opening.phase ≡ true
    begins_settled = ap is_settled begins.fresh.connected

    pub begins_sending : h.opening.sending.isn ≡ h.opening.isn
    begins_sending = ap (λ (s : Sending C). s.isn) begins.fresh.sending

    pub begins_kept : h.opening.sending.blocks.kept ≡ []
    begins_kept = ap (λ (s : Sending C). s.blocks.kept) begins.fresh.sending

    pub begins_start : start_of h ≡ begins.start
    begins_start = ap (λ (s : Sending C). s.blocks.first) begins.fresh.sending

    pub begins_next : h.opening.sending.next ≡ start_of h
    begins_next = ap (λ (s : Sending C). s.next) begins.fresh.sending ∙ sym begins_start

    pub begins_receiving : h.opening.receiving.isn ≡ h.opening.peer.isn
    begins_receiving = ap (λ (r : Receiving). r.isn) begins.fresh.receiving

    pub begins_top : h.opening.receiving.top ≡ start_of h
    begins_top = ap (λ (r : Receiving). r.top) begins.fresh.receiving ∙ sym begins_start

    pub begins_base : h.opening.receiving.blocks.base ≡ start_of h
    begins_base = ap (λ (r : Receiving). r.blocks.base) begins.fresh.receiving ∙ sym begins_start

    pub begins_placed : h.opening.receiving.blocks.placed ≡ []
    begins_placed = ap (λ (r : Receiving). r.blocks.placed) begins.fresh.receiving

    pub begins_given : h.opening.receiving.blocks.given ≡ 0
    begins_given = ap (λ (r : Receiving). r.blocks.given) begins.fresh.receiving

    -- it keeps its peer and its numbers
    pub last_peer : (state_of w h).peer ≡ h.opening.peer
    last_peer = (after_items-keeps w h.opening h.items begins_settled).peer

    pub last_isn : (state_of w h).sending.isn ≡ h.opening.isn
    last_isn = (after_items-keeps w h.opening h.items begins_settled).sending.isn ∙ begins_sending

    -- and names the peer
    pub begins_names : own_peer w h ≡ Some (record { addr = h.opening.peer.addr; id = h.opening.peer.id })
    begins_names =
        let same = after_items-keeps w h.opening h.items begins_settled in
        has-names (state_of w h).origin (state_of w h).peer (ap has_peer same.origin ∙ begins.somebody)
        ∙ ap (λ (p : Peer). Some (record { addr = p.addr; id = p.id })) last_peer
