-- An event leaves a socket its own peer, or tells of a first one by a handshake.
use Rattle.std.proofs.Common.{◌≡◌, ℕ, refl, ap, ◌∙◌, inl, inr, ◌⊎◌}
use Rattle.udt_model.specs.Events.{Event, at_moment}
use Rattle.udt_model.specs.History.{state_of, happened}
use Rattle.udt_model.specs.Rate.{Ways}
use Rattle.udt_model.specs.Records.{Enrolled, IsSocket, peer_by, own_peer}
use Rattle.udt_model.specs.State.{State}
use Rattle.udt_model.specs.Step.{step}
use Rattle.udt_model.proofs.HistoryLemmas.{state_of-happened}
use Rattle.udt_model.proofs.PeerLemmas.{IsIntroduced, config_by, start_by, step-known}
use Rattle.udt_model.proofs.ShakeLemmas.{known-after}

module _ {C : Type 0} (w : Ways C) where
  same-own : (s t : State C) → t.peer ≡ s.peer → t.origin ≡ s.origin → peer_by t.origin t.peer ≡ peer_by s.origin s.peer
  same-own s t peer from = rw (peer, from) refl

  pub event-peer : (socket : Enrolled C) (pass : ℕ) (event : Event) → IsSocket w socket
      → (own_peer w (happened w socket.history pass event) ≡ own_peer w socket.history)
      ⊎ IsIntroduced (at_moment (state_of w socket.history) event.now) event.act (step w (state_of w socket.history) event).after
  event-peer socket pass event is =
      let h = socket.history in
      let s = state_of w h in
      let t = (step w s event).after in
      let known = known-after w socket.own socket.way h.opening is.opened h.items in
      let last = state_of-happened w h pass event in
      elim (step-known w (config_by w socket.way) (start_by w socket.way) s event known).sets [
        | inl keeps ↦ inl (ap (λ (u : State C). peer_by u.origin u.peer) last ∙ same-own s t keeps.peer keeps.origin)
        | inr introduced ↦ inr introduced
      ]
