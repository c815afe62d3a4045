-- Of two sockets that are connected to each other, the one acknowledges only what it placed or dropped, in the other's numbers.
use Rattle.std.proofs.Common.{◌≡◌, ℕ, ◌≤◌, true, Ok, ap, ◌∙◌, sym, arith}
use Rattle.std.specs.List.{Contains}
use Rattle.udt_model.specs.declared.addresses.Addr.{Addr}
use Rattle.udt_model.specs.declared.answers.Peer.{Peer}
use Rattle.udt_model.specs.declared.packets.AckBody.{AckBody}
use Rattle.udt_model.specs.Wire.{Ack, read}
use Rattle.udt_model.specs.SendReports.{acked_number}
use Rattle.udt_model.specs.History.{History, state_of, start_of, acked, placed_offsets, arrived}
use Rattle.udt_model.specs.Emissions.{emitted}
use Rattle.udt_model.specs.Rate.{Ways}
use Rattle.udt_model.specs.State.{Emission}
use Rattle.udt_model.proofs.PhaseLemmas.{is_settled}
use Rattle.udt_laws.proofs.sockets.Begins.{begins_settled, begins_sending, begins_receiving, last_peer}
use Rattle.udt_laws.proofs.sockets.Opened.{AreConnected}
use Rattle.udt_laws.proofs.acked_has_arrived.CountsWithoutGap.{AllBetween, gapless-stretch}
use Rattle.udt_laws.proofs.acked_has_arrived.AcksNamePlaced.{TellsOf, HasPlaced, history-tells}
use Rattle.udt_laws.proofs.acked_has_arrived.EventsPlace.{ItemsMeet}

module _ {C : Type 0} (w : Ways C) where
  -- two sockets name each other as peer, count from one initial sequence number and one offset, and the other's acknowledgements
  -- name offsets before which all meets this
  pub record AreAckMates (P : ℕ → Type 0) (addr : Addr) (own : ℕ) (h : History C) (other_addr : Addr) (other_own : ℕ) (g : History C)
      : Type 0 where
    pub settled : is_settled h.opening.phase ≡ true
    pub own_is : h.opening.own ≡ own
    pub peer_addr : h.opening.peer.addr ≡ other_addr
    pub back_addr : (state_of w g).peer.addr ≡ addr
    pub back_id : (state_of w g).peer.id ≡ own
    pub same_isn : g.opening.receiving.isn ≡ h.opening.sending.isn
    pub same_start : start_of g ≡ start_of h
    pub tells : (emission : Emission) (number stamp dest : ℕ) (body : AckBody) → Contains (emitted w g) emission
        → read emission.datagram.bytes ≡ Ok (Ack number stamp dest body)
        → TellsOf P (start_of g) g.opening.receiving.isn emission (acked_number body)

  pub ack-mates : (P : ℕ → Type 0) (addr : Addr) (own : ℕ) (h : History C) (other_addr : Addr) (other_own : ℕ) (g : History C)
      → AreConnected w addr own h other_addr other_own g → ItemsMeet w P g.opening g.items → AreAckMates P addr own h other_addr other_own g
  ack-mates P addr own h other_addr other_own g are meet =
      let back_is = last_peer w g are.other_begins in
      record {
        settled = begins_settled w h are.begins;
        own_is = are.own_is;
        peer_addr = are.peer_addr;
        back_addr = ap (λ (p : Peer). p.addr) back_is ∙ are.back_addr;
        back_id = ap (λ (p : Peer). p.id) back_is ∙ are.back_id;
        same_isn = begins_receiving w g are.other_begins ∙ are.back_isn ∙ sym (begins_sending w h are.begins);
        same_start = are.same_start;
        tells = history-tells w P g are.other_begins meet;
      }

  -- both begin at one offset, and whatever the one counts as acknowledged meets this
  pub record AcksOnly (P : ℕ → Type 0) (h g : History C) : Type 0 where
    pub same_start : start_of g ≡ start_of h
    pub all : AllBetween P (start_of g) (state_of w h).sending.blocks.first

  -- where all of that was placed, no more is acknowledged than has arrived
  pub all-arrived : (h g : History C) → AcksOnly (HasPlaced w g) h g → acked w h ≤ arrived w g
  all-arrived h g acks =
      gapless-stretch (acked w h) (start_of g) (placed_offsets w g) (λ n low high. acks.all n low (omega (arith, acks.same_start)))
