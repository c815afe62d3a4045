-- Where records are lawful and honest, what arrives from a socket's peer was emitted by the peer alone, and is read
-- as what it was.
use Rattle.std.proofs.Common.{◌≡◌, ℕ, true, List, [], ◌∷◌, refl, ap, ◌∙◌, sym}
use Rattle.udt_model.specs.declared.packets.Kind.TheVariants.{Stream}
use Rattle.udt_model.specs.declared.addresses.Addr.{Addr}
use Rattle.udt_model.specs.declared.answers.Peer.{Peer}
use Rattle.udt_model.specs.Wire.{Block}
use Rattle.udt_model.specs.State.{State}
use Rattle.udt_model.specs.Step.{step}
use Rattle.udt_model.specs.Events.{Act, Arrive}
use Rattle.udt_model.specs.History.{Item, History, state_of, accepted, delivered}
use Rattle.udt_model.specs.Rate.{Ways}
use Rattle.udt_model.specs.Records.{EndpointRecord}
use Rattle.udt_model.specs.Emissions.{IsPrefix}
use Rattle.udt_model.specs.Honest.{IsHonestAct, AreHonest}
use Rattle.udt_model.proofs.PhaseLemmas.{is_settled}
use Rattle.udt_model.proofs.StepLemmas.{step-keeps}
use Rattle.udt_laws.specs.Laws.{HasBlocks}
use Rattle.udt_laws.proofs.delivered_is_carried.DeliversPlacedBlocks.{MeetsAct, AllMeet}
use Rattle.udt_laws.proofs.sockets.Opened.{AreConnected}
use Rattle.udt_laws.proofs.sockets.OneSocket.{ComesNear}
use Rattle.udt_laws.proofs.delivered_prefix.PeerBlocksAlone.{IsBlockAt, reads-as, mates}

module _ {C : Type 0} (w : Ways C) where
  module _ (net : List (EndpointRecord C)) (addr sender_addr : Addr) (own : ℕ) (g : History C) (has : HasBlocks w g)
      (comes : ComesNear w net addr own sender_addr g) where
    act-meets : (s : State C) (act : Act) → s.own ≡ own → s.peer.addr ≡ sender_addr → (state_of w g).sending.isn ≡ s.receiving.isn
        → IsHonestAct w net addr s act → MeetsAct (IsBlockAt w g has) s act
    act-meets s (Arrive from bytes) own_is addr_is isn_is honest = λ number flags stamp payload offset from_is reads found.
        let emitted_near = comes s from bytes (Block number flags stamp s.own payload) (from_is ∙ addr_is) honest reads refl own_is in
        (reads-as w g has s.receiving.isn s.receiving.top number offset flags stamp s.own bytes payload isn_is emitted_near reads found).is_block
    act-meets s act own_is addr_is isn_is honest = tt

    items-meet : (s : State C) (items : List Item) → is_settled s.phase ≡ true → s.own ≡ own → s.peer.addr ≡ sender_addr
        → (state_of w g).sending.isn ≡ s.receiving.isn → AreHonest w net addr s items → AllMeet w (IsBlockAt w g has) s items
    unfolding AreHonest
    items-meet s [] settled own_is addr_is isn_is honest = tt
    items-meet s (item ∷ items) settled own_is addr_is isn_is honest =
        let same = step-keeps w s item.event settled in (
          act-meets s item.event.act own_is addr_is isn_is honest.0,
          items-meet (step w s item.event).after items (same.settled settled) (same.own ∙ own_is)
              (ap (λ (p : Peer). p.addr) same.peer ∙ addr_is) (isn_is ∙ sym same.receiving.isn) honest.1,
        )

  -- so what a socket delivers is a prefix of what its own peer accepted
  pub prefix-delivered : (net : List (EndpointRecord C)) (addr : Addr) (own : ℕ) (h : History C) (peer_addr : Addr) (peer_own : ℕ) (g : History C)
      → AreConnected w addr own h peer_addr peer_own g → ComesNear w net addr own peer_addr g → AreHonest w net addr h.opening h.items
      → h.opening.kind ≡ Stream → IsPrefix (delivered h) (accepted g)
  prefix-delivered net addr own h peer_addr peer_own g connected comes honest stream =
      let are = mates w addr own h peer_addr peer_own g connected in
      are.front stream
      (items-meet net addr peer_addr own g are.has comes h.opening h.items are.settled are.own_is are.peer_addr are.same_isn honest)
