-- Where records are lawful and honest, what arrives at a message socket places blocks of its own peer's messages, and drops such
-- messages, alone.
use Rattle.std.proofs.Common.{◌≡◌, ℕ, true, List, [], ◌∷◌, Some, Ok, refl, ap, ◌∙◌, sym, subst}
use Rattle.std.specs.List.{Contains}
use Rattle.std.proofs.lemmas.Option.{same_Some}
use Rattle.std.proofs.lemmas.List.Elements.{Contains-push}
use Rattle.udt_model.specs.declared.addresses.Addr.{Addr}
use Rattle.udt_model.specs.declared.answers.Peer.{Peer}
use Rattle.udt_model.specs.declared.packets.Flags.{Flags}
use Rattle.udt_model.specs.Events.{Act, Arrive}
use Rattle.udt_model.specs.History.{Item, History, state_of}
use Rattle.udt_model.specs.Honest.{IsClose, IsHonestAct, AreHonest}
use Rattle.udt_model.specs.Losses.{LostRange}
use Rattle.udt_model.specs.Numbers.{sequence_number, near}
use Rattle.udt_model.specs.Rate.{Ways}
use Rattle.udt_model.specs.ReceiveHalf.{Receiving, drop_range}
use Rattle.udt_model.specs.Records.{EndpointRecord}
use Rattle.udt_model.specs.State.{State}
use Rattle.udt_model.specs.Step.{step}
use Rattle.udt_model.specs.Wire.{Block, DropAsk, read}
use Rattle.udt_model.proofs.DropLemmas.{drop_range-is}
use Rattle.udt_model.proofs.NearLemmas.{near-is}
use Rattle.udt_model.proofs.PhaseLemmas.{is_settled}
use Rattle.udt_model.proofs.StepLemmas.{step-keeps}
use Rattle.udt_laws.specs.Laws.{CarriesMessages, ShowsMessages}
use Rattle.udt_laws.proofs.sockets.Opened.{AreConnected, connected-back}
use Rattle.udt_laws.proofs.sockets.OneSocket.{IsEmittedNear, ComesNear}
use Rattle.udt_laws.proofs.acked_has_arrived.AckedHasArrived.{acked-arrived-or-dropped}
use Rattle.udt_laws.proofs.delivered_prefix.PeerBlocksAlone.{mates}
use Rattle.udt_laws.proofs.laid_messages.Layout.{IsBlockOf, IsRangeOf}
use Rattle.udt_model.proofs.Members.{first-contained, other-contained}
use Rattle.udt_laws.proofs.laid_messages.KeepsLayout.{MeetsLayout, AllMeetLayout}
use Rattle.udt_laws.proofs.laid_messages.SentMessages.{payload_of, SendsMessages, sends_messages}
use Rattle.udt_laws.proofs.laid_messages.ShowsAsked.{shows-asked}

-- a number that is that of an offset close to where it is read is read as this offset
pub reads-offset : (isn said_isn top number offset found : ℕ) → said_isn ≡ isn → number ≡ sequence_number said_isn offset → IsClose offset top
    → near isn top number ≡ Some found → offset ≡ found
reads-offset isn said_isn top number offset found same said close is_near =
    let carries : sequence_number isn offset ≡ number = ap (λ (n : ℕ). sequence_number n offset) (sym same) ∙ sym said in
    let there = near-is isn top number offset (record { carries = carries; not_above = close.0; not_below = close.1 }) in
    same_Some _ _ (sym there ∙ is_near)

module _ {C : Type 0} (w : Ways C) where
  module _ (g : History C) (sends : SendsMessages w g) where
    -- a data packet that was emitted near is read as a block of these messages
    pub places-laid : (r : Receiving) (bytes payload : List ℕ) (number stamp dest offset : ℕ) (flags : Flags) → (state_of w g).sending.isn ≡ r.isn
        → IsEmittedNear w g r.top bytes → read bytes ≡ Ok (Block number flags stamp dest payload) → near r.isn r.top number ≡ Some offset
        → IsBlockOf (payload_of w g) sends.laid offset flags payload
    places-laid r bytes payload number stamp dest offset flags isn_is is reads found =
        let block = sends.sends is.emission number flags stamp dest payload is.among (ap read is.same ∙ reads) in
        let named = subst (λ (offsets : List ℕ). Contains offsets block.offset) (sym block.names) (Contains-push [] block.offset) in
        let same = reads-offset r.isn (state_of w g).sending.isn r.top number block.offset offset isn_is block.numbered (is.close block.offset named) found in
        subst (λ (n : ℕ). IsBlockOf (payload_of w g) sends.laid n flags payload) same block.block

    -- and a message drop request as the range of one of them
    pub drops-laid : (r : Receiving) (bytes : List ℕ) (message stamp dest first last : ℕ) (range : LostRange) → (state_of w g).sending.isn ≡ r.isn
        → IsEmittedNear w g r.top bytes → read bytes ≡ Ok (DropAsk message stamp dest first last) → drop_range r first last ≡ Some range
        → IsRangeOf sends.laid range.first range.last
    drops-laid r bytes message stamp dest first last range isn_is is reads taken =
        let asks = sends.drops is.emission message stamp dest first last is.among (ap read is.same ∙ reads) in
        let found = drop_range-is r first last range taken in
        let isn = (state_of w g).sending.isn in
        let m = asks.laid.message in
        let begins = subst (λ (offsets : List ℕ). Contains offsets m.first) (sym asks.names) (first-contained m.first (m.last ∷ [])) in
        let ends = subst (λ (offsets : List ℕ). Contains offsets m.last) (sym asks.names)
        (other-contained m.first (m.last ∷ []) m.last (first-contained m.last [])) in
        record {
          laid = asks.laid;
          among = asks.among;
          begins = sym (reads-offset r.isn isn r.top first m.first range.first isn_is asks.begins (is.close m.first begins) found.first_near);
          ends = sym (reads-offset r.isn isn r.top last m.last range.last isn_is asks.ends (is.close m.last ends) found.last_near);
        }

  -- ---- where records are lawful and honest

  module _ (net : List (EndpointRecord C)) (addr sender_addr : Addr) (own : ℕ) (g : History C) (sends : SendsMessages w g)
      (comes : ComesNear w net addr own sender_addr g) where
    act-meets : (s : State C) (act : Act) → s.own ≡ own → s.peer.addr ≡ sender_addr → (state_of w g).sending.isn ≡ s.receiving.isn
        → IsHonestAct w net addr s act → MeetsLayout (payload_of w g) sends.laid s act
    act-meets s (Arrive from bytes) own_is addr_is isn_is honest = record {
      places = λ number flags stamp payload offset from_is reads found.
          let is = comes s from bytes (Block number flags stamp s.own payload) (from_is ∙ addr_is) honest reads refl own_is in
          places-laid g sends s.receiving bytes payload number stamp s.own offset flags isn_is is reads found;
      drops = λ message stamp first last range from_is reads taken.
          let is = comes s from bytes (DropAsk message stamp s.own first last) (from_is ∙ addr_is) honest reads refl own_is in
          drops-laid g sends s.receiving bytes message stamp s.own first last range isn_is is reads taken;
    }
    act-meets s act own_is addr_is isn_is honest = tt

    items-meet : (s : State C) (items : List Item) → is_settled s.phase ≡ true → s.own ≡ own → s.peer.addr ≡ sender_addr
        → (state_of w g).sending.isn ≡ s.receiving.isn → AreHonest w net addr s items
        → AllMeetLayout (payload_of w g) sends.laid w s items
    unfolding AreHonest
    items-meet s [] settled own_is addr_is isn_is honest = tt
    items-meet s (item ∷ items) settled own_is addr_is isn_is honest =
        let same = step-keeps w s item.event settled in (
          act-meets s item.event.act own_is addr_is isn_is honest.0,
          items-meet (step w s item.event).after items (same.settled settled) (same.own ∙ own_is)
              (ap (λ (p : Peer). p.addr) same.peer ∙ addr_is) (isn_is ∙ sym same.receiving.isn) honest.1,
        )

  -- so a message socket shows what its own peer was asked, where both are connected to each other
  pub peer-messages : (net : List (EndpointRecord C)) (addr : Addr) (own : ℕ) (h : History C) (peer_addr : Addr) (peer_own : ℕ) (g : History C)
      → AreConnected w addr own h peer_addr peer_own g → ComesNear w net addr own peer_addr g → ComesNear w net peer_addr peer_own addr h
      → AreHonest w net addr h.opening h.items → AreHonest w net peer_addr g.opening g.items → CarriesMessages h → ShowsMessages w h g
  peer-messages net addr own h peer_addr peer_own g connected comes back honest peer_honest carries =
      let sends = sends_messages w g connected.other_begins (connected.same_kind ∙ carries) in
      let are = mates w addr own h peer_addr peer_own g connected in
      shows-asked w h g connected.begins carries sends
      (items-meet net addr peer_addr own g sends comes h.opening h.items are.settled are.own_is are.peer_addr are.same_isn honest)
      (acked-arrived-or-dropped w net peer_addr peer_own g addr own h
      (connected-back w addr own h peer_addr peer_own g connected) back peer_honest)
