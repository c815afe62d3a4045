-- What a stream socket delivers is made of what arrived from its peer's address.
use Rattle.std.proofs.Common.{◌≡◌, ℕ, zero, suc, ◌+◌, ◌%◌, ◌^◌, List, [], ◌∷◌, Some, Ok, refl, ap, ◌∙◌, sym, subst, true, arith}
use Rattle.std.specs.Prelude.{min, slice_get}
use Rattle.std.specs.List.{Contains}
use Rattle.std.proofs.lemmas.List.Elements.{Contains-append_left, Contains-append_right, Contains-push}
use Rattle.udt_model.specs.declared.packets.Kind.TheVariants.{Stream}
use Rattle.udt_model.specs.declared.addresses.Addr.{Addr}
use Rattle.udt_model.specs.declared.answers.Peer.{Peer}
use Rattle.udt_model.specs.declared.packets.Config.{Config}
use Rattle.udt_model.specs.Emissions.{arrived_by_act, arrived_by, arrivals, IsCarried, IsMadeOf}
use Rattle.udt_model.specs.Events.{Act, Arrive}
use Rattle.udt_model.specs.History.{Item, History, delivered, start_of}
use Rattle.udt_model.specs.Numbers.{sequence_number}
use Rattle.udt_model.specs.Rate.{Ways}
use Rattle.udt_model.specs.ReceiveHalf.{Receiving, idle_receiving, linked_receiving}
use Rattle.udt_model.specs.State.{State, Datagram}
use Rattle.udt_model.specs.Step.{step}
use Rattle.udt_model.specs.Timing.{RoundTrip, unmeasured}
use Rattle.udt_model.specs.Wire.{Block}
use Rattle.udt_model.proofs.NearLemmas.{near-found}
use Rattle.udt_model.proofs.ReceivingLemmas.{AllFrom}
use Rattle.udt_model.proofs.PhaseLemmas.{is_settled}
use Rattle.udt_model.proofs.StepLemmas.{step-keeps}
use Rattle.udt_laws.proofs.sockets.Begins.{Begins, begins_settled, begins_start, begins_receiving}
use Rattle.udt_laws.proofs.delivered_is_carried.GivenIsOfBlocks.{Kept}
use Rattle.udt_laws.proofs.delivered_is_carried.DeliversPlacedBlocks.{MeetsAct, AllMeet, delivers-front_of}

-- what all blocks from an offset on meet, the one at a place meets
pub AllFrom-at : (P : ℕ → List ℕ → Type 0) (offset : ℕ) (blocks : List (List ℕ)) (n : ℕ) (block : List ℕ) → AllFrom P offset blocks
    → slice_get blocks n ≡ Some block → P (offset + n) block
AllFrom-at P offset [] n block all found = absurd (cc)
AllFrom-at P offset (first ∷ others) zero block all found =
    let same : offset + zero ≡ offset = omega arith in
    let is : first ≡ block = cc in
    rw same (subst (P offset) is all.0)
AllFrom-at P offset (first ∷ others) (suc n) block all found =
    let same : offset + suc n ≡ offset + 1 + n = omega arith in
    rw same (AllFrom-at P (offset + 1) others n block all.1 found)

-- the sequence number of an offset is that of its place, in a direction that begins where the connection did
same-number : (isn start n : ℕ) → sequence_number isn (start + n) ≡ sequence_number ((isn + start) % 2 ^ 31) n
same-number isn start n = omega arith

module _ {C : Type 0} (w : Ways C) where
  -- a half that begins has given nothing
  idle-kept : (P : ℕ → List ℕ → Type 0) (config : Config) (start now isn payload : ℕ) (known : RoundTrip)
      → Kept P start (linked_receiving (idle_receiving config start) now isn payload known).blocks []
  idle-kept P config start now isn payload known =
      record { done = []; count = omega arith; each = tt; rising = tt; all = tt; within = omega arith; got_is = refl }

  pub begins_given_none : (P : ℕ → List ℕ → Type 0) (h : History C) → Begins w h → Kept P (start_of h) h.opening.receiving.blocks []
  begins_given_none P h begins =
      let fresh = begins.fresh in
      let payload = min begins.config.payload h.opening.peer.payload in
      subst (λ (n : ℕ). Kept P n h.opening.receiving.blocks []) (sym (begins_start w h begins))
      (subst (λ (r : Receiving). Kept P begins.start r.blocks []) (sym fresh.receiving)
      (idle-kept P begins.config begins.start h.opening.last h.opening.peer.isn payload unmeasured))

  module _ (arrived : List Datagram) (own : ℕ) (addr : Addr) (isn : ℕ) where
    -- a block that arrived from the address for the ID, under the sequence number of this offset
    abbrev pub HasArrived : ℕ → List ℕ → Type 0
    HasArrived offset payload = IsCarried arrived own addr (sequence_number isn offset) payload

    act-arrived : (s : State C) (act : Act) → s.own ≡ own → s.peer.addr ≡ addr → s.receiving.isn ≡ isn
        → ((datagram : Datagram) → Contains (arrived_by_act act) datagram → Contains arrived datagram) → MeetsAct HasArrived s act
    act-arrived s (Arrive from bytes) is_own is_addr is_isn among = λ number flags stamp payload offset sender reads is_near.
        let found = near-found s.receiving.isn s.receiving.top number offset is_near in
        let number_is : sequence_number isn offset ≡ number = rw (← is_isn) found.carries in
        record {
          datagram = record { addr = from; bytes = bytes };
          flags = flags;
          stamp = stamp;
          among = among _ (Contains-push [] _);
          from = sender ∙ is_addr;
          reads = reads ∙ ap (λ (id : ℕ). Ok (Block number flags stamp id payload)) is_own
              ∙ ap (λ (said : ℕ). Ok (Block said flags stamp own payload)) (sym number_is);
        }
    act-arrived s _ is_own is_addr is_isn among = tt

    all-arrived : (s : State C) (items : List Item) → is_settled s.phase ≡ true → s.own ≡ own → s.peer.addr ≡ addr → s.receiving.isn ≡ isn
        → ((datagram : Datagram) → Contains (arrived_by items) datagram → Contains arrived datagram) → AllMeet w HasArrived s items
    unfolding arrived_by
    all-arrived s [] settled is_own is_addr is_isn among = tt
    all-arrived s (item ∷ items) settled is_own is_addr is_isn among =
        let same = step-keeps w s item.event settled in (
          act-arrived s item.event.act is_own is_addr is_isn (λ datagram h. among datagram (Contains-append_left _ _ datagram h)),
          all-arrived (step w s item.event).after items (same.settled settled) (same.own ∙ is_own) (ap (λ (peer : Peer). peer.addr) same.peer ∙ is_addr)
              (same.receiving.isn ∙ is_isn) (λ datagram h. among datagram (Contains-append_right _ _ datagram h)),
        )

  -- so what a history delivers that begins as connected is made of what arrived
  pub begins-made_of : (h : History C) → Begins w h → h.opening.kind ≡ Stream
      → IsMadeOf (delivered h) (arrivals h) h.opening.own h.opening.peer.addr ((h.opening.peer.isn + start_of h) % 2 ^ 31)
  begins-made_of h begins stream =
      let own = h.opening.own in
      let peer = h.opening.peer in
      let start = start_of h in
      let P = HasArrived (arrivals h) own peer.addr peer.isn in
      let meets = all-arrived (arrivals h) own peer.addr peer.isn h.opening h.items (begins_settled w h begins) refl refl
      (begins_receiving w h begins) (λ datagram among. among) in
      let front = delivers-front_of w P start h.opening h.items stream begins.legal meets (begins_given_none P h begins) in
      record {
        payloads = front.blocks;
        carried = λ n payload found. subst (λ number. IsCarried (arrivals h) own peer.addr number payload) (same-number peer.isn start n)
            (AllFrom-at P start front.blocks n payload front.each found);
        front = front.front;
      }
