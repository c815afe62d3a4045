-- The data packets of a stream's history name offsets below as many past its start as it has events, or as it sent datagrams.
use Rattle.std.proofs.Common.{◌≡◌, ℕ, ◌+◌, ◌<◌, ◌≤◌, List, [], ◌∷◌, ◌++◌, length, Ok, ap, ◌∙◌, subst, arith}
use Rattle.std.specs.List.{Contains}
use Rattle.std.proofs.lemmas.List.{length-append}
use Rattle.udt_model.specs.declared.packets.Kind.TheVariants.{Stream}
use Rattle.udt_model.specs.declared.packets.Flags.{Flags}
use Rattle.udt_model.specs.Wire.{Block, read}
use Rattle.udt_model.specs.Events.{outs_of}
use Rattle.udt_model.specs.Rate.{Ways}
use Rattle.udt_model.specs.State.{State, Emission}
use Rattle.udt_model.specs.Step.{step}
use Rattle.udt_model.specs.History.{Item, History, AreLegal, IsLegal, after_items, start_of}
use Rattle.udt_model.specs.Emissions.{emitted, sent_by, sent}
use Rattle.udt_model.proofs.HistoryLemmas.{AreLegal-front}
use Rattle.udt_model.proofs.RecordLemmas.{sent_by-append}
use Rattle.udt_model.proofs.EmissionLemmas.{IsEmittedAt}
use Rattle.udt_laws.proofs.sockets.Begins.{Begins, begins_next}
use Rattle.udt_laws.proofs.sent_blocks.SentBlocks.{same-packet, moment-at, emission-at, emission-reads}
use Rattle.udt_laws.proofs.sent_blocks.NamedWasSent.{begins-endless, items-advance, packet-below, outs-many}

module _ {C : Type 0} (w : Ways C) where
  -- all data packets of the history name offsets below this one
  abbrev pub BlocksBelow : History C → ℕ → Type 0
  BlocksBelow h limit =
      (emission : Emission) (number : ℕ) (flags : Flags) (stamp dest : ℕ) (payload : List ℕ) (offset : ℕ) → Contains (emitted w h) emission
      → read emission.datagram.bytes ≡ Ok (Block number flags stamp dest payload) → Contains emission.offsets offset → offset < limit

  -- how far a history has come at the moment of an emission
  record ComesTo (h : History C) (offset : ℕ) : Type 0 where
    events : offset < start_of h + length h.items
    sends : offset < start_of h + length (sent h)

  -- what an item of legal ones emitted is what the machine emits
  outs-legal : (s : State C) (front : List Item) (item : Item) (rest : List Item) → AreLegal w s (front ++ item ∷ rest)
      → item.outs ≡ outs_of (step w (after_items w s front) item.event)
  unfolding AreLegal after_items
  outs-legal s [] item rest legal = legal.1
  outs-legal s (first ∷ front) item rest legal = outs-legal (step w s first.event).after front item rest legal.2

  module _ (h : History C) (is_begun : Begins w h) (stream : h.opening.kind ≡ Stream) where
    comes-to : (emission : Emission) (is : IsEmittedAt w h.opening h.items emission) (offset : ℕ)
        → offset ≤ (after_items w h.opening is.front).sending.next → ComesTo h offset
    unfolding sent_by
    comes-to emission is offset low =
        let front = AreLegal-front w h.opening is.front (is.item ∷ is.rest)
        (subst (λ (items : List Item). IsLegal w (record { opening = h.opening; items = items })) is.joined is_begun.legal) in
        let advanced = items-advance w h.opening is.front (begins-endless w h is_begun stream) front in
        let begins = begins_next w h is_begun in
        let outs = ap length (outs-legal h.opening is.front is.item is.rest
        (subst (λ (items : List Item). IsLegal w (record { opening = h.opening; items = items })) is.joined is_begun.legal)) ∙ outs-many w (step w (after_items w h.opening is.front) is.item.event) in
        let all = ap length is.joined in
        let sent_all = ap (λ (items : List Item). length (sent_by items)) is.joined in
        let split = ap length (sent_by-append is.front (is.item ∷ is.rest)) in
        record {
          events = omega (arith, low, advanced.events, begins, all, length-append is.front (is.item ∷ is.rest));
          sends = omega (
            arith,
            low,
            advanced.sends,
            begins,
            sent_all,
            split,
            length-append (sent_by is.front) (is.item.outs ++ sent_by is.rest),
            length-append is.item.outs (sent_by is.rest),
            outs,
            is.among.1,
          );
        }

    block-comes_to : (emission : Emission) (number : ℕ) (flags : Flags) (stamp dest : ℕ) (payload : List ℕ) (offset : ℕ) → Contains (emitted w h) emission
        → read emission.datagram.bytes ≡ Ok (Block number flags stamp dest payload) → Contains emission.offsets offset → ComesTo h offset
    block-comes_to emission number flags stamp dest payload offset among reads named =
        let at = emission-at w h is_begun emission among in
        let spelled = emission-reads w h is_begun emission at in
        let moment = moment-at w h is_begun emission at in
        let same = same-packet emission.datagram.bytes _ _ spelled.reads reads in
        comes-to emission at offset
        (packet-below w _ _ _ (start_of h) _ emission at.emitting number flags stamp dest payload offset moment.cut same named)

    pub below-events : BlocksBelow h (start_of h + length h.items)
    below-events emission number flags stamp dest payload offset among reads named =
        (block-comes_to emission number flags stamp dest payload offset among reads named).events

    pub below-sent : BlocksBelow h (start_of h + length (sent h))
    below-sent emission number flags stamp dest payload offset among reads named =
        (block-comes_to emission number flags stamp dest payload offset among reads named).sends
