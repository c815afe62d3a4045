-- How many blocks a stream's history sends: before each of its events no more than it has sent datagrams, or than it has events.
use Rattle.std.proofs.Common.{◌≡◌, ℕ, ◌+◌, ◌≤◌, true, List, [], ◌∷◌, ◌++◌, length, ap, ◌∙◌, sym, subst, arith}
use Rattle.std.proofs.lemmas.List.{length-append}
use Rattle.udt_model.specs.Emissions.{sent_by, sent}
use Rattle.udt_model.specs.History.{Item, History, start_of, taken_by, accepted_by, accepted, AreLegal}
use Rattle.udt_model.specs.Events.{Reply}
use Rattle.udt_model.specs.Rate.{Ways}
use Rattle.udt_model.specs.State.{State}
use Rattle.udt_model.specs.Step.{step}
use Rattle.udt_model.specs.declared.packets.Kind.TheVariants.{Stream}
use Rattle.udt_model.proofs.PhaseLemmas.{is_settled}
use Rattle.udt_model.proofs.SendingLemmas.{IsCut}
use Rattle.udt_model.proofs.StepLemmas.{step-keeps}
use Rattle.udt_laws.proofs.sent_blocks.AcceptedIsCut.{AreCutOf, blocks_of, event-parts, step-cut}
use Rattle.udt_laws.proofs.sent_blocks.SentBlocks.{begins-well}
use Rattle.udt_laws.proofs.sockets.Begins.{Begins, begins_next}
use Rattle.udt_laws.proofs.sent_blocks.NamedWasSent.{IsEndless, stays-endless, begins-endless, step-advances, outs-many}

module _ {C : Type 0} (w : Ways C) where
  -- before each of these items no offset from this one on was sent
  abbrev pub SendsBelow : ℕ → State C → List Item → Type 0
  SendsBelow high s [] = Unit {0}
  SendsBelow high s (item ∷ items) = (s.sending.next ≤ high) × SendsBelow high (step w s item.event).after items

  module _ (high : ℕ) where
    -- as many were sent as datagrams at most
    sent-below : (s : State C) (items : List Item) → IsEndless w s → AreLegal w s items
        → s.sending.next + length (sent_by items) ≤ high → SendsBelow high s items
    unfolding AreLegal sent_by
    sent-below s [] endless legal fits = tt
    sent-below s (item ∷ items) endless legal fits =
        let advances = step-advances w s item.event endless.none in
        let outs = ap length legal.1 ∙ outs-many w (step w s item.event) in
        let both = length-append item.outs (sent_by items) in (
          omega (arith, fits),
          sent-below (step w s item.event).after items (stays-endless w s item.event endless) legal.2 (omega (arith, advances.sends, outs, both, fits)),
        )

    -- and as events at most
    events-below : (s : State C) (items : List Item) → IsEndless w s → s.sending.next + length items ≤ high → SendsBelow high s items
    events-below s [] endless fits = tt
    events-below s (item ∷ items) endless fits =
        let advances = step-advances w s item.event endless.none in (
          omega (arith, fits),
          events-below (step w s item.event).after items (stays-endless w s item.event endless) (omega (arith, advances.once, fits)),
        )

    -- and, of a socket of any kind, as the bytes that it accepted
    accepted-below : (s : State C) (start : ℕ) (blocks : List (List ℕ)) (items : List Item) → is_settled s.phase ≡ true → IsCut s.sending start blocks
        → AreLegal w s items
        → start + length blocks + length (accepted_by items) ≤ high → SendsBelow high s items
    unfolding AreLegal accepted_by
    accepted-below s start blocks [] settled cut legal fits = tt
    accepted-below s start blocks (item ∷ items) settled cut legal fits =
        let more = subst (λ (reply : Reply). AreCutOf (blocks_of s item.event) (taken_by item.event.act reply)) (sym legal.0)
        (event-parts w s item.event cut.payload) in
        let both = length-append (taken_by item.event.act item.reply) (accepted_by items) in
        let longer = length-append blocks (blocks_of s item.event) in (
          omega (arith, cut.sent_to, cut.count, fits),
          accepted-below (step w s item.event).after start (blocks ++ blocks_of s item.event) items
              ((step-keeps w s item.event settled).settled settled) (step-cut w start blocks s item.event settled cut) legal.2
              (omega (arith, more.few, both, longer, fits)),
        )

  module _ (h : History C) (begins : Begins w h) where
    pub sends-below_sent : h.opening.kind ≡ Stream → SendsBelow (start_of h + length (sent h)) h.opening h.items
    sends-below_sent stream =
        sent-below (start_of h + length (sent h)) h.opening h.items (begins-endless w h begins stream) begins.legal
        (omega (arith, begins_next w h begins))

    pub sends-below_events : h.opening.kind ≡ Stream → SendsBelow (start_of h + length h.items) h.opening h.items
    sends-below_events stream =
        events-below (start_of h + length h.items) h.opening h.items (begins-endless w h begins stream) (omega (arith, begins_next w h begins))

    pub sends-below_accepted : SendsBelow (start_of h + length (accepted h)) h.opening h.items
    sends-below_accepted =
        let well = begins-well w h begins in
        accepted-below (start_of h + length (accepted h)) h.opening (start_of h) [] h.items well.settled well.cut begins.legal (omega arith)
