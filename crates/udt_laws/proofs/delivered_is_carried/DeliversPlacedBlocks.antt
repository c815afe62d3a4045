-- What a stream socket delivers over a history: a front of blocks that meet whatever each block meets that an arrival places.
use Rattle.std.proofs.Common.{◌≡◌, ◌∙◌, ℕ, List, [], ◌∷◌, ◌++◌, Some, Ok, refl, sym, subst}
use Rattle.std.proofs.lemmas.List.{append_assoc, append-nil}
use Rattle.udt_model.specs.declared.addresses.Addr.{Addr}
use Rattle.udt_model.specs.Phases.{Phase, Link, Stands, Lost, Absent, link_of}
use Rattle.udt_model.specs.Phases as phase
use Rattle.udt_model.specs.declared.answers.Refusal.TheVariants as refusal
use Rattle.udt_model.specs.declared.packets.Flags.{Flags}
use Rattle.udt_model.specs.declared.packets.Kind.{Kind}
use Rattle.udt_model.specs.declared.packets.Kind.TheVariants as kind
use Rattle.udt_model.specs.declared.sockets.ExpOutcome.{ExpOutcome}
use Rattle.udt_model.specs.declared.sockets.ExpOutcome.TheVariants as exp
use Rattle.udt_model.specs.Arrivals.{on_read}
use Rattle.udt_model.specs.Calls.{send_in, send_as, recv_in, recv_as, send_message_as, recv_message_as, pack_in}
use Rattle.udt_model.specs.Connections.{repeats}
use Rattle.udt_model.specs.Events.{Act, Send, Recv, SendMessage, RecvMessage, Pack, Tick, Arrive, Event, Outcome, at_moment}
use Rattle.udt_model.specs.History.{Item, given_by, delivered_by, after_items, AreLegal}
use Rattle.udt_model.specs.Numbers.{near}
use Rattle.udt_model.specs.Rate.{Ways}
use Rattle.udt_model.specs.ReceiveBlocks.{ReceiveBlocks}
use Rattle.udt_model.specs.State.{State, Emission}
use Rattle.udt_model.specs.Step.{on_act, step}
use Rattle.udt_model.specs.Ticks.{exp_outcome, after_exp, after_reports, tick_in}
use Rattle.udt_model.specs.Wire.{Block, read}
use Rattle.std.specs.Prelude.{Bool, Option}
use Rattle.udt_model.proofs.ArrivalLemmas.{arrival-shows}
use Rattle.udt_model.proofs.PhaseLemmas.{repeats-show}
use Rattle.udt_model.proofs.StepLemmas.{step-keeps_name}
use Rattle.udt_laws.proofs.delivered_is_carried.ReportsLeave.{reports-leave, ack2-leaves}
use Rattle.udt_laws.proofs.delivered_is_carried.GivenIsOfBlocks.{Kept, keep-receive, keep-arrival, IsPrefixOf, kept-front}

module _ {C : Type 0} where
  -- each block that an arrival may place in this state meets this
  abbrev pub MeetsAct : (ℕ → List ℕ → Type 0) → State C → Act → Type 0
  MeetsAct P s (Arrive from bytes) =
      (number : ℕ) (flags : Flags) (stamp : ℕ) (payload : List ℕ) (offset : ℕ) → from ≡ s.peer.addr
      → read bytes ≡ Ok (Block number flags stamp s.own payload) → near s.receiving.isn s.receiving.top number ≡ Some offset
      → P offset payload
  MeetsAct P s act = Unit {0}

  -- a moment changes nothing of this
  pub meets-at_moment : (P : ℕ → List ℕ → Type 0) (s : State C) (now : ℕ) (act : Act) → MeetsAct P s act → MeetsAct P (at_moment s now) act
  meets-at_moment P s now (Arrive from bytes) meets = meets
  meets-at_moment P s now act meets = tt

  -- an outcome keeps the half, with what it gave
  abbrev Keeps : (ℕ → List ℕ → Type 0) → ℕ → List ℕ → Outcome C → Type 0
  Keeps P start got outcome = Kept P start outcome.after.receiving.blocks (got ++ given_by outcome.reply)

-- nothing is given
keep-none : (P : ℕ → List ℕ → Type 0) (start : ℕ) (b : ReceiveBlocks) (got : List ℕ) → Kept P start b got → Kept P start b (got ++ [])
keep-none P start b got kept = subst (Kept P start b) (sym (append-nil got)) kept

module _ {C : Type 0} (w : Ways C) where
  -- and so does each that these items may place
  abbrev pub AllMeet : (ℕ → List ℕ → Type 0) → State C → List Item → Type 0
  AllMeet P s [] = Unit {0}
  AllMeet P s (item ∷ items) = MeetsAct P s item.event.act × AllMeet P (step w s item.event).after items

  module _ (P : ℕ → List ℕ → Type 0) (start : ℕ) (s : State C) (got : List ℕ) (kept : Kept P start s.receiving.blocks got)
      (stream : s.kind ≡ kind.Stream) where
    nothing : Kept P start s.receiving.blocks (got ++ [])
    nothing = keep-none P start s.receiving.blocks got kept

    keep-send : (bytes : List ℕ) (link : Link) → Keeps P start got (send_in s bytes link)
    keep-send bytes Stands = nothing
    keep-send bytes (Lost why) = nothing
    keep-send bytes Absent = nothing

    keep-recv : (room : ℕ) (link : Link) → Keeps P start got (recv_in s room link)
    keep-recv room Stands = keep-receive P start s.receiving got room refusal.AgainRecv kept
    keep-recv room (Lost why) = keep-receive P start s.receiving got room (refusal.ConnLost why) kept
    keep-recv room Absent = nothing

    keep-send_as : (bytes : List ℕ) (k : Kind) → Keeps P start got (send_as s bytes k)
    keep-send_as bytes kind.Stream = keep-send bytes (link_of s.phase)
    keep-send_as bytes kind.Message = nothing

    keep-recv_as : (room : ℕ) (k : Kind) → Keeps P start got (recv_as s room k)
    keep-recv_as room kind.Stream = keep-recv room (link_of s.phase)
    keep-recv_as room kind.Message = nothing

    keep-send_message : (ttl : Option ℕ) (order : Bool) (bytes : List ℕ) (k : Kind) → s.kind ≡ k
        → Keeps P start got (send_message_as s ttl order bytes k)
    keep-send_message ttl order bytes kind.Stream is = nothing
    keep-send_message ttl order bytes kind.Message is = absurd (cc)

    keep-recv_message : (room : ℕ) (k : Kind) → s.kind ≡ k → Keeps P start got (recv_message_as s room k)
    keep-recv_message room kind.Stream is = nothing
    keep-recv_message room kind.Message is = absurd (cc)

    keep-pack : (link : Link) → Keeps P start got (pack_in w s link)
    keep-pack Stands = nothing
    keep-pack (Lost why) = nothing
    keep-pack Absent = nothing

    told : Kept P start (after_reports s).receiving.blocks (got ++ [])
    told = rw ((reports-leave s.receiving s.last s.rtt).blocks) nothing

    keep-exp : (what : ExpOutcome) → Kept P start (after_exp w (after_reports s) what).receiving.blocks (got ++ [])
    keep-exp exp.NotDue = told
    keep-exp exp.Breaks = told
    keep-exp exp.LosesAll = told
    keep-exp exp.KeepsAlive = told

    keep-repeats : (began again : ℕ) (next : Phase) (emission : Emission) → Keeps P start got (repeats s began again next emission)
    keep-repeats began again next emission =
        repeats-show s began again next emission (Keeps P start got) (record { fails = nothing; again = nothing; waits = nothing })

    keep-tick : (phase : Phase) → Keeps P start got (tick_in w s phase)
    keep-tick phase.Connected = keep-exp (exp_outcome s)
    keep-tick (phase.Connecting c again) = keep-repeats c.caller.began again _ _
    keep-tick (phase.Meeting m again) = keep-repeats m.caller.began again _ _
    keep-tick phase.Closing = nothing
    keep-tick _ = nothing

    keep-on_read : (from : Addr) (bytes : List ℕ) → MeetsAct P s (Arrive from bytes) → Keeps P start got (on_read w s from (read bytes))
    keep-on_read from bytes meets = arrival-shows w s from (Keeps P start got) (read bytes) (record {
      passed = λ counters answer differs. nothing;
      noticed = λ counters answer differs connected. nothing;
      brought = λ number flags stamp payload connected sender is.
          keep-none P start _ got
          (keep-arrival P start s.receiving got s.last number flags payload
          (λ offset is_near. meets number flags stamp payload offset sender is is_near) kept);
      dropped = λ message stamp first last range connected sender is messages taken. absurd (cc);
      acknowledged = λ number stamp body offset connected sender is acks. nothing;
      reported = λ stamp ranges connected sender is. nothing;
      confirmed = λ number ack connected found. rw ((ack2-leaves s.receiving number).blocks) nothing;
      ended = λ connected. nothing;
      again = λ stamp dest shake answer connected sender is same answers. nothing;
      shaken = λ next peer origin answer emissions differs drops unsettled is. nothing;
      linked = λ peer origin emissions unsettled is. nothing;
    })

    keep-act : (act : Act) → MeetsAct P s act → Keeps P start got (on_act w s act)
    keep-act (Send bytes) meets = keep-send_as bytes s.kind
    keep-act (Recv room) meets = keep-recv_as room s.kind
    keep-act (SendMessage ttl order bytes) meets = keep-send_message ttl order bytes s.kind refl
    keep-act (RecvMessage room) meets = keep-recv_message room s.kind refl
    keep-act Pack meets = keep-pack (link_of s.phase)
    keep-act Tick meets = keep-tick s.phase
    keep-act (Arrive from bytes) meets = keep-on_read from bytes meets
    keep-act _ meets = nothing

  module _ (P : ℕ → List ℕ → Type 0) (start : ℕ) where
    keep-step : (s : State C) (got : List ℕ) (event : Event) → s.kind ≡ kind.Stream → MeetsAct P s event.act → Kept P start s.receiving.blocks got
        → Keeps P start got (step w s event)
    unfolding step
    keep-step s got event stream meets kept =
        keep-act P start (at_moment s event.now) got kept stream event.act (meets-at_moment P s event.now event.act meets)

    -- over all items, the half keeps what it gave, and what they delivered
    pub keep-items : (s : State C) (items : List Item) (got : List ℕ) → s.kind ≡ kind.Stream → AreLegal w s items → AllMeet P s items
        → Kept P start s.receiving.blocks got
        → Kept P start (after_items w s items).receiving.blocks (got ++ delivered_by items)
    unfolding after_items AreLegal delivered_by
    keep-items s [] got stream legal meets kept = keep-none P start s.receiving.blocks got kept
    keep-items s (item ∷ items) got stream legal meets kept =
        let next = (step w s item.event).after in
        let after = keep-step s got item.event stream meets.0 kept in
        let given = subst (λ reply. Kept P start next.receiving.blocks (got ++ given_by reply)) (sym legal.0) after in
        let all = keep-items next items (got ++ given_by item.reply) ((step-keeps_name w s item.event).kind ∙ stream) legal.2 meets.1 given in
        subst (Kept P start (after_items w next items).receiving.blocks)
        (append_assoc got (given_by item.reply) (delivered_by items)) all

    -- so what a history delivered that began with a half that had given nothing is a front
    pub delivers-front_of : (s : State C) (items : List Item) → s.kind ≡ kind.Stream → AreLegal w s items → AllMeet P s items → Kept P start s.receiving.blocks []
        → IsPrefixOf P start (delivered_by items)
    delivers-front_of s items stream legal meets kept =
        kept-front P start _ (delivered_by items) (keep-items s items [] stream legal meets kept)
