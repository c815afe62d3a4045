-- What a listener promises a place to is a request.
use Rattle.std.proofs.Common.{◌≡◌, ℕ, true, false, List, [], ◌∷◌, Ok, refl, ap, ◌∙◌, sym, subst, inl, inr}
use Rattle.std.specs.Prelude.{Option, Some, None, Result, ◌==◌, if◌then◌else◌}
use Rattle.std.specs.List.{Contains}
use Rattle.udt_model.specs.declared.addresses.Addr.{Addr}
use Rattle.udt_model.specs.declared.answers.Heard.{Heard}
use Rattle.udt_model.specs.declared.answers.Heard.TheVariants as heard
use Rattle.udt_model.specs.declared.answers.Origin.{Origin}
use Rattle.udt_model.specs.declared.answers.Peer.{Peer}
use Rattle.udt_model.specs.declared.handshakes.Asked.{Asked}
use Rattle.udt_model.specs.declared.handshakes.Asked.TheVariants as asks
use Rattle.udt_model.specs.declared.packets.Malformed.{Malformed}
use Rattle.udt_model.specs.declared.packets.Shake.{Shake}
use Rattle.udt_model.specs.Arrivals.{heard_now, is_own, on_own, on_connected, on_read}
use Rattle.udt_model.specs.Counted.{count_foreign, on_stale}
use Rattle.udt_model.specs.Events.{Act, Arrive, Event, DidHear, answered, at_moment}
use Rattle.udt_model.specs.Handshakes.{asked}
use Rattle.udt_model.specs.History.{Item, AreLegal}
use Rattle.udt_model.specs.Phases.{Phase}
use Rattle.udt_model.specs.Rate.{Ways}
use Rattle.udt_model.specs.Shaking.{answer_again, answers_again}
use Rattle.udt_model.specs.State.{State, Emission}
use Rattle.udt_model.specs.Step.{on_act, step}
use Rattle.udt_model.specs.Wire.{Packet, Handshake, read}
use Rattle.udt_model.proofs.ArrivalLemmas.{Shakes, packet-shows}
use Rattle.udt_model.proofs.ArrivalLemmas as arrives
use Rattle.udt_model.proofs.Members.{contained-cases, none-contained}

module _ {C : Type 0} where
  -- a socket that is connected promises none
  again-no_request : (s : State C) (answer : Option Asked) → (answers_again s answer).reply ≡ DidHear heard.Request → ⊥
  again-no_request s None is = cc
  again-no_request s (Some answer) is = cc

  shakes-request : (s : State C) (from : Addr) (result : Result Packet Malformed) (next : Phase) (peer : Peer)
      (from_whom : Origin)
      (answer : Heard) (emissions : List Emission) (stamp dest : ℕ) (shake : Shake)
      → Shakes s from result next peer from_whom answer emissions
      → result ≡ Ok (Handshake stamp dest shake) → DidHear answer ≡ DidHear heard.Request
      → asked shake.ask ≡ asks.Requests
  shakes-request s from result _ _ _ _ _ stamp dest shake
      (arrives.GivesCookie b stamp' shake' reply is reads asks named judges) carries same = absurd (cc)
  shakes-request s from result _ _ _ _ _ stamp dest shake
      (arrives.Promises b stamp' shake' is reads requests named judges) carries same =
      let shake_is : shake' ≡ shake = cc in
      ap (λ (x : Shake). asked x.ask) (sym shake_is) ∙ requests
  shakes-request s from result _ _ _ _ _ stamp dest shake
      (arrives.Refuses b stamp' shake' reply is reads asks named judges) carries same = absurd (cc)
  shakes-request s from result _ _ _ _ _ stamp dest shake
      (arrives.TakesCookie c again stamp' dest' shake' is reads sees) carries same = absurd (cc)
  shakes-request s from result _ _ _ _ _ stamp dest shake
      (arrives.IsRefused c again stamp' dest' shake' is reads sees) carries same = absurd (cc)
  shakes-request s from result _ _ _ _ _ stamp dest shake
      (arrives.Adopts m again stamp' dest' shake' peer is reads sees) carries same = absurd (cc)
  shakes-request s from result _ _ _ _ _ stamp dest shake
      (arrives.AnswersAdopted m again stamp' dest' shake' is reads sees) carries same = absurd (cc)

module _ {C : Type 0} (w : Ways C) where
  connected-no_request : (s : State C) (from : Addr) (stamp dest : ℕ) (shake : Shake)
      → (on_connected w s from (Handshake stamp dest shake)).reply ≡ DidHear heard.Request → ⊥
  connected-no_request s from stamp dest shake is =
      elim (is_own s from (Handshake stamp dest shake)) as (λ own. (
      if own
      then on_own w (heard_now s) (Handshake stamp dest shake)
      else answered (record s { counters = count_foreign s.counters }) (DidHear heard.Foreign)).reply
      ≡ DidHear heard.Request → ⊥) [
        | true ↦ elim (shake.id == s.peer.id) as (λ own. (
            if own
            then answers_again (heard_now s) (answer_again s.origin (asked shake.ask))
            else on_stale (heard_now s)).reply ≡ DidHear heard.Request → ⊥) [
              | true ↦ λ same. again-no_request (heard_now s) _ same
              | false ↦ λ same. cc
            ]
        | false ↦ λ same. cc
      ] is

  read-request : (s : State C) (from : Addr) (raw : List ℕ) (stamp dest : ℕ) (shake : Shake)
      (result : Result Packet Malformed)
      → result ≡ Ok (Handshake stamp dest shake) → (on_read w s from result).reply ≡ DidHear heard.Request
      → asked shake.ask ≡ asks.Requests
  read-request s from raw stamp dest shake (Ok packet) reads is =
      let packet_is : packet ≡ Handshake stamp dest shake = cc in
      packet-shows w s from (Ok packet) (λ outcome. outcome.reply ≡ DidHear heard.Request
      → asked shake.ask ≡ asks.Requests) (record {
        stale = λ same. absurd (cc);
        shaken = λ next peer from_whom answer emissions placed dropped unsettled shakes same.
            shakes-request s from (Ok packet) next peer from_whom answer emissions stamp dest shake shakes reads same;
        linked = λ peer from_whom emissions unsettled links same. absurd (cc);
      }) packet s.phase refl refl (λ connected same. absurd (
      connected-no_request s from stamp dest shake
      (subst (λ (p : Packet). (on_connected w s from p).reply ≡ DidHear heard.Request) packet_is same))) is
  read-request s from raw stamp dest shake _ reads is = absurd (cc)

  step-request : (s : State C) (event : Event) (from : Addr) (raw : List ℕ) (stamp dest : ℕ) (shake : Shake)
      → event.act ≡ Arrive from raw
      → read raw ≡ Ok (Handshake stamp dest shake) → (step w s event).reply ≡ DidHear heard.Request
      → asked shake.ask ≡ asks.Requests
  unfolding step
  step-request s event from raw stamp dest shake is reads same =
      read-request (at_moment s event.now) from raw stamp dest shake (read raw) reads
      (subst (λ (act : Act). (on_act w (at_moment s event.now) act).reply ≡ DidHear heard.Request) is same)

  -- so it is with an item of a legal history that was answered so
  pub promised-request : (s : State C) (items : List Item) (item : Item) (from : Addr) (raw : List ℕ) (stamp dest : ℕ)
      (shake : Shake)
      → AreLegal w s items → Contains items item → item.event.act ≡ Arrive from raw
      → read raw ≡ Ok (Handshake stamp dest shake)
      → item.reply ≡ DidHear heard.Request → asked shake.ask ≡ asks.Requests
  unfolding AreLegal
  promised-request s [] item from raw stamp dest shake legal among is reads same = absurd (none-contained item among)
  promised-request s (first ∷ others) item from raw stamp dest shake legal among is reads same = elim
      (contained-cases first others item among) [
        | inl here ↦ step-request s first.event from raw stamp dest shake (ap (λ (i : Item). i.event.act) here ∙ is) reads
            (sym legal.0 ∙ ap (λ (i : Item). i.reply) here ∙ same)
        | inr later ↦ promised-request (step w s first.event).after others item from raw stamp dest shake legal.2 later is
            reads same
      ]
