-- A socket that promises a place to a request listens, and the request came without a destination.
use Rattle.std.proofs.Common.{◌≡◌, ℕ, false, true, List, [], ◌∷◌, Option, Some, None, Ok, Err, refl}
use Rattle.std.specs.Prelude.{◌==◌, Result, if◌then◌else◌}
use Rattle.udt_model.specs.declared.addresses.Addr.{Addr}
use Rattle.udt_model.specs.declared.answers.Dropped.{Dropped}
use Rattle.udt_model.specs.declared.answers.Dropped.TheVariants as dropped
use Rattle.udt_model.specs.declared.answers.Heard.{Heard}
use Rattle.udt_model.specs.declared.answers.Heard.TheVariants as heard
use Rattle.udt_model.specs.declared.answers.Origin.{Origin}
use Rattle.udt_model.specs.declared.answers.Peer.{Peer}
use Rattle.udt_model.specs.declared.answers.Placed.{Placed}
use Rattle.udt_model.specs.declared.answers.Placed.TheVariants as placing
use Rattle.udt_model.specs.declared.handshakes.Asked.{Asked}
use Rattle.udt_model.specs.declared.handshakes.Asked.TheVariants as asks
use Rattle.udt_model.specs.declared.handshakes.Verdict.TheVariants as verdict
use Rattle.udt_model.specs.declared.packets.AckBody.{AckBody}
use Rattle.udt_model.specs.declared.packets.Flags.{Flags}
use Rattle.udt_model.specs.declared.packets.Kind.{Kind}
use Rattle.udt_model.specs.declared.packets.Kind.TheVariants as kind
use Rattle.udt_model.specs.declared.packets.Malformed.{Malformed}
use Rattle.udt_model.specs.declared.packets.Shake.{Shake}
use Rattle.udt_model.specs.declared.sockets.SentAck.{SentAck}
use Rattle.udt_model.specs.Arrivals.{has_bad_length, heard_of, is_own, heard_now, on_own, on_block, arrived_so, dropped_so, drop_as, confirmed_so, acked_so, reported_so, on_connected, on_read}
use Rattle.udt_model.specs.Counted.{on_stale, count_stale, count_foreign}
use Rattle.udt_model.specs.Events.{DidHear, Outcome, answered}
use Rattle.udt_model.specs.Handshakes.{asked, judged}
use Rattle.udt_model.specs.Phases.{Phase, Backlog, has_place}
use Rattle.udt_model.specs.Phases as phase
use Rattle.udt_model.specs.Losses.{LostRange}
use Rattle.udt_model.specs.Rate.{Ways}
use Rattle.udt_model.specs.ReceiveHalf.{Receiving, block_answer, after_block, after_drop, drop_answer}
use Rattle.udt_model.specs.SendReports.{Acking, Acks, IsStale, acking, acked_number, entering}
use Rattle.udt_model.specs.Shaking.{answer_again, answers_again, on_shake_again}
use Rattle.udt_model.specs.State.{State, Emission}
use Rattle.udt_model.specs.Timing.{last_under}
use Rattle.udt_model.specs.Wire.{Packet, WireRange, Block, Handshake, KeepAlive, Ack, Nak, Shutdown, Ack2, DropAsk, read}
use Rattle.udt_model.proofs.ArrivalLemmas as arrives
use Rattle.udt_model.proofs.ArrivalLemmas.{Shakes, packet-shows}

-- a listener in this state promises a place to a request
pub record IsPromised {C : Type 0} (s : State C) (from : Addr) (raw : List ℕ) : Type 0 where
  pub backlog : Backlog
  pub stamp : ℕ
  pub shake : Shake
  pub listens : s.phase ≡ phase.Listening backlog
  pub reads : read raw ≡ Ok (Handshake stamp 0 shake)
  pub asks : asked shake.ask ≡ asks.Requests
  pub named : (shake.id == 0) ≡ false
  pub judges : judged backlog.listening shake from s.last (has_place backlog) ≡ verdict.Request

module _ {C : Type 0} where
  shakes-promise : (s : State C) (from : Addr) (raw : List ℕ) (next : Phase) (peer : Peer) (from_whom : Origin) (answer : Heard)
      (emissions : List Emission) → Shakes s from (read raw) next peer from_whom answer emissions → answer ≡ heard.Request
      → IsPromised s from raw
  shakes-promise s from raw _ _ _ _ _ (arrives.Promises b stamp shake is reads asks named judges) request = record {
    backlog = b;
    stamp = stamp;
    shake = shake;
    listens = is;
    reads = reads;
    asks = asks;
    named = named;
    judges = judges;
  }
  shakes-promise s from raw _ _ _ _ _ (arrives.GivesCookie b stamp shake answer is reads asks named judges) request = absurd (cc)
  shakes-promise s from raw _ _ _ _ _ (arrives.Refuses b stamp shake answer is reads asks named judges) request = absurd (cc)
  shakes-promise s from raw _ _ _ _ _ (arrives.TakesCookie c again stamp dest shake is reads sees) request = absurd (cc)
  shakes-promise s from raw _ _ _ _ _ (arrives.IsRefused c again stamp dest shake is reads sees) request = absurd (cc)
  shakes-promise s from raw _ _ _ _ _ (arrives.Adopts m again stamp dest shake peer is reads sees) request = absurd (cc)
  shakes-promise s from raw _ _ _ _ _ (arrives.AnswersAdopted m again stamp dest shake is reads sees) request = absurd (cc)

-- it answers that it promised a place
abbrev pub Promises : {C : Type 0} → Outcome C → Type 0
Promises outcome = outcome.reply ≡ DidHear heard.Request

-- ---- a connected socket promises none

placed-none : (placed : Placed) → heard_of placed ≡ heard.Request → ⊥
placed-none placing.New is = cc
placed-none placing.Double is = cc
placed-none placing.Below is = cc
placed-none placing.Above is = cc

same-heard : (one other : Heard) → DidHear one ≡ DidHear other → one ≡ other
same-heard one other is = cc

module _ {C : Type 0} where
  block-none : (s : State C) (number : ℕ) (flags : Flags) (bytes : List ℕ) → Promises (on_block s number flags bytes) → ⊥
  block-none s number flags bytes is =
      elim (has_bad_length s.receiving bytes) as (λ bad. Promises (
      if bad
      then answered (record s { counters = count_stale s.counters }) (DidHear heard.BadLength)
      else arrived_so (record s { receiving = after_block s.receiving s.last number flags bytes }) (block_answer s.receiving number)) → ⊥) [
        | true ↦ λ e. cc
        | false ↦ λ e. placed-none (block_answer s.receiving number).placed (same-heard _ _ e)
      ] is

  dropped-none : (s : State C) (receiving : Receiving) (d : Dropped) → Promises (dropped_so s receiving d) → ⊥
  dropped-none s receiving (dropped.Taken gap) is = cc
  dropped-none s receiving dropped.Stale is = cc

  drop-none : (s : State C) (first last : ℕ) (k : Kind) → Promises (drop_as s first last k) → ⊥
  drop-none s first last kind.Stream is = cc
  drop-none s first last kind.Message is =
      dropped-none s (after_drop s.receiving s.last first last) (drop_answer s.receiving first last) is

  again-none : (s : State C) (answer : Option Asked) → Promises (answers_again s answer) → ⊥
  again-none s None is = cc
  again-none s (Some asked) is = cc

  shake-none : (s : State C) (shake : Shake) → Promises (on_shake_again s shake) → ⊥
  shake-none s shake is =
      elim (shake.id == s.peer.id) as (λ own. Promises (
      if own then answers_again s (answer_again s.origin (asked shake.ask)) else on_stale s) → ⊥) [
        | true ↦ λ e. again-none s (answer_again s.origin (asked shake.ask)) e
        | false ↦ λ e. cc
      ] is

  ack2-none : (s : State C) (number : ℕ) (found : Option SentAck) → Promises (confirmed_so s number found) → ⊥
  ack2-none s number None is = cc
  ack2-none s number (Some ack) is = cc

module _ {C : Type 0} (w : Ways C) where
  ack-none : (s : State C) (number : ℕ) (body : AckBody) (a : Acking) → Promises (acked_so w s number body a) → ⊥
  ack-none s number body (Acks offset) is = cc
  ack-none s number body IsStale is = cc

  nak-none : (s : State C) (ranges : List WireRange) (entered : List LostRange) → Promises (reported_so w s ranges entered) → ⊥
  nak-none s ranges [] is = cc
  nak-none s ranges (entered ∷ others) is = cc

  own-none : (s : State C) (packet : Packet) → Promises (on_own w s packet) → ⊥
  own-none s (Block number flags stamp dest bytes) is = block-none s number flags bytes is
  own-none s (Handshake stamp dest shake) is = shake-none s shake is
  own-none s (KeepAlive stamp dest) is = cc
  own-none s (Ack number stamp dest body) is = ack-none s number body (acking s.sending (acked_number body)) is
  own-none s (Nak stamp dest ranges) is = nak-none s ranges (entering s.sending ranges) is
  own-none s (Shutdown stamp dest) is = cc
  own-none s (Ack2 number stamp dest) is = ack2-none s number (last_under number s.receiving.history) is
  own-none s (DropAsk message stamp dest first last) is = drop-none s first last s.kind is

  connected-none : (s : State C) (from : Addr) (packet : Packet) → Promises (on_connected w s from packet) → ⊥
  connected-none s from packet is =
      elim (is_own s from packet) as (λ own. Promises (
      if own
      then on_own w (heard_now s) packet
      else answered (record s { counters = count_foreign s.counters }) (DidHear heard.Foreign)) → ⊥) [
        | true ↦ λ e. own-none (heard_now s) packet e
        | false ↦ λ e. cc
      ] is

  -- ---- so who promises one listens

  pub request-promised : (s : State C) (from : Addr) (raw : List ℕ) (result : Result Packet Malformed) → read raw ≡ result
      → Promises (on_read w s from result) → IsPromised s from raw
  request-promised s from raw (Err why) reads is = absurd (cc)
  request-promised s from raw (Ok packet) reads is =
      packet-shows w s from (read raw) (λ outcome. Promises outcome → IsPromised s from raw) (record {
        stale = λ e. absurd (cc);
        shaken = λ next peer origin answer emissions placed dropped unsettled shakes e.
            shakes-promise s from raw next peer origin answer emissions shakes (same-heard _ _ e);
        linked = λ peer origin emissions unsettled links e. absurd (cc);
      }) packet s.phase reads refl (λ connected e. absurd (connected-none s from packet e)) is
