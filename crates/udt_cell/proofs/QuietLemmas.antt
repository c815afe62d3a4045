-- The calls of an application emit nothing, and no event answers that the events are spent.
use Rattle.std.proofs.Common.{◌≡◌, ℕ, ◌==◌, Bool, true, false, List, [], refl, sym, ◌∙◌, ap}
use Rattle.std.specs.Prelude.{◌≢◌, Option, Some, None, Result, Ok, Err, length, nat_le, if◌then◌else◌}
use Rattle.udt_model.specs.declared.answers.Refusal.{Refusal}
use Rattle.udt_model.specs.declared.answers.Refusal.TheVariants as refusal
use Rattle.udt_model.specs.declared.answers.SendNo.{SendNo}
use Rattle.udt_model.specs.declared.answers.SendNo.TheVariants as no
use Rattle.udt_model.specs.declared.packets.Kind.{Kind}
use Rattle.udt_model.specs.declared.packets.Kind.TheVariants as kind
use Rattle.udt_model.specs.Calls.{send_in, send_as, recv_in, recv_as, taken_as, answer_with, received_by}
use Rattle.udt_model.specs.Calls.{send_message_in, send_message_as, recv_message_in, recv_message_as, fitted, answer_message}
use Rattle.udt_model.specs.Events.{Send, Recv, SendMessage, RecvMessage, Tick, Close, Measure, at_moment, event, outs_of}
use Rattle.udt_model.specs.Events.{Sent, Received, SentMessage, ReceivedMessage, DidTick, DidClose}
use Rattle.udt_model.specs.Connections.{repeats}
use Rattle.udt_model.specs.Phases.{Phase, Link, Stands, Lost, Absent, link_of}
use Rattle.udt_model.specs.Phases as phase
use Rattle.udt_model.specs.Rate.{Ways}
use Rattle.udt_model.specs.ReceiveBlocks.{WholeMessage, next_message}
use Rattle.udt_model.specs.SendHalf.{send_answer, message_answer}
use Rattle.udt_model.specs.State.{State, Emission}
use Rattle.udt_model.specs.Step.{step}
use Rattle.udt_model.specs.Ticks.{tick_in}
use Rattle.udt_model.proofs.PhaseLemmas.{repeats-show}
use Rattle.udt_core.specs.Received.{received_in}

-- ---- the answers of a send

taken_unspent : (answer : Result ℕ SendNo) → taken_as answer ≢ Err refusal.EventsSpent
taken_unspent (Ok count) e = cc
taken_unspent (Err no.Again) e = cc
taken_unspent (Err no.Spent) e = cc
taken_unspent (Err no.TooLarge) e = cc

sent_is : (a b : Result ℕ Refusal) → Sent a ≡ Sent b → a ≡ b
sent_is a b e = cc

sent_message_is : (a b : Result ℕ Refusal) → SentMessage a ≡ SentMessage b → a ≡ b
sent_message_is a b e = cc

-- ---- the answers of a receive

if_unspent : (no_room none : Bool) (why : Refusal) (bytes : List ℕ) → why ≢ refusal.EventsSpent
    → (if no_room then Ok [] else (if none then Err why else Ok bytes)) ≢ Err refusal.EventsSpent
if_unspent true none why bytes not e = cc
if_unspent false true why bytes not e = not (cc)
if_unspent false false why bytes not e = cc

with_unspent : (why : Refusal) (room : ℕ) (bytes : List ℕ) → why ≢ refusal.EventsSpent
    → answer_with why room bytes ≢ Err refusal.EventsSpent
with_unspent why room bytes not = if_unspent (room == 0) (length bytes == 0) why bytes not

received_is : (a b : Result (List ℕ) Refusal) → Received a ≡ Received b → a ≡ b
received_is a b e = cc

fitted_unspent : (fits : Bool) (bytes : List ℕ) → (if fits then Ok bytes else Err refusal.TooLarge) ≢ Err refusal.EventsSpent
fitted_unspent true bytes e = cc
fitted_unspent false bytes e = cc

if_fitted_unspent : (no_room : Bool) (room : ℕ) (m : WholeMessage)
    → (if no_room then Ok [] else fitted room m) ≢ Err refusal.EventsSpent
if_fitted_unspent true room m e = cc
if_fitted_unspent false room m e = fitted_unspent (nat_le (length m.bytes) room) m.bytes e

message_unspent : (why : Refusal) (room : ℕ) (next : Option WholeMessage) → why ≢ refusal.EventsSpent
    → answer_message why room next ≢ Err refusal.EventsSpent
message_unspent why room None not = if_unspent (room == 0) true why [] not
message_unspent why room (Some m) not = if_fitted_unspent (room == 0) room m

received_message_is : (a b : Result (List ℕ) Refusal) → ReceivedMessage a ≡ ReceivedMessage b → a ≡ b
received_message_is a b e = cc

module _ {C : Type 0} where
  send_in_quiet : (s : State C) (bytes : List ℕ) (p : Link) → [] ≡ outs_of (send_in s bytes p)
  send_in_quiet s bytes Stands = refl
  send_in_quiet s bytes (Lost why) = refl
  send_in_quiet s bytes Absent = refl

  send_in_unspent : (s : State C) (bytes : List ℕ) (p : Link) (answer : Result ℕ Refusal)
      → Sent answer ≡ (send_in s bytes p).reply → answer ≢ Err refusal.EventsSpent
  send_in_unspent s bytes Stands answer e spent =
      taken_unspent (send_answer s.sending (length bytes)) (sym (sent_is _ _ e) ∙ spent)
  send_in_unspent s bytes (Lost why) answer e spent = cc
  send_in_unspent s bytes Absent answer e spent = cc

  send_as_quiet : (s : State C) (bytes : List ℕ) (k : Kind) → [] ≡ outs_of (send_as s bytes k)
  send_as_quiet s bytes kind.Stream = send_in_quiet s bytes (link_of s.phase)
  send_as_quiet s bytes kind.Message = refl

  send_as_unspent : (s : State C) (bytes : List ℕ) (k : Kind) (answer : Result ℕ Refusal)
      → Sent answer ≡ (send_as s bytes k).reply → answer ≢ Err refusal.EventsSpent
  send_as_unspent s bytes kind.Stream answer e spent = send_in_unspent s bytes (link_of s.phase) answer e spent
  send_as_unspent s bytes kind.Message answer e spent = cc

  send_message_in_quiet : (s : State C) (ttl : Option ℕ) (order : Bool) (bytes : List ℕ) (p : Link)
      → [] ≡ outs_of (send_message_in s ttl order bytes p)
  send_message_in_quiet s ttl order bytes Stands = refl
  send_message_in_quiet s ttl order bytes (Lost why) = refl
  send_message_in_quiet s ttl order bytes Absent = refl

  send_message_as_quiet : (s : State C) (ttl : Option ℕ) (order : Bool) (bytes : List ℕ) (k : Kind)
      → [] ≡ outs_of (send_message_as s ttl order bytes k)
  send_message_as_quiet s ttl order bytes kind.Stream = refl
  send_message_as_quiet s ttl order bytes kind.Message = send_message_in_quiet s ttl order bytes (link_of s.phase)

  send_message_in_unspent : (s : State C) (ttl : Option ℕ) (order : Bool) (bytes : List ℕ) (p : Link) (answer : Result ℕ Refusal)
      → SentMessage answer ≡ (send_message_in s ttl order bytes p).reply → answer ≢ Err refusal.EventsSpent
  send_message_in_unspent s ttl order bytes Stands answer e spent =
      taken_unspent (message_answer s.sending (length bytes)) (sym (sent_message_is _ _ e) ∙ spent)
  send_message_in_unspent s ttl order bytes (Lost why) answer e spent = cc
  send_message_in_unspent s ttl order bytes Absent answer e spent = cc

  send_message_as_unspent : (s : State C) (ttl : Option ℕ) (order : Bool) (bytes : List ℕ) (k : Kind) (answer : Result ℕ Refusal)
      → SentMessage answer ≡ (send_message_as s ttl order bytes k).reply → answer ≢ Err refusal.EventsSpent
  send_message_as_unspent s ttl order bytes kind.Stream answer e spent = cc
  send_message_as_unspent s ttl order bytes kind.Message answer e spent =
      send_message_in_unspent s ttl order bytes (link_of s.phase) answer e spent

  recv_in_quiet : (s : State C) (room : ℕ) (p : Link) → [] ≡ outs_of (recv_in s room p)
  recv_in_quiet s room Stands = refl
  recv_in_quiet s room (Lost why) = refl
  recv_in_quiet s room Absent = refl

  recv_in_unspent : (s : State C) (room : ℕ) (p : Link) (answer : Result (List ℕ) Refusal)
      → Received answer ≡ (recv_in s room p).reply → answer ≢ Err refusal.EventsSpent
  recv_in_unspent s room Stands answer e spent =
      with_unspent refusal.AgainRecv room (received_by s.receiving room) (λ (is : refusal.AgainRecv ≡ refusal.EventsSpent). cc)
      (sym (received_is _ _ e) ∙ spent)
  recv_in_unspent s room (Lost why) answer e spent =
      with_unspent (refusal.ConnLost why) room (received_by s.receiving room)
      (λ (is : refusal.ConnLost why ≡ refusal.EventsSpent). cc)
      (sym (received_is _ _ e) ∙ spent)
  recv_in_unspent s room Absent answer e spent = cc

  recv_as_quiet : (s : State C) (room : ℕ) (k : Kind) → [] ≡ outs_of (recv_as s room k)
  recv_as_quiet s room kind.Stream = recv_in_quiet s room (link_of s.phase)
  recv_as_quiet s room kind.Message = refl

  recv_as_unspent : (s : State C) (room : ℕ) (k : Kind) (answer : Result (List ℕ) Refusal)
      → Received answer ≡ (recv_as s room k).reply → answer ≢ Err refusal.EventsSpent
  recv_as_unspent s room kind.Stream answer e spent = recv_in_unspent s room (link_of s.phase) answer e spent
  recv_as_unspent s room kind.Message answer e spent = cc

  recv_message_in_quiet : (s : State C) (room : ℕ) (p : Link) → [] ≡ outs_of (recv_message_in s room p)
  recv_message_in_quiet s room Stands = refl
  recv_message_in_quiet s room (Lost why) = refl
  recv_message_in_quiet s room Absent = refl

  recv_message_as_quiet : (s : State C) (room : ℕ) (k : Kind) → [] ≡ outs_of (recv_message_as s room k)
  recv_message_as_quiet s room kind.Stream = refl
  recv_message_as_quiet s room kind.Message = recv_message_in_quiet s room (link_of s.phase)

  recv_message_in_unspent : (s : State C) (room : ℕ) (p : Link) (answer : Result (List ℕ) Refusal)
      → ReceivedMessage answer ≡ (recv_message_in s room p).reply → answer ≢ Err refusal.EventsSpent
  recv_message_in_unspent s room Stands answer e spent =
      message_unspent refusal.AgainRecv room (next_message s.receiving.blocks)
      (λ (is : refusal.AgainRecv ≡ refusal.EventsSpent). cc)
      (sym (received_message_is _ _ e) ∙ spent)
  recv_message_in_unspent s room (Lost why) answer e spent =
      message_unspent (refusal.ConnLost why) room (next_message s.receiving.blocks)
      (λ (is : refusal.ConnLost why ≡ refusal.EventsSpent). cc)
      (sym (received_message_is _ _ e) ∙ spent)
  recv_message_in_unspent s room Absent answer e spent = cc

  recv_message_as_unspent : (s : State C) (room : ℕ) (k : Kind) (answer : Result (List ℕ) Refusal)
      → ReceivedMessage answer ≡ (recv_message_as s room k).reply → answer ≢ Err refusal.EventsSpent
  recv_message_as_unspent s room kind.Stream answer e spent = cc
  recv_message_as_unspent s room kind.Message answer e spent = recv_message_in_unspent s room (link_of s.phase) answer e spent

module _ {C : Type 0} (w : Ways C) where
  pub send_quiet : (s : State C) (now : ℕ) (bytes : List ℕ) → [] ≡ outs_of (step w s (event now (Send bytes)))
  unfolding step
  send_quiet s now bytes = send_as_quiet (at_moment s now) bytes (at_moment s now).kind

  pub send_unspent : (s : State C) (now : ℕ) (bytes : List ℕ) (answer : Result ℕ Refusal)
      → Sent answer ≡ (step w s (event now (Send bytes))).reply → answer ≢ Err refusal.EventsSpent
  unfolding step
  send_unspent s now bytes answer e = send_as_unspent (at_moment s now) bytes (at_moment s now).kind answer e

  pub send_message_quiet : (s : State C) (now : ℕ) (ttl : Option ℕ) (order : Bool) (bytes : List ℕ)
      → [] ≡ outs_of (step w s (event now (SendMessage ttl order bytes)))
  unfolding step
  send_message_quiet s now ttl order bytes = send_message_as_quiet (at_moment s now) ttl order bytes (at_moment s now).kind

  pub send_message_unspent : (s : State C) (now : ℕ) (ttl : Option ℕ) (order : Bool) (bytes : List ℕ) (answer : Result ℕ Refusal)
      → SentMessage answer ≡ (step w s (event now (SendMessage ttl order bytes))).reply → answer ≢ Err refusal.EventsSpent
  unfolding step
  send_message_unspent s now ttl order bytes answer e =
      send_message_as_unspent (at_moment s now) ttl order bytes (at_moment s now).kind answer e

  pub recv_quiet : (s : State C) (now room : ℕ) → [] ≡ outs_of (step w s (event now (Recv room)))
  unfolding step
  recv_quiet s now room = recv_as_quiet (at_moment s now) room (at_moment s now).kind

  pub recv_unspent : (s : State C) (now room : ℕ) (answer : Result ℕ Refusal) (into : List ℕ)
      → Received (received_in answer into) ≡ (step w s (event now (Recv room))).reply → answer ≢ Err refusal.EventsSpent
  unfolding step
  recv_unspent s now room answer into e spent =
      recv_as_unspent (at_moment s now) room (at_moment s now).kind (received_in answer into) e
      (ap (λ a. received_in a into) spent)

  pub recv_message_quiet : (s : State C) (now room : ℕ) → [] ≡ outs_of (step w s (event now (RecvMessage room)))
  unfolding step
  recv_message_quiet s now room = recv_message_as_quiet (at_moment s now) room (at_moment s now).kind

  pub recv_message_unspent : (s : State C) (now room : ℕ) (answer : Result ℕ Refusal) (into : List ℕ)
      → ReceivedMessage (received_in answer into) ≡ (step w s (event now (RecvMessage room))).reply
      → answer ≢ Err refusal.EventsSpent
  unfolding step
  recv_message_unspent s now room answer into e spent =
      recv_message_as_unspent (at_moment s now) room (at_moment s now).kind (received_in answer into) e
      (ap (λ a. received_in a into) spent)

  pub close_done : (s : State C) (now : ℕ) → DidClose ≡ (step w s (event now Close)).reply
  unfolding step
  close_done s now = refl

  pub close_quiet : (s : State C) (now : ℕ) → [] ≡ outs_of (step w s (event now Close))
  unfolding step
  close_quiet s now = refl

  pub perf_quiet : (s : State C) (now : ℕ) → [] ≡ outs_of (step w s (event now Measure))
  unfolding step
  perf_quiet s now = refl

  repeats_done : (s : State C) (began again : ℕ) (next : Phase) (emission : Emission)
      → DidTick ≡ (repeats s began again next emission).reply
  repeats_done s began again next emission =
      repeats-show s began again next emission (λ outcome. DidTick ≡ outcome.reply)
      (record { fails = refl; again = refl; waits = refl })

  tick_in_done : (s : State C) (p : Phase) → DidTick ≡ (tick_in w s p).reply
  tick_in_done s phase.Opened = refl
  tick_in_done s (phase.Listening b) = refl
  tick_in_done s (phase.Connecting c again) = repeats_done s c.caller.began again _ _
  tick_in_done s (phase.Meeting m again) = repeats_done s m.caller.began again _ _
  tick_in_done s phase.Connected = refl
  tick_in_done s (phase.Broken why) = refl
  tick_in_done s (phase.Failed why) = refl
  tick_in_done s phase.Closing = refl
  tick_in_done s phase.Closed = refl

  pub tick_done : (s : State C) (now : ℕ) → DidTick ≡ (step w s (event now Tick)).reply
  unfolding step
  tick_done s now = tick_in_done (at_moment s now) (at_moment s now).phase
