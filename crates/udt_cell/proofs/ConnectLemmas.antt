-- The events by which a socket comes by a connection emit nothing, and answer never that the events are spent.
use Rattle.std.proofs.Common.{◌≡◌, ℕ, Bool, true, false, List, [], ◌∷◌, refl, sym, ◌∙◌}
use Rattle.std.specs.Prelude.{◌≢◌, Result, Err}
use Rattle.udt_model.specs.declared.addresses.Addr.{Addr}
use Rattle.udt_model.specs.declared.answers.Refusal.{Refusal}
use Rattle.udt_model.specs.declared.answers.Refusal.TheVariants as refusal
use Rattle.udt_model.specs.Connections.{begun, is_backlog, has_port, accept_answer, first_offered}
use Rattle.udt_model.specs.Events.{Listen, Connect, Meet, Accept, Shake, Offer, Withdraw, PortDown, at_moment, event, outs_of}
use Rattle.udt_model.specs.Events.{DidListen, DidConnect, DidMeet, Accepted, DidWithdraw, DidPortDown}
use Rattle.udt_model.specs.Phases.{Phase}
use Rattle.udt_model.specs.Phases as phase
use Rattle.udt_model.specs.Rate.{Ways}
use Rattle.udt_model.specs.State.{State}
use Rattle.udt_model.specs.Step.{step}

begun_unspent : (in_range : Bool) (p : Phase) → begun in_range p ≢ Err refusal.EventsSpent
begun_unspent false p e = cc
begun_unspent true phase.Opened e = cc
begun_unspent true (phase.Listening b) e = cc
begun_unspent true (phase.Connecting c again) e = cc
begun_unspent true (phase.Meeting m again) e = cc
begun_unspent true phase.Connected e = cc
begun_unspent true (phase.Broken why) e = cc
begun_unspent true (phase.Failed why) e = cc
begun_unspent true phase.Closing e = cc
begun_unspent true phase.Closed e = cc

offered_unspent : (ids : List ℕ) → first_offered ids ≢ Err refusal.EventsSpent
offered_unspent [] e = cc
offered_unspent (id ∷ ids) e = cc

accept_is_unspent : (p : Phase) → accept_answer p ≢ Err refusal.EventsSpent
accept_is_unspent (phase.Listening b) e = offered_unspent b.offered e
accept_is_unspent phase.Opened e = cc
accept_is_unspent (phase.Connecting c again) e = cc
accept_is_unspent (phase.Meeting m again) e = cc
accept_is_unspent phase.Connected e = cc
accept_is_unspent (phase.Broken why) e = cc
accept_is_unspent (phase.Failed why) e = cc
accept_is_unspent phase.Closing e = cc
accept_is_unspent phase.Closed e = cc

listen_is : (a b : Result (Unit {0}) Refusal) → DidListen a ≡ DidListen b → a ≡ b
listen_is a b e = cc

connect_is : (a b : Result (Unit {0}) Refusal) → DidConnect a ≡ DidConnect b → a ≡ b
connect_is a b e = cc

meet_is : (a b : Result (Unit {0}) Refusal) → DidMeet a ≡ DidMeet b → a ≡ b
meet_is a b e = cc

accepted_is : (a b : Result ℕ Refusal) → Accepted a ≡ Accepted b → a ≡ b
accepted_is a b e = cc

module _ {C : Type 0} (w : Ways C) where
  pub listen_quiet : (s : State C) (now backlog : ℕ) (secret : List ℕ)
      → [] ≡ outs_of (step w s (event now (Listen backlog secret)))
  unfolding step
  listen_quiet s now backlog secret = refl

  -- where there was memory
  pub listen_unspent : (s : State C) (now backlog : ℕ) (secret : List ℕ) (answer : Result (Unit {0}) Refusal)
      → (answer ≢ Err refusal.OutOfMemory → DidListen answer ≡ (step w s (event now (Listen backlog secret))).reply)
      → answer ≢ Err refusal.EventsSpent
  unfolding step
  listen_unspent s now backlog secret answer told spent =
      let e = told (λ (memory : answer ≡ Err refusal.OutOfMemory). cc) in
      begun_unspent (is_backlog backlog) (at_moment s now).phase (sym (listen_is _ _ e) ∙ spent)

  pub connect_quiet : (s : State C) (now : ℕ) (to : Addr) → [] ≡ outs_of (step w s (event now (Connect to)))
  unfolding step
  connect_quiet s now to = refl

  pub connect_unspent : (s : State C) (now : ℕ) (to : Addr) (answer : Result (Unit {0}) Refusal)
      → DidConnect answer ≡ (step w s (event now (Connect to))).reply → answer ≢ Err refusal.EventsSpent
  unfolding step
  connect_unspent s now to answer e spent = begun_unspent (has_port to) (at_moment s now).phase (sym (connect_is _ _ e) ∙ spent)

  pub meet_quiet : (s : State C) (now : ℕ) (to : Addr) → [] ≡ outs_of (step w s (event now (Meet to)))
  unfolding step
  meet_quiet s now to = refl

  pub meet_unspent : (s : State C) (now : ℕ) (to : Addr) (answer : Result (Unit {0}) Refusal)
      → DidMeet answer ≡ (step w s (event now (Meet to))).reply → answer ≢ Err refusal.EventsSpent
  unfolding step
  meet_unspent s now to answer e spent = begun_unspent (has_port to) (at_moment s now).phase (sym (meet_is _ _ e) ∙ spent)

  pub accept_quiet : (s : State C) (now : ℕ) → [] ≡ outs_of (step w s (event now Accept))
  unfolding step
  accept_quiet s now = refl

  pub accept_unspent : (s : State C) (now : ℕ) (answer : Result ℕ Refusal)
      → Accepted answer ≡ (step w s (event now Accept)).reply → answer ≢ Err refusal.EventsSpent
  unfolding step
  accept_unspent s now answer e spent = accept_is_unspent (at_moment s now).phase (sym (accepted_is _ _ e) ∙ spent)

  pub shake_quiet : (s : State C) (now : ℕ) → [] ≡ outs_of (step w s (event now Shake))
  unfolding step
  shake_quiet s now = refl

  pub offer_quiet : (s : State C) (now : ℕ) (id : ℕ) → [] ≡ outs_of (step w s (event now (Offer id)))
  unfolding step
  offer_quiet s now id = refl

  pub withdraw_quiet : (s : State C) (now : ℕ) → [] ≡ outs_of (step w s (event now Withdraw))
  unfolding step
  withdraw_quiet s now = refl

  pub withdraw_done : (s : State C) (now : ℕ) → DidWithdraw ≡ (step w s (event now Withdraw)).reply
  unfolding step
  withdraw_done s now = refl

  pub port_down_quiet : (s : State C) (now : ℕ) → [] ≡ outs_of (step w s (event now PortDown))
  unfolding step
  port_down_quiet s now = refl

  pub port_down_done : (s : State C) (now : ℕ) → DidPortDown ≡ (step w s (event now PortDown)).reply
  unfolding step
  port_down_done s now = refl
