-- What sockets make of the handshakes for which they wait.
use Rattle.std.specs.Prelude.{◌≡◌, ℕ, ◌<◌, ◌^◌, List, [], ◌∷◌}
use Rattle.udt_model.specs.declared.addresses.Addr.{Addr}
use Rattle.udt_model.specs.declared.answers.Heard.{Heard}
use Rattle.udt_model.specs.declared.answers.Heard.TheVariants as heard
use Rattle.udt_model.specs.declared.handshakes.Verdict.{Verdict}
use Rattle.udt_model.specs.declared.handshakes.Verdict.TheVariants as verdict
use Rattle.udt_model.specs.Connections.{shake_emission}
use Rattle.udt_model.specs.Handshakes.{Connecting, Meeting}
use Rattle.udt_model.specs.Phases.{Phase, Backlog}
use Rattle.udt_model.specs.Phases as phase
use Rattle.udt_model.specs.State.{State, Emission}

-- the socket listens, asks, or meets
abbrev pub Listens : Phase → Type 0
Listens p = (b : Backlog) × (p ≡ phase.Listening b)

abbrev pub Asks : Phase → Type 0
Asks p = (c : Connecting) × (again : ℕ) × (p ≡ phase.Connecting c again)

abbrev pub Meets : Phase → Type 0
Meets p = (m : Meeting) × (again : ℕ) × (p ≡ phase.Meeting m again)

abbrev pub IsWaiting : Phase → Type 0
IsWaiting (phase.Listening b) = Unit {0}
IsWaiting (phase.Connecting c again) = Unit {0}
IsWaiting (phase.Meeting m again) = Unit {0}
IsWaiting other = ⊥

-- the handshake that is sent back has a sequence number
abbrev pub HasNumber : Verdict → Type 0
HasNumber (verdict.Cookie answer) = answer.isn < 2 ^ 31
HasNumber verdict.Request = Unit {0}
HasNumber (verdict.Reject answer) = answer.isn < 2 ^ 31

-- what a listener has heard then, and what it emits
abbrev pub heard_as : Verdict → Heard
heard_as (verdict.Cookie answer) = heard.Cookie
heard_as verdict.Request = heard.Request
heard_as (verdict.Reject answer) = heard.Reject

module _ {C : Type 0} where
  abbrev pub emitted_by_verdict : State C → Addr → ℕ → Verdict → List Emission
  emitted_by_verdict s from id (verdict.Cookie answer) = shake_emission s from id answer ∷ []
  emitted_by_verdict s from id verdict.Request = []
  emitted_by_verdict s from id (verdict.Reject answer) = shake_emission s from id answer ∷ []
