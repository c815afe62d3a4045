-- An arrival gives its socket's owner no bytes, and a socket that is settled promises no place by it.
use Rattle.std.proofs.Common.{◌≡◌, ℕ, true, List, [], refl}
use Rattle.std.specs.Prelude.{Option, Some, None}
use Rattle.udt_model.specs.declared.addresses.Addr.{Addr}
use Rattle.udt_model.specs.declared.answers.Heard.TheVariants as heard
use Rattle.udt_model.specs.declared.packets.Shake.{Shake}
use Rattle.udt_model.specs.Events.{Arrive, DidHear, Reply, at_moment, event}
use Rattle.udt_model.specs.History.{History, given_by, state_of}
use Rattle.udt_model.specs.Network.{ScriptDatagram, ScriptSocket}
use Rattle.udt_model.specs.Phases as phase
use Rattle.udt_model.specs.Rate.{Ways}
use Rattle.udt_model.specs.Script.{Printed, followed_by}
use Rattle.udt_model.specs.State.{State}
use Rattle.udt_model.specs.Step.{step}
use Rattle.udt_model.specs.Wire.{read}
use Rattle.udt_model.proofs.ArrivalLemmas.{arrival-shows}
use Rattle.udt_model.proofs.PhaseLemmas.{is_settled}
use Rattle.udt_model.proofs.StepLemmas.{after_items-settled}
use Rattle.udt_laws.proofs.scripts.RequestHeard.{request-promised}

module _ {C : Type 0} (w : Ways C) where
  pub arrive-gives : (s : State C) (now : ℕ) (from : Addr) (bytes : List ℕ)
      → given_by (step w s (event now (Arrive from bytes))).reply ≡ []
  unfolding step
  arrive-gives s now from bytes =
      arrival-shows w (at_moment s now) from (λ outcome. given_by outcome.reply ≡ []) (read bytes) (record {
        passed = λ counters answer other. refl;
        noticed = λ counters answer other connected. refl;
        brought = λ number flags stamp block connected sender reads. refl;
        dropped = λ message stamp first last range connected sender reads kind found. refl;
        acknowledged = λ number stamp body offset connected sender reads acks. refl;
        reported = λ stamp ranges connected sender reads. refl;
        confirmed = λ number ack connected found. refl;
        ended = λ connected. refl;
        again = λ stamp dest shake answer connected sender reads named answers. refl;
        shaken = λ next peer from_whom answer emissions placed dropped unsettled shakes. refl;
        linked = λ peer from_whom emissions unsettled links. refl;
      })

  -- a socket that was paired is settled, whatever happened to it
  pub paired-settled : (h : History C) → h.opening.phase ≡ phase.Connected → is_settled (state_of w h).phase ≡ true
  paired-settled h paired = after_items-settled w h.opening h.items (rw paired refl)

  -- who promises a place listens
  pub settled-promises : (s : State C) (now : ℕ) (from : Addr) (bytes : List ℕ) → is_settled s.phase ≡ true
      → (step w s (event now (Arrive from bytes))).reply ≡ DidHear heard.Request → ⊥
  unfolding step
  settled-promises s now from bytes settled request =
      let promised = request-promised w (at_moment s now) from bytes (read bytes) refl request in
      let listens = rw promised.listens at settled in
      absurd (cc)

  -- where none is promised, nothing follows
  pub not_followed : (printed : Printed C) (now place : ℕ) (listener : ScriptSocket C) (datagram : ScriptDatagram)
      (shake : Option Shake) (reply : Reply) → (reply ≡ DidHear heard.Request → ⊥)
      → followed_by w printed now place listener datagram shake reply ≡ printed
  not_followed printed now place listener datagram None reply other = refl
  not_followed printed now place listener datagram (Some shake) (DidHear heard.Request) other = absurd (other refl)
  not_followed printed now place listener datagram (Some shake) _ other = refl
