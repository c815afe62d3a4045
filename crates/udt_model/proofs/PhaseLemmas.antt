-- Which phases are settled: a socket in one of them comes by no connection any more.
use Rattle.std.proofs.Common.{◌≡◌, ℕ, ◌+◌, Bool, true, false, ◌∷◌, [], refl}
use Rattle.std.specs.Prelude.{nat_le, if◌then◌else◌}
use Rattle.udt_model.specs.declared.limits.TheConstants.{SHAKE_LIMIT}
use Rattle.udt_model.specs.declared.answers.Failure.TheVariants as failure
use Rattle.udt_model.specs.Calls.{closed_from}
use Rattle.udt_model.specs.Connections.{begun, phase_after, phase_after_accept, phase_after_offer, phase_after_withdraw, phase_without_port, repeats}
use Rattle.udt_model.specs.Events.{Outcome, answered, DidTick}
use Rattle.udt_model.specs.Phases.{Phase, Stands, link_of}
use Rattle.udt_model.specs.Phases as phase
use Rattle.udt_model.specs.State.{State, Emission}

-- the four phases from which a connection may come are not
abbrev pub is_settled : Phase → Bool
is_settled phase.Opened = false
is_settled (phase.Listening b) = false
is_settled (phase.Connecting c again) = false
is_settled (phase.Meeting m again) = false
is_settled other = true

-- in these a socket has a peer to speak to
abbrev pub speaks : Phase → Bool
speaks phase.Connected = true
speaks phase.Closing = true
speaks other = false

-- a connection stands in one phase alone
pub stands-connected : (p : Phase) → link_of p ≡ Stands → p ≡ phase.Connected
stands-connected phase.Connected is = refl
stands-connected (phase.Broken why) is = absurd (cc)
stands-connected _ is = absurd (cc)

-- in which a socket speaks
pub mute-absent : (p : Phase) → speaks p ≡ false → link_of p ≡ Stands → ⊥
mute-absent phase.Connected mute is = cc
mute-absent (phase.Broken why) mute is = cc
mute-absent _ mute is = cc

-- and isn't unsettled
pub unsettled-mute : (p : Phase) → is_settled p ≡ false → speaks p ≡ false
unsettled-mute phase.Connected unsettled = absurd (cc)
unsettled-mute phase.Closing unsettled = absurd (cc)
unsettled-mute _ unsettled = refl

-- a settled phase is followed by a settled one, and by one in which the socket speaks only from such a one
abbrev pub Follows : Phase → Phase → Type 0
Follows p next = is_settled p ≡ true → (is_settled next ≡ true) × (speaks next ≡ true → speaks p ≡ true)

-- an end follows any phase
pub follows-ended : (p next : Phase) → is_settled next ≡ true → speaks next ≡ false → Follows p next
follows-ended p next settled mute before = (settled, λ spoken. absurd (cc))

-- a call that has a socket listen, ask or meet leaves a settled one as it is
pub begun-follows : (fits : Bool) (p next : Phase) → Follows p (phase_after (begun fits p) next p)
begun-follows false p next settled = (settled, λ spoken. spoken)
begun-follows true phase.Opened next settled = absurd (cc)
begun-follows true _ next settled = (settled, λ spoken. spoken)

-- and so do the calls of a listener, the loss of the port, and a close
pub accept-follows : (p : Phase) → Follows p (phase_after_accept p)
accept-follows (phase.Listening b) settled = absurd (cc)
accept-follows _ settled = (settled, λ spoken. spoken)

pub offer-follows : (id : ℕ) (p : Phase) → Follows p (phase_after_offer id p)
offer-follows id (phase.Listening b) settled = absurd (cc)
offer-follows id _ settled = (settled, λ spoken. spoken)

pub withdraw-follows : (p : Phase) → Follows p (phase_after_withdraw p)
withdraw-follows (phase.Listening b) settled = absurd (cc)
withdraw-follows _ settled = (settled, λ spoken. spoken)

pub port-follows : (p : Phase) → Follows p (phase_without_port p)
port-follows (phase.Listening b) settled = absurd (cc)
port-follows (phase.Connecting c again) settled = absurd (cc)
port-follows (phase.Meeting m again) settled = absurd (cc)
port-follows phase.Connected settled = (refl, λ spoken. refl)
port-follows _ settled = (settled, λ spoken. spoken)

pub closed-follows : (p : Phase) → Follows p (closed_from p)
closed-follows phase.Connected settled = (refl, λ spoken. refl)
closed-follows phase.Closing settled = (refl, λ spoken. refl)
closed-follows _ settled = (refl, λ spoken. absurd (cc))

module _ {C : Type 0} where
  -- what a tick of a socket that waits for a handshake does: it fails, emits its handshake again, or does nothing
  pub record OfRepeats (s : State C) (next : Phase) (emission : Emission) (P : Outcome C → Type 0) : Type 0 where
    pub fails : P (answered (record s { phase = phase.Failed failure.TimedOut }) DidTick)
    pub again : P (record { after = record s { phase = next }; reply = DidTick; emissions = emission ∷ [] })
    pub waits : P (answered s DidTick)

  -- what holds of all these outcomes holds of the tick
  pub repeats-show : (s : State C) (began again : ℕ) (next : Phase) (emission : Emission) (P : Outcome C → Type 0)
      → OfRepeats s next emission P → P (repeats s began again next emission)
  repeats-show s began again next emission P cases =
      elim (nat_le (began + SHAKE_LIMIT) s.last) as (λ late. P (
      if late
      then answered (record s { phase = phase.Failed failure.TimedOut }) DidTick
      else (if nat_le again s.last
      then record { after = record s { phase = next }; reply = DidTick; emissions = emission ∷ [] }
      else answered s DidTick))) [
        | true ↦ cases.fails
        | false ↦ elim (nat_le again s.last) as (λ due. P (
            if due
            then record { after = record s { phase = next }; reply = DidTick; emissions = emission ∷ [] }
            else answered s DidTick)) [
              | true ↦ cases.again
              | false ↦ cases.waits
            ]
      ]
