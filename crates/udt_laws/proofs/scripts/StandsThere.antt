-- A datagram goes to a socket that stands at the host that the datagram names.
use Rattle.std.proofs.Common.{◌≡◌, ℕ, Bool, true, false, Some, None, Option, refl, ap, ◌∙◌, sym}
use Rattle.std.specs.Prelude.{◌==◌, if◌then◌else◌}
use Rattle.udt_model.specs.declared.addresses.Addr.{Addr}
use Rattle.udt_model.specs.declared.handshakes.Asked.{Asked}
use Rattle.udt_model.specs.declared.handshakes.Asked.TheVariants as asks
use Rattle.udt_model.specs.declared.packets.Shake.{Shake}
use Rattle.udt_model.specs.declared.routes.Routed.TheVariants.{ToSocket, Id, Stale}
use Rattle.udt_model.specs.Handshakes.{asked}
use Rattle.udt_model.specs.Routes.{Known, is_other, adopter_in, to_named, to_place, by_type, to_adopter, to_unnamed, to_target}

-- the socket with an ID to which a datagram goes is enrolled, or holds a place
module _ (k : Known) (from : Addr) (id : ℕ) where
  pub data MayGet : Type 0 where
    IsEnrolled : k.is_enrolled id ≡ true → MayGet
    Listens : k.listener ≡ Some id → MayGet
    MeetsIt : k.meeter_of from ≡ Some id → MayGet

  place_is : (place : Option ℕ) → to_place place ≡ ToSocket id → place ≡ Some id
  place_is None is = absurd (cc)
  place_is (Some other) is = cc

  type-gets : (a : Asked) → by_type k from a ≡ ToSocket id → MayGet
  type-gets asks.Meets is = MeetsIt (place_is (k.meeter_of from) is)
  type-gets asks.Requests is = Listens (place_is k.listener is)
  type-gets _ is = absurd (cc)

  enrolled-is : (own : ℕ) → k.is_enrolled own ≡ true → own ≡ id → MayGet
  enrolled-is own enrolled same = IsEnrolled (ap k.is_enrolled (sym same) ∙ enrolled)

  adopter-gets : (adopter : Option ℕ) (shake : Shake) → to_adopter k from adopter shake ≡ ToSocket id → MayGet
  adopter-gets None shake is = type-gets (asked shake.ask) is
  adopter-gets (Some own) shake is =
      elim (k.is_enrolled own) as (λ enrolled. k.is_enrolled own ≡ enrolled → (if enrolled then ToSocket own else Stale) ≡ ToSocket id → MayGet) [
        | true ↦ λ test e. enrolled-is own test (cc)
        | false ↦ λ test e. absurd (cc)
      ] refl is

  other-gets : (dest : ℕ) (other : Bool) → k.is_enrolled dest ≡ true → (if other then Stale else ToSocket dest) ≡ ToSocket id → MayGet
  other-gets dest true enrolled is = absurd (cc)
  other-gets dest false enrolled is = enrolled-is dest enrolled (cc)

  named-gets : (dest : ℕ) (shake : Option Shake) → to_named k from dest shake ≡ ToSocket id → MayGet
  named-gets dest shake is =
      elim (k.is_enrolled dest) as (λ enrolled. k.is_enrolled dest ≡ enrolled
      → (if enrolled then (if is_other dest (adopter_in k from shake) then Stale else ToSocket dest) else Id) ≡ ToSocket id → MayGet) [
        | true ↦ λ test e. other-gets dest (is_other dest (adopter_in k from shake)) test e
        | false ↦ λ test e. absurd (cc)
      ] refl is

  unnamed-gets : (shake : Option Shake) → to_unnamed k from shake ≡ ToSocket id → MayGet
  unnamed-gets None is = absurd (cc)
  unnamed-gets (Some shake) is = adopter-gets (k.adopter_of from shake.id) shake is

  pub target-gets : (target : Option ℕ) (shake : Option Shake) → to_target k from target shake ≡ ToSocket id → MayGet
  target-gets None shake is = absurd (cc)
  target-gets (Some dest) shake is =
      elim (dest == 0) as (λ none. (if none then to_unnamed k from shake else to_named k from dest shake) ≡ ToSocket id → MayGet) [
        | true ↦ λ e. unnamed-gets shake e
        | false ↦ λ e. named-gets dest shake e
      ] is
