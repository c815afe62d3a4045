-- A handshake goes to a socket only where nobody at the host has adopted its pair, or that socket has.
use Rattle.std.proofs.Common.{◌≡◌, ℕ, Bool, true, false, not, Some, None, Option, refl, ap, ◌∙◌, inl, inr, ◌⊎◌}
use Rattle.std.specs.Prelude.{◌==◌, if◌then◌else◌}
use Rattle.std.proofs.lemmas.Bool.{eqb-true}
use Rattle.udt_model.specs.declared.addresses.Addr.{Addr}
use Rattle.udt_model.specs.declared.packets.Shake.{Shake}
use Rattle.udt_model.specs.declared.routes.Routed.TheVariants.{ToSocket, Id, Stale}
use Rattle.udt_model.specs.Routes.{Known, is_other, to_named, to_adopter, to_target}

not_true : (x : Bool) → not x ≡ false → x ≡ true
not_true true is = refl
not_true false is = absurd (cc)

module _ (k : Known) (from : Addr) (shake : Shake) (id : ℕ) where
  -- the socket with this ID has adopted the pair, or none has
  abbrev pub IsAdopter : Option ℕ → Type 0
  IsAdopter adopter = (adopter ≡ None) ⊎ (adopter ≡ Some id)

  by_adopter : (adopter : Option ℕ) → to_adopter k from adopter shake ≡ ToSocket id → IsAdopter adopter
  by_adopter None is = inl refl
  by_adopter (Some own) is =
      elim (k.is_enrolled own) as (λ enrolled. (if enrolled then ToSocket own else Stale) ≡ ToSocket id → IsAdopter (Some own)) [
        | true ↦ λ e. inr (cc)
        | false ↦ λ e. absurd (cc)
      ] is

  not_other : (dest : ℕ) (adopter : Option ℕ) → is_other dest adopter ≡ false → dest ≡ id → IsAdopter adopter
  not_other dest None same is = inl refl
  not_other dest (Some other) same is = inr (ap Some (eqb-true other dest (not_true (other == dest) same) ∙ is))

  unless_other : (dest : ℕ) (adopter : Option ℕ) → (if is_other dest adopter then Stale else ToSocket dest) ≡ ToSocket id
      → IsAdopter adopter
  unless_other dest adopter is =
      elim (is_other dest adopter) as (λ other. is_other dest adopter ≡ other → (if other then Stale else ToSocket dest) ≡ ToSocket id
      → IsAdopter adopter) [
        | true ↦ λ same e. absurd (cc)
        | false ↦ λ same e. not_other dest adopter same (cc)
      ] refl is

  by_name : (dest : ℕ) → to_named k from dest (Some shake) ≡ ToSocket id → IsAdopter (k.adopter_of from shake.id)
  by_name dest is =
      elim (k.is_enrolled dest) as (λ enrolled.
      (if enrolled then (if is_other dest (k.adopter_of from shake.id) then Stale else ToSocket dest) else Id) ≡ ToSocket id
      → IsAdopter (k.adopter_of from shake.id)) [
        | true ↦ λ e. unless_other dest (k.adopter_of from shake.id) e
        | false ↦ λ e. absurd (cc)
      ] is

  pub who-adopted : (target : Option ℕ) → to_target k from target (Some shake) ≡ ToSocket id → IsAdopter (k.adopter_of from shake.id)
  who-adopted None is = absurd (cc)
  who-adopted (Some dest) is =
      elim (dest == 0) as (λ none. (if none then to_adopter k from (k.adopter_of from shake.id) shake else to_named k from dest (Some shake)) ≡ ToSocket id
      → IsAdopter (k.adopter_of from shake.id)) [
        | true ↦ λ e. by_adopter (k.adopter_of from shake.id) e
        | false ↦ λ e. by_name dest e
      ] is
