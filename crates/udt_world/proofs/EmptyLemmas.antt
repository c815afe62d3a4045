-- A table without sockets knows what is seen at an address where none stands.
use Rattle.std.proofs.Common.{◌≡◌, ℕ, ◌+◌, ◌-◌, ◌==◌, Bool, true, false, List, Some, None, Option, refl, ap, sym, arith, option_map}
use Rattle.std.specs.Prelude.{slice_get, if◌then◌else◌}
use Rattle.std.specs.List.Sorted.{IsStrictlySortedBy}
use Rattle.udt_model.specs.declared.addresses.Addr.{Addr}
use Rattle.udt_model.specs.Addresses.{same_addr}
use Rattle.udt_routes.specs.Tables.{empty_table}
use Rattle.udt_world.specs.Views.{Sight}
use Rattle.udt_world.specs.Wiring.{Knows, adopts, first_with, is_any, is_here, listens, meets, sight_with}
use Rattle.udt_world.proofs.PushLemmas.{none_first}

module _ {C : Type 0} (sights : List (Sight C)) (host : Addr)
    (away : (k : ℕ) (s : Sight C) → slice_get sights k ≡ Some s → same_addr s.host host ≡ false) where
  none_with : (is_so : Sight C → Bool) → ((s : Sight C) → same_addr s.host host ≡ false → is_so s ≡ false) → first_with is_so sights ≡ None
  none_with is_so fails = ap (option_map (λ place. place + 1)) (none_first is_so sights (λ k s at. fails s (away k s at)))

  none_at : (k : ℕ) (found : Option (Sight C)) → slice_get sights k ≡ found → is_any (is_here host) found ≡ false
  none_at k None at = refl
  none_at k (Some s) at = rw (away k s at) refl

  none_here : (id : ℕ) → is_any (is_here host) (sight_with sights id) ≡ false
  none_here id = elim (id == 0) as (λ b. is_any (is_here host) (if b then None else slice_get sights (id - 1)) ≡ false) [
    | true ↦ refl
    | false ↦ none_at (id - 1) (slice_get sights (id - 1)) refl
  ]

  pub empty_knows : (most : ℕ) → most ≡ 1024 → Knows (empty_table {R = Unit {0}} most most) sights host
  unfolding IsStrictlySortedBy
  empty_knows most is = record {
    same = record {
      enrolled = λ id. sym (none_here id);
      adopter = λ addr id. sym (none_with (adopts host addr id) (λ s e. rw e refl));
      listener = sym (none_with (listens host) (λ s e. rw e refl));
      meeter = λ addr. sym (none_with (meets host addr) (λ s e. rw e refl));
    };
    adopted_once = record { pair = λ own p found. absurd (cc); adopter = λ own p found. absurd (cc) };
    met_once = record { addr = λ id a found. absurd (cc); meeter = λ id a found. absurd (cc) };
    enrolled_rise = tt;
    meetings_rise = tt;
    ids = is;
    live = is;
    enrolled = omega arith;
    adoptions = omega arith;
    meetings = omega arith;
  }
