-- What tables know once there is one more socket.
use Rattle.std.proofs.Common.{◌≡◌, ℕ, zero, suc, ◌+◌, ◌-◌, ◌<◌, ◌==◌, Bool, true, false, cond, List, [], ◌∷◌, ◌++◌, length, Some, None, Option, refl, ap, ◌∙◌, sym, arith, option_map, inl, inr}
use Rattle.std.proofs.lemmas.Bool.{cases_eq, lt-ltb}
use Rattle.std.specs.Prelude.{slice_get, ◌⊎◌, is_some, if◌then◌else◌}
use Rattle.std.proofs.lemmas.List.{length_push}
use Rattle.std.proofs.lemmas.List.Sums.{sum_by_push}
use Rattle.std.proofs.lemmas.Option.{slice_get_past}
use Rattle.std.specs.Ordering.{is_eq, nat_cmp}
use Rattle.udt_model.specs.declared.addresses.Addr.{Addr}
use Rattle.udt_model.specs.Addresses.{same_addr}
use Rattle.udt_model.specs.Phases.{is_closed}
use Rattle.udt_routes.specs.Tables.{Table, can_enrol, what_of, with_enrolled}
use Rattle.udt_world.specs.declared.hosts.TheConstants.{MOST_ENROLLED}
use Rattle.udt_world.specs.Views.{Sight}
use Rattle.udt_world.specs.Wiring.{Knows, adopts, first_with, is_any, is_here, listens, meets, one_if, peer_in, sight_with}
use Rattle.udt_world.proofs.KeyLemmas.{is_same_id, length_inserted, other_id, rising_inserted, value_inserted}
use Rattle.udt_world.proofs.FirstLemmas.{sum-small, with-place}
use Rattle.udt_world.proofs.PushLemmas.{get-last, push_other}
use Rattle.udt_world.proofs.ToldLemmas.{found-some, one-small}

get-other : {A : Type 0} (xs : List A) (x : A) (k : ℕ) → (k ≡ length xs → ⊥) → slice_get (xs ++ x ∷ []) k ≡ slice_get xs k
get-other [] x zero apart = absurd (apart refl)
get-other [] x (suc k) apart = refl
get-other (y ∷ xs) x zero apart = refl
get-other (y ∷ xs) x (suc k) apart = get-other xs x k (λ e. apart (ap suc e))

module _ {C : Type 0} (sights : List (Sight C)) (s : Sight C) where
  -- a test that the new one fails finds what it found
  pub first-more : (is_so : Sight C → Bool) → is_so s ≡ false → first_with is_so (sights ++ s ∷ []) ≡ first_with is_so sights
  first-more is_so fails = ap (option_map (λ place. place + 1)) (push_other is_so sights s fails)

  module _ (host : Addr) (away : same_addr s.host host ≡ false) where
    -- whom another host has under an ID
    any-more : (k : ℕ) → is_any (is_here host) (slice_get (sights ++ s ∷ []) k) ≡ is_any (is_here host) (slice_get sights k)
    any-more k = by sights k
      where
        by : (xs : List (Sight C)) (k : ℕ) → is_any (is_here host) (slice_get (xs ++ s ∷ []) k) ≡ is_any (is_here host) (slice_get xs k)
        by [] zero = rw away refl
        by [] (suc k) = refl
        by (x ∷ xs) zero = refl
        by (x ∷ xs) (suc k) = by xs k

    here-more : (id : ℕ) → is_any (is_here host) (sight_with (sights ++ s ∷ []) id) ≡ is_any (is_here host) (sight_with sights id)
    here-more id = elim (id == 0) as (λ b. is_any (is_here host) (if b then None else slice_get (sights ++ s ∷ []) (id - 1))
        ≡ is_any (is_here host) (if b then None else slice_get sights (id - 1))) [
          | true ↦ refl
          | false ↦ any-more (id - 1)
        ]

    -- an endpoint at another host knows what it knew
    pub others-know : {R : Type 0} (t : Table R) → Knows t sights host → Knows t (sights ++ s ∷ []) host
    others-know t knows = record {
      same = record {
        enrolled = λ id. knows.same.enrolled id ∙ sym (here-more id);
        adopter = λ addr id. knows.same.adopter addr id ∙ sym (first-more (adopts host addr id) (rw away refl));
        listener = knows.same.listener ∙ sym (first-more (listens host) (rw away refl));
        meeter = λ addr. knows.same.meeter addr ∙ sym (first-more (meets host addr) (rw away refl));
      };
      adopted_once = knows.adopted_once;
      met_once = knows.met_once;
      enrolled_rise = knows.enrolled_rise;
      meetings_rise = knows.meetings_rise;
      ids = knows.ids;
      live = knows.live;
      enrolled = omega (arith, knows.enrolled, length_push sights s);
      adoptions = omega (arith, knows.adoptions, sum_by_push (λ (x : Sight C). one_if (is_some (peer_in x))) sights s);
      meetings = omega (arith, knows.meetings, sum_by_push (λ (x : Sight C). one_if (is_some x.met)) sights s);
    }

-- ---- a new socket that has no peer yet

none-some : {R : Type 0} (o : Option R) → is_some o ≡ false → o ≡ None
none-some None is = refl
none-some (Some x) is = absurd (cc)

module _ {C R : Type 0} (sights : List (Sight C)) (host : Addr) (t : Table R) (knows : Knows t sights host) where
  past : sight_with sights (length sights + 1) ≡ None
  past = with-place sights (length sights) ∙ slice_get_past sights (length sights) (omega arith)

  -- the next ID isn't enrolled
  not_enrolled : what_of t (length sights + 1) ≡ None
  not_enrolled =
      none-some (what_of t (length sights + 1))
      (sym (found-some (what_of t (length sights + 1)) (length sights + 1))
      ∙ (knows.same.enrolled (length sights + 1) ∙ ap (λ (o : Option (Sight C)). is_any (is_here host) o) past))

  -- so it may be, where there is room
  pub may-enrol : length sights < MOST_ENROLLED → can_enrol t (length sights + 1) ≡ true
  may-enrol few = rw (not_enrolled, lt-ltb (length t.enrolled) t.live (omega (arith, knows.enrolled, knows.live, few))) refl

  -- and there is room for its pair
  pub few-adopted : length sights < MOST_ENROLLED → length t.adoptions < t.ids
  few-adopted few =
      omega (
        arith,
        knows.adoptions,
        knows.ids,
        few,
        sum-small (λ (x : Sight C). one_if (is_some (peer_in x))) sights
            (λ x. one-small (is_some (peer_in x))),
      )

module _ {C R : Type 0} (sights : List (Sight C)) (s : Sight C) (host : Addr) (t : Table R) (what : R) (knows : Knows t sights host)
    (here : same_addr s.host host ≡ true) (live : is_closed s.state.phase ≡ false) (quiet : s.listened ≡ false) (alone : s.met ≡ None)
    (nobody : peer_in s ≡ None) where
  abbrev new_id : ℕ
  new_id = length sights + 1

  enrolled-same : (id : ℕ) → is_some (cond (is_eq (nat_cmp id new_id)) (Some what) (what_of t id)) ≡ is_any (is_here host) (sight_with (sights ++ s ∷ []) id)
  enrolled-same id = by id (cases_eq id new_id)
    where
      known : (id : ℕ) → is_some (what_of t id) ≡ is_any (is_here host) (sight_with sights id)
      known id = sym (found-some (what_of t id) id) ∙ knows.same.enrolled id

      by : (id : ℕ) → (id ≡ new_id) ⊎ (id ≡ new_id → ⊥)
          → is_some (cond (is_eq (nat_cmp id new_id)) (Some what) (what_of t id)) ≡ is_any (is_here host) (sight_with (sights ++ s ∷ []) id)
      by id (inl is) = rw (is, is_same_id new_id, with-place (sights ++ s ∷ []) (length sights), get-last sights s (length sights) refl, here, live) refl
      by zero (inr apart) = rw (other_id 0 new_id apart) (known 0)
      by (suc k) (inr apart) =
          let one : suc k ≡ k + 1 = omega arith in
          let far : k ≡ length sights → ⊥ = λ e. apart (one ∙ ap (λ (n : ℕ). n + 1) e) in
          rw (other_id (suc k) new_id apart)
          (known (suc k)
          ∙ (ap (λ (n : ℕ). is_any (is_here host) (sight_with sights n)) one
          ∙ (ap (λ (o : Option (Sight C)). is_any (is_here host) o)
          (with-place sights k ∙ (sym (get-other sights s k far) ∙ sym (with-place (sights ++ s ∷ []) k)))
          ∙ ap (λ (n : ℕ). is_any (is_here host) (sight_with (sights ++ s ∷ []) n)) (sym one))))

  -- once it is enrolled, the table knows it
  pub enrolled-knows : Knows (with_enrolled t new_id what) (sights ++ s ∷ []) host
  enrolled-knows = record {
    same = record {
      enrolled = λ id. found-some (what_of (with_enrolled t new_id what) id) id
          ∙ (ap (λ (o : Option R). is_some o) (value_inserted new_id what t.enrolled (not_enrolled sights host t knows) id) ∙ enrolled-same id);
      adopter = λ addr id. knows.same.adopter addr id ∙ sym (first-more sights s (adopts host addr id) (rw (here, nobody) refl));
      listener = knows.same.listener ∙ sym (first-more sights s (listens host) (rw (here, live, quiet) refl));
      meeter = λ addr. knows.same.meeter addr ∙ sym (first-more sights s (meets host addr) (rw (here, live, alone) refl));
    };
    adopted_once = knows.adopted_once;
    met_once = knows.met_once;
    enrolled_rise = rising_inserted new_id what t.enrolled knows.enrolled_rise;
    meetings_rise = knows.meetings_rise;
    ids = knows.ids;
    live = knows.live;
    enrolled = omega (arith, knows.enrolled, length_push sights s, length_inserted new_id what t.enrolled);
    adoptions = omega (arith, knows.adoptions, sum_by_push (λ (x : Sight C). one_if (is_some (peer_in x))) sights s);
    meetings = omega (arith, knows.meetings, sum_by_push (λ (x : Sight C). one_if (is_some x.met)) sights s);
  }
