-- A table that knows what is seen of the sockets at a host, and is told of one that changed, knows what is seen then.
use Rattle.std.proofs.Common.{◌≡◌, ℕ, zero, suc, ◌+◌, ◌≤◌, ◌<◌, Bool, true, false, not, ◌&&◌, cond, nat_eq, nat_lt, List, [], ◌∷◌, ◌++◌, length, Some, None, Option, is_some, eqb-true, eq-eqb, refl, ap, ◌∙◌, sym, subst, arith, inl, inr}
use Rattle.std.specs.Prelude.{slice_get, slice_set, sum_by, ◌==◌, if◌then◌else◌}
use Rattle.std.specs.Ordering.{is_eq, nat_cmp}
use Rattle.std.specs.Cmp.{eq_by_cmp_equiv, nat_cmp_total}
use Rattle.std.specs.Map.{keys_of, remove_entry}
use Rattle.std.specs.BTreeMap.{is_at, insert_entry}
use Rattle.std.proofs.lemmas.Bool.{and_parts, cases_eq, ne_eqb}
use Rattle.std.proofs.lemmas.Bool.Decides.{Decides-ltb}
use Rattle.std.proofs.lemmas.List.{length-set, length-append}
use Rattle.std.proofs.lemmas.Map.{lookup-none}
use Rattle.std.proofs.lemmas.Map.Entries.{none_past_head}
use Rattle.std.proofs.lemmas.Map.Keys.{sorted_tail, IsDistinct-from_sorted}
use Rattle.udt_model.specs.declared.addresses.Addr.{Addr}
use Rattle.udt_model.specs.Addresses.{same_addr}
use Rattle.udt_model.specs.Network.{is_met, is_pair}
use Rattle.udt_model.specs.Phases.{is_closed}
use Rattle.udt_model.specs.Records.{PeerPair}
use Rattle.udt_model.proofs.AddressLemmas.{same_addr-is}
use Rattle.udt_laws.proofs.scripts.UnadoptedPair.{same-addr}
use Rattle.udt_laws.proofs.scripts.ReplacedOne.{set-same, found-once}
use Rattle.udt_routes.specs.Meets.{IsMetOnce, met_by, meeter_of}
use Rattle.udt_routes.specs.Pairs.{Pair, same_pair, adopter_of, pair_of, IsAdoptedOnce}
use Rattle.udt_routes.specs.Sorted.{value_at, IsRising}
use Rattle.udt_routes.specs.Tables.{Table, what_of, listener_without, without}
use Rattle.udt_world.specs.declared.hosts.TheConstants.{MOST_ENROLLED}
use Rattle.udt_world.specs.Views.{Sight}
use Rattle.udt_world.specs.Wiring.{Knows, adopts, first_with, is_any, is_here, listens, meets, one_if, pair_in, peer_in, sight_with, with_listener, with_met, with_pair, with_places, with_told}
use Rattle.udt_world.proofs.FirstLemmas.{Fails, first-found, none-first, only-first, first-set, with-place, with-set, replaced-cases, sum-set, sum-below}
use Rattle.udt_world.proofs.FollowLemmas.{AreOnce, Follows, MayFollow, both, met-is, is-met, pair-is, is-pair, is-here, open-before, once-kept}
use Rattle.udt_world.proofs.KeyLemmas.{is_same_id, other_id, rising_removed, rising_inserted, value_removed, value_inserted, length_removed, length_inserted}

-- ---- adoptions

abbrev or_then : {A : Type 0} → Option A → Option A → Option A
or_then None other = other
or_then (Some x) other = Some x

then-cond : {A : Type 0} (b : Bool) (x : A) (found other : Option A) → cond b (Some x) (or_then found other) ≡ or_then (cond b (Some x) found) other
then-cond true x found other = refl
then-cond false x found other = refl

pair-push : (adopted : List (ℕ × Pair)) (own : ℕ) (p : Pair) (id : ℕ)
    → pair_of (adopted ++ (own, p) ∷ []) id ≡ or_then (pair_of adopted id) (cond (nat_eq id own) (Some p) None)
pair-push [] own p id = refl
pair-push (a ∷ adopted) own p id =
    ap (λ (o : Option Pair). cond (nat_eq id a.0) (Some a.1) o) (pair-push adopted own p id)
    ∙ then-cond (nat_eq id a.0) a.1 (pair_of adopted id) (cond (nat_eq id own) (Some p) None)

adopter-push : (adopted : List (ℕ × Pair)) (own : ℕ) (p q : Pair)
    → adopter_of (adopted ++ (own, p) ∷ []) q ≡ or_then (adopter_of adopted q) (cond (same_pair q p) (Some own) None)
adopter-push [] own p q = refl
adopter-push (a ∷ adopted) own p q =
    ap (λ (o : Option ℕ). cond (same_pair q a.1) (Some a.0) o) (adopter-push adopted own p q)
    ∙ then-cond (same_pair q a.1) a.0 (adopter_of adopted q) (cond (same_pair q p) (Some own) None)

same_pair-is : (p q : Pair) → same_pair p q ≡ true → p ≡ q
same_pair-is p q is =
    let parts = and_parts (same_addr p.0 q.0) (p.1 == q.1) is in
    let one = same_addr-is p.0 q.0 parts.0 in
    let other = eqb-true p.1 q.1 parts.1 in
    λ i. (one i, other i)

is-same_pair : (p : Pair) → same_pair p p ≡ true
is-same_pair p = both _ _ (same-addr p.0) (eq-eqb p.1 p.1 refl)

-- a pair that none has adopted may be adopted by an ID that has none
once-pushed : (adopted : List (ℕ × Pair)) (own : ℕ) (p : Pair) → IsAdoptedOnce adopted → pair_of adopted own ≡ None → adopter_of adopted p ≡ None
    → IsAdoptedOnce (adopted ++ (own, p) ∷ [])
once-pushed adopted own p once first free = record {
  pair = λ id q found. pair_from id q (adopter_of adopted q) refl (sym (adopter-push adopted own p q) ∙ found);
  adopter = λ id q found. adopter_from id q (pair_of adopted id) refl (sym (pair-push adopted own p id) ∙ found);
}
  where
    pair_from : (id : ℕ) (q : Pair) (o : Option ℕ) → adopter_of adopted q ≡ o
        → or_then (adopter_of adopted q) (cond (same_pair q p) (Some own) None) ≡ Some id → pair_of (adopted ++ (own, p) ∷ []) id ≡ Some q
    pair_from id q (Some other) e found =
        let same : Some other ≡ Some id = sym (ap (λ (r : Option ℕ). or_then r (cond (same_pair q p) (Some own) None)) e) ∙ found in
        let had : pair_of adopted id ≡ Some q = once.pair id q (e ∙ same) in
        pair-push adopted own p id ∙ ap (λ (r : Option Pair). or_then r (cond (nat_eq id own) (Some p) None)) had
    pair_from id q None e found =
        by (same_pair q p) refl (sym (ap (λ (r : Option ℕ). or_then r (cond (same_pair q p) (Some own) None)) e) ∙ found)
      where
        by : (b : Bool) → same_pair q p ≡ b → cond b (Some own) None ≡ Some id → pair_of (adopted ++ (own, p) ∷ []) id ≡ Some q
        by false is there = absurd (cc)
        by true is there =
            let whose : own ≡ id = cc in
            let which : q ≡ p = same_pair-is q p is in
            let none : pair_of adopted id ≡ None = ap (pair_of adopted) (sym whose) ∙ first in
            pair-push adopted own p id
            ∙ (ap (λ (r : Option Pair). or_then r (cond (nat_eq id own) (Some p) None)) none
            ∙ (ap (λ (b : Bool). cond b (Some p) None) (eq-eqb id own (sym whose)) ∙ ap Some (sym which)))

    adopter_from : (id : ℕ) (q : Pair) (o : Option Pair) → pair_of adopted id ≡ o
        → or_then (pair_of adopted id) (cond (nat_eq id own) (Some p) None) ≡ Some q → adopter_of (adopted ++ (own, p) ∷ []) q ≡ Some id
    adopter_from id q (Some other) e found =
        let same : Some other ≡ Some q = sym (ap (λ (r : Option Pair). or_then r (cond (nat_eq id own) (Some p) None)) e) ∙ found in
        let had : adopter_of adopted q ≡ Some id = once.adopter id q (e ∙ same) in
        adopter-push adopted own p q ∙ ap (λ (r : Option ℕ). or_then r (cond (same_pair q p) (Some own) None)) had
    adopter_from id q None e found =
        by (nat_eq id own) refl (sym (ap (λ (r : Option Pair). or_then r (cond (nat_eq id own) (Some p) None)) e) ∙ found)
      where
        by : (b : Bool) → nat_eq id own ≡ b → cond b (Some p) None ≡ Some q → adopter_of (adopted ++ (own, p) ∷ []) q ≡ Some id
        by false is there = absurd (cc)
        by true is there =
            let whose : id ≡ own = eqb-true id own is in
            let which : p ≡ q = cc in
            let none : adopter_of adopted q ≡ None = ap (adopter_of adopted) (sym which) ∙ free in
            adopter-push adopted own p q
            ∙ (ap (λ (r : Option ℕ). or_then r (cond (same_pair q p) (Some own) None)) none
            ∙ (ap (λ (r : Pair). cond (same_pair r p) (Some own) None) (sym which)
            ∙ (ap (λ (b : Bool). cond b (Some own) None) (is-same_pair p) ∙ ap Some (sym whose))))

-- ---- meetings

-- the address of a meeter is met by it
addr_of_meeter : (met : List (ℕ × Addr)) → IsRising nat_cmp met → (id : ℕ) (a : Addr) → meeter_of met a ≡ Some id → met_by met id ≡ Some a
addr_of_meeter [] rises id a found = absurd (cc)
addr_of_meeter (m ∷ met) rises id a found =
    by (same_addr a m.1) refl (addr_of_meeter met (sorted_tail nat_cmp m.0 (keys_of met) rises) id a) found
  where
    later : met_by met id ≡ Some a → (c : Bool) → is_eq (nat_cmp id m.0) ≡ c → cond c (Some m.1) (met_by met id) ≡ Some a
    later there false e = there
    later there true e =
        let none : met_by met id ≡ None =
        lookup-none (is_at (nat_cmp id)) met
        (none_past_head (eq_by_cmp_equiv nat_cmp_total) id m met (IsDistinct-from_sorted nat_cmp (keys_of (m ∷ met)) rises) e) in
        absurd (cc)

    by : (b : Bool) → same_addr a m.1 ≡ b → (meeter_of met a ≡ Some id → met_by met id ≡ Some a)
        → cond b (Some m.0) (meeter_of met a) ≡ Some id → met_by (m ∷ met) id ≡ Some a
    by true same rest here =
        let whose : m.0 ≡ id = cc in
        let is : is_eq (nat_cmp id m.0) ≡ true = ap (λ (j : ℕ). is_eq (nat_cmp id j)) whose ∙ is_same_id id in
        ap (λ (c : Bool). cond c (Some m.1) (met_by met id)) is ∙ ap Some (sym (same_addr-is a m.1 same))
    by false other rest found = later (rest found) (is_eq (nat_cmp id m.0)) refl

-- an address that is met has a meeter
met_has_meeter : (met : List (ℕ × Addr)) (id : ℕ) (a : Addr) → met_by met id ≡ Some a → meeter_of met a ≡ None → ⊥
met_has_meeter [] id a there none = cc
met_has_meeter (m ∷ met) id a there none = by (met_has_meeter met id a) (is_eq (nat_cmp id m.0)) there (same_addr a m.1) refl none
  where
    by : (met_by met id ≡ Some a → meeter_of met a ≡ None → ⊥) → (c : Bool) → cond c (Some m.1) (met_by met id) ≡ Some a
        → (b : Bool) → same_addr a m.1 ≡ b → cond b (Some m.0) (meeter_of met a) ≡ None → ⊥
    by rest c there true e none = cc
    by rest false there false e none = rest there none
    by rest true there false e none =
        let is : m.1 ≡ a = cc in
        let same = ap (same_addr a) is ∙ same-addr a in
        cc

module _ {C : Type 0} where
  -- the address that the socket of an ID meets at a host
  abbrev met_at : Addr → Option (Sight C) → Option Addr
  met_at host None = None
  met_at host (Some s) = cond (is_here host s) s.met None

  met-some : (host : Addr) (sights : List (Sight C)) (id : ℕ) (a : Addr) → met_at host (sight_with sights id) ≡ Some a
      → (j : ℕ) × (x : Sight C) × (id ≡ j + 1) × (slice_get sights j ≡ Some x) × (meets host a x ≡ true)
  met-some host sights zero a is = absurd (cc)
  met-some host sights (suc j) a is = by (slice_get sights j) refl (sym (ap (met_at host) at) ∙ is)
    where
      more : suc j ≡ j + 1
      more = omega arith

      at : sight_with sights (suc j) ≡ slice_get sights j
      at = ap (sight_with sights) more ∙ with-place sights j

      here : (x : Sight C) → (b : Bool) → is_here host x ≡ b → cond b x.met None ≡ Some a → meets host a x ≡ true
      here x true e met = both _ _ e (is-met a x.met met)
      here x false e none = absurd (cc)

      by : (o : Option (Sight C)) → slice_get sights j ≡ o → met_at host o ≡ Some a
          → (i : ℕ) × (x : Sight C) × (suc j ≡ i + 1) × (slice_get sights i ≡ Some x) × (meets host a x ≡ true)
      by None e none = absurd (cc)
      by (Some x) e met = (j, x, more, e, here x (is_here host x) refl met)

  some-met : (host : Addr) (sights : List (Sight C)) (j : ℕ) (x : Sight C) (a : Addr) → slice_get sights j ≡ Some x → meets host a x ≡ true
      → met_at host (sight_with sights (j + 1)) ≡ Some a
  some-met host sights j x a at passes =
      let parts = and_parts (is_here host x) (is_met a x.met) passes in
      ap (met_at host) (with-place sights j ∙ at)
      ∙ (ap (λ (b : Bool). cond b x.met None) parts.0 ∙ met-is a x.met parts.1)

  -- the meetings by ID tell all that is known of meetings
  record AreMet (met : List (ℕ × Addr)) (sights : List (Sight C)) (host : Addr) : Type 0 where
    rises : IsRising nat_cmp met
    seen : (id : ℕ) → met_by met id ≡ met_at host (sight_with sights id)

  met-meeter : (met : List (ℕ × Addr)) (sights : List (Sight C)) (host : Addr) (d : Sight C) → AreOnce sights → AreMet met sights host
      → (a : Addr) → meeter_of met a ≡ first_with (meets host a) sights
  met-meeter met sights host d once are a = by (meeter_of met a) refl
    where
      by : (o : Option ℕ) → meeter_of met a ≡ o → o ≡ first_with (meets host a) sights
      by (Some id) e =
          let met_is = addr_of_meeter met are.rises id a e in
          let found = met-some host sights id a (sym (are.seen id) ∙ met_is) in
          ap Some found.2 ∙ sym (only-first (meets host a) sights found.0 found.1 found.3 found.4 (once.meeter host a))
      by None e =
          sym (none-first (meets host a) sights d (λ j x at. fails j x at (meets host a x) refl))
        where
          fails : (j : ℕ) (x : Sight C) → slice_get sights j ≡ Some x → (b : Bool) → meets host a x ≡ b → b ≡ false
          fails j x at true passes =
              absurd (met_has_meeter met (j + 1) a (are.seen (j + 1) ∙ some-met host sights j x a at passes) e)
          fails j x at false _ = refl

  met-once : (met : List (ℕ × Addr)) (sights : List (Sight C)) (host : Addr) (d : Sight C) → AreOnce sights → AreMet met sights host → IsMetOnce met
  met-once met sights host d once are = record {
    addr = λ id a e. addr_of_meeter met are.rises id a e;
    meeter = λ id a e.
        let found = met-some host sights id a (sym (are.seen id) ∙ e) in
        met-meeter met sights host d once are a
        ∙ (only-first (meets host a) sights found.0 found.1 found.3 found.4 (once.meeter host a) ∙ ap Some (sym found.2));
  }

  -- and are told by it
  known-met : {R : Type 0} (t : Table R) (sights : List (Sight C)) (host : Addr) (d : Sight C) → AreOnce sights → Knows t sights host
      → AreMet t.meetings sights host
  known-met t sights host d once knows = record {
    rises = knows.meetings_rise;
    seen = λ id. seen_by id (met_by t.meetings id) refl;
  }
    where
      none_by : (id : ℕ) → met_by t.meetings id ≡ None → (o : Option Addr) → met_at host (sight_with sights id) ≡ o → None ≡ o
      none_by id none None e = refl
      none_by id none (Some a) e =
          let found = met-some host sights id a e in
          let first = only-first (meets host a) sights found.0 found.1 found.3 found.4 (once.meeter host a) in
          let has = knows.met_once.addr id a (knows.same.meeter a ∙ (first ∙ ap Some (sym found.2))) in
          absurd (cc)

      seen_by : (id : ℕ) (o : Option Addr) → met_by t.meetings id ≡ o → o ≡ met_at host (sight_with sights id)
      seen_by id (Some a) e =
          let first = sym (knows.same.meeter a) ∙ knows.met_once.meeter id a e in
          let found = first-found (meets host a) sights id d first in
          sym (ap (λ (i : ℕ). met_at host (sight_with sights i)) found.2 ∙ some-met host sights found.0 found.1 a found.3 found.4)
      seen_by id None e = none_by id e (met_at host (sight_with sights id)) refl

-- ---- a socket that changed

or_then-none : {A : Type 0} (o : Option A) → or_then o None ≡ o
or_then-none None = refl
or_then-none (Some x) = refl

pub and-false : (b : Bool) → (b && false) ≡ false
and-false true = refl
and-false false = refl

none-either : {A : Type 0} (b : Bool) → cond {A = Option A} b None None ≡ None
none-either true = refl
none-either false = refl

-- what stands for something where there is something
pub found-some : {A : Type 0} (o : Option A) (id : ℕ) → is_some (if is_some o then Some id else None) ≡ is_some o
found-some None id = refl
found-some (Some x) id = refl

pub one-small : (b : Bool) → one_if b ≤ 1
one-small true = omega arith
one-small false = omega arith

module _ {R : Type 0} where
  pair-has : (t : Table R) (id : ℕ) (p q : Pair) → pair_of t.adoptions id ≡ Some q → with_pair t id (Some p) ≡ t
  pair-has t id p q has = rw has refl

  pair-new : (t : Table R) (id : ℕ) (p : Pair) → pair_of t.adoptions id ≡ None → adopter_of t.adoptions p ≡ None
      → with_pair t id (Some p) ≡ record t { adoptions = t.adoptions ++ (id, p) ∷ [] }
  pair-new t id p none free = rw (none, free) refl

  listener-has : (t : Table R) (id by : ℕ) → t.listener ≡ Some by → with_listener t id true ≡ t
  listener-has t id by has = rw has refl

  listener-new : (t : Table R) (id : ℕ) → t.listener ≡ None → with_listener t id true ≡ record t { listener = Some id }
  listener-new t id none = rw none refl

  met-taken : (t : Table R) (id by : ℕ) (to : Addr) → meeter_of t.meetings to ≡ Some by → with_met t id (Some to) ≡ t
  met-taken t id by to taken = rw taken refl

  met-new : (t : Table R) (id : ℕ) (to : Addr) → meeter_of t.meetings to ≡ None → met_by t.meetings id ≡ None → nat_lt (length t.meetings) t.live ≡ true
      → with_met t id (Some to) ≡ record t { meetings = insert_entry nat_cmp t.meetings id to }
  met-new t id to free none room = rw (free, none, room) refl

module _ {C R : Type 0} (t : Table R) (sights : List (Sight C)) (host : Addr) (k : ℕ) (s next : Sight C)
    (there : slice_get sights k ≡ Some s) (stands : s.host ≡ host) (few : length sights ≤ MOST_ENROLLED) (knows : Knows t sights host)
    (once : AreOnce sights) (follows : Follows s next) (may : MayFollow sights s next) where
  abbrev after : List (Sight C)
  after = slice_set sights k next

  kept : AreOnce after
  kept = once-kept sights k s next there once follows may

  here : slice_get after k ≡ Some next
  here = set-same sights k s next there

  now_stands : next.host ≡ host
  now_stands = follows.host ∙ stands

  -- ---- its pair

  adopts-holds : (x : Sight C) (p : PeerPair) → x.host ≡ host → peer_in x ≡ Some p → adopts host p.addr p.id x ≡ true
  adopts-holds x p at has = both _ _ (ap (same_addr x.host) (sym at) ∙ same-addr x.host) (is-pair p (peer_in x) has)

  pub own-pair : pair_of t.adoptions (k + 1) ≡ pair_in (peer_in s)
  own-pair = by (peer_in s) refl
    where
      none : peer_in s ≡ None → (o : Option Pair) → pair_of t.adoptions (k + 1) ≡ o → o ≡ None
      none e None f = refl
      none e (Some q) f =
          let first = sym (knows.same.adopter q.0 q.1) ∙ knows.adopted_once.adopter (k + 1) q f in
          let found = first-found (adopts host q.0 q.1) sights (k + 1) s first in
          let place : found.0 ≡ k = omega (arith, found.2) in
          let same : found.1 ≡ s = found-once sights k found.1 s (ap (slice_get sights) (sym place) ∙ found.3) there in
          let passes = ap (adopts host q.0 q.1) (sym same) ∙ found.4 in
          let has = pair-is q.0 q.1 (peer_in s) (and_parts _ _ passes).1 in
          absurd (cc)

      by : (o : Option PeerPair) → peer_in s ≡ o → pair_of t.adoptions (k + 1) ≡ pair_in o
      by (Some p) e =
          let first = only-first (adopts host p.addr p.id) sights k s there (adopts-holds s p stands e) (once.adopter host p.addr p.id) in
          knows.adopted_once.pair (k + 1) (p.addr, p.id) (knows.same.adopter p.addr p.id ∙ first)
      by None e = none e (pair_of t.adoptions (k + 1)) refl

  record AreAdopted (adopted : List (ℕ × Pair)) : Type 0 where
    same : (addr : Addr) (id : ℕ) → adopter_of adopted (addr, id) ≡ first_with (adopts host addr id) after
    alone : IsAdoptedOnce adopted
    count : length adopted ≤ sum_by (λ (x : Sight C). one_if (is_some (peer_in x))) after

  record TellsPair (u : Table R) : Type 0 where
    adopted : List (ℕ × Pair)
    is : u ≡ record t { adoptions = adopted }
    right : AreAdopted adopted

  abbrev peer_counts : Sight C → ℕ
  peer_counts x = one_if (is_some (peer_in x))

  abbrev met_counts : Sight C → ℕ
  met_counts x = one_if (is_some x.met)

  peer-stays : peer_in next ≡ peer_in s → TellsPair t
  peer-stays same = record {
    adopted = t.adoptions;
    is = refl;
    right = record {
      same = λ addr id.
          let alike : adopts host addr id next ≡ adopts host addr id s =
          ap (λ (h : Addr). same_addr h host && is_pair addr id (peer_in next)) follows.host
          ∙ ap (λ (o : Option PeerPair). same_addr s.host host && is_pair addr id o) same in
          knows.same.adopter addr id ∙ sym (first-set (adopts host addr id) sights k s next there alike);
      alone = knows.adopted_once;
      count =
          omega (arith, sum-set peer_counts sights k s next there, ap (λ (o : Option PeerPair). one_if (is_some o)) same, knows.adoptions);
    };
  }

  peer-comes : (p : PeerPair) → peer_in next ≡ Some p → peer_in s ≡ None → AreAdopted (t.adoptions ++ (k + 1, (p.addr, p.id)) ∷ [])
  peer-comes p e f = record {
    same = λ addr id. adopter-push t.adoptions (k + 1) (p.addr, p.id) (addr, id) ∙ by addr id (is_pair addr id (Some p)) refl;
    alone = once-pushed t.adoptions (k + 1) (p.addr, p.id) knows.adopted_once (own-pair ∙ ap pair_in f) free;
    count =
        omega (arith, sum-set peer_counts sights k s next there, ap (λ (o : Option PeerPair). one_if (is_some o)) e, ap (λ (o : Option PeerPair). one_if (is_some o)) f, knows.adoptions, length-append t.adoptions ((k + 1, (p.addr, p.id)) ∷ []));
  }
    where
      free : adopter_of t.adoptions (p.addr, p.id) ≡ None
      free = knows.same.adopter p.addr p.id
          ∙ subst (λ (h : Addr). first_with (adopts h p.addr p.id) sights ≡ None) stands (may.adopter p f e)

      by : (addr : Addr) (id : ℕ) (b : Bool) → is_pair addr id (Some p) ≡ b
          → or_then (adopter_of t.adoptions (addr, id)) (cond b (Some (k + 1)) None) ≡ first_with (adopts host addr id) after
      by addr id true is =
          let same : (addr, id) ≡ (p.addr, p.id) = same_pair-is (addr, id) (p.addr, p.id) is in
          let none : adopter_of t.adoptions (addr, id) ≡ None = ap (adopter_of t.adoptions) same ∙ free in
          let passes : adopts host addr id next ≡ true =
          both _ _ (ap (same_addr next.host) (sym now_stands) ∙ same-addr next.host) (ap (is_pair addr id) e ∙ is) in
          ap (λ (o : Option ℕ). or_then o (Some (k + 1))) none
          ∙ sym (only-first (adopts host addr id) after k next here passes (kept.adopter host addr id))
      by addr id false is =
          let alike : adopts host addr id next ≡ adopts host addr id s =
          ap (λ (b : Bool). same_addr next.host host && b) (ap (is_pair addr id) e ∙ is) ∙ (and-false (same_addr next.host host)
          ∙ sym (ap (λ (o : Option PeerPair). same_addr s.host host && is_pair addr id o) f ∙ and-false (same_addr s.host host))) in
          or_then-none (adopter_of t.adoptions (addr, id))
          ∙ (knows.same.adopter addr id ∙ sym (first-set (adopts host addr id) sights k s next there alike))

  tells-pair : TellsPair (with_pair t (k + 1) (pair_in (peer_in next)))
  tells-pair = by (peer_in next) refl (peer_in s) refl
    where
      by : (o : Option PeerPair) → peer_in next ≡ o → (r : Option PeerPair) → peer_in s ≡ r → TellsPair (with_pair t (k + 1) (pair_in (peer_in next)))
      by None e None f = subst (λ (o : Option PeerPair). TellsPair (with_pair t (k + 1) (pair_in o))) (sym e) (peer-stays (e ∙ sym f))
      by None e (Some q) f = let still = follows.peer q f in absurd (cc)
      by (Some p) e (Some q) f =
          let still = follows.peer q f in
          subst (λ (o : Option PeerPair). TellsPair (with_pair t (k + 1) (pair_in o))) (sym e)
          (subst TellsPair (sym (pair-has t (k + 1) (p.addr, p.id) (q.addr, q.id) (own-pair ∙ ap pair_in f))) (peer-stays (still ∙ sym f)))
      by (Some p) e None f =
          let free : adopter_of t.adoptions (p.addr, p.id) ≡ None =
          knows.same.adopter p.addr p.id
          ∙ subst (λ (h : Addr). first_with (adopts h p.addr p.id) sights ≡ None) stands (may.adopter p f e) in
          subst (λ (o : Option PeerPair). TellsPair (with_pair t (k + 1) (pair_in o))) (sym e) (record {
            adopted = t.adoptions ++ (k + 1, (p.addr, p.id)) ∷ [];
            is = pair-new t (k + 1) (p.addr, p.id) (own-pair ∙ ap pair_in f) free;
            right = peer-comes p e f;
          })

  -- ---- its places

  known-enrolled : (id : ℕ) → is_some (what_of t id) ≡ is_any (is_here host) (sight_with sights id)
  known-enrolled id = sym (found-some (what_of t id) id) ∙ knows.same.enrolled id

  old-met : AreMet t.meetings sights host
  old-met = known-met t sights host s once knows

  enrolled-after : (es : List (ℕ × R)) → is_some (value_at nat_cmp es (k + 1)) ≡ is_here host next
      → ((id : ℕ) → (id ≡ k + 1 → ⊥) → value_at nat_cmp es id ≡ value_at nat_cmp t.enrolled id)
      → (id : ℕ) → is_some (value_at nat_cmp es id) ≡ is_any (is_here host) (sight_with after id)
  enrolled-after es own others id = elim (cases_eq id (k + 1)) [
    | inl same ↦
        ap (λ (i : ℕ). is_some (value_at nat_cmp es i)) same
        ∙ (own ∙ sym (ap (λ (i : ℕ). is_any (is_here host) (sight_with after i)) same ∙ ap (is_any (is_here host)) (with-place after k ∙ here)))
    | inr apart ↦
        ap is_some (others id apart) ∙ (known-enrolled id ∙ sym (ap (is_any (is_here host)) (with-set sights k next id apart)))
  ]

  met-after : (met : List (ℕ × Addr)) → met_by met (k + 1) ≡ met_at host (Some next)
      → ((id : ℕ) → (id ≡ k + 1 → ⊥) → met_by met id ≡ met_by t.meetings id)
      → (id : ℕ) → met_by met id ≡ met_at host (sight_with after id)
  met-after met own others id = elim (cases_eq id (k + 1)) [
    | inl same ↦
        ap (met_by met) same ∙ (own ∙ sym (ap (λ (i : ℕ). met_at host (sight_with after i)) same ∙ ap (met_at host) (with-place after k ∙ here)))
    | inr apart ↦ others id apart ∙ (old-met.seen id ∙ sym (ap (met_at host) (with-set sights k next id apart)))
  ]

  own-met : met_by t.meetings (k + 1) ≡ met_at host (Some s)
  own-met = old-met.seen (k + 1) ∙ ap (met_at host) (with-place sights k ∙ there)

  -- what a table has to have
  record HasPlaces (es : List (ℕ × R)) (listener : Option ℕ) (met : List (ℕ × Addr)) : Type 0 where
    rises : IsRising nat_cmp es
    enrolled : (id : ℕ) → is_some (value_at nat_cmp es id) ≡ is_any (is_here host) (sight_with after id)
    few_enrolled : length es ≤ length t.enrolled
    listens_is : listener ≡ first_with (listens host) after
    are_met : AreMet met after host
    few_met : length met ≤ sum_by (λ (x : Sight C). one_if (is_some x.met)) after

  has-knows : (adopted : List (ℕ × Pair)) (es : List (ℕ × R)) (listener : Option ℕ) (met : List (ℕ × Addr)) → AreAdopted adopted
      → HasPlaces es listener met
      → Knows (record { ids = t.ids; live = t.live; enrolled = es; adoptions = adopted; listener = listener; meetings = met }) after host
  has-knows adopted es listener met right has = record {
    same = record {
      enrolled = λ id. found-some (value_at nat_cmp es id) id ∙ has.enrolled id;
      adopter = right.same;
      listener = has.listens_is;
      meeter = met-meeter met after host s kept has.are_met;
    };
    adopted_once = right.alone;
    met_once = met-once met after host s kept has.are_met;
    enrolled_rise = has.rises;
    meetings_rise = has.are_met.rises;
    ids = knows.ids;
    live = knows.live;
    enrolled = omega (arith, has.few_enrolled, knows.enrolled, length-set sights k next);
    adoptions = right.count;
    meetings = has.few_met;
  }

  -- a closed socket gives up its places
  here-gone : is_closed next.state.phase ≡ true → is_here host next ≡ false
  here-gone closed = ap (λ (b : Bool). same_addr next.host host && not b) closed ∙ and-false (same_addr next.host host)

  met-grows : met_counts s ≤ met_counts next
  met-grows = by s.met refl
    where
      by : (o : Option Addr) → s.met ≡ o → one_if (is_some s.met) ≤ one_if (is_some next.met)
      by None e = rw e (omega arith)
      by (Some to) e = rw (e, follows.met to e) (omega arith)

  listener-gone : is_closed next.state.phase ≡ true → listener_without t.listener (k + 1) ≡ first_with (listens host) after
  listener-gone closed = ap (λ (o : Option ℕ). listener_without o (k + 1)) knows.same.listener ∙ by (listens host s) refl
    where
      gone : listens host next ≡ false
      gone = ap (λ (b : Bool). b && next.listened) (here-gone closed)

      others : listens host s ≡ false → (o : Option ℕ) → first_with (listens host) sights ≡ o → listener_without o (k + 1) ≡ o
      others e None f = refl
      others e (Some id) f =
          let found = first-found (listens host) sights id s f in
          rw (ne_eqb id (k + 1) (λ same.
          let place : found.0 ≡ k = omega (arith, found.2, same) in
          let is : found.1 ≡ s = found-once sights k found.1 s (ap (slice_get sights) (sym place) ∙ found.3) there in
          let passes : listens host s ≡ true = ap (listens host) (sym is) ∙ found.4 in
          cc)) refl

      none : listens host s ≡ true → Fails (listens host) after
      none e i x at = fails (listens host x) refl
        where
          fails : (b : Bool) → listens host x ≡ b → b ≡ false
          fails false f = refl
          fails true f =
              absurd (replaced-cases sights k s next there i x at
              (λ _ is. let passes = ap (listens host) (sym is) ∙ f in let fails = gone in cc)
              (λ apart before. apart (once.listener host i k x s before there f e)))

      by : (b : Bool) → listens host s ≡ b
          → listener_without (first_with (listens host) sights) (k + 1) ≡ first_with (listens host) after
      by false e = others e (first_with (listens host) sights) refl ∙ sym (first-set (listens host) sights k s next there (gone ∙ sym e))
      by true e =
          ap (λ (o : Option ℕ). listener_without o (k + 1)) (only-first (listens host) sights k s there e (once.listener host))
          ∙ (ap (λ (b : Bool). if b then None else Some (k + 1)) (eq-eqb (k + 1) (k + 1) refl)
          ∙ sym (none-first (listens host) after next (none e)))

  closed-places : is_closed next.state.phase ≡ true
      → HasPlaces (remove_entry (is_at (nat_cmp (k + 1))) t.enrolled) (listener_without t.listener (k + 1))
      (remove_entry (is_at (nat_cmp (k + 1))) t.meetings)
  closed-places closed = record {
    rises = rising_removed (k + 1) t.enrolled knows.enrolled_rise;
    enrolled = enrolled-after (remove_entry (is_at (nat_cmp (k + 1))) t.enrolled)
        (ap is_some (value_removed (k + 1) t.enrolled knows.enrolled_rise (k + 1)
        ∙ ap (λ (b : Bool). cond b None (value_at nat_cmp t.enrolled (k + 1))) (is_same_id (k + 1))) ∙ sym (here-gone closed))
        (λ id apart. value_removed (k + 1) t.enrolled knows.enrolled_rise id
        ∙ ap (λ (b : Bool). cond b None (value_at nat_cmp t.enrolled id)) (other_id (k + 1) id (λ same. apart (sym same))));
    few_enrolled = length_removed (is_at (nat_cmp (k + 1))) t.enrolled;
    listens_is = listener-gone closed;
    are_met = record {
      rises = rising_removed (k + 1) t.meetings knows.meetings_rise;
      seen = met-after (remove_entry (is_at (nat_cmp (k + 1))) t.meetings)
          (value_removed (k + 1) t.meetings knows.meetings_rise (k + 1)
          ∙ (ap (λ (b : Bool). cond b None (met_by t.meetings (k + 1))) (is_same_id (k + 1))
          ∙ sym (ap (λ (b : Bool). cond b next.met None) (here-gone closed))))
          (λ id apart. value_removed (k + 1) t.meetings knows.meetings_rise id
          ∙ ap (λ (b : Bool). cond b None (met_by t.meetings id)) (other_id (k + 1) id (λ same. apart (sym same))));
    };
    few_met =
        omega (arith, length_removed (is_at (nat_cmp (k + 1))) t.meetings, knows.meetings, sum-set met_counts sights k s next there, met-grows);
  }

  -- and another one holds what it began to hold
  module _ (live : is_closed next.state.phase ≡ false) where
    here-now : is_here host next ≡ true
    here-now = is-here host next now_stands live

    here-then : is_here host s ≡ true
    here-then = is-here host s stands (open-before sights k s next there once follows may live)

    open-has : (met : List (ℕ × Addr)) → AreMet met after host → length met ≤ sum_by (λ (x : Sight C). one_if (is_some x.met)) after
        → HasPlaces t.enrolled (first_with (listens host) after) met
    open-has met are few_met = record {
      rises = knows.enrolled_rise;
      enrolled = enrolled-after t.enrolled
          (known-enrolled (k + 1) ∙ (ap (is_any (is_here host)) (with-place sights k ∙ there) ∙ (here-then ∙ sym here-now)))
          (λ id apart. refl);
      few_enrolled = omega arith;
      listens_is = refl;
      are_met = are;
      few_met = few_met;
    }

    listener-after : (adopted : List (ℕ × Pair)) → with_listener (record t { adoptions = adopted }) (k + 1) next.listened
        ≡ record t { adoptions = adopted; listener = first_with (listens host) after }
    listener-after adopted = by next.listened refl s.listened refl
      where
        stays : listens host next ≡ listens host s
            → record t { adoptions = adopted } ≡ record t { adoptions = adopted; listener = first_with (listens host) after }
        stays alike =
            ap (λ (o : Option ℕ). record t { adoptions = adopted; listener = o })
            (knows.same.listener ∙ sym (first-set (listens host) sights k s next there alike))

        by : (b : Bool) → next.listened ≡ b → (c : Bool) → s.listened ≡ c → with_listener (record t { adoptions = adopted }) (k + 1) next.listened
            ≡ record t { adoptions = adopted; listener = first_with (listens host) after }
        by false e true f = let still = follows.listened f in absurd (cc)
        by false e false f =
            ap (λ (b : Bool). with_listener (record t { adoptions = adopted }) (k + 1) b) e
            ∙ stays (ap (λ (b : Bool). is_here host next && b) e ∙ (and-false (is_here host next)
            ∙ sym (ap (λ (b : Bool). is_here host s && b) f ∙ and-false (is_here host s))))
        by true e true f =
            let has : t.listener ≡ Some (k + 1) =
            knows.same.listener ∙ only-first (listens host) sights k s there (both _ _ here-then f) (once.listener host) in
            ap (λ (b : Bool). with_listener (record t { adoptions = adopted }) (k + 1) b) e
            ∙ (listener-has (record t { adoptions = adopted }) (k + 1) (k + 1) has
            ∙ stays (both _ _ here-now e ∙ sym (both _ _ here-then f)))
        by true e false f =
            let none : t.listener ≡ None =
            knows.same.listener ∙ subst (λ (h : Addr). first_with (listens h) sights ≡ None) stands (may.listener f e) in
            ap (λ (b : Bool). with_listener (record t { adoptions = adopted }) (k + 1) b) e
            ∙ (listener-new (record t { adoptions = adopted }) (k + 1) none
            ∙ ap (λ (o : Option ℕ). record t { adoptions = adopted; listener = o })
            (sym (only-first (listens host) after k next here (both _ _ here-now e) (kept.listener host))))

    met-stays : next.met ≡ s.met → AreMet t.meetings after host
    met-stays same = record {
      rises = knows.meetings_rise;
      seen = met-after t.meetings
          (own-met ∙ (ap (λ (b : Bool). cond b s.met None) here-then
          ∙ (sym same ∙ sym (ap (λ (b : Bool). cond b next.met None) here-now))))
          (λ id apart. refl);
    }

    few-stay : length t.meetings ≤ sum_by (λ (x : Sight C). one_if (is_some x.met)) after
    few-stay = omega (arith, knows.meetings, sum-set met_counts sights k s next there, met-grows)

    met-comes : (to : Addr) → next.met ≡ Some to → s.met ≡ None → met_by t.meetings (k + 1) ≡ None
        → AreMet (insert_entry nat_cmp t.meetings (k + 1) to) after host
    met-comes to e f none = record {
      rises = rising_inserted (k + 1) to t.meetings knows.meetings_rise;
      seen = met-after (insert_entry nat_cmp t.meetings (k + 1) to)
          (value_inserted (k + 1) to t.meetings none (k + 1)
          ∙ (ap (λ (b : Bool). cond b (Some to) (met_by t.meetings (k + 1))) (is_same_id (k + 1))
          ∙ (sym e ∙ sym (ap (λ (b : Bool). cond b next.met None) here-now))))
          (λ id apart. value_inserted (k + 1) to t.meetings none id
          ∙ ap (λ (b : Bool). cond b (Some to) (met_by t.meetings id)) (other_id id (k + 1) apart));
    }

    abbrev settled : List (ℕ × Pair) → Table R
    settled adopted = record t { adoptions = adopted; listener = first_with (listens host) after }

    open-places : (adopted : List (ℕ × Pair)) → AreAdopted adopted
        → Knows (with_met (with_listener (record t { adoptions = adopted }) (k + 1) next.listened) (k + 1) next.met) after host
    open-places adopted right =
        subst (λ (u : Table R). Knows (with_met u (k + 1) next.met) after host) (sym (listener-after adopted)) (by next.met refl s.met refl)
      where
        by : (o : Option Addr) → next.met ≡ o → (r : Option Addr) → s.met ≡ r → Knows (with_met (settled adopted) (k + 1) next.met) after host
        by None e (Some q) f = let still = follows.met q f in absurd (cc)
        by None e None f =
            subst (λ (o : Option Addr). Knows (with_met (settled adopted) (k + 1) o) after host) (sym e)
            (has-knows adopted t.enrolled _ t.meetings right (open-has t.meetings (met-stays (e ∙ sym f)) few-stay))
        by (Some to) e (Some q) f =
            let still = follows.met q f in
            let same : s.met ≡ Some to = f ∙ (sym still ∙ e) in
            let taken : meeter_of t.meetings to ≡ Some (k + 1) =
            knows.same.meeter to
            ∙ only-first (meets host to) sights k s there (both _ _ here-then (is-met to s.met same)) (once.meeter host to) in
            subst (λ (o : Option Addr). Knows (with_met (settled adopted) (k + 1) o) after host) (sym e)
            (subst (λ (u : Table R). Knows u after host) (sym (met-taken (settled adopted) (k + 1) (k + 1) to taken))
            (has-knows adopted t.enrolled _ t.meetings right (open-has t.meetings (met-stays (e ∙ sym same)) few-stay)))
        by (Some to) e None f =
            let free : meeter_of t.meetings to ≡ None =
            knows.same.meeter to ∙ subst (λ (h : Addr). first_with (meets h to) sights ≡ None) stands (may.meeter to f e) in
            let none : met_by t.meetings (k + 1) ≡ None =
            own-met ∙ (ap (λ (o : Option Addr). cond (is_here host s) o None) f ∙ none-either (is_here host s)) in
            let below : sum_by (λ (x : Sight C). one_if (is_some x.met)) sights < length sights =
            sum-below met_counts sights k s (λ x. one-small (is_some x.met)) there (ap (λ (o : Option Addr). one_if (is_some o)) f) in
            let room : nat_lt (length t.meetings) t.live ≡ true =
            (Decides-ltb (length t.meetings) t.live).1 (omega (arith, below, knows.meetings, knows.live, few)) in
            subst (λ (o : Option Addr). Knows (with_met (settled adopted) (k + 1) o) after host) (sym e)
            (subst (λ (u : Table R). Knows u after host) (sym (met-new (settled adopted) (k + 1) to free none room))
            (has-knows adopted t.enrolled _ _ right (open-has _ (met-comes to e f none)
            (omega (arith, length_inserted (k + 1) to t.meetings, knows.meetings, sum-set met_counts sights k s next there, ap (λ (o : Option Addr). one_if (is_some o)) e, ap (λ (o : Option Addr). one_if (is_some o)) f)))))

  told-places : (adopted : List (ℕ × Pair)) → AreAdopted adopted → (closed : Bool) → is_closed next.state.phase ≡ closed
      → Knows (if closed then without (record t { adoptions = adopted }) (k + 1)
      else with_met (with_listener (record t { adoptions = adopted }) (k + 1) next.listened) (k + 1) next.met) after host
  told-places adopted right true is = has-knows adopted _ _ _ right (closed-places is)
  told-places adopted right false is = open-places is adopted right

  -- the table knows what is seen then
  pub told-knows : Knows (with_told t (k + 1) next) after host
  told-knows =
      subst (λ (u : Table R). Knows (with_places u (k + 1) next) after host) (sym tells-pair.is)
      (told-places tells-pair.adopted tells-pair.right (is_closed next.state.phase) refl)
