-- A pass that is joined into another keeps the rule.
use Rattle.std.proofs.Common.{◌≡◌, ◌≢◌, ◌⊎◌, ◌+◌, ◌<◌, ℕ, zero, suc, List, [], ◌∷◌, ◌++◌, length, set, refl, sym, ap, ◌∙◌, subst, inl, inr, ⊎_elim, arith}
use mathlib.Core.Option.{some, some-ne-none, some-injective}
use mathlib.Core.Logic.{dite}
use native.Mathlib.Decide.{ℕ_discrete}
use lib.ListN.{get_elem?}
use Rattle.crossbeam_queue.proofs.Lists.{at_set, set_here, set_else, at_longer}
use Rattle.crossbeam_queue.specs.Fifo.{Merges}
use Rattle.udt_queues.specs.declared.view.Right.TheVariants.{Alone}
use Rattle.udt_queues.specs.declared.view.Hand.{Hand}
use Rattle.udt_queues.specs.declared.view.View.{View}
use Rattle.udt_queues.specs.Lines.{Fits, At, Kept, Made, HasParent}
use Rattle.udt_queues.specs.Passing.{newcomer, both_of, gone}
use Rattle.udt_queues.proofs.Members.{in_none}
use Rattle.udt_queues.proofs.Places.{below, Stems, like_itself, keeps_apart, keeps_only, keeps_sole, keeps_parents}
use Rattle.udt_queues.proofs.Splits.{only_first}

-- where a hand stood that stands there after the join
abbrev Origin : ℕ → ℕ → ℕ → ℕ → ℕ → ℕ → ℕ → Type 0
Origin port other len i k i' k' =
    ((i ≡ port) × (i' ≡ port) × (k' ≡ k) × (k < len)) ⊎ (((i ≡ port) × (i' ≡ other) × (k ≡ len + k')) ⊎ ((i ≢ port) × (i ≢ other) × (i' ≡ i) × (k' ≡ k)))

module _ {T : Type 0} where
  in_two : (xs ys : List (Hand T)) (k : ℕ) (h : Hand T) → get_elem? (xs ++ ys) k ≡ some h
      → ((k < length xs) × (get_elem? xs k ≡ some h)) ⊎ ((l : ℕ) × (k ≡ length xs + l) × (get_elem? ys l ≡ some h))
  in_two [] ys k h e = inr (k, omega arith, e)
  in_two (x ∷ xs) ys zero h e = inl (omega arith, e)
  in_two (x ∷ xs) ys (suc k) h e = ⊎_elim
      (λ (t : (k < length xs) × (get_elem? xs k ≡ some h)). let a = t.0 in inl (omega (arith, a), t.1))
      (λ (t : (l : ℕ) × (k ≡ length xs + l) × (get_elem? ys l ≡ some h)). let a = t.1 in inr (t.0, omega (arith, a), t.2))
      (in_two xs ys k h e)

  at_right : (xs ys : List (Hand T)) (l : ℕ) (h : Hand T) → get_elem? ys l ≡ some h → get_elem? (xs ++ ys) (length xs + l) ≡ some h
  at_right [] ys l h e = let p : l ≡ length {A = Hand T} [] + l = omega arith in subst (λ (k : ℕ). get_elem? ys k ≡ some h) p e
  at_right (x ∷ xs) ys l h e =
      let p : suc (length xs + l) ≡ length (x ∷ xs) + l = omega arith in
      subst (λ (k : ℕ). get_elem? (x ∷ xs ++ ys) k ≡ some h) p (at_right xs ys l h e)

  module _ (views : List (View T)) (port other : ℕ) (v w : View T) (at : get_elem? views port ≡ some v) (two : other ≢ port) (there : get_elem? views other ≡ some w) where
    abbrev after : List (View T)
    after = set (set views port (both_of v w)) other gone

    origin : (i k : ℕ) (h : Hand T) → At after i k h → (i' : ℕ) × (k' : ℕ) × At views i' k' h × Origin port other (length v.hands) i k i' k'
    origin i k h a = ⊎_elim
        (λ (t : (i ≡ other) × (gone ≡ a.0)). absurd (some-ne-none h (sym (subst (λ (u : View T). get_elem? u.hands k ≡ some h) (sym t.1) a.2))))
        (λ (t : (i ≢ other) × (get_elem? (set views port (both_of v w)) i ≡ some a.0)). ⊎_elim
        (λ (s : (i ≡ port) × (both_of v w ≡ a.0)). ⊎_elim
        (λ (r : (k < length v.hands) × (get_elem? v.hands k ≡ some h)). (port, k, (v, at, r.1), inl (s.0, refl, refl, r.0)))
        (λ (r : (l : ℕ) × (k ≡ length v.hands + l) × (get_elem? w.hands l ≡ some h)). (other, r.0, (w, there, r.2), inr (inl (s.0, refl, r.1))))
        (in_two v.hands w.hands k h (subst (λ (u : View T). get_elem? u.hands k ≡ some h) (sym s.1) a.2)))
        (λ (s : (i ≢ port) × (get_elem? views i ≡ some a.0)). (i, k, (a.0, s.1, a.2), inr (inr (s.0, t.0, refl, refl))))
        (at_set views port i (both_of v w) a.0 t.1))
        (at_set (set views port (both_of v w)) other i gone a.0 a.1)

    same_place : (i k j l i' k' j' l' : ℕ) → Origin port other (length v.hands) i k i' k' → Origin port other (length v.hands) j l j' l' → i' ≡ j' → k' ≡ l' → (i ≡ j) × (k ≡ l)
    same_place i k j l i' k' j' l' (inl a) (inl b) p q = (a.0 ∙ sym b.0, sym a.2 ∙ q ∙ b.2)
    same_place i k j l i' k' j' l' (inl a) (inr (inl b)) p q = absurd (two (sym b.1 ∙ sym p ∙ a.1))
    same_place i k j l i' k' j' l' (inl a) (inr (inr b)) p q = absurd (b.0 (sym b.2 ∙ sym p ∙ a.1))
    same_place i k j l i' k' j' l' (inr (inl a)) (inl b) p q = absurd (two (sym a.1 ∙ p ∙ b.1))
    same_place i k j l i' k' j' l' (inr (inl a)) (inr (inl b)) p q = (a.0 ∙ sym b.0, a.2 ∙ ap (λ (n : ℕ). length v.hands + n) q ∙ sym b.2)
    same_place i k j l i' k' j' l' (inr (inl a)) (inr (inr b)) p q = absurd (b.1 (sym b.2 ∙ sym p ∙ a.1))
    same_place i k j l i' k' j' l' (inr (inr a)) (inl b) p q = absurd (a.0 (sym a.2 ∙ p ∙ b.1))
    same_place i k j l i' k' j' l' (inr (inr a)) (inr (inl b)) p q = absurd (a.1 (sym a.2 ∙ p ∙ b.1))
    same_place i k j l i' k' j' l' (inr (inr a)) (inr (inr b)) p q = (sym a.2 ∙ p ∙ b.2, sym a.3 ∙ q ∙ b.3)

    stems : (i k : ℕ) (h : Hand T) → At after i k h → Stems views h
    stems i k h a = let o = origin i k h a in (o.0, o.1, h, o.2, like_itself h)

    once : (i j k l : ℕ) (h g : Hand T) (a : At after i k h) (b : At after j l g) → (stems i k h a).0 ≡ (stems j l g b).0 → (stems i k h a).1 ≡ (stems j l g b).1 → (i ≡ j) × (k ≡ l)
    unfolding stems
    once i j k l h g a b e f = same_place i k j l (origin i k h a).0 (origin i k h a).1 (origin j l g b).0 (origin j l g b).1 (origin i k h a).3 (origin j l g b).3 e f

    port_here : get_elem? after port ≡ some (both_of v w)
    port_here = set_else (set views port (both_of v w)) other port gone (λ e. two (sym e)) ∙ set_here views port (both_of v w) (below views port v at)

    grow : (n : List ℕ) (m : ℕ) → Made views n m → Made after n m
    grow n m made =
        let i = made.0 in let k = made.1 in let h = made.2 in let a = made.3 in
        dite (ℕ_discrete i port)
        (λ (e : i ≡ port).
        let u : a.0 ≡ v = some-injective a.0 v (sym a.1 ∙ ap (get_elem? views) e ∙ at) in
        (port, k, h, (both_of v w, port_here, at_longer v.hands w.hands k h (subst (λ (u : View T). get_elem? u.hands k ≡ some h) u a.2)), made.4, made.5))
        (λ ne. dite (ℕ_discrete i other)
        (λ (e : i ≡ other).
        let u : a.0 ≡ w = some-injective a.0 w (sym a.1 ∙ ap (get_elem? views) e ∙ there) in
        (port, length v.hands + k, h, (both_of v w, port_here, at_right v.hands w.hands k h (subst (λ (u : View T). get_elem? u.hands k ≡ some h) u a.2)), made.4, made.5))
        (λ no. (i, k, h, (a.0, set_else (set views port (both_of v w)) other i gone no ∙ set_else views port i (both_of v w) ne ∙ a.1, a.2), made.4, made.5)))

    pub joined_keeps : (items : List T) → Kept items views → Kept items after
    joined_keeps items kept = record {
      done = kept.done;
      here = kept.here;
      content = kept.content;
      order = kept.order;
      fits = λ i k h a. let o = origin i k h a in kept.fits o.0 o.1 h o.2;
      parents = keeps_parents views after stems once grow kept.parents;
      putters = λ e c. grow e.from 0 (kept.putters e c);
      takers = λ d c. grow d.0 0 (kept.takers d c);
      apart = keeps_apart views after stems once kept.apart;
      sole = keeps_sole views after stems once kept.done kept.sole;
      only = keeps_only views after stems once kept.only;
    }

  pub merges : (port : ℕ) (v : View T) (other : ℕ) (w : View T) → Merges Kept port v other w (both_of v w) gone
  merges port v other w items views kept at two there =
      let there' : get_elem? views other ≡ some w = sym (set_else views port other (both_of v w) two) ∙ there in
      joined_keeps views port other v w at two there' items kept

  abbrev first_hand : Hand T
  first_hand = record { name = []; made = 0; right = Alone; put = []; took = [] }

  place_of_first : (i k : ℕ) (h : Hand T) → At (newcomer ∷ []) i k h → (i ≡ 0) × (k ≡ 0) × (first_hand ≡ h)
  place_of_first zero k h a =
      let o = only_first first_hand h k (subst (λ (u : View T). get_elem? u.hands k ≡ some h) (sym (some-injective newcomer a.0 a.1)) a.2) in
      (refl, o.0, o.1)
  place_of_first (suc i) k h a = absurd (some-ne-none a.0 (sym a.1))

  pub begins : Kept {T = T} [] (newcomer ∷ [])
  begins = record {
    done = [];
    here = [];
    content = refl;
    order = tt;
    fits = λ i k h a. subst (Fits [] []) (place_of_first i k h a).2 (record { put = refl; took = refl });
    parents = λ i k h a. subst (λ (u : Hand T). HasParent {T = T} (newcomer ∷ []) u.name) (place_of_first i k h a).2 tt;
    putters = λ e c. absurd (in_none e c);
    takers = λ d c. absurd (in_none d c);
    apart = λ i j k l h g a b e. let p = place_of_first i k h a in let q = place_of_first j l g b in (p.0 ∙ sym q.0, p.1 ∙ sym q.1);
    sole = λ i k h a alone d c. absurd (in_none d c);
    only = λ i j k l h g a b alone. let p = place_of_first i k h a in let q = place_of_first j l g b in inl (p.0 ∙ sym q.0, p.1 ∙ sym q.1);
  }
