-- A pass that is made of another keeps the rule.
use Rattle.std.proofs.Common.{◌≡◌, ◌⊎◌, ◌+◌, ℕ, zero, suc, List, [], ◌∷◌, ◌++◌, length, map, set, refl, sym, ap, ◌∙◌, subst, inl, inr, ⊎_elim, arith}
use mathlib.Core.Option.{some, some-ne-none, some-injective}
use lib.ListN.{get_elem?}
use Rattle.crossbeam_queue.proofs.Lists.{set_here, at_longer}
use Rattle.crossbeam_queue.specs.Fifo.{Forks}
use Rattle.udt_queues.specs.declared.view.Right.{Right}
use Rattle.udt_queues.specs.declared.view.Right.TheVariants.{Never, Shared, Alone}
use Rattle.udt_queues.specs.declared.view.Entry.{Entry}
use Rattle.udt_queues.specs.declared.view.Hand.{Hand}
use Rattle.udt_queues.specs.declared.view.View.{View}
use Rattle.udt_queues.specs.Lines.{same, placed, log_of, Fits, At, Kept, IsLive, Made, HasParent}
use Rattle.udt_queues.specs.Passing.{shared, parent, child, with_parent, with_child, parted, part_of, served, putter_of}
use Rattle.udt_queues.proofs.Members.{filter_none}
use Rattle.udt_queues.proofs.Names.{same_not}
use Rattle.udt_queues.proofs.Places.{Like, below, live_hand}
use Rattle.udt_queues.proofs.Places as places
use Rattle.udt_queues.proofs.Steps.{rebuilt}

-- rights that a hand and a new one may have, of the right that the hand had
record Parts (r left right : Right) : Type 0 where
  alone : left ≡ Alone → r ≡ Alone
  never : r ≡ Never → left ≡ Never
  new : right ≡ Alone → ⊥
  none : r ≡ Never → right ≡ Never
  other : left ≡ Alone → right ≡ Never

shares : (r : Right) → Parts r (shared r) (shared r)
shares Never = record { alone = λ e. e; never = λ e. e; new = λ e. absurd (cc); none = λ e. e; other = λ e. refl }
shares Shared = record { alone = λ e. absurd (cc); never = λ e. e; new = λ e. absurd (cc); none = λ e. e; other = λ e. absurd (cc) }
shares Alone = record { alone = λ e. refl; never = λ e. absurd (cc); new = λ e. absurd (cc); none = λ e. absurd (cc); other = λ e. absurd (cc) }

serves : (r : Right) → Parts r r Never
serves r = record { alone = λ e. e; never = λ e. e; new = λ e. absurd (cc); none = λ e. refl; other = λ e. refl }

module _ {T : Type 0} where
  at_end : (l : List (View T)) (a b : View T) (j : ℕ) → get_elem? (l ++ a ∷ []) j ≡ some b → (get_elem? l j ≡ some b) ⊎ ((j ≡ length l) × (a ≡ b))
  at_end [] a b zero e = inr (refl, some-injective a b e)
  at_end [] a b (suc j) e = absurd (some-ne-none b (sym e))
  at_end (x ∷ xs) a b zero e = inl e
  at_end (x ∷ xs) a b (suc j) e = ⊎_elim (λ h. inl h) (λ h. inr (ap suc h.0, h.1)) (at_end xs a b j e)

  pub only_first : (c h : Hand T) (k : ℕ) → get_elem? (c ∷ []) k ≡ some h → (k ≡ 0) × (c ≡ h)
  only_first c h zero e = (refl, some-injective c h e)
  only_first c h (suc k) e = absurd (some-ne-none h (sym e))

  -- a hand that stands there after a view with one hand was added
  added : (views : List (View T)) (c : Hand T) (i k : ℕ) (h : Hand T) → At (views ++ record { hands = c ∷ [] } ∷ []) i k h
      → At views i k h ⊎ ((i ≡ length views) × (k ≡ 0) × (c ≡ h))
  added views c i k h a = ⊎_elim
      (λ e. inl (a.0, e, a.2))
      (λ (e : (i ≡ length views) × (record { hands = c ∷ [] } ≡ a.0)).
      let o = only_first c h k (subst (λ (u : View T). get_elem? u.hands k ≡ some h) (sym e.1) a.2) in inr (e.0, o.0, o.1))
      (at_end views (record { hands = c ∷ [] }) a.0 i a.1)

  longer : (views : List (View T)) (r : View T) (n : List ℕ) (m : ℕ) → Made views n m → Made (views ++ r ∷ []) n m
  longer views r n m made = (made.0, made.1, made.2, (made.3.0, at_longer views (r ∷ []) made.0 made.3.0 made.3.1, made.3.2), made.4, made.5)

  -- a view with one hand of a new name joins the others
  joins_in : (items : List T) (views : List (View T)) (kept : Kept items views) (c : Hand T)
      → c.put ≡ [] → c.took ≡ [] → (c.right ≡ Alone → ⊥) → HasParent views c.name
      → ((i k : ℕ) (h : Hand T) → At views i k h → h.name ≡ c.name → ⊥)
      → ((i k : ℕ) (h : Hand T) → At views i k h → h.right ≡ Alone → c.right ≡ Never)
      → Kept items (views ++ record { hands = c ∷ [] } ∷ [])
  joins_in items views kept c no_put no_took lesser of fresh beside =
      let all = views ++ record { hands = c ∷ [] } ∷ [] in
      let grow : (n : List ℕ) (m : ℕ) → Made views n m → Made all n m = λ n m q. longer views (record { hands = c ∷ [] }) n m q in
      let unused : (n : List ℕ) → Made views n 0 → c.name ≡ n → ⊥ = λ n q e. fresh q.0 q.1 q.2 q.3 (q.4 ∙ sym e) in
      record {
        done = kept.done;
        here = kept.here;
        content = kept.content;
        order = kept.order;
        fits = λ i k h a. ⊎_elim
            (λ (old : At views i k h). kept.fits i k h old)
            (λ (t : (i ≡ length views) × (k ≡ 0) × (c ≡ h)). subst (Fits kept.done kept.here) t.2 (record {
              put = filter_none (λ (e : Entry T). same c.name e.from) (log_of kept.done kept.here) (λ e h. same_not c.name e.from (unused e.from (kept.putters e h)))
                  ∙ ap (placed c.name 0) (sym no_put);
              took = no_took ∙ sym (ap (map (λ (d : List ℕ × Entry T). d.1))
                  (filter_none (λ (d : List ℕ × Entry T). same c.name d.0) kept.done (λ d h. same_not c.name d.0 (unused d.0 (kept.takers d h)))));
            }))
            (added views c i k h a);
        parents = λ i k h a. places.parent_grows views all grow h.name (⊎_elim
            (λ (old : At views i k h). kept.parents i k h old)
            (λ (t : (i ≡ length views) × (k ≡ 0) × (c ≡ h)). subst (λ (g : Hand T). HasParent views g.name) t.2 of)
            (added views c i k h a));
        putters = λ e h. grow e.from 0 (kept.putters e h);
        takers = λ d h. grow d.0 0 (kept.takers d h);
        apart = λ i j k l h g a b e. ⊎_elim
            (λ (x : At views i k h). ⊎_elim
            (λ (y : At views j l g). kept.apart i j k l h g x y e)
            (λ (y : (j ≡ length views) × (l ≡ 0) × (c ≡ g)). absurd (fresh i k h x (e ∙ sym (ap (λ (u : Hand T). u.name) y.2))))
            (added views c j l g b))
            (λ (x : (i ≡ length views) × (k ≡ 0) × (c ≡ h)). ⊎_elim
            (λ (y : At views j l g). absurd (fresh j l g y (sym e ∙ sym (ap (λ (u : Hand T). u.name) x.2))))
            (λ (y : (j ≡ length views) × (l ≡ 0) × (c ≡ g)). (x.0 ∙ sym y.0, x.1 ∙ sym y.1))
            (added views c j l g b))
            (added views c i k h a);
        sole = λ i k h a alone d r. ⊎_elim
            (λ (old : At views i k h). kept.sole i k h old alone d r)
            (λ (t : (i ≡ length views) × (k ≡ 0) × (c ≡ h)). absurd (lesser (ap (λ (u : Hand T). u.right) t.2 ∙ alone)))
            (added views c i k h a);
        only = λ i j k l h g a b alone. ⊎_elim
            (λ (x : At views i k h). ⊎_elim
            (λ (y : At views j l g). kept.only i j k l h g x y alone)
            (λ (y : (j ≡ length views) × (l ≡ 0) × (c ≡ g)). inr (sym (ap (λ (u : Hand T). u.right) y.2) ∙ beside i k h x alone))
            (added views c j l g b))
            (λ (x : (i ≡ length views) × (k ≡ 0) × (c ≡ h)). absurd (lesser (ap (λ (u : Hand T). u.right) x.2 ∙ alone)))
            (added views c i k h a);
      }

  module _ (items : List T) (views : List (View T)) (kept : Kept items views) (port : ℕ) (v : View T) (at : get_elem? views port ≡ some v) (h0 : Hand T) (there : get_elem? v.hands 0 ≡ some h0)
      (left right : Right) (rights : Parts h0.right left right) where
    like : Like h0 (parent left h0)
    like = record { name = refl; made = omega arith; alone = rights.alone; never = rights.never }

    -- no hand has the name of the new one
    fresh : (i k : ℕ) (h : Hand T) → At views i k h → h.name ≡ h0.made ∷ h0.name → ⊥
    fresh i k h a e =
        let p : Made views h0.name (h0.made + 1) = subst (HasParent views) e (kept.parents i k h a) in
        let same = kept.apart p.0 port p.1 0 p.2 h0 p.3 (v, at, there) p.4 in
        let u : p.3.0 ≡ v = some-injective p.3.0 v (sym p.3.1 ∙ ap (get_elem? views) same.0 ∙ at) in
        let is : p.2 ≡ h0 = some-injective p.2 h0 (sym p.3.2 ∙ ap (λ (u : View T). get_elem? u.hands p.1) u ∙ ap (get_elem? v.hands) same.1 ∙ there) in
        let le = p.5 in let eq = ap (λ (u : Hand T). u.made) is in
        absurd (omega (arith, le, eq))

    forked : Kept items (set views port (record { hands = set v.hands 0 (parent left h0) }) ++ record { hands = child right h0 ∷ [] } ∷ [])
    forked =
        let h1 = parent left h0 in
        let mine = kept.fits port 0 h0 (v, at, there) in
        let middle = set views port (record { hands = set v.hands 0 h1 }) in
        let stems = places.stems_there views port v at 0 h0 h1 there like in
        joins_in items middle
        (rebuilt items views kept port v at 0 h0 h1 there like items kept.done kept.here kept.content kept.order
        (record { put = mine.put; took = mine.took }) (λ i k h a apart. kept.fits i k h a) (λ e c. inl c) (λ d c. inl c))
        (child right h0) refl refl rights.new
        (port, 0, h1, (record { hands = set v.hands 0 h1 }, set_here views port (record { hands = set v.hands 0 h1 }) (below views port v at), set_here v.hands 0 h1 (below v.hands 0 h0 there)), refl, omega arith)
        (λ i k h a e. let o = stems i k h a in fresh o.0 o.1 o.2 o.3 (sym o.4.name ∙ e))
        (λ i k h a alone. ⊎_elim
        (λ (t : (i ≡ port) × (k ≡ 0) × (h1 ≡ h)). rights.other (ap (λ (u : Hand T). u.right) t.2 ∙ alone))
        (λ (t : At views i k h × (((i ≡ port) × (k ≡ 0)) → ⊥)). ⊎_elim
        (λ (s : (i ≡ port) × (k ≡ 0)). absurd (t.1 s))
        (λ (n : h0.right ≡ Never). rights.none n)
        (kept.only i port k 0 h h0 t.0 (v, at, there) alone))
        (places.changed views port v at 0 h0 h1 there like i k h a))

  parent_set : (f : Right → Right) (hs : List (Hand T)) (h : Hand T) → get_elem? hs 0 ≡ some h → with_parent f hs ≡ set hs 0 (parent (f h.right) h)
  parent_set f [] h e = absurd (some-ne-none h (sym e))
  parent_set f (x ∷ xs) h e = ap (λ (g : Hand T). parent (f g.right) g ∷ xs) (some-injective x h e)

  child_alone : (f : Right → Right) (hs : List (Hand T)) (h : Hand T) → get_elem? hs 0 ≡ some h → with_child f hs ≡ child (f h.right) h ∷ []
  child_alone f [] h e = absurd (some-ne-none h (sym e))
  child_alone f (x ∷ xs) h e = ap (λ (g : Hand T). child (f g.right) g ∷ []) (some-injective x h e)

  any_forks : (f g : Right → Right) → ((r : Right) → Parts r (f r) (g r)) → (port : ℕ) (v : View T) → IsLive v → Forks Kept port v (record { hands = with_parent f v.hands }) (record { hands = with_child g v.hands })
  any_forks f g rights port v alive items views kept at =
      let live = live_hand v.hands alive in
      let h = live.0 in
      let p = parent_set f v.hands h live.1 in
      let q = child_alone g v.hands h live.1 in
      subst (λ (z : List (Hand T) × List (Hand T)). Kept items (set views port (record { hands = z.0 }) ++ record { hands = z.1 } ∷ [])) (λ i. (sym p i, sym q i))
      (forked items views kept port v at h live.1 (f h.right) (g h.right) (rights h.right))

  -- where both may take
  pub forks : (port : ℕ) (v : View T) → IsLive v → Forks Kept port v (parted v) (part_of v)
  forks port v live = any_forks shared shared shares port v live

  -- where the new one may not
  pub forks_putter : (port : ℕ) (v : View T) → IsLive v → Forks Kept port v (served v) (putter_of v)
  forks_putter port v live = any_forks (λ r. r) (λ r. Never) serves port v live
