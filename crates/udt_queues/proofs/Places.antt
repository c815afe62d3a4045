-- Where hands stand after a step, and what that keeps.
use Rattle.std.proofs.Common.{◌≡◌, ◌≢◌, ◌⊎◌, ◌+◌, ◌<◌, ◌≤◌, true, true≢false, ℕ, zero, suc, List, [], ◌∷◌, length, set, refl, sym, ap, ◌∙◌, subst, inl, inr, ⊎_elim, arith}
use Rattle.std.specs.List.{Contains}
use mathlib.Core.Option.{some, some-ne-none, some-injective}
use mathlib.Core.Logic.{dite}
use native.Mathlib.Decide.{ℕ_discrete}
use lib.ListN.{get_elem?}
use Rattle.crossbeam_queue.proofs.Lists.{at_set, set_here, set_else}
use Rattle.udt_queues.specs.declared.view.Right.{Right}
use Rattle.udt_queues.specs.declared.view.Right.TheVariants.{Never, Shared, Alone}
use Rattle.udt_queues.specs.declared.view.Entry.{Entry}
use Rattle.udt_queues.specs.declared.view.Hand.{Hand}
use Rattle.udt_queues.specs.declared.view.View.{View}
use Rattle.udt_queues.specs.Lines.{may_take, has_own, own_may_take, Works, At, Made, HasParent}

-- a place in a list is below its length
pub below : {A : Type 0} (l : List A) (j : ℕ) (a : A) → get_elem? l j ≡ some a → j < length l
below [] j a e = absurd (some-ne-none a (sym e))
below (x ∷ xs) zero a e = omega arith
below (x ∷ xs) (suc j) a e = let h = below xs j a e in omega arith

right_may : (r : Right) → may_take r ≡ true → r ≢ Never
right_may Never e = absurd (true≢false (sym e))
right_may Shared e = λ n. absurd (cc)
right_may Alone e = λ n. absurd (cc)

may_right : (r : Right) → r ≢ Never → may_take r ≡ true
may_right Never n = absurd (n refl)
may_right Shared n = refl
may_right Alone n = refl

module _ {T : Type 0} where
  -- the own hand of a view that works
  pub record Own (v : View T) : Type 0 where
    pub own : Hand T
    pub there : get_elem? v.hands 0 ≡ some own
    pub may : own.right ≢ Never

  own_hand : (hs : List (Hand T)) → own_may_take hs ≡ true → (h : Hand T) × (get_elem? hs 0 ≡ some h) × (h.right ≢ Never)
  own_hand [] e = absurd (true≢false (sym e))
  own_hand (h ∷ hs) e = (h, refl, right_may h.right e)

  pub own_of : (v : View T) → Works v → Own v
  own_of v works = let r = own_hand v.hands works in record { own = r.0; there = r.1; may = r.2 }

  hand_may : (hs : List (Hand T)) (h : Hand T) → get_elem? hs 0 ≡ some h → may_take h.right ≡ true → own_may_take hs ≡ true
  hand_may [] h e may = absurd (some-ne-none h (sym e))
  hand_may (x ∷ xs) h e may = ap (λ (g : Hand T). may_take g.right) (some-injective x h e) ∙ may

  pub works_of : (v : View T) → Own v → Works v
  works_of v own = hand_may v.hands own.own own.there (may_right own.own.right own.may)

  pub live_hand : (hs : List (Hand T)) → has_own hs ≡ true → (h : Hand T) × (get_elem? hs 0 ≡ some h)
  live_hand [] e = absurd (true≢false (sym e))
  live_hand (h ∷ hs) e = (h, refl)

  pub hand_live : (hs : List (Hand T)) (h : Hand T) → get_elem? hs 0 ≡ some h → has_own hs ≡ true
  hand_live [] h e = absurd (some-ne-none h (sym e))
  hand_live (x ∷ xs) h e = refl

  -- the second hand has the name of the first, made at least as many others, and has no greater right
  pub record Like (h g : Hand T) : Type 0 where
    pub name : g.name ≡ h.name
    pub made : h.made ≤ g.made
    pub alone : g.right ≡ Alone → h.right ≡ Alone
    pub never : h.right ≡ Never → g.right ≡ Never

  pub like_itself : (h : Hand T) → Like h h
  like_itself h = record { name = refl; made = omega arith; alone = λ e. e; never = λ e. e }

  -- a hand stands there which is like the given one
  abbrev pub Stems : List (View T) → Hand T → Type 0
  Stems views h = (i : ℕ) × (k : ℕ) × (g : Hand T) × At views i k g × Like g h

  abbrev pub Only : List (View T) → Type 0
  Only views = (i j k l : ℕ) (h g : Hand T) → At views i k h → At views j l g → h.right ≡ Alone → ((i ≡ j) × (k ≡ l)) ⊎ (g.right ≡ Never)

  abbrev pub Apart : List (View T) → Type 0
  Apart views = (i j k l : ℕ) (h g : Hand T) → At views i k h → At views j l g → h.name ≡ g.name → (i ≡ j) × (k ≡ l)

  abbrev pub Sole : List (List ℕ × Entry T) → List (View T) → Type 0
  Sole done views = (i k : ℕ) (h : Hand T) → At views i k h → h.right ≡ Alone → (d : List ℕ × Entry T) → Contains done d → d.0 ≡ h.name

  abbrev pub Parents : List (View T) → List (View T) → Type 0
  Parents views views' = (i k : ℕ) (h : Hand T) → At views i k h → HasParent views' h.name

  pub parent_grows : (views views' : List (View T)) → ((n : List ℕ) (m : ℕ) → Made views n m → Made views' n m) → (name : List ℕ) → HasParent views name → HasParent views' name
  parent_grows views views' f [] h = tt
  parent_grows views views' f (j ∷ name) h = f name (j + 1) h

  -- where each hand stems from one that stood elsewhere, no two from one, what is said of all hands is kept
  module _ (views views' : List (View T)) (stems : (i k : ℕ) (h : Hand T) → At views' i k h → Stems views h)
      (once : (i j k l : ℕ) (h g : Hand T) (a : At views' i k h) (b : At views' j l g) → (stems i k h a).0 ≡ (stems j l g b).0 → (stems i k h a).1 ≡ (stems j l g b).1 → (i ≡ j) × (k ≡ l)) where
    pub keeps_apart : Apart views → Apart views'
    keeps_apart apart i j k l h g a b e =
        let o = stems i k h a in let p = stems j l g b in
        let s = apart o.0 p.0 o.1 p.1 o.2 p.2 o.3 p.3 (sym o.4.name ∙ e ∙ p.4.name) in
        once i j k l h g a b s.0 s.1

    pub keeps_only : Only views → Only views'
    keeps_only only i j k l h g a b alone =
        let o = stems i k h a in let p = stems j l g b in
        ⊎_elim
        (λ (s : (o.0 ≡ p.0) × (o.1 ≡ p.1)). inl (once i j k l h g a b s.0 s.1))
        (λ (n : p.2.right ≡ Never). inr (p.4.never n))
        (only o.0 p.0 o.1 p.1 o.2 p.2 o.3 p.3 (o.4.alone alone))

    pub keeps_sole : (done : List (List ℕ × Entry T)) → Sole done views → Sole done views'
    keeps_sole done sole i k h a alone d c = let o = stems i k h a in sole o.0 o.1 o.2 o.3 (o.4.alone alone) d c ∙ sym o.4.name

    pub keeps_parents : ((n : List ℕ) (m : ℕ) → Made views n m → Made views' n m) → Parents views views → Parents views' views'
    keeps_parents grow parents i k h a =
        let o = stems i k h a in
        subst (HasParent views') (sym o.4.name) (parent_grows views views' grow o.2.name (parents o.0 o.1 o.2 o.3))

  -- one hand of one view is changed
  module _ (views : List (View T)) (port : ℕ) (v : View T) (at : get_elem? views port ≡ some v) (spot : ℕ) (h0 h1 : Hand T) (there : get_elem? v.hands spot ≡ some h0) (like : Like h0 h1) where
    abbrev pub after : List (View T)
    after = set views port (record { hands = set v.hands spot h1 })

    pub first : At views port spot h0
    first = (v, at, there)

    -- a hand that stands there now is that one, or it stood there
    pub changed : (i k : ℕ) (h : Hand T) → At after i k h → ((i ≡ port) × (k ≡ spot) × (h1 ≡ h)) ⊎ (At views i k h × (((i ≡ port) × (k ≡ spot)) → ⊥))
    changed i k h a = ⊎_elim
        (λ (t : (i ≡ port) × (record { hands = set v.hands spot h1 } ≡ a.0)). ⊎_elim
        (λ (s : (k ≡ spot) × (h1 ≡ h)). inl (t.0, s.0, s.1))
        (λ (s : (k ≢ spot) × (get_elem? v.hands k ≡ some h)). inr ((v, subst (λ (n : ℕ). get_elem? views n ≡ some v) (sym t.0) at, s.1), λ e. s.0 e.1))
        (at_set v.hands spot k h1 h (subst (λ (u : View T). get_elem? u.hands k ≡ some h) (sym t.1) a.2)))
        (λ (t : (i ≢ port) × (get_elem? views i ≡ some a.0)). inr ((a.0, t.1, a.2), λ e. t.0 e.0))
        (at_set views port i (record { hands = set v.hands spot h1 }) a.0 a.1)

    stem_of : (i k : ℕ) (h : Hand T) → ((i ≡ port) × (k ≡ spot) × (h1 ≡ h)) ⊎ (At views i k h × (((i ≡ port) × (k ≡ spot)) → ⊥)) → (g : Hand T) × At views i k g × Like g h
    stem_of i k h (inl t) = (h0, subst (λ (n : ℕ × ℕ). At views n.0 n.1 h0) (λ j. (sym t.0 j, sym t.1 j)) first, subst (Like h0) t.2 like)
    stem_of i k h (inr t) = (h, t.0, like_itself h)

    pub stems_there : (i k : ℕ) (h : Hand T) → At after i k h → Stems views h
    stems_there i k h a = let s = stem_of i k h (changed i k h a) in (i, k, s.0, s.1, s.2)

    -- no two stem from one
    pub once_there : (i j k l : ℕ) (h g : Hand T) (a : At after i k h) (b : At after j l g) → (stems_there i k h a).0 ≡ (stems_there j l g b).0 → (stems_there i k h a).1 ≡ (stems_there j l g b).1 → (i ≡ j) × (k ≡ l)
    unfolding stems_there
    once_there i j k l h g a b e f = (e, f)

    pub grown : (n : List ℕ) (m : ℕ) → Made views n m → Made after n m
    grown n m made =
        let i = made.0 in let k = made.1 in let h = made.2 in let a = made.3 in
        let w : View T = record { hands = set v.hands spot h1 } in
        let here : get_elem? after port ≡ some w = set_here views port w (below views port v at) in
        dite (ℕ_discrete i port)
        (λ (e : i ≡ port).
        let u : a.0 ≡ v = some-injective a.0 v (sym a.1 ∙ ap (get_elem? views) e ∙ at) in
        let h_at : get_elem? v.hands k ≡ some h = subst (λ (u : View T). get_elem? u.hands k ≡ some h) u a.2 in
        dite (ℕ_discrete k spot)
        (λ (s : k ≡ spot).
        let is : h ≡ h0 = some-injective h h0 (sym h_at ∙ ap (get_elem? v.hands) s ∙ there) in
        let le = made.5 in let up = like.made in let eq = ap (λ (u : Hand T). u.made) is in
        (port, spot, h1, (w, here, set_here v.hands spot h1 (below v.hands spot h0 there)), like.name ∙ sym (ap (λ (u : Hand T). u.name) is) ∙ made.4, omega (arith, le, up, eq)))
        (λ ns. (port, k, h, (w, here, set_else v.hands spot k h1 ns ∙ h_at), made.4, made.5)))
        (λ ne. (i, k, h, (a.0, set_else views port i w ne ∙ a.1, a.2), made.4, made.5))

    -- another hand has another name
    pub others_differ : Apart views → (i k : ℕ) (h : Hand T) → At views i k h → (((i ≡ port) × (k ≡ spot)) → ⊥) → h.name ≡ h0.name → ⊥
    others_differ apart i k h a other e = other (apart i port k spot h h0 a first e)
