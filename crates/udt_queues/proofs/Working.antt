-- A hand that works goes on working, and what its steps count.
use Rattle.std.proofs.Common.{◌≡◌, ◌≢◌, ℕ, zero, suc, List, [], ◌∷◌, map, set, refl, sym, ap, ◌∙◌, subst}
use mathlib.Core.Option.{some, some-ne-none, some-injective}
use lib.ListN.{get_elem?}
use Rattle.crossbeam_queue.proofs.Lists.{at_longer}
use Rattle.udt_queues.specs.declared.view.Right.{Right}
use Rattle.udt_queues.specs.declared.view.Right.TheVariants.{Never, Shared, Alone}
use Rattle.udt_queues.specs.declared.view.Hand.{Hand}
use Rattle.udt_queues.specs.declared.view.View.{View}
use Rattle.udt_queues.specs.Lines.{IsLive, Works, Puts, Takes, putting, taking}
use Rattle.udt_queues.specs.Passing.{shared, parent, child, parted, part_of, served, putter_of, both_of}
use Rattle.udt_queues.proofs.Places.{own_of, works_of, live_hand, hand_live}
use Rattle.udt_queues.specs.Outgoing.{names_of, Stocked}
use Rattle.udt_model.specs.State.{Datagram}

shared_may : (r : Right) → r ≢ Never → shared r ≢ Never
shared_may Never n = absurd (n refl)
shared_may Shared n = n
shared_may Alone n = λ e. absurd (cc)

module _ {T : Type 0} where
  pub live : (v : View T) → Works v → IsLive v
  live v works = let own = own_of v works in hand_live v.hands own.own own.there

  set_first : (hs : List (Hand T)) (h g : Hand T) → get_elem? hs 0 ≡ some h → get_elem? (set hs 0 g) 0 ≡ some g
  set_first [] h g e = absurd (some-ne-none h (sym e))
  set_first (x ∷ xs) h g e = refl

  pub works_puts : (v w : View T) (x : T) → Works v → Puts v x w → Works w
  works_puts v w x able puts =
      let works = own_of v able in
      let is : puts.0 ≡ works.own = some-injective puts.0 works.own (sym puts.1 ∙ works.there) in
      works_of w (record {
        own = putting puts.0 x;
        there = ap (λ (l : List (Hand T)). get_elem? l 0) puts.2 ∙ set_first v.hands puts.0 (putting puts.0 x) puts.1;
        may = λ e. works.may (sym (ap (λ (h : Hand T). h.right) is) ∙ e);
      })

  pub works_takes : (v w : View T) (x : T) → Works v → Takes v x w → Works w
  works_takes v w x able takes =
      let works = own_of v able in
      let is : takes.by ≡ works.own = some-injective takes.by works.own (sym takes.there ∙ works.there) in
      works_of w (record {
        own = taking takes.by takes.entry;
        there = ap (λ (l : List (Hand T)). get_elem? l 0) takes.next ∙ set_first v.hands takes.by (taking takes.by takes.entry) takes.there;
        may = λ e. works.may (sym (ap (λ (h : Hand T). h.right) is) ∙ e);
      })

  parted_first : (hs : List (Hand T)) (h : Hand T) → get_elem? hs 0 ≡ some h → get_elem? (parted (record { hands = hs })).hands 0 ≡ some (parent (shared h.right) h)
  parted_first [] h e = absurd (some-ne-none h (sym e))
  parted_first (x ∷ xs) h e = ap (λ (g : Hand T). some (parent (shared g.right) g)) (some-injective x h e)

  part_first : (hs : List (Hand T)) (h : Hand T) → get_elem? hs 0 ≡ some h → get_elem? (part_of (record { hands = hs })).hands 0 ≡ some (child (shared h.right) h)
  part_first [] h e = absurd (some-ne-none h (sym e))
  part_first (x ∷ xs) h e = ap (λ (g : Hand T). some (child (shared g.right) g)) (some-injective x h e)

  pub works_parted : (v w : View T) → w ≡ parted v → Works v → Works w
  works_parted v w is able = let works = own_of v able in subst Works (sym is) (works_of (parted v) (record {
    own = parent (shared works.own.right) works.own;
    there = parted_first v.hands works.own works.there;
    may = shared_may works.own.right works.may;
  }))

  pub works_part : (v w : View T) → w ≡ part_of v → Works v → Works w
  works_part v w is able = let works = own_of v able in subst Works (sym is) (works_of (part_of v) (record {
    own = child (shared works.own.right) works.own;
    there = part_first v.hands works.own works.there;
    may = shared_may works.own.right works.may;
  }))

  pub works_both : (v w u : View T) → u ≡ both_of v w → Works v → Works u
  works_both v w u is able = let works = own_of v able in subst Works (sym is) (works_of (both_of v w) (record {
    own = works.own;
    there = at_longer v.hands w.hands 0 works.own works.there;
    may = works.may;
  }))

  pub live_puts : (v w : View T) (x : T) → IsLive v → Puts v x w → IsLive w
  live_puts v w x alive puts = hand_live w.hands (putting puts.0 x) (ap (λ (l : List (Hand T)). get_elem? l 0) puts.2 ∙ set_first v.hands puts.0 (putting puts.0 x) puts.1)

  pub live_both : (v w u : View T) → u ≡ both_of v w → IsLive v → IsLive u
  live_both v w u is alive = let h = live_hand v.hands alive in subst IsLive (sym is) (hand_live (both_of v w).hands h.0 (at_longer v.hands w.hands 0 h.0 h.1))

  served_first : (hs : List (Hand T)) (h : Hand T) → get_elem? hs 0 ≡ some h → get_elem? (served (record { hands = hs })).hands 0 ≡ some (parent h.right h)
  served_first [] h e = absurd (some-ne-none h (sym e))
  served_first (x ∷ xs) h e = ap (λ (g : Hand T). some (parent g.right g)) (some-injective x h e)

  putter_first : (hs : List (Hand T)) (h : Hand T) → get_elem? hs 0 ≡ some h → get_elem? (putter_of (record { hands = hs })).hands 0 ≡ some (child Never h)
  putter_first [] h e = absurd (some-ne-none h (sym e))
  putter_first (x ∷ xs) h e = ap (λ (g : Hand T). some (child Never g)) (some-injective x h e)

  pub live_served : (v w : View T) → w ≡ served v → IsLive v → IsLive w
  live_served v w is alive = let h = live_hand v.hands alive in subst IsLive (sym is) (hand_live (served v).hands (parent h.0.right h.0) (served_first v.hands h.0 h.1))

  pub works_served : (v w : View T) → w ≡ served v → Works v → Works w
  works_served v w is able = let works = own_of v able in subst Works (sym is) (works_of (served v) (record {
    own = parent works.own.right works.own;
    there = served_first v.hands works.own works.there;
    may = works.may;
  }))

  pub live_putter : (v w : View T) → w ≡ putter_of v → IsLive v → IsLive w
  live_putter v w is alive = let h = live_hand v.hands alive in subst IsLive (sym is) (hand_live (putter_of v).hands (child Never h.0) (putter_first v.hands h.0 h.1))

  pub works_same : (v w : View T) → w ≡ v → Works v → Works w
  works_same v w is works = subst Works (sym is) works

  abbrev name_and_made : Hand T → List ℕ × ℕ
  name_and_made h = (h.name, h.made)

  -- a change of one hand, which keeps its name and what was made of it, keeps all names
  same_names : (hs : List (Hand T)) (k : ℕ) (h g : Hand T) → get_elem? hs k ≡ some h → (g.name ≡ h.name) → (g.made ≡ h.made) → map name_and_made (set hs k g) ≡ map name_and_made hs
  same_names [] k h g e name made = refl
  same_names (x ∷ xs) zero h g e name made =
      let is = some-injective x h e in
      λ i. ((name ∙ sym (ap (λ (h : Hand T). h.name) is)) i, (made ∙ sym (ap (λ (h : Hand T). h.made) is)) i) ∷ map name_and_made xs
  same_names (x ∷ xs) (suc k) h g e name made = ap (λ l. (x.name, x.made) ∷ l) (same_names xs k h g e name made)

  pub names_puts : (v w : View T) (x : T) → Puts v x w → names_of w ≡ names_of v
  names_puts v w x puts = ap (map name_and_made) puts.2 ∙ same_names v.hands 0 puts.0 (putting puts.0 x) puts.1 refl refl

  pub names_takes : (v w : View T) (x : T) → Takes v x w → names_of w ≡ names_of v
  names_takes v w x takes = ap (map name_and_made) takes.next ∙ same_names v.hands 0 takes.by (taking takes.by takes.entry) takes.there refl refl

pub works_stocked : (n : ℕ) (v : View Datagram) → Stocked n v → Works v
works_stocked n v stocked = subst Works (sym stocked.2) refl
