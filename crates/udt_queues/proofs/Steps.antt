-- A put and a take keep the rule.
use Rattle.std.proofs.Common.{◌≡◌, ◌≢◌, ◌⊎◌, ◌+◌, ℕ, List, [], ◌∷◌, ◌++◌, length, map, set, refl, sym, ap, ◌∙◌, subst, inl, inr, ⊎_elim, append_assoc, arith}
use Rattle.std.specs.List.{Contains}
use Rattle.std.proofs.lemmas.List.{map-append}
use Rattle.std.proofs.lemmas.List.Elements.{Contains-push_cases}
use mathlib.Core.Option.{some, some-injective}
use lib.ListN.{get_elem?}
use Rattle.crossbeam_queue.proofs.Lists.{at_set}
use Rattle.crossbeam_queue.specs.Fifo.{Pushes, Pops}
use Rattle.udt_queues.specs.declared.view.Right.TheVariants.{Never}
use Rattle.udt_queues.specs.declared.view.Entry.{Entry}
use Rattle.udt_queues.specs.declared.view.Hand.{Hand}
use Rattle.udt_queues.specs.declared.view.View.{View}
use Rattle.udt_queues.specs.Lines.{put_under, log_of, Rising, Fits, At, Kept, IsLive, Works, putting, taking, Puts, Takes}
use Rattle.udt_queues.proofs.Names.{put_own, put_other, took_own, took_other, placed_more}
use Rattle.udt_queues.proofs.Logs.{rising_push, took_rising, put_there}
use Rattle.udt_queues.proofs.Places.{Like, below, own_of, live_hand}
use Rattle.udt_queues.proofs.Places as places

module _ {T : Type 0} where
  -- what a change of one hand keeps, whatever the log is
  module _ (items : List T) (views : List (View T)) (kept : Kept items views)
      (port : ℕ) (v : View T) (at : get_elem? views port ≡ some v) (spot : ℕ) (h0 h1 : Hand T) (there : get_elem? v.hands spot ≡ some h0) (like : Like h0 h1) where
    -- the rule, of a new log of which each hand has its part
    pub rebuilt : (items' : List T) (done : List (List ℕ × Entry T)) (here : List (Entry T)) → items' ≡ map (λ e. e.value) here → Rising (log_of done here)
        → Fits done here h1
        → ((i k : ℕ) (h : Hand T) → At views i k h → (h.name ≡ h0.name → ⊥) → Fits done here h)
        → ((e : Entry T) → Contains (log_of done here) e → Contains (log_of kept.done kept.here) e ⊎ (e.from ≡ h0.name))
        → ((d : List ℕ × Entry T) → Contains done d → Contains kept.done d ⊎ ((d.0 ≡ h0.name) × (h0.right ≢ Never)))
        → Kept items' (places.after views port v at spot h0 h1 there like)
    rebuilt items' done here content order mine others put took =
        let stems = places.stems_there views port v at spot h0 h1 there like in
        let once = places.once_there views port v at spot h0 h1 there like in
        let grow = places.grown views port v at spot h0 h1 there like in
        let first : At views port spot h0 = (v, at, there) in
        record {
          done = done;
          here = here;
          content = content;
          order = order;
          fits = λ i k h a. ⊎_elim
              (λ (t : (i ≡ port) × (k ≡ spot) × (h1 ≡ h)). subst (Fits done here) t.2 mine)
              (λ (t : At views i k h × (((i ≡ port) × (k ≡ spot)) → ⊥)). others i k h t.0 (places.others_differ views port v at spot h0 h1 there like kept.apart i k h t.0 t.1))
              (places.changed views port v at spot h0 h1 there like i k h a);
          parents = places.keeps_parents views (places.after views port v at spot h0 h1 there like) stems once grow kept.parents;
          putters = λ e c. ⊎_elim
              (λ (old : Contains (log_of kept.done kept.here) e). grow e.from 0 (kept.putters e old))
              (λ (is : e.from ≡ h0.name). grow e.from 0 (port, spot, h0, first, sym is, omega arith))
              (put e c);
          takers = λ d c. ⊎_elim
              (λ (old : Contains kept.done d). grow d.0 0 (kept.takers d old))
              (λ (is : (d.0 ≡ h0.name) × (h0.right ≢ Never)). grow d.0 0 (port, spot, h0, first, sym is.0, omega arith))
              (took d c);
          apart = places.keeps_apart views (places.after views port v at spot h0 h1 there like) stems once kept.apart;
          only = places.keeps_only views (places.after views port v at spot h0 h1 there like) stems once kept.only;
          sole = λ i k h a alone d c. let o = stems i k h a in ⊎_elim
              (λ (old : Contains kept.done d). kept.sole o.0 o.1 o.2 o.3 (o.4.alone alone) d old ∙ sym o.4.name)
              (λ (is : (d.0 ≡ h0.name) × (h0.right ≢ Never)). ⊎_elim
              (λ (s : (o.0 ≡ port) × (o.1 ≡ spot)). is.0 ∙ sym (one_hand o.0 o.1 o.2 o.3 s) ∙ sym o.4.name)
              (λ (n : h0.right ≡ Never). absurd (is.1 n))
              (kept.only o.0 port o.1 spot o.2 h0 o.3 first (o.4.alone alone)))
              (took d c);
        }
      where
        one_hand : (i k : ℕ) (g : Hand T) → At views i k g → (i ≡ port) × (k ≡ spot) → g.name ≡ h0.name
        one_hand i k g a s =
            let u : a.0 ≡ v = some-injective a.0 v (sym a.1 ∙ ap (get_elem? views) s.0 ∙ at) in
            let e : g ≡ h0 = some-injective g h0 (sym a.2 ∙ ap (λ (u : View T). get_elem? u.hands k) u ∙ ap (get_elem? v.hands) s.1 ∙ there) in
            ap (λ (u : Hand T). u.name) e

  pub puts : (n port : ℕ) (v : View T) (x : T) → IsLive v → Pushes Kept n port v x (Puts v x)
  puts n port v x alive items views room kept at =
      let live = live_hand v.hands alive in
      let h0 = live.0 in
      let h1 = putting h0 x in
      let like : Like h0 h1 = record { name = refl; made = omega arith; alone = λ e. e; never = λ e. e } in
      let done = kept.done in
      let log = log_of kept.done kept.here in
      let e : Entry T = record { from = h0.name; place = 0 + length h0.put; value = x } in
      let here : List (Entry T) = kept.here ++ e ∷ [] in
      let longer : log_of done here ≡ log ++ e ∷ [] = sym (append_assoc (map (λ (d : List ℕ × Entry T). d.1) done) kept.here (e ∷ [])) in
      let mine = kept.fits port 0 h0 (v, at, live.1) in (
        record { hands = set v.hands 0 h1 },
        rebuilt items views kept port v at 0 h0 h1 live.1 like (items ++ x ∷ []) done here
            (ap (λ l. l ++ x ∷ []) kept.content ∙ sym (map-append (λ (e : Entry T). e.value) kept.here (e ∷ [])))
            (subst Rising (sym longer) (rising_push log e
            (λ y c is. let lt = (put_there done kept.here h0 mine y c (sym is)).0 in omega (arith, lt)) kept.order))
            (record {
              put = ap (put_under h0.name) longer ∙ put_own h0.name e log refl ∙ ap (λ l. l ++ e ∷ []) mine.put ∙ sym (placed_more h0.name 0 h0.put x);
              took = mine.took;
            })
            (λ i k h a apart. let old = kept.fits i k h a in record {
              put = ap (put_under h.name) longer ∙ put_other h.name e log apart ∙ old.put;
              took = old.took;
            })
            (λ y c. ⊎_elim (λ old. inl old) (λ (new : e ≡ y). inr (sym (ap (λ (z : Entry T). z.from) new))) (Contains-push_cases log e y (subst (λ l. Contains l y) longer c)))
            (λ d c. inl c),
        (h0, live.1, refl),
      )

  abbrev head_or : T → List T → T
  head_or d [] = d
  head_or d (y ∷ ys) = y

  abbrev tail : List T → List T
  tail [] = []
  tail (y ∷ ys) = ys

  -- the first entry that the queue holds
  front : (x : T) (items : List T) (here : List (Entry T)) → x ∷ items ≡ map (λ e. e.value) here
      → (e : Entry T) × (rest : List (Entry T)) × (here ≡ e ∷ rest) × (e.value ≡ x) × (items ≡ map (λ e. e.value) rest)
  front x items [] e = let n = ap (λ (l : List T). length l) e in absurd (omega (arith, n))
  front x items (y ∷ ys) e = (y, ys, refl, sym (ap (head_or x) e), ap tail e)

  pub takes : (port : ℕ) (v : View T) → Works v → Pops Kept port v (Takes v)
  takes port v able x items views kept at =
      let works = own_of v able in
      let h0 = works.own in
      let f = front x items kept.here kept.content in
      let e = f.0 in let rest = f.1 in
      let h1 = taking h0 e in
      let like : Like h0 h1 = record { name = refl; made = omega arith; alone = λ e. e; never = λ e. e } in
      let second : List ℕ × Entry T → Entry T = λ d. d.1 in
      let done : List (List ℕ × Entry T) = kept.done ++ (h0.name, e) ∷ [] in
      let log = log_of kept.done kept.here in
      let same_log : log_of done rest ≡ log =
      ap (λ l. l ++ rest) (map-append second kept.done ((h0.name, e) ∷ []))
      ∙ append_assoc (map second kept.done) (e ∷ []) rest
      ∙ ap (λ l. map second kept.done ++ l) (sym f.2) in
      let mine = kept.fits port 0 h0 (v, at, works.there) in
      let order : Rising (log_of done rest) = subst Rising (sym same_log) kept.order in
      let own : Fits done rest h1 = record {
        put = ap (put_under h0.name) same_log ∙ mine.put;
        took = ap (λ l. l ++ e ∷ []) mine.took ∙ sym (took_own h0.name e kept.done);
      } in
      let w : View T = record { hands = set v.hands 0 h1 } in
      let now : Kept items (set views port w) = rebuilt (x ∷ items) views kept port v at 0 h0 h1 works.there like items done rest
      f.4 order own
      (λ i k h a apart. let old = kept.fits i k h a in record {
        put = ap (put_under h.name) same_log ∙ old.put;
        took = old.took ∙ sym (took_other h.name h0.name e kept.done apart);
      })
      (λ y c. inl (subst (λ l. Contains l y) same_log c))
      (λ d c. ⊎_elim (λ old. inl old) (λ (new : (h0.name, e) ≡ d). inr (sym (ap (λ (z : List ℕ × Entry T). z.0) new), works.may)) (Contains-push_cases kept.done (h0.name, e) d c)) in (
        w,
        now,
        record {
          by = h0;
          there = works.there;
          entry = e;
          value = f.3;
          next = refl;
          order = λ k h there. ⊎_elim
              (λ (t : (k ≡ 0) × (h1 ≡ h)). subst (λ (g : Hand T). Rising g.took) t.1 (subst Rising (sym own.took) (took_rising h0.name done rest order)))
              (λ (t : (k ≢ 0) × (get_elem? v.hands k ≡ some h)).
              let old = kept.fits port k h (v, at, t.1) in
              subst Rising (sym old.took) (took_rising h.name kept.done kept.here kept.order))
              (at_set v.hands 0 k h1 h there);
        },
      )
