-- What a pass learns from the rule, and what follows of its hands.
use Rattle.std.proofs.Common.{◌≡◌, ◌+◌, ◌≤◌, ℕ, List, [], ◌∷◌, ◌++◌, length, map, refl, sym, ap, ◌∙◌, subst, inl, inr, ⊎_elim, arith}
use Rattle.std.specs.List.{Contains}
use Rattle.std.proofs.lemmas.List.{append-nil, map-append}
use Rattle.std.proofs.lemmas.List.Elements.{filter-append, Contains-append_cases}
use mathlib.Core.Option.{some, some-injective}
use lib.ListN.{get_elem?}
use Rattle.crossbeam_queue.specs.Fifo.{Learns}
use Rattle.udt_queues.specs.declared.view.Entry.{Entry}
use Rattle.udt_queues.specs.declared.view.Hand.{Hand}
use Rattle.udt_queues.specs.declared.view.View.{View}
use Rattle.udt_queues.specs.Lines.{same, placed, put_under, took_under, log_of, Rising, At, Made, HasParent, Kept}
use Rattle.udt_queues.specs.Told.{HasHand, IsWhole, Knows, TookAlone, values_from, Told, Emptied, WasEmpty}
use Rattle.udt_queues.proofs.Members.{in_none, filter_in, map_in}
use Rattle.udt_queues.proofs.Names.{names_differ, placed_at, placed_values}
use Rattle.udt_queues.proofs.Logs.{took_rising, took_done, done_took, done_logged, put_there, took_all}

module _ {T : Type 0} where
  module _ (items : List T) (views : List (View T)) (kept : Kept items views) (port : ℕ) (v : View T) (at : get_elem? views port ≡ some v) (whole : IsWhole v) where
    same_hand : (i k l : ℕ) (h p : Hand T) → At views i k h → get_elem? v.hands l ≡ some p → h.name ≡ p.name → h ≡ p
    same_hand i k l h p there here e =
        let a = kept.apart i port k l h p there (v, at, here) e in
        let u : there.0 ≡ v = some-injective there.0 v (sym there.1 ∙ ap (get_elem? views) a.0 ∙ at) in
        some-injective h p (sym there.2 ∙ ap (λ (w : View T). get_elem? w.hands k) u ∙ ap (get_elem? v.hands) a.1 ∙ here)

    -- a whole view has each name that some hand has
    pub named : (n : List ℕ) (i k : ℕ) (h : Hand T) → At views i k h → h.name ≡ n → HasHand v n
    named [] i k h there e = whole.first
    named (j ∷ rest) i k h there e =
        let m : Made views rest (j + 1) = subst (HasParent views) e (kept.parents i k h there) in
        let r = named rest m.0 m.1 m.2 m.3 m.4 in
        let is : m.2 ≡ r.1 = same_hand m.0 m.1 r.0 m.2 r.1 m.3 r.2 (m.4 ∙ sym r.3) in
        let c = whole.others r.0 r.1 r.2 j (subst (λ (q : Hand T). j + 1 ≤ q.made) is m.5) in
        (c.0, c.1, c.2, c.3 ∙ ap (λ (l : List ℕ). j ∷ l) r.3)

  pub learns : (port : ℕ) (v : View T) → Learns Kept port v (Knows v)
  learns port v items views kept at = record {
    done = kept.done;
    here = kept.here;
    content = kept.content;
    order = kept.order;
    fits = λ k h e. kept.fits port k h (v, at, e);
    sole = λ k h e alone d c. kept.sole port k h (v, at, e) alone d c;
    putters = λ whole e c. let m = kept.putters e c in named items views kept port v at whole e.from m.0 m.1 m.2 m.3 m.4;
    takers = λ whole d c. let m = kept.takers d c in named items views kept port v at whole d.0 m.0 m.1 m.2 m.3 m.4;
  }

  module _ (v : View T) (items : List T) (knows : Knows v items) where
    second : List ℕ × Entry T → Entry T
    second d = d.1

    -- what a hand took stands in the log
    logged : (k : ℕ) (h : Hand T) → get_elem? v.hands k ≡ some h → (e : Entry T) → Contains h.took e → Contains (log_of knows.done knows.here) e
    logged k h there e c = done_logged knows.done knows.here (h.name, e) (took_done h.name knows.done e (subst (λ l. Contains l e) (knows.fits k h there).took c))

    -- all was taken by the hand that took alone
    alone_took : (k : ℕ) (h : Hand T) → get_elem? v.hands k ≡ some h → TookAlone v h → (d : List ℕ × Entry T) → Contains knows.done d → d.0 ≡ h.name
    alone_took k h there (inl right) d c = knows.sole k h there right d c
    alone_took k h there (inr others) d c =
        let g = knows.takers others.0 d c in
        ⊎_elim
        (λ (e : g.1.name ≡ h.name). sym g.3 ∙ e)
        (λ (ne : g.1.name ≡ h.name → ⊥).
        let took : Contains (took_under g.1.name knows.done) d.1 = done_took g.1.name knows.done d.1 (subst (λ n. Contains knows.done (n, d.1)) (sym g.3) c) in
        absurd (in_none d.1 (subst (λ l. Contains l d.1) (sym (knows.fits g.0 g.1 g.2).took ∙ others.1 g.0 g.1 g.2 ne) took)))
        (names_differ g.1.name h.name)

    -- what a producer put is what the hand took of it that took alone, and then what the queue holds of it
    split_put : (k l : ℕ) (h p : Hand T) → get_elem? v.hands k ≡ some h → get_elem? v.hands l ≡ some p → TookAlone v h → p.put ≡ values_from p.name h ++ map (λ (e : Entry T). e.value) (put_under p.name knows.here)
    split_put k l h p at there alone =
        let value : Entry T → T = λ e. e.value in
        let done = map (λ (d : List ℕ × Entry T). d.1) knows.done in
        let took : h.took ≡ done = (knows.fits k h at).took ∙ took_all h.name knows.done (alone_took k h at alone) in
        sym (placed_values p.name 0 p.put)
        ∙ ap (map value) (sym (knows.fits l p there).put ∙ filter-append (λ (e : Entry T). same p.name e.from) done knows.here)
        ∙ map-append value (put_under p.name done) (put_under p.name knows.here)
        ∙ ap (λ t. map value (put_under p.name t) ++ map value (put_under p.name knows.here)) (sym took)

    pub told : Told v
    told = record {
      order = λ k h there. subst Rising (sym (knows.fits k h there).took) (took_rising h.name knows.done knows.here knows.order);
      put = λ k l h p at there e c is. (sym is, (put_there knows.done knows.here p (knows.fits l p there) e (logged k h at e c) is).1);
      prefix = λ k l h p at there alone. (map (λ (e : Entry T). e.value) (put_under p.name knows.here), split_put k l h p at there alone);
      whole = λ whole e took.
          let p = knows.putters whole e (logged took.0 took.1 took.2 e took.3) in
          (p.0, p.1, p.2, (p.3, (put_there knows.done knows.here p.1 (knows.fits p.0 p.1 p.2) e (logged took.0 took.1 took.2 e took.3) (sym p.3)).1));
    }

    none_here : (here : List (Entry T)) → items ≡ map (λ e. e.value) here → length items ≡ 0 → here ≡ []
    none_here [] content none = refl
    none_here (x ∷ xs) content none = let n = ap (λ (l : List T). length l) content in absurd (omega (arith, n, none))

    pub emptied : length items ≡ 0 → Emptied v
    emptied none =
        let empty : knows.here ≡ [] = none_here knows.here knows.content none in
        record {
          all = λ k l h p at there alone.
              split_put k l h p at there alone
              ∙ ap (λ t. values_from p.name h ++ map (λ (e : Entry T). e.value) (put_under p.name t)) empty
              ∙ append-nil (values_from p.name h);
          each = λ whole l p there e put.
              let z : 0 + e.place ≡ e.place = omega arith in
              let mine : Contains (placed p.name 0 p.put) (record { from = p.name; place = 0 + e.place; value = e.value }) = placed_at p.name 0 p.put e.place e.value put.1 in
              let here : Contains (placed p.name 0 p.put) e = subst (λ (y : List ℕ × ℕ). Contains (placed p.name 0 p.put) (record { from = y.0; place = y.1; value = e.value })) (λ i. (put.0 i, z i)) mine in
              let in_log : Contains (log_of knows.done knows.here) e = filter_in (λ (e : Entry T). same p.name e.from) (log_of knows.done knows.here) e (subst (λ l. Contains l e) (sym (knows.fits l p there).put) here) in
              ⊎_elim
              (λ (c : Contains (map (λ (d : List ℕ × Entry T). d.1) knows.done) e).
              let d = map_in (λ (d : List ℕ × Entry T). d.1) knows.done e c in
              let g = knows.takers whole d.0 d.1 in
              let took : Contains (took_under g.1.name knows.done) d.0.1 = done_took g.1.name knows.done d.0.1 (subst (λ n. Contains knows.done (n, d.0.1)) (sym g.3) d.1) in
              (g.0, g.1, g.2, subst (λ l. Contains l e) (sym (knows.fits g.0 g.1 g.2).took) (subst (Contains (took_under g.1.name knows.done)) d.2 took)))
              (λ (c : Contains knows.here e). absurd (in_none e (subst (λ l. Contains l e) empty c)))
              (Contains-append_cases (map (λ (d : List ℕ × Entry T). d.1) knows.done) knows.here e in_log);
        }

  -- a pass that found its queue empty
  pub empty_told : (v w : View T) → w ≡ v → WasEmpty v → Told w
  empty_told v w is e = subst Told (sym is) (told v e.0 e.2)

  pub empty_emptied : (v w : View T) → w ≡ v → WasEmpty v → Emptied w
  empty_emptied v w is e = subst Emptied (sym is) (emptied v e.0 e.2 e.1)
