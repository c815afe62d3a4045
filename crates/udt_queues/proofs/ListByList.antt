-- Lists of messages are made one after another.
use Rattle.std.proofs.Common.{◌≡◌, ◌≢◌, ◌+◌, ◌<◌, ℕ, Bool, true, false, List, [], ◌∷◌, ◌++◌, length, map, get_or, set, Some, refl, sym, ap, ◌∙◌, subst, arith}
use Rattle.std.specs.Prelude.{slice_get, ◌==◌, ◌||◌, if◌then◌else◌}
use Rattle.std.proofs.lemmas.List.{map-append, length_push}
use Rattle.std.proofs.lemmas.Option.{slice_get_within, same_Some}
use Rattle.std.proofs.Math.ListN.{length-set}
use Rattle.atomic_table.specs.Seated.{TableId}
use mathlib.Core.Logic.{dite}
use native.Mathlib.Decide.{ℕ_discrete}
use Rattle.udt_queues.specs.declared.lane.Lane.{Lane}
use Rattle.udt_queues.specs.declared.attach.AttachPass.{AttachPass}
use Rattle.udt_queues.specs.Passing.{both_of}
use Rattle.udt_queues.specs.Lists.{view_of, list_of, room_at, Absorbs, joined}
use Rattle.udt_queues.specs.Starting.{taker_view, putter_view, IsFresh, AreBuilt, ArePutters, IsColumn, Adds, HandsOut, AreEmpty}
use Rattle.udt_queues.proofs.Zips.{got, get_set, get_other, get_before, get_last, there_is}

module _ {A : Type 0} where
  no_element : (i : ℕ) (x : A) → slice_get [] i ≡ Some x → ⊥
  no_element i x e = absurd (cc)

  -- what holds of each element holds of one more
  pub each_push : (P : ℕ → A → Type 0) (xs : List A) (x : A) → ((k : ℕ) (y : A) → slice_get xs k ≡ Some y → P k y) → P (length xs) x → (k : ℕ) (y : A) → slice_get (xs ++ x ∷ []) k ≡ Some y → P k y
  each_push P xs x each last k y e = dite (ℕ_discrete k (length xs))
      (λ (is : k ≡ length xs). subst (λ (z : ℕ × A). P z.0 z.1) (λ i. (sym is i, same_Some x y (sym (get_last xs x) ∙ ap (slice_get (xs ++ x ∷ [])) (sym is) ∙ e) i)) last)
      (λ ne.
      let lt = slice_get_within (xs ++ x ∷ []) k y e in
      let one = length_push xs x in
      each k y (sym (get_before xs x k (omega (arith, lt, one, ne))) ∙ e))

equal_names : (a b : ℕ) → a ≡ b → (a == b) ≡ true
equal_names a b e = grind arith

other_names : (a b : ℕ) → a ≢ b → (a == b) ≡ false
other_names a b n = grind arith

module _ {M : Type 0} where
  -- one putter's right more
  pub putters_push : (list : TableId × ℕ) (lanes lanes' : List (Lane M)) (j : ℕ) (lane : Lane M) → lanes' ≡ lanes ++ lane ∷ [] → length lanes ≡ j → ArePutters list lanes
      → view_of lane ≡ putter_view j → lane.takes ≡ false → list_of lane ≡ list → ArePutters list lanes' × (length lanes' ≡ j + 1)
  putters_push list lanes lanes' j lane is len putters view takes of = (
    subst (ArePutters list) (sym is) (each_push (λ k l. (view_of l ≡ putter_view k) × (l.takes ≡ false) × (list_of l ≡ list)) lanes lane putters
        (subst (λ (n : ℕ). (view_of lane ≡ putter_view n) × (lane.takes ≡ false) × (list_of lane ≡ list)) (sym len) (view, takes, of))),
    ap (λ ls. length ls) is ∙ length_push lanes lane ∙ ap (λ (n : ℕ). n + 1) len,
  )

  -- the owner's right joins the putter's at its place
  pub column_is : (takers places own : ℕ) (lanes : List (Lane M)) (owner old new : Lane M) → length lanes ≡ takers → own < takers
      → ArePutters (list_of owner) lanes → view_of owner ≡ taker_view takers → owner.takes ≡ true → room_at owner ≡ places
      → old ≡ get_or lanes own old → Absorbs old owner new → IsColumn takers places own (set lanes own new)
  column_is takers places own lanes owner old new len lt putters view takes room read joins =
      let inside : own < length lanes = omega (arith, len, lt) in
      let mine = putters own old (got lanes own old inside read) in
      let new_list : list_of new ≡ list_of owner = joins.list ∙ mine.2 in
      let fresh : IsFresh takers places own own new = record {
        view = joins.view ∙ ap (λ b. joined b (view_of old) (view_of owner)) takes ∙ (λ i. both_of (view i) (mine.0 i))
            ∙ sym (ap (λ (b : Bool). if b then both_of (taker_view takers) (putter_view own) else putter_view own) (equal_names own own refl));
        takes = joins.takes ∙ (λ i. mine.1 i || takes i) ∙ sym (equal_names own own refl);
        room = ap (λ (t : TableId × ℕ). t.1) new_list ∙ room;
      } in
      let each : (j : ℕ) (l : Lane M) → slice_get (set lanes own new) j ≡ Some l → IsFresh takers places own j l × (list_of l ≡ list_of owner) = λ j l e. dite (ℕ_discrete j own)
      (λ (is : j ≡ own).
      let l_is : new ≡ l = same_Some new l (sym (get_set lanes own new inside) ∙ ap (slice_get (set lanes own new)) (sym is) ∙ e) in
      subst (λ (z : ℕ × Lane M). IsFresh takers places own z.0 z.1 × (list_of z.1 ≡ list_of owner)) (λ i. (sym is i, l_is i)) (fresh, new_list))
      (λ (ne : j ≢ own).
      let p = putters j l (sym (get_other lanes own j new ne) ∙ e) in (
        record {
          view = p.0 ∙ sym (ap (λ (b : Bool). if b then both_of (taker_view takers) (putter_view j) else putter_view j) (other_names own j (λ e. ne (sym e))));
          takes = p.1 ∙ sym (other_names own j (λ e. ne (sym e)));
          room = ap (λ (t : TableId × ℕ). t.1) p.2 ∙ room;
        },
        p.2,
      )) in
      record {
        len = length-set lanes own new ∙ len;
        fresh = λ j l e. (each j l e).0;
        same = λ j k l m a b. (each j l a).1 ∙ sym (each k m b).1;
      }

  pub built_none : (takers places : ℕ) (passes : List (AttachPass M)) → AreEmpty takers passes → AreBuilt takers places 0 passes
  built_none takers places passes empty = record {
    len = empty.len;
    sized = λ j p e. ap (λ l. length l) (empty.each j p e);
    fresh = λ i j p l e f. absurd (no_element i l (sym (ap (λ ls. slice_get ls i) (empty.each j p e)) ∙ f));
    same = λ j k p q e f. ap (map list_of) (empty.each j p e ∙ sym (empty.each k q f));
  }

  -- one list more
  pub built_more : (takers places i : ℕ) (before after : List (AttachPass M)) (lanes : List (Lane M)) → AreBuilt takers places i before → IsColumn takers places i lanes → HandsOut before lanes after
      → AreBuilt takers places (i + 1) after
  built_more takers places i before after lanes built column out =
      let was : (j : ℕ) (q : AttachPass M) → slice_get after j ≡ Some q → (p : AttachPass M) × (l : Lane M) × (slice_get before j ≡ Some p) × (slice_get lanes j ≡ Some l) × Adds p l q = λ j q e.
      let lt = slice_get_within after j q e in
      let a = out.len in let b = built.len in let d = column.len in
      let p = there_is before j (omega (arith, lt, a)) in
      let l = there_is lanes j (omega (arith, lt, a, b, d)) in
      (p.0, l.0, p.1, l.1, out.each j p.0 l.0 q p.1 l.1 e) in
      record {
        len = out.len ∙ built.len;
        sized = λ j q e. let w = was j q e in ap (λ ls. length ls) w.4 ∙ length_push w.0.lanes.items w.1 ∙ ap (λ (n : ℕ). n + 1) (built.sized j w.0 w.2);
        fresh = λ k j q l e f. let w = was j q e in
            each_push (λ k l. IsFresh takers places k j l) w.0.lanes.items w.1
            (λ n y h. built.fresh n j w.0 y w.2 h)
            (subst (λ (n : ℕ). IsFresh takers places n j w.1) (sym (built.sized j w.0 w.2)) (column.fresh j w.1 w.3))
            k l (ap (λ ls. slice_get ls k) (sym w.4) ∙ f);
        same = λ j k p q e f. let w = was j p e in let u = was k q f in
            ap (map list_of) w.4 ∙ map-append list_of w.0.lanes.items (w.1 ∷ [])
            ∙ (λ i. built.same j k w.0 u.0 w.2 u.2 i ++ column.same j k w.1 u.1 w.3 u.3 i ∷ [])
            ∙ sym (map-append list_of u.0.lanes.items (u.1 ∷ [])) ∙ sym (ap (map list_of) u.4);
      }
