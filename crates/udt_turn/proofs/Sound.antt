-- What a pass has seen stays sound as it draws a number and splits a pass off, which is sound too.
use Rattle.std.proofs.Common.{◌≡◌, ℕ, ◌<◌, true, false, ◌||◌, eqb, [], ◌∷◌, refl, sym, inr, arith}
use Rattle.std.proofs.lemmas.Bool.Decides.{nat_tests}
use Rattle.udt_turn.specs.Story.{Telling}
use Rattle.udt_turn.specs.History.{mine_in}
use Rattle.udt_turn.specs.Kinds.{drawn_to, parent_of, child_of, number_in, newcomer, IsSound}
use Rattle.udt_turn.specs.declared.view.View.{View}
use Rattle.udt_turn.specs.declared.view.Stage.{Stage}
use Rattle.udt_turn.proofs.Histories.{last_from-none}
use Rattle.udt_turn.proofs.Passes.{has_head}

module _ {V E : Type 0} (t : Telling V E) where
  pub sound_drawn : (v : View V E) (n : ℕ) (st : Stage E) → IsSound t v → IsSound t (drawn_to v n st)
  sound_drawn v n st h = record { legal = h.legal; whole = λ w. h.whole (record { first = w.first; children = w.children }); last = h.last; own = h.own }

  -- with one more child a view is whole in fewer cases
  pub sound_parent : (v : View V E) → IsSound t v → IsSound t (parent_of v)
  sound_parent v h = record {
    legal = h.legal;
    whole = λ w. h.whole (record { first = w.first; children = λ p m c. w.children p m (inr c) });
    last = h.last;
    own = h.own;
  }

  -- a new view, whose number is not 0, is not whole
  pub sound_child : (v : View V E) → v.number < number_in v.stage → mine_in (number_in v.stage ∷ []) v.seen.items ≡ [] → IsSound t v → IsSound t (child_of v)
  sound_child v above none h = record {
    legal = h.legal;
    whole = λ w. absurd (not_first (number_in v.stage) v.number above w.first);
    last = sym (last_from-none t (number_in v.stage ∷ []) v.seen.opening v.seen.items 0 none);
    own = has_head (number_in v.stage) [];
  }
    where
      not_first : (n m : ℕ) → m < n → (eqb n 0 || false) ≡ true → ⊥
      not_first n m lt e = grind (arith, nat_tests)

  -- the first pass has seen nothing
  pub sound_first : (value : V) → IsSound t (newcomer value)
  sound_first value = record { legal = tt; whole = λ w. refl; last = refl; own = refl }
