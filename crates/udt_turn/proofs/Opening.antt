-- A turn that was just made keeps the rule.
use Rattle.std.proofs.Common.{◌≡◌, ℕ, zero, suc, ◌+◌, ◌*◌, ◌^◌, ◌<◌, ◌≤◌, true, false, [], ◌∷◌, Some, None, refl, sym, ◌∙◌, subst, inl, ⊎_elim, arith}
use mathlib.Core.Option.{some, some-ne-none, some-injective}
use lib.ListN.{get_elem?}
use Rattle.atomic_table.specs.Table.{opening}
use Rattle.udt_turn.proofs.Shares.{no_share_is}
use Rattle.udt_turn.specs.Story.{Telling}
use Rattle.udt_turn.specs.History.{has}
use Rattle.udt_turn.specs.Rule.{HasTurn, owned_of, IsLive, IsAlone, Claims, Each, Tickets, IsView, Child, Kept, total_of, parts}
use Rattle.udt_turn.specs.Kinds.{newcomer, IsSound}
use Rattle.udt_turn.specs.declared.view.View.{View}
use Rattle.udt_turn.proofs.Passes.{has_one}

module _ {V E : Type 0} (t : Telling V E) where
  only_one : (x : V) (P : View V E → Type 0) → P (newcomer x) → Each (newcomer x ∷ []) P
  only_one x P p zero v e = subst P (some-injective (newcomer x) v e) p
  only_one x P p (suc j) v e = absurd (some-ne-none v (sym e))

  place : (x : V) (i : ℕ) (v : View V E) → get_elem? (newcomer x ∷ []) i ≡ some v → i ≡ 0
  place x zero v e = refl
  place x (suc i) v e = absurd (some-ne-none v (sym e))

  pub opens_kept : (x : V) (word : ℕ) → word ≡ 256 * t.count x + t.bits x → t.count x < 2 ^ 55 → t.bits x < 256 → Kept t x (opening (word ∷ 0 ∷ 0 ∷ 1 ∷ []) (Some x ∷ []) (newcomer x))
  opens_kept x word is most bits =
      let first : View V E = newcomer x in
      let claims : (m : ℕ) → Claims first m → 0 ≡ m = λ m. ⊎_elim (λ (h : has (0 ∷ []) m ≡ true). has_one 0 m h) (λ (h : owned_of first.stage ≡ Some m). let b : None ≡ Some m = h in absurd (cc)) in
      record {
        items = [];
        word = word;
        served = 0;
        drawn = 0;
        numbers = 1;
        words = refl;
        tickets = record {
          out = refl;
          within = only_one x (λ v. (n : ℕ) → Tickets v n → (0 ≤ n) × (n < 0)) (λ n h. let b : None ≡ Some n = h in absurd (cc));
          apart = λ i j u v m gi gj ci cj. place x i u gi ∙ sym (place x j v gj);
        };
        turn = record { slot = inl (refl, only_one x (λ v. HasTurn v.stage → ⊥) (λ h. h)); whose = only_one x (λ v. HasTurn v.stage → Tickets v 0) (λ h. absurd h) };
        history = record { legal = tt; word = is; count = most; bits = bits };
        view = only_one x (λ v. IsLive v.stage → IsView t x 1 [] v) (λ _. record {
          opened = refl;
          sees = record { rest = []; is = refl; none_of = refl };
          told = ([], refl);
          knows = tt;
          last = refl;
          drawn = omega arith;
          own = refl;
          once = (refl, tt);
          one = no_share_is (0 ∷ []) [];
          other = no_share_is (0 ∷ []) [];
          above = λ n o. let b : None ≡ Some n = o in absurd (cc);
        });
        names = record {
          below = only_one x (λ v. (m : ℕ) → Claims v m → (m < 1) × (m < 65535)) (λ m c. let e = claims m c in (omega arith, omega arith));
          apart = λ i j u v m gi gj ci cj. place x i u gi ∙ sym (place x j v gj);
          unnamed = only_one x (λ v. (m : ℕ) → owned_of v.stage ≡ Some m → has v.names m ≡ false) (λ m o. let b : None ≡ Some m = o in absurd (cc));
          first = (0, first, refl, refl);
          split = only_one x (λ v. (m : ℕ) → has v.names m ≡ true → 0 < m → _) (λ m h z. let e = has_one 0 m h in absurd (omega arith));
          children = only_one x (λ v. (p m : ℕ) → Child v.made p m → _) (λ p m c. absurd c);
          makers = tt;
        };
        fit = record { few = omega arith; all = refl };
        alone = only_one x (λ v. IsAlone v.stage → total_of parts (first ∷ []) ≡ parts v) (λ h. absurd h);
      }

  -- the first pass has seen the opening value
  pub newcomer_sound : (x : V) → IsSound t (newcomer x)
  newcomer_sound x = record { legal = tt; whole = λ _. refl; last = refl; own = refl }
