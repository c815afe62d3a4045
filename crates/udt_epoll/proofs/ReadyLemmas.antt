-- Asking all members, and listing those that are ready.
use Rattle.std.proofs.Common.{◌≡◌, ℕ, ◌==◌, Bool, true, false, not, cond, bit_and, map, filter, eq-eqb, List, [], ◌∷◌, ◌++◌, append_assoc, refl, sym, ◌∙◌, ap, subst}
use Rattle.std.specs.Map.Calls.{RetainsPairs}
use Rattle.std.proofs.lemmas.Bool.{ne_eqb}
use Rattle.udt_epoll.specs.Ready.{is_ready, ready_of, AllAsked}
use Rattle.udt_epoll.specs.Inside.{watch_of, listed, AnswersStand}
use Rattle.udt_epoll.specs.declared.asking.Watched.{Watched}

-- what one call of the closure does to a member
pub record AsksOne {M : Type 0} (asked : M → M → Type 0) (answer : M → ℕ) (before after : Watched M) : Type 0 where
  pub interest : after.interest ≡ before.interest
  pub once : asked before.member after.member
  pub stands : after.answer ≡ answer after.member

module _ {M F : Type 0} (asked : M → M → Type 0) (answer : M → ℕ) (T : F → ℕ → Watched M → Bool → Watched M → F → Type 0) (asks : (f : F) (k : ℕ) (v : Watched M) (b : Bool) (w : Watched M) (f' : F) → T f k v b w f' → (b ≡ true) × AsksOne asked answer v w) where
  pub record AllAsks (es kept : List (ℕ × Watched M)) : Type 0 where
    pub each : AllAsked asked (listed es) (listed kept)
    pub stand : AnswersStand answer kept

  -- a closure that asks a member at each call asks all of them, and drops none
  pub all_asks : (f : F) (es kept : List (ℕ × Watched M)) → RetainsPairs T f es kept → AllAsks es kept
  all_asks f [] kept calls = subst (AllAsks []) (sym calls) (record { each = tt; stand = tt })
  all_asks f (e ∷ es) kept calls =
      let one = asks f e.0 e.1 calls.0 calls.1 calls.2 calls.4 in
      let rest = all_asks calls.2 es calls.3 calls.5 in
      let is : kept ≡ (e.0, calls.1) ∷ calls.3 = calls.6 ∙ ap (λ b. cond b ((e.0, calls.1) ∷ calls.3) calls.3) one.0 in
      subst (AllAsks (e ∷ es)) (sym is) (record {
        each = (record { id = refl; interest = one.1.interest; once = one.1.once }, rest.each);
        stand = (one.1.stands, rest.stand);
      })

module _ {M : Type 0} (answer : M → ℕ) where
  -- a member that is ready stands first among those that are
  pub ready-cons_yes : (e : ℕ × Watched M) (es : List (ℕ × Watched M)) → e.1.answer ≡ answer e.1.member → (bit_and e.1.answer e.1.interest ≡ 0 → ⊥) → ready_of answer (listed (e ∷ es)) ≡ (e.0, e.1.answer) ∷ ready_of answer (listed es)
  ready-cons_yes e es stands some =
      let test : is_ready answer (e.0, watch_of e.1) ≡ true = ap not (ap (λ n. bit_and n e.1.interest == 0) (sym stands) ∙ ne_eqb _ 0 some) in
      ap (λ b. map (λ m. (m.0, answer m.1.member)) (cond b ((e.0, watch_of e.1) ∷ filter (is_ready answer) (listed es)) (filter (is_ready answer) (listed es)))) test
      ∙ ap (λ n. (e.0, n) ∷ ready_of answer (listed es)) (sym stands)

  -- one that isn't stands nowhere among them
  pub ready-cons_no : (e : ℕ × Watched M) (es : List (ℕ × Watched M)) → e.1.answer ≡ answer e.1.member → bit_and e.1.answer e.1.interest ≡ 0 → ready_of answer (listed (e ∷ es)) ≡ ready_of answer (listed es)
  ready-cons_no e es stands none =
      let test : is_ready answer (e.0, watch_of e.1) ≡ false = ap not (ap (λ n. bit_and n e.1.interest == 0) (sym stands) ∙ eq-eqb _ 0 none) in
      ap (λ b. map (λ m. (m.0, answer m.1.member)) (cond b ((e.0, watch_of e.1) ∷ filter (is_ready answer) (listed es)) (filter (is_ready answer) (listed es)))) test

  -- one step of the list: what was appended, and what is left to append
  pub step_yes : (done all : List (ℕ × ℕ)) (e : ℕ × Watched M) (es : List (ℕ × Watched M)) → e.1.answer ≡ answer e.1.member → (bit_and e.1.answer e.1.interest ≡ 0 → ⊥) → done ++ ready_of answer (listed (e ∷ es)) ≡ all → (done ++ (e.0, e.1.answer) ∷ []) ++ ready_of answer (listed es) ≡ all
  step_yes done all e es stands some is =
      append_assoc done ((e.0, e.1.answer) ∷ []) (ready_of answer (listed es))
      ∙ ap (λ ys. done ++ ys) (sym (ready-cons_yes e es stands some))
      ∙ is

  pub step_no : (done all : List (ℕ × ℕ)) (e : ℕ × Watched M) (es : List (ℕ × Watched M)) → e.1.answer ≡ answer e.1.member → bit_and e.1.answer e.1.interest ≡ 0 → done ++ ready_of answer (listed (e ∷ es)) ≡ all → done ++ ready_of answer (listed es) ≡ all
  step_no done all e es stands none is =
      ap (λ ys. done ++ ys) (sym (ready-cons_no e es stands none)) ∙ is
