-- The kinds of step that draw a number, split a pass, join two, and find out that one is alone keep the rule.
use Rattle.std.proofs.Common.{◌≡◌, ◌≢◌, ◌⊎◌, ℕ, ◌+◌, ◌%◌, ◌^◌, ◌<◌, ◌≤◌, min, Bool, true, false, ◌||◌, eqb, leb, if◌then◌else◌, List, [], ◌∷◌, ◌++◌, length, set, Option, Some, None, refl, sym, ap, ◌∙◌, subst, inl, inr, ⊎_elim, arith, append-nil, eqb-true, eq-eqb, leb-true, leb-false, lt_of_not-le}
use Rattle.std.specs.Prelude.{slice_index, slice_set}
use mathlib.Core.Option.{some}
use mathlib.Core.Logic.{dite}
use native.Mathlib.Decide.{ℕ_discrete, dec_le}
use lib.ListN.{get_elem?}
use Rattle.atomic_table.specs.Table.{State, Me, keeps, Allows, Splits, Step}
use Rattle.atomic_table.proofs.Lists.{at_set, at_longer, at_last}
use Rattle.udt_turn.specs.Story.{Telling}
use Rattle.udt_turn.specs.History.{has, keep_if, mine_in, Begins, longer, shorter, value_after}
use Rattle.udt_turn.specs.Rule.{total_of, ticket_of, queues, HasTurn, draws, owned_of, owns, IsLive, IsAlone, Knows, Claims, parts, Each, Some_view, IsView, NoTwice, Child, Named, EachItem, AloneHasAll, Kept}
use Rattle.udt_turn.specs.Kinds.{drawn_to, number_in, parent_of, child_of, Counts, Numbers}
use Rattle.udt_turn.specs.declared.view.View.{View}
use Rattle.udt_turn.specs.declared.view.Stage.{Stage}
use Rattle.udt_turn.specs.declared.view.Stage.TheVariants.{Idle, Counting, Owning}
use Rattle.udt_turn.proofs.Views.{total_set, total_same, total_push, total_le, total_ge, total_two, same_at, each_set, each_push}
use Rattle.udt_turn.proofs.Parts.{apart_set, apart_less, apart_push, here, some_set, some_push, tickets_same, tickets_push, turn_same, turn_push, names_same, each_item_map}
use Rattle.udt_turn.proofs.Histories.{has-append, append_empty, mine_in-append, last_from-none}
use Rattle.udt_turn.proofs.Shares.{not_true, no_share_is}
use Rattle.udt_turn.proofs.Lock.{live_parts, alone_set, read_back}
use Rattle.udt_turn.proofs.Tells.{sound_seen}

unwrapped : (n : ℕ) → n ≤ 131069 → (n + 1) % 2 ^ 64 ≡ n + 1
unwrapped n h = omega arith

pub has_one : (n m : ℕ) → has (n ∷ []) m ≡ true → n ≡ m
has_one n m h = tells (eqb n m) refl h
  where
    tells : (b : Bool) → eqb n m ≡ b → (b || false) ≡ true → n ≡ m
    tells true e h = eqb-true n m e
    tells false e h = absurd (cc)

pub has_head : (n : ℕ) (ns : List ℕ) → has (n ∷ ns) n ≡ true
has_head n ns = ap (λ b. b || has ns n) (eq-eqb n n refl)

pub has_both : (ms ns : List ℕ) (m : ℕ) → has (ms ++ ns) m ≡ true → (has ms m ≡ true) ⊎ (has ns m ≡ true)
has_both ms ns m h = either (has ms m) (has ns m) (sym (has-append ms ns m) ∙ h)
  where
    either : (a b : Bool) → (a || b) ≡ true → (a ≡ true) ⊎ (b ≡ true)
    either true b h = inl refl
    either false b h = inr h

pub child_both : (xs ys : List (ℕ × ℕ)) (p m : ℕ) → Child (xs ++ ys) p m → Child xs p m ⊎ Child ys p m
child_both [] ys p m c = inr c
child_both (x ∷ xs) ys p m c = ⊎_elim (λ h. inl (inl h)) (λ h. ⊎_elim (λ q. inl (inr q)) (λ q. inr q) (child_both xs ys p m h)) c

pub child_left : (xs ys : List (ℕ × ℕ)) (p m : ℕ) → Child xs p m → Child (xs ++ ys) p m
child_left [] ys p m c = absurd c
child_left (x ∷ xs) ys p m c = ⊎_elim (λ h. inl h) (λ h. inr (child_left xs ys p m h)) c

pub child_right : (xs ys : List (ℕ × ℕ)) (p m : ℕ) → Child ys p m → Child (xs ++ ys) p m
child_right [] ys p m c = c
child_right (x ∷ xs) ys p m c = inr (child_right xs ys p m c)

-- nothing was made under a number that is nobody's name
mine_in-other : {E : Type 0} (P : ℕ → Type 0) (n : ℕ) (items : List (ℕ × E)) → ((m : ℕ) → P m → m ≢ n) → EachItem items P → mine_in (n ∷ []) items ≡ []
mine_in-other P n [] f h = refl
mine_in-other P n (x ∷ xs) f h =
    ap (λ b. keep_if b x (mine_in (n ∷ []) xs)) (not_true (has (n ∷ []) x.0) (λ b. f x.0 h.0 (sym (has_one n x.0 b)))) ∙ mine_in-other P n xs f h.1

pub longer_case : {A : Type 0} (xs ys : List A) → ((longer xs ys ≡ ys) × (shorter xs ys ≡ xs) × (length xs ≤ length ys)) ⊎ ((longer xs ys ≡ xs) × (shorter xs ys ≡ ys) × (length ys ≤ length xs))
longer_case {A} xs ys = tells (leb (length xs) (length ys)) refl
  where
    tells : (b : Bool) → leb (length xs) (length ys) ≡ b → (((if b then ys else xs) ≡ ys) × ((if b then xs else ys) ≡ xs) × (length xs ≤ length ys)) ⊎ (((if b then ys else xs) ≡ xs) × ((if b then xs else ys) ≡ ys) × (length ys ≤ length xs))
    tells true e = inl (refl, refl, leb-true (length xs) (length ys) e)
    tells false e = let h : length ys < length xs = leb-false (length xs) (length ys) e in inr (refl, refl, omega arith)

or_true_right : (a b : Bool) → b ≡ true → (a || b) ≡ true
or_true_right true b h = refl
or_true_right false b h = h

-- two lists with no number twice and none in both are one such list together
pub no_twice-append : (ms ns : List ℕ) → NoTwice ms → NoTwice ns → ((m : ℕ) → has ms m ≡ true → has ns m ≡ true → ⊥) → NoTwice (ms ++ ns)
no_twice-append [] ns a b f = b
no_twice-append (m ∷ ms) ns a b f = (
  has-append ms ns m ∙ ap (λ z. z || has ns m) a.0 ∙ not_true (has ns m) (λ h. f m (has_head m ms) h),
  no_twice-append ms ns a.1 b (λ k h g. f k (or_true_right (eqb m k) (has ms k) h) g),
)

pub shorter_le : {A : Type 0} (xs ys : List A) → length (shorter xs ys) ≤ length (longer xs ys)
shorter_le xs ys = ⊎_elim
    (λ (c : (longer xs ys ≡ ys) × (shorter xs ys ≡ xs) × (length xs ≤ length ys)). let a = ap length c.0 in let b = ap length c.1 in let l = c.2 in omega arith)
    (λ (c : (longer xs ys ≡ xs) × (shorter xs ys ≡ ys) × (length ys ≤ length xs)). let a = ap length c.0 in let b = ap length c.1 in let l = c.2 in omega arith)
    (longer_case xs ys)

-- of two lists the longer begins with both, where it begins with the shorter
pub begins_longer : {A : Type 0} (xs ys : List A) → Begins (shorter xs ys) (longer xs ys) → Begins xs (longer xs ys) × Begins ys (longer xs ys)
begins_longer xs ys h = ⊎_elim
    (λ (c : (longer xs ys ≡ ys) × (shorter xs ys ≡ xs) × (length xs ≤ length ys)). (subst (λ zs. Begins zs (longer xs ys)) c.1 h, ([], c.0 ∙ sym (append-nil ys))))
    (λ (c : (longer xs ys ≡ xs) × (shorter xs ys ≡ ys) × (length ys ≤ length xs)). (([], c.0 ∙ sym (append-nil xs)), subst (λ zs. Begins zs (longer xs ys)) c.1 h))
    (longer_case xs ys)

module _ {V E : Type 0} (t : Telling V E) (opening : V) where
  -- while a pass is live that is not alone, none is
  pub none_alone : (views : List (View V E)) (id : ℕ) (v : View V E) → get_elem? views id ≡ some v → 1 ≤ parts v → (IsAlone v.stage → ⊥) → AloneHasAll views → Each views (λ u. IsAlone u.stage → ⊥)
  none_alone views id v at live not k j u g a =
      dite (ℕ_discrete j id)
      (λ (e : j ≡ id). not (subst (λ (y : View V E). IsAlone y.stage) (same_at views id u v (subst (λ n. get_elem? views n ≡ some u) e g) at) a))
      (λ n. let one = k j u g a in let two = total_two parts views j id u v n g at in omega arith)

  drawing_live : (st : Stage E) → 1 ≤ draws st → IsLive st
  drawing_live Counting h = tt
  drawing_live _ h = absurd (omega arith)

  drawing_one : (st : Stage E) → draws st ≤ 1
  drawing_one Counting = omega arith
  drawing_one _ = omega arith

  -- each that may draw has a name
  draws_fit : (s : State (Option V) (View V E)) (k : Kept t opening s) → total_of (λ (u : View V E). draws u.stage) s.views ≤ total_of parts s.views
  draws_fit s k = total_le (λ (u : View V E). draws u.stage) parts s.views (λ j v g.
      dite (dec_le 1 (draws v.stage))
      (λ q. let one = drawing_one v.stage in let p = live_parts t opening k.numbers k.items v (k.view j v g (drawing_live v.stage q)) in omega arith)
      (λ q. let z : draws v.stage < 1 = lt_of_not-le q in omega arith))

  -- a look at the numbers that were drawn keeps the rule
  pub counts_keeps : (slots id : ℕ) (me : Me (Option V) (View V E)) (st : Step (Option V)) → me.0.stage ≡ Idle → Allows (Kept t opening) slots id me 3 (λ n. n) (Counts t st me)
  counts_keeps slots id me st stage s k len at fits =
      let v = me.0 in
      let mine = k.view id v at (subst IsLive (sym stage) tt) in
      let found : slice_index s.words 3 ≡ k.numbers = ap (λ ws. slice_index ws 3) k.words in
      let live = live_parts t opening k.numbers k.items v mine in
      let rule : (z : Stage E) → ticket_of z ≡ None → queues z ≡ 0 → (HasTurn z → ⊥) → owned_of z ≡ None → owns z ≡ 0 → (IsAlone z → ⊥) → Knows z v.seen.items k.items → k.numbers + (total_of (λ (u : View V E). draws u.stage) s.views + draws z) ≤ 131069
      → Kept t opening record { words = slice_set s.words 3 (slice_index s.words 3); homes = s.homes; views = slice_set s.views id (drawn_to v (slice_index s.words 3) z) } =
      λ z ticket queue turn owned own alone knows few.
      let w = drawn_to v (slice_index s.words 3) z in
      record {
        items = k.items;
        word = k.word;
        served = k.served;
        drawn = k.drawn;
        numbers = k.numbers;
        words = (read_back t opening s k).2 ∙ k.words;
        tickets = tickets_same k.served k.drawn s.views id v w at (ticket ∙ sym (ap ticket_of stage)) (queue ∙ sym (ap queues stage)) k.tickets;
        turn = turn_same k.served (value_after t opening k.items) s.homes s.views id v w at (λ h. absurd (turn h)) (λ h. absurd (subst HasTurn stage h)) (λ h. absurd (turn h)) k.turn;
        history = k.history;
        view = each_set (λ (u : View V E). IsLive u.stage → IsView t opening k.numbers k.items u) s.views id w (λ j u _ g. k.view j u g)
            (λ _. record { opened = mine.opened; sees = mine.sees; told = mine.told; knows = knows; last = mine.last; drawn = let f = found in omega arith; own = mine.own; once = mine.once; one = mine.one; other = mine.other; above = λ m o. let bad : None ≡ Some m = sym owned ∙ o in absurd (cc) });
        names = names_same k.numbers k.items s.views id v w at refl refl (owned ∙ sym (ap owned_of stage)) k.names;
        fit = record {
          few = let h = total_set (λ (u : View V E). draws u.stage) s.views id v w at in let z0 : draws v.stage ≡ 0 = ap draws stage in omega arith;
          all = total_same parts s.views id v w at (ap (λ n. length v.names + n) (own ∙ sym (ap owns stage))) ∙ k.fit.all;
        };
        alone = alone_set t opening k.numbers k.items s.views id v w at live alone k.alone;
      } in
      let sound = sound_seen t opening s k id v at (subst IsLive (sym stage) tt) in
      let little : total_of (λ (u : View V E). draws u.stage) s.views ≤ total_of parts s.views = draws_fit s k in
      let lower : v.drawn ≤ slice_index s.words 3 = let d = mine.drawn in let f = found in omega arith in
      dite (dec_le 65535 (slice_index s.words 3))
      (λ (big : 65535 ≤ slice_index s.words 3). (
        drawn_to v (slice_index s.words 3) Idle,
        keeps,
        tt,
        rule Idle refl refl (λ h. h) refl refl (λ h. h) tt (let f = k.fit.few in omega arith),
        (lower, (λ small. absurd (omega arith)), (λ _. refl), sound),
      ))
      (λ no. let small : slice_index s.words 3 < 65535 = lt_of_not-le no in
      let all = k.fit.all in (
        drawn_to v (slice_index s.words 3) Counting,
        keeps,
        tt,
        rule Counting refl refl (λ h. h) refl refl (λ h. h) tt (omega arith),
        (lower, (λ _. refl), (λ big. absurd (omega arith)), sound),
      ))

  -- where the number that is found is drawn
  numbers_rule : (s : State (Option V) (View V E)) (k : Kept t opening s) (id : ℕ) (v : View V E) (z : Stage E) → get_elem? s.views id ≡ some v → v.stage ≡ Counting
      → ticket_of z ≡ None → queues z ≡ 0 → (HasTurn z → ⊥) → draws z ≡ 0 → (IsAlone z → ⊥) → Knows z v.seen.items k.items
      → ((m : ℕ) → owned_of z ≡ Some m → (k.numbers ≡ m) × (k.numbers < 65535)) → min k.numbers 65535 + owns z ≡ min (k.numbers + 1) 65535
      → Kept t opening record { words = slice_set s.words 3 ((slice_index s.words 3 + 1) % 2 ^ 64); homes = s.homes; views = slice_set s.views id (drawn_to v (slice_index s.words 3 + 1) z) }
  numbers_rule s k id v z at stage ticket queue turn draw alone knows owned part =
      let w = drawn_to v (slice_index s.words 3 + 1) z in
      let mine = k.view id v at (subst IsLive (sym stage) tt) in
      let found : slice_index s.words 3 ≡ k.numbers = ap (λ ws. slice_index ws 3) k.words in
      let d : draws v.stage ≡ 1 = ap draws stage in
      let o : owns v.stage ≡ 0 = ap owns stage in
      let few = k.fit.few in
      let own_draw = total_ge (λ (u : View V E). draws u.stage) s.views id v at in
      let claims : (m : ℕ) → Claims w m → (has v.names m ≡ true) ⊎ ((k.numbers ≡ m) × (k.numbers < 65535)) = λ m. ⊎_elim (λ h. inl h) (λ h. inr (owned m h)) in
      let fresh : (j : ℕ) (u : View V E) → get_elem? s.views j ≡ some u → Claims u k.numbers → ⊥ = λ j u g c. let b = (k.names.below j u g k.numbers c).0 in omega arith in
      let named : (m : ℕ) → Named s.views m → Named (set s.views id w) m = λ m. some_set (λ u. has u.names m ≡ true) s.views id v w at (λ h. h) in
      let splits : (m : ℕ) → Some_view s.views (λ u. (p : ℕ) × Child u.made p m × (has u.names p ≡ true) × (p < m)) → Some_view (set s.views id w) (λ u. (p : ℕ) × Child u.made p m × (has u.names p ≡ true) × (p < m)) =
      λ m. some_set (λ u. (p : ℕ) × Child u.made p m × (has u.names p ≡ true) × (p < m)) s.views id v w at (λ h. h) in
      record {
        items = k.items;
        word = k.word;
        served = k.served;
        drawn = k.drawn;
        numbers = k.numbers + 1;
        words = ap (λ ws. slice_set ws 3 ((slice_index ws 3 + 1) % 2 ^ 64)) k.words ∙ ap (λ n. k.word ∷ k.drawn % 2 ^ 64 ∷ k.served % 2 ^ 64 ∷ n ∷ []) (unwrapped k.numbers (omega arith));
        tickets = tickets_same k.served k.drawn s.views id v w at (ticket ∙ sym (ap ticket_of stage)) (queue ∙ sym (ap queues stage)) k.tickets;
        turn = turn_same k.served (value_after t opening k.items) s.homes s.views id v w at (λ h. absurd (turn h)) (λ h. absurd (subst HasTurn stage h)) (λ h. absurd (turn h)) k.turn;
        history = k.history;
        view = each_set (λ (u : View V E). IsLive u.stage → IsView t opening (k.numbers + 1) k.items u) s.views id w
            (λ j u _ g live. let h = k.view j u g live in record { opened = h.opened; sees = h.sees; told = h.told; knows = h.knows; last = h.last; drawn = let q = h.drawn in omega arith; own = h.own; once = h.once; one = h.one; other = h.other; above = h.above })
            (λ _. record {
              opened = mine.opened;
              sees = mine.sees;
              told = mine.told;
              knows = knows;
              last = mine.last;
              drawn = let f = found in omega arith;
              own = mine.own;
              once = mine.once;
              one = mine.one;
              other = mine.other;
              above = λ m q. let is = (owned m q).0 in let b = (k.names.below id v at v.number (inl mine.own)).0 in omega arith;
            });
        names = record {
          below = each_set (λ (u : View V E). (m : ℕ) → Claims u m → (m < k.numbers + 1) × (m < 65535)) s.views id w
              (λ j u _ g m c. let b = k.names.below j u g m c in (omega arith, b.1))
              (λ m c. ⊎_elim (λ h. let b = k.names.below id v at m (inl h) in (omega arith, b.1)) (λ (h : (k.numbers ≡ m) × (k.numbers < 65535)). (omega arith, omega arith)) (claims m c));
          apart = apart_set Claims s.views id w k.names.apart
              (λ j u m n g cw cu. ⊎_elim (λ h. n (k.names.apart j id u v m g at cu (inl h))) (λ (h : (k.numbers ≡ m) × (k.numbers < 65535)). fresh j u g (subst (Claims u) (sym h.0) cu)) (claims m cw));
          unnamed = each_set (λ (u : View V E). (m : ℕ) → owned_of u.stage ≡ Some m → has u.names m ≡ false) s.views id w (λ j u _ g. k.names.unnamed j u g)
              (λ m q. not_true (has v.names m) (λ h. fresh id v at (inl (subst (λ n. has v.names n ≡ true) (sym (owned m q).0) h))));
          first = named 0 k.names.first;
          split = each_set (λ (u : View V E). (m : ℕ) → has u.names m ≡ true → 0 < m → Some_view (set s.views id w) (λ u. (p : ℕ) × Child u.made p m × (has u.names p ≡ true) × (p < m))) s.views id w
              (λ j u _ g m h q. splits m (k.names.split j u g m h q)) (λ m h q. splits m (k.names.split id v at m h q));
          children = each_set (λ (u : View V E). (p m : ℕ) → Child u.made p m → Named (set s.views id w) m) s.views id w
              (λ j u _ g p m c. named m (k.names.children j u g p m c)) (λ p m c. named m (k.names.children id v at p m c));
          makers = each_item_map (Named s.views) (Named (set s.views id w)) k.items named k.names.makers;
        };
        fit = record {
          few = let h = total_set (λ (u : View V E). draws u.stage) s.views id v w at in omega arith;
          all = let h = total_set parts s.views id v w at in let all = k.fit.all in omega arith;
        };
        alone = alone_set t opening k.numbers k.items s.views id v w at (live_parts t opening k.numbers k.items v mine) alone k.alone;
      }

  -- drawing a number keeps the rule
  pub numbers_keeps : (slots id : ℕ) (me : Me (Option V) (View V E)) (st : Step (Option V)) → me.0.stage ≡ Counting → Allows (Kept t opening) slots id me 3 (λ n. (n + 1) % 2 ^ 64) (Numbers st me)
  numbers_keeps slots id me st stage s k len at fits =
      let v = me.0 in
      let n = slice_index s.words 3 in
      let mine = k.view id v at (subst IsLive (sym stage) tt) in
      let found : n ≡ k.numbers = ap (λ ws. slice_index ws 3) k.words in
      let lower : v.drawn ≤ n = let d = mine.drawn in omega arith in
      let above : v.number < n = let b = (k.names.below id v at v.number (inl mine.own)).0 in omega arith in
      let none : mine_in (n ∷ []) k.items ≡ [] = mine_in-other (Named s.views) n k.items
      (λ m (j, u, g, h) e. let b = (k.names.below j u g m (inl h)).0 in omega arith) k.names.makers in
      let unmade : mine_in (n ∷ []) v.seen.items ≡ [] =
      (append_empty (mine_in (n ∷ []) v.seen.items) (mine_in (n ∷ []) mine.sees.rest)
      (sym (mine_in-append (n ∷ []) v.seen.items mine.sees.rest) ∙ ap (mine_in (n ∷ [])) (sym mine.sees.is) ∙ none)).0 in
      dite (dec_le 65535 n)
      (λ (big : 65535 ≤ n). (
        drawn_to v (n + 1) Idle,
        keeps,
        tt,
        numbers_rule s k id v Idle at stage refl refl (λ h. h) refl (λ h. h) tt (λ m q. let bad : None ≡ Some m = q in absurd (cc)) (omega arith),
        (lower, above, unmade, (λ small. absurd (omega arith)), (λ _. refl)),
      ))
      (λ no. let small : n < 65535 = lt_of_not-le no in (
        drawn_to v (n + 1) (Owning n),
        keeps,
        tt,
        numbers_rule s k id v (Owning n) at stage refl refl (λ h. h) refl (λ h. h) tt (λ m q. let same : Some n ≡ Some m = q in let is : n ≡ m = cc in (omega arith, omega arith)) (omega arith),
        (lower, above, unmade, (λ _. refl), (λ big. absurd (omega arith))),
      ))

  -- making a pass of a number keeps the rule
  pub splits_keeps : (id : ℕ) (v : View V E) (n : ℕ) → v.stage ≡ Owning n → Splits (Kept t opening) id v (parent_of v) (child_of v)
  splits_keeps id v n stage s k at =
      let left = parent_of v in
      let right = child_of v in
      let number : number_in v.stage ≡ n = ap number_in stage in
      let owned : owned_of v.stage ≡ Some n = ap owned_of stage in
      let mine = k.view id v at (subst IsLive (sym stage) tt) in
      let middle = set s.views id left in
      let views = middle ++ right ∷ [] in
      let last : get_elem? views (length middle) ≡ some right = at_last middle right (length middle) refl in
      let o : owns v.stage ≡ 1 = ap owns stage in
      let fresh : (m : ℕ) → Named s.views m → m ≢ n = λ m (j, u, g, h) e.
      let hn : has u.names n ≡ true = subst (λ i. has u.names i ≡ true) e h in
      let one : j ≡ id = k.names.apart j id u v n g at (inl hn) (inr owned) in
      let is : u ≡ v = same_at s.views id u v (subst (λ i. get_elem? s.views i ≡ some u) one g) at in
      let yes' : has v.names n ≡ true = subst (λ (y : View V E). has y.names n ≡ true) is hn in
      let no' : has v.names n ≡ false = k.names.unnamed id v at n owned in
      absurd (cc) in
      let none : mine_in (n ∷ []) k.items ≡ [] = mine_in-other (Named s.views) n k.items fresh k.names.makers in
      let rest_none : mine_in (n ∷ []) mine.sees.rest ≡ [] =
      (append_empty (mine_in (n ∷ []) v.seen.items) (mine_in (n ∷ []) mine.sees.rest)
      (sym (mine_in-append (n ∷ []) v.seen.items mine.sees.rest) ∙ ap (mine_in (n ∷ [])) (sym mine.sees.is) ∙ none)).1 in
      let named : (m : ℕ) → Named s.views m → Named views m = λ m h. some_push (λ u. has u.names m ≡ true) middle right (some_set (λ u. has u.names m ≡ true) s.views id v left at (λ h. h) h) in
      let Split' : ℕ → View V E → Type 0 = λ m u. (p : ℕ) × Child u.made p m × (has u.names p ≡ true) × (p < m) in
      let splits : (m : ℕ) → Some_view s.views (Split' m) → Some_view views (Split' m) =
      λ m h. some_push (Split' m) middle right (some_set (Split' m) s.views id v left at (λ (p, c, q, l). (p, inr c, q, l)) h) in
      let right_is : (m : ℕ) → Claims right m → m ≡ n = λ m. ⊎_elim (λ (h : has right.names m ≡ true). sym (has_one (number_in v.stage) m h) ∙ number) (λ (h : owned_of right.stage ≡ Some m). let bad : None ≡ Some m = h in absurd (cc)) in
      let left_claims : (m : ℕ) → Claims left m → Claims v m = λ m. ⊎_elim (λ (h : has left.names m ≡ true). inl h) (λ (h : owned_of left.stage ≡ Some m). let bad : None ≡ Some m = h in absurd (cc)) in
      let nobody = none_alone s.views id v at (live_parts t opening k.numbers k.items v mine) (λ a. subst IsAlone stage a) k.alone in
      record {
        items = k.items;
        word = k.word;
        served = k.served;
        drawn = k.drawn;
        numbers = k.numbers;
        words = k.words;
        tickets = tickets_push k.served k.drawn middle right refl refl (tickets_same k.served k.drawn s.views id v left at (sym (ap ticket_of stage)) (sym (ap queues stage)) k.tickets);
        turn = turn_push k.served (value_after t opening k.items) s.homes middle right (λ h. h)
            (turn_same k.served (value_after t opening k.items) s.homes s.views id v left at (λ h. absurd h) (λ h. absurd (subst HasTurn stage h)) (λ h. absurd h) k.turn);
        history = k.history;
        view = each_push (λ (u : View V E). IsLive u.stage → IsView t opening k.numbers k.items u) middle right
            (each_set (λ (u : View V E). IsLive u.stage → IsView t opening k.numbers k.items u) s.views id left (λ j u _ g. k.view j u g)
            (λ _. record { opened = mine.opened; sees = mine.sees; told = mine.told; knows = tt; last = mine.last; drawn = mine.drawn; own = mine.own; once = mine.once; one = mine.one; other = mine.other; above = λ m q. let bad : None ≡ Some m = q in absurd (cc) }))
            (λ _. record {
              opened = mine.opened;
              sees = record { rest = mine.sees.rest; is = mine.sees.is; none_of = subst (λ i. mine_in (i ∷ []) mine.sees.rest ≡ []) (sym number) rest_none };
              told = (k.items, refl);
              knows = tt;
              last = sym (last_from-none t (number_in v.stage ∷ []) opening k.items 0 (subst (λ i. mine_in (i ∷ []) k.items ≡ []) (sym number) none));
              drawn = mine.drawn;
              own = has_head (number_in v.stage) [];
              once = (refl, tt);
              one = no_share_is (number_in v.stage ∷ []) k.items;
              other = no_share_is (number_in v.stage ∷ []) k.items;
              above = λ m q. let bad : None ≡ Some m = q in absurd (cc);
            });
        names = record {
          below = each_push (λ (u : View V E). (m : ℕ) → Claims u m → (m < k.numbers) × (m < 65535)) middle right
              (each_set (λ (u : View V E). (m : ℕ) → Claims u m → (m < k.numbers) × (m < 65535)) s.views id left (λ j u _ g. k.names.below j u g) (λ m c. k.names.below id v at m (left_claims m c)))
              (λ m c. let e = right_is m c in k.names.below id v at m (inr (owned ∙ ap Some (sym e))));
          apart = apart_push Claims middle right (apart_less Claims s.views id v left k.names.apart at left_claims)
              (λ j u m g cw cu. let e : m ≡ n = right_is m cw in
              ⊎_elim
              (λ (a : (j ≡ id) × (left ≡ u)).
              ⊎_elim
              (λ (h : has v.names m ≡ true). fresh m (id, v, at, h) e)
              (λ (h : owned_of left.stage ≡ Some m). let bad : None ≡ Some m = h in absurd (cc))
              (subst (λ (y : View V E). Claims y m) (sym a.1) cu))
              (λ (a : (j ≢ id) × (get_elem? s.views j ≡ some u)). a.0 (k.names.apart j id u v m a.1 at cu (inr (owned ∙ ap Some (sym e)))))
              (at_set s.views id j left u g));
          unnamed = each_push (λ (u : View V E). (m : ℕ) → owned_of u.stage ≡ Some m → has u.names m ≡ false) middle right
              (each_set (λ (u : View V E). (m : ℕ) → owned_of u.stage ≡ Some m → has u.names m ≡ false) s.views id left (λ j u _ g. k.names.unnamed j u g) (λ m q. let bad : None ≡ Some m = q in absurd (cc)))
              (λ m q. let bad : None ≡ Some m = q in absurd (cc));
          first = named 0 k.names.first;
          split = each_push (λ (u : View V E). (m : ℕ) → has u.names m ≡ true → 0 < m → Some_view views (Split' m)) middle right
              (each_set (λ (u : View V E). (m : ℕ) → has u.names m ≡ true → 0 < m → Some_view views (Split' m)) s.views id left
              (λ j u _ g m h z. splits m (k.names.split j u g m h z)) (λ m h z. splits m (k.names.split id v at m h z)))
              (λ m h z. let e : number_in v.stage ≡ m = has_one (number_in v.stage) m h in
              let less = mine.above n owned in
              (id, left, at_longer middle (right ∷ []) id left (here s.views id v left at), (v.number, inl (refl, e), mine.own, omega arith)));
          children = each_push (λ (u : View V E). (p m : ℕ) → Child u.made p m → Named views m) middle right
              (each_set (λ (u : View V E). (p m : ℕ) → Child u.made p m → Named views m) s.views id left
              (λ j u _ g p m c. named m (k.names.children j u g p m c))
              (λ p m c. ⊎_elim (λ (h : (v.number ≡ p) × (number_in v.stage ≡ m)). (length middle, right, last, subst (λ i. has right.names i ≡ true) h.1 (has_head (number_in v.stage) []))) (λ h. named m (k.names.children id v at p m h)) c))
              (λ p m c. absurd c);
          makers = each_item_map (Named s.views) (Named views) k.items named k.names.makers;
        };
        fit = record {
          few = let h = total_same (λ (u : View V E). draws u.stage) s.views id v left at (sym (ap draws stage)) in let p = total_push (λ (u : View V E). draws u.stage) middle right in let f = k.fit.few in omega arith;
          all = let h = total_set parts s.views id v left at in let p = total_push parts middle right in let a = k.fit.all in omega arith;
        };
        alone = each_push (λ (u : View V E). IsAlone u.stage → total_of parts views ≡ parts u) middle right
            (each_set (λ (u : View V E). IsAlone u.stage → total_of parts views ≡ parts u) s.views id left (λ j u _ g a. absurd (nobody j u g a)) (λ a. absurd a))
            (λ a. absurd a);
      }
