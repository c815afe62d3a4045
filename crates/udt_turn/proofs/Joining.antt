-- The kind of step that joins two passes keeps the rule, and so does the one by which a pass finds that it is alone.
use Rattle.std.proofs.Common.{◌≡◌, ◌≢◌, ◌⊎◌, ℕ, ◌+◌, ◌<◌, ◌≤◌, min, max, true, false, List, [], ◌∷◌, ◌++◌, length, set, Option, Some, None, refl, sym, ap, ◌∙◌, subst, inl, inr, ⊎_elim, arith, length-append}
use Rattle.std.specs.Prelude.{slice_index}
use mathlib.Core.Option as opt
use mathlib.Core.Option.{some, some-injective}
use mathlib.Core.Logic.{dite}
use native.Mathlib.Decide.{ℕ_discrete}
use lib.ListN.{get_elem?}
use Rattle.atomic_table.specs.Table.{State, Me, keeps, Allows, Joins, Step, Final, Seen}
use Rattle.atomic_table.proofs.Lists.{at_set, set_else}
use Rattle.udt_turn.specs.Story.{Telling}
use Rattle.udt_turn.specs.History.{has, Begins, longer, shorter, value_after, value_of, last_from}
use Rattle.udt_turn.specs.Rule.{total_of, ticket_of, queues, HasTurn, draws, owned_of, owns, IsLive, IsAlone, Knows, Claims, parts, Each, Some_view, Sees, IsView, Child, Named, Kept}
use Rattle.udt_turn.specs.Kinds.{at_stage, spent, joined, IsWhole, IsSound, Ends}
use Rattle.udt_turn.specs.declared.view.View.{View}
use Rattle.udt_turn.specs.declared.view.Stage.{Stage}
use Rattle.udt_turn.specs.declared.view.Stage.TheVariants.{Idle, Holding, Done, Owning, Alone}
use Rattle.udt_turn.proofs.Views.{total_set, total_two, total_only, same_at, each_set}
use Rattle.udt_turn.proofs.Parts.{here, tickets_same, turn_same, names_same, fit_same, each_item_map}
use Rattle.udt_turn.proofs.Tells.{sound_seen}
use Rattle.udt_turn.proofs.Histories.{sees_mine, sees_longer, mine_in-none, last_from-both}
use Rattle.udt_turn.proofs.Whole.{has_all, whole_has}
use Rattle.udt_turn.proofs.Shares.{has_left, has_right, share_left, share_right}
use Rattle.udt_turn.proofs.Lock.{live_parts, has_some, read_back, nothing, staged}
use Rattle.udt_turn.proofs.Passes.{has_both, has_head, no_twice-append, child_both, child_left, child_right, longer_case, none_alone}

module _ {V E : Type 0} (t : Telling V E) (opening : V) where
  -- the joined view has seen the longer history, in the rest of which nothing was made under the names of both
  both_see : (v u : View V E) (items : List (ℕ × E)) → Sees v.names v.seen.items items → Sees u.names u.seen.items items
      → Sees (v.names ++ u.names) (longer v.seen.items u.seen.items) items × Begins (shorter v.seen.items u.seen.items) items
  both_see v u items a b =
      ⊎_elim
      (λ (c : (longer v.seen.items u.seen.items ≡ u.seen.items) × (shorter v.seen.items u.seen.items ≡ v.seen.items) × (length v.seen.items ≤ length u.seen.items)). (
        subst (λ xs. Sees (v.names ++ u.names) xs items) (sym c.0)
            (record { rest = b.rest; is = b.is; none_of = mine_in-none v.names u.names b.rest (sees_longer v.names v.seen.items u.seen.items items b.rest a b.is c.2) b.none_of }),
        subst (λ xs. Begins xs items) (sym c.1) (a.rest, a.is),
      ))
      (λ (c : (longer v.seen.items u.seen.items ≡ v.seen.items) × (shorter v.seen.items u.seen.items ≡ u.seen.items) × (length u.seen.items ≤ length v.seen.items)). (
        subst (λ xs. Sees (v.names ++ u.names) xs items) (sym c.0)
            (record { rest = a.rest; is = a.is; none_of = mine_in-none v.names u.names a.rest a.none_of (sees_longer u.names u.seen.items v.seen.items items a.rest b a.is c.2) }),
        subst (λ xs. Begins xs items) (sym c.1) (b.rest, b.is),
      ))
      (longer_case v.seen.items u.seen.items)

  -- a join keeps the rule
  pub joins_keeps : (any : V) (id other : ℕ) (v u : View V E) → v.stage ≡ Idle → u.stage ≡ Idle → Joins (Kept t opening) id v other u (joined v u) (spent any)
  joins_keeps any id other v u sv su s k at apart there =
      let w = joined v u in
      let x = spent any in
      let first = set s.views id w in
      let views = set first other x in
      let mine = k.view id v at (subst IsLive (sym sv) tt) in
      let there' : get_elem? s.views other ≡ some u = sym (set_else s.views id other w apart) ∙ there in
      let theirs = k.view other u there' (subst IsLive (sym su) tt) in
      let id_at : get_elem? views id ≡ some w = set_else first other id x (λ e. apart (sym e)) ∙ here s.views id v w at in
      let see = both_see v u k.items mine.sees theirs.sees in
      let bad_owned : (m : ℕ) → owned_of v.stage ≡ Some m → ⊥ = λ m q. let b : None ≡ Some m = sym (ap owned_of sv) ∙ q in absurd (cc) in
      let claims : (m : ℕ) → Claims w m → Claims v m ⊎ Claims u m = λ m.
      ⊎_elim (λ (h : has (v.names ++ u.names) m ≡ true). ⊎_elim (λ q. inl (inl q)) (λ q. inr (inl q)) (has_both v.names u.names m h)) (λ h. absurd (bad_owned m h)) in
      let no_claim : (m : ℕ) → Claims x m → ⊥ = λ m.
      ⊎_elim (λ (h : has x.names m ≡ true). let b : false ≡ true = h in absurd (cc)) (λ (h : owned_of x.stage ≡ Some m). let b : None ≡ Some m = h in absurd (cc)) in
      let each : (P : View V E → Type 0) → ((j : ℕ) (y : View V E) → get_elem? s.views j ≡ some y → P y) → P w → P x → Each views P = λ P old pw px.
      each_set P first other x (λ j y n g. each_set P s.views id w (λ i z _ q. old i z q) pw j y g) px in
      let source : (i : ℕ) (y : View V E) (m : ℕ) → get_elem? views i ≡ some y → Claims y m → ((i ≡ id) × (Claims v m ⊎ Claims u m)) ⊎ ((i ≢ id) × (i ≢ other) × (get_elem? s.views i ≡ some y)) = λ i y m g c.
      ⊎_elim
      (λ (a : (i ≡ other) × (x ≡ y)). absurd (no_claim m (subst (λ z. Claims z m) (sym a.1) c)))
      (λ (a : (i ≢ other) × (get_elem? first i ≡ some y)).
      ⊎_elim
      (λ (b : (i ≡ id) × (w ≡ y)). inl (b.0, claims m (subst (λ z. Claims z m) (sym b.1) c)))
      (λ (b : (i ≢ id) × (get_elem? s.views i ≡ some y)). inr (b.0, a.0, b.1))
      (at_set s.views id i w y a.1))
      (at_set first other i x y g) in
      let cross : (j : ℕ) (y : View V E) (m : ℕ) → j ≢ id → j ≢ other → get_elem? s.views j ≡ some y → Claims y m → Claims v m ⊎ Claims u m → ⊥ = λ j y m n o g c.
      ⊎_elim (λ h. n (k.names.apart j id y v m g at c h)) (λ h. o (k.names.apart j other y u m g there' c h)) in
      let some' : (P : View V E → Type 0) → (P v → P w) → (P u → P w) → Some_view s.views P → Some_view views P = λ P pv pu (j, y, g, p).
      dite (ℕ_discrete j id)
      (λ (e : j ≡ id). (id, w, id_at, pv (subst P (same_at s.views id y v (subst (λ i. get_elem? s.views i ≡ some y) e g) at) p)))
      (λ n. dite (ℕ_discrete j other)
      (λ (e : j ≡ other). (id, w, id_at, pu (subst P (same_at s.views other y u (subst (λ i. get_elem? s.views i ≡ some y) e g) there') p)))
      (λ o. (j, y, set_else first other j x o ∙ set_else s.views id j w n ∙ g, p))) in
      let named : (m : ℕ) → Named s.views m → Named views m = λ m. some' (λ y. has y.names m ≡ true) (has_left v.names u.names m) (has_right v.names u.names m) in
      let Split' : ℕ → View V E → Type 0 = λ m y. (p : ℕ) × Child y.made p m × (has y.names p ≡ true) × (p < m) in
      let splits : (m : ℕ) → Some_view s.views (Split' m) → Some_view views (Split' m) = λ m.
      some' (Split' m) (λ (p, c, h, l). (p, child_left v.made u.made p m c, has_left v.names u.names p h, l)) (λ (p, c, h, l). (p, child_right v.made u.made p m c, has_right v.names u.names p h, l)) in
      let nobody = none_alone t opening s.views id v at (live_parts t opening k.numbers k.items v mine) (λ a. subst IsAlone sv a) k.alone in
      record {
        items = k.items;
        word = k.word;
        served = k.served;
        drawn = k.drawn;
        numbers = k.numbers;
        words = k.words;
        tickets = tickets_same k.served k.drawn first other u x there (sym (ap ticket_of su)) (sym (ap queues su)) (tickets_same k.served k.drawn s.views id v w at refl refl k.tickets);
        turn = turn_same k.served (value_after t opening k.items) s.homes first other u x there (λ h. absurd h) (λ h. absurd (subst HasTurn su h)) (λ h. absurd h)
            (turn_same k.served (value_after t opening k.items) s.homes s.views id v w at (λ h. h) (λ h. h) (λ _. refl) k.turn);
        history = k.history;
        view = each (λ y. IsLive y.stage → IsView t opening k.numbers k.items y) k.view
            (λ _. record {
              opened = mine.opened;
              sees = see.0;
              told = see.1;
              knows = subst (λ z. Knows z w.seen.items k.items) (sym sv) tt;
              last = ap (λ n. max n u.last) mine.last ∙ ap (λ n. max (last_from t v.names opening k.items 0) n) theirs.last
                  ∙ sym (last_from-both t v.names u.names opening k.items 0 0 (omega arith) (omega arith) k.history.legal);
              drawn = let a = mine.drawn in let b = theirs.drawn in omega arith;
              own = has_left v.names u.names v.number mine.own;
              once = no_twice-append v.names u.names mine.once theirs.once (λ m a b. apart (k.names.apart other id u v m there' at (inl b) (inl a)));
              one = share_left v.names u.names v.seen.items k.items mine.sees;
              other = share_right v.names u.names u.seen.items k.items theirs.sees;
              above = λ m q. absurd (bad_owned m q);
            })
            (λ h. absurd h);
        names = record {
          below = each (λ y. (m : ℕ) → Claims y m → (m < k.numbers) × (m < 65535)) k.names.below
              (λ m c. ⊎_elim (λ h. k.names.below id v at m h) (λ h. k.names.below other u there' m h) (claims m c)) (λ m c. absurd (no_claim m c));
          apart = λ i j y z m gi gj ci cj.
              ⊎_elim
              (λ (a : (i ≡ id) × (Claims v m ⊎ Claims u m)). ⊎_elim
              (λ (b : (j ≡ id) × (Claims v m ⊎ Claims u m)). a.0 ∙ sym b.0)
              (λ (b : (j ≢ id) × (j ≢ other) × (get_elem? s.views j ≡ some z)). absurd (cross j z m b.0 b.1 b.2 cj a.1))
              (source j z m gj cj))
              (λ (a : (i ≢ id) × (i ≢ other) × (get_elem? s.views i ≡ some y)). ⊎_elim
              (λ (b : (j ≡ id) × (Claims v m ⊎ Claims u m)). absurd (cross i y m a.0 a.1 a.2 ci b.1))
              (λ (b : (j ≢ id) × (j ≢ other) × (get_elem? s.views j ≡ some z)). k.names.apart i j y z m a.2 b.2 ci cj)
              (source j z m gj cj))
              (source i y m gi ci);
          unnamed = each (λ y. (m : ℕ) → owned_of y.stage ≡ Some m → has y.names m ≡ false) k.names.unnamed (λ m q. absurd (bad_owned m q)) (λ m q. refl);
          first = named 0 k.names.first;
          split = each (λ y. (m : ℕ) → has y.names m ≡ true → 0 < m → Some_view views (Split' m)) (λ j y g m h z. splits m (k.names.split j y g m h z))
              (λ m h z. ⊎_elim (λ q. splits m (k.names.split id v at m q z)) (λ q. splits m (k.names.split other u there' m q z)) (has_both v.names u.names m h))
              (λ m h z. let b : false ≡ true = h in absurd (cc));
          children = each (λ y. (p m : ℕ) → Child y.made p m → Named views m) (λ j y g p m c. named m (k.names.children j y g p m c))
              (λ p m c. ⊎_elim (λ q. named m (k.names.children id v at p m q)) (λ q. named m (k.names.children other u there' p m q)) (child_both v.made u.made p m c))
              (λ p m c. absurd c);
          makers = each_item_map (Named s.views) (Named views) k.items named k.names.makers;
        };
        fit = record {
          few = let a = total_set (λ (y : View V E). draws y.stage) s.views id v w at in let b = total_set (λ (y : View V E). draws y.stage) first other u x there in
              let d : draws u.stage ≡ 0 = ap draws su in let f = k.fit.few in omega arith;
          all = let a = total_set parts s.views id v w at in let b = total_set parts first other u x there in let o : owns u.stage ≡ 0 = ap owns su in
              let l : length (v.names ++ u.names) ≡ length v.names + length u.names = length-append v.names u.names in let f = k.fit.all in omega arith;
        };
        alone = each (λ y. IsAlone y.stage → total_of parts views ≡ parts y) (λ j y g a. absurd (nobody j y g a)) (λ a. absurd (subst IsAlone sv a)) (λ a. absurd a);
      }

  -- another view has no name, where one has all
  others_empty : (s : State (Option V) (View V E)) (k : Kept t opening s) (id : ℕ) (v : View V E) → get_elem? s.views id ≡ some v → IsWhole v
      → (j : ℕ) (u : View V E) → j ≢ id → get_elem? s.views j ≡ some u → parts u ≡ 0
  others_empty s k id v at whole j u n g =
      let none : (ns : List ℕ) → u.names ≡ ns → length ns ≡ 0 = empty_if in
      let names : length u.names ≡ 0 = none u.names refl in
      let owned : owns u.stage ≡ 0 = owned_none u.stage (λ live.
      let h = k.view j u g live in let b = has_some u.names u.number h.own in omega arith) in
      omega arith
    where
      mine_too : (m : ℕ) → has u.names m ≡ true → ⊥
      mine_too m h = n (k.names.apart j id u v m g at (inl h) (inl (has_all k.numbers k.items s.views id v at k.names whole m (j, u, g, h))))

      empty_if : (ns : List ℕ) → u.names ≡ ns → length ns ≡ 0
      empty_if [] e = refl
      empty_if (m ∷ ms) e = absurd (mine_too m (subst (λ ns. has ns m ≡ true) (sym e) (has_head m ms)))

      owned_none : (st : Stage E) → (IsLive st → ⊥) → owns st ≡ 0
      owned_none (Owning _) f = absurd (f tt)
      owned_none _ f = refl

  -- the look at the end keeps the rule
  pub ends_keeps : (slots id : ℕ) (me : Me (Option V) (View V E)) (st : Step (Option V)) → me.0.stage ≡ Idle → Allows (Kept t opening) slots id me 3 (λ n. n) (Ends st me)
  ends_keeps slots id me st stage s k len at fits =
      let v = me.0 in
      let w = at_stage v Alone in
      let mine = k.view id v at (subst IsLive (sym stage) tt) in
      let live = live_parts t opening k.numbers k.items v mine in
      let found : slice_index s.words 3 ≡ k.numbers = ap (λ ws. slice_index ws 3) k.words in
      let o : owns v.stage ≡ 0 = ap owns stage in
      let all = k.fit.all in
      let same = (read_back t opening s k).2 in
      let nobody = none_alone t opening s.views id v at live (λ a. subst IsAlone stage a) k.alone in
      dite (ℕ_discrete (length v.names) (min (slice_index s.words 3) 65535))
      (λ (is : length v.names ≡ min (slice_index s.words 3) 65535).
      let full : total_of parts s.views ≡ parts v = omega arith in
      let mine_too : (m : ℕ) → Named s.views m → has v.names m ≡ true = λ m (j, u, g, h).
      dite (ℕ_discrete j id)
      (λ (e : j ≡ id). subst (λ (y : View V E). has y.names m ≡ true) (same_at s.views id u v (subst (λ i. get_elem? s.views i ≡ some u) e g) at) h)
      (λ n. let two = total_two parts s.views j id u v n g at in let one = has_some u.names m h in absurd (omega arith)) in (
        w,
        keeps,
        tt,
        record {
          items = k.items;
          word = k.word;
          served = k.served;
          drawn = k.drawn;
          numbers = k.numbers;
          words = same ∙ k.words;
          tickets = tickets_same k.served k.drawn s.views id v w at (sym (ap ticket_of stage)) (sym (ap queues stage)) k.tickets;
          turn = turn_same k.served (value_after t opening k.items) s.homes s.views id v w at (λ h. absurd h) (λ h. absurd (subst HasTurn stage h)) (λ h. absurd h) k.turn;
          history = k.history;
          view = each_set (λ (u : View V E). IsLive u.stage → IsView t opening k.numbers k.items u) s.views id w (λ j u _ g. k.view j u g)
              (λ _. staged t opening k.numbers k.items v Alone mine tt (λ m q. let bad : None ≡ Some m = q in absurd (cc)));
          names = names_same k.numbers k.items s.views id v w at refl refl (sym (ap owned_of stage)) k.names;
          fit = fit_same k.numbers s.views id v w at (sym (ap draws stage)) (ap (λ m. length v.names + m) (sym o)) k.fit;
          alone = each_set (λ (u : View V E). IsAlone u.stage → total_of parts (set s.views id w) ≡ parts u) s.views id w (λ j u _ g a. absurd (nobody j u g a))
              (λ _. let h = total_set parts s.views id v w at in omega arith);
        },
        (
          (λ _. (refl, record { first = mine_too 0 k.names.first; children = λ p m c. mine_too m (k.names.children id v at p m c) })),
          (λ ne. absurd (ne is)),
        ),
      ))
      (λ isnt. (
        v,
        keeps,
        tt,
        nothing t opening s id v 3 at k same,
        (
          (λ is. absurd (isnt is)),
          (λ _. (refl, λ whole. let only = total_only parts s.views id v at (others_empty s k id v at whole) in isnt (omega arith))),
        ),
      ))

  -- where one is alone the slot is at home
  pub at_home : (s : State (Option V) (View V E)) (k : Kept t opening s) (id : ℕ) (v : View V E) → get_elem? s.views id ≡ some v → v.stage ≡ Alone → s.homes ≡ some (Some (value_after t opening k.items)) ∷ []
  at_home s k id v at stage =
      ⊎_elim (λ h. h.0)
      (λ (a : (s.homes ≡ opt.none ∷ []) × Some_view s.views (λ u. HasTurn u.stage)).
      let (j, u, g, h) = a.1 in
      let mine = k.view id v at (subst IsLive (sym stage) tt) in
      let live = live_parts t opening k.numbers k.items v mine in
      let full = k.alone id v at (subst IsAlone (sym stage) tt) in
      absurd (dite (ℕ_discrete j id)
      (λ (e : j ≡ id). subst HasTurn stage (subst (λ (y : View V E). HasTurn y.stage) (same_at s.views id u v (subst (λ i. get_elem? s.views i ≡ some u) e g) at) h))
      (λ n. let two = total_two parts s.views j id u v n g at in
      let theirs = live_parts t opening k.numbers k.items u (k.view j u g (turn_live u.stage h)) in omega arith)))
      k.turn.slot
    where
      turn_live : (st : Stage E) → HasTurn st → IsLive st
      turn_live (Holding _ _) h = tt
      turn_live (Done _) h = tt
      turn_live _ h = absurd h

  -- whoever is alone and whole finds at home the value of all that it has seen
  pub closes : (s : State (Option V) (View V E)) (k : Kept t opening s) (id : ℕ) (v : View V E) → get_elem? s.views id ≡ some v → v.stage ≡ Alone → IsWhole v
      → (get_elem? s.homes 0 ≡ some (some (Some (value_of t v.seen)))) × IsSound t v
  closes s k id v at stage whole =
      let mine = k.view id v at (subst IsLive (sym stage) tt) in
      let sound = sound_seen t opening s k id v at (subst IsLive (sym stage) tt) in
      let all : k.items ≡ v.seen.items = sym (whole_has t opening s k id v at whole) ∙ sees_mine v.names v.seen.items k.items mine.sees ∙ sound.whole whole in
      let value : value_after t opening k.items ≡ value_of t v.seen = ap (λ (xs : List (ℕ × E)). value_after t opening xs) all ∙ ap (λ (o : V). value_after t o v.seen.items) (sym mine.opened) in
      (ap (λ hs. get_elem? hs 0) (at_home s k id v at stage) ∙ ap (λ (x : V). some (some (Some x))) value, sound)

  -- what the slot of a closed table has, for whoever was alone
  pub closed_value : (id : ℕ) (v : View V E) (ws : List ℕ) (xs : List (Option V)) (x : Option V) → v.stage ≡ Alone → IsWhole v → Final (Seen (Kept t opening) id v) ws xs → get_elem? xs 0 ≡ some x
      → (x ≡ Some (value_of t v.seen)) × IsSound t v
  closed_value id v ws xs x stage whole (s, kept, words, len, home) at =
      let both = closes s kept.0 id v kept.1 stage whole in
      (some-injective x (Some (value_of t v.seen)) (sym at ∙ home 0 (Some (value_of t v.seen)) both.0), both.1)
