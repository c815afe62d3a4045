-- The kinds of step that publish an item, look at the history, and leave with nothing said keep the rule.
use Rattle.std.proofs.Common.{◌≡◌, ◌≢◌, ℕ, ◌+◌, ◌*◌, ◌^◌, ◌<◌, ◌≤◌, List, [], ◌∷◌, ◌++◌, length, set, Option, Some, refl, sym, ap, ◌∙◌, subst, inl, inr, ⊎_elim, arith}
use Rattle.std.specs.Prelude.{slice_index, slice_set}
use mathlib.Core.Option.{some}
use lib.ListN.{get_elem?}
use Rattle.atomic_table.specs.Table.{State, Me, keeps, Allows, Step}
use Rattle.udt_turn.specs.Story.{Telling}
use Rattle.udt_turn.specs.History.{has, value_after, MayFollow, last_from}
use Rattle.udt_turn.specs.Rule.{ticket_of, queues, HasTurn, draws, owned_of, owns, IsLive, IsAlone, Knows, parts, Each, Tickets, Sees, IsView, Named, Kept}
use Rattle.udt_turn.specs.Kinds.{at_stage, seeing, ticket_in, found_in, IsSound, saying, Says, Leaves, Looks, Settles}
use Rattle.udt_turn.specs.declared.view.View.{View}
use Rattle.udt_turn.specs.declared.view.Stage.{Stage}
use Rattle.udt_turn.specs.declared.view.Stage.TheVariants.{Idle, Waiting, Holding, Done, Counting, Owning, Alone, Spent}
use Rattle.udt_turn.proofs.Views.{each_set, total_ge}
use Rattle.udt_turn.proofs.Parts.{here, tickets_same, turn_same, names_same, fit_same, each_item_push}
use Rattle.udt_turn.proofs.Histories.{value_after-push, may_follow-push, may_follow-front, sees_all, sees_more, seen_whole, begins_more, begins_both, last_from-own, last_from-other, last_from-seen}
use Rattle.udt_turn.proofs.Whole.{whole_has}
use Rattle.udt_turn.proofs.Shares.{not_true, no_share_is, share_more, share_seen}
use Rattle.udt_turn.proofs.Lock.{live_parts, alone_set, read_back}

-- a pass without the turn knows nothing of the history's end
knows_less : {E : Type 0} (st : Stage E) (seen items more : List (ℕ × E)) → (HasTurn st → ⊥) → Knows st seen items → Knows st seen more
knows_less Idle seen items more not h = tt
knows_less (Waiting _) seen items more not h = tt
knows_less (Holding _ _) seen items more not h = absurd (not tt)
knows_less (Done _) seen items more not h = absurd (not tt)
knows_less Counting seen items more not h = tt
knows_less (Owning _) seen items more not h = tt
knows_less Alone seen items more not h = tt
knows_less Spent seen items more not h = tt

module _ {V E : Type 0} (t : Telling V E) (opening : V) where
  -- the history as a view sees it now is sound
  pub sound_now : (s : State (Option V) (View V E)) (k : Kept t opening s) (id : ℕ) (v : View V E) (st : Stage E) → get_elem? s.views id ≡ some v → IsLive v.stage → IsSound t (seeing v k.items st)
  sound_now s k id v st at live = record {
    legal = subst (λ o. MayFollow t o k.items) (sym (k.view id v at live).opened) k.history.legal;
    whole = λ h. whole_has t opening s k id v at (record { first = h.first; children = h.children });
    last = let mine = k.view id v at live in subst (λ o. v.last ≡ last_from t v.names o k.items 0) (sym mine.opened) mine.last;
    own = (k.view id v at live).own;
  }

  -- what a live view has seen is sound
  pub sound_seen : (s : State (Option V) (View V E)) (k : Kept t opening s) (id : ℕ) (v : View V E) → get_elem? s.views id ≡ some v → IsLive v.stage → IsSound t v
  sound_seen s k id v at live =
      let mine = k.view id v at live in
      record {
        legal = may_follow-front t v.seen.opening v.seen.items mine.sees.rest (subst (λ xs. MayFollow t v.seen.opening xs) mine.sees.is (subst (λ o. MayFollow t o k.items) (sym mine.opened) k.history.legal));
        whole = λ h. seen_whole v.names v.seen.items k.items mine.sees (whole_has t opening s k id v at (record { first = h.first; children = h.children }));
        last = subst (λ o. v.last ≡ last_from t v.names o v.seen.items 0) (sym mine.opened) (mine.last ∙ last_from-seen t v.names opening v.seen.items k.items 0 mine.sees);
        own = mine.own;
      }

  -- telling an item keeps the rule
  pub says_keeps : (slots id : ℕ) (me : Me (Option V) (View V E)) (st : Step (Option V)) (item : Option E) (n : ℕ) (found : List (ℕ × E)) (e : E) (new : ℕ)
      → me.0.stage ≡ Holding n found → item ≡ Some e → t.legal (value_after t me.0.seen.opening found) e
      → t.count (t.after (value_after t me.0.seen.opening found) e) ≡ t.count (value_after t me.0.seen.opening found) + 1
      → t.count (t.after (value_after t me.0.seen.opening found) e) < 2 ^ 55 → t.bits (t.after (value_after t me.0.seen.opening found) e) < 256
      → new ≡ 256 * t.count (t.after (value_after t me.0.seen.opening found) e) + t.bits (t.after (value_after t me.0.seen.opening found) e)
      → Allows (Kept t opening) slots id me 0 (λ _. new) (λ _. Says t item st me new)
  says_keeps slots id me st item n found e new stage named legal count most bits word s k len at fits =
      let v = me.0 in
      let y : ℕ × E = (v.number, e) in
      let items = k.items ++ y ∷ [] in
      let mine = k.view id v at (subst IsLive (sym stage) tt) in
      let holds : HasTurn v.stage = subst HasTurn (sym stage) tt in
      let is : found ≡ k.items = subst (λ z. Knows z v.seen.items k.items) stage mine.knows in
      let at_end : value_after t v.seen.opening found ≡ value_after t opening k.items = ap (λ (o : V). value_after t o found) mine.opened ∙ ap (λ xs. value_after t opening xs) is in
      let a = value_after t opening k.items in
      let after : value_after t opening items ≡ t.after a e = value_after-push t opening k.items y in
      let legal' : t.legal a e = subst (λ x. t.legal x e) at_end legal in
      let count' : t.count (t.after a e) ≡ t.count a + 1 = subst (λ x. t.count (t.after x e) ≡ t.count x + 1) at_end count in
      let w = saying t v e in
      let seen : found_in v.stage ++ y ∷ [] ≡ items = ap (λ xs. xs ++ y ∷ []) (ap found_in stage ∙ is) in
      let serve : Tickets v k.served = k.turn.whose id v at holds in
      let alone : (j : ℕ) (u : View V E) → j ≢ id → get_elem? s.views j ≡ some u → HasTurn u.stage → ⊥ = λ j u z g h. z (k.tickets.apart j id u v k.served g at (k.turn.whose j u g h) serve) in
      let last_here : w.last ≡ last_from t v.names opening items 0 =
      ap (λ (x : List (ℕ × E)). t.count (t.after (value_after t v.seen.opening x) e)) (ap found_in stage)
      ∙ ap (λ (x : V). t.count (t.after x e)) at_end ∙ sym (last_from-own t v.names opening k.items y 0 mine.own) in
      let view : Each (set s.views id w) (λ u. IsLive u.stage → IsView t opening k.numbers items u) =
      each_set (λ (u : View V E). IsLive u.stage → IsView t opening k.numbers items u) s.views id w
      (λ j u z g live. let h = k.view j u g live in record {
        opened = h.opened;
        sees = sees_more u.names u.seen.items k.items y (not_true (has u.names v.number) (λ b. z (k.names.apart j id u v v.number g at (inl b) (inl mine.own)))) h.sees;
        told = begins_more u.told k.items (y ∷ []) h.told;
        knows = knows_less u.stage u.seen.items k.items items (alone j u z g) h.knows;
        last = h.last ∙ sym (last_from-other t u.names opening k.items y 0 (not_true (has u.names v.number) (λ b. z (k.names.apart j id u v v.number g at (inl b) (inl mine.own)))));
        drawn = h.drawn;
        own = h.own;
        once = h.once;
        one = share_more u.names k.items y u.one (not_true (has u.names v.number) (λ b. z (k.names.apart j id u v v.number g at (inl b) (inl mine.own)))) h.one;
        other = share_more u.names k.items y u.other (not_true (has u.names v.number) (λ b. z (k.names.apart j id u v v.number g at (inl b) (inl mine.own)))) h.other;
        above = h.above;
      })
      (λ _. record {
        opened = mine.opened;
        sees = subst (λ xs. Sees v.names xs items) (sym seen) (sees_all v.names items);
        told = begins_more v.told k.items (y ∷ []) mine.told;
        knows = seen;
        last = last_here;
        drawn = mine.drawn;
        own = mine.own;
        once = mine.once;
        one = no_share_is v.names items;
        other = no_share_is v.names items;
        above = λ m o. absurd (cc);
      }) in
      let names = names_same k.numbers k.items s.views id v w at refl refl (sym (ap owned_of stage)) k.names in
      let rule : Kept t opening record { words = slice_set s.words 0 new; homes = s.homes; views = slice_set s.views id w } = record {
        items = items;
        word = new;
        served = k.served;
        drawn = k.drawn;
        numbers = k.numbers;
        words = ap (λ ws. slice_set ws 0 new) k.words;
        tickets = tickets_same k.served k.drawn s.views id v w at (ap Some (ap ticket_in stage) ∙ sym (ap ticket_of stage)) (sym (ap queues stage)) k.tickets;
        turn = record {
          slot = ⊎_elim
              (λ (h : (s.homes ≡ some (Some a) ∷ []) × Each s.views (λ u. HasTurn u.stage → ⊥)). absurd (h.1 id v at holds))
              (λ h. inr (h.0, (id, w, here s.views id v w at, tt)))
              k.turn.slot;
          whose = each_set (λ (u : View V E). HasTurn u.stage → Tickets u k.served) s.views id w (λ j u _ g h. k.turn.whose j u g h)
              (λ _. ap Some (ap ticket_in stage) ∙ sym (ap ticket_of stage) ∙ serve);
        };
        history = record {
          legal = may_follow-push t opening k.items y k.history.legal legal' count';
          word = word ∙ ap (λ (x : V). 256 * t.count (t.after x e) + t.bits (t.after x e)) at_end ∙ ap (λ (x : V). 256 * t.count x + t.bits x) (sym after);
          count = subst (λ x. t.count x < 2 ^ 55) (ap (λ (x : V). t.after x e) at_end ∙ sym after) most;
          bits = subst (λ x. t.bits x < 256) (ap (λ (x : V). t.after x e) at_end ∙ sym after) bits;
        };
        view = view;
        names = record { below = names.below; apart = names.apart; unnamed = names.unnamed; first = names.first; split = names.split; children = names.children; makers = each_item_push (Named (set s.views id w)) k.items y names.makers (id, w, here s.views id v w at, mine.own) };
        fit = fit_same k.numbers s.views id v w at (sym (ap draws stage)) (ap (λ m. length v.names + m) (sym (ap owns stage))) k.fit;
        alone = alone_set t opening k.numbers k.items s.views id v w at (live_parts t opening k.numbers k.items v mine) (λ q. q) k.alone;
      } in
      let now : IsSound t w = subst (λ xs. IsSound t (record w { seen = record { opening = v.seen.opening; items = xs } })) (sym seen)
      (record {
        legal = subst (λ o. MayFollow t o items) (sym mine.opened) rule.history.legal;
        whole = λ h. whole_has t opening record { words = slice_set s.words 0 new; homes = s.homes; views = slice_set s.views id w } rule id w (here s.views id v w at) (record { first = h.first; children = h.children });
        last = subst (λ o. w.last ≡ last_from t v.names o items 0) (sym mine.opened) last_here;
        own = mine.own;
      }) in (
        w,
        keeps,
        tt,
        rule,
        (λ e' same. let one : e ≡ e' = cc in (ap (λ z. (saying t v z, me.1)) one, now)),
      )

  -- seeing the history keeps the rule, for a pass that has the turn
  pub leaves_keeps : (slots id : ℕ) (me : Me (Option V) (View V E)) (st : Step (Option V)) (n : ℕ) (found : List (ℕ × E)) → me.0.stage ≡ Holding n found
      → Allows (Kept t opening) slots id me 0 (λ n. n) (Leaves st me)
  leaves_keeps slots id me st n found stage s k len at fits =
      let v = me.0 in
      let mine = k.view id v at (subst IsLive (sym stage) tt) in
      let is : found ≡ k.items = subst (λ z. Knows z v.seen.items k.items) stage mine.knows in
      let w = seeing v (found_in v.stage) (Done (ticket_in v.stage)) in
      let seen : found_in v.stage ≡ k.items = ap found_in stage ∙ is in
      let ticket : ticket_of w.stage ≡ ticket_of v.stage = ap Some (ap ticket_in stage) ∙ sym (ap ticket_of stage) in (
        w,
        keeps,
        tt,
        record {
          items = k.items;
          word = k.word;
          served = k.served;
          drawn = k.drawn;
          numbers = k.numbers;
          words = (read_back t opening s k).0 ∙ k.words;
          tickets = tickets_same k.served k.drawn s.views id v w at ticket (sym (ap queues stage)) k.tickets;
          turn = turn_same k.served (value_after t opening k.items) s.homes s.views id v w at (λ _. subst HasTurn (sym stage) tt) (λ _. tt) (λ _. ticket) k.turn;
          history = k.history;
          view = each_set (λ (u : View V E). IsLive u.stage → IsView t opening k.numbers k.items u) s.views id w (λ j u _ g. k.view j u g)
              (λ _. record {
                opened = mine.opened;
                sees = subst (λ xs. Sees v.names xs k.items) (sym seen) (sees_all v.names k.items);
                told = mine.told;
                knows = seen;
                last = mine.last;
                drawn = mine.drawn;
                own = mine.own;
                once = mine.once;
                one = mine.one;
                other = mine.other;
                above = λ m o. absurd (cc);
              });
          names = names_same k.numbers k.items s.views id v w at refl refl (sym (ap owned_of stage)) k.names;
          fit = fit_same k.numbers s.views id v w at (sym (ap draws stage)) (ap (λ m. length v.names + m) (sym (ap owns stage))) k.fit;
          alone = alone_set t opening k.numbers k.items s.views id v w at (live_parts t opening k.numbers k.items v mine) (λ q. q) k.alone;
        },
        refl,
      )

  -- seeing the history keeps the rule
  pub looks_keeps : (slots id : ℕ) (me : Me (Option V) (View V E)) (st : Step (Option V)) → me.0.stage ≡ Idle → Allows (Kept t opening) slots id me 0 (λ n. n) (Looks t st me)
  looks_keeps slots id me st stage s k len at fits =
      let v = me.0 in
      let mine = k.view id v at (subst IsLive (sym stage) tt) in
      let w = seeing v k.items Idle in
      let found : slice_index s.words 0 ≡ k.word = ap (λ ws. slice_index ws 0) k.words in
      let value : value_after t v.seen.opening k.items ≡ value_after t opening k.items = ap (λ (o : V). value_after t o k.items) mine.opened in (
        w,
        keeps,
        tt,
        record {
          items = k.items;
          word = k.word;
          served = k.served;
          drawn = k.drawn;
          numbers = k.numbers;
          words = (read_back t opening s k).0 ∙ k.words;
          tickets = tickets_same k.served k.drawn s.views id v w at (sym (ap ticket_of stage)) (sym (ap queues stage)) k.tickets;
          turn = turn_same k.served (value_after t opening k.items) s.homes s.views id v w at (λ h. absurd h) (λ h. absurd (subst HasTurn stage h)) (λ h. absurd h) k.turn;
          history = k.history;
          view = each_set (λ (u : View V E). IsLive u.stage → IsView t opening k.numbers k.items u) s.views id w (λ j u _ g. k.view j u g)
              (λ _. record {
                opened = mine.opened;
                sees = sees_all v.names k.items;
                told = mine.told;
                knows = tt;
                last = mine.last;
                drawn = mine.drawn;
                own = mine.own;
                once = mine.once;
                one = mine.one;
                other = mine.other;
                above = λ m o. absurd (cc);
              });
          names = names_same k.numbers k.items s.views id v w at refl refl (sym (ap owned_of stage)) k.names;
          fit = fit_same k.numbers s.views id v w at (sym (ap draws stage)) (ap (λ m. length v.names + m) (sym (ap owns stage))) k.fit;
          alone = alone_set t opening k.numbers k.items s.views id v w at (live_parts t opening k.numbers k.items v mine) (λ q. q) k.alone;
        },
        record {
          found = k.items;
          now = refl;
          sees = mine.sees;
          sound = sound_now s k id v Idle at (subst IsLive (sym stage) tt);
          word = found ∙ k.history.word ∙ ap (λ (x : V). 256 * t.count x + t.bits x) (sym value);
          bits = subst (λ x. t.bits x < 256) (sym value) k.history.bits;
        },
      )

  -- a look after a join keeps the rule
  pub settles_keeps : (slots id : ℕ) (me : Me (Option V) (View V E)) (st : Step (Option V)) → me.0.stage ≡ Idle → length me.0.told ≤ length me.0.seen.items
      → Allows (Kept t opening) slots id me 0 (λ n. n) (Settles t st me)
  settles_keeps slots id me st stage le s k len at fits =
      let v = me.0 in
      let mine = k.view id v at (subst IsLive (sym stage) tt) in
      let w = record v { told = [] } in (
        w,
        keeps,
        tt,
        record {
          items = k.items;
          word = k.word;
          served = k.served;
          drawn = k.drawn;
          numbers = k.numbers;
          words = (read_back t opening s k).0 ∙ k.words;
          tickets = tickets_same k.served k.drawn s.views id v w at refl refl k.tickets;
          turn = turn_same k.served (value_after t opening k.items) s.homes s.views id v w at (λ h. h) (λ h. h) (λ _. refl) k.turn;
          history = k.history;
          view = each_set (λ (u : View V E). IsLive u.stage → IsView t opening k.numbers k.items u) s.views id w (λ j u _ g. k.view j u g)
              (λ _. record { opened = mine.opened; sees = mine.sees; told = (k.items, refl); knows = mine.knows; last = mine.last; drawn = mine.drawn; own = mine.own; once = mine.once; one = mine.one; other = mine.other; above = mine.above });
          names = names_same k.numbers k.items s.views id v w at refl refl refl k.names;
          fit = fit_same k.numbers s.views id v w at refl refl k.fit;
          alone = alone_set t opening k.numbers k.items s.views id v w at (live_parts t opening k.numbers k.items v mine) (λ q. subst IsAlone stage q) k.alone;
        },
        (
          refl,
          (let here_seen = sound_seen s k id v at (subst IsLive (sym stage) tt) in
              record { legal = here_seen.legal; whole = λ h. here_seen.whole (record { first = h.first; children = h.children }); last = here_seen.last; own = here_seen.own }),
          begins_both v.told v.seen.items mine.told.0 mine.sees.rest (sym mine.told.1 ∙ mine.sees.is) le,
          let p = total_ge parts s.views id v at in let a = k.fit.all in omega arith,
          mine.once,
          share_seen v.names v.seen.items k.items v.one mine.sees mine.one,
          share_seen v.names v.seen.items k.items v.other mine.sees mine.other,
        ),
      )

module _ {V E : Type 0} (t : Telling V E) where
  -- a view at another stage is as sound
  pub sound_staged : (v : View V E) (st : Stage E) → IsSound t v → IsSound t (at_stage v st)
  sound_staged v st h = record { legal = h.legal; whole = λ w. h.whole (record { first = w.first; children = w.children }); last = h.last; own = h.own }
