-- The kinds of step that draw a ticket, read which one is served, and call the next one keep the rule.
use Rattle.std.proofs.Common.{◌≡◌, ◌≢◌, ℕ, eqb, ◌+◌, ◌%◌, ◌^◌, ◌<◌, ◌≤◌, true, List, [], ◌∷◌, length, set, Option, Some, None, refl, sym, ap, ◌∙◌, subst, inl, inr, ⊎_elim, arith, lt_of_not-le}
use Rattle.std.specs.Prelude.{slice_index, slice_set}
use mathlib.Core.Option as opt
use mathlib.Core.Option.{some, some-ne-none, some-injective}
use mathlib.Core.Logic.{dite}
use native.Mathlib.Decide.{ℕ_discrete, dec_le}
use lib.ListN.{get_elem?}
use prog.Atomic.{either}
use Rattle.atomic_table.specs.Table.{State, Me, Act, keeps, takes, gives, Allows, Step, Valid, put_back, carried_after, stepped}
use Rattle.atomic_table.proofs.Lists.{exchanged, set_again, one_turn}
use Rattle.udt_turn.specs.Story.{Telling}
use Rattle.udt_turn.specs.History.{has, value_after, MayFollow, last_from}
use Rattle.udt_turn.specs.Rule.{total_of, ticket_of, queues, HasTurn, draws, owned_of, owns, IsLive, IsAlone, Knows, parts, Each, Some_view, Tickets, IsView, AloneHasAll, Kept}
use Rattle.udt_turn.specs.Kinds.{at_stage, seeing, ticket_in, IsSound, Draws, DrawsFirst, Reads, Calls}
use Rattle.udt_turn.specs.declared.view.View.{View}
use Rattle.udt_turn.specs.declared.view.Stage.{Stage}
use Rattle.udt_turn.specs.declared.view.Stage.TheVariants.{Idle, Waiting, Holding, Done}
use Rattle.udt_turn.proofs.Whole.{whole_has}
use Rattle.udt_turn.proofs.Views.{total_set, total_le, total_two, same_at, each_set}
use Rattle.udt_turn.proofs.Parts.{apart_set, apart_less, here, tickets_same, turn_same, one_holder, names_same, fit_same}

wrap : (n : ℕ) → (n % 2 ^ 64 + 1) % 2 ^ 64 ≡ (n + 1) % 2 ^ 64
wrap n = omega arith

pub has_some : (ns : List ℕ) (m : ℕ) → has ns m ≡ true → 1 ≤ length ns
has_some [] m h = absurd (cc)
has_some (n ∷ ns) m h = omega arith

module _ {V E : Type 0} (t : Telling V E) (opening : V) where
  pub live_parts : (numbers : ℕ) (items : List (ℕ × E)) (v : View V E) → IsView t opening numbers items v → 1 ≤ parts v
  live_parts numbers items v h = let n = has_some v.names v.number h.own in omega arith

  -- a view at another stage
  pub staged : (numbers : ℕ) (items : List (ℕ × E)) (v : View V E) (st : Stage E) → IsView t opening numbers items v → Knows st v.seen.items items → ((n : ℕ) → owned_of st ≡ Some n → v.number < n)
      → IsView t opening numbers items (at_stage v st)
  staged numbers items v st h knows above = record { opened = h.opened; sees = h.sees; told = h.told; knows = knows; last = h.last; drawn = h.drawn; own = h.own; once = h.once; one = h.one; other = h.other; above = above }

  -- a pass in the queue is live
  queued_live : (st : Stage E) → 1 ≤ queues st → IsLive st
  queued_live Idle h = tt
  queued_live (Waiting _) h = tt
  queued_live (Holding _ _) h = tt
  queued_live (Done _) h = tt
  queued_live _ h = absurd (omega arith)

  queued_one : (st : Stage E) → queues st ≤ 1
  queued_one Idle = omega arith
  queued_one (Waiting _) = omega arith
  queued_one (Holding _ _) = omega arith
  queued_one (Done _) = omega arith
  queued_one _ = omega arith

  -- at most 65535 tickets are out
  pub few_out : (s : State (Option V) (View V E)) (k : Kept t opening s) → total_of (λ (v : View V E). queues v.stage) s.views ≤ 65535
  few_out s k =
      let each : (j : ℕ) (v : View V E) → get_elem? s.views j ≡ some v → queues v.stage ≤ parts v = λ j v g.
      dite (dec_le 1 (queues v.stage))
      (λ q. let one = queued_one v.stage in let p = live_parts k.numbers k.items v (k.view j v g (queued_live v.stage q)) in omega arith)
      (λ q. let z : queues v.stage < 1 = lt_of_not-le q in omega arith) in
      let le = total_le (λ (v : View V E). queues v.stage) parts s.views each in
      let all = k.fit.all in
      omega arith

  -- while another pass is live, none knows that it is alone
  pub alone_set : (numbers : ℕ) (items : List (ℕ × E)) (views : List (View V E)) (id : ℕ) (v w : View V E) → get_elem? views id ≡ some v → 1 ≤ parts v
      → (IsAlone w.stage → ⊥) → AloneHasAll views → AloneHasAll (set views id w)
  alone_set numbers items views id v w at live not k =
      each_set (λ (u : View V E). IsAlone u.stage → total_of parts (set views id w) ≡ parts u) views id w
      (λ j u n g a. let one = k j u g a in let two = total_two parts views j id u v n g at in absurd (omega arith))
      (λ a. absurd (not a))

  -- a step that changes nothing
  pub nothing : (s : State (Option V) (View V E)) (id : ℕ) (v : View V E) (i : ℕ) → get_elem? s.views id ≡ some v → Kept t opening s → slice_set s.words i (slice_index s.words i) ≡ s.words
      → Kept t opening record { words = slice_set s.words i (slice_index s.words i); homes = s.homes; views = slice_set s.views id v }
  nothing s id v i at k same = subst (λ (x : List ℕ × List (View V E)). Kept t opening record { words = x.0; homes = s.homes; views = x.1 }) (λ l. (sym same l, sym (set_again s.views id v at) l)) k

  pub read_back : (s : State (Option V) (View V E)) (k : Kept t opening s) → (slice_set s.words 0 (slice_index s.words 0) ≡ s.words) × (slice_set s.words 2 (slice_index s.words 2) ≡ s.words) × (slice_set s.words 3 (slice_index s.words 3) ≡ s.words)
  read_back s k = (ap (λ ws. slice_set ws 0 (slice_index ws 0)) k.words ∙ sym k.words, ap (λ ws. slice_set ws 2 (slice_index ws 2)) k.words ∙ sym k.words, ap (λ ws. slice_set ws 3 (slice_index ws 3)) k.words ∙ sym k.words)

  -- drawing a ticket keeps the rule
  pub draws_keeps : (slots id : ℕ) (me : Me (Option V) (View V E)) (st : Step (Option V)) → me.0.stage ≡ Idle
      → Allows (Kept t opening) slots id me 1 (λ n. (n + 1) % 2 ^ 64) (Draws st me)
  draws_keeps slots id me st e s k len at fits =
      let v = me.0 in
      let w = at_stage v (Waiting k.drawn) in
      let found : slice_index s.words 1 ≡ k.drawn % 2 ^ 64 = ap (λ ws. slice_index ws 1) k.words in
      let mine = k.view id v at (subst IsLive (sym e) tt) in
      let queue : queues v.stage ≡ 0 = ap queues e in
      let order : k.served ≤ k.drawn = let o = k.tickets.out in omega arith in (
        w,
        keeps,
        tt,
        record {
          items = k.items;
          word = k.word;
          served = k.served;
          drawn = k.drawn + 1;
          numbers = k.numbers;
          words = ap (λ ws. slice_set ws 1 ((slice_index ws 1 + 1) % 2 ^ 64)) k.words ∙ ap (λ n. k.word ∷ n ∷ k.served % 2 ^ 64 ∷ k.numbers ∷ []) (wrap k.drawn);
          tickets = record {
            out = let h = total_set (λ (u : View V E). queues u.stage) s.views id v w at in let o = k.tickets.out in omega arith;
            within = each_set (λ (u : View V E). (n : ℕ) → Tickets u n → (k.served ≤ n) × (n < k.drawn + 1)) s.views id w
                (λ j u n g m c. let h = k.tickets.within j u g m c in (h.0, omega arith))
                (λ m c. let q : Some k.drawn ≡ Some m = c in let h : k.drawn ≡ m = cc in (omega arith, omega arith));
            apart = apart_set Tickets s.views id w k.tickets.apart
                (λ j u m n g cw cu. let q : Some k.drawn ≡ Some m = cw in let h : k.drawn ≡ m = cc in let b = k.tickets.within j u g m cu in omega arith);
          };
          turn = turn_same k.served (value_after t opening k.items) s.homes s.views id v w at (λ h. absurd h) (λ h. absurd (subst HasTurn e h)) (λ h. absurd h) k.turn;
          history = k.history;
          view = each_set (λ (u : View V E). IsLive u.stage → IsView t opening k.numbers k.items u) s.views id w (λ j u n g. k.view j u g)
              (λ _. staged k.numbers k.items v (Waiting k.drawn) mine tt (λ n o. absurd (cc)));
          names = names_same k.numbers k.items s.views id v w at refl refl (sym (ap owned_of e)) k.names;
          fit = fit_same k.numbers s.views id v w at (sym (ap draws e)) (ap (λ n. length v.names + n) (sym (ap owns e))) k.fit;
          alone = alone_set k.numbers k.items s.views id v w at (live_parts k.numbers k.items v mine) (λ a. a) k.alone;
        },
        (k.drawn, found, refl),
      )

  -- and so does drawing it where it is the one that was looked for
  pub draws_first_keeps : (slots id : ℕ) (me : Me (Option V) (View V E)) (st : Step (Option V)) (wanted next : ℕ) → me.0.stage ≡ Idle → st.first ≡ wanted → next ≡ (wanted + 1) % 2 ^ 64
      → Allows (Kept t opening) slots id me 1 (λ n. either (eqb n wanted) next n) (DrawsFirst st me)
  draws_first_keeps slots id me st wanted next e first follows s k len at fits =
      let found = slice_index s.words 1 in
      exchanged found wanted next
      (λ n. (w : View V E) × (a : Act (Option V)) × Valid s.homes me.1 a × Kept t opening (stepped s 1 n id me.1 w a) × DrawsFirst st me found (w, carried_after me.1 a))
      (λ same.
      let (w, a, valid, kept, drew) = draws_keeps slots id me st e s k len at fits in
      let next_is : (found + 1) % 2 ^ 64 ≡ next = ap (λ n. (n + 1) % 2 ^ 64) same ∙ sym follows in
      (w, a, valid, subst (λ n. Kept t opening (stepped s 1 n id me.1 w a)) next_is kept, ((λ _. drew), (λ differs. absurd (differs (same ∙ sym first))))))
      (λ differs.
      (me.0, keeps, tt, nothing s id me.0 1 at k (ap (λ ws. slice_set ws 1 (slice_index ws 1)) k.words ∙ sym k.words), ((λ same. absurd (differs (same ∙ first))), (λ _. refl))))

  not_waiting : (st : Stage E) (n : ℕ) → st ≡ Waiting n → HasTurn st → ⊥
  not_waiting st n e h = subst HasTurn e h

  -- the ticket that is served is the one that was drawn, where they are one number modulo 2 ^ 64
  served_now : (s : State (Option V) (View V E)) (k : Kept t opening s) (id n : ℕ) (v : View V E) → get_elem? s.views id ≡ some v → Tickets v n → k.served % 2 ^ 64 ≡ n % 2 ^ 64 → k.served ≡ n
  served_now s k id n v at c e =
      let w = k.tickets.within id v at n c in
      let o = k.tickets.out in
      let f = few_out s k in
      one_turn k.served n 18446744073709551616 w.0 (omega arith) e

  -- asking for the turn keeps the rule
  pub reads_keeps : (slots id : ℕ) (me : Me (Option V) (View V E)) (st : Step (Option V)) (n : ℕ) → me.0.stage ≡ Waiting n
      → Allows (Kept t opening) slots id me 2 (λ n. n) (Reads t st me)
  reads_keeps slots id me st n e s k len at fits =
      let v = me.0 in
      let found : slice_index s.words 2 ≡ k.served % 2 ^ 64 = ap (λ ws. slice_index ws 2) k.words in
      let same = (read_back s k).1 in
      let mine = k.view id v at (subst IsLive (sym e) tt) in
      let ticket : ticket_in v.stage ≡ n = ap ticket_in e in
      let drew : Tickets v n = ap ticket_of e in
      dite (ℕ_discrete (slice_index s.words 2) (n % 2 ^ 64))
      (λ (is : slice_index s.words 2 ≡ n % 2 ^ 64).
      let now : k.served ≡ n = served_now s k id n v at drew (sym found ∙ is) in
      let w = at_stage v (Holding (ticket_in v.stage) k.items) in
      let x = value_after t opening k.items in
      let here_now : Tickets w k.served = ap Some (ticket ∙ sym now) in
      let free : (s.homes ≡ some (Some x) ∷ []) × Each s.views (λ u. HasTurn u.stage → ⊥) =
      ⊎_elim (λ h. h)
      (λ (a : (s.homes ≡ opt.none ∷ []) × Some_view s.views (λ u. HasTurn u.stage)).
      let (j, u, g, h) = a.1 in
      let one : j ≡ id = one_holder k.served k.drawn x s.homes s.views j id u v k.tickets k.turn g at h (drew ∙ ap Some (sym now)) in
      absurd (not_waiting v.stage n e (subst (λ (y : View V E). HasTurn y.stage) (same_at s.views id u v (subst (λ i. get_elem? s.views i ≡ some u) one g) at) h)))
      k.turn.slot in
      let rule : Kept t opening record { words = slice_set s.words 2 (slice_index s.words 2); homes = slice_set s.homes 0 opt.none; views = slice_set s.views id w } = record {
        items = k.items;
        word = k.word;
        served = k.served;
        drawn = k.drawn;
        numbers = k.numbers;
        words = same ∙ k.words;
        tickets = tickets_same k.served k.drawn s.views id v w at (ap Some ticket ∙ sym drew) (sym (ap queues e)) k.tickets;
        turn = record {
          slot = inr (ap (λ hs. slice_set hs 0 opt.none) free.0, (id, w, here s.views id v w at, tt));
          whose = each_set (λ (u : View V E). HasTurn u.stage → Tickets u k.served) s.views id w (λ j u _ g h. k.turn.whose j u g h) (λ _. here_now);
        };
        history = k.history;
        view = each_set (λ (u : View V E). IsLive u.stage → IsView t opening k.numbers k.items u) s.views id w (λ j u _ g. k.view j u g)
            (λ _. staged k.numbers k.items v (Holding (ticket_in v.stage) k.items) mine refl (λ n o. absurd (cc)));
        names = names_same k.numbers k.items s.views id v w at refl refl (sym (ap owned_of e)) k.names;
        fit = fit_same k.numbers s.views id v w at (sym (ap draws e)) (ap (λ n. length v.names + n) (sym (ap owns e))) k.fit;
        alone = alone_set k.numbers k.items s.views id v w at (live_parts k.numbers k.items v mine) (λ a. a) k.alone;
      } in
      let sound : IsSound t (seeing v k.items Idle) = record {
        legal = subst (λ o. MayFollow t o k.items) (sym mine.opened) k.history.legal;
        whole = λ h. whole_has t opening s k id v at (record { first = h.first; children = h.children });
        last = subst (λ o. v.last ≡ last_from t v.names o k.items 0) (sym mine.opened) mine.last;
        own = mine.own;
      } in
      let slot : (0, Some x) ∷ me.1 ≡ (0, Some (value_after t v.seen.opening k.items)) ∷ me.1 = ap (λ o. (0, Some (value_after t o k.items)) ∷ me.1) (sym mine.opened) in (
        w,
        takes 0 (Some x),
        ap (λ hs. get_elem? hs 0) free.0,
        rule,
        ((λ _. record { found = k.items; now = ap (λ c. (w, c)) slot; sees = mine.sees; most = subst (λ (o : V). t.count (value_after t o k.items) < 2 ^ 55) (sym mine.opened) k.history.count; sound = sound }), (λ ne. absurd (ne (is ∙ ap (λ m. m % 2 ^ 64) (sym ticket))))),
      ))
      (λ isnt. (
        v,
        keeps,
        tt,
        nothing s id v 2 at k same,
        ((λ is. absurd (isnt (is ∙ ap (λ m. m % 2 ^ 64) ticket))), (λ _. refl)),
      ))

  -- giving the turn back keeps the rule
  pub calls_keeps : (slots id : ℕ) (me : Me (Option V) (View V E)) (st : Step (Option V)) (n : ℕ) (x : V) → me.0.stage ≡ Done n → me.1 ≡ (0, Some x) ∷ []
      → x ≡ value_after t me.0.seen.opening me.0.seen.items → Allows (Kept t opening) slots id me 2 (λ n. (n + 1) % 2 ^ 64) (Calls st me)
  calls_keeps slots id me st n x e c is s k len at fits =
      let v = me.0 in
      let w = at_stage v Idle in
      let mine = k.view id v at (subst IsLive (sym e) tt) in
      let holds : HasTurn v.stage = subst HasTurn (sym e) tt in
      let drew : Tickets v n = ap ticket_of e in
      let serve : Tickets v k.served = k.turn.whose id v at holds in
      let queue : queues v.stage ≡ 1 = ap queues e in
      let seen : v.seen.items ≡ k.items = subst (λ z. Knows z v.seen.items k.items) e mine.knows in
      let y = value_after t opening k.items in
      let value : x ≡ y = is ∙ ap (λ (o : V). value_after t o v.seen.items) mine.opened ∙ ap (λ xs. value_after t opening xs) seen in
      let away : s.homes ≡ opt.none ∷ [] = ⊎_elim (λ (h : (s.homes ≡ some (Some y) ∷ []) × Each s.views (λ u. HasTurn u.stage → ⊥)). absurd (h.1 id v at holds)) (λ h. h.0) k.turn.slot in
      let others : (j : ℕ) (u : View V E) → j ≢ id → get_elem? s.views j ≡ some u → Tickets u k.served → ⊥ = λ j u m g tu. m (k.tickets.apart j id u v k.served g at tu serve) in (
        w,
        gives,
        tt,
        record {
          items = k.items;
          word = k.word;
          served = k.served + 1;
          drawn = k.drawn;
          numbers = k.numbers;
          words = ap (λ ws. slice_set ws 2 ((slice_index ws 2 + 1) % 2 ^ 64)) k.words ∙ ap (λ m. k.word ∷ k.drawn % 2 ^ 64 ∷ m ∷ k.numbers ∷ []) (wrap k.served);
          tickets = record {
            out = let h = total_set (λ (u : View V E). queues u.stage) s.views id v w at in let o = k.tickets.out in omega arith;
            within = each_set (λ (u : View V E). (m : ℕ) → Tickets u m → (k.served + 1 ≤ m) × (m < k.drawn)) s.views id w
                (λ j u z g m tu. let b = k.tickets.within j u g m tu in
                let ne : k.served ≢ m = λ q. others j u z g (tu ∙ ap Some (sym q)) in (omega arith, b.1))
                (λ m tu. let bad : None ≡ Some m = tu in absurd (cc));
            apart = apart_less Tickets s.views id v w k.tickets.apart at (λ m tu. let bad : None ≡ Some m = tu in absurd (cc));
          };
          turn = record {
            slot = inl (
              ap (λ cs. put_back s.homes cs) c ∙ ap (λ hs. slice_set hs 0 (some (Some x))) away ∙ ap (λ z. some (Some z) ∷ []) value,
              each_set (λ (u : View V E). HasTurn u.stage → ⊥) s.views id w (λ j u z g h. others j u z g (k.turn.whose j u g h)) (λ h. h),
            );
            whose = each_set (λ (u : View V E). HasTurn u.stage → Tickets u (k.served + 1)) s.views id w (λ j u z g h. absurd (others j u z g (k.turn.whose j u g h))) (λ h. absurd h);
          };
          history = k.history;
          view = each_set (λ (u : View V E). IsLive u.stage → IsView t opening k.numbers k.items u) s.views id w (λ j u _ g. k.view j u g)
              (λ _. staged k.numbers k.items v Idle mine tt (λ n o. absurd (cc)));
          names = names_same k.numbers k.items s.views id v w at refl refl (sym (ap owned_of e)) k.names;
          fit = fit_same k.numbers s.views id v w at (sym (ap draws e)) (ap (λ n. length v.names + n) (sym (ap owns e))) k.fit;
          alone = alone_set k.numbers k.items s.views id v w at (live_parts k.numbers k.items v mine) (λ a. a) k.alone;
        },
        refl,
      )
