-- What is found in the table that changes make, one of them put there.
use Rattle.std.proofs.Common.{◌≡◌, ℕ, nat_eq, Bool, true, false, cond, List, [], ◌∷◌, ◌++◌, Option, Some, None, IfSome, is_some, fold, refl, sym, subst, append_assoc, true≢false}
use Rattle.std.proofs.lemmas.List.{append-nil}
use Rattle.std.proofs.lemmas.List.Elements.{Contains-append_left, Contains-push}
use Rattle.std.proofs.lemmas.Map.Lookups.{exact_unsigned}
use Rattle.std.specs.declared.cmp.Ordering.{Ordering}
use Rattle.std.specs.declared.cmp.Ordering.TheVariants.{Less, Equal, Greater}
use Rattle.std.specs.List.{Contains, AllByRecursion}
use Rattle.std.specs.Map.{lookup, remove_entry}
use Rattle.std.specs.BTreeMap.{is_at, insert_entry}
use Rattle.std.specs.Ordering.{nat_cmp, is_eq, match_ordering}
use Rattle.udt_model.specs.declared.addresses.Addr.{Addr}
use Rattle.udt_model.specs.Addresses.{same_addr}
use Rattle.udt_model.proofs.AddressLemmas.{same_addr-is}
use Rattle.udt_routes.specs.declared.changes.Change.{Change}
use Rattle.udt_routes.specs.declared.changes.Change.TheVariants.{Enrol, Leave, SetListener, ClearListener, SetMeeting, ClearMeeting}
use Rattle.udt_routes.specs.declared.routing.Want.{Want}
use Rattle.udt_routes.specs.declared.routing.Want.TheVariants.{Id, Listener, Meeting}
use Rattle.udt_routes.specs.Changes.{IdTable, after, table_after, change_for}
use Rattle.udt_routes.specs.declared.published.View.{View}
use Rattle.udt_routes.specs.Publishing.{ReadsFound}
use Rattle.udt_routes.specs.Meets.{meeter_of, is_meeter, can_meet}
use Rattle.udt_routes.specs.Routing.{found_in}
use Rattle.udt_routes.specs.Tables.{empty_table, what_of, can_enrol, listener_without, with_enrolled, with_meeting}
use Rattle.udt_routes.proofs.KeyLemmas.{is_equal}

-- ---- pairs by number

-- what holds of each pair, and of a new one, holds of each once that one was put in
all_put : {V : Type 0} (P : ℕ × V → Type 0) (es : List (ℕ × V)) (k : ℕ) (v : V) → AllByRecursion P es → P (k, v) → AllByRecursion P (insert_entry nat_cmp es k v)
all_put P [] k v all new = (new, tt)
all_put P (e ∷ es) k v all new = by (all_put P es k v all.1 new) (nat_cmp k e.0) refl
  where
    by : AllByRecursion P (insert_entry nat_cmp es k v) → (c : Ordering) → nat_cmp k e.0 ≡ c → AllByRecursion P (match_ordering c ((k, v) ∷ e ∷ es) ((e.0, v) ∷ es) (e ∷ insert_entry nat_cmp es k v))
    by rest Less is = (new, all)
    by rest Equal is = (subst (λ n. P (n, v)) (exact_unsigned k e.0 is) new, all.1)
    by rest Greater is = (all.0, rest)

-- and of each that is left
all_out : {V : Type 0} (P : ℕ × V → Type 0) (test : ℕ → Bool) (es : List (ℕ × V)) → AllByRecursion P es → AllByRecursion P (remove_entry test es)
all_out P test [] all = all
all_out P test (e ∷ es) all = by (all_out P test es all.1) (test e.0)
  where
    by : AllByRecursion P (remove_entry test es) → (b : Bool) → AllByRecursion P (cond b es (e ∷ remove_entry test es))
    by rest true = all.1
    by rest false = (all.0, rest)

-- what holds of each pair by its key holds of a key that has a value
all_at : {V : Type 0} (P : ℕ → Type 0) (es : List (ℕ × V)) (k : ℕ) → AllByRecursion (λ e. P e.0) es → is_some (lookup (is_at (nat_cmp k)) es) ≡ true → P k
all_at P [] k all there = absurd (true≢false (sym there))
all_at P (e ∷ es) k all there = by (all_at P es k all.1) (is_eq (nat_cmp k e.0)) refl there
  where
    by : (is_some (lookup (is_at (nat_cmp k)) es) ≡ true → P k) → (b : Bool) → is_eq (nat_cmp k e.0) ≡ b → is_some (cond b (Some e.1) (lookup (is_at (nat_cmp k)) es)) ≡ true → P k
    by rest true is found = subst P (sym (exact_unsigned k e.0 (is_equal (nat_cmp k e.0) is))) all.0
    by rest false is found = rest found

-- ---- where what a table has comes from

-- each ID, the listener and each meeting were put there by one of these changes
record ComesFrom (t : IdTable) (changes : List Change) : Type 0 where
  ids : AllByRecursion (λ e. Contains changes (Enrol e.0)) t.enrolled
  listener : IfSome t.listener (λ id. Contains changes (SetListener id))
  meetings : AllByRecursion (λ m. Contains changes (SetMeeting m.1 m.0)) t.meetings

-- more changes put no less there
all_more : {X : Type 0} (f : X → Change) (changes more : List Change) (es : List X) → AllByRecursion (λ e. Contains changes (f e)) es → AllByRecursion (λ e. Contains (changes ++ more) (f e)) es
all_more f changes more [] all = all
all_more f changes more (e ∷ es) all = (Contains-append_left changes more (f e) all.0, all_more f changes more es all.1)

some_more : (f : ℕ → Change) (changes more : List Change) (o : Option ℕ) → IfSome o (λ id. Contains changes (f id)) → IfSome o (λ id. Contains (changes ++ more) (f id))
some_more f changes more None is = is
some_more f changes more (Some id) is = Contains-append_left changes more (f id) is

stays : (t : IdTable) (changes more : List Change) → ComesFrom t changes → ComesFrom t (changes ++ more)
stays t changes more from = record {
  ids = all_more (λ e. Enrol e.0) changes more t.enrolled from.ids;
  listener = some_more SetListener changes more t.listener from.listener;
  meetings = all_more (λ m. SetMeeting m.1 m.0) changes more t.meetings from.meetings;
}

-- whichever of two tables it is
either_from : (b : Bool) (x y : IdTable) (changes : List Change) → ComesFrom x changes → ComesFrom y changes → ComesFrom (cond b x y) changes
either_from true x y changes one other = one
either_from false x y changes one other = other

-- a listener that is left was the listener
without_from : (P : ℕ → Type 0) (o : Option ℕ) (id : ℕ) → IfSome o P → IfSome (listener_without o id) P
without_from P None id is = is
without_from P (Some listener) id is = by (nat_eq listener id)
  where
    by : (b : Bool) → IfSome (cond b None (Some listener)) P
    by true = tt
    by false = is

-- one change more
step : (t : IdTable) (changes : List Change) (change : Change) → ComesFrom t (changes ++ change ∷ []) → ComesFrom (after t change) (changes ++ change ∷ [])
step t changes (Enrol id) from =
    either_from (can_enrol t id) (with_enrolled t id tt) t (changes ++ Enrol id ∷ [])
    (record {
      ids = all_put (λ e. Contains (changes ++ Enrol id ∷ []) (Enrol e.0)) t.enrolled id tt from.ids (Contains-push changes (Enrol id));
      listener = from.listener;
      meetings = from.meetings;
    })
    from
step t changes (Leave id) from = record {
  ids = all_out (λ e. Contains (changes ++ Leave id ∷ []) (Enrol e.0)) (is_at (nat_cmp id)) t.enrolled from.ids;
  listener = without_from (λ l. Contains (changes ++ Leave id ∷ []) (SetListener l)) t.listener id from.listener;
  meetings = all_out (λ m. Contains (changes ++ Leave id ∷ []) (SetMeeting m.1 m.0)) (is_at (nat_cmp id)) t.meetings from.meetings;
}
step t changes (SetListener id) from =
    either_from (is_some t.listener) t (record t { listener = Some id }) (changes ++ SetListener id ∷ [])
    from
    (record { ids = from.ids; listener = Contains-push changes (SetListener id); meetings = from.meetings })
step t changes (ClearListener id) from = record {
  ids = from.ids;
  listener = without_from (λ l. Contains (changes ++ ClearListener id ∷ []) (SetListener l)) t.listener id from.listener;
  meetings = from.meetings;
}
step t changes (SetMeeting to id) from =
    either_from (can_meet t.live t.meetings to id) (with_meeting t to id) t (changes ++ SetMeeting to id ∷ [])
    (record {
      ids = from.ids;
      listener = from.listener;
      meetings = all_put (λ m. Contains (changes ++ SetMeeting to id ∷ []) (SetMeeting m.1 m.0)) t.meetings id to from.meetings (Contains-push changes (SetMeeting to id));
    })
    from
step t changes (ClearMeeting to id) from =
    either_from (is_meeter (meeter_of t.meetings to) id) (record t { meetings = remove_entry (is_at (nat_cmp id)) t.meetings }) t (changes ++ ClearMeeting to id ∷ [])
    (record {
      ids = from.ids;
      listener = from.listener;
      meetings = all_out (λ m. Contains (changes ++ ClearMeeting to id ∷ []) (SetMeeting m.1 m.0)) (is_at (nat_cmp id)) t.meetings from.meetings;
    })
    from

-- and all of them
all_from : (t : IdTable) (before changes : List Change) → ComesFrom t before → ComesFrom (fold after t changes) (before ++ changes)
all_from t before [] from = subst (ComesFrom t) (sym (append-nil before)) from
all_from t before (change ∷ changes) from =
    subst (ComesFrom (fold after (after t change) changes)) (append_assoc before (change ∷ []) changes)
    (all_from (after t change) (before ++ change ∷ []) changes (step t before change (stays t before (change ∷ []) from)))

-- ---- what is found

-- the socket that meets an address was put there to meet it
meeter_from : (changes : List Change) (met : List (ℕ × Addr)) (a : Addr) (id : ℕ) → AllByRecursion (λ m. Contains changes (SetMeeting m.1 m.0)) met → meeter_of met a ≡ Some id → Contains changes (SetMeeting a id)
meeter_from changes [] a id all found = absurd (cc)
meeter_from changes (m ∷ met) a id all found = by (meeter_from changes met a id all.1) (same_addr a m.1) refl found
  where
    by : (meeter_of met a ≡ Some id → Contains changes (SetMeeting a id)) → (b : Bool) → same_addr a m.1 ≡ b → cond b (Some m.0) (meeter_of met a) ≡ Some id → Contains changes (SetMeeting a id)
    by rest true is here =
        let whose : m.0 ≡ id = cc in
        let whom : m.1 ≡ a = sym (same_addr-is a m.1 is) in
        subst (λ i. Contains changes (SetMeeting a i)) whose (subst (λ x. Contains changes (SetMeeting x m.0)) whom all.0)
    by rest false is there = rest there

-- what is found, a change put there
found_from : (t : IdTable) (changes : List Change) (want : Want) (id : ℕ) → ComesFrom t changes → found_in t want ≡ Some id → Contains changes (change_for want id)
found_from t changes (Id wanted) id from found = by (is_some (what_of t wanted)) refl found
  where
    by : (b : Bool) → is_some (what_of t wanted) ≡ b → cond b (Some wanted) None ≡ Some id → Contains changes (Enrol id)
    by true is here =
        let which : wanted ≡ id = cc in
        subst (λ i. Contains changes (Enrol i)) which (all_at (λ i. Contains changes (Enrol i)) t.enrolled wanted from.ids is)
    by false is here = absurd (cc)
found_from t changes Listener id from found = subst (λ o. IfSome o (λ l. Contains changes (SetListener l))) found from.listener
found_from t changes (Meeting a) id from found = meeter_from changes t.meetings a id from.meetings found

found_was_made : (live : ℕ) (changes : List Change) (want : Want) (found : Option ℕ) → found ≡ found_in (table_after live changes) want → IfSome found (λ id. Contains changes (change_for want id))
found_was_made live changes want None is = tt
found_was_made live changes want (Some id) is =
    found_from (table_after live changes) changes want id (all_from (empty_table 0 live) [] changes (record { ids = tt; listener = tt; meetings = tt })) (sym is)

-- and so it is for a reader that knows how many sockets may be enrolled
pub reads_made : (v w : View) (want : Want) (found : Option ℕ) → is_some v.live ≡ true → ReadsFound v want found w → IfSome found (λ id. Contains w.seen (change_for want id))
reads_made v w want found known reads = by v.live known reads.value
  where
    by : (o : Option ℕ) → is_some o ≡ true → IfSome o (λ live. found ≡ found_in (table_after live w.seen) want) → IfSome found (λ id. Contains w.seen (change_for want id))
    by None some value = absurd (true≢false (sym some))
    by (Some live) some value = found_was_made live w.seen want found value
