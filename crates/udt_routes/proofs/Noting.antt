-- A change that the writer makes and notes.
use Rattle.std.proofs.Common.{◌≡◌, ◌+◌, ◌≤◌, nat_lt, Bool, true, false, not, cond, List, [], ◌∷◌, ◌++◌, length, Some, is_some, true≢false, refl, sym, ap, ◌∙◌, append_assoc, arith}
use Rattle.std.proofs.lemmas.Bool.{and_parts, ltb-true}
use Rattle.std.proofs.lemmas.List.{append-nil}
use Rattle.std.specs.declared.cmp.Ordering.{Ordering}
use Rattle.std.specs.declared.cmp.Ordering.TheVariants.{Less, Equal, Greater}
use Rattle.std.specs.Ordering.{nat_cmp, match_ordering}
use Rattle.std.specs.BTreeMap.{is_at, insert_entry}
use Rattle.std.specs.Map.{lookup, remove_entry}
use Rattle.udt_routes.specs.declared.changes.Change.{Change}
use Rattle.udt_routes.specs.declared.changes.Change.TheVariants.{Enrol, Leave, SetListener, ClearListener, SetMeeting, ClearMeeting}
use Rattle.udt_routes.specs.Changes.{IdTable, after, table_after}
use Rattle.udt_routes.specs.Meets.{meeter_of, is_meeter, can_meet}
use Rattle.udt_routes.specs.Publications.{Publication}
use Rattle.udt_routes.specs.Tables.{what_of, can_enrol, with_enrolled, with_meeting}
use Rattle.udt_routes.proofs.KeepingChanges.{after_live, table_more}

-- a pair that is taken out leaves one fewer
pub length_taken : {K X : Type 0} (test : K → Bool) (es : List (K × X)) → is_some (lookup test es) ≡ true → length (remove_entry test es) + 1 ≡ length es
length_taken test [] there = absurd (true≢false (sym there))
length_taken test (e ∷ es) there = by (length_taken test es) (test e.0) there
  where
    by : (is_some (lookup test es) ≡ true → length (remove_entry test es) + 1 ≡ length es) → (b : Bool) → is_some (cond b (Some e.1) (lookup test es)) ≡ true → length (cond b es (e ∷ remove_entry test es)) + 1 ≡ length (e ∷ es)
    by fewer true is = omega arith
    by fewer false is = omega (arith, fewer is)

-- one that isn't there leaves no more
length_out : {K X : Type 0} (test : K → Bool) (es : List (K × X)) → length (remove_entry test es) ≤ length es
length_out test [] = omega arith
length_out test (e ∷ es) = by (length_out test es) (test e.0)
  where
    by : length (remove_entry test es) ≤ length es → (b : Bool) → length (cond b es (e ∷ remove_entry test es)) ≤ length (e ∷ es)
    by fewer true = omega arith
    by fewer false = omega (arith, fewer)

-- and one that is put in makes at most one more
length_in : {K X : Type 0} (cmp : K → K → Ordering) (es : List (K × X)) (k : K) (v : X) → length (insert_entry cmp es k v) ≤ length es + 1
length_in cmp [] k v = omega arith
length_in cmp (e ∷ es) k v = by (length_in cmp es k v) (cmp k e.0)
  where
    by : length (insert_entry cmp es k v) ≤ length es + 1 → (c : Ordering) → length (match_ordering c ((k, v) ∷ e ∷ es) ((e.0, v) ∷ es) (e ∷ insert_entry cmp es k v)) ≤ length (e ∷ es) + 1
    by more Less = omega arith
    by more Equal = omega arith
    by more Greater = omega (arith, more)

-- no more are enrolled than may be
abbrev pub IsWithin : IdTable → Type 0
IsWithin t = length t.enrolled ≤ t.live

within_either : (b : Bool) (x y : IdTable) → IsWithin x → IsWithin y → IsWithin (cond b x y)
within_either true x y one other = one
within_either false x y one other = other

-- and so it stays after a change
pub after_within : (t : IdTable) (change : Change) → IsWithin t → IsWithin (after t change)
after_within t (Enrol id) within = by (can_enrol t id) refl
  where
    by : (b : Bool) → can_enrol t id ≡ b → IsWithin (cond b (with_enrolled t id tt) t)
    by true is =
        let room = ltb-true (length t.enrolled) t.live (and_parts (not (is_some (what_of t id))) (nat_lt (length t.enrolled) t.live) is).1 in
        let one_more = length_in nat_cmp t.enrolled id tt in
        omega (arith, room, one_more)
    by false is = within
after_within t (Leave id) within = let fewer = length_out (is_at (nat_cmp id)) t.enrolled in omega (arith, fewer, within)
after_within t (SetListener id) within = within_either (is_some t.listener) t (record t { listener = Some id }) within within
after_within t (ClearListener id) within = within
after_within t (SetMeeting to id) within = within_either (can_meet t.live t.meetings to id) (with_meeting t to id) t within within
after_within t (ClearMeeting to id) within = within_either (is_meeter (meeter_of t.meetings to) id) (record t { meetings = remove_entry (is_at (nat_cmp id)) t.meetings }) t within within

-- the table of all changes goes on by the one that was made and noted
pub noted_more : (own next : IdTable) (published pending noted more : List Change) (change : Change) → own ≡ table_after own.live (published ++ (pending ++ noted)) → next ≡ after own change → more ≡ noted ++ change ∷ [] → next ≡ table_after next.live (published ++ (pending ++ more))
noted_more own next published pending noted more change is made noting =
    let live : next.live ≡ own.live = ap (λ (t : IdTable). t.live) made ∙ after_live own change in
    made
    ∙ ap (λ t. after t change) is
    ∙ table_more own.live (published ++ (pending ++ noted)) (change ∷ [])
    ∙ ap (table_after own.live) (append_assoc published (pending ++ noted) (change ∷ []) ∙ ap (λ l. published ++ l) (append_assoc pending noted (change ∷ []) ∙ ap (λ l. pending ++ l) (sym noting)))
    ∙ ap (λ n. table_after n (published ++ (pending ++ more))) (sym live)

-- and so it does by a change that was published after all that waited: first those that were noted went to the pending
-- ones, then the change did, and then all were published
module _ (own next : IdTable) (p all one out : Publication) (noted left : List Change) (change : Change)
    (is : own ≡ table_after own.live (p.published ++ (p.pending ++ noted))) (made : next ≡ after own change)
    (none : left ≡ []) (same : all.pending ++ left ≡ p.pending ++ noted) (appended : all ≡ record p { pending = all.pending })
    (then_one : one ≡ record all { pending = all.pending ++ change ∷ [] })
    (then_out : out ≡ record one { published = one.published ++ one.pending; pending = [] }) where
  pending_all : all.pending ≡ p.pending ++ noted
  pending_all = sym (append-nil all.pending) ∙ ap (λ l. all.pending ++ l) (sym none) ∙ same

  before_one : one.published ≡ p.published
  before_one = ap (λ (q : Publication). q.published) then_one ∙ ap (λ (q : Publication). q.published) appended

  pending_one : one.pending ≡ (p.pending ++ noted) ++ change ∷ []
  pending_one = ap (λ (q : Publication). q.pending) then_one ∙ ap (λ l. l ++ change ∷ []) pending_all

  -- what is published now
  pub published_all : out.published ≡ p.published ++ ((p.pending ++ noted) ++ change ∷ [])
  published_all = ap (λ (q : Publication). q.published) then_out ∙ (λ i. before_one i ++ pending_one i)

  nothing_waits : out.published ++ (out.pending ++ left) ≡ out.published
  nothing_waits = (λ i. out.published ++ ((then_out i).pending ++ none i)) ∙ append-nil out.published

  -- leaves the number of places
  pub live_out : p.live ≡ own.live → out.live ≡ next.live
  live_out live =
      ap (λ (q : Publication). q.live) then_out ∙ ap (λ (q : Publication). q.live) then_one ∙ ap (λ (q : Publication). q.live) appended
      ∙ live ∙ sym (ap (λ (t : IdTable). t.live) made ∙ after_live own change)

  -- and makes the table
  pub table_out : next ≡ table_after next.live (out.published ++ (out.pending ++ left))
  table_out =
      made
      ∙ ap (λ t. after t change) is
      ∙ table_more own.live (p.published ++ (p.pending ++ noted)) (change ∷ [])
      ∙ ap (table_after own.live) (append_assoc p.published (p.pending ++ noted) (change ∷ []) ∙ sym (nothing_waits ∙ published_all))
      ∙ ap (λ n. table_after n (out.published ++ (out.pending ++ left))) (sym (ap (λ (t : IdTable). t.live) made ∙ after_live own change))
