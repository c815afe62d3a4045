-- Readings and publishes keep the rule of the changes that are published.
use Rattle.std.proofs.Common.{◌≡◌, ◌≢◌, ℕ, Bool, true, false, cond, List, [], ◌∷◌, ◌++◌, Some, IfSome, fold, set, refl, sym, ap, ◌∙◌, subst, ⊎_elim, append_assoc, true≢false}
use Rattle.std.proofs.lemmas.List.{append-nil}
use Rattle.std.proofs.lemmas.List.Sums.{fold-append}
use mathlib.Core.Option.{some}
use lib.ListN.{get_elem?}
use Rattle.left_right.specs.Register.{Admits, TurnsAt, Forks, Merges}
use Rattle.atomic_table.proofs.Lists.{at_set, at_snoc}
use Rattle.udt_routes.specs.declared.changes.Change.{Change}
use Rattle.udt_routes.specs.declared.changes.Change.TheVariants.{Enrol, Leave, SetListener, ClearListener, SetMeeting, ClearMeeting}
use Rattle.udt_routes.specs.declared.table_copy.Operation.{Operation}
use Rattle.udt_routes.specs.declared.table_copy.Operation.TheVariants.{Open, Make}
use Rattle.udt_routes.specs.declared.published.View.{View}
use Rattle.udt_routes.specs.Changes.{IdTable, after, table_after}
use Rattle.udt_routes.specs.Copies.{CopyState, applied, changes_in}
use Rattle.udt_routes.specs.Meets.{meeter_of, is_meeter, can_meet}
use Rattle.udt_routes.specs.Publishing.{newcomer, Knows, Keeps, Reads, Publishes, IsPublishing, CanPublish, told, informed}
use Rattle.udt_routes.specs.Tables.{empty_table, can_enrol, with_enrolled, with_meeting}
use Rattle.std.specs.Option.{is_some}
use Rattle.std.specs.Map.{remove_entry}
use Rattle.std.specs.BTreeMap.{is_at}
use Rattle.std.specs.Ordering.{nat_cmp}

-- ---- what changes leave

-- the table has this many places, whichever of two it is
live_of_either : (b : Bool) (x y : IdTable) (n : ℕ) → x.live ≡ n → y.live ≡ n → (cond b x y).live ≡ n
live_of_either true x y n one other = one
live_of_either false x y n one other = other

-- a change leaves the number of places
pub after_live : (t : IdTable) (change : Change) → (after t change).live ≡ t.live
after_live t (Enrol id) = live_of_either (can_enrol t id) (with_enrolled t id tt) t t.live refl refl
after_live t (Leave id) = refl
after_live t (SetListener id) = live_of_either (is_some t.listener) t (record t { listener = Some id }) t.live refl refl
after_live t (ClearListener id) = refl
after_live t (SetMeeting to id) = live_of_either (can_meet t.live t.meetings to id) (with_meeting t to id) t t.live refl refl
after_live t (ClearMeeting to id) = live_of_either (is_meeter (meeter_of t.meetings to) id) (record t { meetings = remove_entry (is_at (nat_cmp id)) t.meetings }) t t.live refl refl

-- and so do many
pub fold_live : (t : IdTable) (changes : List Change) → (fold after t changes).live ≡ t.live
fold_live t [] = refl
fold_live t (change ∷ changes) = fold_live (after t change) changes ∙ after_live t change

-- operations make the changes that are among them
pub applied_table : (copy : CopyState) (operations : List Operation) → (fold applied copy operations).table ≡ fold after copy.table (changes_in operations)
applied_table copy [] = refl
applied_table copy (Open ∷ operations) = applied_table (applied copy Open) operations
applied_table copy (Make change ∷ operations) = applied_table (applied copy (Make change)) operations

-- and what is opened stays open
pub applied_opened : (copy : CopyState) (operations : List Operation) → copy.opened ≡ true → (fold applied copy operations).opened ≡ true
applied_opened copy [] is = is
applied_opened copy (Open ∷ operations) is = applied_opened (applied copy Open) operations refl
applied_opened copy (Make change ∷ operations) is = applied_opened (applied copy (Make change)) operations is

-- one more change among operations
pub changes_more : (operations : List Operation) (change : Change) → changes_in (operations ++ Make change ∷ []) ≡ changes_in operations ++ change ∷ []
changes_more [] change = refl
changes_more (Open ∷ operations) change = changes_more operations change
changes_more (Make first ∷ operations) change = ap (λ l. first ∷ l) (changes_more operations change)

-- the table of more changes
pub table_more : (live : ℕ) (changes more : List Change) → fold after (table_after live changes) more ≡ table_after live (changes ++ more)
table_more live changes more = sym (fold-append after (empty_table 0 live) changes more)

-- ---- the rule

-- what knows nothing fits
knows_nothing : (opened : Bool) (live : ℕ) (changes : List Change) (writer seat : ℕ) → Knows opened live changes writer seat newcomer
knows_nothing opened live changes writer seat =
    record { seen = (changes, refl); live = tt; writes = λ e. absurd (true≢false (sym e)) }

-- the first end
pub keeps_first : (copy : CopyState) (live : ℕ) → copy ≡ record { opened = false; table = empty_table 0 live } → Keeps copy (newcomer ∷ [])
keeps_first copy live is = record {
  changes = [];
  writer = 0;
  table = rw is refl;
  closed = λ e. refl;
  each = λ seat v at. subst (Knows copy.opened copy.table.live [] 0 seat) (only seat v at) (knows_nothing copy.opened copy.table.live [] 0 seat);
}
  where
    only : (seat : ℕ) (v : View) → get_elem? (newcomer ∷ []) seat ≡ some v → newcomer ≡ v
    only seat v at = ⊎_elim (λ (none : get_elem? {A = View} [] seat ≡ some v). absurd (cc)) (λ (same : newcomer ≡ v). same) (at_snoc [] newcomer v seat at)

-- a new end
pub admits : Admits Keeps newcomer
admits copy views kept = record {
  changes = kept.changes;
  writer = kept.writer;
  table = kept.table;
  closed = kept.closed;
  each = λ seat v at. ⊎_elim (kept.each seat v)
      (λ (same : newcomer ≡ v). subst (Knows copy.opened copy.table.live kept.changes kept.writer seat) same (knows_nothing copy.opened copy.table.live kept.changes kept.writer seat))
      (at_snoc views newcomer v seat at);
}

-- a reading
pub reads : (seat : ℕ) (v : View) (copy : CopyState) → TurnsAt Keeps seat v copy copy Reads
reads seat v copy views kept at =
    let known = kept.each seat v at in
    let w : View = record v { seen = kept.changes } in
    let knows : Knows copy.opened copy.table.live kept.changes kept.writer seat w =
    record { seen = ([], sym (append-nil kept.changes)); live = known.live; writes = λ e. ((known.writes e).0, (known.writes e).1, refl) } in (
      w,
      record {
        changes = kept.changes;
        writer = kept.writer;
        table = kept.table;
        closed = kept.closed;
        each = λ j u e. ⊎_elim
            (λ (t : (j ≡ seat) × (w ≡ u)). subst (λ (z : View). Knows copy.opened copy.table.live kept.changes kept.writer j z) t.1 (subst (λ (i : ℕ). Knows copy.opened copy.table.live kept.changes kept.writer i w) (sym t.0) knows))
            (λ (t : (j ≢ seat) × (get_elem? views j ≡ some u)). kept.each j u t.1)
            (at_set views seat j w u e);
      },
      record { later = known.seen; table = kept.table; live = known.live; same = refl },
    )

-- the view that may publish has seen all that is published
saw_all : (copy : CopyState) (v : View) (changes : List Change) (writer seat : ℕ) → (copy.opened ≡ false → changes ≡ []) → Knows copy.opened copy.table.live changes writer seat v → CanPublish copy v → v.seen ≡ changes
saw_all copy v changes writer seat closed known can =
    ⊎_elim
    (λ (t : (copy.opened ≡ false) × (v ≡ newcomer)). ap (λ (z : View). z.seen) t.1 ∙ sym (closed t.0))
    (λ (writes : v.writes ≡ true). (known.writes writes).2)
    can

-- and no other view may
alone : (copy : CopyState) (v u : View) (changes : List Change) (writer seat j : ℕ) → Knows copy.opened copy.table.live changes writer seat v → CanPublish copy v → Knows copy.opened copy.table.live changes writer j u → j ≢ seat → u.writes ≡ true → ⊥
alone copy v u changes writer seat j known can other apart writes =
    ⊎_elim
    (λ (t : (copy.opened ≡ false) × (v ≡ newcomer)). true≢false (sym (other.writes writes).0 ∙ t.0))
    (λ (mine : v.writes ≡ true). apart ((other.writes writes).1 ∙ sym (known.writes mine).1))
    can

-- a publish
pub publishes : (seat : ℕ) (v : View) (copy : CopyState) (operations : List Operation) (changes : List Change) (next : CopyState) → changes ≡ changes_in operations → CanPublish copy v → (fold applied copy operations).opened ≡ true → next ≡ fold applied copy operations → TurnsAt Keeps seat v copy next (Publishes changes)
publishes seat v copy operations changes next named can opens is views kept at =
    let known = kept.each seat v at in
    let all : v.seen ≡ kept.changes = saw_all copy v kept.changes kept.writer seat kept.closed known can in
    let more : next.table ≡ fold after copy.table changes = ap (λ (c : CopyState). c.table) is ∙ applied_table copy operations ∙ ap (λ l. fold after copy.table l) (sym named) in
    let live : next.table.live ≡ copy.table.live = ap (λ (t : IdTable). t.live) more ∙ fold_live copy.table changes in
    let made : next.table ≡ table_after next.table.live (v.seen ++ changes) =
    more ∙ ap (λ t. fold after t changes) (kept.table ∙ ap (λ l. table_after copy.table.live l) (sym all)) ∙ table_more copy.table.live v.seen changes ∙ ap (λ n. table_after n (v.seen ++ changes)) (sym live) in
    let opened : next.opened ≡ true = ap (λ (c : CopyState). c.opened) is ∙ opens in
    let w : View = record { live = Some next.table.live; seen = v.seen ++ changes; writes = true } in
    let here : (j : ℕ) → j ≡ seat → Knows next.opened next.table.live (v.seen ++ changes) seat j w = λ j same. record { seen = ([], sym (append-nil (v.seen ++ changes))); live = refl; writes = λ e. (opened, same, refl) } in
    let there : (j : ℕ) (u : View) → j ≢ seat → get_elem? views j ≡ some u → Knows next.opened next.table.live (v.seen ++ changes) seat j u = λ j u apart at_j.
    let other = kept.each j u at_j in
    record {
      seen = (other.seen.0 ++ changes, ap (λ l. l ++ changes) (all ∙ other.seen.1) ∙ append_assoc u.seen other.seen.0 changes);
      live = subst (λ n. IfSome u.live (λ m. m ≡ n)) (sym live) other.live;
      writes = λ e. absurd (alone copy v u kept.changes kept.writer seat j known can other apart e);
    } in (
      w,
      record {
        changes = v.seen ++ changes;
        writer = seat;
        table = made;
        closed = λ e. absurd (true≢false (sym opened ∙ e));
        each = λ j u e. ⊎_elim
            (λ (t : (j ≡ seat) × (w ≡ u)). subst (λ (z : View). Knows next.opened next.table.live (v.seen ++ changes) seat j z) t.1 (here j t.0))
            (λ (t : (j ≢ seat) × (get_elem? views j ≡ some u)). there j u t.0 t.1)
            (at_set views seat j w u e);
      },
      refl,
    )

-- what one tells fits
knows_told : (opened : Bool) (live : ℕ) (changes : List Change) (writer seat j : ℕ) (v : View) → Knows opened live changes writer seat v → Knows opened live changes writer j (told v)
knows_told opened live changes writer seat j v known =
    record { seen = known.seen; live = known.live; writes = λ e. absurd (true≢false (sym e)) }

-- the writer tells
pub forks : (seat : ℕ) (v : View) → Forks Keeps seat v v (told v)
forks seat v copy views kept at = record {
  changes = kept.changes;
  writer = kept.writer;
  table = kept.table;
  closed = kept.closed;
  each = λ j u e. ⊎_elim (stays j u)
      (λ (same : told v ≡ u). subst (Knows copy.opened copy.table.live kept.changes kept.writer j) same (knows_told copy.opened copy.table.live kept.changes kept.writer seat j v (kept.each seat v at)))
      (at_snoc (set views seat v) (told v) u j e);
}
  where
    stays : (j : ℕ) (u : View) → get_elem? (set views seat v) j ≡ some u → Knows copy.opened copy.table.live kept.changes kept.writer j u
    stays j u e = ⊎_elim
        (λ (t : (j ≡ seat) × (v ≡ u)). subst (λ (z : View). Knows copy.opened copy.table.live kept.changes kept.writer j z) t.1 (subst (λ (i : ℕ). Knows copy.opened copy.table.live kept.changes kept.writer i v) (sym t.0) (kept.each seat v at)))
        (λ (t : (j ≢ seat) × (get_elem? views j ≡ some u)). kept.each j u t.1)
        (at_set views seat j v u e)

-- and a reader is told
pub merges : (seat : ℕ) (v : View) (other : ℕ) (w : View) → Merges Keeps seat v other w (informed v w) newcomer
merges seat v other w copy views kept at apart there = record {
  changes = kept.changes;
  writer = kept.writer;
  table = kept.table;
  closed = kept.closed;
  each = λ j u e. ⊎_elim
      (λ (t : (j ≡ other) × (newcomer ≡ u)). subst (Knows copy.opened copy.table.live kept.changes kept.writer j) t.1 (knows_nothing copy.opened copy.table.live kept.changes kept.writer j))
      (λ (t : (j ≢ other) × (get_elem? (set views seat (told w)) j ≡ some u)). learns j u t.1)
      (at_set (set views seat (told w)) other j newcomer u e);
}
  where
    teller : Knows copy.opened copy.table.live kept.changes kept.writer other w
    teller = ⊎_elim (λ (t : (other ≡ seat) × (told w ≡ w)). absurd (apart t.0)) (λ (t : (other ≢ seat) × (get_elem? views other ≡ some w)). kept.each other w t.1) (at_set views seat other (told w) w there)

    learns : (j : ℕ) (u : View) → get_elem? (set views seat (told w)) j ≡ some u → Knows copy.opened copy.table.live kept.changes kept.writer j u
    learns j u e = ⊎_elim
        (λ (t : (j ≡ seat) × (told w ≡ u)). subst (Knows copy.opened copy.table.live kept.changes kept.writer j) t.1 (knows_told copy.opened copy.table.live kept.changes kept.writer other j w teller))
        (λ (t : (j ≢ seat) × (get_elem? views j ≡ some u)). kept.each j u t.1)
        (at_set views seat j (told w) u e)

-- ---- one end that publishes

-- the first publish opens the copies
pub opens_first : (first copy : CopyState) (v w : View) (live : ℕ) (operations : List Operation) → first ≡ record { opened = false; table = empty_table 0 live } → operations ≡ Open ∷ [] → copy ≡ fold applied first operations → v ≡ newcomer → Publishes [] v first copy w → (copy ≡ record { opened = true; table = empty_table 0 live }) × (w ≡ record { live = Some live; seen = []; writes = true })
opens_first first copy v w live operations is all made new seen =
    let now : copy ≡ record { opened = true; table = empty_table 0 live } = made ∙ ap (λ l. fold applied first l) all ∙ ap (λ c. applied c Open) is in (
      now,
      seen ∙ (λ i. record { live = Some (now i).table.live; seen = (new i).seen ++ []; writes = true }),
    )

-- each later one goes on from what was published
pub goes_on : (copy next : CopyState) (v w : View) (operations : List Operation) → IsPublishing copy v → next ≡ fold applied copy operations → Publishes (changes_in operations) v copy next w → IsPublishing next w
goes_on copy next v w operations is made seen =
    let more : next.table ≡ fold after copy.table (changes_in operations) = ap (λ (c : CopyState). c.table) made ∙ applied_table copy operations in
    let live : next.table.live ≡ copy.table.live = ap (λ (t : IdTable). t.live) more ∙ fold_live copy.table (changes_in operations) in
    let table : next.table ≡ table_after next.table.live (v.seen ++ changes_in operations) =
    more ∙ ap (λ t. fold after t (changes_in operations)) is.table ∙ table_more copy.table.live v.seen (changes_in operations) ∙ ap (λ n. table_after n (v.seen ++ changes_in operations)) (sym live) in
    record {
      opened = ap (λ (c : CopyState). c.opened) made ∙ applied_opened copy operations is.opened;
      writes = ap (λ (z : View). z.writes) seen;
      live = ap (λ (z : View). z.live) seen;
      table = table ∙ ap (λ (z : View). table_after next.table.live z.seen) (sym seen);
    }

-- and leaves the number of places
pub live_on : (copy next : CopyState) (operations : List Operation) → next ≡ fold applied copy operations → next.table.live ≡ copy.table.live
live_on copy next operations made =
    ap (λ (c : CopyState). c.table.live) made ∙ ap (λ (t : IdTable). t.live) (applied_table copy operations) ∙ fold_live copy.table (changes_in operations)
