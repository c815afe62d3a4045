-- What readers and the writer know of the changes that are published.
use Rattle.std.specs.Prelude.{◌≡◌, ◌⊎◌, ℕ, Bool, true, false, List, []}
use Rattle.std.specs.Prelude.{◌++◌, Option, Some, None, IfSome, unwrap_or}
use mathlib.Core.Option.{some}
use lib.ListN.{get_elem?}
use Rattle.udt_routes.specs.declared.changes.Change.{Change}
use Rattle.udt_routes.specs.declared.published.View.{View}
use Rattle.udt_routes.specs.Changes.{table_after}
use Rattle.udt_routes.specs.Copies.{CopyState}
use Rattle.udt_routes.specs.declared.routing.Want.{Want}
use Rattle.udt_routes.specs.Publications.{Seen}
use Rattle.udt_routes.specs.Routing.{found_in}

-- the changes begin with those that were seen
abbrev pub StartsWith : List Change → List Change → Type 0
StartsWith changes seen = (rest : List Change) × (changes ≡ seen ++ rest)

-- a view that knows nothing yet
abbrev pub newcomer : View
newcomer = record { live = None; seen = []; writes = false }

-- what one view knows is so, where a copy has this many places, these are all changes that were published, and the
-- writer has this seat
pub record Knows (opened : Bool) (places : ℕ) (changes : List Change) (writer seat : ℕ) (v : View) : Type 0 where
  pub seen : StartsWith changes v.seen
  pub live : IfSome v.live (λ n. n ≡ places)
  -- the writer alone has published, and knows all of it
  pub writes : v.writes ≡ true → (opened ≡ true) × (seat ≡ writer) × (v.seen ≡ changes)

-- the rule: the published copy is what the published changes make, which begin with what each has seen. Nothing is
-- published before the copy is opened
pub record Keeps (copy : CopyState) (views : List View) : Type 0 where
  pub changes : List Change
  pub writer : ℕ
  pub table : copy.table ≡ table_after copy.table.live changes
  pub closed : copy.opened ≡ false → changes ≡ []
  pub each :
      (seat : ℕ) (v : View) → get_elem? views seat ≡ some v
      → Knows copy.opened copy.table.live changes writer seat v

-- a reading: the changes that are seen afterwards begin with those that were seen before, and have made the copy
pub record Reads (v : View) (before copy : CopyState) (w : View) : Type 0 where
  pub later : StartsWith w.seen v.seen
  pub table : copy.table ≡ table_after copy.table.live w.seen
  pub live : IfSome v.live (λ n. n ≡ copy.table.live)
  pub same : w.live ≡ v.live

-- a publish: all that was seen before, and then these changes, are seen afterwards
abbrev pub Publishes : List Change → View → CopyState → CopyState → View → Type 0
Publishes changes v before copy w = w ≡ record { live = Some copy.table.live; seen = v.seen ++ changes; writes = true }

-- the copy is opened, and what the view has seen has made it
pub record IsPublishing (copy : CopyState) (v : View) : Type 0 where
  pub opened : copy.opened ≡ true
  pub writes : v.writes ≡ true
  pub live : v.live ≡ Some copy.table.live
  pub table : copy.table ≡ table_after copy.table.live v.seen

-- a view that may publish: the first one, before the copy is opened, or the one that has published
abbrev pub CanPublish : CopyState → View → Type 0
CanPublish copy v = ((copy.opened ≡ false) × (v ≡ newcomer)) ⊎ (v.writes ≡ true)

-- what a reader stands for with this view
abbrev pub seen_by : View → Seen
seen_by v = record { live = unwrap_or v.live 0; seen = v.seen }

-- one look-up by a reader: what it then has seen begins with what it had seen, and makes the table that has what was
-- found
pub record ReadsFound (v : View) (want : Want) (found : Option ℕ) (w : View) : Type 0 where
  pub later : StartsWith w.seen v.seen
  pub same : w.live ≡ v.live
  pub value : IfSome v.live (λ live. found ≡ found_in (table_after live w.seen) want)

-- what the writer tells a reader
abbrev pub told : View → View
told v = record v { writes = false }

-- a reader that was told
abbrev pub informed : View → View → View
informed v w = told w
