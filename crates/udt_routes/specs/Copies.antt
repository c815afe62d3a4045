-- What two copies of a table have in common.
use Rattle.std.specs.Prelude.{Bool, true, List, [], ◌∷◌}
use Rattle.udt_routes.specs.declared.changes.Change.{Change}
use Rattle.udt_routes.specs.declared.table_copy.Operation.{Operation}
use Rattle.udt_routes.specs.declared.table_copy.Operation.TheVariants.{Open, Make}
use Rattle.udt_routes.specs.Changes.{IdTable, after}

-- a table, and whether a writer has opened it
pub record CopyState : Type 0 where
  pub opened : Bool
  pub table : IdTable

-- the copy after an operation
abbrev pub applied : CopyState → Operation → CopyState
applied copy Open = record copy { opened = true }
applied copy (Make change) = record copy { table = after copy.table change }

-- the changes among operations
abbrev pub changes_in : List Operation → List Change
changes_in [] = []
changes_in (Open ∷ operations) = changes_in operations
changes_in (Make change ∷ operations) = change ∷ changes_in operations
