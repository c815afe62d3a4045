-- What the ends of shared routes stand for.
use Rattle.std.specs.Prelude.{ℕ, List, [], ◌∷◌, ◌++◌}
use Rattle.udt_routes.specs.declared.changes.Change.{Change}
use Rattle.udt_routes.specs.Changes.{IdTable, after}

-- two copies: how many sockets may be enrolled, the changes that are published, and those that are not yet
pub record Publication : Type 0 where
  pub live : ℕ
  pub published : List Change
  pub pending : List Change

-- a reader: how many sockets may be enrolled, and the changes of which it knows that they are published
pub record Seen : Type 0 where
  pub live : ℕ
  pub seen : List Change

-- the writer: its own table, the changes that are published, and those that it has made and that wait to be published
pub record Written : Type 0 where
  pub table : IdTable
  pub published : List Change
  pub waiting : List Change

-- the writer after a change that it made and published, after all that waited
abbrev pub publishing : Written → Change → Written
publishing w change = record {
  table = after w.table change;
  published = w.published ++ (w.waiting ++ change ∷ []);
  waiting = [];
}

-- the writer after a change that it made, and that waits
abbrev pub noting : Written → Change → Written
noting w change = record w { table = after w.table change; waiting = w.waiting ++ change ∷ [] }
