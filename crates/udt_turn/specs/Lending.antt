-- What a held turn lends.
use Rattle.std.specs.Borrow.{Lends, MutBor, Fml}
use Rattle.std.specs.Prelude.{[]}
use denote.RattleType.{RattleType}
use mir.Syntax.{named}
use Rattle.udt_turn.specs.declared.story.Story as story
use Rattle.udt_turn.specs.declared.held.Held.{Held}
use Rattle.udt_turn.specs.contracts.held.Held.{the_row}

module _ (V E : RattleType) (g : story.Ghosts V.Denot E.Denot) where
  -- the held turn ends with the last value written through r. Its lifetime is the second of the signature
  abbrev pub LendsValue : MutBor (Held V.Denot E.Denot g) → MutBor V.Denot → Fml
  LendsValue h r = Lends (the_row (record { mir = named 1; lft = [] }) V E g) V h r (λ w. record h.now { value = w })
