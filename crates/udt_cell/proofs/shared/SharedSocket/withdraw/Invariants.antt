use Rattle.std.specs.Prelude.{[], Some}
use Rattle.udt_model.specs.Events.{Withdraw, DidWithdraw, event}
use Rattle.udt_cell.specs.Entries.{entry}
use Rattle.udt_cell.proofs.shared.SharedSocket.withdraw.Given as goal

-- the item is the event with its answer
abbrev pub ghosts-tell_withdraw : goal.ghosts-tell_withdraw
ghosts-tell_withdraw g a = record { item = Some (entry (event a.now Withdraw) DidWithdraw []) }
