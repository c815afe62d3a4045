use Rattle.std.specs.Prelude.{[], Some}
use Rattle.udt_model.specs.Events.{Offer, DidOffer, event}
use Rattle.udt_cell.specs.Entries.{entry}
use Rattle.udt_cell.proofs.shared.SharedSocket.offer.Given as goal

-- the item is the event with its answer
abbrev pub ghosts-tell_offer : goal.ghosts-tell_offer
ghosts-tell_offer g a = record { item = Some (entry (event a.now (Offer a.id)) (DidOffer a.answer) []) }
