-- What an event means to the turn in which it is done.
use Rattle.std.proofs.Common.{◌≡◌, ◌^◌, ◌<◌, ◌≤◌, ◌∙◌, ap, arith}
use Rattle.std.specs.Prelude.{Option, Some}
use Rattle.udt_model.specs.Rate.{Ways}
use Rattle.udt_model.specs.State.{State}
use Rattle.udt_turn.specs.Words.{GoesOn}
use Rattle.udt_cell.specs.Entries.{Entry, Follows, tale_of_sockets, last_count}
use Rattle.udt_cell.proofs.CountLemmas.{step_counts_one}

module _ {C : Type 0} where
  -- an event that follows is one legal item, which the count counts
  pub follows_goes : (w : Ways C) (item : Option Entry) (e : Entry) (before after : State C)
      → item ≡ Some e → Follows w e before after → GoesOn (tale_of_sockets w) item before after
  follows_goes w item e before after named f =
      let one = step_counts_one w before e.event f.few in
      let c = ap (λ (s : State C). s.count) f.value in
      record {
        entry = e;
        named = named;
        legal = f.answers;
        value = f.value;
        count = c ∙ one;
        most = omega (arith, c, one, f.few);
      }

  -- a count below 2^55 that isn't below the last one is the last one
  pub spent_is : (s : State C) → last_count ≤ s.count → s.count < 2 ^ 55 → s.count ≡ last_count
  spent_is s low high = omega arith
