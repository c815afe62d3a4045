-- What an answer to a datagram says of the socket.
use Rattle.std.specs.Prelude.{◌≡◌}
use Rattle.udt_model.specs.declared.answers.Heard.{Heard}
use Rattle.udt_model.specs.declared.answers.Heard.TheVariants as heard
use Rattle.udt_model.specs.Counted.{count_stale, count_foreign, count_malformed}
use Rattle.udt_model.specs.State.{State}

module _ {C : Type 0} where
  -- one count is higher, and the EXP timer may have started anew. All else is as it was
  abbrev pub ChangesExpAlone : State C → State C → Type 0
  ChangesExpAlone old new =
      new ≡ record old {
        heard = new.heard;
        exp_from = new.exp_from;
        exp_count = new.exp_count;
        counters = count_stale old.counters;
      }

  -- what is malformed or foreign changes one count, and what is stale the EXP timer besides
  abbrev pub ToldBy : Heard → State C → State C → Type 0
  ToldBy (heard.Malformed why) old new = new ≡ record old { counters = count_malformed old.counters }
  ToldBy heard.Foreign old new = new ≡ record old { counters = count_foreign old.counters }
  ToldBy heard.Stale old new = ChangesExpAlone old new
  ToldBy heard.BadLength old new = ChangesExpAlone old new
  ToldBy other old new = Unit {0}
