-- What becomes of the packets of which no more is to be said than that they were counted.
use Rattle.std.specs.Prelude.{List}
use Rattle.udt_model.specs.declared.answers.Heard.{Heard}
use Rattle.udt_model.specs.declared.answers.Heard.TheVariants as heard
use Rattle.udt_model.specs.declared.sockets.Counters.{Counters}
use Rattle.udt_model.specs.Events.{DidHear, Outcome, answered, risen}
use Rattle.udt_model.specs.State.{State, Emission}

abbrev pub count_control : Counters → Counters
count_control counters = record counters { control = risen counters.control }

abbrev pub count_stale : Counters → Counters
count_stale counters = record counters { stale = risen counters.stale }

abbrev pub count_foreign : Counters → Counters
count_foreign counters = record counters { foreign = risen counters.foreign }

abbrev pub count_malformed : Counters → Counters
count_malformed counters = record counters { malformed = risen counters.malformed }

module _ {C : Type 0} where
  -- a packet of which the socket makes no use
  abbrev pub on_stale : State C → Outcome C
  on_stale s = answered (record s { counters = count_stale s.counters }) (DidHear heard.Stale)

  -- a control packet that was so heard, and the answers to it
  abbrev pub on_control : State C → Heard → List Emission → Outcome C
  on_control s heard emissions = record {
    after = record s { counters = count_control s.counters };
    reply = DidHear heard;
    emissions = emissions;
  }
