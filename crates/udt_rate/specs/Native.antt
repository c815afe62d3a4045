-- The fields of a native control, as what it knows.
use Rattle.udt_rate.specs.declared.native.Native.TheInside.{Inside}
use Rattle.udt_model.specs.Rate.{Pacing}

-- the fields, each under its name
abbrev pub pacing_of : Inside → Pacing
pacing_of n =
    record {
      packet_bytes = n.packet;
      flow = n.flow;
      slow = n.slow;
      window = n.window;
      period_nanos = n.period;
      last_dec = n.last_dec;
    }
