use Rattle.std.proofs.Common.{refl, ap}
use Rattle.udt_world.specs.Views.{View}
use Rattle.udt_world.proofs.RunLemmas.{run_new, run_sockets}
use Rattle.udt_world.proofs.generated.Run.new.Goals as goal

-- two sockets are paired in an empty network
pub returns-clause-run : goal.returns-clause-run
returns-clause-run g c =
    run_new g.C.Control.ways c.args.n _ c.in_ok-pair.field-0 _ _ _
    (record {
      hosts_are = ap (λ (v : View g.row.C.Denot). v.hosts) c.new-network.ensures.view;
      sockets_are = ap (λ (v : View g.row.C.Denot). v.sockets) c.new-network.ensures.view;
      datagrams_are = ap (λ (v : View g.row.C.Denot). v.datagrams) c.new-network.ensures.view;
    })
    c.in_ok-pair.ensures.done refl refl refl

pub returns-clause-set : goal.returns-clause-set
returns-clause-set g c = record {
  wired = c.in_ok-pair.ensures.wired;
  sockets = run_sockets g.C.Control.ways _ _ (returns-clause-run g c);
  pattern = c.in_ok-pattern.ensures.value;
  length = c.in_ok-pattern.ensures.length;
  room = c.in_ok-vec.ensures.len;
}
