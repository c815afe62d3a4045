use Rattle.std.proofs.Common.{◌≡◌, ◌∙◌, [], map, ap, sym, subst, arith}
use Rattle.udt_model.specs.Network as model
use Rattle.udt_model.specs.Script.{network_after, size_of}
use Rattle.udt_world.specs.Kept.{items_of, AreAccepted}
use Rattle.udt_world.specs.Views.{Shows, View, view_of}
use Rattle.udt_world.proofs.LineLemmas.{no_lines}
use Rattle.udt_world.proofs.world.World.new.Goals as goal

-- nothing was accepted, and there are no sockets
pub invariant_of-result : goal.invariant_of-result
unfolding AreAccepted
invariant_of-result g c =
    let ways = g.C.Control.ways in
    let none : map items_of c.new.result.items ≡ [] = ap (map items_of) c.new.ensures.items in
    let network : network_after ways (map items_of c.new.result.items) ≡ model.empty_network =
    ap (network_after ways) none ∙ no_lines ways in
    let view = c.new-2.ensures.view in
    let shows : Shows ways model.empty_network (view_of c.new-2.result) = record {
      hosts_are = ap (λ (v : View _). v.hosts) view;
      sockets_are = ap (λ (v : View _). v.sockets) view;
      datagrams_are = ap (λ (v : View _). v.datagrams) view;
    } in
    record {
      shown = λ kept. subst (λ (n : model.Network _). Shows ways n (view_of c.new-2.result)) (sym network) shows;
      wired = λ kept. c.new-2.ensures.wired;
      size_is = λ kept. ap size_of (sym none);
      bound = omega arith;
      accepted = λ kept. rw none tt;
    }
