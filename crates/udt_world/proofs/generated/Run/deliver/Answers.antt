use Rattle.std.proofs.Common.{◌≡◌, ◌<◌, length, ap, ◌∙◌, subst, arith}
use Rattle.std.specs.Prelude.{vec_len, slice_get}
use Rattle.std.proofs.lemmas.Result.{on_ok_weaker}
use Rattle.udt_model.specs.Events.{Arrive, event}
use Rattle.udt_world.specs.declared.generated.Run.{Run}
use Rattle.udt_world.specs.declared.network.Network.{Network}
use Rattle.udt_world.specs.Done.{IsRoute}
use Rattle.udt_world.specs.Views.{View, view_of}
use Rattle.udt_world.proofs.RunLemmas.{datagram_at, endpoints_unseen, moved_from, on_ok_both, run_delivered, run_dropped, set_moved}
use Rattle.udt_world.proofs.generated.Run.deliver.Goals as goal

pub route_of-requires-clause-wired : goal.route_of-requires-clause-wired
route_of-requires-clause-wired g c = rw c.draw.ensures.next c.requires.wired

-- the datagram may arrive where it goes
pub hear-requires-clause-place : goal.hear-requires-clause-place
hear-requires-clause-place g c =
    let network = c.args.self.now.network in
    let within : c.delivered_number-number.result < length network.datagrams.items =
    omega (arith, c.len-count.ensures, network.datagrams.ok.0, c.delivered_number-number.ensures.within) in
    let found = datagram_at g.C.Control.ways c.args.self.now c.delivered_number-number.result within in
    let may = rw c.draw.ensures.next at c.in_ok-place.ensures.may in
    (may c.in-To.place found.0 c.in-To.is found.1).0

-- the datagram goes to a socket
pub returns-in-To-clause-run : goal.returns-in-To-clause-run
returns-in-To-clause-run g c =
    let network = c.args.self.now.network in
    let count : c.len-count.result ≡ length network.datagrams.items =
    omega (arith, c.len-count.ensures, network.datagrams.ok.0) in
    let number = rw (c.draw.ensures.value, count) at c.delivered_number-number.ensures.value in
    let within : c.delivered_number-number.result < length network.datagrams.items =
    omega (arith, count, c.delivered_number-number.ensures.within) in
    let found = datagram_at g.C.Control.ways c.args.self.now c.delivered_number-number.result within in
    let state = ap (λ (r : Run g.row.C.Denot). r.state) c.draw.ensures.next in
    let accepted = ap (λ (r : Run g.row.C.Denot). r.accepted) c.draw.ensures.next in
    let delivered = ap (λ (r : Run g.row.C.Denot). r.delivered) c.draw.ensures.next in
    let kept = rw c.draw.ensures.next at c.in_ok-place.ensures.kept in
    let same = endpoints_unseen g.C.Control.ways network c.route_of.new.self kept in
    let there = ap (λ (v : View g.row.C.Denot). slice_get v.datagrams c.delivered_number-number.result) same ∙ found.1 in
    on_ok_weaker c.hear.result
    (λ hears run is.
    let value = rw c.draw.ensures.next at c.in_ok-place.ensures.value in
    let goes = subst (λ r. IsRoute g.C.Control.ways run.network found.0 r) c.in-To.is
    (value run.network found.0 is.shown found.1) in
    run_delivered g.C.Control.ways run c.args.self.now _ c.args.now c.args.kind c.delivered_number-number.result is number within
    found.0 found.1 state accepted delivered c.in-To.place goes
    (moved_from g.C.Control.ways c.in-To.place _ (view_of network) (view_of c.route_of.new.self) _ same (hears found.0 there)))
    c.hear.ensures.moves

pub returns-in-To-clause-set : goal.returns-in-To-clause-set
returns-in-To-clause-set g c =
    let network = c.args.self.now.network in
    let within : c.delivered_number-number.result < length network.datagrams.items =
    omega (arith, c.len-count.ensures, network.datagrams.ok.0, c.delivered_number-number.ensures.within) in
    let found = datagram_at g.C.Control.ways c.args.self.now c.delivered_number-number.result within in
    let kept = rw c.draw.ensures.next at c.in_ok-place.ensures.kept in
    let same = endpoints_unseen g.C.Control.ways network c.route_of.new.self kept in
    let there = ap (λ (v : View g.row.C.Denot). slice_get v.datagrams c.delivered_number-number.result) same ∙ found.1 in
    let pattern = ap (λ (r : Run g.row.C.Denot). r.pattern) c.draw.ensures.next in
    let room = ap (λ (r : Run g.row.C.Denot). vec_len r.room) c.draw.ensures.next in
    on_ok_both c.hear.result
    (λ hears wired. set_moved g.C.Control.ways c.in-To.place (event c.args.now (Arrive found.0.from found.0.bytes))
    c.args.self.now _
    c.requires
    (moved_from g.C.Control.ways c.in-To.place _ (view_of network) (view_of c.route_of.new.self) _ same (hears found.0 there))
    wired pattern room)
    c.hear.ensures.moves c.hear.ensures.wired

-- it goes nowhere
pub returns-in-Nowhere-clause-run : goal.returns-in-Nowhere-clause-run
returns-in-Nowhere-clause-run g c = λ run is.
    let network = c.args.self.now.network in
    let count : c.len-count.result ≡ length network.datagrams.items =
    omega (arith, c.len-count.ensures, network.datagrams.ok.0) in
    let number = rw (c.draw.ensures.value, count) at c.delivered_number-number.ensures.value in
    let within : c.delivered_number-number.result < length network.datagrams.items =
    omega (arith, count, c.delivered_number-number.ensures.within) in
    let found = datagram_at g.C.Control.ways c.args.self.now c.delivered_number-number.result within in
    let state = ap (λ (r : Run g.row.C.Denot). r.state) c.draw.ensures.next in
    let accepted = ap (λ (r : Run g.row.C.Denot). r.accepted) c.draw.ensures.next in
    let delivered = ap (λ (r : Run g.row.C.Denot). r.delivered) c.draw.ensures.next in
    let kept = rw c.draw.ensures.next at c.in_ok-place.ensures.kept in
    let same = endpoints_unseen g.C.Control.ways network c.route_of.new.self kept in
    let value = rw c.draw.ensures.next at c.in_ok-place.ensures.value in
    let goes = subst (λ r. IsRoute g.C.Control.ways run.network found.0 r) c.in-Nowhere.is
    (value run.network found.0 is.shown found.1) in
    run_dropped g.C.Control.ways run c.args.self.now _ c.args.now c.args.kind c.delivered_number-number.result is number within
    found.0 found.1 state accepted delivered c.in-Nowhere.field-0.now goes same

pub returns-in-Nowhere-clause-set : goal.returns-in-Nowhere-clause-set
returns-in-Nowhere-clause-set g c =
    let kept = rw c.draw.ensures.next at c.in_ok-place.ensures.kept in
    let pattern = ap (λ (r : Run g.row.C.Denot). r.pattern) c.draw.ensures.next in
    let room = ap (λ (r : Run g.row.C.Denot). vec_len r.room) c.draw.ensures.next in
    record {
      wired = c.in_ok-place.ensures.wired;
      sockets = ap (λ (n : Network g.row.C.Denot). vec_len n.sockets) kept ∙ c.requires.sockets;
      pattern = rw pattern c.requires.pattern;
      length = rw pattern c.requires.length;
      room = room ∙ c.requires.room;
    }
