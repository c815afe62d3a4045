use Rattle.std.proofs.Common.{◌≡◌, true, false, refl, arith}
use Rattle.udt_model.specs.Phases.{is_closed}
use Rattle.udt_world.proofs.ClosedLemmas.{closed_shown, open_shown, pair_told}
use Rattle.udt_world.proofs.hosts.tell.Goals as goal

-- the socket is closed
pub returns-then-bits-ge-CLOSED : goal.returns-then-bits-ge-CLOSED
returns-then-bits-ge-CLOSED g c =
    let s = c.args.socket.now.socket in
    let closed : is_closed s.phase ≡ true = closed_shown s (omega (arith, c.if-bits-ge-CLOSED.true, c.bits.ensures)) in
    rw (closed, c.leave.ensures.table, c.tell_peer.ensures, c.peer.ensures, pair_told s.origin s.peer) refl

-- it holds what it began to hold
pub returns : goal.returns
returns g c =
    let s = c.args.socket.now.socket in
    let stays : is_closed s.phase ≡ false = open_shown s (omega (arith, c.if-bits-ge-CLOSED.false, c.bits.ensures)) in
    rw (stays, c.tell_met.ensures, c.tell_listener.ensures, c.tell_peer.ensures, c.peer.ensures, pair_told s.origin s.peer) refl
