use Rattle.std.proofs.Common.{◌≡◌, refl, sym}
use Rattle.udt_model.specs.declared.sockets.ExpOutcome.TheVariants as exp
use Rattle.udt_model.specs.Ticks.{exp_outcome}
use Rattle.udt_core.proofs.socket.Socket.tick_exp.Goals as goal

pub returns-in-KeepsAlive-clause-outs : goal.returns-in-KeepsAlive-clause-outs
returns-in-KeepsAlive-clause-outs g c =
    let keeps : exp_outcome c.args.self.now ≡ exp.KeepsAlive = sym c.in-KeepsAlive.ensures.value in
    rw (c.emit.ensures, keeps, c.stamp.ensures, ← c.self.view_is) refl
