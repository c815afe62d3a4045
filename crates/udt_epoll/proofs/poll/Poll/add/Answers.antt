use Rattle.std.proofs.Common.{◌∙◌}
use Rattle.udt_epoll.proofs.MemberLemmas.{member-listed, none-listed, changes-listed, order-listed}
use Rattle.udt_epoll.proofs.poll.Poll.add.Goals as goal

-- memory ran out: the map is as it was, and has nothing there
pub returns-in-Err-clause-memory : goal.returns-in-Err-clause-memory
returns-in-Err-clause-memory g c = rw (← c.self.view_is) (none-listed c.self.inside.members c.args.id c.in-Err.ensures.absent)

pub returns-in-Err-clause-order : goal.returns-in-Err-clause-order
returns-in-Err-clause-order g c = order-listed c.insert.new.self c.insert.ensures.ordered

-- the map has the member there
pub returns-clause-ok : goal.returns-clause-ok
returns-clause-ok g c = rw (← c.self.view_is) (changes-listed c.self.inside.members c.insert.new.self c.args.id _ c.in-Ok.ensures.updates)

pub returns-clause-value : goal.returns-clause-value
returns-clause-value g c = rw (← c.self.view_is) (c.member_of.ensures ∙ member-listed c.self.inside.members c.args.id c.in-Ok.replaced c.in-Ok.ensures.old)

pub returns-clause-order : goal.returns-clause-order
returns-clause-order g c = order-listed c.insert.new.self c.insert.ensures.ordered
