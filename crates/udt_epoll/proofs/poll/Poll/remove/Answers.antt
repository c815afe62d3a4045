use Rattle.std.proofs.Common.{◌∙◌}
use Rattle.udt_epoll.proofs.MemberLemmas.{member-listed, changes-listed, order-listed}
use Rattle.udt_epoll.proofs.poll.Poll.remove.Goals as goal

pub returns-clause-value : goal.returns-clause-value
returns-clause-value g c = rw (← c.self.view_is) (c.member_of.ensures ∙ member-listed c.self.inside.members c.args.id c.remove.result c.remove.ensures.value)

pub returns-clause-next : goal.returns-clause-next
returns-clause-next g c = rw (← c.self.view_is) (changes-listed c.self.inside.members c.remove.new.self c.args.id _ c.remove.ensures.updates)

pub returns-clause-order : goal.returns-clause-order
returns-clause-order g c = order-listed c.remove.new.self c.remove.ensures.ordered
