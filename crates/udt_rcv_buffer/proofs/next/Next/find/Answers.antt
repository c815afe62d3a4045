use Rattle.udt_rcv_buffer.proofs.NextLemmas.{found-is, starts-first}
use Rattle.udt_rcv_buffer.proofs.next.Next.find.Goals as goal

pub returns-then-self-clause-some : goal.returns-then-self-clause-some
returns-then-self-clause-some c = (found-is c.args.self.now.found c.args.marks.now c.args.ring.now.list c.requires.marked (c.requires.known c.if-self.true)).0

pub returns-then-self-clause-none : goal.returns-then-self-clause-none
returns-then-self-clause-none c = (found-is c.args.self.now.found c.args.marks.now c.args.ring.now.list c.requires.marked (c.requires.known c.if-self.true)).1

pub search-requires-clause-start : goal.search-requires-clause-start
search-requires-clause-start c = starts-first c.args.marks.now.run c.args.ring.now.list

pub returns-else-self-clause-some : goal.returns-else-self-clause-some
returns-else-self-clause-some c = (found-is c.search.result c.args.marks.now c.args.ring.now.list c.requires.marked c.search.ensures).0

pub returns-else-self-clause-none : goal.returns-else-self-clause-none
returns-else-self-clause-none c = (found-is c.search.result c.args.marks.now c.args.ring.now.list c.requires.marked c.search.ensures).1
