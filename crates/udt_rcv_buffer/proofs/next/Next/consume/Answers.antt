use Rattle.udt_rcv_buffer.proofs.NextLemmas.{starts-first}
use Rattle.udt_rcv_buffer.proofs.next.Next.consume.Goals as goal

pub search-self-requires-clause-start : goal.search-self-requires-clause-start
search-self-requires-clause-start c = starts-first c.args.marks.now.run c.args.ring.now.list
