-- Bytes that are read as a block are long enough, and their first bit isn't set.
use Rattle.std.proofs.Common.{arith}
use Rattle.udt_packet.proofs.Spellings.{read_as_block}
use Rattle.udt_packet.proofs.reading.read_block.Goals as goal
use Rattle.udt_packet.proofs.reading.read_block.Goals.{then-bytes-lt-HEADER-via-then-bytes-lt-HEADER, then-bytes-lt-HEADER-via-else-bytes-lt-HEADER+then-word_at-ge-CONTROL}

pub returns-then-bytes-lt-HEADER-clause-none : goal.returns-then-bytes-lt-HEADER-clause-none
returns-then-bytes-lt-HEADER-clause-none c = λ spells.
    let is = read_as_block c.args.bytes.now spells.packet spells.is_block spells.read in
    elim c.then-bytes-lt-HEADER.branch [
      | then-bytes-lt-HEADER-via-then-bytes-lt-HEADER w ↦ omega (arith, w.if-bytes-lt-HEADER.true, is.long)
      | then-bytes-lt-HEADER-via-else-bytes-lt-HEADER+then-word_at-ge-CONTROL w ↦ omega (arith, w.word_at.ensures, w.if-word_at-ge-CONTROL.true, is.low)
    ]
