-- The first range is one word, or two where the first bit is set, and the rest is left.
use Rattle.std.proofs.Common.{◌∙◌, sym, arith}
use Rattle.udt_packet.proofs.RangeWords.{none-in, alone, two}
use Rattle.udt_packet.proofs.ranges.NakRanges.next.Goals as goal

pub returns-then-self-eq0-clause-none : goal.returns-then-self-eq0-clause-none
returns-then-self-eq0-clause-none c =
    let none = sym c.self.view_is ∙ none-in _ (omega arith) in
    (none, none)

pub invariant_of-self : goal.invariant_of-self
invariant_of-self c = (alone _ _ _ c.self.invariant c.if-self-eq0.false c.word_at-word.ensures (omega arith) c.following-self-inside.ensures).are

pub returns-then-word-lt-BEGINS-clause-some : goal.returns-then-word-lt-BEGINS-clause-some
returns-then-word-lt-BEGINS-clause-some c =
    sym c.self.view_is ∙ (alone _ _ _ c.self.invariant c.if-self-eq0.false c.word_at-word.ensures (omega arith) c.following-self-inside.ensures).ranges

pub word_at-last-requires : goal.word_at-last-requires
word_at-last-requires c = (two _ _ c.self.invariant c.if-self-eq0.false c.word_at-word.ensures (omega arith) (omega arith)).long

pub following-self-inside-requires-2 : goal.following-self-inside-requires-2
following-self-inside-requires-2 c = (two _ _ c.self.invariant c.if-self-eq0.false c.word_at-word.ensures (omega arith) (omega arith)).long

pub invariant_of-self-2 : goal.invariant_of-self-2
invariant_of-self-2 c =
    ((two _ _ c.self.invariant c.if-self-eq0.false c.word_at-word.ensures (omega arith) (omega arith)).leaves _ _ c.word_at-last.ensures c.following-self-inside-2.ensures).are

pub returns-clause-some : goal.returns-clause-some
returns-clause-some c =
    sym c.self.view_is
    ∙ ((two _ _ c.self.invariant c.if-self-eq0.false c.word_at-word.ensures (omega arith) (omega arith)).leaves _ _ c.word_at-last.ensures c.following-self-inside-2.ensures).ranges

pub returns-clause-in_range : goal.returns-clause-in_range
returns-clause-in_range c = (two _ _ c.self.invariant c.if-self-eq0.false c.word_at-word.ensures (omega arith) (omega arith)).range _ c.word_at-last.ensures
