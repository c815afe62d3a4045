use Rattle.std.proofs.Common.{take, arith}
use Rattle.udt_framing.specs.Framing.{header_of}
use Rattle.udt_framing.proofs.Pieces.{stays_bad, knows, cut-from_good, going_on, refused_head, turns_bad, refused-on, turns_bad-on, begins-on, follows-on, file-cut, was_good}
use Rattle.udt_framing.proofs.reader.FrameReader.feed.Goals as goal

-- a reader that was bad stays as it was
pub returns-then-self-clause-next : goal.returns-then-self-clause-next
returns-then-self-clause-next c = λ fed was. stays_bad _ fed _ (rw (← c.self.view_is) c.if-self.true) was

-- the header goes wrong: what was known stays, and the reader is bad
pub returns-in_default-clause-next : goal.returns-in_default-clause-next
returns-in_default-clause-next c =
    λ fed was.
    let good = was_good _ (take c.self.inside.seen (header_of c.self.inside.len)) c.self.inside.got _ fed c.self.view_is c.if-self.false was in
    let cut = cut-from_good fed _ _ _ _ _ _ _ c.self.invariant.0 c.min.ensures c.split_at.ensures.front c.split_at.ensures.back good in
    turns_bad _ _ _ fed _ _ cut c.in_default.ensures.none good

pub returns-in_default-clause-refused : goal.returns-in_default-clause-refused
returns-in_default-clause-refused c =
    λ fed was.
    let good = was_good _ (take c.self.inside.seen (header_of c.self.inside.len)) c.self.inside.got _ fed c.self.view_is c.if-self.false was in
    let cut = cut-from_good fed _ _ _ _ _ _ _ c.self.invariant.0 c.min.ensures c.split_at.ensures.front c.split_at.ensures.back good in
    refused_head _ _ _ fed _ cut c.in_default.ensures.none

-- more bytes than the length: the header is known, and the reader is bad
pub returns-then-from-clause-next : goal.returns-then-from-clause-next
returns-then-from-clause-next c =
    λ fed was.
    let good = was_good _ (take c.self.inside.seen (header_of c.self.inside.len)) c.self.inside.got _ fed c.self.view_is c.if-self.false was in
    let cut = cut-from_good fed _ _ _ _ _ _ _ c.self.invariant.0 c.min.ensures c.split_at.ensures.front c.split_at.ensures.back good in
    let on = going_on fed _ _ _ _ _ _ c.self.invariant.0 cut (omega arith) c.in-Some.ensures.some in
    turns_bad-on fed _ _ _ _ _ _ _ on (omega (arith, (knows _ _ fed good).got))

pub returns-then-from-clause-refused : goal.returns-then-from-clause-refused
returns-then-from-clause-refused c =
    λ fed was.
    let good = was_good _ (take c.self.inside.seen (header_of c.self.inside.len)) c.self.inside.got _ fed c.self.view_is c.if-self.false was in
    let cut = cut-from_good fed _ _ _ _ _ _ _ c.self.invariant.0 c.min.ensures c.split_at.ensures.front c.split_at.ensures.back good in
    let on = going_on fed _ _ _ _ _ _ c.self.invariant.0 cut (omega arith) c.in-Some.ensures.some in
    refused-on fed _ _ _ _ _ _ on (omega (arith, (knows _ _ fed good).got))

-- no more: the frame goes on
pub returns-clause-next : goal.returns-clause-next
returns-clause-next c =
    λ fed was.
    let good = was_good _ (take c.self.inside.seen (header_of c.self.inside.len)) c.self.inside.got _ fed c.self.view_is c.if-self.false was in
    let cut = cut-from_good fed _ _ _ _ _ _ _ c.self.invariant.0 c.min.ensures c.split_at.ensures.front c.split_at.ensures.back good in
    let on = going_on fed _ _ _ _ _ _ c.self.invariant.0 cut (omega arith) c.in-Some.ensures.some in
    rw c.if-self.false (follows-on fed _ _ _ _ _ _ c.self.inside.got on (knows _ _ fed good).got (omega arith))

pub returns-clause-begins : goal.returns-clause-begins
returns-clause-begins c =
    λ fed was.
    let good = was_good _ (take c.self.inside.seen (header_of c.self.inside.len)) c.self.inside.got _ fed c.self.view_is c.if-self.false was in
    let cut = cut-from_good fed _ _ _ _ _ _ _ c.self.invariant.0 c.min.ensures c.split_at.ensures.front c.split_at.ensures.back good in
    let on = going_on fed _ _ _ _ _ _ c.self.invariant.0 cut (omega arith) c.in-Some.ensures.some in
    begins-on fed _ _ _ _ _ _ on (omega (arith, (knows _ _ fed good).got))

pub returns-clause-value : goal.returns-clause-value
returns-clause-value c =
    λ fed was.
    let good = was_good _ (take c.self.inside.seen (header_of c.self.inside.len)) c.self.inside.got _ fed c.self.view_is c.if-self.false was in
    file-cut fed _ _ _ _ (cut-from_good fed _ _ _ _ _ _ _ c.self.invariant.0 c.min.ensures c.split_at.ensures.front c.split_at.ensures.back good)
