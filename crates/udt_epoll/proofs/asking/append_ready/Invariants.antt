use Rattle.std.proofs.Common.{◌≡◌, ◌++◌, ◌≤◌, take, length}
use Rattle.udt_epoll.specs.Ready.{ready_of}
use Rattle.udt_epoll.specs.Inside.{listed, AnswersStand}
use Rattle.udt_epoll.proofs.asking.append_ready.Given as goal

-- what is appended, and what those that are left will append, is what all append
abbrev pub invariant-loop-id : goal.invariant-loop-id
invariant-loop-id g l =
    (l.into.items ++ ready_of g.M.Looks.answer (listed l.id-iterator) ≡ l.fn.into.items ++ ready_of g.M.Looks.answer (listed l.fn.members.entries))
    × AnswersStand g.M.Looks.answer l.id-iterator
    × (take l.before l.into.items ≡ l.fn.into.items)
    × (l.before ≤ length l.into.items)
