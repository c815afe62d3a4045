use Rattle.std.proofs.Common.{rules}
use Rattle.udt_epoll.proofs.MemberLemmas.{order-listed}
use Rattle.udt_epoll.proofs.ReadyLemmas.{all_asks}
use Rattle.udt_epoll.proofs.asking.ask_all.Goals as goal

pub returns-clause-asked : goal.returns-clause-asked
returns-clause-asked g c =
    (all_asks g.M.Looks.asked g.M.Looks.answer _ (λ f k v b w f' call. search rules) _ _ _ c.retain.ensures.filtered).each

pub returns-clause-answers : goal.returns-clause-answers
returns-clause-answers g c =
    (all_asks g.M.Looks.asked g.M.Looks.answer _ (λ f k v b w f' call. search rules) _ _ _ c.retain.ensures.filtered).stand

pub returns-clause-order : goal.returns-clause-order
returns-clause-order g c = order-listed c.retain.new.self c.retain.ensures.ordered
