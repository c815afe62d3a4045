-- A listing leaves its side of the one at the top.
use Rattle.std.proofs.Common.{◌∷◌, ◌++◌, length, sym, ap, ◌∙◌, subst, rules, arith}
use Rattle.udt_queues.specs.Listings.{IsRising, without}
use Rattle.udt_queues.proofs.Listed.{rising_left, rising_right, without_left, without_right, without_here, sides_shorter, less_is, greater_is, equal_is}
use Rattle.udt_queues.proofs.tree.+remove.Goals as goal

pub remove-requires : goal.remove-requires
remove-requires t c =
    let p = c.in-Some.parts in let is = c.in-Some.ensures.some in
    let rising = subst IsRising is c.requires.rising in
    let shorter = sides_shorter p.left p.listing p.right in
    let size = ap (λ l. length l) is in
    (search rules, (rising_left p.left p.listing p.right rising, omega (arith, shorter.0, size, c.requires.room)))

pub remove-requires-in-Greater : goal.remove-requires-in-Greater
remove-requires-in-Greater t c =
    let p = c.in-Some.parts in let is = c.in-Some.ensures.some in
    let rising = subst IsRising is c.requires.rising in
    let shorter = sides_shorter p.left p.listing p.right in
    let size = ap (λ l. length l) is in
    (search rules, (rising_right p.left p.listing p.right rising, omega (arith, shorter.1, size, c.requires.room)))

pub returns-in-Less-clause-next : goal.returns-in-Less-clause-next
returns-in-Less-clause-next t c =
    let p = c.in-Some.parts in let is = c.in-Some.ensures.some in
    c.balance.ensures ∙ ap (λ l. l ++ p.listing ∷ p.right) c.remove.ensures.next
    ∙ sym (without_left c.args.id p.listing p.left p.right (less_is _ _ c.in-Less.ensures) (subst IsRising is c.requires.rising)) ∙ ap (without c.args.id) (sym is)

pub returns-in-Greater-clause-next : goal.returns-in-Greater-clause-next
returns-in-Greater-clause-next t c =
    let p = c.in-Some.parts in let is = c.in-Some.ensures.some in
    c.balance-in-Greater.ensures ∙ ap (λ r. p.left ++ p.listing ∷ r) c.remove-in-Greater.ensures.next
    ∙ sym (without_right c.args.id p.listing p.left p.right (greater_is _ _ c.in-Greater.ensures) (subst IsRising is c.requires.rising)) ∙ ap (without c.args.id) (sym is)

pub returns-in-Equal-clause-next : goal.returns-in-Equal-clause-next
returns-in-Equal-clause-next t c =
    let p = c.in-Some.parts in let is = c.in-Some.ensures.some in
    c.append.ensures.next
    ∙ sym (without_here c.args.id p.listing p.left p.right (equal_is _ _ c.in-Equal.ensures) (subst IsRising is c.requires.rising)) ∙ ap (without c.args.id) (sym is)
