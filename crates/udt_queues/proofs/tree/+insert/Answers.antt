-- A listing goes to its side of the one at the top.
use Rattle.std.proofs.Common.{◌∷◌, ◌++◌, sym, ap, ◌∙◌, subst, rules}
use Rattle.udt_queues.specs.Listings.{IsRising, place, moment_of}
use Rattle.udt_queues.proofs.Listed.{rising_left, rising_right, moment_left, moment_right, place_left, place_right, place_here, sides_shorter, less_is, greater_is, equal_is}
use Rattle.udt_queues.proofs.tree.+insert.Goals as goal

pub insert-requires : goal.insert-requires
insert-requires t c =
    let p = c.in-Some.parts in let is = c.in-Some.ensures.some in
    let rising = subst IsRising is c.requires.rising in
    let shorter = sides_shorter p.left p.listing p.right in
    (search rules, (rising_left p.left p.listing p.right rising, λ none. c.requires.stock (ap (moment_of c.args.fresh.id) is ∙ moment_left c.args.fresh.id p.listing p.left p.right (less_is _ _ c.in-Less.ensures) rising ∙ none)))

pub insert-requires-in-Greater : goal.insert-requires-in-Greater
insert-requires-in-Greater t c =
    let p = c.in-Some.parts in let is = c.in-Some.ensures.some in
    let rising = subst IsRising is c.requires.rising in
    let shorter = sides_shorter p.left p.listing p.right in
    (search rules, (rising_right p.left p.listing p.right rising, λ none. c.requires.stock (ap (moment_of c.args.fresh.id) is ∙ moment_right c.args.fresh.id p.listing p.left p.right (greater_is _ _ c.in-Greater.ensures) rising ∙ none)))

pub returns-in-Less-clause-next : goal.returns-in-Less-clause-next
returns-in-Less-clause-next t c =
    let p = c.in-Some.parts in
    c.balance.ensures ∙ ap (λ l. l ++ p.listing ∷ p.right) c.insert.ensures.next
    ∙ sym (place_left c.args.fresh p.listing p.left p.right (less_is _ _ c.in-Less.ensures)) ∙ ap (place c.args.fresh) (sym c.in-Some.ensures.some)

pub returns-in-Greater-clause-next : goal.returns-in-Greater-clause-next
returns-in-Greater-clause-next t c =
    let p = c.in-Some.parts in let is = c.in-Some.ensures.some in
    c.balance-in-Greater.ensures ∙ ap (λ r. p.left ++ p.listing ∷ r) c.insert-in-Greater.ensures.next
    ∙ sym (place_right c.args.fresh p.listing p.left p.right (greater_is _ _ c.in-Greater.ensures) (subst IsRising is c.requires.rising)) ∙ ap (place c.args.fresh) (sym is)

pub returns-in-Equal-clause-next : goal.returns-in-Equal-clause-next
returns-in-Equal-clause-next t c =
    let p = c.in-Some.parts in let is = c.in-Some.ensures.some in
    c.build-in-Equal.ensures
    ∙ sym (place_here c.args.fresh p.listing p.left p.right (equal_is _ _ c.in-Equal.ensures) (subst IsRising is c.requires.rising)) ∙ ap (place c.args.fresh) (sym is)
