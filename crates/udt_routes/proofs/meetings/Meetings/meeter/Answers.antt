use Rattle.std.proofs.Common.{◌∙◌}
use Rattle.udt_routes.proofs.MeetLemmas.{meeter_of-key, met_once}
use Rattle.udt_routes.proofs.meetings.Meetings.meeter.Goals as goal

-- the list by address has the meeter
pub returns-clause-value : goal.returns-clause-value
returns-clause-value c =
    let s = c.self.inside in
    let look = meeter_of-key s.by_id.items s.by_addr.items c.self.invariant.ids_rise c.self.invariant.alike c.addr_key.result c.args.from c.addr_key.ensures in
    rw (← c.self.view_is) (c.copied.ensures ∙ c.find.ensures ∙ look)

-- and each address has one
pub returns-clause-once : goal.returns-clause-once
returns-clause-once c =
    rw (← c.self.view_is) (met_once c.self.inside.by_id.items c.self.inside.by_addr.items c.self.invariant.ids_rise c.self.invariant.alike)
