use Rattle.std.proofs.Common.{◌∙◌}
use Rattle.indexmap.proofs.CallerLemmas.{insert_entry-new}
use Rattle.udt_routes.proofs.room.note.Goals as goal

-- there was room, and a new key goes last
pub returns-clause-entries : goal.returns-clause-entries
returns-clause-entries g c =
    let inserted = rw c.unwrap.ensures at c.insert.ensures.entries in
    inserted ∙ insert_entry-new g.K.PartialEq.eq c.args.map.now c.args.key c.args.value c.requires.absent
