use Rattle.std.proofs.Common.{◌≡◌, ◌+◌, ◌∷◌, [], true, length, length-append, Some, None, is_some, refl, sym, ap, ◌∙◌, arith}
use Rattle.std.specs.Option.{option_copied}
use Rattle.std.specs.BTreeMap.{is_at}
use Rattle.std.specs.Ordering.{nat_cmp}
use Rattle.udt_routes.specs.declared.changes.Change.TheVariants.{Leave}
use Rattle.udt_routes.specs.Changes.{IdTable}
use Rattle.udt_routes.specs.Tables.{what_of}
use Rattle.udt_routes.proofs.Noting.{length_taken, noted_more}
use Rattle.udt_routes.proofs.route_writer.RouteWriter.leave.Goals as goal

-- one fewer is enrolled, and one removal more is noted
pub invariant_of-self : goal.invariant_of-self
invariant_of-self c =
    let s = c.self.inside in
    let made = c.note.ensures.own in
    let copied : is_some (option_copied c.route.result) ≡ is_some c.route.result = elim c.route.result as (λ r. is_some (option_copied r) ≡ is_some r) [ None ↦ refl | Some x ↦ refl ] in
    let there : is_some (what_of s.own c.args.id) ≡ true = ap is_some (sym c.route.ensures) ∙ copied ∙ c.if-is_none.ensures in
    let live : c.note.new.own.live ≡ s.own.live = ap (λ (t : IdTable). t.live) made in
    let fewer : length c.note.new.own.enrolled + 1 ≡ length s.own.enrolled = ap (λ (t : IdTable). length t.enrolled + 1) made ∙ length_taken (is_at (nat_cmp c.args.id)) s.own.enrolled there in
    let more : length c.note.new.noted.items ≡ length s.noted.items + 1 = ap length c.note.ensures.noted ∙ length-append s.noted.items (Leave c.args.id ∷ []) in
    record {
      live = c.self.invariant.live ∙ sym live;
      table = noted_more s.own c.note.new.own s.publisher.published s.publisher.pending s.noted.items c.note.new.noted.items (Leave c.args.id) c.self.invariant.table made c.note.ensures.noted;
      within = omega (arith, live, fewer, c.self.invariant.within);
      fits = omega (arith, live, fewer, more, c.self.invariant.fits);
      room = omega (arith, live, c.note.ensures.capacity, c.self.invariant.room);
    }
