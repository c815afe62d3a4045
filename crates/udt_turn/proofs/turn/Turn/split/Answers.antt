use Rattle.std.proofs.Common.{[], ◌∷◌, ◌<◌, ◌≡◌, length, arith, sym, ap, ◌∙◌, subst}
use Rattle.udt_turn.specs.History.{last_of, mine_in}
use Rattle.udt_turn.specs.Kinds.{child_of, number_in, IsSound}
use Rattle.udt_turn.proofs.Histories.{last_from-none}
use Rattle.udt_turn.proofs.Sound.{sound_parent, sound_child}
use Rattle.udt_turn.proofs.turn.Turn.split.Goals as goal

-- the new pass has made nothing
pub invariant_of-result : goal.invariant_of-result
invariant_of-result g c =
    let t = g.V.Story.tale in
    let seen = c.args.pass.now.seat.me.0.seen in
    let d = c.number.ensures.drew c.if-not-number.false in
    let child = c.branch-seat.ensures.child.1 ∙ ap (λ m. (child_of m.0, [])) d.now in
    record {
      counted = sym (ap (λ m. m.0.last) child);
      last_item = sym (ap (λ m. last_of t m.0.names m.0.seen) child ∙ last_from-none t (d.drew ∷ []) seen.opening seen.items 0 d.unmade);
      named = sym (ap (λ m. length m.0.names) child);
      few = omega arith;
    }

-- what it had seen was sound as it drew the number
pub returns-clause-sound : goal.returns-clause-sound
returns-clause-sound g c =
    let t = g.V.Story.tale in
    subst (λ m. IsSound t m.0) (sym c.branch-seat.ensures.parent) (sound_parent t c.number.new.seat.me.0 c.number.ensures.sound)

-- and so is what the new pass has seen with it
pub returns-clause-sound_new : goal.returns-clause-sound_new
returns-clause-sound_new g c =
    let t = g.V.Story.tale in
    let v = c.number.new.seat.me.0 in
    let d = c.number.ensures.drew c.if-not-number.false in
    let above : v.number < number_in v.stage = subst (λ m. m.0.number < number_in m.0.stage) (sym d.now) d.above in
    let unmade : mine_in (number_in v.stage ∷ []) v.seen.items ≡ [] = subst (λ m. mine_in (number_in m.0.stage ∷ []) m.0.seen.items ≡ []) (sym d.now) d.unmade in
    subst (λ m. IsSound t m.0) (sym c.branch-seat.ensures.child.1) (sound_child t v above unmade c.number.ensures.sound)
