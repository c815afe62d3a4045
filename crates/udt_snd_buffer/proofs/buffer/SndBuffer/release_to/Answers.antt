use Rattle.std.proofs.Common.{◌≡◌, ◌-◌, ◌≤◌, length, map, take, ◌∙◌, ap, refl, arith}
use Rattle.udt_model.specs.SendBlocks.{SendBlocks}
use Rattle.std.proofs.lemmas.List.Elements.{All-drop}
use Rattle.std.proofs.lemmas.List.{length-map, length-take-le}
use Rattle.udt_snd_buffer.specs.KeptParts.{kept_block_of, IsCut}
use Rattle.udt_ring.specs.Parts.{empty_part}
use Rattle.udt_ring.proofs.TurnLemmas.{length-passed}
use Rattle.udt_snd_buffer.specs.declared.head.TheConstants.{NO_HEAD}
use Rattle.udt_snd_buffer.proofs.KeptLemmas.{released}
use Rattle.udt_snd_buffer.proofs.buffer.SndBuffer.release_to.Goals as goal
use Rattle.udt_snd_buffer.proofs.buffer.SndBuffer.release_to.Goals.{After-turn}

-- no more is released than is kept
few : (c : After-turn) → c.args.offset - c.self.inside.first ≤ c.self.inside.kept
few c =
    let b = c.self.inside in
    let len : length c.args.self.now.kept ≡ b.kept = rw (← c.self.view_is) (length-map (take b.kept b.ring.list) kept_block_of ∙ length-take-le b.kept b.ring.list c.self.invariant.kept) in
    let first = ap (λ (s : SendBlocks). s.first) c.self.view_is in
    omega (arith, c.requires.to, len, first)

-- there are as many parts as before
same : (c : After-turn) → length c.turn.new.self.list ≡ length c.self.inside.ring.list
same c =
    let b = c.self.inside in
    let count = c.args.offset - b.first in
    rw c.turn.ensures (length-passed count b.ring.list (empty_part NO_HEAD) (omega (arith, few c, c.self.invariant.kept)))

pub invariant_of-self : goal.invariant_of-self
invariant_of-self c =
    let here = (goal.at.invariant_of-self c).After-turn in
    let b = c.self.inside in
    let i = c.self.invariant in
    let count = c.args.offset - b.first in
    let left = released b.ring.list b.kept count (empty_part NO_HEAD) (few here) i.kept in
    record {
      kept = omega (arith, same here, i.kept);
      cut = rw (c.turn.ensures, left) (All-drop (IsCut b.payload) count (map kept_block_of (take b.kept b.ring.list)) i.cut);
      few = omega (arith, same here, i.few);
      some = i.some;
      room = rw c.turn.ensures i.room;
      small = rw c.turn.ensures i.small;
      within = omega (arith, few here, i.within, c.requires.from);
    }

-- the parts of what was released are free
pub returns : goal.returns
returns c =
    let here = (goal.at.returns c).After-turn in
    let b = c.self.inside in
    let count = c.args.offset - b.first in
    rw (same here, c.turn.ensures, ← c.self.view_is, released b.ring.list b.kept count (empty_part NO_HEAD) (few here) c.self.invariant.kept) refl
