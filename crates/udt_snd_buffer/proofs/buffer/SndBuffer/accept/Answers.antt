use Rattle.std.proofs.Common.{◌≡◌, ◌+◌, ◌-◌, ◌*◌, ◌<◌, ◌≤◌, map, length, take, ap, refl, ◌∙◌, sym, arith}
use Rattle.std.proofs.lemmas.Grind.{div_ceil_times}
use Rattle.std.proofs.lemmas.List.{length-take-le, length-map}
use Rattle.std.proofs.lemmas.List.Elements.{All-append}
use Rattle.udt_model.specs.SendBlocks.{SendBlocks, accepted_of, count_for, blocks_of}
use Rattle.udt_snd_buffer.specs.KeptParts.{kept_block_of, IsCut}
use Rattle.udt_snd_buffer.proofs.KeptLemmas.{blocks_of-cut, count_within, count_fits, joined_more, count_is}
use Rattle.udt_snd_buffer.proofs.buffer.SndBuffer.accept.Goals as goal
use Rattle.udt_snd_buffer.proofs.buffer.SndBuffer.accept.Goals.{After-keep, After-div_ceil-count}

-- as many blocks are kept as the inside says
kept_len : (c : After-div_ceil-count) → length c.args.self.now.kept ≡ c.self.inside.kept
kept_len c = let b = c.self.inside in rw (← c.self.view_is) (length-map (take b.kept b.ring.list) kept_block_of ∙ length-take-le b.kept b.ring.list c.self.invariant.kept)

-- the bytes that are taken, and the blocks that they fill
taken : (c : After-div_ceil-count) → c.min-taken.result ≡ accepted_of c.args.self.now (length c.args.bytes.now) c.args.most
taken c = let payload : c.args.self.now.payload ≡ c.self.inside.payload = ap (λ (s : SendBlocks). s.payload) (sym c.self.view_is) in
    rw (c.min-taken.ensures, c.min-blocks.ensures, c.free.ensures, payload) refl

count : (c : After-div_ceil-count) → c.div_ceil-count.result ≡ count_for (length (take c.min-taken.result c.args.bytes.now)) c.self.inside.payload
count c =
    let len : length (take c.min-taken.result c.args.bytes.now) ≡ c.min-taken.result = length-take-le c.min-taken.result c.args.bytes.now (omega (arith, c.min-taken.ensures)) in
    rw len (c.div_ceil-count.ensures ∙ count_is c.min-taken.result c.self.inside.payload c.self.invariant.some)

-- they fit into the free blocks, and are no more than asked
few : (c : After-div_ceil-count) → c.div_ceil-count.result ≤ c.min-blocks.result
few c =
    let within : c.min-taken.result ≤ c.min-blocks.result * c.self.inside.payload = omega (arith, c.min-taken.ensures) in
    rw (c.div_ceil-count.ensures, count_is c.min-taken.result c.self.inside.payload c.self.invariant.some)
    (count_within c.min-taken.result c.self.inside.payload c.min-blocks.result c.self.invariant.some within)

free : (c : After-div_ceil-count) → c.free.result ≡ length c.self.inside.ring.list - c.self.inside.kept
free c = let blocks : c.args.self.now.blocks ≡ length c.self.inside.ring.list = ap (λ (s : SendBlocks). s.blocks) (sym c.self.view_is) in
    rw (c.free.ensures, blocks, kept_len c) refl

first : (c : After-div_ceil-count) → c.args.self.now.first ≡ c.self.inside.first
first c = ap (λ (s : SendBlocks). s.first) (sym c.self.view_is)

pub invariant_of-self : goal.invariant_of-self
invariant_of-self c =
    let here = (goal.at.invariant_of-self c).After-div_ceil-count in
    let b = c.self.invariant in
    let blocks = few here in
    let left = free here in
    let g = c.keep.ensures in
    let payload = c.self.inside.payload in
    let bytes = take c.min-taken.result c.args.bytes.now in
    let len : length bytes ≡ c.min-taken.result = length-take-le c.min-taken.result c.args.bytes.now (omega (arith, c.min-taken.ensures)) in
    let all : c.div_ceil-count.result * payload < length bytes + payload = rw (c.div_ceil-count.ensures, len) (div_ceil_times c.min-taken.result payload b.some).1 in
    record {
      kept = omega (arith, blocks, left, c.min-blocks.ensures, g.len, b.kept);
      cut = rw g.kept (All-append (IsCut payload) (map kept_block_of (take c.self.inside.kept c.self.inside.ring.list)) (blocks_of _ payload _ c.div_ceil-count.result bytes) b.cut (blocks_of-cut _ payload _ c.div_ceil-count.result bytes b.some all));
      few = omega (arith, g.len, b.few);
      some = b.some;
      room = omega (arith, g.same, b.room);
      small = omega (arith, g.same, b.small);
      within = omega (arith, blocks, c.min-blocks.ensures, c.requires, first here, kept_len here);
    }

pub returns-clause-next : goal.returns-clause-next
returns-clause-next c =
    let here = (goal.at.returns-clause-next c).After-div_ceil-count in
    let b = c.self.inside in
    let g = c.keep.ensures in
    let kept = length-map (take b.kept b.ring.list) kept_block_of ∙ length-take-le b.kept b.ring.list c.self.invariant.kept in
    rw (g.kept, g.len, g.same, ← taken here, c.saturating_sub.ensures, count here, ← c.self.view_is, kept) refl

pub returns-clause-bytes : goal.returns-clause-bytes
returns-clause-bytes c =
    let here = (goal.at.returns-clause-bytes c).After-div_ceil-count in
    let b = c.self.inside in
    let len : length (take c.min-taken.result c.args.bytes.now) ≡ c.min-taken.result = length-take-le c.min-taken.result c.args.bytes.now (omega (arith, c.min-taken.ensures)) in
    let fits = rw len at (count_fits (length (take c.min-taken.result c.args.bytes.now)) b.payload c.self.invariant.some) in
    rw (c.keep.ensures.kept, ← c.self.view_is) (joined_more (map kept_block_of (take b.kept b.ring.list)) _ b.payload _ c.div_ceil-count.result (take c.min-taken.result c.args.bytes.now) (rw (len, count here, len) fits))
