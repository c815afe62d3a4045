use Rattle.std.proofs.Common.{◌≡◌, ◌-◌, refl, ap, sym}
use Rattle.udt_model.specs.SendBlocks.{SendBlocks}
use Rattle.udt_snd_buffer.specs.Buffers.{send_blocks_of}
use Rattle.udt_snd_buffer.specs.KeptParts.{IsCut, kept_block_of}
use Rattle.udt_snd_buffer.proofs.KeptLemmas.{kept_found, kept_cut}
use Rattle.udt_snd_buffer.proofs.buffer.SndBuffer.part.Goals as goal
use Rattle.udt_snd_buffer.proofs.buffer.SndBuffer.part.Goals.{After-part}

-- the block is in the part that is as far after the first one
pub returns-clause-value : goal.returns-clause-value
returns-clause-value c =
    let b = c.self.inside in
    rw (← c.self.view_is) (kept_found (send_blocks_of b) b.ring.list b.kept c.args.offset _ refl c.if-offset-self.false c.if-offset-self-2.false c.part.ensures.value)

-- and is cut to the payload
cut : (c : After-part) → IsCut c.self.inside.payload (kept_block_of (record { head = c.part.result.0; bytes = c.part.result.1.now }))
cut c =
    let b = c.self.inside in
    kept_cut b.payload b.kept (c.args.offset - b.first) b.ring.list _ c.self.invariant.cut c.if-offset-self-2.false c.part.ensures.value

pub returns-clause-some : goal.returns-clause-some
returns-clause-some c = (cut ((goal.at.returns-clause-some c).After-part)).some

pub returns-clause-short : goal.returns-clause-short
returns-clause-short c =
    let payload : c.args.self.now.payload ≡ c.self.inside.payload = ap (λ (s : SendBlocks). s.payload) (sym c.self.view_is) in
    rw payload (cut ((goal.at.returns-clause-short c).After-part)).short
