-- A kept block can be sent, and what is shown of it is what is kept.
use Rattle.std.proofs.Common.{rules, ◌≡◌, length, Some, ap, arith}
use Rattle.std.specs.Prelude.{option_map}
use Rattle.udt_model.specs.SendBlocks.{KeptBlock, kept_at}
use Rattle.udt_snd_buffer.specs.Shown.{Shown, shown, shown_of}
use Rattle.udt_sender.specs.Packets.{IsSound}
use Rattle.udt_sender.proofs.BlockLemmas.{found_sound, shown_found}
use Rattle.udt_sender.proofs.sender.packing.write_kept.Goals as goal
use Rattle.udt_sender.proofs.sender.packing.write_kept.Goals.{After-seq_of}

-- the block that is kept under the offset
block : (c : After-seq_of) → (block : KeptBlock) × (kept_at c.args.buffer.now c.args.offset ≡ Some block) × (shown c.in-Some.field-0 ≡ shown_of block)
block c =
    let is : Some (shown c.in-Some.field-0) ≡ option_map shown_of (kept_at c.args.buffer.now c.args.offset) = search rules in
    shown_found (shown c.in-Some.field-0) (kept_at c.args.buffer.now c.args.offset) is

sound : (c : After-seq_of) → IsSound c.args.buffer.now.payload (block c).0
sound c = found_sound c.args.buffer.now.payload c.args.buffer.now c.args.offset (block c).0 c.requires.sound (block c).1

len : (c : After-seq_of) → length c.in-Some.field-0.bytes.now ≡ length (block c).0.bytes
len c = ap (λ (x : Shown). length x.bytes) (block c).2

pub write_block-requires-clause-fits : goal.write_block-requires-clause-fits
write_block-requires-clause-fits c =
    let here = (goal.at.write_block-requires-clause-fits c).After-seq_of in
    omega (arith, (sound here).fits, len here)

pub write_block-requires-clause-message : goal.write_block-requires-clause-message
write_block-requires-clause-message c =
    let here = (goal.at.write_block-requires-clause-message c).After-seq_of in
    let message : c.in-Some.field-0.flags.message ≡ (block here).0.flags.message = ap (λ (x : Shown). x.flags.message) (block here).2 in
    omega (arith, message, (sound here).message)

pub returns-in-Some-clause-value : goal.returns-in-Some-clause-value
returns-in-Some-clause-value c = λ other found.
    let here = (goal.at.returns-in-Some-clause-value c).After-seq_of in
    let same : (block here).0 ≡ other = cc ((block here).1, found) in
    let bytes : length (block here).0.bytes ≡ length other.bytes = ap (λ (b : KeptBlock). length b.bytes) same in
    omega (arith, c.write_block.ensures.value, len here, bytes)
