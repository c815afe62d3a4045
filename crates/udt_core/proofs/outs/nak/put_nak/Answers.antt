-- The header and the words of the ranges stand at the front.
use Rattle.std.proofs.Common.{refl}
use Rattle.udt_model.specs.Wire.{header, type_word, spelling}
use Rattle.udt_core.specs.Emitted.{numbers_bytes}
use Rattle.udt_packet.proofs.TwoPuts.{at-front}
use Rattle.udt_core.proofs.outs.nak.put_nak.Goals as goal

pub returns : goal.returns
unfolding spelling
returns c =
    let front =
    at-front c.args.into.now _ _ _ _ (header (type_word 3) 0 c.args.stamp c.args.dest) (numbers_bytes c.args.isn c.args.ranges.now.ranges) _ _ refl refl
    c.put_nak_header-place.ensures.value c.put_nak_header-place.ensures.after c.put_ranges.ensures.value c.put_ranges.ensures.after in
    record { value = front.value; after = front.after }
