-- The header and the words of the range stand at the front.
use Rattle.std.proofs.Common.{[], ◌++◌, refl, sym}
use Rattle.std.proofs.lemmas.List.{append-nil}
use Rattle.udt_model.specs.Wire.{header, type_word, range_bytes, ranges_bytes, spelling}
use Rattle.udt_core.specs.Emitted.{range_of, numbers_from}
use Rattle.udt_packet.proofs.TwoPuts.{at-front}
use Rattle.udt_core.proofs.outs.nak.put_gap.Goals as goal

pub returns : goal.returns
unfolding spelling ranges_bytes
returns c =
    let words = range_bytes (numbers_from c.args.isn (range_of c.args.gap)) in
    let front =
    at-front c.args.into.now _ _ _ _ (header (type_word 3) 0 c.args.stamp c.args.dest) (words ++ []) _ _ refl (sym (append-nil words))
    c.put_nak_header-place.ensures.value c.put_nak_header-place.ensures.after c.put_offsets.ensures.value c.put_offsets.ensures.after in
    record { value = front.value; after = front.after }
