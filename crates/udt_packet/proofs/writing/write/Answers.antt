-- The header and the field stand at the front.
use Rattle.std.proofs.Common.{◌∙◌}
use Rattle.udt_model.specs.Wire.{spelling}
use Rattle.udt_packet.proofs.TwoPuts.{short-is_field, at-front}
use Rattle.udt_packet.proofs.writing.write.Goals as goal

pub returns-in_default : goal.returns-in_default
unfolding spelling
returns-in_default c =
    let field = c.as_slice.ensures ∙ c.short_field.ensures ∙ short-is_field c.args.packet.now c.in_default.not-Block c.in_default.not-Nak in
    let front =
    at-front c.args.into.now _ _ _ _ _ _ _ _ c.header_of.ensures field c.put-place.ensures.value c.put-place.ensures.after c.put-in_default.ensures.value c.put-in_default.ensures.after in
    record { value = front.value; after = front.after }
