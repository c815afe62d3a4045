use Rattle.std.proofs.Common.{sym, ◌∙◌}
use Rattle.udt_model.specs.Addresses.{addr_of}
use Rattle.udt_outside.proofs.ReadingLemmas.{bracketed}
use Rattle.udt_outside.proofs.reading.read_addr.Goals as goal

pub returns-then-begins_with : goal.returns-then-begins_with
returns-then-begins_with c =
    bracketed _ _ _ _ _ _ _ (sym c.begins_with.ensures.value ∙ c.if-begins_with.true) c.following_first-inner.ensures
    c.before-then-begins_with.ensures c.read_v6.ensures c.following.ensures c.read_port_after_colon.ensures c.with_port.ensures

-- any other is a V4 text and a port
pub returns : goal.returns
unfolding addr_of
returns c = rw (sym c.begins_with.ensures.value ∙ c.if-begins_with.false) (cc)
