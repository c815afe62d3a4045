use Rattle.std.proofs.Common.{ap, ◌∙◌, zero-add}
use Rattle.udt_model.specs.Addresses.{address_text, addr_of}
use Rattle.udt_outside.proofs.PrintedLemmas.{reads_back}
use Rattle.udt_outside.proofs.WritingLemmas.{in_turn}
use Rattle.udt_outside.proofs.writing.write_addr.Goals as goal

-- the IP address, and then the port
pub returns-clause-value : goal.returns-clause-value
unfolding address_text
returns-clause-value c = (in_turn _ _ _ _ _ _ _ _ c.put_ip-at.ensures.text c.put_port.ensures.text).ends ∙ zero-add _

pub returns-clause-text : goal.returns-clause-text
unfolding address_text
returns-clause-text c = (in_turn _ _ _ _ _ _ _ _ c.put_ip-at.ensures.text c.put_port.ensures.text).front

pub returns-clause-rest : goal.returns-clause-rest
returns-clause-rest c = (in_turn _ _ _ _ _ _ _ _ c.put_ip-at.ensures.text c.put_port.ensures.text).rest

pub returns-clause-reads_back : goal.returns-clause-reads_back
returns-clause-reads_back c =
    ap addr_of (returns-clause-text c) ∙ reads_back c.args.addr c.put_ip-at.ensures.fits c.put_port.ensures.fits
