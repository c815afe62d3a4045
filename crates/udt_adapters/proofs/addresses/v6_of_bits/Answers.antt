use Rattle.udt_adapters.proofs.AddressLemmas.{bits_of_v6}
use Rattle.udt_adapters.proofs.addresses.v6_of_bits.Goals as goal

-- the bits of the address of given bits are these
pub returns : goal.returns
returns c = bits_of_v6 c.from_bits.result c.args.bits c.ranges.bits.fits c.from_bits.ensures
