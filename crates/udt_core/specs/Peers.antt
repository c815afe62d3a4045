-- The peer of a socket, as the code tells it.
use Rattle.std.specs.Prelude.{ℕ, Option, Some, None}
use Rattle.udt_model.specs.declared.addresses.Addr.{Addr}
use Rattle.udt_model.specs.declared.answers.Origin.{Origin}
use Rattle.udt_model.specs.declared.answers.Origin.TheVariants as origin
use Rattle.udt_model.specs.declared.answers.Peer.{Peer}

-- its address and its ID, where there is one
abbrev pub pair_by : Origin → Peer → Option (Addr × ℕ)
pair_by origin.Nobody peer = None
pair_by from peer = Some (peer.addr, peer.id)
