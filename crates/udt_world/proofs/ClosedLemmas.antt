-- What a socket shows of its phase and its peer.
use Rattle.std.proofs.Common.{◌≡◌, ℕ, ◌+◌, ◌*◌, ◌≤◌, ◌<◌, Bool, true, false, refl, arith}
use Rattle.udt_model.specs.declared.answers.Origin.{Origin}
use Rattle.udt_model.specs.declared.answers.Origin.TheVariants as origin
use Rattle.udt_model.specs.declared.answers.Peer.{Peer}
use Rattle.udt_model.specs.Phases.{is_closed}
use Rattle.udt_model.specs.Readiness.{can_read, can_write, is_over, has_offered, is_connected, ready_bits}
use Rattle.udt_model.specs.Records.{peer_by}
use Rattle.udt_model.specs.State.{State}
use Rattle.udt_model.specs.Wire.{bit}
use Rattle.udt_core.specs.Peers.{pair_by}
use Rattle.udt_world.specs.Wiring.{pair_in}

bit-small : (b : Bool) → bit b ≤ 1
bit-small true = omega arith
bit-small false = omega arith

shows_closed : (low : ℕ) (closed : Bool) → low ≤ 31 → 32 ≤ low + 32 * bit closed → closed ≡ true
shows_closed low true few many = refl
shows_closed low false few many = absurd (omega (arith, few, many))

shows_open : (low : ℕ) (closed : Bool) → low + 32 * bit closed < 32 → closed ≡ false
shows_open low false few = refl
shows_open low true few = absurd (omega (arith, few))

module _ {C : Type 0} (s : State C) where
  abbrev low : ℕ
  low = bit (can_read s) + 2 * bit (can_write s) + 4 * bit (is_over s.phase) + 8 * bit (has_offered s.phase) + 16 * bit (is_connected s.phase)

  low-small : low ≤ 31
  low-small = omega (arith, bit-small (can_read s), bit-small (can_write s), bit-small (is_over s.phase), bit-small (has_offered s.phase), bit-small (is_connected s.phase))

  -- a closed socket alone shows the highest bit
  pub closed_shown : 32 ≤ ready_bits s → is_closed s.phase ≡ true
  unfolding ready_bits
  closed_shown many = shows_closed low (is_closed s.phase) low-small many

  pub open_shown : ready_bits s < 32 → is_closed s.phase ≡ false
  unfolding ready_bits
  open_shown few = shows_open low (is_closed s.phase) few

-- its peer, as the code tells it
pub pair_told : (from : Origin) (peer : Peer) → pair_by from peer ≡ pair_in (peer_by from peer)
pair_told origin.Nobody peer = refl
pair_told from peer = refl
