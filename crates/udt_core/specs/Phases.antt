-- Where a socket stands, as the definitions have it.
use Rattle.std.specs.Prelude.{◌≡◌, []}
use Rattle.udt_model.specs.Phases.{Phase}
use Rattle.udt_model.specs.Phases as phase
use Rattle.udt_model.specs.SendBlocks.{SendBlocks}
use Rattle.udt_core.specs.declared.phase.Phase.{Phase as CodePhase}
use Rattle.udt_core.specs.declared.phase.Phase.TheVariants as code

abbrev pub phase_of : CodePhase → Phase
phase_of code.Opened = phase.Opened
phase_of (code.Listening backlog) = phase.Listening backlog
phase_of (code.Connecting client again) = phase.Connecting client again
phase_of (code.Meeting meeting again) = phase.Meeting meeting again
phase_of code.Connected = phase.Connected
phase_of (code.Broken why) = phase.Broken why
phase_of (code.Failed why) = phase.Failed why
phase_of code.Closing = phase.Closing
phase_of code.Closed = phase.Closed

-- a socket that may be connected yet has taken no bytes
abbrev pub HasTakenNothing : Phase → SendBlocks → Type 0
HasTakenNothing phase.Opened b = b.kept ≡ []
HasTakenNothing (phase.Listening backlog) b = b.kept ≡ []
HasTakenNothing (phase.Connecting client again) b = b.kept ≡ []
HasTakenNothing (phase.Meeting meeting again) b = b.kept ≡ []
HasTakenNothing other b = Unit {0}
