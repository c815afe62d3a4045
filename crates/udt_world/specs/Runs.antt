-- A generated run as it lies in memory.
use Rattle.std.specs.Prelude.{◌≡◌, ℕ, ◌≤◌, [], ◌∷◌, length, codes, vec_len, Result, Ok, Err}
use Rattle.udt_model.specs.declared.answers.Refusal.{Refusal}
use Rattle.udt_model.specs.Generated as model
use Rattle.udt_model.specs.Generated.{counted_bytes}
use Rattle.udt_model.specs.History.{start_of, accepted, delivered}
use Rattle.udt_model.specs.Network.{Network, ScriptSocket}
use Rattle.udt_model.specs.Phases.{Connected}
use Rattle.udt_model.specs.Rate.{Ways}
use Rattle.udt_world.specs.declared.generated.Run.{Run}
use Rattle.udt_world.specs.declared.generated.TheConstants.{MOST_SENT, PATTERN}
use Rattle.udt_world.specs.Views.{view_of, Shows}
use Rattle.udt_world.specs.Wiring.{IsWired}

-- how many bytes an answer counts
abbrev pub count_in : Result ℕ Refusal → ℕ
count_in (Ok count) = count
count_in (Err why) = 0

-- two paired sockets, a and b, whose directions begin at 0: a accepted so many bytes, and b delivered so many
pub record Counts {C : Type 0} (n : Network C) (sent received : ℕ) : Type 0 where
  pub first : ScriptSocket C
  pub second : ScriptSocket C
  pub sockets_are : n.sockets ≡ first ∷ second ∷ []
  pub first_name : first.name ≡ codes "a"
  pub second_name : second.name ≡ codes "b"
  pub first_paired : first.history.opening.phase ≡ Connected
  pub second_paired : second.history.opening.phase ≡ Connected
  pub start : start_of first.history ≡ 0
  pub accepted : sent ≡ length (accepted first.history)
  pub delivered : received ≡ length (delivered second.history)

-- the sockets, the datagrams, the draws and the counts of bytes are those of the definitions' run
pub record IsRun {C : Type 0} (w : Ways C) (run : model.Run C) (code : Run C) : Type 0 where
  pub shown : Shows w run.network (view_of code.network)
  pub state : code.state ≡ run.state
  pub counts : Counts run.network code.accepted code.delivered

-- there are two sockets, bytes to be sent, and room for those that are received
pub record IsSet {C : Type 0} (code : Run C) : Type 0 where
  pub wired : IsWired code.network
  pub sockets : vec_len code.network.sockets ≡ 2
  pub pattern : code.pattern.items ≡ counted_bytes 0 PATTERN
  pub length : vec_len code.pattern ≡ PATTERN
  pub room : vec_len code.room ≡ MOST_SENT

-- at most so many bytes were counted each way
pub record IsBelow {C : Type 0} (code : Run C) (most : ℕ) : Type 0 where
  pub accepted : code.accepted ≤ most
  pub delivered : code.delivered ≤ most
