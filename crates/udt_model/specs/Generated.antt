-- The generated run: a script of which draws decide what each turn does.
use Rattle.std.specs.Prelude.{ℕ, zero, suc, ◌+◌, ◌-◌, ◌*◌, ◌%◌, ◌^◌, ◌==◌, min, List, [], ◌∷◌, ◌++◌, length, Option, Some, None, slice_get, nat_lt, codes, decimal, if◌then◌else◌}
use Rattle.udt_model.specs.declared.packets.Kind.TheVariants.{Stream}
use Rattle.udt_model.specs.declared.scripts.Summary.{Summary}
use Rattle.udt_model.specs.Draws.{next_state, draw}
use Rattle.udt_model.specs.Events.{Send, Recv, Pack, Tick, Act, event}
use Rattle.udt_model.specs.History.{accepted, delivered, acked}
use Rattle.udt_model.specs.Lines.{Pairing, Line, PairLine, CallLine, DeliverLine}
use Rattle.udt_model.specs.Network.{ScriptSocket, Network, empty_network}
use Rattle.udt_model.specs.Rate.{Ways}
use Rattle.udt_model.specs.Script.{left_by, on_line}
use Rattle.udt_model.specs.Texts.{spaced, ended}

-- the run after some turns: the network, and the state of the draws
pub record Run (C : Type 0) : Type 0 where
  pub network : Network C
  pub state : ℕ

-- the sockets are paired so
abbrev pub generated_pair : ℕ → Pairing
generated_pair n = record { kind = Stream; a = codes "a"; b = codes "b"; payload = 1456; isn = n % 2 ^ 31; blocks = 64; start = 0 }

-- this many bytes after so many: each is the number of its place modulo 251
unfoldable pub counted_bytes : ℕ → ℕ → List ℕ
counted_bytes before zero = []
counted_bytes before (suc count) = before % 251 ∷ counted_bytes (before + 1) count

-- the number of the datagram that is delivered of so many: one of the newest, or any
abbrev pub delivered_number : ℕ → ℕ → ℕ → ℕ
delivered_number kind drawn count =
    if nat_lt kind 7 then count - 1 - drawn % min count 32 else drawn % count

module _ {C : Type 0} where
  -- how many bytes the socket at a place accepted, and how many it delivered
  abbrev pub accepted_of : Option (ScriptSocket C) → ℕ
  accepted_of None = 0
  accepted_of (Some socket) = length (accepted socket.history)

  abbrev pub delivered_of : Option (ScriptSocket C) → ℕ
  delivered_of None = 0
  delivered_of (Some socket) = length (delivered socket.history)

module _ {C : Type 0} (w : Ways C) where
  abbrev pub acked_of : Option (ScriptSocket C) → ℕ
  acked_of None = 0
  acked_of (Some socket) = acked w socket.history

  -- the network after this line
  abbrev pub after_line : Network C → Line → Network C
  after_line n line = left_by n (on_line w n line)

  -- a call of the socket with this name
  abbrev pub after_call : Network C → List ℕ → ℕ → Act → Network C
  after_call n name now act = after_line n (CallLine name (event now act))

  -- a sends, with the bytes that follow those that it accepted
  abbrev pub after_sending : Run C → ℕ → Run C
  after_sending run now =
      let bytes = counted_bytes (accepted_of (slice_get run.network.sockets 0)) (1 + draw run.state % 4096) in
      record { network = after_call run.network (codes "a") now (Send bytes); state = next_state run.state }

  -- a datagram is delivered, where there are any
  abbrev pub after_delivery : Run C → ℕ → ℕ → Run C
  after_delivery run now kind =
      let count = length run.network.datagrams in
      if count == 0
      then run
      else record {
        network = after_line run.network (DeliverLine (delivered_number kind (draw run.state) count) now);
        state = next_state run.state;
      }

  -- what a turn of this kind does
  abbrev pub turn_of : Run C → ℕ → ℕ → Run C
  turn_of run now kind =
      if kind == 0
      then after_sending run now
      else (if kind == 1
      then record run { network = after_call run.network (codes "b") now (Recv 4096) }
      else (if nat_lt kind 4
      then record run { network = after_call run.network (codes "a") now Pack }
      else (if kind == 4
      then record run { network = after_call (after_call run.network (codes "a") now Tick) (codes "b") now Tick }
      else after_delivery run now kind)))

  -- a turn at this moment
  unfoldable pub turn : Run C → ℕ → Run C
  turn run now = turn_of (record run { state = next_state run.state }) now (draw run.state % 8)

  -- the run of this number after so many turns, 50 microseconds apart
  unfoldable pub generated : ℕ → ℕ → Run C
  generated n zero = record { network = after_line empty_network (PairLine (generated_pair n)); state = n }
  generated n (suc turns) = turn (generated n turns) (50 * (turns + 1))

  -- what is told of it: the bytes that a accepted and b delivered, the blocks of a that are acknowledged, and the
  -- datagrams of both
  abbrev pub summary_of : Network C → Summary
  summary_of n = record {
    accepted = accepted_of (slice_get n.sockets 0);
    delivered = delivered_of (slice_get n.sockets 1);
    acked = acked_of (slice_get n.sockets 0);
    datagrams = length n.datagrams;
  }

  abbrev pub generated_summary : ℕ → ℕ → Summary
  generated_summary n turns = summary_of (generated n turns).network

-- and the line that tells it
abbrev pub summary_text : ℕ → ℕ → Summary → List ℕ
summary_text n turns s =
    spaced (codes "world") ++ spaced (decimal n) ++ spaced (codes "turns") ++ spaced (decimal turns)
    ++ spaced (codes "accepted") ++ spaced (decimal s.accepted) ++ spaced (codes "delivered") ++ spaced (decimal s.delivered)
    ++ spaced (codes "acked") ++ spaced (decimal s.acked) ++ spaced (codes "datagrams") ++ ended (decimal s.datagrams)
