-- What taking an ACK out of the history means.
use Rattle.std.specs.Prelude.{◌≡◌, ◌≢◌, ℕ, List, ◌∷◌, ◌++◌}
use Rattle.std.specs.List.{All}
use Rattle.udt_model.specs.Timing.{last_under}
use Rattle.udt_model.specs.declared.sockets.SentAck.{SentAck}

-- an ACK by its number, the offset that it named, and its moment
abbrev pub noted : ℕ → ℕ → ℕ → SentAck
noted number offset moment = record { number = number; offset = offset; moment = moment }

-- the offset that an ACK named, and its moment
abbrev pub answer_of : SentAck → ℕ × ℕ
answer_of note = (note.offset, note.moment)

-- the ACK that was taken out is the last with its number, and the others stay in their order
pub record TakesLast (number offset moment : ℕ) (old new : List SentAck) : Type 0 where
  pub before : List SentAck
  pub after : List SentAck
  pub was : old ≡ before ++ noted number offset moment ∷ after
  pub is : new ≡ before ++ after
  pub last : All (λ note. note.number ≢ number) after

-- what the other numbers find stays
abbrev pub KeepsOthers : ℕ → List SentAck → List SentAck → Type 0
KeepsOthers number old new =
    (other : ℕ) → other ≢ number → last_under other new ≡ last_under other old
