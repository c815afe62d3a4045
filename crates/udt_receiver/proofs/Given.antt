-- What reading a message leaves of the room for it and of the half.
use Rattle.std.proofs.Common.{◌≡◌, ℕ, ◌≤◌, List, length, drop, Some, None, refl, inl, inr}
use Rattle.std.specs.Prelude.{Option}
use Rattle.std.proofs.lemmas.Bool.{cases_lt, le-leb, lt-leb}
use Rattle.std.proofs.lemmas.List.{drop_at}
use Rattle.udt_model.specs.ReceiveBlocks.{WholeMessage, after_found}
use Rattle.udt_model.specs.ReceiveHalf.{Receiving}
use Rattle.udt_rcv_buffer.specs.Answers.{got_of, shown_in}
use Rattle.udt_receiver.specs.Shown.{IfWhole, UnlessWhole}

-- a message that is given has room
pub given-fits : (room : ℕ) (found : Option WholeMessage) → IfWhole (got_of room found) (λ count. count ≤ room)
given-fits room None = tt
given-fits room (Some m) = elim (cases_lt room (length m.bytes)) [
  | inl long ↦ rw (lt-leb (length m.bytes) room long) tt
  | inr fits ↦ rw (le-leb (length m.bytes) room fits) fits
]

-- the room behind it stays
pub given-rest : (into : List ℕ) (found : Option WholeMessage)
    → IfWhole (got_of (length into) found) (λ count. drop count (shown_in into found) ≡ drop count into)
given-rest into None = tt
given-rest into (Some m) = elim (cases_lt (length into) (length m.bytes)) [
  | inl long ↦ rw (lt-leb (length m.bytes) (length into) long) tt
  | inr fits ↦ rw (le-leb (length m.bytes) (length into) fits) (drop_at m.bytes (drop (length m.bytes) into) (length m.bytes) refl)
]

-- all of it stays where none is given
pub none-shown : (into : List ℕ) (found : Option WholeMessage) → UnlessWhole (got_of (length into) found) (shown_in into found ≡ into)
none-shown into None = refl
none-shown into (Some m) = elim (cases_lt (length into) (length m.bytes)) [
  | inl long ↦ rw (lt-leb (length m.bytes) (length into) long) refl
  | inr fits ↦ rw (le-leb (length m.bytes) (length into) fits) tt
]

-- and so does the half
pub none-taken : (r : Receiving) (room : ℕ) (found : Option WholeMessage)
    → UnlessWhole (got_of room found) (record r { blocks = after_found r.blocks room found } ≡ r)
none-taken r room None = refl
none-taken r room (Some m) = elim (cases_lt room (length m.bytes)) [
  | inl long ↦ rw (lt-leb (length m.bytes) room long) refl
  | inr fits ↦ rw (le-leb (length m.bytes) room fits) tt
]
