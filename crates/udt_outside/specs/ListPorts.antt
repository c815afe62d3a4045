-- A port in memory, which hears a list of datagrams and keeps those that are said.
use Rattle.std.specs.Prelude.{◌≡◌, ℕ, ◌+◌, ◌-◌, ◌^◌, min, Bool, false, not, ◌||◌, nat_le, List, [], ◌∷◌, ◌++◌, Option, Some, None, length, take, drop, slice_get, is_none, if◌then◌else◌}
use Rattle.udt_model.specs.declared.addresses.Addr.{Addr}
use Rattle.udt_model.specs.State.{Datagram}
use Rattle.udt_outside.specs.declared.ports.Heard.{Heard}
use Rattle.udt_outside.specs.declared.ports.Heard.TheVariants as heard
use Rattle.udt_outside.specs.Calls.{Schedule, failed_of, fails_next, after_call}

-- ---- hearing

-- an end that hears: the stated datagrams, how many of them it gave, its calls, and how many answers were Quiet
pub record Hearing : Type 0 where
  pub stated : List Datagram
  pub at : ℕ
  pub calls : Schedule
  pub quiets : ℕ

-- no call was made yet
abbrev pub unused : List ℕ → Schedule
unused failing = record { failing = failing; made = 0 }

-- an end that was just made
abbrev pub fresh_in : List Datagram → List ℕ → Hearing
fresh_in stated failing = record { stated = stated; at = 0; calls = unused failing; quiets = 0 }

-- how many calls failed
abbrev pub hear_faults : Hearing → ℕ
hear_faults e = failed_of e.calls

-- it gave the first of the stated datagrams
abbrev pub given_by : Hearing → Option (List Datagram)
given_by e = Some (take e.at e.stated)

-- the answer that gives a datagram
abbrev pub told : Datagram → Heard
told d = heard.Datagram (length d.bytes) d.addr

-- what is answered where a datagram is left, and where none is
abbrev pub heard_at : Option Datagram → Heard
heard_at (Some d) = told d
heard_at None = heard.Quiet

-- the next answer of a call that doesn't fail: Quiet exactly where the stated datagrams are used up
abbrev pub heard_of : Hearing → Heard
heard_of e = heard_at (slice_get e.stated e.at)

-- a datagram was given, or else the quiet answer was counted
abbrev pub after_answer : Hearing → Option Datagram → Hearing
after_answer e (Some d) = record e { at = e.at + 1 }
after_answer e None = record e { quiets = min (e.quiets + 1) (2 ^ 64 - 1) }

-- a call was made, which failed by the list or gave an answer
abbrev pub after_hearing : Hearing → Hearing
after_hearing e =
    let after = if fails_next e.calls then e else after_answer e (slice_get e.stated e.at) in
    record after { calls = after_call e.calls }

-- ---- saying

-- an end that says: the datagrams that were said, how many bytes fit into each free place, its calls, and how many of
-- them found no room
pub record Saying : Type 0 where
  pub said : List Datagram
  pub places : List ℕ
  pub calls : Schedule
  pub refused : ℕ

-- an end that was just made
abbrev pub fresh_out : List ℕ → List ℕ → Saying
fresh_out places failing = record { said = []; places = places; calls = unused failing; refused = 0 }

-- how many calls failed, by the list or for want of room
abbrev pub say_faults : Saying → ℕ
say_faults e = min (failed_of e.calls + e.refused) (2 ^ 64 - 1)

-- the datagrams that were said are told
abbrev pub taken_by : Saying → Option (List Datagram)
taken_by e = Some e.said

-- whether this many bytes fit into the first place
abbrev pub fits_first : List ℕ → ℕ → Bool
fits_first [] len = false
fits_first (room ∷ places) len = nat_le len room

-- whether a datagram of these bytes fits
abbrev pub fits : Saying → List ℕ → Bool
fits e bytes = fits_first e.places (length bytes)

-- whether a call fails: by the list, or for want of room
abbrev pub say_fails : Saying → List ℕ → Bool
say_fails e bytes = fails_next e.calls || not (fits e bytes)

-- one more was said, and lies in the first place
abbrev pub after_adding : Saying → Addr → List ℕ → Saying
after_adding e to bytes =
    record e {
      said = e.said ++ record { addr = to; bytes = bytes } ∷ [];
      places = drop 1 e.places;
    }

-- a call was made, and the datagram was said
abbrev pub after_saying : Saying → Addr → List ℕ → Saying
after_saying e to bytes = let after = after_adding e to bytes in record after { calls = after_call e.calls }

-- a call was made that failed by the list, or else found no room and is counted by itself
abbrev pub after_refusing : Saying → Saying
after_refusing e =
    record e {
      calls = after_call e.calls;
      refused = if fails_next e.calls then e.refused else min (e.refused + 1) (2 ^ 64 - 1);
    }

-- ---- opening

-- ports: the ends that are ready, those that were last taken back, and their openings with those that found no ends
pub record Opening : Type 0 where
  pub ready : Option (Hearing × Saying)
  pub back : Option (Hearing × Saying)
  pub calls : Schedule
  pub refused : ℕ

-- neither end was called yet
pub record AreFresh (ends : Hearing × Saying) : Type 0 where
  pub at_first : ends.0.at ≡ 0
  pub none_heard : ends.0.calls.made ≡ 0
  pub no_quiets : ends.0.quiets ≡ 0
  pub none_said : ends.1.said ≡ []
  pub none_made : ends.1.calls.made ≡ 0
  pub none_refused : ends.1.refused ≡ 0

-- ports that were just made
abbrev pub opening : Hearing × Saying → List ℕ → Opening
opening ends failing = record { ready = Some ends; back = None; calls = unused failing; refused = 0 }

-- how many openings failed, by the list or since the ends were given already
abbrev pub open_faults : Opening → ℕ
open_faults p = min (failed_of p.calls + p.refused) (2 ^ 64 - 1)

-- whether an opening fails
abbrev pub open_fails : Opening → Bool
open_fails p = fails_next p.calls || is_none p.ready

-- a call was made, and the ends were given
abbrev pub after_opening : Opening → Opening
after_opening p = record p { ready = None; calls = after_call p.calls }

-- a call was made that failed by the list, or else found no ends and is counted by itself
abbrev pub after_failing_to_open : Opening → Opening
after_failing_to_open p =
    record p {
      calls = after_call p.calls;
      refused = if fails_next p.calls then p.refused else min (p.refused + 1) (2 ^ 64 - 1);
    }

-- both ends were taken back
abbrev pub after_closing : Opening → Hearing × Saying → Opening
after_closing p ends = record p { back = Some ends }

-- what is told of the ends that were taken back
abbrev pub ins_faults : Option (Hearing × Saying) → ℕ
ins_faults None = 0
ins_faults (Some ends) = hear_faults ends.0

abbrev pub outs_faults : Option (Hearing × Saying) → ℕ
outs_faults None = 0
outs_faults (Some ends) = say_faults ends.1

abbrev pub given_of : Option (Hearing × Saying) → Option (List Datagram)
given_of None = None
given_of (Some ends) = given_by ends.0

abbrev pub taken_of : Option (Hearing × Saying) → Option (List Datagram)
taken_of None = None
taken_of (Some ends) = taken_by ends.1

abbrev pub in_faults_of : Opening → ℕ
in_faults_of p = ins_faults p.back

abbrev pub out_faults_of : Opening → ℕ
out_faults_of p = outs_faults p.back

abbrev pub given_back : Opening → Option (List Datagram)
given_back p = given_of p.back

abbrev pub taken_back : Opening → Option (List Datagram)
taken_back p = taken_of p.back
