-- The law of every control, for the native control: each call keeps to the states that stay in the
-- bounds.
use Rattle.std.proofs.Common.{◌≡◌, ℕ, ◌+◌, ◌*◌, ◌/◌, ◌≤◌, Bool, true, false, List, [], ◌∷◌, refl, arith}
use Rattle.std.specs.Prelude.{nat_le}
use Rattle.std.proofs.Math.Nat.{div-le_of_le-mul}
use Rattle.std.proofs.lemmas.Bool.{cond_both}
use Rattle.udt_model.specs.Rate.{Feedback, Call, OnAck, OnNak, OnTimeout, after_call, after_calls, IsInBounds, StaysInBounds, is_new_loss, Pacing, opening, opened, ended, slowed_down, acknowledged, reported, after_timeout, native, shorter_of, increase_of, syn_nano_millionths, IsPaced, NativeIsPaced}
use Rattle.udt_model.specs.declared.limits.TheConstants.{FIRST_WINDOW}

-- a shorter period is no longer
pub shorter_is_no_longer : (period inc : ℕ) → 1 ≤ period → shorter_of period inc ≤ period
shorter_is_no_longer period inc positive =
    let short : period * syn_nano_millionths / (period * inc + syn_nano_millionths) ≤ period =
    div-le_of_le-mul (period * inc + syn_nano_millionths) (omega arith) in
    omega arith

-- the end of slow start leads to such a state
ended_is_paced : (n : Pacing) (seen : Feedback) → IsPaced n → IsPaced (ended n seen)
ended_is_paced n seen h =
    record {
      packet = h.packet;
      window = h.window;
      window_end = h.window_end;
      period = omega arith;
      slow_start = λ e. absurd (cc e);
      started = λ _. omega arith;
    }

-- so does the growth of slow start
opened_is_paced : (n : Pacing) (seen : Feedback) → IsPaced n → IsPaced (opened n seen)
opened_is_paced n seen h =
    record {
      packet = h.packet;
      window = omega (arith, h.window);
      window_end = omega arith;
      period = h.period;
      slow_start = h.slow_start;
      started = h.started;
    }

-- an ACK keeps to such states
ack_is_paced :
    (slow : Bool) (n : Pacing) (seen : Feedback) → n.slow ≡ slow → IsPaced n
    → IsPaced (acknowledged slow n seen)
ack_is_paced true n seen is_slow h =
    cond_both (nat_le n.flow (opened n seen).window) (ended (opened n seen) seen) (opened n seen) (λ m. IsPaced m)
    (λ _. ended_is_paced (opened n seen) seen (opened_is_paced n seen h))
    (λ _. opened_is_paced n seen h)
ack_is_paced false n seen is_slow h =
    let inc = increase_of seen.capacity n.period_nanos n.packet_bytes in
    let short = shorter_is_no_longer n.period_nanos inc (h.started is_slow) in
    record {
      packet = h.packet;
      window = omega arith;
      window_end = omega arith;
      period = omega (arith, h.period, short);
      slow_start = λ e. absurd (cc (e, is_slow));
      started = λ _. omega arith;
    }

-- a decrease does
slowed_is_paced :
    (n : Pacing) (sent : ℕ) → n.slow ≡ false → IsPaced n → IsPaced (slowed_down n sent)
slowed_is_paced n sent is_over h =
    record {
      packet = h.packet;
      window = h.window;
      window_end = h.window_end;
      period = omega arith;
      slow_start = λ e. absurd (cc (e, is_over));
      started = λ _. omega (arith, h.started is_over);
    }

-- a NAK does
nak_is_paced :
    (slow : Bool) (n : Pacing) (first sent : ℕ) (seen : Feedback) → n.slow ≡ slow → IsPaced n
    → IsPaced (reported slow n first sent seen)
nak_is_paced true n first sent seen is_slow h = ended_is_paced n seen h
nak_is_paced false n first sent seen is_slow h =
    cond_both (is_new_loss n.last_dec first) (slowed_down n sent) n (λ m. IsPaced m)
    (λ _. slowed_is_paced n sent is_slow h)
    (λ _. h)

-- a timeout does
timeout_is_paced : (n : Pacing) (seen : Feedback) → IsPaced n → IsPaced (after_timeout n seen)
timeout_is_paced n seen h =
    cond_both n.slow (ended n seen) n (λ m. IsPaced m) (λ _. ended_is_paced n seen h) (λ _. h)

-- each call does
pub call_is_paced : (n : Pacing) (call : Call) → IsPaced n → IsPaced (after_call native n call)
call_is_paced n (OnAck seen) h = ack_is_paced n.slow n seen refl h
call_is_paced n (OnNak first sent seen) h = nak_is_paced n.slow n first sent seen refl h
call_is_paced n (OnTimeout seen) h = timeout_is_paced n seen h

-- and so do all calls, one after the other
calls_are_paced : (calls : List Call) (n : Pacing) → IsPaced n → IsPaced (after_calls native n calls)
calls_are_paced [] n h = h
calls_are_paced (call ∷ calls) n h = calls_are_paced calls (after_call native n call) (call_is_paced n call h)

-- a connection begins in such a state
pub opening_is_paced : (packet flow : ℕ) → 1 ≤ packet → IsPaced (opening packet flow)
opening_is_paced packet flow positive =
    record {
      packet = positive;
      window = omega arith;
      window_end = omega arith;
      period = omega arith;
      slow_start = λ _. refl;
      started = λ e. absurd (cc e);
    }

pub native_is_paced : NativeIsPaced
native_is_paced packet flow calls positive allowed =
    calls_are_paced calls (opening packet flow) (opening_is_paced packet flow positive)

-- such a state is in the bounds of every control
pub paced_is_in_bounds : (n : Pacing) → IsPaced n → IsInBounds n.window n.period_nanos
paced_is_in_bounds n h = record { least = omega (arith, h.window); longest = h.period }

pub native_stays_in_bounds : StaysInBounds native
native_stays_in_bounds packet flow calls positive allowed =
    paced_is_in_bounds (after_calls native (opening packet flow) calls) (native_is_paced packet flow calls positive allowed)

-- the first window and no period are in these bounds
pub first_is_in_bounds : IsInBounds FIRST_WINDOW 0
first_is_in_bounds = record { least = omega arith; longest = omega arith }
