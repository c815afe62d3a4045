-- The law of every control, for the additive control: each call keeps to windows in the bounds.
use Rattle.std.proofs.Common.{ℕ, ◌+◌, ◌<◌, ◌≤◌, List, [], ◌∷◌, arith}
use Rattle.std.specs.Prelude.{nat_lt}
use Rattle.std.proofs.lemmas.Bool.{cond_both}
use Rattle.std.proofs.lemmas.Nat.{mod_below}
use Rattle.udt_model.specs.Rate.{Call, OnAck, OnNak, OnTimeout, after_call, after_calls, StaysInBounds, is_new_loss}
use Rattle.udt_model.specs.declared.limits.TheConstants.{LEAST_WINDOW, GREATEST_WINDOW}
use Rattle.udt_model.specs.Controls.{Additive, starting, doubling, adding, halved, additive}

-- a state that calls can lead to: the window is at least two packets and at most the largest, and
-- the rest is less than a window
pub record IsWindowed (a : Additive) : Type 0 where
  pub least : LEAST_WINDOW ≤ a.window
  pub most : a.window ≤ GREATEST_WINDOW
  pub threshold : a.threshold ≤ GREATEST_WINDOW
  pub rest : a.rest < a.window

-- growth keeps to such states
doubling_is_windowed : (a : Additive) (newly : ℕ) → IsWindowed a → IsWindowed (doubling a newly)
doubling_is_windowed a newly h =
    record {
      least = omega (arith, h.least);
      most = omega arith;
      threshold = h.threshold;
      rest = omega (arith, h.rest, h.most);
    }

adding_is_windowed : (a : Additive) (newly : ℕ) → IsWindowed a → IsWindowed (adding a newly)
adding_is_windowed a newly h =
    let below = mod_below (a.rest + newly) a.window (omega (arith, h.least)) in
    record {
      least = omega (arith, h.least);
      most = omega arith;
      threshold = h.threshold;
      rest = omega (arith, below, h.most);
    }

-- so does a decrease
halved_is_windowed : (a : Additive) (sent : ℕ) → IsWindowed a → IsWindowed (halved a sent)
halved_is_windowed a sent h =
    record {
      least = omega arith;
      most = omega (arith, h.most);
      threshold = omega (arith, h.most);
      rest = omega arith;
    }

-- each call does
pub call_is_windowed : (a : Additive) (call : Call) → IsWindowed a → IsWindowed (after_call additive a call)
call_is_windowed a (OnAck seen) h =
    cond_both (nat_lt a.window a.threshold) (doubling a seen.newly) (adding a seen.newly) (λ b. IsWindowed b)
    (λ _. doubling_is_windowed a seen.newly h)
    (λ _. adding_is_windowed a seen.newly h)
call_is_windowed a (OnNak first sent seen) h =
    cond_both (is_new_loss a.last_dec first) (halved a sent) a (λ b. IsWindowed b)
    (λ _. halved_is_windowed a sent h)
    (λ _. h)
call_is_windowed a (OnTimeout seen) h =
    record {
      least = omega arith;
      most = omega arith;
      threshold = omega (arith, h.most);
      rest = omega arith;
    }

-- and so do all calls, one after the other
pub calls_are_windowed : (calls : List Call) (a : Additive) → IsWindowed a → IsWindowed (after_calls additive a calls)
calls_are_windowed [] a h = h
calls_are_windowed (call ∷ calls) a h =
    calls_are_windowed calls (after_call additive a call) (call_is_windowed a call h)

-- a connection begins in such a state
pub starting_is_windowed : IsWindowed starting
starting_is_windowed =
    record { least = omega arith; most = omega arith; threshold = omega arith; rest = omega arith }

pub additive_stays_in_bounds : StaysInBounds additive
additive_stays_in_bounds packet flow calls positive allowed =
    record {
      least = (calls_are_windowed calls starting starting_is_windowed).least;
      longest = omega arith;
    }
