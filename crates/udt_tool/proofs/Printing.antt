-- What a printed outcome promises.
use Rattle.std.proofs.Common.{◌≡◌, ◌∙◌, ℕ, List, [], ◌∷◌, refl, sym, ap, arith, Option, Some, None, Bool, true, false, append-nil}
use Rattle.std.specs.Prelude.{if◌then◌else◌}
use Rattle.std.proofs.lemmas.Bool.Decides.{nat_tests}
use Rattle.udt_tool.specs.Streamed.{Wrote, WrotePart}
use Rattle.udt_tool.specs.Commands.{Outcome, replayed, done_of, outcome_of, is_early, IsAmong, Prints}
use Rattle.udt_tool.specs.declared.offline.TheConstants.{DONE, REFUSED, SINK_FAILED, OUT_OF_MEMORY}
use Rattle.udt_model.specs.Script.{Played, played}
use Rattle.udt_words.specs.declared.order.Order.{Order}
use Rattle.udt_words.specs.declared.order.Order.TheVariants as order
use Rattle.udt_words.specs.Table.{order_of}

-- all of a text is a part of it, and so is nothing
whole_part : (before after : Option (List ℕ)) (text : List ℕ) → Wrote before after text → WrotePart before after text
whole_part None after text wrote = tt
whole_part (Some taken) after text wrote = ([], record { prefix = text; taken = wrote; whole = sym (append-nil text) })

no_part : (before : Option (List ℕ)) (text : List ℕ) → WrotePart before before text
no_part None text = tt
no_part (Some taken) text = (text, record { prefix = []; taken = ap Some (sym (append-nil taken)); whole = refl })

own_status : (status : ℕ) → IsAmong (OUT_OF_MEMORY ∷ SINK_FAILED ∷ status ∷ []) status
own_status status = grind (arith, nat_tests)

-- an early status is no outcome's
other_status : (early status : ℕ) → is_early early ≡ true → is_early status ≡ false → early ≡ status → ⊥
other_status early status is late same =
    let wrong : true ≡ false = sym is ∙ (ap is_early same ∙ late) in
    cc

pub all_printed : (outcome : Outcome) (before after : Option (List ℕ)) → Wrote before after outcome.text → Prints outcome before after outcome.status
all_printed outcome before after wrote = record {
  known = own_status outcome.status;
  whole = λ _. wrote;
  part = whole_part before after outcome.text wrote;
}

pub part_printed : (outcome : Outcome) (before after : Option (List ℕ)) → is_early outcome.status ≡ false → WrotePart before after outcome.text
    → Prints outcome before after SINK_FAILED
part_printed outcome before after late part = record {
  known = refl;
  whole = λ same. absurd (other_status SINK_FAILED outcome.status refl late same);
  part = part;
}

pub lost_printed : (outcome : Outcome) (before : Option (List ℕ)) → is_early outcome.status ≡ false → Prints outcome before before OUT_OF_MEMORY
lost_printed outcome before late = record {
  known = refl;
  whole = λ same. absurd (other_status OUT_OF_MEMORY outcome.status refl late same);
  part = no_part before outcome.text;
}

-- no outcome's status is early
pub replay_late : (p : Played) → is_early (replayed p).status ≡ false
replay_late p = by_refused p.refused
  where
    by_refused : (refused : Bool) → is_early (if refused then REFUSED else DONE) ≡ false
    by_refused true = refl
    by_refused false = refl

order_late : (found : Option Order) (script : List ℕ) → is_early (done_of found script).status ≡ false
order_late None script = refl
order_late (Some (order.Replay control)) script = replay_late (played control script)
order_late (Some (order.World n turns control)) script = refl
order_late (Some (order.Pair size count n)) script = refl
order_late (Some (order.Recv port name count)) script = refl
order_late (Some (order.Recv6 port name count)) script = refl
order_late (Some (order.Send name to)) script = refl
order_late (Some (order.Record turns n)) script = refl
order_late (Some order.Check) script = refl

-- memory ran out before a command was done
pub lost_command : (words : List (List ℕ)) (before : Option (List ℕ)) → Prints (outcome_of words []) before before OUT_OF_MEMORY
lost_command words before = lost_printed (outcome_of words []) before (order_late (order_of words) [])
