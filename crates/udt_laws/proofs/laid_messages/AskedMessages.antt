-- The messages of a layout are those that its sender was asked to send.
use Rattle.std.proofs.Common.{◌≡◌, List, [], ◌∷◌, map, ap, ◌∙◌, sym, subst, inl, inr}
use Rattle.std.specs.List.{Contains}
use Rattle.udt_model.specs.History.{AskedMessage, ShownMessage, History, asked}
use Rattle.udt_model.specs.Rate.{Ways}
use Rattle.udt_laws.specs.Laws.{WasAsked}
use Rattle.udt_laws.proofs.laid_messages.Layout.{LaidMessage, asked_as}
use Rattle.udt_laws.proofs.laid_messages.LayoutEnds.{same-first}
use Rattle.udt_model.proofs.Members.{first-contained, other-contained, none-contained, contained-cases}
use Rattle.udt_laws.proofs.laid_messages.SentMessages.{SendsMessages}

-- one of the messages is the one that was asked
pub record IsAskedAs (messages : List LaidMessage) (one : AskedMessage) : Type 0 where
  pub laid : LaidMessage
  pub among : Contains messages laid
  pub is : asked_as laid ≡ one

pub asked-is : (messages : List LaidMessage) (one : AskedMessage) → Contains (map asked_as messages) one → IsAskedAs messages one
asked-is [] one there = absurd (none-contained one there)
asked-is (first ∷ others) one there = elim (contained-cases (asked_as first) (map asked_as others) one there) [
  | inl same ↦ record { laid = first; among = first-contained first others; is = same }
  | inr later ↦
      let found = asked-is others one later in
      record { laid = found.laid; among = other-contained first others found.laid found.among; is = found.is }
]

is-asked : (messages : List LaidMessage) (laid : LaidMessage) → Contains messages laid → Contains (map asked_as messages) (asked_as laid)
is-asked [] laid there = absurd (none-contained laid there)
is-asked (first ∷ others) laid there = elim (contained-cases first others laid there) [
  | inl same ↦
      subst (λ (l : LaidMessage). Contains (map asked_as (first ∷ others)) (asked_as l)) same
      (first-contained (asked_as first) (map asked_as others))
  | inr later ↦ other-contained (asked_as first) (map asked_as others) (asked_as laid) (is-asked others laid later)
]

module _ {C : Type 0} (w : Ways C) (h : History C) (sends : SendsMessages w h) (laid : LaidMessage) (among : Contains sends.laid laid) where
  -- a message that was asked at its first offset is this one
  asked-here : (one : AskedMessage) → Contains (asked w h) one → one.first ≡ laid.message.first → asked_as laid ≡ one
  asked-here one there at =
      let found = asked-is sends.laid one (subst (λ (all : List AskedMessage). Contains all one) sends.asked_is there) in
      let first = ap (λ (a : AskedMessage). a.first) found.is ∙ at in
      let same = same-first _ _ sends.laid found.laid laid sends.some sends.are_laid found.among among first in
      ap asked_as (sym same) ∙ found.is

  -- so where it is shown, it was asked
  pub shown-asked : (message : ShownMessage) → laid.message.first ≡ message.first → message.bytes ≡ laid.bytes → WasAsked w h message
  shown-asked message at bytes = record {
    asked_one = asked_as laid;
    among = subst (λ (all : List AskedMessage). Contains all (asked_as laid)) (sym sends.asked_is) (is-asked sends.laid laid among);
    at = at;
    same = λ another there first.
        sym (ap (λ (a : AskedMessage). a.bytes) (asked-here another there (first ∙ sym at))) ∙ sym bytes;
  }
