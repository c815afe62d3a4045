-- The messages that a history accepted, which are those that it was asked to send.
use Rattle.std.proofs.Common.{◌≡◌, ℕ, zero, suc, Bool, List, [], ◌∷◌, ◌++◌, map, Ok, Err, refl, ap, ◌∙◌, sym}
use Rattle.std.specs.Prelude.{Option}
use Rattle.std.proofs.lemmas.List.{append_assoc, map-append}
use Rattle.udt_model.specs.Events.{Act, SendMessage, Reply, SentMessage, at_moment}
use Rattle.udt_model.specs.History.{Item, asked_by, asked_from, after_items}
use Rattle.udt_model.specs.Rate.{Ways}
use Rattle.udt_model.specs.SendHalf.{expiry_of}
use Rattle.udt_model.specs.State.{State}
use Rattle.udt_model.specs.Step.{step}
use Rattle.udt_laws.proofs.laid_messages.Layout.{LaidMessage, asked_as}
use Rattle.udt_laws.proofs.laid_messages.KeptMessages.{laid_after}

module _ {C : Type 0} where
  -- the message that an event accepted, which its answer tells
  abbrev pub laid_by : State C → Act → Reply → List LaidMessage
  laid_by s (SendMessage ttl order bytes) (SentMessage (Ok (suc count))) =
      laid_after s.sending.blocks s.sending.message order (expiry_of s.last ttl) bytes ∷ []
  laid_by s act reply = []

  -- it is the one that was asked
  answered-laid : (s : State C) (now : ℕ) (ttl : Option ℕ) (order : Bool) (bytes : List ℕ) (reply : Reply)
      → asked_by s (SendMessage ttl order bytes) reply ≡ map asked_as (laid_by (at_moment s now) (SendMessage ttl order bytes) reply)
  answered-laid s now ttl order bytes (SentMessage (Ok zero)) = refl
  answered-laid s now ttl order bytes (SentMessage (Ok (suc count))) = refl
  answered-laid s now ttl order bytes (SentMessage (Err why)) = refl
  answered-laid s now ttl order bytes _ = refl

  asked_by-laid : (s : State C) (now : ℕ) (act : Act) (reply : Reply) → asked_by s act reply ≡ map asked_as (laid_by (at_moment s now) act reply)
  asked_by-laid s now (SendMessage ttl order bytes) reply = answered-laid s now ttl order bytes reply
  asked_by-laid s now _ reply = refl

module _ {C : Type 0} (w : Ways C) where
  -- the messages that these items accepted, from this state on
  unfoldable pub laid_from : State C → List Item → List LaidMessage
  laid_from s [] = []
  laid_from s (item ∷ items) =
      laid_by (at_moment s item.event.now) item.event.act item.reply ++ laid_from (step w s item.event).after items

  pub laid_from-append : (s : State C) (items more : List Item) → laid_from s (items ++ more) ≡ laid_from s items ++ laid_from (after_items w s items) more
  unfolding laid_from after_items
  laid_from-append s [] more = refl
  laid_from-append s (item ∷ items) more =
      let one = laid_by (at_moment s item.event.now) item.event.act item.reply in
      let next = (step w s item.event).after in
      ap (λ (rest : List LaidMessage). one ++ rest) (laid_from-append next items more)
      ∙ sym (append_assoc one (laid_from next items) (laid_from (after_items w next items) more))

  -- they are those that were asked
  pub asked_from-laid : (s : State C) (items : List Item) → asked_from w s items ≡ map asked_as (laid_from s items)
  unfolding laid_from asked_from
  asked_from-laid s [] = refl
  asked_from-laid s (item ∷ items) =
      let one = laid_by (at_moment s item.event.now) item.event.act item.reply in
      let next = (step w s item.event).after in
      ap (λ first. first ++ asked_from w next items) (asked_by-laid s item.event.now item.event.act item.reply)
      ∙ ap (λ rest. map asked_as one ++ rest) (asked_from-laid next items)
      ∙ sym (map-append asked_as one (laid_from next items))
