-- Histories joined end to end.
use Rattle.std.proofs.Common.{◌≡◌, ℕ, List, [], ◌∷◌, ◌++◌, refl, ap, ◌∙◌, sym}
use Rattle.std.proofs.lemmas.List.{append_assoc}
use Rattle.udt_model.specs.Events.{Event}
use Rattle.udt_model.specs.Rate.{Ways}
use Rattle.udt_model.specs.State.{State}
use Rattle.udt_model.specs.Step.{step}
use Rattle.udt_model.specs.History.{Item, History, after_items, state_of, AreLegal, IsLegal, happened, taken_by, given_by, accepted_by, delivered_by}

pub accepted_by-append : (items more : List Item) → accepted_by (items ++ more) ≡ accepted_by items ++ accepted_by more
unfolding accepted_by
accepted_by-append [] more = refl
accepted_by-append (item ∷ items) more =
    ap (λ (rest : List ℕ). taken_by item.event.act item.reply ++ rest) (accepted_by-append items more)
    ∙ sym (append_assoc (taken_by item.event.act item.reply) (accepted_by items) (accepted_by more))

pub delivered_by-append : (items more : List Item) → delivered_by (items ++ more) ≡ delivered_by items ++ delivered_by more
unfolding delivered_by
delivered_by-append [] more = refl
delivered_by-append (item ∷ items) more =
    ap (λ (rest : List ℕ). given_by item.reply ++ rest) (delivered_by-append items more)
    ∙ sym (append_assoc (given_by item.reply) (delivered_by items) (delivered_by more))

module _ {C : Type 0} (w : Ways C) where
  -- the state after joined items is that after the second ones, from the state after the first ones
  pub after_items-append : (s : State C) (items more : List Item) → after_items w s (items ++ more) ≡ after_items w (after_items w s items) more
  unfolding after_items
  after_items-append s [] more = refl
  after_items-append s (item ∷ items) more = after_items-append (step w s item.event).after items more

  -- joined items are legal where the first ones are, and the second ones from the state after the first
  pub AreLegal-append : (s : State C) (items more : List Item) → AreLegal w s items → AreLegal w (after_items w s items) more → AreLegal w s (items ++ more)
  unfolding after_items AreLegal
  AreLegal-append s [] more legal next = next
  AreLegal-append s (item ∷ items) more legal next =
      (legal.0, legal.1, AreLegal-append (step w s item.event).after items more legal.2 next)

  -- the first ones of legal items are legal
  pub AreLegal-front : (s : State C) (items more : List Item) → AreLegal w s (items ++ more) → AreLegal w s items
  unfolding AreLegal
  AreLegal-front s [] more legal = tt
  AreLegal-front s (item ∷ items) more legal = (legal.0, legal.1, AreLegal-front (step w s item.event).after items more legal.2)

  -- and so are the others
  pub AreLegal-rest : (s : State C) (items more : List Item) → AreLegal w s (items ++ more) → AreLegal w (after_items w s items) more
  unfolding after_items AreLegal
  AreLegal-rest s [] more legal = legal
  AreLegal-rest s (item ∷ items) more legal = AreLegal-rest (step w s item.event).after items more legal.2

  -- a history with one more event stays legal
  pub IsLegal-happened : (h : History C) (pass : ℕ) (event : Event) → IsLegal w h → IsLegal w (happened w h pass event)
  unfolding AreLegal
  IsLegal-happened h pass event legal = AreLegal-append h.opening h.items _ legal (refl, refl, tt)

  -- and leads to the state after that event
  pub state_of-happened : (h : History C) (pass : ℕ) (event : Event) → state_of w (happened w h pass event) ≡ (step w (state_of w h) event).after
  unfolding after_items
  state_of-happened h pass event = after_items-append h.opening h.items _
