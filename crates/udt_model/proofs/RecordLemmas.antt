-- What joined histories emit and what arrives in them.
use Rattle.std.proofs.Common.{◌≡◌, List, [], ◌∷◌, ◌++◌, length, refl, ap, ◌∙◌, sym, subst, inl, inr, arith}
use Rattle.std.specs.Prelude.{map}
use Rattle.std.specs.List.{Contains}
use Rattle.std.proofs.lemmas.List.{append_assoc, map-append, length-map}
use Rattle.std.proofs.lemmas.List.Elements.{Contains-append_left, Contains-append_right, Contains-append_cases, Contains-push_cases, Contains-push}
use Rattle.udt_model.specs.Emissions.{emitted_by, sent_by, arrived_by_act, arrived_by}
use Rattle.udt_model.specs.History.{Item, after_items, AreLegal}
use Rattle.udt_model.specs.Rate.{Ways}
use Rattle.udt_model.specs.State.{State, Datagram, Emission}
use Rattle.udt_model.specs.Step.{step}

pub sent_by-append : (items more : List Item) → sent_by (items ++ more) ≡ sent_by items ++ sent_by more
unfolding sent_by
sent_by-append [] more = refl
sent_by-append (item ∷ items) more =
    ap (λ (rest : List Datagram). item.outs ++ rest) (sent_by-append items more) ∙ sym (append_assoc item.outs (sent_by items) (sent_by more))

pub arrived_by-append : (items more : List Item) → arrived_by (items ++ more) ≡ arrived_by items ++ arrived_by more
unfolding arrived_by
arrived_by-append [] more = refl
arrived_by-append (item ∷ items) more =
    ap (λ (rest : List Datagram). arrived_by_act item.event.act ++ rest) (arrived_by-append items more)
    ∙ sym (append_assoc (arrived_by_act item.event.act) (arrived_by items) (arrived_by more))

-- the datagram of an emission
abbrev pub datagram_of : Emission → Datagram
datagram_of emission = emission.datagram

-- an emission with this datagram
pub record IsEmission (emissions : List Emission) (datagram : Datagram) : Type 0 where
  pub emission : Emission
  pub among : Contains emissions emission
  pub datagram_is : emission.datagram ≡ datagram

pub emission-of : (emissions : List Emission) (datagram : Datagram) → Contains (map datagram_of emissions) datagram → IsEmission emissions datagram
emission-of [] datagram among = absurd (omega (arith, among.1))
emission-of (first ∷ others) datagram among =
    elim (Contains-append_cases (first.datagram ∷ []) (map datagram_of others) datagram among) [
      | inl here ↦ elim (Contains-push_cases [] first.datagram datagram here) [
        | inl none ↦ absurd (omega (arith, none.1))
        | inr same ↦ record { emission = first; among = Contains-append_left (first ∷ []) others first (Contains-push [] first); datagram_is = same }
      ]
      | inr there ↦
          let found = emission-of others datagram there in
          record {
            emission = found.emission;
            among = Contains-append_right (first ∷ []) others found.emission found.among;
            datagram_is = found.datagram_is;
          }
    ]

module _ {C : Type 0} (w : Ways C) where
  pub emitted_by-append : (s : State C) (items more : List Item)
      → emitted_by w s (items ++ more) ≡ emitted_by w s items ++ emitted_by w (after_items w s items) more
  unfolding emitted_by after_items
  emitted_by-append s [] more = refl
  emitted_by-append s (item ∷ items) more =
      let here = (step w s item.event).emissions in
      let next = (step w s item.event).after in
      ap (λ (rest : List Emission). here ++ rest) (emitted_by-append next items more)
      ∙ sym (append_assoc here (emitted_by w next items) (emitted_by w (after_items w next items) more))

  -- all emissions of legal items are all datagrams that were sent, in order
  pub emitted_by-sent : (s : State C) (items : List Item) → AreLegal w s items → map datagram_of (emitted_by w s items) ≡ sent_by items
  unfolding AreLegal emitted_by sent_by
  emitted_by-sent s [] legal = refl
  emitted_by-sent s (item ∷ items) legal =
      let here = (step w s item.event).emissions in
      let next = (step w s item.event).after in
      map-append datagram_of here (emitted_by w next items)
      ∙ ap (λ (front : List Datagram). front ++ map datagram_of (emitted_by w next items)) (sym legal.1)
      ∙ ap (λ (rest : List Datagram). item.outs ++ rest) (emitted_by-sent next items legal.2)

  -- so there are as many of both
  pub length-emitted_by : (s : State C) (items : List Item) → AreLegal w s items → length (emitted_by w s items) ≡ length (sent_by items)
  length-emitted_by s items legal = sym (length-map (emitted_by w s items) datagram_of) ∙ ap length (emitted_by-sent s items legal)

  -- each datagram that legal items sent is one of their emissions
  pub emitted-from_sent : (s : State C) (items : List Item) (datagram : Datagram) → AreLegal w s items → Contains (sent_by items) datagram
      → IsEmission (emitted_by w s items) datagram
  emitted-from_sent s items datagram legal among =
      emission-of (emitted_by w s items) datagram
      (subst (λ (sent : List Datagram). Contains sent datagram) (sym (emitted_by-sent s items legal)) among)
