-- What a message socket shows of the layout of its own peer, in the words of what the peer was asked.
use Rattle.std.proofs.Common.{ℕ, ◌+◌, ◌<◌, ◌≤◌, List, ◌++◌, ap, ◌∙◌, subst}
use Rattle.std.specs.List.{Contains}
use Rattle.udt_model.specs.History.{AskedMessage, History, start_of, acked, placed_offsets, dropped_offsets}
use Rattle.udt_model.specs.Rate.{Ways}
use Rattle.udt_laws.specs.Laws.{CarriesMessages, IsOrdered, ShowsMessages}
use Rattle.udt_laws.proofs.sockets.Begins.{Begins, begins_placed, begins_given}
use Rattle.udt_laws.proofs.laid_messages.AskedMessages.{asked-is, shown-asked}
use Rattle.udt_laws.proofs.laid_messages.KeepsLayout.{AllMeetLayout}
use Rattle.udt_laws.proofs.laid_messages.SentMessages.{payload_of, SendsMessages}
use Rattle.udt_laws.proofs.laid_messages.ShownMessages.{IsOrderedAt, HasNone, shows-layout}

module _ {C : Type 0} (w : Ways C) where
  -- a message that was asked to be delivered in order is one of the layout that must be
  ordered-laid : (g : History C) (sends : SendsMessages w g) (first : ℕ) → IsOrdered w g first → IsOrderedAt sends.laid first
  ordered-laid g sends first ordered =
      let found = asked-is sends.laid ordered.asked_one
      (subst (λ (all : List AskedMessage). Contains all ordered.asked_one) sends.asked_is ordered.among) in
      record {
        laid = found.laid;
        among = found.among;
        at = ap (λ (x : AskedMessage). x.first) found.is ∙ ordered.at;
        ordered = ap (λ (x : AskedMessage). x.order) found.is ∙ ordered.ordered;
      }

  -- a socket that was just connected has received nothing
  begins-none : (h : History C) → Begins w h → HasNone h.opening.receiving.blocks
  begins-none h begins = record { placed = begins_placed w h begins; given = begins_given w h begins }

  -- where what arrives may place or drop nothing but what the other one sends, the one shows what the other was asked
  pub shows-asked : (h g : History C) → Begins w h → CarriesMessages h → (sends : SendsMessages w g)
      → AllMeetLayout (payload_of w g) sends.laid w h.opening h.items
      → ((offset : ℕ) → start_of g ≤ offset → offset < start_of g + acked w g → Contains (placed_offsets w h ++ dropped_offsets w h) offset)
      → ShowsMessages w h g
  shows-asked h g begins carries sends meet acknowledged =
      let of_layout = shows-layout (payload_of w g) (start_of g) sends.laid sends.some sends.are_laid w h.opening h.items carries
      (begins-none h begins) begins.legal meet in
      record {
        whole = λ message there.
            let whole = of_layout.whole message there in
            shown-asked w g sends whole.laid whole.among message whole.at whole.bytes;
        once = of_layout.once;
        in_order = λ m n one another less found found_too ordered ordered_too.
            of_layout.in_order m n one another less found found_too (ordered-laid g sends one.first ordered) (ordered-laid g sends another.first ordered_too);
        acknowledged = acknowledged;
      }
