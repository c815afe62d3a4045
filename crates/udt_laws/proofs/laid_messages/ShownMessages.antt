-- A message socket shows messages of the layout, each whole and once, and the ordered ones in their order, where arrivals bring
-- nothing that isn't of it.
use Rattle.std.proofs.Common.{◌≡◌, ℕ, zero, suc, ◌<◌, ◌≤◌, true, List, [], ◌∷◌, ◌++◌, Some, ap, ◌∙◌, sym, subst, inl, inr, arith}
use Rattle.std.specs.Prelude.{slice_get}
use Rattle.std.specs.List.{Contains}
use Rattle.std.proofs.lemmas.Bool.{cases_lt}
use Rattle.std.proofs.lemmas.Option.{same_Some}
use Rattle.udt_model.specs.declared.packets.Kind.TheVariants as kind
use Rattle.udt_model.specs.Events.{Reply}
use Rattle.udt_model.specs.History.{Item, ShownMessage, AreLegal, shown_by, shown_from}
use Rattle.udt_model.specs.Rate.{Ways}
use Rattle.udt_model.specs.ReceiveBlocks.{PlacedBlock, ReceiveBlocks, WholeMessage}
use Rattle.udt_model.specs.State.{State}
use Rattle.udt_model.specs.Step.{step}
use Rattle.udt_model.proofs.ReceivingLemmas.{AreRising}
use Rattle.udt_model.proofs.StepLemmas.{step-keeps_name}
use Rattle.udt_laws.proofs.laid_messages.Layout.{LaidMessage, AreLaidOut}
use Rattle.udt_laws.proofs.laid_messages.LayoutLemmas.{Covers}
use Rattle.udt_laws.proofs.laid_messages.LayoutEnds.{same-first}
use Rattle.udt_model.proofs.Members.{first-contained, other-contained, none-contained, contained-cases}
use Rattle.udt_laws.proofs.laid_messages.ConsumedOffsets.{IsConsumed}
use Rattle.udt_laws.proofs.laid_messages.ReceivedLayout.{IsOfLayout, GoesOn}
use Rattle.udt_laws.proofs.laid_messages.ReadMessages.{IsReadAs}
use Rattle.udt_laws.proofs.laid_messages.KeepsLayout.{AllMeetLayout, StepsSo, step-shows}

-- ---- what is promised

-- the message that was shown is one of the layout, and no other one of it begins there
pub record IsLaidAs (messages : List LaidMessage) (shown : ShownMessage) : Type 0 where
  pub laid : LaidMessage
  pub among : Contains messages laid
  pub at : laid.message.first ≡ shown.first
  pub bytes : shown.bytes ≡ laid.bytes
  pub only : (other : LaidMessage) → Contains messages other → other.message.first ≡ shown.first → other ≡ laid

-- the message that begins at this offset must be delivered in order
pub record IsOrderedAt (messages : List LaidMessage) (first : ℕ) : Type 0 where
  pub laid : LaidMessage
  pub among : Contains messages laid
  pub at : laid.message.first ≡ first
  pub ordered : laid.message.order ≡ true

-- the messages that were shown are of the layout, none is shown twice, and those that must be delivered in order are shown in
-- order
pub record AreShownOf (messages : List LaidMessage) (shown : List ShownMessage) : Type 0 where
  pub whole : (message : ShownMessage) → Contains shown message → IsLaidAs messages message
  pub once : (m n : ℕ) (one another : ShownMessage) → slice_get shown m ≡ Some one → slice_get shown n ≡ Some another
      → one.first ≡ another.first → m ≡ n
  pub in_order : (m n : ℕ) (one another : ShownMessage) → m < n → slice_get shown m ≡ Some one → slice_get shown n ≡ Some another
      → IsOrderedAt messages one.first → IsOrderedAt messages another.first → one.first < another.first

-- ---- one after another

-- a message that was shown later is another one, and of two ordered ones it lies after the first
record Follows (messages : List LaidMessage) (one later : ShownMessage) : Type 0 where
  differs : one.first ≡ later.first → ⊥
  above : IsOrderedAt messages one.first → IsOrderedAt messages later.first → one.first < later.first

-- each message follows each that was shown before it
abbrev FollowOn : List LaidMessage → List ShownMessage → Type 0
FollowOn messages [] = Unit {0}
FollowOn messages (one ∷ others) = ((later : ShownMessage) → Contains others later → Follows messages one later) × FollowOn messages others

-- what stands at a place is among them
get-contained : (shown : List ShownMessage) (n : ℕ) (one : ShownMessage) → slice_get shown n ≡ Some one → Contains shown one
get-contained [] n one found = absurd (cc)
get-contained (first ∷ others) zero one found = subst (Contains (first ∷ others)) (same_Some first one found) (first-contained first others)
get-contained (first ∷ others) (suc n) one found = other-contained first others one (get-contained others n one found)

-- so does the one at a later place
follows-at : (messages : List LaidMessage) (shown : List ShownMessage) (m n : ℕ) (one another : ShownMessage) → FollowOn messages shown → m < n
    → slice_get shown m ≡ Some one → slice_get shown n ≡ Some another → Follows messages one another
follows-at messages [] m n one another follow less found found_too = absurd (cc)
follows-at messages (first ∷ others) m zero one another follow less found found_too = absurd (omega (arith, less))
follows-at messages (first ∷ others) zero (suc n) one another follow less found found_too =
    subst (λ (x : ShownMessage). Follows messages x another) (same_Some first one found) (follow.0 another (get-contained others n another found_too))
follows-at messages (first ∷ others) (suc m) (suc n) one another follow less found found_too =
    follows-at messages others m n one another follow.1 (omega (arith, less)) found found_too

-- ---- nothing yet

-- no block is placed, and no byte of one was given
pub record HasNone (b : ReceiveBlocks) : Type 0 where
  pub placed : b.placed ≡ []
  pub given : b.given ≡ 0

no-block : (b : ReceiveBlocks) (block : PlacedBlock) → b.placed ≡ [] → Contains b.placed block → ⊥
no-block b block none there = none-contained block (subst (λ (placed : List PlacedBlock). Contains placed block) none there)

-- what is consumed then is below the base
none-begun : (b : ReceiveBlocks) (laid : LaidMessage) (n : ℕ) → HasNone b → Covers laid n → IsConsumed b n → IsConsumed b laid.message.first
none-begun b laid n none covers (inl below) = inl (omega (arith, below, covers.from))
none-begun b laid n none covers (inr has) = absurd (no-block b has.block none.placed has.among)

-- nothing is of any layout
none-of_layout : (payload : ℕ) (messages : List LaidMessage) (b : ReceiveBlocks) → HasNone b → IsOfLayout payload messages b
none-of_layout payload messages b none = record {
  given = none.given;
  rising = subst (AreRising b.base) (sym none.placed) tt;
  unread = λ block there unread. absurd (no-block b block none.placed there);
  begun = λ laid n among covers is. none-begun b laid n none covers is;
}

-- ---- what is shown from a state on

-- messages that may be shown from here on: none of them is consumed yet, each is of the layout, and each follows those before
record MayShow (messages : List LaidMessage) (b : ReceiveBlocks) (shown : List ShownMessage) : Type 0 where
  fresh : (message : ShownMessage) → Contains shown message → IsConsumed b message.first → ⊥
  whole : (message : ShownMessage) → Contains shown message → IsLaidAs messages message
  follow : FollowOn messages shown

-- none may always be
shows-none : (messages : List LaidMessage) (b : ReceiveBlocks) → MayShow messages b []
shows-none messages b = record {
  fresh = λ message there is. none-contained message there;
  whole = λ message there. absurd (none-contained message there);
  follow = tt;
}

-- those that may be are as promised, by their places
may-show-places : (messages : List LaidMessage) (b : ReceiveBlocks) (shown : List ShownMessage) → MayShow messages b shown → AreShownOf messages shown
may-show-places messages b shown may = record {
  whole = may.whole;
  once = λ m n one another found found_too same. elim (cases_lt m n) [
    | inl less ↦ absurd ((follows-at messages shown m n one another may.follow less found found_too).differs same)
    | inr most ↦ elim (cases_lt n m) [
      | inl more ↦ absurd ((follows-at messages shown n m another one may.follow more found_too found).differs (sym same))
      | inr least ↦ omega (arith, most, least)
    ]
  ];
  in_order = λ m n one another less found found_too ordered ordered_too.
      (follows-at messages shown m n one another may.follow less found found_too).above ordered ordered_too;
}

module _ (payload start : ℕ) (messages : List LaidMessage) (some : 1 ≤ payload) (lie : AreLaidOut payload start messages) where
  -- what goes on shows what may be shown then
  shows-later : (b after : ReceiveBlocks) (shown : List ShownMessage) → GoesOn payload messages b after → MayShow messages after shown
      → MayShow messages b shown
  shows-later b after shown goes may =
      record { fresh = λ message there is. may.fresh message there (goes.keeps message.first is); whole = may.whole; follow = may.follow }

  -- what is shown after a message that was read follows it
  follows-read : (b after : ReceiveBlocks) (m : WholeMessage) (shown : List ShownMessage) (later : ShownMessage) → IsReadAs payload messages b after m
      → MayShow messages after shown → Contains shown later → Follows messages (record { first = m.first; bytes = m.bytes }) later
  follows-read b after m shown later read may there = record {
    differs = λ same. may.fresh later there (subst (IsConsumed after) same read.consumed);
    above = λ ordered ordered_too. elim (cases_lt m.first later.first) [
      | inl less ↦ less
      | inr most ↦
          let same = same-first payload start messages ordered.laid read.laid some lie ordered.among read.among (ordered.at ∙ sym read.at) in
          let order : read.laid.message.order ≡ true = ap (λ (x : LaidMessage). x.message.order) (sym same) ∙ ordered.ordered in
          let before = read.before order ordered_too.laid ordered_too.among ordered_too.ordered (omega (arith, ordered_too.at, most)) in
          absurd (may.fresh later there (subst (IsConsumed after) ordered_too.at before))
    ];
  }

  -- a message that was read is one of the layout, and the only one that begins there
  read-laid : (b after : ReceiveBlocks) (m : WholeMessage) → IsReadAs payload messages b after m
      → IsLaidAs messages (record { first = m.first; bytes = m.bytes })
  read-laid b after m read = record {
    laid = read.laid;
    among = read.among;
    at = read.at;
    bytes = read.bytes;
    only = λ other among same. same-first payload start messages other read.laid some lie among read.among (same ∙ sym read.at);
  }

  -- so it may be shown before those that may be then
  shows-read : (b after : ReceiveBlocks) (m : WholeMessage) (shown : List ShownMessage) → IsReadAs payload messages b after m
      → MayShow messages after shown → MayShow messages b (record { first = m.first; bytes = m.bytes } ∷ shown)
  shows-read b after m shown read may =
      let one : ShownMessage = record { first = m.first; bytes = m.bytes } in
      record {
        fresh = λ message there is. elim (contained-cases one shown message there) [
          | inl same ↦ read.unread (subst (λ (x : ShownMessage). IsConsumed b x.first) (sym same) is)
          | inr later ↦ may.fresh message later (read.goes.keeps message.first is)
        ];
        whole = λ message there. elim (contained-cases one shown message there) [
          | inl same ↦ subst (IsLaidAs messages) same (read-laid b after m read)
          | inr later ↦ may.whole message later
        ];
        follow = (λ later there. follows-read b after m shown later read may there, may.follow);
      }

  -- a step keeps the layout
  steps-goes : (b after : ReceiveBlocks) (shown : List ShownMessage) → StepsSo payload messages b after shown → IsOfLayout payload messages after
  steps-goes b after shown (inl none) = none.1.of_layout
  steps-goes b after shown (inr one) = one.2.goes.of_layout

  -- and what it shows may be shown before those that may be then
  steps-shows : (b after : ReceiveBlocks) (here shown : List ShownMessage) → StepsSo payload messages b after here → MayShow messages after shown
      → MayShow messages b (here ++ shown)
  steps-shows b after here shown (inl none) may =
      subst (λ (front : List ShownMessage). MayShow messages b (front ++ shown)) (sym none.0) (shows-later b after shown none.1 may)
  steps-shows b after here shown (inr one) may =
      subst (λ (front : List ShownMessage). MayShow messages b (front ++ shown)) (sym one.1) (shows-read b after one.0 shown one.2 may)

  module _ {C : Type 0} (w : Ways C) where
    -- what items show may be shown
    items-show : (s : State C) (items : List Item) → s.kind ≡ kind.Message → AreLegal w s items → AllMeetLayout payload messages w s items
        → IsOfLayout payload messages s.receiving.blocks → MayShow messages s.receiving.blocks (shown_from w s items)
    unfolding AreLegal shown_from
    items-show s [] only legal meets kept = shows-none messages s.receiving.blocks
    items-show s (item ∷ items) only legal meets kept =
        let next = (step w s item.event).after in
        let steps = step-shows payload start messages some lie w s item.event.now item.event.act only meets.0 kept in
        let shows = subst (λ (reply : Reply). StepsSo payload messages s.receiving.blocks next.receiving.blocks (shown_by s item.event.act reply))
        (sym legal.0) steps in
        steps-shows s.receiving.blocks next.receiving.blocks (shown_by s item.event.act item.reply) (shown_from w next items) shows
        (items-show next items ((step-keeps_name w s item.event).kind ∙ only) legal.2 meets.1
        (steps-goes s.receiving.blocks next.receiving.blocks _ shows))

    -- where nothing was received yet, and what arrivals may place or drop is of the layout, the messages shown are
    pub shows-layout : (s : State C) (items : List Item) → s.kind ≡ kind.Message → HasNone s.receiving.blocks → AreLegal w s items
        → AllMeetLayout payload messages w s items → AreShownOf messages (shown_from w s items)
    shows-layout s items only none legal meets =
        may-show-places messages s.receiving.blocks (shown_from w s items)
        (items-show s items only legal meets (none-of_layout payload messages s.receiving.blocks none))
