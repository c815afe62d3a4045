-- A socket knows of offsets that its events placed or dropped alone.
use Rattle.std.proofs.Common.{◌≡◌, ℕ, List, [], ◌∷◌, ◌++◌, Some, None, Ok, refl, ap, ◌∙◌, sym, subst}
use Rattle.std.specs.Prelude.{Result, Option}
use Rattle.std.proofs.lemmas.Bool.{or_left, or_right}
use Rattle.std.proofs.lemmas.List.Folds.{list_any-append}
use Rattle.udt_model.specs.declared.addresses.Addr.{Addr}
use Rattle.udt_model.specs.declared.answers.Heard.TheVariants as heard
use Rattle.udt_model.specs.declared.answers.Placed.{Placed}
use Rattle.udt_model.specs.declared.answers.Placed.TheVariants as placing
use Rattle.udt_model.specs.declared.packets.Flags.{Flags}
use Rattle.udt_model.specs.declared.packets.Kind.TheVariants.{Message}
use Rattle.udt_model.specs.declared.packets.Malformed.{Malformed}
use Rattle.udt_model.specs.Arrivals.{heard_of, on_read}
use Rattle.udt_model.specs.Events.{Act, Arrive, Event, Reply, DidHear, at_moment}
use Rattle.udt_model.specs.History.{Item, after_items, AreLegal, offset_found, offsets_of_range, offset_of_packet, placed_by, placed_from, offsets_of_request, dropped_by, dropped_from}
use Rattle.udt_model.specs.Numbers.{near}
use Rattle.udt_model.specs.Rate.{Ways}
use Rattle.udt_model.specs.ReceiveHalf.{Receiving, offset_of, placing_at, arrived_as, block_answer, after_block, drop_range}
use Rattle.udt_model.specs.State.{State}
use Rattle.udt_model.specs.Step.{step}
use Rattle.udt_model.specs.Wire.{Packet, Block, DropAsk, read}
use Rattle.udt_model.proofs.ArrivalLemmas.{arrival-shows}
use Rattle.udt_model.proofs.ReceivingLemmas.{offset_of-some}
use Rattle.udt_model.proofs.ReceivingSteps.{receiving-shows}
use Rattle.udt_model.proofs.StepLemmas.{step-keeps_name}
use Rattle.udt_laws.proofs.acked_has_arrived.CountsWithoutGap.{IsAmong}
use Rattle.udt_laws.proofs.acked_has_arrived.BelowGapWasPlaced.{Covers, placed_by_placing, receive-covers, block-covers, show-covers, taken-covers, reports-cover, ack2-covers}
use Rattle.udt_laws.proofs.sent_blocks.ReportsFit.{ReportsFit, step-fits}

-- ---- where an arrival places a block, and what it drops

-- the offset at which a half that so answers has placed what it read
abbrev placed_in : Receiving → Reply → Result Packet Malformed → List ℕ
placed_in r (DidHear heard.Placed) (Ok (Block number flags stamp dest bytes)) = offset_found (near r.isn r.top number)
placed_in r reply result = []

-- the offsets that a half that so answers has dropped for what it read
abbrev dropped_in : Receiving → Reply → Result Packet Malformed → List ℕ
dropped_in r (DidHear heard.Dropped) (Ok (DropAsk message stamp dest first last)) = offsets_of_range r (drop_range r first last)
dropped_in r reply result = []

-- each of these offsets meets this
abbrev pub AllMeet : (ℕ → Type 0) → List ℕ → Type 0
AllMeet P offsets = (n : ℕ) → IsAmong n offsets → P n

found-meets : (P : ℕ → Type 0) (r : Receiving) (result : Result Packet Malformed) (number : ℕ) (flags : Flags) (stamp dest : ℕ) (bytes : List ℕ)
    (offset : Option ℕ) (p : Placed) → offset_of r number ≡ offset → result ≡ Ok (Block number flags stamp dest bytes)
    → AllMeet P (placed_in r (DidHear (heard_of (arrived_as r offset p).placed)) result) → AllMeet P (placed_by_placing offset p)
found-meets P r result number flags stamp dest bytes (Some offset) placing.New found is meets n among =
    let is_near = (offset_of-some r number offset found).is_near in
    let same : placed_in r (DidHear heard.Placed) result ≡ offset ∷ [] = ap (placed_in r (DidHear heard.Placed)) is ∙ ap offset_found is_near in
    meets n (subst (IsAmong n) (sym same) among)
found-meets P r result number flags stamp dest bytes (Some offset) placing.Below found is meets n among = absurd (cc)
found-meets P r result number flags stamp dest bytes (Some offset) placing.Above found is meets n among = absurd (cc)
found-meets P r result number flags stamp dest bytes (Some offset) placing.Double found is meets n among = absurd (cc)
found-meets P r result number flags stamp dest bytes None placing.New found is meets n among = absurd (cc)
found-meets P r result number flags stamp dest bytes None placing.Below found is meets n among = absurd (cc)
found-meets P r result number flags stamp dest bytes None placing.Above found is meets n among = absurd (cc)
found-meets P r result number flags stamp dest bytes None placing.Double found is meets n among = absurd (cc)

block-meets : (P : ℕ → Type 0) (r : Receiving) (result : Result Packet Malformed) (number : ℕ) (flags : Flags) (stamp dest : ℕ) (bytes : List ℕ)
    → result ≡ Ok (Block number flags stamp dest bytes)
    → AllMeet P (placed_in r (DidHear (heard_of (block_answer r number).placed)) result)
    → AllMeet P (placed_by_placing (offset_of r number) (placing_at r (offset_of r number)))
unfolding block_answer
block-meets P r result number flags stamp dest bytes is meets =
    found-meets P r result number flags stamp dest bytes (offset_of r number) (placing_at r (offset_of r number)) refl is meets

module _ {C : Type 0} where
  packet-in : (s : State C) (result : Result Packet Malformed) → offset_of_packet s result ≡ placed_in s.receiving (DidHear heard.Placed) result
  packet-in s (Ok (Block number flags stamp dest bytes)) = refl
  packet-in s result = refl

  request-in : (s : State C) (result : Result Packet Malformed) → offsets_of_request s result ≡ dropped_in s.receiving (DidHear heard.Dropped) result
  request-in s (Ok (DropAsk message stamp dest first last)) = refl
  request-in s result = refl

  arrival-in : (s : State C) (from : Addr) (bytes : List ℕ) (reply : Reply)
      → placed_by s (Arrive from bytes) reply ≡ placed_in s.receiving reply (read bytes)
  arrival-in s from bytes (DidHear heard.Placed) = packet-in s (read bytes)
  arrival-in s from bytes reply = refl

  removal-in : (s : State C) (from : Addr) (bytes : List ℕ) (reply : Reply)
      → dropped_by s (Arrive from bytes) reply ≡ dropped_in s.receiving reply (read bytes)
  removal-in s from bytes (DidHear heard.Dropped) = request-in s (read bytes)
  removal-in s from bytes reply = refl

  -- all that an event places or drops meets this. A stream socket drops nothing
  pub record EventMeets (P : ℕ → Type 0) (s : State C) (act : Act) (reply : Reply) : Type 0 where
    pub placed : AllMeet P (placed_by s act reply)
    pub dropped : s.kind ≡ Message → AllMeet P (dropped_by s act reply)

module _ {C : Type 0} (w : Ways C) (P : ℕ → Type 0) where
  -- all that items place or drop meets this
  pub record ItemsMeet (s : State C) (items : List Item) : Type 0 where
    pub placed : AllMeet P (placed_from w s items)
    pub dropped : s.kind ≡ Message → AllMeet P (dropped_from w s items)

  -- what the first of some items does, and what the others do
  first-meets : (s : State C) (item : Item) (items : List Item) → AreLegal w s (item ∷ items) → ItemsMeet s (item ∷ items)
      → EventMeets P s item.event.act (step w s item.event).reply
  unfolding AreLegal placed_from dropped_from
  first-meets s item items legal meets =
      subst (EventMeets P s item.event.act) legal.0 (record {
        placed = λ n among. meets.placed n (list_any-append _ (placed_by s item.event.act item.reply) _ ∙ or_left _ _ among);
        dropped = λ messages n among. meets.dropped messages n (list_any-append _ (dropped_by s item.event.act item.reply) _ ∙ or_left _ _ among);
      })

  others-meet : (s : State C) (item : Item) (items : List Item) → ItemsMeet s (item ∷ items) → ItemsMeet (step w s item.event).after items
  unfolding placed_from dropped_from
  others-meet s item items meets = record {
    placed = λ n among. meets.placed n (list_any-append _ (placed_by s item.event.act item.reply) _ ∙ or_right _ _ among);
    dropped = λ messages n among. meets.dropped (sym (step-keeps_name w s item.event).kind ∙ messages) n
        (list_any-append _ (dropped_by s item.event.act item.reply) _ ∙ or_right _ _ among);
  }

  -- what one of the items does meets what all that they do meets
  pub item-meets : (s : State C) (front : List Item) (item : Item) (rest : List Item) → AreLegal w s (front ++ item ∷ rest)
      → ItemsMeet s (front ++ item ∷ rest)
      → EventMeets P (after_items w s front) item.event.act (step w (after_items w s front) item.event).reply
  unfolding AreLegal after_items
  item-meets s [] item rest legal meets = first-meets s item rest legal meets
  item-meets s (first ∷ front) item rest legal meets =
      item-meets (step w s first.event).after front item rest legal.2 (others-meet s first (front ++ item ∷ rest) meets)

-- ---- what the events of a socket keep

module _ {C : Type 0} (w : Ways C) (P : ℕ → Type 0) (start : ℕ) where
  read-covers : (s : State C) (from : Addr) (result : Result Packet Malformed) → ReportsFit s.receiving
      → AllMeet P (placed_in s.receiving (on_read w s from result).reply result)
      → (s.kind ≡ Message → AllMeet P (dropped_in s.receiving (on_read w s from result).reply result)) → Covers P start s.receiving
      → Covers P start (on_read w s from result).after.receiving
  read-covers s from result fits placed dropped covers =
      arrival-shows w s from (λ outcome. AllMeet P (placed_in s.receiving outcome.reply result)
      → (s.kind ≡ Message → AllMeet P (dropped_in s.receiving outcome.reply result)) → Covers P start outcome.after.receiving) result (record {
        passed = λ counters answer differs placed dropped. covers;
        noticed = λ counters answer differs connected placed dropped. covers;
        brought = λ number flags stamp bytes connected sender is placed dropped.
            block-covers P start s.receiving s.last number flags bytes
            (block-meets P s.receiving result number flags stamp s.own bytes is placed) covers;
        dropped = λ message stamp first last range connected sender is messages taken placed dropped.
            taken-covers P start s.receiving s.last range fits
            (λ n among. dropped messages n (subst (IsAmong n) (sym
            (ap (dropped_in s.receiving (DidHear heard.Dropped)) is ∙ ap (offsets_of_range s.receiving) taken)) among)) covers;
        acknowledged = λ number stamp body offset connected sender is acks placed dropped. covers;
        reported = λ stamp ranges connected sender is placed dropped. covers;
        confirmed = λ number ack connected found placed dropped. ack2-covers P start s.receiving number covers;
        ended = λ connected placed dropped. covers;
        again = λ stamp dest shake answer connected sender is same answers placed dropped. covers;
        shaken = λ next peer origin answer emissions differs drops unsettled is placed dropped. covers;
        linked = λ peer origin emissions unsettled is placed dropped. record { begun = covers.begun; there = covers.there };
      }) placed dropped

  -- no other event places or drops anything
  other-covers : (s : State C) (event : Event) → ((from : Addr) (bytes : List ℕ) → event.act ≡ Arrive from bytes → ⊥)
      → Covers P start s.receiving → Covers P start (step w s event).after.receiving
  other-covers s event other covers = receiving-shows w s event (Covers P start) (record {
    stays = covers;
    reads = λ room streams. receive-covers P start s.receiving _ covers;
    carries = λ now from raw number flags stamp bytes is sender reads. absurd (other from raw is);
    shows = λ room messages. show-covers P start s.receiving room covers;
    drops = λ now from raw message stamp first last range is sender reads messages taken. absurd (other from raw is);
    tells = λ now known. reports-cover P start s.receiving now known covers;
    confirms = λ number. ack2-covers P start s.receiving number covers;
    links = λ now peer unsettled. record { begun = covers.begun; there = covers.there };
  })

  act-covers : (s : State C) (now : ℕ) (act : Act) → ReportsFit s.receiving
      → EventMeets P s act (step w s (record { now = now; act = act })).reply → Covers P start s.receiving
      → Covers P start (step w s (record { now = now; act = act })).after.receiving
  unfolding step
  act-covers s now (Arrive from bytes) fits meets covers =
      let there = at_moment s now in
      let reply = (on_read w there from (read bytes)).reply in
      read-covers there from (read bytes) fits (λ n among. meets.placed n (subst (IsAmong n) (sym (arrival-in s from bytes reply)) among))
      (λ messages n among. meets.dropped messages n (subst (IsAmong n) (sym (removal-in s from bytes reply)) among)) covers
  act-covers s now act fits meets covers = other-covers s (record { now = now; act = act }) (λ from bytes is. cc) covers

  pub step-covers : (s : State C) (event : Event) → ReportsFit s.receiving → EventMeets P s event.act (step w s event).reply
      → Covers P start s.receiving → Covers P start (step w s event).after.receiving
  step-covers s event fits meets covers = act-covers s event.now event.act fits meets covers

  -- so the first of the items that place and drop no others keep this
  pub items-covers : (s : State C) (front rest : List Item) → AreLegal w s (front ++ rest) → ItemsMeet w P s (front ++ rest)
      → ReportsFit s.receiving → Covers P start s.receiving → Covers P start (after_items w s front).receiving
  unfolding AreLegal after_items
  items-covers s [] rest legal meets fits covers = covers
  items-covers s (item ∷ front) rest legal meets fits covers =
      items-covers (step w s item.event).after front rest legal.2 (others-meet w P s item (front ++ rest) meets) (step-fits w s item.event fits)
      (step-covers s item.event fits (first-meets w P s item (front ++ rest) legal meets) covers)

  -- nor does a block that an arrival carries, and which this answer tells of
  pub carried-covers : (s : State C) (from : Addr) (raw : List ℕ) (now number : ℕ) (flags : Flags) (stamp dest : ℕ) (bytes : List ℕ) (reply : Reply)
      → read raw ≡ Ok (Block number flags stamp dest bytes) → reply ≡ DidHear (heard_of (block_answer s.receiving number).placed)
      → AllMeet P (placed_by s (Arrive from raw) reply) → Covers P start s.receiving
      → Covers P start (after_block s.receiving now number flags bytes)
  carried-covers s from raw now number flags stamp dest bytes reply carries replies meets covers =
      let placed = subst (λ answer. AllMeet P (placed_in s.receiving answer (read raw))) replies
      (λ n among. meets n (subst (IsAmong n) (sym (arrival-in s from raw reply)) among)) in
      block-covers P start s.receiving now number flags bytes
      (block-meets P s.receiving (read raw) number flags stamp dest bytes carries placed) covers
