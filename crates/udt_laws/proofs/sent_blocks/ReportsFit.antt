-- The numbers that ACKs and NAKs carry fit their places, whatever happens to a socket.
use Rattle.std.proofs.Common.{◌≡◌, ℕ, ◌+◌, ◌-◌, ◌^◌, ◌<◌, ◌≤◌, Bool, true, false, max, List, [], ◌∷◌, ◌++◌, length, Some, None, refl, sym, subst, arith}
use Rattle.std.specs.Prelude.{Option, ◌==◌, nat_lt, if◌then◌else◌}
use Rattle.std.proofs.lemmas.Bool.{cases_Bool}
use Rattle.std.proofs.lemmas.Bool.Decides.{nat_tests}
use Rattle.std.proofs.lemmas.List.{length-drop}
use Rattle.udt_model.specs.declared.addresses.Addr.{Addr}
use Rattle.udt_model.specs.Phases.{Phase, Link, Stands, Lost, Absent, link_of}
use Rattle.udt_model.specs.Phases as phase
use Rattle.udt_model.specs.declared.answers.Placed.{Placed}
use Rattle.udt_model.specs.declared.answers.Placed.TheVariants as placing
use Rattle.udt_model.specs.declared.limits.TheConstants.{GREATEST_RTT, MOST_BLOCKS, SAMPLE_WINDOW}
use Rattle.udt_model.specs.declared.packets.AckBody.{AckBody}
use Rattle.udt_model.specs.declared.packets.AckBody.TheVariants.{Light, Buffer, Full}
use Rattle.udt_model.specs.declared.packets.Flags.{Flags}
use Rattle.udt_model.specs.declared.packets.Kind.{Kind}
use Rattle.udt_model.specs.declared.packets.Kind.TheVariants as kind
use Rattle.udt_model.specs.declared.sockets.ExpOutcome.{ExpOutcome}
use Rattle.udt_model.specs.declared.sockets.ExpOutcome.TheVariants as exp
use Rattle.udt_model.specs.declared.sockets.SentAck.{SentAck}
use Rattle.udt_model.specs.Arrivals.{on_read}
use Rattle.udt_model.specs.Calls.{send_in, send_as, recv_in, recv_as, send_message_in, send_message_as, recv_message_in, recv_message_as, pack_in}
use Rattle.udt_model.specs.Connections.{repeats}
use Rattle.udt_model.specs.Events.{Act, Send, Recv, SendMessage, RecvMessage, Pack, Tick, Arrive, Event, at_moment}
use Rattle.udt_model.specs.History.{Item, after_items}
use Rattle.udt_model.specs.Losses.{LostRange, report, after_report, with_missing, without_missing}
use Rattle.udt_model.specs.Rate.{Ways}
use Rattle.udt_model.specs.ReceiveBlocks.{placing_of, after_place}
use Rattle.udt_model.specs.ReceiveHalf.{Receiving, measured, since_last, offset_of, placing_at, missing_after, after_placing, after_block, drop_range, with_taken, after_receive, after_receive_message}
use Rattle.udt_model.specs.ReceiveOrder.{IsInOrder}
use Rattle.udt_model.specs.ReceiveReports.{number_after, nak_words, AckOutcome, IsEarly, IsKnown, EmitsAck, ack_outcome, after_ack_outcome, after_ack_timer, after_nak_timer, confirmed_by, after_ack2}
use Rattle.udt_model.specs.SendReports.{sampled}
use Rattle.udt_model.specs.State.{State, Emission}
use Rattle.udt_model.specs.Step.{on_act, step}
use Rattle.udt_model.specs.Ticks.{exp_outcome, after_exp, after_reports, tick_in}
use Rattle.udt_model.specs.Timing.{RoundTrip, after_sample, last_under, period_of}
use Rattle.udt_model.specs.Wire.{read}
use Rattle.udt_model.proofs.ArrivalLemmas.{arrival-shows}
use Rattle.udt_model.proofs.DropLemmas.{taken_in_order, shown_in_order}
use Rattle.udt_model.proofs.HalfLemmas.{after_receive_message-keeps, after_block-keeps}
use Rattle.udt_model.proofs.InOrder.{placed_in_order, read_in_order, reported_in_order}
use Rattle.udt_model.proofs.MissingOffsets.{AreRisingMissing, added-rising, arrived-rising, reported-rising}
use Rattle.udt_model.proofs.PhaseLemmas.{repeats-show}
use Rattle.udt_model.proofs.ReceivingSteps.{receiving-shows}
use Rattle.udt_model.proofs.TickLemmas.{ack_outcome-tells}

-- the round-trip time and its variance are at most a minute
pub record RoundTripFits (known : RoundTrip) : Type 0 where
  pub rtt : known.rtt ≤ GREATEST_RTT
  pub var : known.var ≤ GREATEST_RTT

-- the blocks of a receiving half lie in order, the room for them is that of a socket, and the next full ACK has a number
pub record ReportsFit (r : Receiving) : Type 0 where
  pub capacity : r.blocks.capacity ≤ MOST_BLOCKS
  pub number : number_after r.last_ack < 2 ^ 31
  pub order : IsInOrder r.blocks r.top r.missing
  pub rising : AreRisingMissing 0 r.missing
  pub arrivals : length r.arrivals ≤ SAMPLE_WINDOW

sample-fits : (known : RoundTrip) (sample : ℕ) → RoundTripFits known → RoundTripFits (after_sample known sample)
sample-fits known sample fits = record { rtt = omega (arith, fits.rtt); var = omega (arith, fits.rtt, fits.var) }

-- ---- the receiving half

place-order : (r : Receiving) (now offset : ℕ) (flags : Flags) (bytes : List ℕ) → placing_of r.blocks offset ≡ placing.New
    → ReportsFit r → IsInOrder (after_place r.blocks offset flags bytes) (max r.top (offset + 1)) (missing_after r now offset)
place-order r now offset flags bytes new fits = placed_in_order r.blocks r.top now offset flags bytes r.missing fits.order new

missing-rises : (r : Receiving) (now offset : ℕ) → ReportsFit r → AreRisingMissing 0 (missing_after r now offset)
missing-rises r now offset fits =
    elim (nat_lt r.top offset) as (λ above. AreRisingMissing 0 (
    if above
    then with_missing r.top (offset - 1) now r.missing
    else (if nat_lt offset r.top then without_missing offset offset r.missing else r.missing))) [
      | true ↦ added-rising 0 r.top (offset - 1) now r.missing (omega arith) fits.rising fits.order.below
      | false ↦ elim (nat_lt offset r.top) as (λ below. AreRisingMissing 0 (
          if below then without_missing offset offset r.missing else r.missing)) [
            | true ↦ arrived-rising 0 offset offset r.missing fits.rising
            | false ↦ fits.rising
          ]
    ]

placing-fits : (r : Receiving) (now : ℕ) (flags : Flags) (bytes : List ℕ) (offset : Option ℕ) (p : Placed) → placing_at r offset ≡ p
    → ReportsFit r → (after_placing r now flags bytes offset p).blocks.capacity ≡ r.blocks.capacity
    → ReportsFit (after_placing r now flags bytes offset p)
placing-fits r now flags bytes (Some offset) placing.New is fits same = record {
  capacity = omega (arith, fits.capacity, same);
  number = fits.number;
  order = place-order r now offset flags bytes is fits;
  rising = missing-rises r now offset fits;
  arrivals = fits.arrivals;
}
placing-fits r now flags bytes (Some offset) placing.Below is fits same = fits
placing-fits r now flags bytes (Some offset) placing.Above is fits same = fits
placing-fits r now flags bytes (Some offset) placing.Double is fits same = fits
placing-fits r now flags bytes None placing.New is fits same = absurd (cc)
placing-fits r now flags bytes None placing.Below is fits same = fits
placing-fits r now flags bytes None placing.Above is fits same = fits
placing-fits r now flags bytes None placing.Double is fits same = fits

-- a window keeps its newest samples
since-short : (now : ℕ) (last : Option ℕ) (samples : List ℕ) → length samples ≤ SAMPLE_WINDOW → length (since_last now last samples) ≤ SAMPLE_WINDOW
since-short now None samples short = short
since-short now (Some last) samples short =
    let all = samples ++ (now - last) ∷ [] in
    omega (arith, length-drop (length all - SAMPLE_WINDOW) all)

found-fits : (r : Receiving) (now number : ℕ) (flags : Flags) (bytes : List ℕ) → ReportsFit r
    → (after_block r now number flags bytes).blocks.capacity ≡ r.blocks.capacity → ReportsFit (after_block r now number flags bytes)
unfolding after_block
found-fits r now number flags bytes fits same =
    placing-fits (measured r now number) now flags bytes (offset_of r number) (placing_at r (offset_of r number)) refl
    (record {
      capacity = fits.capacity;
      number = fits.number;
      order = fits.order;
      rising = fits.rising;
      arrivals = since-short now r.last_data r.arrivals fits.arrivals;
    }) same

pub block-fits : (r : Receiving) (now number : ℕ) (flags : Flags) (bytes : List ℕ) → ReportsFit r → ReportsFit (after_block r now number flags bytes)
block-fits r now number flags bytes fits =
    found-fits r now number flags bytes fits (after_block-keeps r now number flags bytes).capacity

next-fits : (ack : SentAck) → ack.number < 2 ^ 31 → number_after (Some ack) < 2 ^ 31
next-fits ack fits = grind (arith, nat_tests)

ack-fits : (r : Receiving) (now : ℕ) (known : RoundTrip) (t : AckOutcome) → ack_outcome r now known ≡ t → ReportsFit r
    → ReportsFit (after_ack_outcome r now t)
ack-fits r now known IsEarly is fits = fits
ack-fits r now known IsKnown is fits =
    record { capacity = fits.capacity; number = fits.number; order = fits.order; rising = fits.rising; arrivals = fits.arrivals }
ack-fits r now known (EmitsAck ack) is fits =
    let told = ack_outcome-tells r now known ack is in
    record {
      capacity = fits.capacity;
      number = next-fits ack (subst (λ (n : ℕ). n < 2 ^ 31) (sym told.number) fits.number);
      order = fits.order;
      rising = fits.rising;
      arrivals = fits.arrivals;
    }

ack_timer-fits : (r : Receiving) (now : ℕ) (known : RoundTrip) → ReportsFit r → ReportsFit (after_ack_timer r now known)
unfolding after_ack_timer
ack_timer-fits r now known fits = ack-fits r now known (ack_outcome r now known) refl fits

nak_timer-fits : (r : Receiving) (now : ℕ) (known : RoundTrip) → ReportsFit r → ReportsFit (after_nak_timer r now known)
unfolding after_nak_timer
nak_timer-fits r now known fits =
    let ranges = report now known.rtt (nak_words r) r.missing in
    elim (nat_lt now r.nak_due) as (λ early. ReportsFit (
    if early then r else record r { missing = after_report now ranges r.missing; nak_due = now + period_of known })) [
      | true ↦ fits
      | false ↦ record {
        capacity = fits.capacity;
        number = fits.number;
        order = reported_in_order r.blocks r.top now ranges r.missing fits.order;
        rising = reported-rising 0 now ranges r.missing fits.rising;
        arrivals = fits.arrivals;
      }
    ]

confirmed-fits : (r : Receiving) (number : ℕ) (found : Option SentAck) → ReportsFit r → ReportsFit (confirmed_by r number found)
confirmed-fits r number None fits = fits
confirmed-fits r number (Some ack) fits =
    record { capacity = fits.capacity; number = fits.number; order = fits.order; rising = fits.rising; arrivals = fits.arrivals }

ack2-fits : (r : Receiving) (number : ℕ) → ReportsFit r → ReportsFit (after_ack2 r number)
unfolding after_ack2
ack2-fits r number fits = confirmed-fits r number (last_under number r.history) fits

receive-fits : (r : Receiving) (count : ℕ) → ReportsFit r → ReportsFit (after_receive r count)
receive-fits r count fits = record {
  capacity = fits.capacity;
  number = fits.number;
  order = read_in_order r.blocks r.top count r.missing fits.order;
  rising = fits.rising;
  arrivals = fits.arrivals;
}

-- a message that is received changes neither what is missing nor what was measured
shown-others : (r : Receiving) (room : ℕ) → ((after_receive_message r room).last_ack ≡ r.last_ack)
    × ((after_receive_message r room).missing ≡ r.missing) × ((after_receive_message r room).arrivals ≡ r.arrivals)
shown-others r room =
    (grind (arith, cases_Bool (room == 0)), grind (arith, cases_Bool (room == 0)), grind (arith, cases_Bool (room == 0)))

shown-fits : (r : Receiving) (room : ℕ) → ReportsFit r → ReportsFit (after_receive_message r room)
shown-fits r room fits =
    let same = shown-others r room in
    record {
      capacity = subst (λ (n : ℕ). n ≤ MOST_BLOCKS) (sym (after_receive_message-keeps r room).capacity) fits.capacity;
      number = subst (λ (ack : Option SentAck). number_after ack < 2 ^ 31) (sym same.0) fits.number;
      order = shown_in_order r room fits.order;
      rising = subst (AreRisingMissing 0) (sym same.1) fits.rising;
      arrivals = subst (λ (samples : List ℕ). length samples ≤ SAMPLE_WINDOW) (sym same.2) fits.arrivals;
    }

taken-rising : (r : Receiving) (now : ℕ) (range : LostRange) → ReportsFit r → AreRisingMissing 0 (with_taken r now range).missing
taken-rising r now range fits =
    elim (nat_lt r.top range.first) as (λ above. AreRisingMissing 0 (
    if above then with_missing r.top (range.first - 1) now r.missing else without_missing range.first range.last r.missing)) [
      | true ↦ added-rising 0 r.top (range.first - 1) now r.missing (omega arith) fits.rising fits.order.below
      | false ↦ arrived-rising 0 range.first range.last r.missing fits.rising
    ]

taken-fits : (r : Receiving) (now first last : ℕ) (range : LostRange) → drop_range r first last ≡ Some range → ReportsFit r
    → ReportsFit (with_taken r now range)
taken-fits r now first last range taken fits = record {
  capacity = fits.capacity;
  number = fits.number;
  order = taken_in_order r now first last range taken fits.order;
  rising = taken-rising r now range fits;
  arrivals = fits.arrivals;
}

module _ {C : Type 0} (w : Ways C) where
  pub step-fits : (s : State C) (event : Event) → ReportsFit s.receiving → ReportsFit (step w s event).after.receiving
  step-fits s event fits = receiving-shows w s event ReportsFit (record {
    stays = fits;
    reads = λ room streams. receive-fits s.receiving _ fits;
    shows = λ room messages. shown-fits s.receiving room fits;
    carries = λ now from raw number flags stamp bytes is sender reads. block-fits s.receiving now number flags bytes fits;
    drops = λ now from raw message stamp first last range is sender reads messages taken.
        taken-fits s.receiving now first last range taken fits;
    tells = λ now known. nak_timer-fits _ now known (ack_timer-fits s.receiving now known fits);
    confirms = λ number. ack2-fits s.receiving number fits;
    links = λ now peer unsettled. record {
      capacity = fits.capacity;
      number = fits.number;
      order = fits.order;
      rising = fits.rising;
      arrivals = fits.arrivals;
    };
  })

  pub items-fit : (s : State C) (items : List Item) → ReportsFit s.receiving → ReportsFit (after_items w s items).receiving
  unfolding after_items
  items-fit s [] fits = fits
  items-fit s (item ∷ items) fits = items-fit (step w s item.event).after items (step-fits s item.event fits)

  -- ---- the round trip

  sampled-fits : (known : RoundTrip) (body : AckBody) → RoundTripFits known → RoundTripFits (sampled known body)
  sampled-fits known (Light ack) fits = fits
  sampled-fits known (Buffer ack rtt var buffer) fits = sample-fits known rtt fits
  sampled-fits known (Full ack rtt var buffer rate capacity) fits = sample-fits known rtt fits

  module _ (s : State C) (fits : RoundTripFits s.rtt) where
    send-round : (bytes : List ℕ) (link : Link) → RoundTripFits (send_in s bytes link).after.rtt
    send-round bytes Stands = fits
    send-round bytes (Lost why) = fits
    send-round bytes Absent = fits

    recv-round : (room : ℕ) (link : Link) → RoundTripFits (recv_in s room link).after.rtt
    recv-round room Stands = fits
    recv-round room (Lost why) = fits
    recv-round room Absent = fits

    send_as-round : (bytes : List ℕ) (k : Kind) → RoundTripFits (send_as s bytes k).after.rtt
    send_as-round bytes kind.Stream = send-round bytes (link_of s.phase)
    send_as-round bytes kind.Message = fits

    recv_as-round : (room : ℕ) (k : Kind) → RoundTripFits (recv_as s room k).after.rtt
    recv_as-round room kind.Stream = recv-round room (link_of s.phase)
    recv_as-round room kind.Message = fits

    send_message-round : (ttl : Option ℕ) (order : Bool) (bytes : List ℕ) (link : Link)
        → RoundTripFits (send_message_in s ttl order bytes link).after.rtt
    send_message-round ttl order bytes Stands = fits
    send_message-round ttl order bytes (Lost why) = fits
    send_message-round ttl order bytes Absent = fits

    send_message_as-round : (ttl : Option ℕ) (order : Bool) (bytes : List ℕ) (k : Kind)
        → RoundTripFits (send_message_as s ttl order bytes k).after.rtt
    send_message_as-round ttl order bytes kind.Stream = fits
    send_message_as-round ttl order bytes kind.Message = send_message-round ttl order bytes (link_of s.phase)

    recv_message-round : (room : ℕ) (link : Link) → RoundTripFits (recv_message_in s room link).after.rtt
    recv_message-round room Stands = fits
    recv_message-round room (Lost why) = fits
    recv_message-round room Absent = fits

    recv_message_as-round : (room : ℕ) (k : Kind) → RoundTripFits (recv_message_as s room k).after.rtt
    recv_message_as-round room kind.Stream = fits
    recv_message_as-round room kind.Message = recv_message-round room (link_of s.phase)

    pack-round : (link : Link) → RoundTripFits (pack_in w s link).after.rtt
    pack-round Stands = fits
    pack-round (Lost why) = fits
    pack-round Absent = fits

    exp-round : (what : ExpOutcome) → RoundTripFits (after_exp w (after_reports s) what).rtt
    exp-round exp.NotDue = fits
    exp-round exp.Breaks = fits
    exp-round exp.LosesAll = fits
    exp-round exp.KeepsAlive = fits

    repeats-round : (began again : ℕ) (next : Phase) (emission : Emission) → RoundTripFits (repeats s began again next emission).after.rtt
    repeats-round began again next emission =
        repeats-show s began again next emission (λ outcome. RoundTripFits outcome.after.rtt) (record { fails = fits; again = fits; waits = fits })

    tick-round : (phase : Phase) → RoundTripFits (tick_in w s phase).after.rtt
    tick-round phase.Connected = exp-round (exp_outcome s)
    tick-round (phase.Connecting c again) = repeats-round c.caller.began again _ _
    tick-round (phase.Meeting m again) = repeats-round m.caller.began again _ _
    tick-round phase.Closing = fits
    tick-round _ = fits

    read-round : (from : Addr) (bytes : List ℕ) → RoundTripFits (on_read w s from (read bytes)).after.rtt
    read-round from bytes = arrival-shows w s from (λ outcome. RoundTripFits outcome.after.rtt) (read bytes) (record {
      passed = λ counters answer differs. fits;
      noticed = λ counters answer differs connected. fits;
      brought = λ number flags stamp payload connected sender is. fits;
      dropped = λ message stamp first last range connected sender is messages taken. fits;
      acknowledged = λ number stamp body offset connected sender is acks. sampled-fits s.rtt body fits;
      reported = λ stamp ranges connected sender is. fits;
      confirmed = λ number ack connected found. sample-fits s.rtt (s.last - ack.moment) fits;
      ended = λ connected. fits;
      again = λ stamp dest shake answer connected sender is same answers. fits;
      shaken = λ next peer origin answer emissions differs drops unsettled is. fits;
      linked = λ peer origin emissions unsettled is. fits;
    })

    act-round : (act : Act) → RoundTripFits (on_act w s act).after.rtt
    act-round (Send bytes) = send_as-round bytes s.kind
    act-round (Recv room) = recv_as-round room s.kind
    act-round (SendMessage ttl order bytes) = send_message_as-round ttl order bytes s.kind
    act-round (RecvMessage room) = recv_message_as-round room s.kind
    act-round Pack = pack-round (link_of s.phase)
    act-round Tick = tick-round s.phase
    act-round (Arrive from bytes) = read-round from bytes
    act-round _ = fits

  pub step-round : (s : State C) (event : Event) → RoundTripFits s.rtt → RoundTripFits (step w s event).after.rtt
  unfolding step
  step-round s event fits = act-round (at_moment s event.now) fits event.act

  pub items-round : (s : State C) (items : List Item) → RoundTripFits s.rtt → RoundTripFits (after_items w s items).rtt
  unfolding after_items
  items-round s [] fits = fits
  items-round s (item ∷ items) fits = items-round (step w s item.event).after items (step-round s item.event fits)
