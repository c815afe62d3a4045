-- What the events of a message socket keep of the layout, where arrivals bring nothing else.
use Rattle.std.proofs.Common.{◌≡◌, ℕ, suc, ◌≤◌, true, false, List, [], ◌∷◌, length, Some, None, Ok, Err, refl, ap, subst, inl, inr, ◌⊎◌, arith}
use Rattle.std.specs.Prelude.{Option, ◌==◌, nat_le, if◌then◌else◌}
use Rattle.std.proofs.lemmas.Bool.Decides.{nat_tests}
use Rattle.udt_model.specs.declared.addresses.Addr.{Addr}
use Rattle.udt_model.specs.Phases.{Link, Stands, Lost, Absent, link_of}
use Rattle.udt_model.specs.declared.answers.Placed.{Placed}
use Rattle.udt_model.specs.declared.answers.Placed.TheVariants as placing
use Rattle.udt_model.specs.declared.answers.Refusal.{Refusal}
use Rattle.udt_model.specs.declared.answers.Refusal.TheVariants as refusal
use Rattle.udt_model.specs.declared.packets.Flags.{Flags}
use Rattle.udt_model.specs.declared.packets.Kind.{Kind}
use Rattle.udt_model.specs.declared.packets.Kind.TheVariants as kind
use Rattle.udt_model.specs.Calls.{answer_message, gives_message, recv_message_in, recv_message_as}
use Rattle.udt_model.specs.Events.{Act, RecvMessage, Arrive, Event, ReceivedMessage, at_moment}
use Rattle.udt_model.specs.History.{Item, ShownMessage, shown_as, shown_by}
use Rattle.udt_model.specs.Losses.{LostRange}
use Rattle.udt_model.specs.Numbers.{near}
use Rattle.udt_model.specs.Rate.{Ways}
use Rattle.udt_model.specs.ReceiveBlocks.{ReceiveBlocks, WholeMessage, placing_of, arrived_at, after_placing_of, after_place, next_message, after_message, after_found, after_read_message}
use Rattle.udt_model.specs.ReceiveHalf.{Receiving, measured, offset_of, placing_at, after_placing, after_block, drop_range, with_taken, after_receive_message}
use Rattle.udt_model.specs.ReceiveReports.{after_ack_timer, after_nak_timer, after_ack2}
use Rattle.udt_model.specs.State.{State}
use Rattle.udt_model.specs.Step.{step}
use Rattle.udt_model.specs.Timing.{RoundTrip}
use Rattle.udt_model.specs.Wire.{Block, DropAsk, read}
use Rattle.udt_model.proofs.DropLemmas.{drop_range-is}
use Rattle.udt_model.proofs.ReceivingLemmas.{placing-new, offset_of-some}
use Rattle.udt_model.proofs.ReceivingSteps.{receiving-shows}
use Rattle.udt_laws.proofs.delivered_is_carried.ReportsLeave.{reports-leave, ack2-leaves}
use Rattle.udt_laws.proofs.laid_messages.Layout.{LaidMessage, AreLaidOut, IsBlockOf, IsRangeOf}
use Rattle.udt_laws.proofs.laid_messages.ReceivedLayout.{IsOfLayout, GoesOn, goes-nowhere, places-block, skips-message}
use Rattle.udt_laws.proofs.laid_messages.ReadMessages.{IsReadAs, reads-next}

-- ---- what arrivals bring

module _ {C : Type 0} (payload : ℕ) (messages : List LaidMessage) where
  -- what these bytes may place or drop in this state is of the layout
  pub record BringsLayout (s : State C) (from : Addr) (bytes : List ℕ) : Type 0 where
    pub places : (number : ℕ) (flags : Flags) (stamp : ℕ) (carried : List ℕ) (offset : ℕ) → from ≡ s.peer.addr
        → read bytes ≡ Ok (Block number flags stamp s.own carried) → near s.receiving.isn s.receiving.top number ≡ Some offset
        → IsBlockOf payload messages offset flags carried
    pub drops : (message stamp first last : ℕ) (range : LostRange) → from ≡ s.peer.addr
        → read bytes ≡ Ok (DropAsk message stamp s.own first last) → drop_range s.receiving first last ≡ Some range
        → IsRangeOf messages range.first range.last

  -- what an act may place or drop in this state is of the layout
  abbrev pub MeetsLayout : State C → Act → Type 0
  MeetsLayout s (Arrive from bytes) = BringsLayout s from bytes
  MeetsLayout s act = Unit {0}

  -- and so is what these items may
  abbrev pub AllMeetLayout : Ways C → State C → List Item → Type 0
  AllMeetLayout w s [] = Unit {0}
  AllMeetLayout w s (item ∷ items) = MeetsLayout s item.event.act × AllMeetLayout w (step w s item.event).after items

-- ---- what an event does to the blocks

-- one more byte is some room
some-room : (room : ℕ) → (suc room == 0) ≡ false
some-room room = grind (arith, nat_tests)

-- nothing was shown, or the one message that was read next
abbrev pub StepsSo : ℕ → List LaidMessage → ReceiveBlocks → ReceiveBlocks → List ShownMessage → Type 0
StepsSo payload messages b after shown =
    ((shown ≡ []) × GoesOn payload messages b after)
    ⊎ ((m : WholeMessage) × (shown ≡ record { first = m.first; bytes = m.bytes } ∷ []) × IsReadAs payload messages b after m)

module _ (payload start : ℕ) (messages : List LaidMessage) (some : 1 ≤ payload) (lie : AreLaidOut payload start messages) where
  module _ (b : ReceiveBlocks) (kept : IsOfLayout payload messages b) where
    -- a block is placed where it is new
    place-by : (offset : ℕ) (flags : Flags) (bytes : List ℕ) (p : Placed) → placing_of b offset ≡ p → IsBlockOf payload messages offset flags bytes
        → GoesOn payload messages b (after_placing_of b (arrived_at offset flags bytes) p)
    place-by offset flags bytes placing.New is of_layout =
        places-block payload start messages some lie b kept offset flags bytes (placing-new b offset is) of_layout
    place-by offset flags bytes placing.Below is of_layout = goes-nowhere payload messages b kept
    place-by offset flags bytes placing.Above is of_layout = goes-nowhere payload messages b kept
    place-by offset flags bytes placing.Double is of_layout = goes-nowhere payload messages b kept

    place-goes : (offset : ℕ) (flags : Flags) (bytes : List ℕ) → IsBlockOf payload messages offset flags bytes
        → GoesOn payload messages b (after_place b offset flags bytes)
    unfolding after_place
    place-goes offset flags bytes of_layout = place-by offset flags bytes (placing_of b offset) refl of_layout

    -- the next message is read where there is room for it
    found-goes : (room : ℕ) (found : Option WholeMessage) → next_message b ≡ found → GoesOn payload messages b (after_found b room found)
    found-goes room None is = goes-nowhere payload messages b kept
    found-goes room (Some m) is =
        elim (nat_le (length m.bytes) room) as (λ fits. GoesOn payload messages b (if fits then after_message b m else b)) [
          | true ↦ (reads-next payload start messages some lie b kept m is).goes
          | false ↦ goes-nowhere payload messages b kept
        ]

  module _ (r : Receiving) (kept : IsOfLayout payload messages r.blocks) where
    -- a block that arrives is placed at its offset
    block-by : (now : ℕ) (flags : Flags) (bytes : List ℕ) (found : Option ℕ) (p : Placed)
        → ((offset : ℕ) → found ≡ Some offset → IsBlockOf payload messages offset flags bytes)
        → GoesOn payload messages r.blocks (after_placing r now flags bytes found p).blocks
    block-by now flags bytes (Some offset) placing.New of_layout = place-goes r.blocks kept offset flags bytes (of_layout offset refl)
    block-by now flags bytes (Some offset) placing.Below of_layout = goes-nowhere payload messages r.blocks kept
    block-by now flags bytes (Some offset) placing.Above of_layout = goes-nowhere payload messages r.blocks kept
    block-by now flags bytes (Some offset) placing.Double of_layout = goes-nowhere payload messages r.blocks kept
    block-by now flags bytes None placing.New of_layout = goes-nowhere payload messages r.blocks kept
    block-by now flags bytes None placing.Below of_layout = goes-nowhere payload messages r.blocks kept
    block-by now flags bytes None placing.Above of_layout = goes-nowhere payload messages r.blocks kept
    block-by now flags bytes None placing.Double of_layout = goes-nowhere payload messages r.blocks kept

  block-goes : (r : Receiving) (kept : IsOfLayout payload messages r.blocks) (now number : ℕ) (flags : Flags) (bytes : List ℕ)
      → ((offset : ℕ) → near r.isn r.top number ≡ Some offset → IsBlockOf payload messages offset flags bytes)
      → GoesOn payload messages r.blocks (after_block r now number flags bytes).blocks
  unfolding after_block
  block-goes r kept now number flags bytes of_layout =
      block-by (measured r now number) kept now flags bytes (offset_of r number) (placing_at r (offset_of r number))
      (λ offset found. of_layout offset (offset_of-some r number offset found).is_near)

  module _ (r : Receiving) (kept : IsOfLayout payload messages r.blocks) where
    -- a message drop request takes the offsets of a message
    drop-goes : (now first last : ℕ) (range : LostRange) → drop_range r first last ≡ Some range → IsRangeOf messages range.first range.last
        → GoesOn payload messages r.blocks (with_taken r now range).blocks
    drop-goes now first last range is of_layout =
        skips-message payload start messages some lie r.blocks kept range.first range.last (drop_range-is r first last range is).takes of_layout

    -- a receive reads the next message, or none
    receive-goes : (room : ℕ) → GoesOn payload messages r.blocks (after_receive_message r room).blocks
    receive-goes room = elim (room == 0) as (λ none. GoesOn payload messages r.blocks
        (if none then r else record r { blocks = after_read_message r.blocks room }).blocks) [
          | true ↦ goes-nowhere payload messages r.blocks kept
          | false ↦ found-goes r.blocks kept room (next_message r.blocks) refl
        ]

    -- reports change no block
    tells-go : (now : ℕ) (known : RoundTrip)
        → GoesOn payload messages r.blocks (after_nak_timer (after_ack_timer r now known) now known).blocks
    tells-go now known =
        rw ((reports-leave r now known).blocks) (goes-nowhere payload messages r.blocks kept)

    confirms-go : (number : ℕ) → GoesOn payload messages r.blocks (after_ack2 r number).blocks
    confirms-go number = rw ((ack2-leaves r number).blocks) (goes-nowhere payload messages r.blocks kept)

  module _ {C : Type 0} (w : Ways C) where
    -- each event keeps the layout
    step-goes : (s : State C) (event : Event) → s.kind ≡ kind.Message → MeetsLayout payload messages s event.act
        → IsOfLayout payload messages s.receiving.blocks → GoesOn payload messages s.receiving.blocks (step w s event).after.receiving.blocks
    step-goes s event messages_only meets kept =
        let r = s.receiving in
        receiving-shows w s event (λ receiving. GoesOn payload messages r.blocks receiving.blocks) (record {
          stays = goes-nowhere payload messages r.blocks kept;
          reads = λ room stream. absurd (cc);
          shows = λ room is. receive-goes r kept room;
          carries = λ now from raw number flags stamp bytes is sender reads.
              block-goes r kept now number flags bytes (λ offset found.
              (subst (MeetsLayout payload messages s) is meets).places number flags stamp bytes offset sender reads found);
          drops = λ now from raw message stamp first last range is sender reads only taken.
              drop-goes r kept now first last range taken
              ((subst (MeetsLayout payload messages s) is meets).drops message stamp first last range sender reads taken);
          tells = λ now known. tells-go r kept now known;
          confirms = λ number. confirms-go r kept number;
          links = λ now peer unsettled. goes-nowhere payload messages r.blocks kept;
        })

    -- ---- what an event shows

    -- a receive shows the message that it reads
    found-shows : (s : State C) (room : ℕ) (why : Refusal) (found : Option WholeMessage) → IsOfLayout payload messages s.receiving.blocks
        → next_message s.receiving.blocks ≡ found
        → StepsSo payload messages s.receiving.blocks (after_found s.receiving.blocks (suc room) found)
        (shown_by s (RecvMessage (suc room)) (ReceivedMessage (answer_message why (suc room) found)))
    found-shows s room why None kept is = rw (some-room room) (inl (refl, goes-nowhere payload messages s.receiving.blocks kept))
    found-shows s room why (Some m) kept is =
        let b = s.receiving.blocks in
        rw (some-room room) (elim (nat_le (length m.bytes) (suc room)) as (λ fits. StepsSo payload messages b (if fits then after_message b m else b)
        (shown_by s (RecvMessage (suc room)) (ReceivedMessage (if fits then Ok m.bytes else Err refusal.TooLarge)))) [
          | true ↦ inr (m, ap (shown_as m.bytes) is, reads-next payload start messages some lie b kept m is)
          | false ↦ inl (refl, goes-nowhere payload messages b kept)
        ])

    gives-shows : (s : State C) (room : ℕ) (why : Refusal) → IsOfLayout payload messages s.receiving.blocks
        → StepsSo payload messages s.receiving.blocks (gives_message s (suc room) why).after.receiving.blocks
        (shown_by s (RecvMessage (suc room)) (gives_message s (suc room) why).reply)
    gives-shows s room why kept = rw (some-room room) (found-shows s room why (next_message s.receiving.blocks) kept refl)

    recv-shows : (s : State C) (room : ℕ) (link : Link) → IsOfLayout payload messages s.receiving.blocks
        → StepsSo payload messages s.receiving.blocks (recv_message_in s (suc room) link).after.receiving.blocks
        (shown_by s (RecvMessage (suc room)) (recv_message_in s (suc room) link).reply)
    recv-shows s room Stands kept = gives-shows s room refusal.AgainRecv kept
    recv-shows s room (Lost why) kept = gives-shows s room (refusal.ConnLost why) kept
    recv-shows s room Absent kept = inl (refl, goes-nowhere payload messages s.receiving.blocks kept)

    recv_as-shows : (s : State C) (room : ℕ) (k : Kind) → IsOfLayout payload messages s.receiving.blocks
        → StepsSo payload messages s.receiving.blocks (recv_message_as s (suc room) k).after.receiving.blocks
        (shown_by s (RecvMessage (suc room)) (recv_message_as s (suc room) k).reply)
    recv_as-shows s room kind.Stream kept = inl (refl, goes-nowhere payload messages s.receiving.blocks kept)
    recv_as-shows s room kind.Message kept = recv-shows s room (link_of s.phase) kept

    receive-shows : (s : State C) (now room : ℕ) → IsOfLayout payload messages s.receiving.blocks
        → StepsSo payload messages s.receiving.blocks (step w s (record { now = now; act = RecvMessage (suc room) })).after.receiving.blocks
        (shown_by s (RecvMessage (suc room)) (step w s (record { now = now; act = RecvMessage (suc room) })).reply)
    unfolding step
    receive-shows s now room kept = recv_as-shows (at_moment s now) room s.kind kept

    -- an event shows the message that is read next, or none
    pub step-shows : (s : State C) (now : ℕ) (act : Act) → s.kind ≡ kind.Message → MeetsLayout payload messages s act
        → IsOfLayout payload messages s.receiving.blocks
        → StepsSo payload messages s.receiving.blocks (step w s (record { now = now; act = act })).after.receiving.blocks
        (shown_by s act (step w s (record { now = now; act = act })).reply)
    step-shows s now (RecvMessage (suc room)) only meets kept = receive-shows s now room kept
    step-shows s now act only meets kept = inl (refl, step-goes s (record { now = now; act = act }) only meets kept)
