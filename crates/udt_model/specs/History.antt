-- Histories of one socket, and what can be read off them.
use Rattle.std.specs.Prelude.{◌≡◌, ℕ, zero, suc, ◌+◌, ◌-◌, ◌==◌, max, Bool, List, [], ◌∷◌, ◌++◌, length, take, Option, Some, None, Result, Ok, if◌then◌else◌}
use Rattle.std.specs.List.{list_any}
use Rattle.udt_model.specs.declared.answers.Heard.TheVariants as heard
use Rattle.udt_model.specs.declared.packets.Malformed.{Malformed}
use Rattle.udt_model.specs.Wire.{Packet, Block, DropAsk, read}
use Rattle.udt_model.specs.Numbers.{near}
use Rattle.udt_model.specs.Rate.{Ways}
use Rattle.udt_model.specs.Losses.{LostRange, offsets_between}
use Rattle.udt_model.specs.ReceiveBlocks.{WholeMessage, next_message}
use Rattle.udt_model.specs.ReceiveHalf.{Receiving, drop_range}
use Rattle.udt_model.specs.SendBlocks.{end_of}
use Rattle.udt_model.specs.SendHalf.{acked_of}
use Rattle.udt_model.specs.State.{State, Datagram}
use Rattle.udt_model.specs.Step.{step}
use Rattle.udt_model.specs.Events.{Act, Send, SendMessage, RecvMessage, Arrive, Event, Reply, Sent, Received, SentMessage, ReceivedMessage, DidHear, outs_of}

-- an event with its answer and what it emitted, made by the holder of the pass with this number
pub record Item : Type 0 where
  pub pass : ℕ
  pub event : Event
  pub reply : Reply
  pub outs : List Datagram

-- where a socket began, and all that happened to it since
pub record History (C : Type 0) : Type 0 where
  pub opening : State C
  pub items : List Item

-- a message that was accepted: its first offset, whether it must be delivered in order, and its bytes
pub record AskedMessage : Type 0 where
  pub first : ℕ
  pub order : Bool
  pub bytes : List ℕ

-- a message that was received: the offset at which it was found, and its bytes
pub record ShownMessage : Type 0 where
  pub first : ℕ
  pub bytes : List ℕ

-- ---- what items tell

-- the bytes that an event took, of a stream or as a message
abbrev pub taken_by : Act → Reply → List ℕ
taken_by (Send bytes) (Sent (Ok count)) = take count bytes
taken_by (SendMessage ttl order bytes) (SentMessage (Ok count)) = take count bytes
taken_by act reply = []

-- the bytes that an event gave
abbrev pub given_by : Reply → List ℕ
given_by (Received (Ok bytes)) = bytes
given_by reply = []

unfoldable pub accepted_by : List Item → List ℕ
accepted_by [] = []
accepted_by (item ∷ items) = taken_by item.event.act item.reply ++ accepted_by items

unfoldable pub delivered_by : List Item → List ℕ
delivered_by [] = []
delivered_by (item ∷ items) = given_by item.reply ++ delivered_by items

-- the offset that a data packet's sequence number stands for, where there is one
abbrev pub offset_found : Option ℕ → List ℕ
offset_found None = []
offset_found (Some offset) = offset ∷ []

-- the next message, with the bytes that were given for it
abbrev pub shown_as : List ℕ → Option WholeMessage → List ShownMessage
shown_as bytes None = []
shown_as bytes (Some m) = record { first = m.first; bytes = bytes } ∷ []

-- the offsets of a range that aren't below the base
abbrev pub offsets_of_range : Receiving → Option LostRange → List ℕ
offsets_of_range r None = []
offsets_of_range r (Some range) = offsets_between (max range.first r.blocks.base) range.last

-- how many offsets from this one on, of this many at most, are among these, without a gap
unfoldable pub gapless : ℕ → ℕ → List ℕ → ℕ
gapless zero offset offsets = 0
gapless (suc most) offset offsets = if list_any (λ n. n == offset) offsets then gapless most (offset + 1) offsets + 1 else 0

module _ {C : Type 0} where
  -- the offset at which the directions of the socket begin
  abbrev pub start_of : History C → ℕ
  start_of h = acked_of h.opening.sending

  -- the bytes that sends took, joined in order
  abbrev pub accepted : History C → List ℕ
  accepted h = accepted_by h.items

  -- the bytes that receives gave, joined in order
  abbrev pub delivered : History C → List ℕ
  delivered h = delivered_by h.items

  -- the offset of a data packet: the one near the highest that arrived. Which blocks are placed isn't asked
  abbrev pub offset_of_packet : State C → Result Packet Malformed → List ℕ
  offset_of_packet s (Ok (Block number flags stamp dest bytes)) = offset_found (near s.receiving.isn s.receiving.top number)
  offset_of_packet s other = []

  -- the offset at which an event placed a block, which it answers
  abbrev pub placed_by : State C → Act → Reply → List ℕ
  placed_by s (Arrive from bytes) (DidHear heard.Placed) = offset_of_packet s (read bytes)
  placed_by s act reply = []

  -- the message that an event accepted, which its answer tells
  abbrev pub asked_by : State C → Act → Reply → List AskedMessage
  asked_by s (SendMessage ttl order bytes) (SentMessage (Ok (suc count))) =
      record { first = end_of s.sending.blocks; order = order; bytes = bytes } ∷ []
  asked_by s act reply = []

  -- the message that an event showed, which its answer tells. One without room shows none
  abbrev pub shown_by : State C → Act → Reply → List ShownMessage
  shown_by s (RecvMessage (suc room)) (ReceivedMessage (Ok bytes)) = shown_as bytes (next_message s.receiving.blocks)
  shown_by s act reply = []

  -- the offsets that a message drop request takes
  abbrev pub offsets_of_request : State C → Result Packet Malformed → List ℕ
  offsets_of_request s (Ok (DropAsk message stamp dest first last)) = offsets_of_range s.receiving (drop_range s.receiving first last)
  offsets_of_request s other = []

  -- the offsets that a message drop request took, which the event's answer tells
  abbrev pub dropped_by : State C → Act → Reply → List ℕ
  dropped_by s (Arrive from bytes) (DidHear heard.Dropped) = offsets_of_request s (read bytes)
  dropped_by s act reply = []

module _ {C : Type 0} (w : Ways C) where
  -- ---- legal histories

  -- the state after these items
  unfoldable pub after_items : State C → List Item → State C
  after_items s [] = s
  after_items s (item ∷ items) = after_items (step w s item.event).after items

  -- the state that a history leads to
  abbrev pub state_of : History C → State C
  state_of h = after_items h.opening h.items

  -- each item's reply and datagrams are what the machine gives after the items before it
  unfoldable pub AreLegal : State C → List Item → Type 0
  AreLegal s [] = Unit {0}
  AreLegal s (item ∷ items) =
      (item.reply ≡ (step w s item.event).reply) × (item.outs ≡ outs_of (step w s item.event))
      × AreLegal (step w s item.event).after items

  abbrev pub IsLegal : History C → Type 0
  IsLegal h = AreLegal h.opening h.items

  -- what the machine makes of an event, under this pass
  abbrev pub item_of : State C → ℕ → Event → Item
  item_of s pass event =
      record { pass = pass; event = event; reply = (step w s event).reply; outs = outs_of (step w s event) }

  -- the history with one more event
  abbrev pub happened : History C → ℕ → Event → History C
  happened h pass event = record h { items = h.items ++ item_of (state_of h) pass event ∷ [] }

  -- ---- what a history tells

  -- how many blocks were acknowledged
  abbrev pub acked : History C → ℕ
  acked h = acked_of (state_of h).sending - start_of h

  -- the offsets at which these items placed blocks, from this state on
  unfoldable pub placed_from : State C → List Item → List ℕ
  placed_from s [] = []
  placed_from s (item ∷ items) = placed_by s item.event.act item.reply ++ placed_from (step w s item.event).after items

  -- the offsets of all blocks that were placed
  abbrev pub placed_offsets : History C → List ℕ
  placed_offsets h = placed_from h.opening h.items

  -- how many blocks have arrived, from the first one on and without a gap
  abbrev pub arrived : History C → ℕ
  arrived h = gapless (length (placed_offsets h)) (start_of h) (placed_offsets h)

  -- the messages that these items accepted, from this state on
  unfoldable pub asked_from : State C → List Item → List AskedMessage
  asked_from s [] = []
  asked_from s (item ∷ items) = asked_by s item.event.act item.reply ++ asked_from (step w s item.event).after items

  -- all messages that were accepted, in order
  abbrev pub asked : History C → List AskedMessage
  asked h = asked_from h.opening h.items

  -- the messages that these items showed, from this state on
  unfoldable pub shown_from : State C → List Item → List ShownMessage
  shown_from s [] = []
  shown_from s (item ∷ items) = shown_by s item.event.act item.reply ++ shown_from (step w s item.event).after items

  -- all messages that were received, in order
  abbrev pub shown : History C → List ShownMessage
  shown h = shown_from h.opening h.items

  -- the offsets that message drop requests took with these items, from this state on
  unfoldable pub dropped_from : State C → List Item → List ℕ
  dropped_from s [] = []
  dropped_from s (item ∷ items) = dropped_by s item.event.act item.reply ++ dropped_from (step w s item.event).after items

  -- all offsets that message drop requests took
  abbrev pub dropped_offsets : History C → List ℕ
  dropped_offsets h = dropped_from h.opening h.items
