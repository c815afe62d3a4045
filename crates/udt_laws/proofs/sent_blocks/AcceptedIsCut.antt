-- How a history cuts what it accepts into blocks: the kept ones are the last of them.
use Rattle.std.proofs.Common.{◌≡◌, ℕ, zero, suc, ◌+◌, ◌*◌, ◌≤◌, Bool, true, false, List, [], ◌∷◌, ◌++◌, length, take, Ok, Err, refl, ap, ◌∙◌, sym, subst, inl, inr, arith}
use Rattle.std.specs.Prelude.{Option, None, Result}
use Rattle.std.specs.List.{concat}
use Rattle.std.proofs.Math.Nat.{mul-le-mul_right}
use Rattle.std.proofs.lemmas.Bool.{cases_lt}
use Rattle.std.proofs.lemmas.List.{append_assoc, append-nil, length-append, length-map}
use Rattle.udt_model.specs.declared.addresses.Addr.{Addr}
use Rattle.udt_model.specs.Phases.{Phase, Link, Stands, Lost, Absent, link_of}
use Rattle.udt_model.specs.Phases as phase
use Rattle.udt_model.specs.declared.answers.SendNo.{SendNo}
use Rattle.udt_model.specs.declared.packets.Kind.{Kind}
use Rattle.udt_model.specs.declared.packets.Kind.TheVariants as kind
use Rattle.udt_model.specs.declared.sockets.ExpOutcome.{ExpOutcome}
use Rattle.udt_model.specs.declared.sockets.ExpOutcome.TheVariants as exp
use Rattle.udt_model.specs.Arrivals.{on_read}
use Rattle.udt_model.specs.Calls.{taken_as, send_in, send_as, recv_in, recv_as, send_message_in, send_message_as, recv_message_in, recv_message_as, pack_in}
use Rattle.udt_model.specs.Connections.{repeats}
use Rattle.udt_model.specs.Events.{Act, Send, Recv, SendMessage, RecvMessage, Pack, Tick, Arrive, Event, Sent, SentMessage, at_moment, Reply}
use Rattle.udt_model.specs.History.{Item, taken_by, accepted_by, after_items, AreLegal}
use Rattle.udt_model.specs.Rate.{Ways}
use Rattle.udt_model.specs.SendBlocks.{KeptBlock, count_for, following_message, end_of}
use Rattle.udt_model.specs.SendHalf.{Sending, send_answer, message_answer, expiry_of, after_answer, after_send, after_send_message, packing}
use Rattle.udt_model.specs.State.{State, Emission}
use Rattle.udt_model.specs.Step.{on_act, step}
use Rattle.udt_model.specs.Ticks.{exp_outcome, after_exp, after_reports, tick_in}
use Rattle.udt_model.specs.Wire.{read}
use Rattle.udt_model.proofs.ArrivalLemmas.{arrival-shows}
use Rattle.udt_model.proofs.ReceivingLemmas.{concat-append}
use Rattle.udt_model.proofs.SendingLemmas.{bytes_of, length-blocks_of, blocks_of-all, IsCut, new_blocks, cut-with_message, cut-after_packing, cut-after_ack, cut-after_nak, cut-after_timeout}
use Rattle.udt_model.proofs.PhaseLemmas.{is_settled, repeats-show}
use Rattle.udt_model.proofs.StepLemmas.{step-keeps}

-- ---- the blocks of bytes

-- joined the blocks are these bytes, and there are no more of them than bytes
pub record AreCutOf (blocks : List (List ℕ)) (bytes : List ℕ) : Type 0 where
  pub joined : concat blocks ≡ bytes
  pub few : length blocks ≤ length bytes

none-cut : AreCutOf [] []
none-cut = record { joined = refl; few = omega arith }

append-cut : (blocks more : List (List ℕ)) (bytes rest : List ℕ) → AreCutOf blocks bytes → AreCutOf more rest
    → AreCutOf (blocks ++ more) (bytes ++ rest)
append-cut blocks more bytes rest one two = record {
  joined = concat-append blocks more ∙ ap (λ (front : List ℕ). front ++ concat more) one.joined
      ∙ ap (λ (last : List ℕ). bytes ++ last) two.joined;
  few = omega (arith, one.few, two.few, length-append blocks more, length-append bytes rest);
}

-- no block is empty
count_for-few : (len payload : ℕ) → 1 ≤ payload → count_for len payload ≤ len
count_for-few len payload some = elim (cases_lt len (count_for len payload)) [
  | inl above ↦
      let next : len + 1 ≤ count_for len payload = omega (arith, above) in
      let most : (len + 1) * payload ≤ count_for len payload * payload = mul-le-mul_right payload next in
      let each : 1 * len ≤ payload * len = mul-le-mul_right len some in
      absurd (omega (arith, most, each, some))
  | inr within ↦ within
]

module _ {C : Type 0} where
  message-parts : (s : Sending C) (order : Bool) (expires : Option ℕ) (bytes : List ℕ) → 1 ≤ s.blocks.payload
      → AreCutOf (bytes_of (new_blocks s order expires bytes)) bytes
  message-parts s order expires bytes some =
      let count = count_for (length bytes) s.blocks.payload in
      let blocks = new_blocks s order expires bytes in
      let many = length-blocks_of (following_message s.blocks count s.message order expires) s.blocks.payload (end_of s.blocks) count bytes in
      record {
        joined = blocks_of-all _ s.blocks.payload _ bytes some;
        few = omega (arith, count_for-few (length bytes) s.blocks.payload some, many, length-map blocks (λ (block : KeptBlock). block.bytes));
      }

  -- ---- the blocks of a history

  -- the blocks into which a send cuts what it takes
  abbrev pub blocks_taken : Sending C → Bool → Option ℕ → List ℕ → Result ℕ SendNo → List (List ℕ)
  blocks_taken s order expires bytes (Ok zero) = []
  blocks_taken s order expires bytes (Ok (suc n)) = bytes_of (new_blocks s order expires (take (suc n) bytes))
  blocks_taken s order expires bytes (Err why) = []

  abbrev pub blocks_sent : State C → List ℕ → Link → List (List ℕ)
  blocks_sent s bytes Stands = blocks_taken s.sending false None bytes (send_answer s.sending (length bytes))
  blocks_sent s bytes (Lost why) = []
  blocks_sent s bytes Absent = []

  -- a socket that carries messages takes no bytes of a stream
  abbrev pub blocks_sent_as : State C → List ℕ → Kind → List (List ℕ)
  blocks_sent_as s bytes kind.Stream = blocks_sent s bytes (link_of s.phase)
  blocks_sent_as s bytes kind.Message = []

  abbrev pub blocks_asked : State C → Option ℕ → Bool → List ℕ → Link → List (List ℕ)
  blocks_asked s ttl order bytes Stands =
      blocks_taken s.sending order (expiry_of s.last ttl) bytes (message_answer s.sending (length bytes))
  blocks_asked s ttl order bytes (Lost why) = []
  blocks_asked s ttl order bytes Absent = []

  -- and one that carries a stream takes no message
  abbrev pub blocks_asked_as : State C → Option ℕ → Bool → List ℕ → Kind → List (List ℕ)
  blocks_asked_as s ttl order bytes kind.Stream = []
  blocks_asked_as s ttl order bytes kind.Message = blocks_asked s ttl order bytes (link_of s.phase)

  abbrev pub blocks_in : State C → Act → List (List ℕ)
  blocks_in s (Send bytes) = blocks_sent_as s bytes s.kind
  blocks_in s (SendMessage ttl order bytes) = blocks_asked_as s ttl order bytes s.kind
  blocks_in s act = []

  -- the blocks that an event adds
  unfoldable pub blocks_of : State C → Event → List (List ℕ)
  blocks_of s event = blocks_in (at_moment s event.now) event.act

  -- ---- they are those of what was accepted

  taken-cut : (s : Sending C) (order : Bool) (expires : Option ℕ) (bytes : List ℕ) (answer : Result ℕ SendNo) → 1 ≤ s.blocks.payload
      → AreCutOf (blocks_taken s order expires bytes answer) (taken_by (Send bytes) (Sent (taken_as answer)))
  taken-cut s order expires bytes (Ok zero) some = none-cut
  taken-cut s order expires bytes (Ok (suc n)) some = message-parts s order expires (take (suc n) bytes) some
  taken-cut s order expires bytes (Err why) some = none-cut

  message-taken : (s : Sending C) (ttl : Option ℕ) (order : Bool) (expires : Option ℕ) (bytes : List ℕ) (answer : Result ℕ SendNo) → 1 ≤ s.blocks.payload
      → AreCutOf (blocks_taken s order expires bytes answer) (taken_by (SendMessage ttl order bytes) (SentMessage (taken_as answer)))
  message-taken s ttl order expires bytes (Ok zero) some = none-cut
  message-taken s ttl order expires bytes (Ok (suc n)) some = message-parts s order expires (take (suc n) bytes) some
  message-taken s ttl order expires bytes (Err why) some = none-cut

  sent-parts : (s : State C) (bytes : List ℕ) (link : Link) → 1 ≤ s.sending.blocks.payload
      → AreCutOf (blocks_sent s bytes link) (taken_by (Send bytes) (send_in s bytes link).reply)
  sent-parts s bytes Stands some = taken-cut s.sending false None bytes (send_answer s.sending (length bytes)) some
  sent-parts s bytes (Lost why) some = none-cut
  sent-parts s bytes Absent some = none-cut

  sent_as-parts : (s : State C) (bytes : List ℕ) (k : Kind) → 1 ≤ s.sending.blocks.payload
      → AreCutOf (blocks_sent_as s bytes k) (taken_by (Send bytes) (send_as s bytes k).reply)
  sent_as-parts s bytes kind.Stream some = sent-parts s bytes (link_of s.phase) some
  sent_as-parts s bytes kind.Message some = none-cut

  asked-parts : (s : State C) (ttl : Option ℕ) (order : Bool) (bytes : List ℕ) (link : Link) → 1 ≤ s.sending.blocks.payload
      → AreCutOf (blocks_asked s ttl order bytes link) (taken_by (SendMessage ttl order bytes) (send_message_in s ttl order bytes link).reply)
  asked-parts s ttl order bytes Stands some =
      message-taken s.sending ttl order (expiry_of s.last ttl) bytes (message_answer s.sending (length bytes)) some
  asked-parts s ttl order bytes (Lost why) some = none-cut
  asked-parts s ttl order bytes Absent some = none-cut

  asked_as-parts : (s : State C) (ttl : Option ℕ) (order : Bool) (bytes : List ℕ) (k : Kind) → 1 ≤ s.sending.blocks.payload
      → AreCutOf (blocks_asked_as s ttl order bytes k) (taken_by (SendMessage ttl order bytes) (send_message_as s ttl order bytes k).reply)
  asked_as-parts s ttl order bytes kind.Stream some = none-cut
  asked_as-parts s ttl order bytes kind.Message some = asked-parts s ttl order bytes (link_of s.phase) some

  -- ---- the half that takes them

  answer-cut : (s : Sending C) (start : ℕ) (blocks : List (List ℕ)) (order : Bool) (expires : Option ℕ) (bytes : List ℕ) (answer : Result ℕ SendNo)
      → IsCut s start blocks → IsCut (after_answer s order expires bytes answer) start (blocks ++ blocks_taken s order expires bytes answer)
  answer-cut s start blocks order expires bytes (Ok zero) is_cut = rw append-nil is_cut
  answer-cut s start blocks order expires bytes (Ok (suc n)) is_cut = cut-with_message s start blocks order expires (take (suc n) bytes) is_cut
  answer-cut s start blocks order expires bytes (Err why) is_cut = rw append-nil is_cut

  send-cut : (s : Sending C) (start : ℕ) (blocks : List (List ℕ)) (bytes : List ℕ) → IsCut s start blocks
      → IsCut (after_send s bytes) start (blocks ++ blocks_taken s false None bytes (send_answer s (length bytes)))
  unfolding after_send
  send-cut s start blocks bytes is_cut = answer-cut s start blocks false None bytes (send_answer s (length bytes)) is_cut

  message-cut : (s : Sending C) (start : ℕ) (blocks : List (List ℕ)) (now : ℕ) (ttl : Option ℕ) (order : Bool) (bytes : List ℕ) → IsCut s start blocks
      → IsCut (after_send_message s now ttl order bytes) start
      (blocks ++ blocks_taken s order (expiry_of now ttl) bytes (message_answer s (length bytes)))
  unfolding after_send_message
  message-cut s start blocks now ttl order bytes is_cut =
      answer-cut s start blocks order (expiry_of now ttl) bytes (message_answer s (length bytes)) is_cut

module _ {C : Type 0} (w : Ways C) where
  -- the blocks that items add, from this state on
  unfoldable pub blocks_by : State C → List Item → List (List ℕ)
  blocks_by s [] = []
  blocks_by s (item ∷ items) = blocks_of s item.event ++ blocks_by (step w s item.event).after items

  pub blocks_by-append : (s : State C) (items more : List Item) → blocks_by s (items ++ more) ≡ blocks_by s items ++ blocks_by (after_items w s items) more
  unfolding blocks_by after_items
  blocks_by-append s [] more = refl
  blocks_by-append s (item ∷ items) more =
      let next = (step w s item.event).after in
      ap (λ (rest : List (List ℕ)). blocks_of s item.event ++ rest) (blocks_by-append next items more)
      ∙ sym (append_assoc (blocks_of s item.event) (blocks_by next items) (blocks_by (after_items w next items) more))

  in-parts : (s : State C) (act : Act) → 1 ≤ s.sending.blocks.payload → AreCutOf (blocks_in s act) (taken_by act (on_act w s act).reply)
  in-parts s (Send bytes) some = sent_as-parts s bytes s.kind some
  in-parts s (SendMessage ttl order bytes) some = asked_as-parts s ttl order bytes s.kind some
  in-parts s _ some = none-cut

  pub event-parts : (s : State C) (event : Event) → 1 ≤ s.sending.blocks.payload
      → AreCutOf (blocks_of s event) (taken_by event.act (step w s event).reply)
  unfolding blocks_of step
  event-parts s event some = in-parts (at_moment s event.now) event.act some

  pub blocks_by-parts : (s : State C) (items : List Item) → is_settled s.phase ≡ true → AreLegal w s items → 1 ≤ s.sending.blocks.payload
      → AreCutOf (blocks_by s items) (accepted_by items)
  unfolding blocks_by accepted_by AreLegal
  blocks_by-parts s [] settled legal some = none-cut
  blocks_by-parts s (item ∷ items) settled legal some =
      let next = (step w s item.event).after in
      let same = step-keeps w s item.event settled in
      let some_next = subst (λ (n : ℕ). 1 ≤ n) (sym same.sending.payload) some in
      let one = subst (λ (reply : Reply). AreCutOf (blocks_of s item.event) (taken_by item.event.act reply)) (sym legal.0) (event-parts s item.event some) in
      append-cut (blocks_of s item.event) (blocks_by next items) (taken_by item.event.act item.reply) (accepted_by items) one
      (blocks_by-parts next items (same.settled settled) legal.2 some_next)

  -- ---- the kept ones are the last of them

  module _ (start : ℕ) (blocks : List (List ℕ)) (s : State C) (settled : is_settled s.phase ≡ true) (is_cut : IsCut s.sending start blocks) where
    -- no block is added
    none-added : (sending : Sending C) → IsCut sending start blocks → IsCut sending start (blocks ++ [])
    none-added sending cut = subst (IsCut sending start) (sym (append-nil blocks)) cut

    stays-cut : IsCut s.sending start (blocks ++ [])
    stays-cut = none-added s.sending is_cut

    send_in-cut : (bytes : List ℕ) (link : Link) → IsCut (send_in s bytes link).after.sending start (blocks ++ blocks_sent s bytes link)
    send_in-cut bytes Stands = send-cut s.sending start blocks bytes is_cut
    send_in-cut bytes (Lost why) = stays-cut
    send_in-cut bytes Absent = stays-cut

    recv_in-cut : (room : ℕ) (link : Link) → IsCut (recv_in s room link).after.sending start (blocks ++ [])
    recv_in-cut room Stands = stays-cut
    recv_in-cut room (Lost why) = stays-cut
    recv_in-cut room Absent = stays-cut

    send_as-cut : (bytes : List ℕ) (k : Kind) → IsCut (send_as s bytes k).after.sending start (blocks ++ blocks_sent_as s bytes k)
    send_as-cut bytes kind.Stream = send_in-cut bytes (link_of s.phase)
    send_as-cut bytes kind.Message = stays-cut

    recv_as-cut : (room : ℕ) (k : Kind) → IsCut (recv_as s room k).after.sending start (blocks ++ [])
    recv_as-cut room kind.Stream = recv_in-cut room (link_of s.phase)
    recv_as-cut room kind.Message = stays-cut

    asked_in-cut : (ttl : Option ℕ) (order : Bool) (bytes : List ℕ) (link : Link)
        → IsCut (send_message_in s ttl order bytes link).after.sending start (blocks ++ blocks_asked s ttl order bytes link)
    asked_in-cut ttl order bytes Stands = message-cut s.sending start blocks s.last ttl order bytes is_cut
    asked_in-cut ttl order bytes (Lost why) = stays-cut
    asked_in-cut ttl order bytes Absent = stays-cut

    asked_as-cut : (ttl : Option ℕ) (order : Bool) (bytes : List ℕ) (k : Kind)
        → IsCut (send_message_as s ttl order bytes k).after.sending start (blocks ++ blocks_asked_as s ttl order bytes k)
    asked_as-cut ttl order bytes kind.Stream = stays-cut
    asked_as-cut ttl order bytes kind.Message = asked_in-cut ttl order bytes (link_of s.phase)

    shown_in-cut : (room : ℕ) (link : Link) → IsCut (recv_message_in s room link).after.sending start (blocks ++ [])
    shown_in-cut room Stands = stays-cut
    shown_in-cut room (Lost why) = stays-cut
    shown_in-cut room Absent = stays-cut

    shown_as-cut : (room : ℕ) (k : Kind) → IsCut (recv_message_as s room k).after.sending start (blocks ++ [])
    shown_as-cut room kind.Stream = stays-cut
    shown_as-cut room kind.Message = shown_in-cut room (link_of s.phase)

    pack_in-cut : (link : Link) → IsCut (pack_in w s link).after.sending start (blocks ++ [])
    pack_in-cut Stands =
        none-added _ (cut-after_packing w s.sending start s.last blocks (packing w s.sending s.last) refl is_cut)
    pack_in-cut (Lost why) = stays-cut
    pack_in-cut Absent = stays-cut

    exp-cut : (what : ExpOutcome) → IsCut (after_exp w (after_reports s) what).sending start (blocks ++ [])
    exp-cut exp.NotDue = stays-cut
    exp-cut exp.Breaks = stays-cut
    exp-cut exp.LosesAll = none-added _ (cut-after_timeout w s.sending start blocks s.rtt is_cut)
    exp-cut exp.KeepsAlive = stays-cut

    repeats-cut : (began again : ℕ) (next : Phase) (emission : Emission) → IsCut (repeats s began again next emission).after.sending start (blocks ++ [])
    repeats-cut began again next emission =
        repeats-show s began again next emission (λ outcome. IsCut outcome.after.sending start (blocks ++ []))
        (record { fails = stays-cut; again = stays-cut; waits = stays-cut })

    tick_in-cut : (phase : Phase) → IsCut (tick_in w s phase).after.sending start (blocks ++ [])
    tick_in-cut phase.Connected = exp-cut (exp_outcome s)
    tick_in-cut (phase.Connecting c again) = repeats-cut c.caller.began again _ _
    tick_in-cut (phase.Meeting m again) = repeats-cut m.caller.began again _ _
    tick_in-cut phase.Closing = stays-cut
    tick_in-cut _ = stays-cut

    on_read-cut : (from : Addr) (bytes : List ℕ) → IsCut (on_read w s from (read bytes)).after.sending start (blocks ++ [])
    on_read-cut from bytes =
        arrival-shows w s from (λ outcome. IsCut outcome.after.sending start (blocks ++ [])) (read bytes) (record {
          passed = λ counters answer differs. stays-cut;
          noticed = λ counters answer differs connected. stays-cut;
          brought = λ number flags stamp payload connected sender is. stays-cut;
          dropped = λ message stamp first last range connected sender is messages taken. stays-cut;
          acknowledged = λ number stamp body offset connected sender is acks.
              none-added _ (cut-after_ack w s.sending start blocks s.rtt body is_cut);
          reported = λ stamp ranges connected sender is. none-added _ (cut-after_nak w s.sending start blocks s.rtt ranges is_cut);
          confirmed = λ number ack connected found. stays-cut;
          ended = λ connected. stays-cut;
          again = λ stamp dest shake answer connected sender is same answers. stays-cut;
          shaken = λ next peer origin answer emissions differs drops unsettled is. stays-cut;
          linked = λ peer origin emissions unsettled is. absurd (cc);
        })

    act-cut : (act : Act) → IsCut (on_act w s act).after.sending start (blocks ++ blocks_in s act)
    act-cut (Send bytes) = send_as-cut bytes s.kind
    act-cut (Recv room) = recv_as-cut room s.kind
    act-cut (SendMessage ttl order bytes) = asked_as-cut ttl order bytes s.kind
    act-cut (RecvMessage room) = shown_as-cut room s.kind
    act-cut Pack = pack_in-cut (link_of s.phase)
    act-cut Tick = tick_in-cut s.phase
    act-cut (Arrive from bytes) = on_read-cut from bytes
    act-cut _ = stays-cut

  pub step-cut : (start : ℕ) (blocks : List (List ℕ)) (s : State C) (event : Event) → is_settled s.phase ≡ true → IsCut s.sending start blocks
      → IsCut (step w s event).after.sending start (blocks ++ blocks_of s event)
  unfolding step blocks_of
  step-cut start blocks s event settled is_cut = act-cut start blocks (at_moment s event.now) settled is_cut event.act

  -- over all items they are the last of those before and those that these add
  pub items-cut : (s : State C) (start : ℕ) (blocks : List (List ℕ)) (items : List Item) → is_settled s.phase ≡ true → IsCut s.sending start blocks
      → IsCut (after_items w s items).sending start (blocks ++ blocks_by s items)
  unfolding after_items blocks_by
  items-cut s start blocks [] settled is_cut = subst (IsCut s.sending start) (sym (append-nil blocks)) is_cut
  items-cut s start blocks (item ∷ items) settled is_cut =
      let next = (step w s item.event).after in
      let still = (step-keeps w s item.event settled).settled settled in
      let all = items-cut next start (blocks ++ blocks_of s item.event) items still (step-cut start blocks s item.event settled is_cut) in
      subst (IsCut (after_items w next items).sending start)
      (append_assoc blocks (blocks_of s item.event) (blocks_by next items)) all
