-- What an event does to a network.
use Rattle.std.proofs.Common.{◌≡◌, ℕ, suc, ◌+◌, ◌≤◌, Bool, true, false, ◌||◌, List, [], ◌∷◌, ◌++◌, length, map, take, get_or, Some, refl, ap, ◌∙◌, sym, arith, append_assoc}
use Rattle.std.specs.Prelude.{slice_get, Option, None, Result, Ok, Err, OnErr, nat_le, if◌then◌else◌}
use Rattle.std.proofs.lemmas.List.{append-nil, length-append, map-set, map_more, take_at, take-take}
use Rattle.std.proofs.lemmas.Option.{slice_get-map, slice_get_within, get_or_from_slice_get}
use Rattle.udt_model.specs.declared.addresses.Addr.{Addr}
use Rattle.udt_model.specs.declared.packets.Kind.{Kind}
use Rattle.udt_model.specs.declared.packets.Kind.TheVariants as kind
use Rattle.udt_model.specs.State.{State, Datagram, Emission}
use Rattle.udt_model.specs.Phases.{Phase, Link, Stands, Lost, Absent, link_of}
use Rattle.udt_model.specs.Phases as phase
use Rattle.udt_model.specs.Step.{step}
use Rattle.udt_model.specs.declared.answers.Failure.TheVariants as failure
use Rattle.udt_model.specs.declared.limits.TheConstants.{SHAKE_INTERVAL, SHAKE_LIMIT}
use Rattle.udt_model.specs.Connections.{adopted_id, repeats, shake_emission}
use Rattle.udt_model.specs.Handshakes.{client_request, meet_request}
use Rattle.udt_model.specs.Events.{Listen, Connect, Meet, Shake, Accept, Offer, Withdraw, Send, Recv, SendMessage, RecvMessage, Tick, Close, Measure, DidWithdraw, DidTick, DidClose, Event, Reply, Outcome, answered, event, at_moment, outs_of}
use Rattle.udt_model.specs.Calls.{send_in, send_as, recv_in, recv_as, send_message_in, send_message_as, recv_message_in, recv_message_as}
use Rattle.udt_model.specs.Ticks.{tick_in}
use Rattle.udt_model.specs.History.{Item, item_of, state_of, happened}
use Rattle.udt_model.proofs.HistoryLemmas.{state_of-happened}
use Rattle.udt_model.specs.Network as model
use Rattle.udt_model.specs.Network.{has_listened, is_listening, met_by, first_met, meets_by}
use Rattle.udt_model.specs.Rate.{Ways}
use Rattle.udt_model.specs.Script.{from_host, event_at}
use Rattle.udt_model.specs.Texts.{datagram_text, datagrams_text}
use Rattle.udt_world.specs.Views.{Sight, sight_of_history, after_event, View, Shows, HasEvent, Moves, Answers}

-- ---- what calls emit and answer, whatever the phase

module _ {C : Type 0} where
  send-outs_in : (s : State C) (bytes : List ℕ) (l : Link) → outs_of (send_in s bytes l) ≡ []
  send-outs_in s bytes Stands = refl
  send-outs_in s bytes (Lost why) = refl
  send-outs_in s bytes Absent = refl

  recv-outs_in : (s : State C) (room : ℕ) (l : Link) → outs_of (recv_in s room l) ≡ []
  recv-outs_in s room Stands = refl
  recv-outs_in s room (Lost why) = refl
  recv-outs_in s room Absent = refl

  send_message-outs_in : (s : State C) (ttl : Option ℕ) (order : Bool) (bytes : List ℕ) (l : Link)
      → outs_of (send_message_in s ttl order bytes l) ≡ []
  send_message-outs_in s ttl order bytes Stands = refl
  send_message-outs_in s ttl order bytes (Lost why) = refl
  send_message-outs_in s ttl order bytes Absent = refl

  recv_message-outs_in : (s : State C) (room : ℕ) (l : Link) → outs_of (recv_message_in s room l) ≡ []
  recv_message-outs_in s room Stands = refl
  recv_message-outs_in s room (Lost why) = refl
  recv_message-outs_in s room Absent = refl

  -- and whatever the socket carries

  send-outs_as : (s : State C) (bytes : List ℕ) (k : Kind) → outs_of (send_as s bytes k) ≡ []
  send-outs_as s bytes kind.Stream = send-outs_in s bytes (link_of s.phase)
  send-outs_as s bytes kind.Message = refl

  recv-outs_as : (s : State C) (room : ℕ) (k : Kind) → outs_of (recv_as s room k) ≡ []
  recv-outs_as s room kind.Stream = recv-outs_in s room (link_of s.phase)
  recv-outs_as s room kind.Message = refl

  send_message-outs_as : (s : State C) (ttl : Option ℕ) (order : Bool) (bytes : List ℕ) (k : Kind)
      → outs_of (send_message_as s ttl order bytes k) ≡ []
  send_message-outs_as s ttl order bytes kind.Stream = refl
  send_message-outs_as s ttl order bytes kind.Message = send_message-outs_in s ttl order bytes (link_of s.phase)

  recv_message-outs_as : (s : State C) (room : ℕ) (k : Kind) → outs_of (recv_message_as s room k) ≡ []
  recv_message-outs_as s room kind.Stream = refl
  recv_message-outs_as s room kind.Message = recv_message-outs_in s room (link_of s.phase)

or-false : (b : Bool) → (b || false) ≡ b
or-false true = refl
or-false false = refl

-- ---- one more answer

either-or : (b x y z : Bool) → x ≡ (y || z) → (b || x) ≡ ((b || y) || z)
either-or true x y z is = refl
either-or false x y z is = is

first-none : (o : Option Addr) → first_met o None ≡ o
first-none None = refl
first-none (Some to) = refl

first-first : (a x y z : Option Addr) → x ≡ first_met y z → first_met a x ≡ first_met (first_met a y) z
first-first None x y z is = is
first-first (Some to) x y z is = refl

module _ {C : Type 0} (w : Ways C) where
  -- these calls emit nothing
  pub listen_outs : (s : State C) (now most : ℕ) (secret : List ℕ) → outs_of (step w s (event now (Listen most secret))) ≡ []
  unfolding step
  listen_outs s now most secret = refl

  pub connect_outs : (s : State C) (now : ℕ) (to : Addr) → outs_of (step w s (event now (Connect to))) ≡ []
  unfolding step
  connect_outs s now to = refl

  pub meet_outs : (s : State C) (now : ℕ) (to : Addr) → outs_of (step w s (event now (Meet to))) ≡ []
  unfolding step
  meet_outs s now to = refl

  pub shake_outs : (s : State C) (now : ℕ) → outs_of (step w s (event now Shake)) ≡ []
  unfolding step
  shake_outs s now = refl

  pub accept_outs : (s : State C) (now : ℕ) → outs_of (step w s (event now Accept)) ≡ []
  unfolding step
  accept_outs s now = refl

  pub offer_outs : (s : State C) (now id : ℕ) → outs_of (step w s (event now (Offer id))) ≡ []
  unfolding step
  offer_outs s now id = refl

  pub withdraw_outs : (s : State C) (now : ℕ) → outs_of (step w s (event now Withdraw)) ≡ []
  unfolding step
  withdraw_outs s now = refl

  pub withdraw_reply : (s : State C) (now : ℕ) → (step w s (event now Withdraw)).reply ≡ DidWithdraw
  unfolding step
  withdraw_reply s now = refl

  pub send_outs : (s : State C) (now : ℕ) (bytes : List ℕ) → outs_of (step w s (event now (Send bytes))) ≡ []
  unfolding step
  send_outs s now bytes = send-outs_as (at_moment s now) bytes s.kind

  pub recv_outs : (s : State C) (now room : ℕ) → outs_of (step w s (event now (Recv room))) ≡ []
  unfolding step
  recv_outs s now room = recv-outs_as (at_moment s now) room s.kind

  pub send_message_outs : (s : State C) (now : ℕ) (ttl : Option ℕ) (order : Bool) (bytes : List ℕ)
      → outs_of (step w s (event now (SendMessage ttl order bytes))) ≡ []
  unfolding step
  send_message_outs s now ttl order bytes = send_message-outs_as (at_moment s now) ttl order bytes s.kind

  pub recv_message_outs : (s : State C) (now room : ℕ) → outs_of (step w s (event now (RecvMessage room))) ≡ []
  unfolding step
  recv_message_outs s now room = recv_message-outs_as (at_moment s now) room s.kind

  pub close_outs : (s : State C) (now : ℕ) → outs_of (step w s (event now Close)) ≡ []
  unfolding step
  close_outs s now = refl

  pub close_reply : (s : State C) (now : ℕ) → (step w s (event now Close)).reply ≡ DidClose
  unfolding step
  close_reply s now = refl

  pub measure_outs : (s : State C) (now : ℕ) → outs_of (step w s (event now Measure)) ≡ []
  unfolding step
  measure_outs s now = refl

  either-ticks : (b : Bool) (x y : Outcome C) → x.reply ≡ DidTick → y.reply ≡ DidTick → (if b then x else y).reply ≡ DidTick
  either-ticks true x y one other = one
  either-ticks false x y one other = other

  repeats-ticks : (s : State C) (began again : ℕ) (next : Phase) (emission : Emission) → (repeats s began again next emission).reply ≡ DidTick
  repeats-ticks s began again next emission =
      either-ticks (nat_le (began + SHAKE_LIMIT) s.last)
      (answered (record s { phase = phase.Failed failure.TimedOut }) DidTick)
      (if nat_le again s.last
      then record { after = record s { phase = next }; reply = DidTick; emissions = emission ∷ [] }
      else answered s DidTick)
      refl
      (either-ticks (nat_le again s.last)
      (record { after = record s { phase = next }; reply = DidTick; emissions = emission ∷ [] })
      (answered s DidTick)
      refl refl)

  tick-reply_in : (s : State C) (p : Phase) → (tick_in w s p).reply ≡ DidTick
  tick-reply_in s phase.Opened = refl
  tick-reply_in s (phase.Listening b) = refl
  tick-reply_in s (phase.Connecting c again) =
      repeats-ticks s c.caller.began again
      (phase.Connecting c (s.last + SHAKE_INTERVAL)) (shake_emission s c.caller.to 0 (client_request c))
  tick-reply_in s (phase.Meeting m again) =
      repeats-ticks s m.caller.began again
      (phase.Meeting m (s.last + SHAKE_INTERVAL)) (shake_emission s m.caller.to (adopted_id m.adopted) (meet_request m))
  tick-reply_in s phase.Connected = refl
  tick-reply_in s (phase.Broken why) = refl
  tick-reply_in s (phase.Failed why) = refl
  tick-reply_in s phase.Closing = refl
  tick-reply_in s phase.Closed = refl

  -- a tick says no more than that it was done
  pub tick_reply : (s : State C) (now : ℕ) → (step w s (event now Tick)).reply ≡ DidTick
  unfolding step
  tick_reply s now = tick-reply_in (at_moment s now) s.phase

  -- ---- the network of the definitions

  -- the socket at a place is in the state that its history leads to
  pub shown_at : (n : model.Network C) (view : View C) (place : ℕ) (sight : Sight C) (known : model.ScriptSocket C) → Shows w n view
      → slice_get view.sockets place ≡ Some sight → slice_get n.sockets place ≡ Some known → sight ≡ sight_of_history w known
  shown_at n view place sight known shows found there =
      let other : slice_get (map (sight_of_history w) n.sockets) place ≡ Some (sight_of_history w known) =
      rw (slice_get-map (sight_of_history w) n.sockets place, there) refl in
      let both = rw shows.sockets_are at found in
      cc

  -- what a history tells of listening and meeting, with one more event
  pub listened-more : (items : List Item) (item : Item) → has_listened (items ++ item ∷ []) ≡ (has_listened items || is_listening item.reply)
  listened-more [] item = or-false (is_listening item.reply)
  listened-more (first ∷ items) item =
      either-or (is_listening first.reply) _ _ _ (listened-more items item)

  pub met-more : (items : List Item) (item : Item) → met_by (items ++ item ∷ []) ≡ first_met (met_by items) (meets_by item.event.act item.reply)
  unfolding met_by
  met-more [] item = first-none (meets_by item.event.act item.reply)
  met-more (first ∷ items) item = first-first (meets_by first.event.act first.reply) _ _ _ (met-more items item)

  -- what is seen of a socket with one more event
  pub sight-more : (known : model.ScriptSocket C) (happens : Event)
      → after_event w (sight_of_history w known) happens ≡ sight_of_history w (record known { history = happened w known.history 0 happens })
  sight-more known happens =
      rw (
        listened-more known.history.items (item_of w (state_of w known.history) 0 happens),
        met-more known.history.items (item_of w (state_of w known.history) 0 happens),
        state_of-happened w known.history 0 happens,
      ) refl

  -- an event of the code's socket is one of the network's
  pub moves_shown : (n : model.Network C) (place : ℕ) (known : model.ScriptSocket C) (happens : Event) (old new : View C)
      → Shows w n old → slice_get n.sockets place ≡ Some known → Moves w place happens old new
      → Shows w (event_at w n place known happens).network new
  unfolding event_at
  moves_shown n place known happens old new shows there h =
      let same = shown_at n old place h.sight known shows h.found there in
      let state : h.sight.state ≡ state_of w known.history = ap (λ (s : Sight C). s.state) same in
      let host : h.sight.host ≡ known.host = ap (λ (s : Sight C). s.host) same in
      let later : after_event w h.sight happens ≡ sight_of_history w (record known { history = happened w known.history 0 happens }) =
      ap (λ (s : Sight C). after_event w s happens) same ∙ sight-more known happens in
      record {
        hosts_are = h.hosts ∙ shows.hosts_are;
        sockets_are = rw (h.sockets, shows.sockets_are, later, map-set (sight_of_history w) n.sockets place (record known { history = happened w known.history 0 happens })) refl;
        datagrams_are = rw (h.datagrams, shows.datagrams_are, state, host) refl;
      }

  -- and it answers what the network's socket answers
  pub reply_shown : (n : model.Network C) (place : ℕ) (known : model.ScriptSocket C) (happens : Event) (reply : Reply) (old new : View C)
      → Shows w n old → slice_get n.sockets place ≡ Some known → Answers w place happens reply old new
      → reply ≡ (step w (state_of w known.history) happens).reply
  reply_shown n place known happens reply old new shows there answers =
      let same = shown_at n old place answers.moves.sight known shows answers.moves.found there in
      answers.reply_is ∙ ap (λ (s : Sight C). (step w s.state happens).reply) same

  -- and prints the same
  pub event_shown : (n : model.Network C) (place : ℕ) (known : model.ScriptSocket C) (happens : Event) (old new : View C) (before after : List ℕ)
      → Shows w n old → slice_get n.sockets place ≡ Some known → HasEvent w place happens old new before after
      → Shows w (event_at w n place known happens).network new × (after ≡ before ++ (event_at w n place known happens).text)
  unfolding event_at
  event_shown n place known happens old new before after shows there h =
      let same = shown_at n old place h.sight known shows h.found there in
      let state : h.sight.state ≡ state_of w known.history = ap (λ (s : Sight C). s.state) same in
      let host : h.sight.host ≡ known.host = ap (λ (s : Sight C). s.host) same in
      let name : h.sight.name ≡ known.name = ap (λ (s : Sight C). s.name) same in
      let count : length old.datagrams ≡ length n.datagrams = ap length shows.datagrams_are in (
        moves_shown n place known happens old new shows there
            (record { sight = h.sight; hosts = h.hosts; found = h.found; sockets = h.sockets; datagrams = h.datagrams }),
        rw (h.text, count, state, host, name) refl,
      )

-- ---- datagrams

-- one more datagram is printed after the others
pub datagrams_text-push : (number : ℕ) (datagrams : List model.ScriptDatagram) (last : model.ScriptDatagram)
    → datagrams_text number (datagrams ++ last ∷ []) ≡ datagrams_text number datagrams ++ datagram_text (number + length datagrams) last
unfolding datagrams_text
datagrams_text-push number [] last = let same : number + 0 ≡ number = omega arith in rw (same, append-nil (datagram_text number last)) refl
datagrams_text-push number (first ∷ datagrams) last =
    let moved : number + suc (length datagrams) ≡ (number + 1) + length datagrams = omega arith in
    rw (datagrams_text-push (number + 1) datagrams last, moved, append_assoc) refl

pub no_datagrams_text : (number : ℕ) → datagrams_text number [] ≡ []
unfolding datagrams_text
no_datagrams_text number = refl

-- the datagram at a place comes after those before it
pub kept_more : (from : Addr) (outs : List Datagram) (i : ℕ) (datagram : Datagram) → slice_get outs i ≡ Some datagram
    → map (from_host from) (take (i + 1) outs) ≡ map (from_host from) (take i outs) ++ from_host from datagram ∷ []
kept_more from outs i datagram found =
    let here : get_or outs i datagram ≡ datagram = get_or_from_slice_get outs i datagram datagram found in
    map_more (from_host from) outs i datagram (slice_get_within outs i datagram found) ∙ rw here refl

-- what stands in front stays there
pub kept_front : (old mid new text : List ℕ) (n m : ℕ) → n ≡ length old → m ≡ length mid → mid ≡ old ++ text → take m new ≡ mid → take n new ≡ old
kept_front old mid new text n m n_is m_is grown kept =
    let le : n ≤ m = omega (arith, ap length grown, length-append old text) in
    sym (take-take n m new le) ∙ rw (kept, grown) (take_at old text n (sym n_is))

-- ---- results

-- what holds in any case
pub on_err_from : {T E P : Type 0} (r : Result T E) → P → OnErr r P
on_err_from (Ok x) p = tt
on_err_from (Err e) p = p
