-- What an act does to the connections that wait at a socket.
use Rattle.std.proofs.Common.{◌≡◌, ℕ, zero, suc, Bool, true, false, List, [], ◌∷◌, ◌++◌, drop, Some, Ok, refl, ap, sym, subst, arith}
use Rattle.std.specs.Prelude.{slice_get, Option}
use Rattle.std.specs.List.{Contains}
use Rattle.std.proofs.lemmas.Option.{slice_get_read}
use Rattle.udt_model.specs.declared.addresses.Addr.{Addr}
use Rattle.udt_model.specs.declared.answers.Heard.{Heard}
use Rattle.udt_model.specs.declared.answers.Origin.{Origin}
use Rattle.udt_model.specs.declared.answers.Peer.{Peer}
use Rattle.udt_model.specs.declared.packets.Kind.{Kind}
use Rattle.udt_model.specs.declared.packets.Kind.TheVariants as kind
use Rattle.udt_model.specs.declared.sockets.ExpOutcome.{ExpOutcome}
use Rattle.udt_model.specs.declared.sockets.ExpOutcome.TheVariants as exp
use Rattle.udt_model.specs.Arrivals.{on_read}
use Rattle.udt_model.specs.Calls.{closed_from, send_in, send_as, recv_in, recv_as, send_message_in, send_message_as, recv_message_in, recv_message_as, pack_in}
use Rattle.udt_model.specs.Connections.{accept_answer, begun, first_offered, phase_after, is_backlog, has_port, with_offer, phase_after_accept, phase_after_offer, phase_after_withdraw, phase_without_port, repeats}
use Rattle.udt_model.specs.Connections as connections
use Rattle.udt_model.specs.Counted.{on_control}
use Rattle.udt_model.specs.Events.{Act, Listen, Connect, Meet, Accept, Offer, Withdraw, Send, Recv, SendMessage, RecvMessage, Pack, Tick, Close, PortDown, Arrive, Accepted, Outcome, event, at_moment}
use Rattle.udt_model.specs.Phases.{Phase, Backlog, Link, Stands, Lost, Absent, link_of}
use Rattle.udt_model.specs.Phases as phase
use Rattle.udt_model.specs.Rate.{Ways}
use Rattle.udt_model.specs.State.{State, Emission}
use Rattle.udt_model.specs.Step.{on_act, step}
use Rattle.udt_model.specs.Ticks.{after_exp, after_reports, exp_outcome, tick_in}
use Rattle.udt_model.specs.Wire.{read}
use Rattle.udt_model.proofs.ArrivalLemmas as arrives
use Rattle.udt_model.proofs.ArrivalLemmas.{Shakes, arrival-shows}
use Rattle.udt_model.proofs.PhaseLemmas.{repeats-show}
use Rattle.udt_world.specs.Wiring.{waiting_at}

-- those that waited stay, or none waits any more; an offer has one more wait behind them, and an accept takes the first
pub data Queues (act : Act) (before after : List ℕ) : Type 0 where
  Stay : after ≡ before → Queues act before after
  Leave : after ≡ [] → Queues act before after
  Grow : (id : ℕ) → act ≡ Offer id → after ≡ before ++ id ∷ [] → Queues act before after
  Shrink : act ≡ Accept → after ≡ drop 1 before → Queues act before after

-- each that waits after waited before, no two at one place
pub record Keeps (before after : List ℕ) : Type 0 where
  pub place : ℕ → ℕ
  pub kept : (a id : ℕ) → slice_get after a ≡ Some id → slice_get before (place a) ≡ Some id
  pub once : (a b : ℕ) → place a ≡ place b → a ≡ b

pub same-keeps : (before after : List ℕ) → after ≡ before → Keeps before after
same-keeps before after is = record {
  place = λ a. a;
  kept = λ a id at. subst (λ (ids : List ℕ). slice_get ids a ≡ Some id) is at;
  once = λ a b same. same;
}

pub none-keeps : (before after : List ℕ) → after ≡ [] → Keeps before after
none-keeps before after is = record {
  place = λ a. a;
  kept = λ a id at. absurd (none-there a id (subst (λ (ids : List ℕ). slice_get ids a ≡ Some id) is at));
  once = λ a b same. same;
}
  where
    none-there : (a id : ℕ) → slice_get [] a ≡ Some id → ⊥
    none-there a id at = cc

-- what is behind the first one is one place further
pub rest-there : (ids : List ℕ) (a id : ℕ) → slice_get (drop 1 ids) a ≡ Some id → slice_get ids (suc a) ≡ Some id
rest-there [] a id at = absurd (cc)
rest-there (first ∷ ids) a id at = at

pub rest-keeps : (before after : List ℕ) → after ≡ drop 1 before → Keeps before after
rest-keeps before after is = record {
  place = λ a. suc a;
  kept = λ a id at. rest-there before a id (subst (λ (ids : List ℕ). slice_get ids a ≡ Some id) is at);
  once = λ a b same. omega (arith, same);
}

-- no act but an offer has one more wait
pub queues-keep : (act : Act) (before after : List ℕ) → ((id : ℕ) → act ≡ Offer id → ⊥) → Queues act before after
    → Keeps before after
queues-keep act before after no_offer (Stay is) = same-keeps before after is
queues-keep act before after no_offer (Leave is) = none-keeps before after is
queues-keep act before after no_offer (Grow id offer is) = absurd (no_offer id offer)
queues-keep act before after no_offer (Shrink accept is) = rest-keeps before after is

-- who waits does so at a place
pub place-among : (ids : List ℕ) (id : ℕ) → Contains ids id → (a : ℕ) × (slice_get ids a ≡ Some id)
place-among ids id among = (among.0, slice_get_read ids _ among.0 id refl among.1 (sym among.2))

-- ---- phases

begun-queues : (act : Act) (right : Bool) (p next : Phase) → waiting_at next ≡ []
    → Queues act (waiting_at p) (waiting_at (phase_after (begun right p) next p))
begun-queues act false p next none = Stay refl
begun-queues act true phase.Opened next none = Leave none
begun-queues act true _ next none = Stay refl

accept-queues : (p : Phase) → Queues Accept (waiting_at p) (waiting_at (phase_after_accept p))
accept-queues (phase.Listening b) = Shrink refl refl
accept-queues _ = Stay refl

offered-queues : (b : Backlog) (id promised : ℕ) → Queues (Offer id) b.offered (with_offer b id promised).offered
offered-queues b id zero = Stay refl
offered-queues b id (suc promised) = Grow id refl refl

offer-queues : (id : ℕ) (p : Phase) → Queues (Offer id) (waiting_at p) (waiting_at (phase_after_offer id p))
offer-queues id (phase.Listening b) = offered-queues b id b.promised
offer-queues id _ = Stay refl

withdraw-queues : (p : Phase) → Queues Withdraw (waiting_at p) (waiting_at (phase_after_withdraw p))
withdraw-queues (phase.Listening b) = Stay refl
withdraw-queues _ = Stay refl

port-queues : (p : Phase) → Queues PortDown (waiting_at p) (waiting_at (phase_without_port p))
port-queues (phase.Listening b) = Leave refl
port-queues (phase.Connecting c again) = Leave refl
port-queues (phase.Meeting m again) = Leave refl
port-queues phase.Connected = Leave refl
port-queues _ = Stay refl

close-queues : (p : Phase) → Queues Close (waiting_at p) (waiting_at (closed_from p))
close-queues phase.Connected = Leave refl
close-queues phase.Closing = Stay refl
close-queues _ = Leave refl

-- the first that waits is accepted, and waits no more
pub record TakesFirst (before after : List ℕ) (id : ℕ) : Type 0 where
  pub first : slice_get before 0 ≡ Some id
  pub rest : after ≡ drop 1 before

first-there : (ids : List ℕ) (id : ℕ) → Accepted (first_offered ids) ≡ Accepted (Ok id) → slice_get ids 0 ≡ Some id
first-there [] id is = absurd (cc)
first-there (first ∷ ids) id is = let same : first ≡ id = cc in ap Some same

accept-first : (p : Phase) (id : ℕ) → Accepted (accept_answer p) ≡ Accepted (Ok id)
    → TakesFirst (waiting_at p) (waiting_at (phase_after_accept p)) id
accept-first (phase.Listening b) id is = record { first = first-there b.offered id is; rest = refl }
accept-first _ id is = absurd (cc)

-- ---- outcomes

module _ {C : Type 0} where
  -- what an act leaves of those that wait
  abbrev Waits : State C → Act → Outcome C → Type 0
  Waits s act o = Queues act (waiting_at s.phase) (waiting_at o.after.phase)

  send-waits : (s : State C) (act : Act) (bytes : List ℕ) (link : Link) → Waits s act (send_in s bytes link)
  send-waits s act bytes Stands = Stay refl
  send-waits s act bytes (Lost why) = Stay refl
  send-waits s act bytes Absent = Stay refl

  send_as-waits : (s : State C) (act : Act) (bytes : List ℕ) (k : Kind) → Waits s act (send_as s bytes k)
  send_as-waits s act bytes kind.Stream = send-waits s act bytes (link_of s.phase)
  send_as-waits s act bytes kind.Message = Stay refl

  recv-waits : (s : State C) (act : Act) (room : ℕ) (link : Link) → Waits s act (recv_in s room link)
  recv-waits s act room Stands = Stay refl
  recv-waits s act room (Lost why) = Stay refl
  recv-waits s act room Absent = Stay refl

  recv_as-waits : (s : State C) (act : Act) (room : ℕ) (k : Kind) → Waits s act (recv_as s room k)
  recv_as-waits s act room kind.Stream = recv-waits s act room (link_of s.phase)
  recv_as-waits s act room kind.Message = Stay refl

  send_message-waits : (s : State C) (act : Act) (ttl : Option ℕ) (order : Bool) (bytes : List ℕ) (link : Link)
      → Waits s act (send_message_in s ttl order bytes link)
  send_message-waits s act ttl order bytes Stands = Stay refl
  send_message-waits s act ttl order bytes (Lost why) = Stay refl
  send_message-waits s act ttl order bytes Absent = Stay refl

  send_message_as-waits : (s : State C) (act : Act) (ttl : Option ℕ) (order : Bool) (bytes : List ℕ) (k : Kind)
      → Waits s act (send_message_as s ttl order bytes k)
  send_message_as-waits s act ttl order bytes kind.Stream = Stay refl
  send_message_as-waits s act ttl order bytes kind.Message = send_message-waits s act ttl order bytes (link_of s.phase)

  recv_message-waits : (s : State C) (act : Act) (room : ℕ) (link : Link) → Waits s act (recv_message_in s room link)
  recv_message-waits s act room Stands = Stay refl
  recv_message-waits s act room (Lost why) = Stay refl
  recv_message-waits s act room Absent = Stay refl

  recv_message_as-waits : (s : State C) (act : Act) (room : ℕ) (k : Kind) → Waits s act (recv_message_as s room k)
  recv_message_as-waits s act room kind.Stream = Stay refl
  recv_message_as-waits s act room kind.Message = recv_message-waits s act room (link_of s.phase)

  repeats-waits : (s : State C) (act : Act) (next : Phase) (began again : ℕ) (emission : Emission) → waiting_at next ≡ []
      → Waits s act (repeats s began again next emission)
  repeats-waits s act next began again emission none =
      repeats-show s began again next emission (Waits s act)
      (record { fails = Leave refl; again = Leave none; waits = Stay refl })

  shakes-waits : (s : State C) (from : Addr) (raw : List ℕ) (next : Phase) (peer : Peer) (from_whom : Origin) (answer : Heard)
      (emissions : List Emission) → Shakes s from (read raw) next peer from_whom answer emissions
      → Waits s (Arrive from raw) (on_control (record s { phase = next; peer = peer; origin = from_whom }) answer emissions)
  shakes-waits s from raw _ _ _ _ _ (arrives.GivesCookie b stamp shake reply is reads asks named judges) = Stay refl
  shakes-waits s from raw _ _ _ _ _ (arrives.Promises b stamp shake is reads asks named judges) =
      Stay (sym (ap (λ (p : Phase). waiting_at p) is))
  shakes-waits s from raw _ _ _ _ _ (arrives.Refuses b stamp shake reply is reads asks named judges) = Stay refl
  shakes-waits s from raw _ _ _ _ _ (arrives.TakesCookie c again stamp dest shake is reads sees) = Leave refl
  shakes-waits s from raw _ _ _ _ _ (arrives.IsRefused c again stamp dest shake is reads sees) = Leave refl
  shakes-waits s from raw _ _ _ _ _ (arrives.Adopts m again stamp dest shake peer is reads sees) = Leave refl
  shakes-waits s from raw _ _ _ _ _ (arrives.AnswersAdopted m again stamp dest shake is reads sees) = Stay refl

module _ {C : Type 0} (w : Ways C) where
  arrive-waits : (s : State C) (from : Addr) (raw : List ℕ) → Waits s (Arrive from raw) (on_read w s from (read raw))
  arrive-waits s from raw = arrival-shows w s from (Waits s (Arrive from raw)) (read raw) (record {
    passed = λ counters answer differs. Stay refl;
    noticed = λ counters answer differs connected. Stay refl;
    brought = λ number flags stamp bytes connected sender is. Stay refl;
    dropped = λ message stamp first last range connected sender is messages taken. Stay refl;
    acknowledged = λ number stamp body offset connected sender is acks. Stay refl;
    reported = λ stamp ranges connected sender is. Stay refl;
    confirmed = λ number ack connected found. Stay refl;
    ended = λ connected. Leave refl;
    again = λ stamp dest shake answer connected sender is same answers. Stay refl;
    shaken = λ next peer from_whom answer emissions placed drops unsettled shakes.
        shakes-waits s from raw next peer from_whom answer emissions shakes;
    linked = λ peer from_whom emissions unsettled links. Leave refl;
  })

  pack-waits : (s : State C) (link : Link) → Waits s Pack (pack_in w s link)
  pack-waits s Stands = Stay refl
  pack-waits s (Lost why) = Stay refl
  pack-waits s Absent = Stay refl

  exp-waits : (s : State C) (what : ExpOutcome)
      → Queues Tick (waiting_at s.phase) (waiting_at (after_exp w (after_reports s) what).phase)
  exp-waits s exp.Breaks = Leave refl
  exp-waits s exp.NotDue = Stay refl
  exp-waits s exp.LosesAll = Stay refl
  exp-waits s exp.KeepsAlive = Stay refl

  tick-waits : (s : State C) (p : Phase) → Waits s Tick (tick_in w s p)
  tick-waits s phase.Connected = exp-waits s (exp_outcome s)
  tick-waits s (phase.Connecting c again) = repeats-waits s Tick _ c.caller.began again _ refl
  tick-waits s (phase.Meeting m again) = repeats-waits s Tick _ m.caller.began again _ refl
  tick-waits s phase.Closing = Leave refl
  tick-waits s _ = Stay refl

  on_act-waits : (s : State C) (act : Act) → Waits s act (on_act w s act)
  on_act-waits s (Listen most secret) =
      begun-queues (Listen most secret) (is_backlog most) s.phase (connections.listens s most secret) refl
  on_act-waits s (Connect to) = begun-queues (Connect to) (has_port to) s.phase (connections.asks s to) refl
  on_act-waits s (Meet to) = begun-queues (Meet to) (has_port to) s.phase (connections.meets s to) refl
  on_act-waits s Accept = accept-queues s.phase
  on_act-waits s (Offer id) = offer-queues id s.phase
  on_act-waits s Withdraw = withdraw-queues s.phase
  on_act-waits s (Send bytes) = send_as-waits s (Send bytes) bytes s.kind
  on_act-waits s (Recv room) = recv_as-waits s (Recv room) room s.kind
  on_act-waits s (SendMessage ttl order bytes) = send_message_as-waits s (SendMessage ttl order bytes) ttl order bytes s.kind
  on_act-waits s (RecvMessage room) = recv_message_as-waits s (RecvMessage room) room s.kind
  on_act-waits s Pack = pack-waits s (link_of s.phase)
  on_act-waits s Tick = tick-waits s s.phase
  on_act-waits s Close = close-queues s.phase
  on_act-waits s PortDown = port-queues s.phase
  on_act-waits s (Arrive from raw) = arrive-waits s from raw
  on_act-waits s _ = Stay refl

  -- an act does so to those that wait
  pub step-waits : (s : State C) (now : ℕ) (act : Act) → Waits s act (step w s (event now act))
  unfolding step
  step-waits s now act = on_act-waits (at_moment s now) act

  -- so it is with an accept that gives a connection
  pub accept-takes : (s : State C) (now id : ℕ) → (step w s (event now Accept)).reply ≡ Accepted (Ok id)
      → TakesFirst (waiting_at s.phase) (waiting_at (step w s (event now Accept)).after.phase) id
  unfolding step
  accept-takes s now id gives = accept-first s.phase id gives
