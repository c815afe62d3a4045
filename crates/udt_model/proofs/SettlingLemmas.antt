-- How a socket begins that is opened without a connection: until a handshake connects it it emits no more than
-- handshakes, and neither takes nor gives anything. From then on it is as one that is connected from its opening on.
use Rattle.std.proofs.Common.{◌≡◌, ℕ, false, List, [], ◌∷◌, ◌++◌, refl, ap, ◌∙◌, sym, subst, inl, inr, ◌⊎◌, arith}
use Rattle.std.specs.Prelude.{min}
use Rattle.std.specs.List.{Contains}
use Rattle.std.proofs.lemmas.List.Elements.{Contains-append_cases, Contains-append_right}
use Rattle.udt_model.specs.declared.addresses.Addr.{Addr}
use Rattle.udt_model.specs.declared.answers.Heard.{Heard}
use Rattle.udt_model.specs.declared.answers.Heard.TheVariants as heard
use Rattle.udt_model.specs.declared.answers.Origin.{Origin}
use Rattle.udt_model.specs.declared.answers.Peer.{Peer}
use Rattle.udt_model.specs.declared.packets.Config.{Config}
use Rattle.udt_model.specs.declared.packets.Shake.{Shake}
use Rattle.udt_model.specs.Calls.{stamp_of}
use Rattle.udt_model.specs.Connections.{shake_emission}
use Rattle.udt_model.specs.Counted.{on_control}
use Rattle.udt_model.specs.Emissions.{emitted_by, arrived_by_act, arrived_by}
use Rattle.udt_model.specs.Events.{Act, Arrive, Event, Reply, Outcome, at_moment}
use Rattle.udt_model.specs.History.{Item, after_items, AreLegal, accepted_by, delivered_by, placed_from, asked_from, shown_from, dropped_from}
use Rattle.udt_model.specs.Honest.{AreHonest}
use Rattle.udt_model.specs.Opening.{connected, opened, opening}
use Rattle.udt_model.specs.Phases.{Phase}
use Rattle.udt_model.specs.Phases as phase
use Rattle.udt_model.specs.Rate.{Ways}
use Rattle.udt_model.specs.Records.{EndpointRecord}
use Rattle.udt_model.specs.ReceiveHalf.{idle_receiving, linked_receiving}
use Rattle.udt_model.specs.SendHalf.{Sending, idle_sending, linked_sending}
use Rattle.udt_model.specs.State.{State, Datagram, Emission}
use Rattle.udt_model.specs.Step.{step}
use Rattle.udt_model.specs.Timing.{unmeasured}
use Rattle.udt_model.specs.Wire.{Handshake, read, spelling}
use Rattle.udt_model.proofs.ArrivalLemmas as arrives
use Rattle.udt_model.proofs.ArrivalLemmas.{Shakes, Links}
use Rattle.udt_model.proofs.EmissionLemmas.{Emitting, NewBlock, LostBlock, DropRequest, FullAck, LightAck, Reports, ReportsGap, ReportsDropGap, AnswersAck, SendsKeepAlive, TheEnd, SendsHandshake, SendsShake, step-emitting}
use Rattle.udt_model.proofs.PhaseLemmas.{speaks}
use Rattle.udt_model.proofs.UnlinkedLemmas.{IsUnlinked, OfUnlinked, TellsNothing, turns-mute, unlinked-shows}

-- ---- one event

module _ {C : Type 0} where
  -- a handshake that gives no connection leaves none
  pub shakes-mute : (s : State C) (from : Addr) (raw : List ℕ) (next : Phase) (peer : Peer) (origin : Origin)
      (answer : Heard)
      (emissions : List Emission) → speaks s.phase ≡ false → Shakes s from (read raw) next peer origin answer emissions
      → speaks next ≡ false
  shakes-mute s from raw _ _ _ _ _ mute (arrives.GivesCookie b stamp shake reply is reads asks named judges) = mute
  shakes-mute s from raw _ _ _ _ _ mute (arrives.Promises b stamp shake is reads asks named judges) = refl
  shakes-mute s from raw _ _ _ _ _ mute (arrives.Refuses b stamp shake reply is reads asks named judges) = mute
  shakes-mute s from raw _ _ _ _ _ mute (arrives.TakesCookie c again stamp dest shake is reads sees) = refl
  shakes-mute s from raw _ _ _ _ _ mute (arrives.IsRefused c again stamp dest shake is reads sees) = refl
  shakes-mute s from raw _ _ _ _ _ mute (arrives.Adopts m again stamp dest shake peer is reads sees) = refl
  shakes-mute s from raw _ _ _ _ _ mute (arrives.AnswersAdopted m again stamp dest shake is reads sees) = mute

  -- a handshake that was emitted, which names no offset
  pub record IsShakeEmission (s : State C) (act : Act) (emission : Emission) : Type 0 where
    pub to : Addr
    pub dest : ℕ
    pub shake : Shake
    pub sends : SendsShake s act to dest shake
    pub is : emission ≡ shake_emission s to dest shake

module _ {C : Type 0} (w : Ways C) where
  -- a socket without a connection emits no more than handshakes
  mute-emits : (s : State C) (act : Act) (reply : Reply) (emission : Emission) → speaks s.phase ≡ false
      → Emitting w s act reply emission
      → IsShakeEmission s act emission
  mute-emits s act reply emission mute (NewBlock block connected is same) = absurd (cc)
  mute-emits s act reply emission mute (LostBlock offset block connected is same) = absurd (cc)
  mute-emits s act reply emission mute (DropRequest message connected is same) = absurd (cc)
  mute-emits s act reply emission mute (FullAck ack connected is same) = absurd (cc)
  mute-emits s act reply emission mute (LightAck from raw number flags stamp bytes connected is reads sender answers
      same) = absurd (cc)
  mute-emits s act reply emission mute (Reports range ranges connected is same) = absurd (cc)
  mute-emits s act reply emission mute (ReportsGap from raw number flags stamp bytes ends connected is reads sender gap
      same) = absurd (cc)
  mute-emits s act reply emission mute (ReportsDropGap from raw message stamp first last range ends connected is reads
      sender kind taken gap same) =
      absurd (cc)
  mute-emits s act reply emission mute (AnswersAck number connected same) = absurd (cc)
  mute-emits s act reply emission mute (SendsKeepAlive connected same) = absurd (cc)
  mute-emits s act reply emission mute (TheEnd closing same) = absurd (cc)
  mute-emits s act reply emission mute (SendsHandshake to dest shake sends is) =
      record { to = to; dest = dest; shake = shake; sends = sends; is = is }

  -- a handshake connects the socket
  pub record IsLinked (s : State C) (act : Act) (outcome : Outcome C) : Type 0 where
    pub from : Addr
    pub raw : List ℕ
    pub peer : Peer
    pub from_whom : Origin
    pub emissions : List Emission
    pub arrives : act ≡ Arrive from raw
    pub links : Links w s from (read raw) peer from_whom emissions
    pub outcome_is : outcome ≡ on_control (connected w s peer from_whom) heard.Connected emissions

  -- what an event does to a socket that was never connected: it stays so or is connected, and nothing is taken or given
  pub record Begins (config : Config) (start : ℕ) (s : State C) (event : Event) : Type 0 where
    pub nothing : TellsNothing C event.act (step w s event).reply
    pub leads : IsUnlinked w config start (step w s event).after ⊎ IsLinked (at_moment s event.now) event.act
        (step w s event)
    pub emits : (emission : Emission) → Contains (step w s event).emissions emission
        → IsShakeEmission (at_moment s event.now) event.act emission

  module _ (config : Config) (start : ℕ) where
    -- its moment is no matter
    pub at_moment-unlinked : (s : State C) (now : ℕ) → IsUnlinked w config start s
        → IsUnlinked w config start (at_moment s now)
    at_moment-unlinked s now unlinked = record {
      mute = unlinked.mute;
      sending = unlinked.sending;
      receiving = unlinked.receiving;
      unmeasured = unlinked.unmeasured;
    }

    -- what is shown of the outcome
    record Leads (s : State C) (act : Act) (outcome : Outcome C) : Type 0 where
      nothing : TellsNothing C act outcome.reply
      leads : IsUnlinked w config start outcome.after ⊎ IsLinked s act outcome

    unlinked-leads : (s : State C) (act : Act) → IsUnlinked w config start s → OfUnlinked w s act (Leads s act)
    unlinked-leads s act unlinked = record {
      turns = λ next reply emissions turns nothing. record {
        nothing = nothing;
        leads = inl (record {
          mute = turns-mute s next turns unlinked.mute;
          sending = unlinked.sending;
          receiving = unlinked.receiving;
          unmeasured = unlinked.unmeasured;
        });
      };
      counts = λ counters answer nothing. record {
        nothing = nothing;
        leads = inl (record {
          mute = unlinked.mute;
          sending = unlinked.sending;
          receiving = unlinked.receiving;
          unmeasured = unlinked.unmeasured;
        });
      };
      shaken = λ from raw next peer origin answer emissions is shakes nothing. record {
        nothing = nothing;
        leads = inl (record {
          mute = shakes-mute s from raw next peer origin answer emissions unlinked.mute shakes;
          sending = unlinked.sending;
          receiving = unlinked.receiving;
          unmeasured = unlinked.unmeasured;
        });
      };
      linked = λ from raw peer origin emissions is links nothing. record {
        nothing = nothing;
        leads = inr (record {
          from = from;
          raw = raw;
          peer = peer;
          from_whom = origin;
          emissions = emissions;
          arrives = is;
          links = links;
          outcome_is = refl;
        });
      };
    }

    -- so an event leaves it without a connection, or connects it
    pub step-begins : (s : State C) (event : Event) → IsUnlinked w config start s → Begins config start s event
    unfolding step
    step-begins s event unlinked =
        let now = at_moment-unlinked s event.now unlinked in
        let does =
        unlinked-shows w config start (at_moment s event.now) (Leads (at_moment s event.now) event.act) now event.act
        (unlinked-leads (at_moment s event.now) event.act now) in
        record {
          nothing = does.nothing;
          leads = does.leads;
          emits = λ emission among.
              mute-emits (at_moment s event.now) event.act (step w s event).reply emission unlinked.mute
              (step-emitting w s event emission among);
        }

-- ---- histories

-- a datagram that is a handshake and names no offset
pub record IsHandshake (emission : Emission) : Type 0 where
  pub to : Addr
  pub stamp : ℕ
  pub dest : ℕ
  pub shake : Shake
  pub is : emission ≡ record {
    datagram = record { addr = to; bytes = spelling (Handshake stamp dest shake) };
    offsets =
        [];
  }

module _ {C : Type 0} where
  emission-handshake : (s : State C) (act : Act) (emission : Emission) → IsShakeEmission s act emission
      → IsHandshake emission
  emission-handshake s act emission sent =
      record { to = sent.to; stamp = stamp_of s; dest = sent.dest; shake = sent.shake; is = sent.is }

module _ {C : Type 0} (w : Ways C) where
  -- items that take and give nothing, and emit no more than handshakes
  pub record AreQuiet (s : State C) (items : List Item) : Type 0 where
    pub accepted : accepted_by items ≡ []
    pub delivered : delivered_by items ≡ []
    pub placed : placed_from w s items ≡ []
    pub asked : asked_from w s items ≡ []
    pub shown : shown_from w s items ≡ []
    pub dropped : dropped_from w s items ≡ []
    pub emitted : (emission : Emission) → Contains (emitted_by w s items) emission → IsHandshake emission

  none-quiet : (s : State C) → AreQuiet s []
  unfolding accepted_by delivered_by placed_from asked_from shown_from dropped_from emitted_by
  none-quiet s = record {
    accepted = refl;
    delivered = refl;
    placed = refl;
    asked = refl;
    shown = refl;
    dropped = refl;
    emitted = λ emission among. absurd (omega (arith, among.1));
  }

  -- what an item does that tells nothing
  pub record IsQuietItem (s : State C) (item : Item) : Type 0 where
    pub nothing : TellsNothing C item.event.act item.reply
    pub emitted : (emission : Emission) → Contains (step w s item.event).emissions emission → IsHandshake emission

  both-empty : {A : Type 0} (first second : List A) → first ≡ [] → second ≡ [] → first ++ second ≡ []
  both-empty first second one two = rw (one, two) refl

  quiet-before : (s : State C) (item : Item) (items : List Item) → IsQuietItem s item
      → AreQuiet (step w s item.event).after items
      → AreQuiet s (item ∷ items)
  unfolding accepted_by delivered_by placed_from asked_from shown_from dropped_from emitted_by
  quiet-before s item items first others = record {
    accepted = both-empty _ _ first.nothing.taken others.accepted;
    delivered = both-empty _ _ first.nothing.given others.delivered;
    placed = both-empty _ _ (first.nothing.placed s) others.placed;
    asked = both-empty _ _ (first.nothing.asked s) others.asked;
    shown = both-empty _ _ (first.nothing.shown s) others.shown;
    dropped = both-empty _ _ (first.nothing.dropped s) others.dropped;
    emitted = λ emission among. elim (Contains-append_cases (step w s item.event).emissions _ emission among) [
      | inl here ↦ first.emitted emission here
      | inr later ↦ others.emitted emission later
    ];
  }

  -- a history goes on from this state with these items, as if it began there: what it tells, these items tell
  pub record GoesOnAs (s : State C) (items : List Item) (t : State C) (rest : List Item) : Type 0 where
    pub accepted : accepted_by items ≡ accepted_by rest
    pub delivered : delivered_by items ≡ delivered_by rest
    pub placed : placed_from w s items ≡ placed_from w t rest
    pub asked : asked_from w s items ≡ asked_from w t rest
    pub shown : shown_from w s items ≡ shown_from w t rest
    pub dropped : dropped_from w s items ≡ dropped_from w t rest
    pub emitted : (emission : Emission) → Contains (emitted_by w s items) emission
        → IsHandshake emission ⊎ Contains (emitted_by w t rest) emission
    pub emits : (emission : Emission) → Contains (emitted_by w t rest) emission
        → Contains (emitted_by w s items) emission
    pub arrived : (datagram : Datagram) → Contains (arrived_by rest) datagram → Contains (arrived_by items) datagram
    pub honest : (net : List (EndpointRecord C)) (addr : Addr) → AreHonest w net addr s items
        → AreHonest w net addr t rest
    pub ends : after_items w s items ≡ after_items w t rest
    pub legal : AreLegal w t rest

  pub goes_on : (s : State C) (items : List Item) → AreLegal w s items → GoesOnAs s items s items
  goes_on s items legal = record {
    accepted = refl;
    delivered = refl;
    placed = refl;
    asked = refl;
    shown = refl;
    dropped = refl;
    emitted = λ emission among. inr among;
    emits = λ emission among. among;
    arrived = λ datagram among. among;
    honest = λ net addr honest. honest;
    ends = refl;
    legal = legal;
  }

  empty-first : {A : Type 0} (first second : List A) → first ≡ [] → first ++ second ≡ second
  empty-first first second none = rw none refl

  goes-before : (s : State C) (item : Item) (items : List Item) (t : State C) (rest : List Item) → IsQuietItem s item
      → GoesOnAs (step w s item.event).after items t rest → GoesOnAs s (item ∷ items) t rest
  unfolding accepted_by delivered_by placed_from asked_from shown_from dropped_from emitted_by arrived_by after_items AreHonest
  goes-before s item items t rest first others = record {
    accepted = empty-first _ _ first.nothing.taken ∙ others.accepted;
    delivered = empty-first _ _ first.nothing.given ∙ others.delivered;
    placed = empty-first _ _ (first.nothing.placed s) ∙ others.placed;
    asked = empty-first _ _ (first.nothing.asked s) ∙ others.asked;
    shown = empty-first _ _ (first.nothing.shown s) ∙ others.shown;
    dropped = empty-first _ _ (first.nothing.dropped s) ∙ others.dropped;
    emitted = λ emission among. elim (Contains-append_cases (step w s item.event).emissions _ emission among) [
      | inl here ↦ inl (first.emitted emission here)
      | inr later ↦ others.emitted emission later
    ];
    emits = λ emission among. Contains-append_right (step w s item.event).emissions _ emission
        (others.emits emission among);
    arrived = λ datagram among. Contains-append_right (arrived_by_act item.event.act) _ datagram
        (others.arrived datagram among);
    honest = λ net addr honest. others.honest net addr honest.1;
    ends = others.ends;
    legal = others.legal;
  }

  -- a state that was just connected by a handshake, of a socket that was opened with these values at this offset
  pub record IsFresh (config : Config) (start : ℕ) (t : State C) : Type 0 where
    pub connected : t.phase ≡ phase.Connected
    pub sending : t.sending ≡ linked_sending w (idle_sending w config start) t.isn (min config.payload t.peer.payload)
        t.peer.flow
    pub receiving : t.receiving
        ≡ linked_receiving (idle_receiving config start) t.last t.peer.isn (min config.payload t.peer.payload)
        unmeasured
    pub unmeasured : t.rtt ≡ unmeasured

  -- with one of these items the socket is connected
  pub record IsConnectedAt (config : Config) (start : ℕ) (s : State C) (items : List Item) : Type 0 where
    pub front : List Item
    pub item : Item
    pub rest : List Item
    pub joined : items ≡ front ++ item ∷ rest
    pub unlinked : IsUnlinked w config start (after_items w s front)
    pub linked : IsLinked w (at_moment (after_items w s front) item.event.now) item.event.act
        (step w (after_items w s front) item.event)
    pub fresh : IsFresh config start (step w (after_items w s front) item.event).after
    pub goes_on : GoesOnAs s items (step w (after_items w s front) item.event).after rest

  module _ (config : Config) (start : ℕ) where
    unlinked-room : (s : State C) → IsUnlinked w config start s → s.sending.blocks.room ≡ config.payload
    unlinked-room s unlinked = ap (λ (sending : Sending C). sending.blocks.room) unlinked.sending

    connected-fresh : (s : State C) (peer : Peer) (origin : Origin) (emissions : List Emission)
        → IsUnlinked w config start s
        → IsFresh config start (on_control (connected w s peer origin) heard.Connected emissions).after
    connected-fresh s peer origin emissions unlinked = record {
      connected = refl;
      sending = rw unlinked.sending refl;
      receiving = rw (unlinked-room s unlinked, unlinked.receiving, unlinked.unmeasured) refl;
      unmeasured = unlinked.unmeasured;
    }

    linked-fresh : (s : State C) (act : Act) (outcome : Outcome C) → IsUnlinked w config start s
        → IsLinked w s act outcome
        → IsFresh config start outcome.after
    linked-fresh s act outcome unlinked linked =
        subst (λ (o : Outcome C). IsFresh config start o.after) (sym linked.outcome_is)
        (connected-fresh s linked.peer linked.from_whom linked.emissions unlinked)

    quiet-item : (s : State C) (item : Item) (items : List Item) → AreLegal w s (item ∷ items)
        → Begins w config start s item.event
        → IsQuietItem s item
    unfolding AreLegal
    quiet-item s item items legal begins = record {
      nothing = subst (TellsNothing C item.event.act) (sym legal.0) begins.nothing;
      emitted = λ emission among. emission-handshake (at_moment s item.event.now) item.event.act emission
          (begins.emits emission among);
    }

    -- a socket that was never connected before some items was either connected with none of them, or with one
    pub items-begin : (s : State C) (items : List Item) → IsUnlinked w config start s → AreLegal w s items
        → (IsUnlinked w config start (after_items w s items) × AreQuiet s items) ⊎ IsConnectedAt config start s items
    unfolding after_items AreLegal
    items-begin s [] unlinked legal = inl (unlinked, none-quiet s)
    items-begin s (item ∷ items) unlinked legal =
        let begins = step-begins w config start s item.event unlinked in
        let quiet = quiet-item s item items legal begins in
        let next = (step w s item.event).after in
        elim begins.leads [
          | inl still ↦ elim (items-begin next items still legal.2) [
            | inl all ↦ inl (all.0, quiet-before s item items quiet all.1)
            | inr at ↦ inr (record {
              front = item ∷ at.front;
              item = at.item;
              rest = at.rest;
              joined = ap (λ (others : List Item). item ∷ others) at.joined;
              unlinked = at.unlinked;
              linked = at.linked;
              fresh = at.fresh;
              goes_on = goes-before s item items _ at.rest quiet at.goes_on;
            })
          ]
          | inr linked ↦ inr (record {
            front = [];
            item = item;
            rest = items;
            joined = refl;
            unlinked = unlinked;
            linked = linked;
            fresh = linked-fresh (at_moment s item.event.now) item.event.act (step w s item.event)
                (at_moment-unlinked w config start s item.event.now unlinked) linked;
            goes_on = goes-before s item items next items quiet (goes_on next items legal.2);
          })
        ]

  -- ---- openings

  -- a socket that is opened without a connection has none
  pub opened-unlinked : (own isn : ℕ) (config : Config) (now : ℕ) → IsUnlinked w config 0 (opened w own isn config now)
  unfolding opened
  opened-unlinked own isn config now = record { mute = refl; sending = refl; receiving = refl; unmeasured = refl }

  -- and one that is opened as connected is as if a handshake had just connected it
  pub opening-fresh : (own : ℕ) (config : Config) (peer : Peer) (now start : ℕ)
      → IsFresh config start (opening w own config peer now start)
  unfolding opening
  opening-fresh own config peer now start = record {
    connected = refl;
    sending = refl;
    receiving = refl;
    unmeasured =
        refl;
  }
