-- Whom a socket has as its peer: nobody until a handshake tells of one, and then this one for good.
use Rattle.std.proofs.Common.{◌≡◌, ℕ, Bool, true, false, List, [], ◌∷◌, ◌++◌, Option, Some, None, Ok, refl, ap, ◌∙◌, sym, subst, inl, inr, ◌⊎◌}
use Rattle.udt_model.specs.declared.addresses.Addr.{Addr}
use Rattle.udt_model.specs.declared.answers.Heard.{Heard}
use Rattle.udt_model.specs.declared.answers.Origin.{Origin}
use Rattle.udt_model.specs.declared.answers.Origin.TheVariants as origin
use Rattle.udt_model.specs.declared.answers.Peer.{Peer}
use Rattle.udt_model.specs.declared.handshakes.Asked.TheVariants as asks
use Rattle.udt_model.specs.declared.handshakes.Caller.{Caller}
use Rattle.udt_model.specs.declared.handshakes.ClientSaw.TheVariants as client
use Rattle.udt_model.specs.declared.handshakes.MeetSaw.TheVariants as meet
use Rattle.udt_model.specs.declared.packets.Config.{Config}
use Rattle.udt_model.specs.declared.packets.Shake.{Shake}
use Rattle.udt_model.specs.declared.sockets.Counters.{Counters}
use Rattle.udt_model.specs.Connections.{config_of}
use Rattle.udt_model.specs.Counted.{count_control}
use Rattle.udt_model.specs.Events.{Act, Arrive, Event, at_moment}
use Rattle.udt_model.specs.Handshakes.{Connecting, Meeting, asked}
use Rattle.udt_model.specs.History.{Item, after_items}
use Rattle.udt_model.specs.Opening.{connected, opened, opening}
use Rattle.udt_model.specs.Phases.{Phase}
use Rattle.udt_model.specs.Phases as phase
use Rattle.udt_model.specs.Rate.{Ways}
use Rattle.udt_model.specs.Records.{Way, Opened, Paired, PairedAt, PeerPair, opened_by, peer_by, own_peer}
use Rattle.udt_model.specs.State.{State, Emission}
use Rattle.udt_model.specs.Step.{step}
use Rattle.udt_model.specs.Wire.{Handshake, read}
use Rattle.udt_model.proofs.ArrivalLemmas as arrives
use Rattle.udt_model.proofs.ArrivalLemmas.{Shakes, Links}
use Rattle.udt_model.proofs.HandshakeLemmas.{SeesAsClient, SeesOffer, SeesAsMeeting, SeesFirst, SeesAnswer, SeesPeer, client_saw-sees, meet_saw-sees}
use Rattle.udt_model.proofs.HistoryLemmas.{after_items-append}
use Rattle.udt_model.proofs.PhaseLemmas.{is_settled, speaks}
use Rattle.udt_model.proofs.SettlingLemmas.{at_moment-unlinked, shakes-mute, opened-unlinked}
use Rattle.udt_model.proofs.StepLemmas.{step-keeps}
use Rattle.udt_model.proofs.UnlinkedLemmas.{IsUnlinked, OfUnlinked, Turns, Listens, Asks, Meets, ListensOn, AsksOn, MeetsOn, Ends, Stays, turns-mute, unlinked-as, unlinked-shows}

-- a socket with this origin has a peer
abbrev pub has_peer : Origin → Bool
has_peer origin.Nobody = false
has_peer other = true

-- ---- what is known of the peer, by the phase

-- who a socket is, and whom it has as its peer
pub record Standing : Type 0 where
  pub own : ℕ
  pub isn : ℕ
  pub config : Config
  pub peer : Peer
  pub origin : Origin

-- a socket in this state
abbrev pub standing_of : {C : Type 0} → State C → Standing
standing_of s = record { own = s.own; isn = s.isn; config = config_of s; peer = s.peer; origin = s.origin }

-- a client or a meeting socket says of itself what it is
pub record IsCaller (x : Standing) (caller : Caller) : Type 0 where
  pub config : caller.config ≡ x.config
  pub own : caller.own ≡ x.own
  pub isn : caller.isn ≡ x.isn

-- the peer that a meeting socket has adopted, at the address that it meets
pub record HasAdopted (x : Standing) (to : Addr) (adopted : Peer) : Type 0 where
  pub origin : x.origin ≡ origin.Rendezvous
  pub peer : x.peer ≡ adopted
  pub addr : adopted.addr ≡ to

-- and whom one has adopted: nobody while it has no peer
abbrev pub Adoption : Standing → Addr → Option Peer → Type 0
Adoption x to None = x.origin ≡ origin.Nobody
Adoption x to (Some peer) = HasAdopted x to peer

-- a socket has no peer before it is connected, but a meeting one that has adopted it, and has one while it speaks
abbrev pub KnowsPeer : Standing → Phase → Type 0
KnowsPeer x phase.Opened = x.origin ≡ origin.Nobody
KnowsPeer x (phase.Listening b) = x.origin ≡ origin.Nobody
KnowsPeer x (phase.Connecting c again) = (x.origin ≡ origin.Nobody) × IsCaller x c.caller
KnowsPeer x (phase.Meeting m again) = IsCaller x m.caller × Adoption x m.caller.to m.adopted
KnowsPeer x phase.Connected = has_peer x.origin ≡ true
KnowsPeer x phase.Closing = has_peer x.origin ≡ true
KnowsPeer x other = Unit {0}

-- of a settled socket no more is known
settled-knows : (x : Standing) (p : Phase) → is_settled p ≡ true → (speaks p ≡ true → has_peer x.origin ≡ true)
    → KnowsPeer x p
settled-knows x phase.Opened settled spoken = absurd (cc)
settled-knows x (phase.Listening b) settled spoken = absurd (cc)
settled-knows x (phase.Connecting c again) settled spoken = absurd (cc)
settled-knows x (phase.Meeting m again) settled spoken = absurd (cc)
settled-knows x phase.Connected settled spoken = spoken refl
settled-knows x phase.Closing settled spoken = spoken refl
settled-knows x _ settled spoken = tt

-- a socket that speaks has a peer
pub knows-speaks : (x : Standing) (p : Phase) → KnowsPeer x p → speaks p ≡ true → has_peer x.origin ≡ true
knows-speaks x phase.Connected knows spoken = knows
knows-speaks x phase.Closing knows spoken = knows
knows-speaks x _ knows spoken = absurd (cc)

mute-knows : (x : Standing) (p : Phase) → is_settled p ≡ true → speaks p ≡ false → KnowsPeer x p
mute-knows x p settled mute = settled-knows x p settled (λ spoken. absurd (cc))

module _ {C : Type 0} where
  -- ---- what an event does to the peer

  -- an event is the arrival of a handshake that tells of a peer where there was none: of one that wants to meet, or an
  -- answer for the own ID
  pub record IsIntroduced (s : State C) (act : Act) (t : State C) : Type 0 where
    pub from : Addr
    pub raw : List ℕ
    pub stamp : ℕ
    pub dest : ℕ
    pub shake : Shake
    pub arrives : act ≡ Arrive from raw
    pub reads : read raw ≡ Ok (Handshake stamp dest shake)
    pub none_before : has_peer s.origin ≡ false
    pub has : has_peer t.origin ≡ true
    pub addr : from ≡ t.peer.addr
    pub id : shake.id ≡ t.peer.id
    pub isn : shake.isn ≡ t.peer.isn
    pub asks : (asked shake.ask ≡ asks.Meets) ⊎ ((asked shake.ask ≡ asks.Answers) × (dest ≡ s.own))

  -- it keeps the peer
  pub record KeepsPeer (s t : State C) : Type 0 where
    pub peer : t.peer ≡ s.peer
    pub origin : t.origin ≡ s.origin

  -- one of both
  abbrev pub SetsPeer : State C → Act → State C → Type 0
  SetsPeer s act t = KeepsPeer s t ⊎ IsIntroduced s act t

  -- ---- calls and the time

  turns-know : (s : State C) (next : Phase) → Turns s next → KnowsPeer (standing_of s) s.phase
      → KnowsPeer (standing_of s) next
  turns-know s _ (Listens most secret is) knows = subst (KnowsPeer (standing_of s)) is knows
  turns-know s _ (Asks to is) knows =
      (subst (KnowsPeer (standing_of s)) is knows, record { config = refl; own = refl; isn = refl })
  turns-know s _ (Meets to is) knows =
      (record { config = refl; own = refl; isn = refl }, subst (KnowsPeer (standing_of s)) is knows)
  turns-know s _ (ListensOn b next is listening most) knows = subst (KnowsPeer (standing_of s)) is knows
  turns-know s _ (AsksOn c again next is) knows = subst (KnowsPeer (standing_of s)) is knows
  turns-know s _ (MeetsOn m again next is) knows = subst (KnowsPeer (standing_of s)) is knows
  turns-know s _ (Ends next settled mute) knows = mute-knows (standing_of s) next settled mute
  turns-know s _ (Stays next is) knows = subst (KnowsPeer (standing_of s)) is knows

  -- ---- handshakes that give no connection

  -- what is shown of them
  record ShakesRight (s : State C) (from : Addr) (raw : List ℕ) (next : Phase) (peer : Peer) (from_whom : Origin)
      : Type 0 where
    knows : KnowsPeer (standing_of (record s { phase = next; peer = peer; origin = from_whom })) next
    sets : (counters : Counters)
        → SetsPeer s (Arrive from raw) (record s { phase = next; peer = peer; origin = from_whom; counters = counters })

  keeps-right : (s : State C) (from : Addr) (raw : List ℕ) (next : Phase) → KnowsPeer (standing_of s) next
      → ShakesRight s from raw next s.peer s.origin
  keeps-right s from raw next knows =
      record { knows = knows; sets = λ counters. inl (record { peer = refl; origin = refl }) }

  adopts-right : (s : State C) (from : Addr) (raw : List ℕ) (m : Meeting) (again stamp dest : ℕ) (shake : Shake)
      (peer : Peer)
      → s.phase ≡ phase.Meeting m again → read raw ≡ Ok (Handshake stamp dest shake)
      → SeesAsMeeting m dest shake from (meet.Adopted peer)
      → KnowsPeer (standing_of s) (phase.Meeting m again)
      → ShakesRight s from raw (phase.Meeting (record m { adopted = Some peer }) again) peer origin.Rendezvous
  adopts-right s from raw m again stamp dest shake _ is reads (SeesFirst sender fits asks none) knows =
      let nobody : s.origin ≡ origin.Nobody = subst (Adoption (standing_of s) m.caller.to) none knows.1 in
      record {
        knows = (
          record { config = knows.0.config; own = knows.0.own; isn = knows.0.isn },
          record { origin = refl; peer = refl; addr = sender },
        );
        sets = λ counters. inr (record {
          from = from;
          raw = raw;
          stamp = stamp;
          dest = dest;
          shake = shake;
          arrives = refl;
          reads = reads;
          none_before = ap has_peer nobody;
          has = refl;
          addr = refl;
          id = refl;
          isn = refl;
          asks = inl asks;
        });
      }

  shakes-right : (s : State C) (from : Addr) (raw : List ℕ) (next : Phase) (peer : Peer) (from_whom : Origin)
      (answer : Heard)
      (emissions : List Emission) → KnowsPeer (standing_of s) s.phase → Shakes s from (read raw) next peer from_whom
      answer emissions
      → ShakesRight s from raw next peer from_whom
  shakes-right s from raw _ _ _ _ _ knows (arrives.GivesCookie b stamp shake reply is reads asks named judges) =
      keeps-right s from raw s.phase knows
  shakes-right s from raw _ _ _ _ _ knows (arrives.Promises b stamp shake is reads asks named judges) =
      keeps-right s from raw _ (subst (KnowsPeer (standing_of s)) is knows)
  shakes-right s from raw _ _ _ _ _ knows (arrives.Refuses b stamp shake reply is reads asks named judges) =
      keeps-right s from raw s.phase knows
  shakes-right s from raw _ _ _ _ _ knows (arrives.TakesCookie c again stamp dest shake is reads sees) =
      let known = subst (KnowsPeer (standing_of s)) is knows in
      keeps-right s from raw _ (known.0, record { config = known.1.config; own = known.1.own; isn = known.1.isn })
  shakes-right s from raw _ _ _ _ _ knows (arrives.IsRefused c again stamp dest shake is reads sees) =
      keeps-right s from raw _ tt
  shakes-right s from raw _ _ _ _ _ knows (arrives.Adopts m again stamp dest shake peer is reads sees) =
      adopts-right s from raw m again stamp dest shake peer is reads
      (subst (SeesAsMeeting m dest shake from) sees (meet_saw-sees m dest shake from))
      (subst (KnowsPeer (standing_of s)) is knows)
  shakes-right s from raw _ _ _ _ _ knows (arrives.AnswersAdopted m again stamp dest shake is reads sees) =
      keeps-right s from raw s.phase knows

module _ {C : Type 0} (w : Ways C) where
  -- ---- handshakes that connect

  -- what is shown of them, whatever else the state after them has
  record LinksRight (s : State C) (from : Addr) (raw : List ℕ) (peer : Peer) (from_whom : Origin) : Type 0 where
    has : has_peer from_whom ≡ true
    sets : (counters : Counters)
        → SetsPeer s (Arrive from raw) (record (connected w s peer from_whom) { counters = counters })

  offer-right : (s : State C) (from : Addr) (raw : List ℕ) (c : Connecting) (again stamp dest : ℕ) (shake : Shake)
      (peer : Peer)
      → read raw ≡ Ok (Handshake stamp dest shake) → SeesAsClient c dest shake from (client.Connected peer)
      → KnowsPeer (standing_of s) (phase.Connecting c again) → LinksRight s from raw peer origin.Listener
  offer-right s from raw c again stamp dest shake _ reads (SeesOffer sender own asks fits) knows = record {
    has = refl;
    sets = λ counters. inr (record {
      from = from;
      raw = raw;
      stamp = stamp;
      dest = dest;
      shake = shake;
      arrives = refl;
      reads = reads;
      none_before = ap has_peer knows.0;
      has = refl;
      addr = refl;
      id = refl;
      isn = refl;
      asks = inr (asks, own ∙ knows.1.own);
    });
  }

  answer-right : (s : State C) (from : Addr) (raw : List ℕ) (m : Meeting) (again stamp dest : ℕ) (shake : Shake)
      (peer : Peer)
      → read raw ≡ Ok (Handshake stamp dest shake) → SeesAsMeeting m dest shake from (meet.Connected peer)
      → KnowsPeer (standing_of s) (phase.Meeting m again) → LinksRight s from raw peer origin.Rendezvous
  answer-right s from raw m again stamp dest shake _ reads (SeesAnswer sender fits asks own none) knows =
      let nobody : s.origin ≡ origin.Nobody = subst (Adoption (standing_of s) m.caller.to) none knows.1 in
      record {
        has = refl;
        sets = λ counters. inr (record {
          from = from;
          raw = raw;
          stamp = stamp;
          dest = dest;
          shake = shake;
          arrives = refl;
          reads = reads;
          none_before = ap has_peer nobody;
          has = refl;
          addr = refl;
          id = refl;
          isn = refl;
          asks = inr (asks, own ∙ knows.0.own);
        });
      }
  answer-right s from raw m again stamp dest shake _ reads (SeesPeer peer sender fits asks own adopts same) knows =
      let has = subst (Adoption (standing_of s) m.caller.to) adopts knows.1 in
      record { has = refl; sets = λ counters. inl (record { peer = sym has.peer; origin = sym has.origin }) }

  links-right : (s : State C) (from : Addr) (raw : List ℕ) (peer : Peer) (from_whom : Origin)
      (emissions : List Emission)
      → KnowsPeer (standing_of s) s.phase → Links w s from (read raw) peer from_whom emissions
      → LinksRight s from raw peer from_whom
  links-right s from raw _ _ _ knows (arrives.ByListener c again stamp dest shake peer is reads sees) =
      offer-right s from raw c again stamp dest shake peer reads
      (subst (SeesAsClient c dest shake from) sees (client_saw-sees c dest shake from))
      (subst (KnowsPeer (standing_of s)) is knows)
  links-right s from raw _ _ _ knows (arrives.ByMeeting m again stamp dest shake peer is reads sees) =
      answer-right s from raw m again stamp dest shake peer reads
      (subst (SeesAsMeeting m dest shake from) sees (meet_saw-sees m dest shake from))
      (subst (KnowsPeer (standing_of s)) is knows)

  -- ---- events

  -- what is known of a socket that was opened with these values at this offset: its peer, and that it was never
  -- connected, or is settled
  pub record IsKnown (config : Config) (start : ℕ) (s : State C) : Type 0 where
    pub knows : KnowsPeer (standing_of s) s.phase
    pub begins : IsUnlinked w config start s ⊎ (is_settled s.phase ≡ true)

  -- what an event does to it
  pub record Knows (config : Config) (start : ℕ) (s : State C) (act : Act) (t : State C) : Type 0 where
    pub known : IsKnown config start t
    pub sets : SetsPeer s act t

  module _ (config : Config) (start : ℕ) where
    knows-unlinked : (s : State C) (act : Act) → IsUnlinked w config start s → KnowsPeer (standing_of s) s.phase
        → OfUnlinked w s act (λ outcome. Knows config start s act outcome.after)
    knows-unlinked s act unlinked knows = record {
      turns = λ next reply emissions turns nothing. record {
        known = record {
          knows = turns-know s next turns knows;
          begins = inl (unlinked-as w s _ unlinked (turns-mute s next turns unlinked.mute) refl refl refl);
        };
        sets = inl (record { peer = refl; origin = refl });
      };
      counts = λ counters answer nothing. record {
        known = record { knows = knows; begins = inl (unlinked-as w s _ unlinked unlinked.mute refl refl refl) };
        sets = inl (record { peer = refl; origin = refl });
      };
      shaken = λ from raw next peer origin answer emissions is shakes nothing.
          let right = shakes-right s from raw next peer origin answer emissions knows shakes in
          record {
            known = record {
              knows = right.knows;
              begins = inl
                  (unlinked-as w s _ unlinked (shakes-mute s from raw next peer origin answer emissions unlinked.mute
                  shakes) refl refl refl);
            };
            sets = rw is (right.sets (count_control s.counters));
          };
      linked = λ from raw peer origin emissions is links nothing.
          let right = links-right s from raw peer origin emissions knows links in
          record {
            known = record { knows = right.has; begins = inr refl };
            sets = rw is (right.sets (count_control s.counters));
          };
    }

    -- a settled socket keeps its peer
    settled-known : (s : State C) (event : Event) → is_settled s.phase ≡ true → KnowsPeer (standing_of s) s.phase
        → Knows config start (at_moment s event.now) event.act (step w s event).after
    settled-known s event settled knows =
        let kept = step-keeps w s event settled in
        let t = (step w s event).after in
        record {
          known = record {
            knows = settled-knows (standing_of t) t.phase (kept.settled settled)
                (λ spoken. ap has_peer kept.origin ∙ knows-speaks (standing_of s) s.phase knows
                (kept.speaks settled spoken));
            begins = inr (kept.settled settled);
          };
          sets = inl (record { peer = kept.peer; origin = kept.origin });
        }

    -- each event keeps the peer, or tells of the first one
    pub step-known : (s : State C) (event : Event) → IsKnown config start s
        → Knows config start (at_moment s event.now) event.act (step w s event).after
    unfolding step
    step-known s event known = elim known.begins [
      | inl unlinked ↦
          let now = at_moment-unlinked w config start s event.now unlinked in
          unlinked-shows w config start (at_moment s event.now)
          (λ outcome. Knows config start (at_moment s event.now) event.act outcome.after) now event.act
          (knows-unlinked (at_moment s event.now) event.act now known.knows)
      | inr settled ↦ settled-known s event settled known.knows
    ]

    -- ---- histories

    -- all events leave it known
    pub items-known : (s : State C) (items : List Item) → IsKnown config start s
        → IsKnown config start (after_items w s items)
    unfolding after_items
    items-known s [] known = known
    items-known s (item ∷ items) known = items-known (step w s item.event).after items
        (step-known s item.event known).known

    -- a peer that is known stays
    pub step-keeps_peer : (s : State C) (event : Event) → IsKnown config start s → has_peer s.origin ≡ true
        → KeepsPeer s (step w s event).after
    step-keeps_peer s event known has = elim (step-known s event known).sets [
      | inl keeps ↦ record { peer = keeps.peer; origin = keeps.origin }
      | inr introduced ↦ let none : has_peer s.origin ≡ false = introduced.none_before in absurd (cc)
    ]

    -- over all events
    pub items-keep_peer : (s : State C) (items : List Item) → IsKnown config start s → has_peer s.origin ≡ true
        → KeepsPeer s (after_items w s items)
    unfolding after_items
    items-keep_peer s [] known has = record { peer = refl; origin = refl }
    items-keep_peer s (item ∷ items) known has =
        let first = step-keeps_peer s item.event known has in
        let others =
        items-keep_peer (step w s item.event).after items (step-known s item.event known).known
        (ap has_peer first.origin ∙ has) in
        record { peer = others.peer ∙ first.peer; origin = others.origin ∙ first.origin }

  -- with one of these items the last peer was told of
  pub record IsIntroducedAt (s : State C) (items : List Item) : Type 0 where
    pub front : List Item
    pub item : Item
    pub rest : List Item
    pub joined : items ≡ front ++ item ∷ rest
    pub introduced : IsIntroduced (at_moment (after_items w s front) item.event.now) item.event.act
        (step w (after_items w s front) item.event).after
    pub stays : KeepsPeer (step w (after_items w s front) item.event).after (after_items w s items)

  module _ (config : Config) (start : ℕ) where
    -- a socket that had no peer before some items and has one afterwards was told of it by one of them
    pub peer-introduced : (s : State C) (items : List Item) → IsKnown config start s → has_peer s.origin ≡ false
        → has_peer (after_items w s items).origin ≡ true → IsIntroducedAt s items
    unfolding after_items
    peer-introduced s [] known none has = absurd (cc)
    peer-introduced s (item ∷ items) known none has =
        let next = (step w s item.event).after in
        let does = step-known config start s item.event known in
        elim does.sets [
          | inl keeps ↦
              let later = peer-introduced next items does.known (ap has_peer keeps.origin ∙ none) has in
              record {
                front = item ∷ later.front;
                item = later.item;
                rest = later.rest;
                joined = ap (λ (others : List Item). item ∷ others) later.joined;
                introduced = later.introduced;
                stays = later.stays;
              }
          | inr introduced ↦ record {
            front = [];
            item = item;
            rest = items;
            joined = refl;
            introduced = introduced;
            stays = items-keep_peer config start next items does.known introduced.has;
          }
        ]

  -- ---- openings

  -- the values with which a socket was opened
  abbrev pub config_by : Way → Config
  config_by (Opened isn config now) = config
  config_by (Paired config peer now) = config
  config_by (PairedAt config peer now start) = config

  -- and the offset at which its directions begin
  abbrev pub start_by : Way → ℕ
  start_by (Opened isn config now) = 0
  start_by (Paired config peer now) = 0
  start_by (PairedAt config peer now start) = start

  opening-known : (own : ℕ) (config : Config) (peer : Peer) (now start : ℕ)
      → IsKnown config start (opening w own config peer now start)
  unfolding opening
  opening-known own config peer now start = record { knows = refl; begins = inr refl }

  opened-known : (own isn : ℕ) (config : Config) (now : ℕ) → IsKnown config 0 (opened w own isn config now)
  unfolding opened
  opened-known own isn config now = record { knows = refl; begins = inl (opened-unlinked w own isn config now) }

  -- however a socket was opened, it is known
  pub way-known : (own : ℕ) (way : Way) → IsKnown (config_by way) (start_by way) (opened_by w own way)
  way-known own (Opened isn config now) = opened-known own isn config now
  way-known own (Paired config peer now) = opening-known own config peer now 0
  way-known own (PairedAt config peer now start) = opening-known own config peer now start

  peer_by-has : (from : Origin) (peer : Peer) (pair : PeerPair) → peer_by from peer ≡ Some pair → has_peer from ≡ true
  peer_by-has origin.Nobody peer pair is = absurd (cc)
  peer_by-has _ peer pair is = refl

  -- the own peer never changes once it is set
  pub own_peer-stays : (own : ℕ) (way : Way) (s : State C) (front rest : List Item) (pair : PeerPair)
      → s ≡ opened_by w own way
      → own_peer w (record { opening = s; items = front }) ≡ Some pair
      → own_peer w (record { opening = s; items = front ++ rest }) ≡ Some pair
  own_peer-stays own way s front rest pair opened is =
      let begun = subst (IsKnown (config_by way) (start_by way)) (sym opened) (way-known own way) in
      let known = items-known (config_by way) (start_by way) s front begun in
      let t = after_items w s front in
      let kept = items-keep_peer (config_by way) (start_by way) t rest known (peer_by-has t.origin t.peer pair is) in
      ap (λ (u : State C). peer_by u.origin u.peer) (after_items-append w s front rest)
      ∙ rw (kept.origin, kept.peer) is
