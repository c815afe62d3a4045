-- The peer that a handshake makes known is of the socket's own kind, and agrees on blocks of at least one byte.
use Rattle.std.proofs.Common.{◌≡◌, ℕ, ◌≤◌, true, List, [], ◌∷◌, Some, None, Ok, refl, ap, ◌∙◌, sym, subst, inl, inr, arith}
use Rattle.std.specs.Prelude.{Option, nat_lt, ◌==◌, ◌&&◌}
use Rattle.std.proofs.lemmas.Bool.{and_parts, eqb-true, ltb-true}
use Rattle.udt_model.specs.declared.addresses.Addr.{Addr}
use Rattle.udt_model.specs.declared.answers.Heard.{Heard}
use Rattle.udt_model.specs.declared.answers.Origin.{Origin}
use Rattle.udt_model.specs.declared.answers.Peer.{Peer}
use Rattle.udt_model.specs.declared.handshakes.ClientSaw.TheVariants as client
use Rattle.udt_model.specs.declared.handshakes.MeetSaw.TheVariants as meet
use Rattle.udt_model.specs.declared.handshakes.TheConstants.{VERSION, SIZE_OVER_PAYLOAD}
use Rattle.udt_model.specs.declared.packets.Config.{Config}
use Rattle.udt_model.specs.declared.packets.Shake.{Shake}
use Rattle.udt_model.specs.Connections.{config_of}
use Rattle.udt_model.specs.Events.{Act, Event, at_moment}
use Rattle.udt_model.specs.Handshakes.{Connecting, Meeting, asked, kind_number, suits, peer_in}
use Rattle.udt_model.specs.History.{Item, after_items}
use Rattle.udt_model.specs.Phases.{Phase}
use Rattle.udt_model.specs.Phases as phase
use Rattle.udt_model.specs.Rate.{Ways}
use Rattle.udt_model.specs.Records.{is_answer}
use Rattle.udt_model.specs.SendHalf.{Sending}
use Rattle.udt_model.specs.State.{State, Emission}
use Rattle.udt_model.specs.Step.{step}
use Rattle.udt_model.specs.Wire.{Handshake, read}
use Rattle.udt_model.proofs.ArrivalLemmas.{Shakes, Links}
use Rattle.udt_model.proofs.ArrivalLemmas as arrives
use Rattle.udt_model.proofs.HandshakeLemmas.{SeesAsClient, SeesOffer, SeesAsMeeting, SeesFirst, SeesAnswer, SeesPeer, client_saw-sees, meet_saw-sees}
use Rattle.udt_model.proofs.PeerLemmas.{standing_of, KnowsPeer, IsKnown, step-known}
use Rattle.udt_model.proofs.PhaseLemmas.{is_settled}
use Rattle.udt_model.proofs.SettlingLemmas.{at_moment-unlinked}
use Rattle.udt_model.proofs.StepLemmas.{step-keeps}
use Rattle.udt_model.proofs.UnlinkedLemmas.{IsUnlinked, OfUnlinked, Turns, Listens, Asks, Meets, ListensOn, AsksOn, MeetsOn, Ends, Stays, unlinked-shows}

-- ---- a handshake that suits

suits-kind : (config : Config) (shake : Shake) → suits config shake ≡ true → shake.kind ≡ kind_number config.kind
suits-kind config shake fits =
    let parts = and_parts ((shake.version == VERSION) && (shake.kind == kind_number config.kind))
    (nat_lt SIZE_OVER_PAYLOAD shake.packet) fits in
    eqb-true shake.kind (kind_number config.kind) (and_parts (shake.version == VERSION) _ parts.0).1

suits-payload : (config : Config) (from : Addr) (shake : Shake) → 1 ≤ config.payload → suits config shake ≡ true
    → 1 ≤ (peer_in config from shake).payload
suits-payload config from shake some fits =
    let parts = and_parts ((shake.version == VERSION) && (shake.kind == kind_number config.kind))
    (nat_lt SIZE_OVER_PAYLOAD shake.packet) fits in
    omega (arith, some, ltb-true SIZE_OVER_PAYLOAD shake.packet parts.1)

-- ---- whom a meeting socket has adopted

-- it agrees on blocks of at least one byte
abbrev IsAgreed : Option Peer → Type 0
IsAgreed None = Unit {0}
IsAgreed (Some peer) = 1 ≤ peer.payload

-- and so it is with the peer of a phase
abbrev pub AgreesIn : Phase → Type 0
AgreesIn (phase.Meeting m again) = IsAgreed m.adopted
AgreesIn other = Unit {0}

settled-agrees : (p : Phase) → is_settled p ≡ true → AgreesIn p
settled-agrees (phase.Meeting m again) settled = absurd (cc)
settled-agrees _ settled = tt

module _ {C : Type 0} where
  turns-agree : (s : State C) (next : Phase) → Turns s next → AgreesIn s.phase → AgreesIn next
  turns-agree s _ (Listens most secret is) agrees = tt
  turns-agree s _ (Asks to is) agrees = tt
  turns-agree s _ (Meets to is) agrees = tt
  turns-agree s _ (ListensOn b next is listening most) agrees = tt
  turns-agree s _ (AsksOn c again next is) agrees = tt
  turns-agree s _ (MeetsOn m again next is) agrees = subst AgreesIn is agrees
  turns-agree s _ (Ends next settled ends) agrees = settled-agrees next settled
  turns-agree s _ (Stays next is) agrees = subst AgreesIn is agrees

  -- the payload of a caller is that of its socket
  caller-payload : (s : State C) (config : Config) → 1 ≤ s.sending.blocks.room → config ≡ config_of s
      → 1 ≤ config.payload
  caller-payload s config some is = subst (λ (c : Config). 1 ≤ c.payload) (sym is) some

  adopts-agree : (s : State C) (m : Meeting) (dest : ℕ) (shake : Shake) (from : Addr) (peer : Peer)
      → 1 ≤ m.caller.config.payload
      → SeesAsMeeting m dest shake from (meet.Adopted peer) → 1 ≤ peer.payload
  adopts-agree s m dest shake from _ some (SeesFirst sender fits asks none) = suits-payload m.caller.config from shake
      some fits

  shakes-agree : (s : State C) (from : Addr) (raw : List ℕ) (next : Phase) (peer : Peer) (from_whom : Origin)
      (answer : Heard)
      (emissions : List Emission) → 1 ≤ s.sending.blocks.room → KnowsPeer (standing_of s) s.phase → AgreesIn s.phase
      → Shakes s from (read raw) next peer from_whom answer emissions → AgreesIn next
  shakes-agree s from raw _ _ _ _ _ some knows agrees (arrives.GivesCookie b stamp shake reply is reads asks named
      judges) = agrees
  shakes-agree s from raw _ _ _ _ _ some knows agrees (arrives.Promises b stamp shake is reads asks named judges) = tt
  shakes-agree s from raw _ _ _ _ _ some knows agrees (arrives.Refuses b stamp shake reply is reads asks named
      judges) = agrees
  shakes-agree s from raw _ _ _ _ _ some knows agrees (arrives.TakesCookie c again stamp dest shake is reads sees) = tt
  shakes-agree s from raw _ _ _ _ _ some knows agrees (arrives.IsRefused c again stamp dest shake is reads sees) = tt
  shakes-agree s from raw _ _ _ _ _ some knows agrees (arrives.Adopts m again stamp dest shake peer is reads sees) =
      let known = subst (KnowsPeer (standing_of s)) is knows in
      adopts-agree s m dest shake from peer (caller-payload s m.caller.config some known.0.config)
      (subst (SeesAsMeeting m dest shake from) sees (meet_saw-sees m dest shake from))
  shakes-agree s from raw _ _ _ _ _ some knows agrees (arrives.AnswersAdopted m again stamp dest shake is reads
      sees) = agrees

module _ {C : Type 0} (w : Ways C) where
  pub unlinked-some : (config : Config) (start : ℕ) (s : State C) → 1 ≤ config.payload → IsUnlinked w config start s
      → 1 ≤ s.sending.blocks.room
  unlinked-some config start s some unlinked =
      subst (λ (sending : Sending C). 1 ≤ sending.blocks.room) (sym unlinked.sending) some

  unlinked-agrees : (config : Config) (start : ℕ) (s : State C) (act : Act) → 1 ≤ config.payload
      → IsUnlinked w config start s
      → KnowsPeer (standing_of s) s.phase → AgreesIn s.phase
      → OfUnlinked w s act (λ outcome. AgreesIn outcome.after.phase)
  unlinked-agrees config start s act some unlinked knows agrees = record {
    turns = λ next reply emissions turns nothing. turns-agree s next turns agrees;
    counts = λ counters answer nothing. agrees;
    shaken = λ from raw next peer from_whom answer emissions is shakes nothing.
        shakes-agree s from raw next peer from_whom answer emissions (unlinked-some config start s some unlinked)
        knows agrees shakes;
    linked = λ from raw peer from_whom emissions is links nothing. tt;
  }

  step-agrees : (config : Config) (start : ℕ) (s : State C) (event : Event) → 1 ≤ config.payload
      → IsKnown w config start s → AgreesIn s.phase
      → AgreesIn (step w s event).after.phase
  unfolding step
  step-agrees config start s event some known agrees = elim known.begins [
    | inl unlinked ↦
        let now = at_moment-unlinked w config start s event.now unlinked in
        unlinked-shows w config start (at_moment s event.now) (λ outcome. AgreesIn outcome.after.phase) now event.act
        (unlinked-agrees config start (at_moment s event.now) event.act some now known.knows agrees)
    | inr settled ↦ settled-agrees (step w s event).after.phase ((step-keeps w s event settled).settled settled)
  ]

  -- so it is after all items
  pub items-agree : (config : Config) (start : ℕ) (s : State C) (items : List Item) → 1 ≤ config.payload
      → IsKnown w config start s
      → AgreesIn s.phase → AgreesIn (after_items w s items).phase
  unfolding after_items
  items-agree config start s [] some known agrees = agrees
  items-agree config start s (item ∷ items) some known agrees =
      items-agree config start (step w s item.event).after items some
      (step-known w config start s item.event known).known
      (step-agrees config start s item.event some known agrees)

-- ---- the handshake that connects

module _ {C : Type 0} where
  -- the handshake that connects a socket with a peer is an answer of a socket of its own kind, that has the peer's
  -- ID, and the peer agrees on blocks of at least one byte
  pub record IsSuited (s : State C) (raw : List ℕ) (peer : Peer) : Type 0 where
    pub stamp : ℕ
    pub dest : ℕ
    pub shake : Shake
    pub reads : read raw ≡ Ok (Handshake stamp dest shake)
    pub answers : is_answer (asked shake.ask) ≡ true
    pub id : shake.id ≡ peer.id
    pub kind : shake.kind ≡ kind_number s.kind
    pub payload : 1 ≤ peer.payload

  offer-suited : (s : State C) (from : Addr) (raw : List ℕ) (c : Connecting) (stamp dest : ℕ) (shake : Shake)
      (peer : Peer)
      → 1 ≤ s.sending.blocks.room → c.caller.config ≡ config_of s → read raw ≡ Ok (Handshake stamp dest shake)
      → SeesAsClient c dest shake from (client.Connected peer) → IsSuited s raw peer
  offer-suited s from raw c stamp dest shake _ some is reads (SeesOffer sender own asks fits) = record {
    stamp = stamp;
    dest = dest;
    shake = shake;
    reads = reads;
    answers = ap is_answer asks;
    id = refl;
    kind = suits-kind c.caller.config shake fits ∙ ap (λ (config : Config). kind_number config.kind) is;
    payload = suits-payload c.caller.config from shake (caller-payload s c.caller.config some is) fits;
  }

  answer-suited : (s : State C) (from : Addr) (raw : List ℕ) (m : Meeting) (stamp dest : ℕ) (shake : Shake)
      (peer : Peer)
      → 1 ≤ s.sending.blocks.room → m.caller.config ≡ config_of s → IsAgreed m.adopted
      → read raw ≡ Ok (Handshake stamp dest shake)
      → SeesAsMeeting m dest shake from (meet.Connected peer) → IsSuited s raw peer
  answer-suited s from raw m stamp dest shake _ some is agrees reads (SeesAnswer sender fits asks own none) = record {
    stamp = stamp;
    dest = dest;
    shake = shake;
    reads = reads;
    answers = ap is_answer asks;
    id = refl;
    kind = suits-kind m.caller.config shake fits ∙ ap (λ (config : Config). kind_number config.kind) is;
    payload = suits-payload m.caller.config from shake (caller-payload s m.caller.config some is) fits;
  }
  answer-suited s from raw m stamp dest shake _ some is agrees reads
      (SeesPeer peer sender fits asks own adopts same) = record {
        stamp = stamp;
        dest = dest;
        shake = shake;
        reads = reads;
        answers = elim asks [ inl answers ↦ ap is_answer answers | inr agreed ↦ ap is_answer agreed ];
        id = sym same;
        kind = suits-kind m.caller.config shake fits ∙ ap (λ (config : Config). kind_number config.kind) is;
        payload = subst IsAgreed adopts agrees;
      }

module _ {C : Type 0} (w : Ways C) where
  pub links-suited : (s : State C) (from : Addr) (raw : List ℕ) (peer : Peer) (from_whom : Origin)
      (emissions : List Emission)
      → 1 ≤ s.sending.blocks.room → KnowsPeer (standing_of s) s.phase → AgreesIn s.phase
      → Links w s from (read raw) peer from_whom emissions
      → IsSuited s raw peer
  links-suited s from raw _ _ _ some knows agrees (arrives.ByListener c again stamp dest shake peer is reads sees) =
      let known = subst (KnowsPeer (standing_of s)) is knows in
      offer-suited s from raw c stamp dest shake peer some known.1.config reads
      (subst (SeesAsClient c dest shake from) sees (client_saw-sees c dest shake from))
  links-suited s from raw _ _ _ some knows agrees (arrives.ByMeeting m again stamp dest shake peer is reads sees) =
      let known = subst (KnowsPeer (standing_of s)) is knows in
      answer-suited s from raw m stamp dest shake peer some known.0.config (subst AgreesIn is agrees) reads
      (subst (SeesAsMeeting m dest shake from) sees (meet_saw-sees m dest shake from))
