-- A socket asks or meets one address, and gets no peer but one there.
use Rattle.std.proofs.Common.{◌≡◌, ℕ, true, false, List, [], ◌∷◌, Some, Ok, refl, ap, ◌∙◌, sym, subst, inl, inr, ◌⊎◌}
use Rattle.std.specs.Prelude.{Option, None, FitsSigned}
use Rattle.std.specs.Int.{w32}
use Rattle.std.specs.List.{Contains}
use Rattle.udt_model.specs.declared.addresses.Addr.{Addr}
use Rattle.udt_model.specs.declared.answers.Heard.{Heard}
use Rattle.udt_model.specs.declared.answers.Origin.{Origin}
use Rattle.udt_model.specs.declared.answers.Peer.{Peer}
use Rattle.udt_model.specs.declared.handshakes.Asked.TheVariants as asks
use Rattle.udt_model.specs.declared.handshakes.ClientSaw.TheVariants as client
use Rattle.udt_model.specs.declared.handshakes.MeetSaw.TheVariants as meet
use Rattle.udt_model.specs.declared.packets.Config.{Config}
use Rattle.udt_model.specs.declared.packets.Shake.{Shake}
use Rattle.udt_model.specs.Calls.{stamp_of}
use Rattle.udt_model.specs.Emissions.{emitted_by}
use Rattle.udt_model.specs.Events.{Act, Event, at_moment}
use Rattle.udt_model.specs.Handshakes.{Connecting, Meeting, asked, meet_says, meet_request}
use Rattle.udt_model.specs.History.{Item, after_items}
use Rattle.udt_model.specs.Phases.{Phase, has_place}
use Rattle.udt_model.specs.Phases as phase
use Rattle.udt_model.specs.Rate.{Ways}
use Rattle.udt_model.specs.Records.{Way, opened_by, names_sender, is_answer}
use Rattle.udt_model.specs.State.{State, Emission}
use Rattle.udt_model.specs.Step.{step}
use Rattle.udt_model.specs.Wire.{Packet, Handshake, read}
use Rattle.udt_model.proofs.ArrivalLemmas.{Shakes, Links}
use Rattle.udt_model.proofs.ArrivalLemmas as arrives
use Rattle.udt_model.proofs.EmissionLemmas.{SendsShake, Requests, Meets, AnswersPeer, AnswersNew, Agrees, AnswersAgain, GivesCookie, Refuses, emitted-at}
use Rattle.udt_model.proofs.HandshakeLemmas.{SeesAsClient, SeesOffer, SeesAsMeeting, SeesFirst, SeesAnswer, SeesPeer, client_saw-sees, meet_saw-sees}
use Rattle.udt_model.proofs.HandshakeTells.{IsToPeer, emitting-cases, cookie-asks, refusal-asks, again-answers, read-asked, same-shake}
use Rattle.udt_model.proofs.PeerLemmas.{standing_of, Adoption, KnowsPeer, IsKnown, has_peer, config_by, start_by, step-known}
use Rattle.udt_model.proofs.PhaseLemmas.{is_settled}
use Rattle.udt_model.proofs.SettlingLemmas.{IsShakeEmission, at_moment-unlinked}
use Rattle.udt_model.proofs.ShakeLemmas.{known-after, after-front}
use Rattle.udt_model.proofs.SpellingLemmas.{IsReadShake, plain-no_shake, read-shake_spelling, read-in_range}
use Rattle.udt_model.proofs.StepLemmas.{step-keeps}
use Rattle.udt_model.proofs.UnlinkedLemmas.{IsUnlinked, OfUnlinked, Turns, Listens, ListensOn, AsksOn, MeetsOn, Ends, Stays, unlinked-shows}
use Rattle.udt_model.proofs.UnlinkedLemmas as turns

-- ---- what is kept from the moment on at which a socket asks or meets this address

-- a client asks it, and a meeting socket meets it. No other phase from which one comes to be connected comes
-- afterwards
abbrev AsksAt : Addr → Phase → Type 0
AsksAt to phase.Opened = ⊥
AsksAt to (phase.Listening b) = ⊥
AsksAt to (phase.Connecting c again) = c.caller.to ≡ to
AsksAt to (phase.Meeting m again) = m.caller.to ≡ to
AsksAt to other = Unit {0}

settled-asks : (to : Addr) (p : Phase) → is_settled p ≡ true → AsksAt to p
settled-asks to phase.Opened settled = absurd (cc)
settled-asks to (phase.Listening b) settled = absurd (cc)
settled-asks to (phase.Connecting c again) settled = absurd (cc)
settled-asks to (phase.Meeting m again) settled = absurd (cc)
settled-asks to _ settled = tt

-- the peer stands there
abbrev IsThere : Addr → Origin → Peer → Type 0
IsThere to from peer = has_peer from ≡ true → peer.addr ≡ to

-- as that does which a handshake makes known
adopted-there : (to : Addr) (m : Meeting) (dest : ℕ) (shake : Shake) (from : Addr) (peer : Peer) → m.caller.to ≡ to
    → SeesAsMeeting m dest shake from (meet.Adopted peer) → peer.addr ≡ to
adopted-there to m dest shake from _ is (SeesFirst sender fits asks none) = sender ∙ is

offered-there : (to : Addr) (c : Connecting) (dest : ℕ) (shake : Shake) (from : Addr) (peer : Peer) → c.caller.to ≡ to
    → SeesAsClient c dest shake from (client.Connected peer) → peer.addr ≡ to
offered-there to c dest shake from _ is (SeesOffer sender own asks fits) = sender ∙ is

module _ {C : Type 0} where
  -- both
  record AsksAlone (to : Addr) (s : State C) : Type 0 where
    asks : AsksAt to s.phase
    there : IsThere to s.origin s.peer

  turns-ask : (to : Addr) (s : State C) (next : Phase) → Turns s next → AsksAt to s.phase → AsksAt to next
  turns-ask to s _ (Listens most secret is) asks = absurd (subst (AsksAt to) is asks)
  turns-ask to s _ (turns.Asks a is) asks = absurd (subst (AsksAt to) is asks)
  turns-ask to s _ (turns.Meets a is) asks = absurd (subst (AsksAt to) is asks)
  turns-ask to s _ (ListensOn b next is listening most) asks = absurd (subst (AsksAt to) is asks)
  turns-ask to s _ (AsksOn c again next is) asks = subst (AsksAt to) is asks
  turns-ask to s _ (MeetsOn m again next is) asks = subst (AsksAt to) is asks
  turns-ask to s _ (Ends next settled ends) asks = settled-asks to next settled
  turns-ask to s _ (Stays next is) asks = subst (AsksAt to) is asks

  shakes-ask : (to : Addr) (s : State C) (from : Addr) (raw : List ℕ) (next : Phase) (peer : Peer)
      (from_whom : Origin) (answer : Heard)
      (emissions : List Emission) → AsksAlone to s → Shakes s from (read raw) next peer from_whom answer emissions
      → AsksAt to next × IsThere to from_whom peer
  shakes-ask to s from raw _ _ _ _ _ asks (arrives.GivesCookie b stamp shake reply is reads requests named judges) =
      (asks.asks, asks.there)
  shakes-ask to s from raw _ _ _ _ _ asks (arrives.Promises b stamp shake is reads requests named judges) = absurd
      (subst (AsksAt to) is asks.asks)
  shakes-ask to s from raw _ _ _ _ _ asks (arrives.Refuses b stamp shake reply is reads requests named judges) =
      (asks.asks, asks.there)
  shakes-ask to s from raw _ _ _ _ _ asks (arrives.TakesCookie c again stamp dest shake is reads sees) =
      (subst (AsksAt to) is asks.asks, asks.there)
  shakes-ask to s from raw _ _ _ _ _ asks (arrives.IsRefused c again stamp dest shake is reads sees) = (tt, asks.there)
  shakes-ask to s from raw _ _ _ _ _ asks (arrives.Adopts m again stamp dest shake peer is reads sees) =
      let to_is = subst (AsksAt to) is asks.asks in
      let seen = subst (SeesAsMeeting m dest shake from) sees (meet_saw-sees m dest shake from) in
      (to_is, λ has. adopted-there to m dest shake from peer to_is seen)
  shakes-ask to s from raw _ _ _ _ _ asks (arrives.AnswersAdopted m again stamp dest shake is reads sees) =
      (asks.asks, asks.there)

  answered-there : (to : Addr) (s : State C) (m : Meeting) (dest : ℕ) (shake : Shake) (from : Addr) (peer : Peer)
      → m.caller.to ≡ to
      → Adoption (standing_of s) m.caller.to m.adopted → SeesAsMeeting m dest shake from (meet.Connected peer)
      → peer.addr ≡ to
  answered-there to s m dest shake from _ is adoption (SeesAnswer sender fits asks own none) = sender ∙ is
  answered-there to s m dest shake from _ is adoption (SeesPeer peer sender fits asks own adopts same) =
      let has = subst (Adoption (standing_of s) m.caller.to) adopts adoption in
      has.addr ∙ is

module _ {C : Type 0} (w : Ways C) where
  links-ask : (to : Addr) (s : State C) (from : Addr) (raw : List ℕ) (peer : Peer) (from_whom : Origin)
      (emissions : List Emission)
      → AsksAt to s.phase → KnowsPeer (standing_of s) s.phase → Links w s from (read raw) peer from_whom emissions
      → peer.addr ≡ to
  links-ask to s from raw _ _ _ asks knows (arrives.ByListener c again stamp dest shake peer is reads sees) =
      offered-there to c dest shake from peer (subst (AsksAt to) is asks)
      (subst (SeesAsClient c dest shake from) sees (client_saw-sees c dest shake from))
  links-ask to s from raw _ _ _ asks knows (arrives.ByMeeting m again stamp dest shake peer is reads sees) =
      let known = subst (KnowsPeer (standing_of s)) is knows in
      answered-there to s m dest shake from peer (subst (AsksAt to) is asks) known.1
      (subst (SeesAsMeeting m dest shake from) sees (meet_saw-sees m dest shake from))

  unlinked-asks : (to : Addr) (s : State C) (act : Act) → KnowsPeer (standing_of s) s.phase → AsksAlone to s
      → OfUnlinked w s act (λ outcome. AsksAlone to outcome.after)
  unlinked-asks to s act knows asks = record {
    turns = λ next reply emissions turns nothing. record
        { asks = turns-ask to s next turns asks.asks; there = asks.there };
    counts = λ counters answer nothing. record { asks = asks.asks; there = asks.there };
    shaken = λ from raw next peer from_whom answer emissions is shakes nothing.
        let after = shakes-ask to s from raw next peer from_whom answer emissions asks shakes in
        record { asks = after.0; there = after.1 };
    linked = λ from raw peer from_whom emissions is links nothing.
        record { asks = tt; there = λ has. links-ask to s from raw peer from_whom emissions asks.asks knows links };
  }

  step-asks : (config : Config) (start : ℕ) (to : Addr) (s : State C) (event : Event) → IsKnown w config start s
      → AsksAlone to s
      → AsksAlone to (step w s event).after
  unfolding step
  step-asks config start to s event known asks = elim known.begins [
    | inl unlinked ↦
        let now = at_moment-unlinked w config start s event.now unlinked in
        unlinked-shows w config start (at_moment s event.now) (λ outcome. AsksAlone to outcome.after) now event.act
        (unlinked-asks to (at_moment s event.now) event.act known.knows
        (record { asks = asks.asks; there = asks.there }))
    | inr settled ↦
        let kept = step-keeps w s event settled in
        let t = (step w s event).after in
        record {
          asks = settled-asks to t.phase (kept.settled settled);
          there = λ has.
              ap (λ (p : Peer). p.addr) kept.peer ∙ asks.there (ap has_peer (sym kept.origin) ∙ has);
        }
  ]

  items-ask : (config : Config) (start : ℕ) (to : Addr) (s : State C) (items : List Item) → IsKnown w config start s
      → AsksAlone to s
      → AsksAlone to (after_items w s items)
  unfolding after_items
  items-ask config start to s [] known asks = asks
  items-ask config start to s (item ∷ items) known asks =
      items-ask config start to (step w s item.event).after items (step-known w config start s item.event known).known
      (step-asks config start to s item.event known asks)

  -- ---- what a socket asks

  meeting-there : (s : State C) (m : Meeting) (adopted : Option Peer) → m.adopted ≡ adopted
      → Adoption (standing_of s) m.caller.to adopted
      → IsThere m.caller.to s.origin s.peer
  meeting-there s m None is nobody has = absurd (cc)
  meeting-there s m (Some peer) is adopted has = ap (λ (p : Peer). p.addr) adopted.peer ∙ adopted.addr

  -- a socket asks the address to which it emits a request, and meets that to which it says that it wants to meet
  sends-asks : (s : State C) (act : Act) (to : Addr) (dest : ℕ) (shake : Shake) (packet : Packet)
      (told : IsReadShake (stamp_of s) dest shake packet)
      → SendsShake s act to dest shake → is_answer (asked told.read_shake.ask) ≡ false
      → names_sender told.read_dest (asked told.read_shake.ask) ≡ true → KnowsPeer (standing_of s) s.phase
      → AsksAlone to s
  sends-asks s act _ _ _ packet told (Requests c again cookie is) no_answer names knows =
      let known = subst (KnowsPeer (standing_of s)) is knows in
      record {
        asks = subst (AsksAt c.caller.to) (sym is) refl;
        there = λ has. let none = ap has_peer known.0 in
            absurd (cc);
      }
  sends-asks s act _ _ _ packet told (Meets m again is) no_answer names knows =
      let known = subst (KnowsPeer (standing_of s)) is knows in
      record { asks = subst (AsksAt m.caller.to) (sym is) refl; there = meeting-there s m m.adopted refl known.1 }
  sends-asks s act _ _ _ packet told (AnswersPeer m again peer is adopts) no_answer names knows =
      let says = ap (λ (adopted : Option Peer). (meet_says m.caller adopted).ask) adopts in
      let answers = ap is_answer (read-asked (stamp_of s) peer.id (meet_request m) packet told asks.Answers says) in
      absurd (cc)
  sends-asks s act _ _ _ packet told (AnswersNew m again from raw stamp dest shake peer is arrives reads sees)
      no_answer names knows =
      let answers = ap is_answer (read-asked (stamp_of s) _ _ packet told asks.Answers refl) in
      absurd (cc)
  sends-asks s act _ _ _ packet told (Agrees m again from raw stamp dest shake peer is arrives reads sees) no_answer
      names knows =
      let answers = ap is_answer (read-asked (stamp_of s) _ _ packet told asks.Agrees refl) in
      absurd (cc)
  sends-asks s act _ _ _ packet told (AnswersAgain again answer is answers) no_answer names knows =
      let is_so = ap is_answer (read-asked (stamp_of s) _ _ packet told answer refl)
      ∙ again-answers s.origin again answer answers in
      absurd (cc)
  sends-asks s act _ _ _ packet told (GivesCookie b from raw stamp shake answer is arrives reads requests named
      judges) no_answer names knows =
      let same = cookie-asks b.listening shake from s.last (has_place b) answer judges in
      let fits = (read-in_range raw stamp 0 shake reads).0 in
      let dest_is : told.read_dest ≡ shake.id = told.same_dest fits.id in
      let asks_is : asked told.read_shake.ask ≡ asks.Requests =
      ap asked (told.same_ask (subst (FitsSigned w32) (sym same) fits.ask) ∙ same) ∙ requests in
      let tells : names_sender shake.id asks.Requests ≡ true =
      ap (λ (n : ℕ). names_sender n asks.Requests) (sym dest_is) ∙ ap (names_sender told.read_dest) (sym asks_is)
      ∙ names in
      absurd (cc)
  sends-asks s act _ _ _ packet told (Refuses b from raw stamp shake answer is arrives reads requests named judges)
      no_answer names knows =
      let asks_is = read-asked (stamp_of s) shake.id answer packet told asks.Refuses
      (refusal-asks b.listening shake from s.last (has_place b) answer judges) in
      let tells : names_sender told.read_dest asks.Refuses ≡ true = ap (names_sender told.read_dest) (sym asks_is)
      ∙ names in
      absurd (cc)

  module _ (own : ℕ) (way : Way) (s : State C) (opened_so : s ≡ opened_by w own way) (stamp dest : ℕ) (shake : Shake)
      (no_answer : is_answer (asked shake.ask) ≡ false) (names : names_sender dest (asked shake.ask) ≡ true) where
    -- with an item that emits such a handshake the socket asks or meets its address
    item-asks : (front : List Item) (item : Item) (emission : Emission)
        → read emission.datagram.bytes ≡ Ok (Handshake stamp dest shake)
        → IsToPeer (at_moment (after_items w s front) item.event.now) emission
        ⊎ IsShakeEmission (at_moment (after_items w s front) item.event.now) item.event.act emission
        → AsksAlone emission.datagram.addr (after_items w s front)
    item-asks front item emission reads (inl sent) =
        absurd (plain-no_shake sent.packet stamp dest shake sent.plain (ap read (sym sent.bytes) ∙ reads))
    item-asks front item emission reads (inr sent) =
        let t = after_items w s front in
        let u = at_moment t item.event.now in
        let known = known-after w own way s opened_so front in
        let told = read-shake_spelling (stamp_of u) sent.dest sent.shake (Handshake stamp dest shake)
        (ap (λ (e : Emission). read e.datagram.bytes) (sym sent.is) ∙ reads) in
        let same = same-shake _ _ _ _ shake told.read_shake told.is in
        let asks =
        sends-asks u item.event.act sent.to sent.dest sent.shake (Handshake stamp dest shake) told sent.sends
        (subst (λ (x : Shake). is_answer (asked x.ask) ≡ false) same.1 no_answer)
        (subst (λ (n : ℕ). names_sender n (asked told.read_shake.ask) ≡ true) same.0
        (subst (λ (x : Shake). names_sender dest (asked x.ask) ≡ true) same.1 names)) known.knows in
        subst (λ (to : Addr). AsksAlone to t) (sym (ap (λ (e : Emission). e.datagram.addr) sent.is))
        (record { asks = asks.asks; there = asks.there })

    -- so its peer, where it gets one, stands there
    pub asked-there : (items : List Item) (emission : Emission) → Contains (emitted_by w s items) emission
        → read emission.datagram.bytes ≡ Ok (Handshake stamp dest shake)
        → has_peer (after_items w s items).origin ≡ true
        → (after_items w s items).peer.addr ≡ emission.datagram.addr
    asked-there items emission among reads has =
        let at = emitted-at w s items emission among in
        let t = after_items w s at.front in
        let known = known-after w own way s opened_so at.front in
        let asks =
        item-asks at.front at.item emission reads
        (emitting-cases w (at_moment t at.item.event.now) at.item.event.act _ emission at.emitting) in
        let next = (step-known w (config_by w way) (start_by w way) t at.item.event known).known in
        let last =
        items-ask (config_by w way) (start_by w way) emission.datagram.addr (step w t at.item.event).after at.rest next
        (step-asks (config_by w way) (start_by w way) emission.datagram.addr t at.item.event known asks) in
        let same : after_items w s items ≡ after_items w (step w t at.item.event).after at.rest =
        ap (after_items w s) at.joined ∙ after-front w s at.front at.item at.rest in
        ap (λ (u : State C). u.peer.addr) same ∙ last.there (ap (λ (u : State C). has_peer u.origin) (sym same) ∙ has)
