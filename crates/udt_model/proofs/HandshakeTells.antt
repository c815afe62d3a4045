-- What each emission of a socket tells: of itself, or of its peer.
use Rattle.std.proofs.Common.{◌≡◌, ℕ, ◌^◌, ◌<◌, Bool, true, false, pos, negsuc, List, Option, Some, None, Ok, refl, ap, ◌∙◌, sym, subst, inl, inr, ◌⊎◌, arith}
use Rattle.std.specs.Prelude.{FitsSigned, ◌==◌, ◌&&◌, if◌then◌else◌}
use Rattle.std.specs.Int.{w32}
use Rattle.std.proofs.lemmas.Int.{fits_signed_from_abs}
use Rattle.std.proofs.lemmas.Option.{same_Some}
use Rattle.udt_model.specs.declared.addresses.Addr.{Addr}
use Rattle.udt_model.specs.declared.answers.Origin.{Origin}
use Rattle.udt_model.specs.declared.answers.Origin.TheVariants as origin
use Rattle.udt_model.specs.declared.answers.Peer.{Peer}
use Rattle.udt_model.specs.declared.handshakes.Asked.{Asked}
use Rattle.udt_model.specs.declared.handshakes.Asked.TheVariants as asks
use Rattle.udt_model.specs.declared.handshakes.MeetSaw.{MeetSaw}
use Rattle.udt_model.specs.declared.handshakes.MeetSaw.TheVariants as meet
use Rattle.udt_model.specs.declared.handshakes.Verdict.TheVariants as verdict
use Rattle.udt_model.specs.declared.handshakes.Caller.{Caller}
use Rattle.udt_model.specs.declared.packets.Config.{Config}
use Rattle.udt_model.specs.declared.packets.Kind.{Kind}
use Rattle.udt_model.specs.declared.packets.Kind.TheVariants as kind
use Rattle.udt_model.specs.declared.packets.Shake.{Shake}
use Rattle.udt_model.specs.Arrivals.{packet_in, on_read}
use Rattle.udt_model.specs.Calls.{stamp_of, emission as emits}
use Rattle.udt_model.specs.Connections.{adopted_id, shake_emission}
use Rattle.udt_model.specs.Events.{Act, Arrive, Reply}
use Rattle.udt_model.specs.Handshakes.{Meeting, Listening, asked, kind_number, type_of, judged, has_cookie, suits, minute_of, meet_says, meet_saw}
use Rattle.udt_model.specs.Opening.{connected}
use Rattle.udt_model.specs.Phases.{Phase, Backlog, has_place}
use Rattle.udt_model.specs.Phases as phase
use Rattle.udt_model.specs.Rate.{Ways}
use Rattle.udt_model.specs.Records.{is_answer, is_bound, names_sender}
use Rattle.udt_model.specs.Shaking.{answer_again, meeter_hears}
use Rattle.udt_model.specs.State.{State, Emission}
use Rattle.udt_model.specs.Step.{on_act}
use Rattle.udt_model.specs.Wire.{Packet, Handshake, destination, read, spelling}
use Rattle.udt_model.proofs.EmissionLemmas.{Emitting, NewBlock, LostBlock, DropRequest, FullAck, LightAck, Reports, ReportsGap, ReportsDropGap, AnswersAck, SendsKeepAlive, TheEnd, SendsHandshake, SendsShake, Requests, Meets, AnswersPeer, AnswersNew, Agrees, AnswersAgain, GivesCookie, Refuses}
use Rattle.udt_model.proofs.PeerLemmas.{standing_of, IsCaller, HasAdopted, Adoption, KnowsPeer, KeepsPeer, has_peer}
use Rattle.udt_model.proofs.PhaseLemmas.{speaks}
use Rattle.udt_model.proofs.SettlingLemmas.{IsShakeEmission}
use Rattle.udt_model.proofs.SpellingLemmas.{IsReadShake, IsPlain, read-in_range, read-shake_spelling}

-- ---- all that isn't a handshake

module _ {C : Type 0} where
  -- an emission of a socket that speaks, to its peer
  pub record IsToPeer (s : State C) (emission : Emission) : Type 0 where
    pub packet : Packet
    pub plain : IsPlain packet
    pub spoken : speaks s.phase ≡ true
    pub bytes : emission.datagram.bytes ≡ spelling packet
    pub addr : emission.datagram.addr ≡ s.peer.addr
    pub dest : destination packet ≡ s.peer.id

  to_peer-by : (s : State C) (act : Act) (emission : Emission) (packet : Packet) (offsets : List ℕ) → IsPlain packet
      → speaks s.phase ≡ true
      → destination packet ≡ s.peer.id → emission ≡ emits s packet offsets → IsToPeer s emission ⊎ IsShakeEmission s act
      emission
  to_peer-by s act emission packet offsets plain spoken dest is = inl (record {
    packet = packet;
    plain = plain;
    spoken = spoken;
    bytes = ap (λ (e : Emission). e.datagram.bytes) is;
    addr = ap (λ (e : Emission). e.datagram.addr) is;
    dest = dest;
  })

module _ {C : Type 0} (w : Ways C) where
  -- each emission goes to the peer, or is a handshake
  pub emitting-cases : (s : State C) (act : Act) (reply : Reply) (emission : Emission) → Emitting w s act reply emission
      → IsToPeer s emission ⊎ IsShakeEmission s act emission
  emitting-cases s act reply emission (NewBlock block connected packs is) = to_peer-by s act emission _ _ (omega arith)
      (rw connected refl) refl is
  emitting-cases s act reply emission (LostBlock offset block connected packs is) =
      to_peer-by s act emission _ _ (omega arith) (rw connected refl) refl is
  emitting-cases s act reply emission (DropRequest message connected packs is) =
      to_peer-by s act emission _ _ tt (rw connected refl) refl is
  emitting-cases s act reply emission (FullAck ack connected tells is) =
      to_peer-by s act emission _ _ tt (rw connected refl) refl is
  emitting-cases s act reply emission (LightAck from raw number flags stamp bytes connected arrives carries sender
      replies is) =
      to_peer-by s act emission _ _ tt (rw connected refl) refl is
  emitting-cases s act reply emission (Reports range ranges connected reports is) =
      to_peer-by s act emission _ _ tt (rw connected refl) refl is
  emitting-cases s act reply emission (ReportsGap from raw number flags stamp bytes ends connected arrives carries
      sender gap is) =
      to_peer-by s act emission _ _ tt (rw connected refl) refl is
  emitting-cases s act reply emission
      (ReportsDropGap from raw message stamp first last range ends connected arrives asks sender messages taken gap
      is) =
      to_peer-by s act emission _ _ tt (rw connected refl) refl is
  emitting-cases s act reply emission (AnswersAck number connected is) =
      to_peer-by s act emission _ _ tt (rw connected refl) refl is
  emitting-cases s act reply emission (SendsKeepAlive connected is) =
      to_peer-by s act emission _ _ tt (rw connected refl) refl is
  emitting-cases s act reply emission (TheEnd closing is) = to_peer-by s act emission _ _ tt (rw closing refl) refl is
  emitting-cases s act reply emission (SendsHandshake to dest shake sends is) =
      inr (record { to = to; dest = dest; shake = shake; sends = sends; is = is })

-- ---- a listener's answers

cookie-by : (known fits : Bool) (refusal cookie answer : Shake)
    → (if known then (if fits then verdict.Request else verdict.Reject refusal) else verdict.Cookie cookie)
    ≡ verdict.Cookie answer → cookie ≡ answer
cookie-by true true refusal cookie answer is = absurd (cc)
cookie-by true false refusal cookie answer is = absurd (cc)
cookie-by false fits refusal cookie answer is = cc

refusal-by : (known fits : Bool) (refusal cookie answer : Shake)
    → (if known then (if fits then verdict.Request else verdict.Reject refusal) else verdict.Cookie cookie)
    ≡ verdict.Reject answer → refusal ≡ answer
refusal-by true true refusal cookie answer is = absurd (cc)
refusal-by true false refusal cookie answer is = cc
refusal-by false fits refusal cookie answer is = absurd (cc)

-- a cookie goes back with the request, and a refusal with its own type
pub cookie-asks : (l : Listening) (shake : Shake) (from : Addr) (now : ℕ) (room : Bool) (answer : Shake)
    → judged l shake from now room ≡ verdict.Cookie answer → answer.ask ≡ shake.ask
unfolding judged
cookie-asks l shake from now room answer is =
    ap (λ (s : Shake). s.ask)
    (sym (cookie-by (has_cookie l shake from (minute_of now)) (suits l.config shake && room) _ _ answer is))

pub refusal-asks : (l : Listening) (shake : Shake) (from : Addr) (now : ℕ) (room : Bool) (answer : Shake)
    → judged l shake from now room ≡ verdict.Reject answer → answer.ask ≡ type_of asks.Refuses
unfolding judged
refusal-asks l shake from now room answer is =
    ap (λ (s : Shake). s.ask)
    (sym (refusal-by (has_cookie l shake from (minute_of now)) (suits l.config shake && room) _ _ answer is))

-- ---- what a handshake tells

-- each type that is written fits its place
pub type-fits : (a : Asked) → FitsSigned w32 (type_of a)
type-fits asks.Meets = fits_signed_from_abs w32 (pos 0) (omega arith)
type-fits asks.Requests = fits_signed_from_abs w32 (pos 1) (omega arith)
type-fits asks.Refuses = fits_signed_from_abs w32 (pos 1002) (omega arith)
type-fits asks.Answers = fits_signed_from_abs w32 (negsuc 0) (omega arith)
type-fits asks.Agrees = fits_signed_from_abs w32 (negsuc 1) (omega arith)
type-fits asks.Other = fits_signed_from_abs w32 (pos 2) (omega arith)

-- and is read back
pub asked-type : (a : Asked) → asked (type_of a) ≡ a
asked-type asks.Meets = refl
asked-type asks.Requests = refl
asked-type asks.Refuses = refl
asked-type asks.Answers = refl
asked-type asks.Agrees = refl
asked-type asks.Other = refl

-- what is answered again is an answer
pub again-answers : (from : Origin) (again answer : Asked) → answer_again from again ≡ Some answer → is_answer answer ≡ true
again-answers origin.Opening asks.Requests told is = ap is_answer (sym (same_Some asks.Answers told is))
again-answers origin.Rendezvous asks.Meets told is = ap is_answer (sym (same_Some asks.Answers told is))
again-answers origin.Rendezvous asks.Answers told is = ap is_answer (sym (same_Some asks.Agrees told is))
again-answers _ _ told is = absurd (cc)

module _ {C : Type 0} where
  -- a client or a meeting socket carries what its socket does
  caller-kind : (s : State C) (caller : Caller) → IsCaller (standing_of s) caller
      → kind_number caller.config.kind ≡ kind_number s.kind
  caller-kind s caller is = ap (λ (config : Config). kind_number config.kind) is.config

  -- what a handshake tells that a socket in this state emits with an event after which it is in that state: of itself,
  -- as a request or to a socket that it wants to meet; of itself, as an answer to its peer; or, of a listener, what a
  -- request told, or a refusal
  pub data Tells (s t : State C) (to : Addr) (dest : ℕ) (shake : Shake) : Type 0 where
    OfItself : (a : Asked) → shake.ask ≡ type_of a → is_answer a ≡ false → shake.id ≡ s.own → shake.isn ≡ s.isn
        → shake.kind ≡ kind_number s.kind → Tells s t to dest shake
    ToPeer : (a : Asked) → shake.ask ≡ type_of a → is_answer a ≡ true → shake.id ≡ s.own → shake.isn ≡ s.isn
        → shake.kind ≡ kind_number s.kind → has_peer t.origin ≡ true → to ≡ t.peer.addr → dest ≡ t.peer.id → Tells s t to dest shake
    OfRequest : FitsSigned w32 shake.ask → asked shake.ask ≡ asks.Requests → dest < 2 ^ 32 → (dest == 0) ≡ false
        → Tells s t to dest shake
    OfRefusal : shake.ask ≡ type_of asks.Refuses → Tells s t to dest shake

  -- an answer to a peer that was known before
  answer-tells : (s t : State C) (to : Addr) (peer : Peer) (dest : ℕ) (shake : Shake) (a : Asked)
      → shake.ask ≡ type_of a → is_answer a ≡ true
      → shake.id ≡ s.own → shake.isn ≡ s.isn → shake.kind ≡ kind_number s.kind → s.peer ≡ peer → to ≡ peer.addr → dest ≡ peer.id
      → has_peer s.origin ≡ true
      → (has_peer s.origin ≡ true → KeepsPeer s t) → Tells s t to dest shake
  answer-tells s t to peer dest shake a ask answers id isn kind is addr same has keeps =
      let kept = keeps has in
      let last : t.peer ≡ peer = kept.peer ∙ is in
      ToPeer a ask answers id isn kind (ap has_peer kept.origin ∙ has) (addr ∙ ap (λ (p : Peer). p.addr) (sym last))
      (same ∙ ap (λ (p : Peer). p.id) (sym last))

  meets-tells : (s t : State C) (m : Meeting) (adopted : Option Peer) → m.adopted ≡ adopted
      → KnowsPeer (standing_of s) (phase.Meeting m 0)
      → (has_peer s.origin ≡ true → KeepsPeer s t) → Tells s t m.caller.to (adopted_id adopted)
      (meet_says m.caller adopted)
  meets-tells s t m None adopts knows keeps = OfItself asks.Meets refl refl knows.0.own knows.0.isn (caller-kind s m.caller knows.0)
  meets-tells s t m (Some peer) adopts knows keeps =
      let has = subst (Adoption (standing_of s) m.caller.to) adopts knows.1 in
      answer-tells s t m.caller.to peer peer.id _ asks.Answers refl refl knows.0.own knows.0.isn
      (caller-kind s m.caller knows.0) has.peer (sym has.addr) refl
      (ap has_peer has.origin) keeps

module _ {C : Type 0} (w : Ways C) where
  -- the peer after a handshake that makes one known
  adopted-after : (s : State C) (m : Meeting) (again : ℕ) (shake : Shake) (saw : MeetSaw) (peer : Peer)
      → saw ≡ meet.Adopted peer
      → HasAdopted (standing_of (meeter_hears w s m again shake saw).after) peer.addr peer
  adopted-after s m again shake (meet.Adopted other) peer same =
      record { origin = refl; peer = cc; addr = refl }
  adopted-after s m again shake meet.Answered peer same = absurd (cc)
  adopted-after s m again shake (meet.Connected other) peer same = absurd (cc)
  adopted-after s m again shake meet.Stale peer same = absurd (cc)

  connected-after : (s : State C) (m : Meeting) (again : ℕ) (shake : Shake) (saw : MeetSaw) (peer : Peer)
      → saw ≡ meet.Connected peer
      → HasAdopted (standing_of (meeter_hears w s m again shake saw).after) peer.addr peer
  connected-after s m again shake (meet.Adopted other) peer same = absurd (cc)
  connected-after s m again shake meet.Answered peer same = absurd (cc)
  connected-after s m again shake (meet.Connected other) peer same = record { origin = refl; peer = cc; addr = refl }
  connected-after s m again shake meet.Stale peer same = absurd (cc)

  -- a meeting socket hears the handshake that arrives
  hears-meeting : (s : State C) (from : Addr) (raw : List ℕ) (m : Meeting) (again stamp dest : ℕ) (shake : Shake)
      → s.phase ≡ phase.Meeting m again → read raw ≡ Ok (Handshake stamp dest shake)
      → on_act w s (Arrive from raw) ≡ meeter_hears w s m again shake (meet_saw m dest shake from)
  hears-meeting s from raw m again stamp dest shake is reads =
      ap (on_read w s from) reads ∙ ap (packet_in w s from (Handshake stamp dest shake)) is

  -- a handshake to a peer that becomes known with it
  new-tells : (s t : State C) (peer : Peer) (shake : Shake) (a : Asked) → shake.ask ≡ type_of a → is_answer a ≡ true
      → shake.id ≡ s.own
      → shake.isn ≡ s.isn → shake.kind ≡ kind_number s.kind → HasAdopted (standing_of t) peer.addr peer → Tells s t peer.addr peer.id shake
  new-tells s t peer shake a ask answers id isn kind has =
      ToPeer a ask answers id isn kind (ap has_peer has.origin) (ap (λ (p : Peer). p.addr) (sym has.peer))
      (ap (λ (p : Peer). p.id) (sym has.peer))

  -- what each handshake tells
  pub sends-tells : (s : State C) (act : Act) (to : Addr) (dest : ℕ) (shake : Shake) → SendsShake s act to dest shake
      → KnowsPeer (standing_of s) s.phase → (has_peer s.origin ≡ true → KeepsPeer s (on_act w s act).after)
      → Tells s (on_act w s act).after to dest shake
  sends-tells s act _ _ _ (Requests c again cookie is) knows keeps =
      let known = subst (KnowsPeer (standing_of s)) is knows in
      OfItself asks.Requests refl refl known.1.own known.1.isn (caller-kind s c.caller known.1)
  sends-tells s act _ _ _ (Meets m again is) knows keeps =
      meets-tells s (on_act w s act).after m m.adopted refl (subst (KnowsPeer (standing_of s)) is knows) keeps
  sends-tells s act _ _ _ (AnswersPeer m again peer is adopts) knows keeps =
      let known = subst (KnowsPeer (standing_of s)) is knows in
      let has = subst (Adoption (standing_of s) m.caller.to) adopts known.1 in
      rw adopts
      (answer-tells s (on_act w s act).after peer.addr peer peer.id (meet_says m.caller (Some peer)) asks.Answers refl
      refl known.0.own known.0.isn (caller-kind s m.caller known.0)
      has.peer refl refl (ap has_peer has.origin) keeps)
  sends-tells s act _ _ _ (AnswersNew m again from raw stamp dest shake peer is arrives reads sees) knows keeps =
      let known = subst (KnowsPeer (standing_of s)) is knows in
      let after = adopted-after s m again shake (meet_saw m dest shake from) peer sees in
      new-tells s (on_act w s act).after peer _ asks.Answers refl refl known.0.own known.0.isn
      (caller-kind s m.caller known.0)
      (rw (arrives, hears-meeting s from raw m again stamp dest shake is reads) after)
  sends-tells s act _ _ _ (Agrees m again from raw stamp dest shake peer is arrives reads sees) knows keeps =
      let after = connected-after s m again shake (meet_saw m dest shake from) peer sees in
      new-tells s (on_act w s act).after peer _ asks.Agrees refl refl refl refl refl
      (rw (arrives, hears-meeting s from raw m again stamp dest shake is reads) after)
  sends-tells s act _ _ _ (AnswersAgain again answer is answers) knows keeps =
      answer-tells s (on_act w s act).after s.peer.addr s.peer s.peer.id _ answer refl
      (again-answers s.origin again answer answers) refl refl refl refl refl refl
      (subst (KnowsPeer (standing_of s)) is knows) keeps
  sends-tells s act _ _ _ (GivesCookie b from raw stamp shake answer is arrives reads asks named judges) knows keeps =
      let same = cookie-asks b.listening shake from s.last (has_place b) answer judges in
      let fits = (read-in_range raw stamp 0 shake reads).0 in
      OfRequest (subst (FitsSigned w32) (sym same) fits.ask) (ap asked same ∙ asks) fits.id named
  sends-tells s act _ _ _ (Refuses b from raw stamp shake answer is arrives reads asks named judges) knows keeps =
      OfRefusal (refusal-asks b.listening shake from s.last (has_place b) answer judges)

-- ---- what is read of it

-- its type is the one that was written
pub read-asked : (stamp dest : ℕ) (shake : Shake) (packet : Packet) (told : IsReadShake stamp dest shake packet) (a : Asked)
    → shake.ask ≡ type_of a → asked told.read_shake.ask ≡ a
read-asked stamp dest shake packet told a is =
    ap asked (told.same_ask (subst (FitsSigned w32) (sym is) (type-fits a)) ∙ is) ∙ asked-type a

-- a handshake is bound where it is an answer
bound-answers : (stamp dest : ℕ) (shake : Shake) (packet : Packet) (told : IsReadShake stamp dest shake packet)
    (a : Asked)
    → asked told.read_shake.ask ≡ a → is_bound packet ≡ true → is_answer a ≡ true
bound-answers stamp dest shake packet told a is bound = ap is_answer (sym is) ∙ ap is_bound (sym told.is) ∙ bound

-- whose a handshake is, and what this one carries
pub record NamesOwn (own isn : ℕ) (k : Kind) (shake : Shake) : Type 0 where
  pub id : shake.id ≡ own
  pub number : shake.isn ≡ isn
  pub kind : shake.kind ≡ kind_number k

kind-fits : (k : Kind) → kind_number k < 2 ^ 32
kind-fits kind.Stream = omega arith
kind-fits kind.Message = omega arith

named-own : (stamp dest : ℕ) (shake : Shake) (packet : Packet) (own isn : ℕ) (k : Kind)
    (told : IsReadShake stamp dest shake packet) → shake.id ≡ own
    → shake.isn ≡ isn → shake.kind ≡ kind_number k → own < 2 ^ 32 → isn < 2 ^ 31 → NamesOwn own isn k told.read_shake
named-own stamp dest shake packet own isn k told id number same own_fits isn_fits = record {
  kind = told.same_kind (subst (λ (n : ℕ). n < 2 ^ 32) (sym same) (kind-fits k)) ∙ same;
  id = told.same_id (subst (λ (n : ℕ). n < 2 ^ 32) (sym id) own_fits) ∙ id;
  number = told.same_isn (subst (λ (n : ℕ). n < 2 ^ 31) (sym number) isn_fits) ∙ number;
}

pub same-shake : (a b c d : ℕ) (shake read_as : Shake) → Handshake a b shake ≡ Handshake c d read_as
    → (b ≡ d) × (shake ≡ read_as)
same-shake a b c d shake read_as is = (cc, cc)

-- a handshake that is read from what was emitted, with what it tells
record IsReadEmission {C : Type 0} (s : State C) (to : Addr) (dest : ℕ) (shake : Shake) (emission : Emission)
    (packet : Packet) : Type 0 where
  sent_to : emission.datagram.addr ≡ to
  told : IsReadShake (stamp_of s) dest shake packet

-- where packets go that are bound for the peer
pub record GoesToPeer {C : Type 0} (t : State C) (emission : Emission) (packet : Packet) : Type 0 where
  pub has : has_peer t.origin ≡ true
  pub addr : emission.datagram.addr ≡ t.peer.addr
  pub id : destination packet ≡ t.peer.id

module _ {C : Type 0} where
  read-emission : (s : State C) (to : Addr) (dest : ℕ) (shake : Shake) (emission : Emission) (packet : Packet)
      → emission ≡ shake_emission s to dest shake → read emission.datagram.bytes ≡ Ok packet
      → IsReadEmission s to dest shake emission packet
  read-emission s to dest shake emission packet is reads = record {
    sent_to = ap (λ (e : Emission). e.datagram.addr) is;
    told = read-shake_spelling (stamp_of s) dest shake packet (ap (λ (e : Emission). read e.datagram.bytes) (sym is)
        ∙ reads);
  }

  -- what is bound goes to the peer
  pub tells-bound : (s t : State C) (to : Addr) (dest : ℕ) (shake : Shake) (emission : Emission) (packet : Packet)
      → Tells s t to dest shake
      → emission ≡ shake_emission s to dest shake → read emission.datagram.bytes ≡ Ok packet → is_bound packet ≡ true
      → (has_peer t.origin ≡ true → t.peer.id < 2 ^ 32) → GoesToPeer t emission packet
  tells-bound s t to dest shake emission packet (OfItself a ask no_answer id isn kind) is reads bound fits =
      let read_so = read-emission s to dest shake emission packet is reads in
      let answers = bound-answers (stamp_of s) dest shake packet read_so.told a
      (read-asked (stamp_of s) dest shake packet read_so.told a ask) bound in
      absurd (cc)
  tells-bound s t to dest shake emission packet (ToPeer a ask answers id isn kind has addr same) is reads bound fits =
      let read_so = read-emission s to dest shake emission packet is reads in
      record {
        has = has;
        addr = read_so.sent_to ∙ addr;
        id = ap destination read_so.told.is
            ∙ read_so.told.same_dest (subst (λ (n : ℕ). n < 2 ^ 32) (sym same) (fits has)) ∙ same;
      }
  tells-bound s t to dest shake emission packet (OfRequest ask_fits requests dest_fits named) is reads bound fits =
      let read_so = read-emission s to dest shake emission packet is reads in
      let answers =
      bound-answers (stamp_of s) dest shake packet read_so.told asks.Requests (ap asked (read_so.told.same_ask ask_fits)
      ∙ requests) bound in
      absurd (cc)
  tells-bound s t to dest shake emission packet (OfRefusal ask) is reads bound fits =
      let read_so = read-emission s to dest shake emission packet is reads in
      let answers =
      bound-answers (stamp_of s) dest shake packet read_so.told asks.Refuses
      (read-asked (stamp_of s) dest shake packet read_so.told asks.Refuses ask)
      bound in
      absurd (cc)

  -- what tells whose it is tells the own ID and initial sequence number
  pub tells-named : (s t : State C) (to : Addr) (dest : ℕ) (shake : Shake) (emission : Emission) (stamp read_dest : ℕ)
      (read_as : Shake)
      → Tells s t to dest shake → emission ≡ shake_emission s to dest shake → read emission.datagram.bytes
      ≡ Ok (Handshake stamp read_dest read_as)
      → names_sender read_dest (asked read_as.ask) ≡ true → s.own < 2 ^ 32 → s.isn < 2 ^ 31
      → NamesOwn s.own s.isn s.kind read_as
  tells-named s t to dest shake emission stamp read_dest read_as (OfItself a ask no_answer id isn kind) is reads names
      own_fits isn_fits =
      let told = (read-emission s to dest shake emission (Handshake stamp read_dest read_as) is reads).told in
      let same = same-shake _ _ _ _ _ _ told.is in
      subst (NamesOwn s.own s.isn s.kind) (sym same.1) (named-own (stamp_of s) dest shake _ s.own s.isn s.kind told id isn kind own_fits
      isn_fits)
  tells-named s t to dest shake emission stamp read_dest read_as (ToPeer a ask answers id isn kind has addr goes) is reads
      names own_fits isn_fits =
      let told = (read-emission s to dest shake emission (Handshake stamp read_dest read_as) is reads).told in
      let same = same-shake _ _ _ _ _ _ told.is in
      subst (NamesOwn s.own s.isn s.kind) (sym same.1) (named-own (stamp_of s) dest shake _ s.own s.isn s.kind told id isn kind own_fits
      isn_fits)
  tells-named s t to dest shake emission stamp read_dest read_as (OfRequest ask_fits requests dest_fits named) is reads
      names own_fits isn_fits =
      let told = (read-emission s to dest shake emission (Handshake stamp read_dest read_as) is reads).told in
      let same = same-shake _ _ _ _ _ _ told.is in
      let dest_is : read_dest ≡ dest = same.0 ∙ told.same_dest dest_fits in
      let asks_is : asked read_as.ask ≡ asks.Requests = ap (λ (x : Shake). asked x.ask) same.1
      ∙ ap asked (told.same_ask ask_fits) ∙ requests in
      let tells : names_sender dest asks.Requests ≡ true =
      ap (λ (n : ℕ). names_sender n asks.Requests) (sym dest_is) ∙ ap (names_sender read_dest) (sym asks_is) ∙ names in
      absurd (cc)
  tells-named s t to dest shake emission stamp read_dest read_as (OfRefusal ask) is reads names own_fits isn_fits =
      let told = (read-emission s to dest shake emission (Handshake stamp read_dest read_as) is reads).told in
      let same = same-shake _ _ _ _ _ _ told.is in
      let asks_is : asked read_as.ask ≡ asks.Refuses =
      ap (λ (x : Shake). asked x.ask) same.1 ∙ read-asked (stamp_of s) dest shake _ told asks.Refuses ask in
      let tells : names_sender read_dest asks.Refuses ≡ true = ap (names_sender read_dest) (sym asks_is) ∙ names in
      absurd (cc)
