-- A listener that promises a place to a request has no peer, then or before, and what is made for the request can be opened so.
use Rattle.std.proofs.Common.{◌≡◌, ℕ, ◌^◌, ◌<◌, ◌≤◌, true, false, List, Some, Ok, refl, ap, ◌∙◌, sym, subst, inl, inr, arith}
use Rattle.std.specs.Prelude.{nat_lt, ◌==◌, ◌&&◌, Bool, Result, if◌then◌else◌}
use Rattle.std.proofs.lemmas.Bool.{and_parts, ltb-true}
use Rattle.std.proofs.lemmas.Option.{same_Some}
use Rattle.udt_model.specs.declared.addresses.Addr.{Addr}
use Rattle.udt_model.specs.declared.answers.Heard.TheVariants as heard
use Rattle.udt_model.specs.declared.answers.Origin.{Origin}
use Rattle.udt_model.specs.declared.answers.Origin.TheVariants as origin
use Rattle.udt_model.specs.declared.answers.Peer.{Peer}
use Rattle.udt_model.specs.declared.handshakes.Asked.TheVariants as asks
use Rattle.udt_model.specs.declared.handshakes.TheConstants.{VERSION, SIZE_OVER_PAYLOAD}
use Rattle.udt_model.specs.declared.handshakes.Verdict.TheVariants as verdict
use Rattle.udt_model.specs.declared.limits.TheConstants.{MOST_PAYLOAD, FEWEST_BLOCKS, MOST_BLOCKS}
use Rattle.udt_model.specs.declared.packets.Config.{Config}
use Rattle.udt_model.specs.declared.packets.Malformed.{Malformed}
use Rattle.udt_model.specs.declared.packets.Shake.{Shake}
use Rattle.udt_model.specs.Connections.{config_of}
use Rattle.udt_model.specs.Events.{Arrive, event, DidHear, at_moment}
use Rattle.udt_model.specs.Handshakes.{Listening, asked, has_cookie, minute_of, kind_number, suits, judged, peer_in}
use Rattle.udt_model.specs.History.{state_of, happened}
use Rattle.udt_model.specs.Opening.{CanOpen, IsOpening}
use Rattle.udt_model.specs.Phases.{Phase, Backlog}
use Rattle.udt_model.specs.Phases as phase
use Rattle.udt_model.specs.Rate.{Ways}
use Rattle.udt_model.specs.ReceiveHalf.{Receiving}
use Rattle.udt_model.specs.Records.{Way, Opened, Paired, PairedAt, IsWay, Enrolled, IsSocket, PeerPair, peer_by, own_peer}
use Rattle.udt_model.specs.Routes.{handshake_in}
use Rattle.udt_model.specs.SendHalf.{Sending}
use Rattle.udt_model.specs.State.{State}
use Rattle.udt_model.specs.Step.{step}
use Rattle.udt_model.specs.Wire.{Packet, Handshake, read}
use Rattle.udt_model.proofs.PeerLemmas.{IsKnown, config_by, start_by, standing_of, KnowsPeer}
use Rattle.udt_model.proofs.PhaseLemmas.{is_settled}
use Rattle.udt_model.proofs.ShakeLemmas.{known-after}
use Rattle.udt_model.proofs.SpellingLemmas.{read-in_range}
use Rattle.udt_model.proofs.UnlinkedLemmas.{IsUnlinked}
use Rattle.udt_laws.proofs.scripts.EventPeer.{event-peer}
use Rattle.udt_laws.proofs.scripts.RequestHeard.{IsPromised, request-promised}

-- ---- requests

fits-by : (known fits room : Bool) (refusal cookie : Shake)
    → (if known then (if fits && room then verdict.Request else verdict.Reject refusal) else verdict.Cookie cookie)
    ≡ verdict.Request
    → fits ≡ true
fits-by true true room refusal cookie is = refl
fits-by true false room refusal cookie is = absurd (cc)
fits-by false fits room refusal cookie is = absurd (cc)

-- a request that is promised a place can carry bytes
request-packet : (l : Listening) (shake : Shake) (from : Addr) (now : ℕ) (room : Bool)
    → judged l shake from now room ≡ verdict.Request
    → SIZE_OVER_PAYLOAD < shake.packet
unfolding judged
request-packet l shake from now room is =
    let fits = fits-by (has_cookie l shake from (minute_of now)) (suits l.config shake) room _ _ is in
    ltb-true SIZE_OVER_PAYLOAD shake.packet
    (and_parts ((shake.version == VERSION) && (shake.kind == kind_number l.config.kind))
    (nat_lt SIZE_OVER_PAYLOAD shake.packet) fits).1

-- what one reads tells of one handshake
reads-handshake : (result : Result Packet Malformed) (stamp dest : ℕ) (shake other : Shake)
    → result ≡ Ok (Handshake stamp dest shake)
    → handshake_in result ≡ Some other → shake ≡ other
reads-handshake result stamp dest shake other is reads = same_Some _ _ (ap handshake_in (sym is) ∙ reads)

pub same-bytes : (one other : Addr) (a b : List ℕ) → Arrive one a ≡ Arrive other b → a ≡ b
same-bytes one other a b is = cc

same-shake : (result : Result Packet Malformed) (stamp dest other_stamp other_dest : ℕ) (shake other : Shake)
    → result ≡ Ok (Handshake stamp dest shake) → result ≡ Ok (Handshake other_stamp other_dest other) → shake ≡ other
same-shake result stamp dest other_stamp other_dest shake other one two = same_Some _ _ (ap handshake_in (sym one ∙ two))

-- ---- listeners

pub no-peer : (from : Origin) (peer : Peer) → from ≡ origin.Nobody → (pair : PeerPair) → peer_by from peer ≡ Some pair → ⊥
no-peer from peer is pair names = cc

module _ {C : Type 0} (w : Ways C) where
  way-can_open : (own : ℕ) (way : Way) → IsWay own way → CanOpen (config_by w way)
  way-can_open own (Opened isn config now) is = is.values
  way-can_open own (Paired config peer now) is = is.values.config_fits
  way-can_open own (PairedAt config peer now start) is = is.values.config_fits

  unlinked-can_open : (config : Config) (start : ℕ) (s : State C) → CanOpen config → IsUnlinked w config start s
      → CanOpen (config_of s)
  unlinked-can_open config start s values unlinked = record {
    payload = subst (λ (x : Sending C). 1 ≤ x.blocks.room) (sym unlinked.sending) values.payload;
    most_payload = subst (λ (x : Sending C). x.blocks.room ≤ MOST_PAYLOAD) (sym unlinked.sending) values.most_payload;
    snd_blocks = subst (λ (x : Sending C). FEWEST_BLOCKS ≤ x.blocks.blocks) (sym unlinked.sending) values.snd_blocks;
    most_snd_blocks = subst (λ (x : Sending C). x.blocks.blocks ≤ MOST_BLOCKS) (sym unlinked.sending) values.most_snd_blocks;
    rcv_blocks = subst (λ (x : Receiving). FEWEST_BLOCKS ≤ x.blocks.capacity) (sym unlinked.receiving) values.rcv_blocks;
    most_rcv_blocks = subst (λ (x : Receiving). x.blocks.capacity ≤ MOST_BLOCKS) (sym unlinked.receiving) values.most_rcv_blocks;
  }

  not-settled : (p : Phase) (backlog : Backlog) → p ≡ phase.Listening backlog → is_settled p ≡ true → ⊥
  not-settled p backlog is settled = cc

  -- what is known of the listener that promises a place to a request
  pub record Promised (socket : Enrolled C) (now : ℕ) (from : Addr) (bytes : List ℕ) (shake : Shake) : Type 0 where
    pub stamp : ℕ
    pub reads : read bytes ≡ Ok (Handshake stamp 0 shake)
    pub nobody : (state_of w socket.history).origin ≡ origin.Nobody
    pub still_nobody : (peer : PeerPair) → own_peer w (happened w socket.history 0 (event now (Arrive from bytes))) ≡ Some peer
        → ⊥
    pub opens : (own : ℕ) → own < 2 ^ 32 → IsOpening own (config_of (state_of w socket.history))
        (peer_in (config_of (state_of w socket.history)) from shake) 0

  module _ (socket : Enrolled C) (now : ℕ) (from : Addr) (bytes : List ℕ) (is : IsSocket w socket)
      (promises : (step w (state_of w socket.history) (event now (Arrive from bytes))).reply ≡ DidHear heard.Request) where
    abbrev listener : State C
    listener = state_of w socket.history

    promised-so : IsPromised (at_moment listener now) from bytes
    unfolding step
    promised-so = request-promised w (at_moment listener now) from bytes (read bytes) refl promises

    listener-known : IsKnown w (config_by w socket.way) (start_by w socket.way) listener
    listener-known = known-after w socket.own socket.way socket.history.opening is.opened socket.history.items

    is-unlinked : IsUnlinked w (config_by w socket.way) (start_by w socket.way) listener
    is-unlinked = elim listener-known.begins [
      | inl unlinked ↦ unlinked
      | inr settled ↦ absurd (not-settled listener.phase promised-so.backlog promised-so.listens settled)
    ]

    has-nobody : listener.origin ≡ origin.Nobody
    has-nobody = subst (KnowsPeer (standing_of listener)) promised-so.listens listener-known.knows

    none-after : (peer : PeerPair) → own_peer w (happened w socket.history 0 (event now (Arrive from bytes))) ≡ Some peer → ⊥
    none-after peer names = elim (event-peer w socket 0 (event now (Arrive from bytes)) is) [
      | inl same ↦ no-peer listener.origin listener.peer has-nobody peer (sym same ∙ names)
      | inr introduced ↦
          let same = same-bytes from introduced.from bytes introduced.raw introduced.arrives in
          let shake_is = same-shake (read bytes) promised-so.stamp 0 introduced.stamp introduced.dest promised-so.shake
          introduced.shake promised-so.reads
          (ap read same ∙ introduced.reads) in
          let requests : asked introduced.shake.ask ≡ asks.Requests = ap (λ (x : Shake). asked x.ask) (sym shake_is)
          ∙ promised-so.asks in
          elim introduced.asks [ inl meets ↦ cc | inr answers ↦ let other = answers.0 in cc ]
    ]

    pub is-promised : (shake : Shake) → handshake_in (read bytes) ≡ Some shake → Promised socket now from bytes shake
    is-promised shake reads =
        let same = reads-handshake (read bytes) promised-so.stamp 0 promised-so.shake shake promised-so.reads reads in
        let so : read bytes ≡ Ok (Handshake promised-so.stamp 0 shake) =
        promised-so.reads ∙ ap (λ (x : Shake). Ok (Handshake promised-so.stamp 0 x)) same in
        let values = unlinked-can_open (config_by w socket.way) (start_by w socket.way) listener
        (way-can_open socket.own socket.way is.in_range)
        is-unlinked in
        let packet = subst (λ (x : Shake). SIZE_OVER_PAYLOAD < x.packet) same
        (request-packet promised-so.backlog.listening promised-so.shake from _ _ promised-so.judges) in
        let fits = (read-in_range bytes promised-so.stamp 0 shake so).0 in
        record {
          stamp = promised-so.stamp;
          reads = so;
          nobody = has-nobody;
          still_nobody = none-after;
          opens = λ own own_fits. record {
            values = record { config_fits = values; peer_payload = omega (arith, values.payload, packet); within = omega arith };
            own_fits = own_fits;
            id_fits = fits.id;
            isn_fits = fits.isn;
          };
        }
