-- The main theorems hold of the sockets of a script whose records are lawful, where no line gives bytes of its own.
use Rattle.std.proofs.Common.{◌≡◌, ℕ, ◌+◌, ◌^◌, ◌<◌, List, Some, refl, ap, ◌∙◌, sym, subst}
use Rattle.std.specs.Prelude.{slice_get}
use Rattle.std.specs.List.{Contains}
use Rattle.udt_model.specs.declared.addresses.Addr.{Addr}
use Rattle.udt_model.specs.Emissions.{arrivals}
use Rattle.udt_model.specs.History.{History, start_of}
use Rattle.udt_model.specs.Honest.{IsHonest}
use Rattle.udt_model.specs.Lines.{AreEmitted}
use Rattle.udt_model.specs.Network.{ScriptSocket, Network}
use Rattle.udt_model.specs.Rate.{Ways}
use Rattle.udt_model.specs.Records.{Enrolled, StandsAt, PeerPair, own_peer}
use Rattle.udt_model.specs.Script.{size_of, network_after}
use Rattle.udt_model.specs.State.{Datagram}
use Rattle.udt_laws.specs.Laws.{IsStream, CarriesMessages, HasHeard, peer_isn, AreInStep, ShowsMessages}
use Rattle.udt_laws.specs.Scripts.{enrolled_at, HasLawfulRecords, ScriptLawful, HasPeerThere}
use Rattle.udt_laws.specs.Scripts.{ScriptAdoption, ScriptPrefix, ScriptMessages}
use Rattle.udt_laws.proofs.adoption.MutualAdoption.{mutual_adoption}
use Rattle.udt_laws.proofs.adoption.SocketsInStep.{prefix, messages}
use Rattle.udt_laws.proofs.sockets.WasSaid.{WasSaid}
use Rattle.udt_laws.proofs.honest.SaidByLines.{CameThere, AreServed, lines-served}
use Rattle.udt_laws.proofs.honest.NearRecords.{AreNear, near-honest}

pair_of : Addr → ℕ → PeerPair
pair_of addr id = record { addr = addr; id = id }

pair-is : (addr other_addr : Addr) (id other : ℕ) → addr ≡ other_addr → id ≡ other → pair_of addr id ≡ pair_of other_addr other
pair-is addr other_addr id other same same_id = cc

peer-is : (peer : PeerPair) (addr : Addr) (id : ℕ) → peer.addr ≡ addr → peer.id ≡ id → peer ≡ record { addr = addr; id = id }
unfolding pair_of
peer-is peer addr id same same_id = pair-is peer.addr addr peer.id id same same_id

module _ {C : Type 0} (w : Ways C) where
  module _ (n : Network C) (size : ℕ) (has : HasLawfulRecords w n) (served : AreServed w size n) where
    came-there : (addr : Addr) (socket : Enrolled C) (stands : StandsAt has.net addr socket) (datagram : Datagram)
        → Contains (arrivals socket.history) datagram
        → CameThere w n.datagrams (has.among addr socket stands).socket.host (has.among addr socket stands).place datagram
    came-there addr socket stands datagram among =
        let is = has.among addr socket stands in
        (served.each is.place is.socket is.at).came datagram
        (subst (λ (h : History C). Contains (arrivals h) datagram) is.history_is among)

    was-said : (addr : Addr) (socket : Enrolled C) → StandsAt has.net addr socket → (datagram : Datagram)
        → Contains (arrivals socket.history) datagram → WasSaid w has.net datagram.addr addr datagram.bytes
    was-said addr socket stands datagram among =
        let is = has.among addr socket stands in
        let said = served.said _ (came-there addr socket stands datagram among).among in
        let there = has.stands said.place said.socket said.at in
        record {
          socket = enrolled_at said.place there.way said.socket;
          emission = said.emission;
          stands = subst (λ (a : Addr). StandsAt has.net a (enrolled_at said.place there.way said.socket)) said.host there.stands;
          emits = said.emits;
          sent_to = said.sent_to ∙ is.host_is;
          same = said.same;
        }

    network-near : AreNear w has.net size
    network-near = record {
      said = was-said;
      bound = λ addr socket stands datagram among packet reads plain.
          (came-there addr socket stands datagram among).bound packet reads plain ∙ sym (has.among addr socket stands).own_is;
      taken = λ addr socket stands. rw (has.among addr socket stands).history_is
          (served.each (has.among addr socket stands).place (has.among addr socket stands).socket
          (has.among addr socket stands).at).taken;
    }

  module _ (lawful : ScriptLawful w) (lines : List (List ℕ)) (few : size_of lines < 2 ^ 30) (emitted : AreEmitted lines) where
    abbrev n : Network C
    n = network_after w lines

    abbrev has : HasLawfulRecords w n
    has = lawful lines

    records-honest : IsHonest w has.net
    records-honest = near-honest w has.net (size_of lines) has.lawful few
        (network-near n (size_of lines) has (lines-served w lines emitted))

    peer-there : (place : ℕ) (socket : ScriptSocket C) (peer : PeerPair) → slice_get n.sockets place ≡ Some socket
        → own_peer w socket.history ≡ Some peer → HasHeard w socket.history → HasPeerThere w n place socket peer
    peer-there place socket peer at names heard =
        let there = has.stands place socket at in
        let met = mutual_adoption w has.net socket.host (enrolled_at place there.way socket) peer has.lawful records-honest
        there.stands names heard in
        let is = has.among peer.addr met.other met.stands in
        record {
          peer_place = is.place;
          other = is.socket;
          at = is.at;
          peer_is = peer-is peer is.socket.host (is.place + 1) (sym is.host_is) (sym met.own_is ∙ is.own_is);
          back = ap (own_peer w) (sym is.history_is) ∙ met.back;
          kind = ap (λ (h : History C). h.opening.kind) (sym is.history_is) ∙ met.kind;
          start = ap start_of (sym is.history_is) ∙ met.start;
          isn = met.isn ∙ ap (λ (h : History C). h.opening.isn) is.history_is;
          back_isn = ap (peer_isn w) (sym is.history_is) ∙ met.back_isn;
        }

    module _ (place peer_place : ℕ) (socket peer : ScriptSocket C) (at : slice_get n.sockets place ≡ Some socket)
        (peer_at : slice_get n.sockets peer_place ≡ Some peer)
        (names : own_peer w socket.history ≡ Some (record { addr = peer.host; id = peer_place + 1 })) where
      both-in_step : IsStream socket.history → AreInStep w socket.history peer.history
      both-in_step stream =
          let there = has.stands place socket at in
          let other = has.stands peer_place peer peer_at in
          prefix w has.net socket.host (enrolled_at place there.way socket) (enrolled_at peer_place other.way peer)
          (record { addr = peer.host; id = peer_place + 1 }) has.lawful records-honest there.stands stream names other.stands refl

      both-show : CarriesMessages socket.history → ShowsMessages w socket.history peer.history
      both-show carries =
          let there = has.stands place socket at in
          let other = has.stands peer_place peer peer_at in
          messages w has.net socket.host (enrolled_at place there.way socket) (enrolled_at peer_place other.way peer)
          (record { addr = peer.host; id = peer_place + 1 }) has.lawful records-honest there.stands carries names
          other.stands refl

  pub script_adoption : ScriptLawful w → ScriptAdoption w
  script_adoption lawful lines place socket peer few emitted at names heard =
      peer-there lawful lines few emitted place socket peer at names heard

  pub script_prefix : ScriptLawful w → ScriptPrefix w
  script_prefix lawful lines place peer_place socket peer few emitted at peer_at stream names =
      both-in_step lawful lines few emitted place peer_place socket peer at peer_at names stream

  pub script_messages : ScriptLawful w → ScriptMessages w
  script_messages lawful lines place peer_place socket peer few emitted at peer_at carries names =
      both-show lawful lines few emitted place peer_place socket peer at peer_at names carries
