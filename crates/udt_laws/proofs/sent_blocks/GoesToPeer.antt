-- What a socket emits goes to its own peer.
use Rattle.std.proofs.Common.{◌≡◌, ℕ, Some, Ok, sym, ap, ◌∙◌}
use Rattle.std.specs.List.{Contains}
use Rattle.udt_model.specs.declared.answers.Peer.{Peer}
use Rattle.udt_model.specs.Emissions.{emitted, sent}
use Rattle.udt_model.specs.Events.{at_moment}
use Rattle.udt_model.specs.History.{History, after_items, state_of}
use Rattle.udt_model.specs.Rate.{Ways}
use Rattle.udt_model.specs.Records.{own_peer}
use Rattle.udt_model.specs.State.{Datagram, Emission}
use Rattle.udt_model.specs.Wire.{Packet, destination, read, target}
use Rattle.udt_model.proofs.EmissionLemmas.{IsEmittedAt}
use Rattle.udt_model.proofs.RecordLemmas.{emitted-from_sent}
use Rattle.udt_model.proofs.WireLemmas.{target-of-read}
use Rattle.udt_laws.proofs.sent_blocks.SentBlocks.{same-packet, moment-at, emission-at, emission-reads}
use Rattle.udt_laws.proofs.sockets.Begins.{Begins, last_peer}
use Rattle.udt_laws.proofs.sockets.Opened.{names-peer}
use Rattle.udt_laws.proofs.sent_blocks.EmissionsRead.{packet_of, packet-dest}

module _ {C : Type 0} (w : Ways C) where
  -- what an emission reads as goes to the last peer
  pub record IsForPeer (h : History C) (emission : Emission) (packet : Packet) : Type 0 where
    pub reads : read emission.datagram.bytes ≡ Ok packet
    pub addr : emission.datagram.addr ≡ (state_of w h).peer.addr
    pub id : destination packet ≡ (state_of w h).peer.id

  module _ (h : History C) (begins : Begins w h) where
    pub emission-goes : (emission : Emission) (is : IsEmittedAt w h.opening h.items emission)
        → IsForPeer h emission (packet_of w (at_moment (after_items w h.opening is.front) is.item.event.now) is.item.event.act _ emission is.emitting)
    emission-goes emission is =
        let spelled = emission-reads w h begins emission is in
        let moment = moment-at w h begins emission is in
        let peer_is = moment.peer ∙ sym (last_peer w h begins) in
        record {
          reads = spelled.reads;
          addr = spelled.sent_to ∙ ap (λ (p : Peer). p.addr) peer_is;
          id = packet-dest w _ _ _ emission is.emitting moment.can ∙ ap (λ (p : Peer). p.id) peer_is;
        }

    pub goes-to_peer : (emission : Emission) (packet : Packet) → Contains (emitted w h) emission → read emission.datagram.bytes ≡ Ok packet
        → own_peer w h ≡ Some (record { addr = emission.datagram.addr; id = destination packet })
    goes-to_peer emission packet among reads =
        let goes = emission-goes emission (emission-at w h begins emission among) in
        let same = same-packet emission.datagram.bytes _ packet goes.reads reads in
        let peer_is = sym (last_peer w h begins) in
        names-peer w h emission.datagram.addr (destination packet) begins
        (ap (λ (p : Peer). p.addr) peer_is ∙ sym goes.addr)
        (ap (λ (p : Peer). p.id) peer_is ∙ sym goes.id ∙ ap destination same)

  -- each datagram that a history sent goes to its peer
  pub record GoesTo (h : History C) (datagram : Datagram) : Type 0 where
    pub addr : datagram.addr ≡ (state_of w h).peer.addr
    pub id : target datagram.bytes ≡ Some (state_of w h).peer.id

  pub sent-goes : (h : History C) (datagram : Datagram) → Begins w h → Contains (sent h) datagram → GoesTo h datagram
  sent-goes h datagram begins among =
      let is = emitted-from_sent w h.opening h.items datagram begins.legal among in
      let goes = emission-goes h begins is.emission (emission-at w h begins is.emission is.among) in
      let reads = ap (λ (d : Datagram). read d.bytes) (sym is.datagram_is) ∙ goes.reads in
      record {
        addr = ap (λ (d : Datagram). d.addr) (sym is.datagram_is) ∙ goes.addr;
        id = target-of-read datagram.bytes _ reads ∙ ap (λ (n : ℕ). Some n) goes.id;
      }
