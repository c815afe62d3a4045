-- What a stream socket delivers is made of what arrived from its own peer's address, however the socket was opened.
use Rattle.std.proofs.Common.{◌≡◌, ℕ, ◌+◌, ◌%◌, ◌^◌, List, [], refl, ap, ◌∙◌, sym, subst, inl, inr}
use Rattle.std.specs.List.{Contains}
use Rattle.std.proofs.lemmas.Option.{same_Some}
use Rattle.udt_model.specs.declared.addresses.Addr.{Addr}
use Rattle.udt_model.specs.declared.answers.Peer.{Peer}
use Rattle.udt_model.specs.Emissions.{arrivals, IsMadeOf}
use Rattle.udt_model.specs.History.{History, start_of, delivered}
use Rattle.udt_model.specs.Rate.{Ways}
use Rattle.udt_model.specs.Records.{PeerPair}
use Rattle.udt_model.specs.State.{State, Datagram}
use Rattle.udt_laws.specs.Laws.{OneHistory, IsStream, peer_isn}
use Rattle.udt_laws.proofs.sockets.Begins.{begins_names, last_peer}
use Rattle.udt_laws.proofs.sockets.ConnectedParts.{ConnectedPart, socket-parts, socket-own, part-peer}
use Rattle.udt_laws.proofs.delivered_is_carried.DeliveredIsCarried.{begins-made_of}

-- bytes that are made of some datagrams are made of more
made_of-more : (bytes : List ℕ) (some more : List Datagram) (id : ℕ) (addr : Addr) (isn : ℕ)
    → ((datagram : Datagram) → Contains some datagram → Contains more datagram) → IsMadeOf bytes some id addr isn
    → IsMadeOf bytes more id addr isn
made_of-more bytes some more id addr isn among made = record {
  payloads = made.payloads;
  carried = λ n payload found.
      let carried = made.carried n payload found in
      record {
        datagram = carried.datagram;
        flags = carried.flags;
        stamp = carried.stamp;
        among = among carried.datagram carried.among;
        from = carried.from;
        reads = carried.reads;
      };
  front = made.front;
}

made_of-none : (datagrams : List Datagram) (id : ℕ) (addr : Addr) (isn : ℕ) → IsMadeOf [] datagrams id addr isn
made_of-none datagrams id addr isn = record {
  payloads = [];
  carried = λ n payload found. absurd (cc);
  front =
      ([], refl);
}

module _ {C : Type 0} (w : Ways C) where
  part-made_of : (h : History C) (since : ConnectedPart w h) → IsStream h
      → IsMadeOf (delivered h) (arrivals h) h.opening.own since.part.opening.peer.addr
      ((peer_isn w h + start_of h) % 2 ^ 31)
  part-made_of h since stream =
      let part = since.part in
      let made = begins-made_of w part since.begins (since.name.kind ∙ stream) in
      let isn : part.opening.peer.isn ≡ peer_isn w h =
      ap (λ (p : Peer). p.isn) (sym (last_peer w part since.begins))
      ∙ ap (λ (s : State C). s.peer.isn) (sym since.goes_on.ends) in
      let all = made_of-more (delivered part) (arrivals part) (arrivals h) part.opening.own part.opening.peer.addr _
      since.goes_on.arrived made in
      let addr = part.opening.peer.addr in
      let number : (part.opening.peer.isn + start_of part) % 2 ^ 31 ≡ (peer_isn w h + start_of h) % 2 ^ 31 =
      ap (λ (n : ℕ). (n + start_of part) % 2 ^ 31) isn ∙ ap (λ (n : ℕ). (peer_isn w h + n) % 2 ^ 31) since.same_start in
      subst (λ (bytes : List ℕ). IsMadeOf bytes (arrivals h) h.opening.own addr
      ((peer_isn w h + start_of h) % 2 ^ 31)) (sym since.goes_on.delivered)
      (subst (λ (own : ℕ). IsMadeOf (delivered part) (arrivals h) own addr ((peer_isn w h + start_of h) % 2 ^ 31))
      since.name.own
      (subst (IsMadeOf (delivered part) (arrivals h) part.opening.own addr) number all))

  pub one_history : OneHistory w
  one_history socket pair is stream names = elim (socket-parts w socket is) [
    | inl never ↦ rw (never.quiet.delivered) (made_of-none (arrivals socket.history) socket.own pair.addr _)
    | inr since ↦
        let named = same_Some _ _ (sym (part-peer w socket.history since ∙ begins_names w since.part since.begins)
        ∙ names) in
        let addr : since.part.opening.peer.addr ≡ pair.addr = ap (λ (p : PeerPair). p.addr) named in
        rw (sym (socket-own w socket is), sym addr) (part-made_of socket.history since stream)
  ]
