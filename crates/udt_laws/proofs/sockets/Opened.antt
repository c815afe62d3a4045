-- Histories that begin as connected to each other, as those of two sockets that were made as a pair do.
use Rattle.std.proofs.Common.{◌≡◌, ℕ, true, Some, ap, ◌∙◌, sym, subst}
use Rattle.udt_model.specs.declared.addresses.Addr.{Addr}
use Rattle.udt_model.specs.declared.answers.Peer.{Peer}
use Rattle.udt_model.specs.declared.packets.Config.{Config}
use Rattle.udt_model.specs.History.{History, start_of, IsLegal}
use Rattle.udt_model.specs.Opening.{opening, IsOpening}
use Rattle.udt_model.specs.Rate.{Ways}
use Rattle.udt_model.specs.Records.{Way, PairedAt, IsWay, Enrolled, IsSocket, opened_by, ArePaired, PeerPair, own_peer}
use Rattle.udt_model.specs.State.{State}
use Rattle.udt_model.proofs.PeerLemmas.{has_peer}
use Rattle.udt_model.proofs.ShakeLemmas.{pair-same}
use Rattle.udt_model.proofs.SettlingLemmas.{IsFresh, opening-fresh}
use Rattle.udt_laws.proofs.sockets.Begins.{Begins, begins_names}

module _ {C : Type 0} (w : Ways C) where
  -- ---- openings

  module _ (own : ℕ) (config : Config) (peer : Peer) (now start : ℕ) (h : History C)
      (is : h.opening ≡ opening w own config peer now start) where
    pub opened_own : h.opening.own ≡ own
    unfolding opening
    opened_own = ap (λ (s : State C). s.own) is

    pub opened_kind : h.opening.kind ≡ config.kind
    unfolding opening
    opened_kind = ap (λ (s : State C). s.kind) is

    opened_isn : h.opening.isn ≡ peer.isn
    unfolding opening
    opened_isn = ap (λ (s : State C). s.isn) is

    pub opened_peer : h.opening.peer ≡ peer
    unfolding opening
    opened_peer = ap (λ (s : State C). s.peer) is

    pub opened_start : start_of h ≡ start
    unfolding opening
    opened_start = ap (λ (s : State C). s.sending.blocks.first) is

    somebody : has_peer h.opening.origin ≡ true
    unfolding opening
    somebody = ap (λ (s : State C). has_peer s.origin) is

    -- a history that begins with an opening as connected begins so
    pub opening-begins : IsOpening own config peer start → IsLegal w h → Begins w h
    opening-begins in_range legal = record {
      config = config;
      start = start;
      values = in_range.values.config_fits;
      own_fits = rw opened_own in_range.own_fits;
      id_fits = rw opened_peer in_range.id_fits;
      isn_fits = rw opened_isn in_range.isn_fits;
      payload = rw opened_peer in_range.values.peer_payload;
      somebody = somebody;
      fresh = subst (IsFresh w config start) (sym is) (opening-fresh w own config peer now start);
      legal = legal;
    }

  -- ---- pairs

  -- two histories begin as connected to each other: each has the other as its peer, and they begin with one number
  -- and at one offset in each direction
  pub record AreConnected (addr : Addr) (own : ℕ) (h : History C) (other_addr : Addr) (other_own : ℕ)
      (g : History C) : Type 0 where
    pub begins : Begins w h
    pub other_begins : Begins w g
    pub own_is : h.opening.own ≡ own
    pub other_own_is : g.opening.own ≡ other_own
    pub peer_addr : h.opening.peer.addr ≡ other_addr
    pub peer_id : h.opening.peer.id ≡ other_own
    pub back_addr : g.opening.peer.addr ≡ addr
    pub back_id : g.opening.peer.id ≡ own
    pub isn : h.opening.peer.isn ≡ g.opening.isn
    pub back_isn : g.opening.peer.isn ≡ h.opening.isn
    pub same_start : start_of g ≡ start_of h
    pub same_kind : g.opening.kind ≡ h.opening.kind

  pub connected-back : (addr : Addr) (own : ℕ) (h : History C) (other_addr : Addr) (other_own : ℕ) (g : History C)
      → AreConnected addr own h other_addr other_own g → AreConnected other_addr other_own g addr own h
  connected-back addr own h other_addr other_own g are = record {
    begins = are.other_begins;
    other_begins = are.begins;
    own_is = are.other_own_is;
    other_own_is = are.own_is;
    peer_addr = are.back_addr;
    peer_id = are.back_id;
    back_addr = are.peer_addr;
    back_id = are.peer_id;
    isn = are.back_isn;
    back_isn = are.isn;
    same_start = sym are.same_start;
    same_kind = sym are.same_kind;
  }

  -- a history that begins as connected names its peer so
  pub names-peer : (h : History C) (addr : Addr) (id : ℕ) → Begins w h → h.opening.peer.addr ≡ addr
      → h.opening.peer.id ≡ id
      → own_peer w h ≡ Some (record { addr = addr; id = id })
  names-peer h addr id begins addr_is id_is =
      begins_names w h begins
      ∙ ap (λ (p : PeerPair). Some p) (pair-same h.opening.peer.addr addr h.opening.peer.id id addr_is id_is)

  ways-connected : (addr : Addr) (own : ℕ) (way : Way) (h : History C) (other_addr : Addr) (other_own : ℕ)
      (other_way : Way) (g : History C)
      → ArePaired addr own way other_addr other_own other_way → IsWay own way → h.opening ≡ opened_by w own way
      → IsLegal w h
      → IsWay other_own other_way → g.opening ≡ opened_by w other_own other_way → IsLegal w g
      → AreConnected addr own h other_addr other_own g
  ways-connected addr own (PairedAt config peer now start) h other_addr other_own (PairedAt config' peer' now' start')
      g paired
      in_range is legal other_in_range other_is other_legal =
      let peer_is = opened_peer own config peer now start h is in
      let back_is = opened_peer other_own config' peer' now' start' g other_is in
      let other_isn = opened_isn other_own config' peer' now' start' g other_is in
      record {
        begins = opening-begins own config peer now start h is in_range legal;
        other_begins = opening-begins other_own config' peer' now' start' g other_is other_in_range other_legal;
        own_is = opened_own own config peer now start h is;
        other_own_is = opened_own other_own config' peer' now' start' g other_is;
        peer_addr = ap (λ (p : Peer). p.addr) peer_is ∙ paired.0;
        peer_id = ap (λ (p : Peer). p.id) peer_is ∙ paired.1;
        back_addr = ap (λ (p : Peer). p.addr) back_is ∙ paired.2;
        back_id = ap (λ (p : Peer). p.id) back_is ∙ paired.3;
        isn = ap (λ (p : Peer). p.isn) peer_is ∙ sym paired.5 ∙ sym other_isn;
        back_isn = ap (λ (p : Peer). p.isn) back_is ∙ paired.5 ∙ sym (opened_isn own config peer now start h is);
        same_start = opened_start other_own config' peer' now' start' g other_is ∙ paired.6
            ∙ sym (opened_start own config peer now start h is);
        same_kind = opened_kind other_own config' peer' now' start' g other_is ∙ paired.4
            ∙ sym (opened_kind own config peer now start h is);
      }
  ways-connected addr own _ h other_addr other_own _ g paired in_range is legal other_in_range other_is other_legal =
      absurd paired

  -- the histories of two sockets that were made as a pair begin so
  pub paired-connected : (addr : Addr) (socket : Enrolled C) (other_addr : Addr) (other : Enrolled C)
      → IsSocket w socket → IsSocket w other
      → ArePaired addr socket.own socket.way other_addr other.own other.way
      → AreConnected addr socket.own socket.history other_addr other.own other.history
  paired-connected addr socket other_addr other is other_is paired =
      ways-connected addr socket.own socket.way socket.history other_addr other.own other.way other.history paired
      is.in_range is.opened is.legal other_is.in_range other_is.opened other_is.legal
