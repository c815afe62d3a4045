-- What a socket emits for its peer goes to its own peer, and what tells of itself carries its own ID and initial
-- sequence number.
use Rattle.std.proofs.Common.{◌≡◌, ℕ, ◌^◌, ◌<◌, true, List, ◌∷◌, ◌++◌, Some, Ok, refl, ap, ◌∙◌, sym, subst, inl, inr, ◌⊎◌}
use Rattle.std.specs.List.{Contains}
use Rattle.udt_model.specs.declared.addresses.Addr.{Addr}
use Rattle.udt_model.specs.declared.answers.Origin.{Origin}
use Rattle.udt_model.specs.declared.answers.Origin.TheVariants as origin
use Rattle.udt_model.specs.declared.answers.Peer.{Peer}
use Rattle.udt_model.specs.declared.packets.Config.{Config}
use Rattle.udt_model.specs.declared.packets.Shake.{Shake}
use Rattle.udt_model.specs.Events.{Act, at_moment}
use Rattle.udt_model.specs.Handshakes.{asked, kind_number}
use Rattle.udt_model.specs.History.{Item, after_items}
use Rattle.udt_model.specs.Emissions.{emitted_by}
use Rattle.udt_model.specs.Opening.{opened, opening, IsOpening}
use Rattle.udt_model.specs.Rate.{Ways}
use Rattle.udt_model.specs.Records.{Way, Opened, Paired, PairedAt, IsWay, PeerPair, opened_by, peer_by, is_bound, names_sender}
use Rattle.udt_model.specs.State.{State, Emission}
use Rattle.udt_model.specs.Step.{step}
use Rattle.udt_model.specs.Wire.{Packet, Handshake, destination, read}
use Rattle.udt_model.proofs.EmissionLemmas.{emitted-at}
use Rattle.udt_model.proofs.HistoryLemmas.{after_items-append}
use Rattle.udt_model.proofs.PeerLemmas.{standing_of, KeepsPeer, IsIntroduced, IsKnown, config_by, start_by, has_peer, knows-speaks, way-known, step-known, step-keeps_peer, items-known, items-keep_peer, peer-introduced}
use Rattle.udt_model.proofs.SettlingLemmas.{IsShakeEmission}
use Rattle.udt_model.proofs.StepLemmas.{after_items-keeps_name}
use Rattle.udt_model.proofs.SpellingLemmas.{plain-no_shake, read-in_range, spelling-dest}
use Rattle.udt_model.proofs.HandshakeTells.{IsToPeer, Tells, emitting-cases, sends-tells, GoesToPeer, tells-bound, NamesOwn, tells-named}

-- ---- histories

module _ {C : Type 0} (w : Ways C) where
  pub after-front : (s : State C) (front : List Item) (item : Item) (rest : List Item)
      → after_items w s (front ++ item ∷ rest) ≡ after_items w (step w (after_items w s front) item.event).after rest
  unfolding after_items
  after-front s front item rest = after_items-append w s front (item ∷ rest)

  module _ (own : ℕ) (way : Way) (s : State C) (opened_so : s ≡ opened_by w own way) where
    -- the state after some items is known
    pub known-after : (items : List Item) → IsKnown w (config_by w way) (start_by w way) (after_items w s items)
    known-after items =
        items-known w (config_by w way) (start_by w way) s items
        (subst (IsKnown w (config_by w way) (start_by w way)) (sym opened_so) (way-known w own way))

    -- the peer after one of some items stays
    pub last-keeps : (front : List Item) (item : Item) (rest items : List Item) → items ≡ front ++ item ∷ rest
        → has_peer (step w (after_items w s front) item.event).after.origin ≡ true
        → KeepsPeer (step w (after_items w s front) item.event).after (after_items w s items)
    last-keeps front item rest items joined has =
        let t = (step w (after_items w s front) item.event).after in
        let known = (step-known w (config_by w way) (start_by w way) _ item.event (known-after front)).known in
        let kept = items-keep_peer w (config_by w way) (start_by w way) t rest known has in
        let last : after_items w s items ≡ after_items w t rest =
        ap (after_items w s) joined ∙ after-front s front item rest in
        record {
          peer = ap (λ (u : State C). u.peer) last ∙ kept.peer;
          origin = ap (λ (u : State C). u.origin) last ∙ kept.origin;
        }

-- the ID and the initial sequence number of a peer fit their places
pub record PeerFits (peer : Peer) : Type 0 where
  pub id : peer.id < 2 ^ 32
  pub isn : peer.isn < 2 ^ 31

module _ {C : Type 0} (w : Ways C) where
  introduced-fits : (s t : State C) (act : Act) → IsIntroduced s act t → PeerFits t.peer
  introduced-fits s t act introduced =
      let fits = (read-in_range introduced.raw introduced.stamp introduced.dest introduced.shake introduced.reads).0 in
      record {
        id = subst (λ (n : ℕ). n < 2 ^ 32) introduced.id fits.id;
        isn = subst (λ (n : ℕ). n < 2 ^ 31) introduced.isn fits.isn;
      }

  opened-fits : (own isn : ℕ) (config : Config) (now : ℕ) (items : List Item) (s : State C)
      → s ≡ opened w own isn config now
      → has_peer (after_items w s items).origin ≡ true → PeerFits (after_items w s items).peer
  unfolding opened
  opened-fits own isn config now items s is has =
      let known = subst (IsKnown w config 0) (sym is) (way-known w own (Opened isn config now)) in
      let at = peer-introduced w config 0 s items known (ap (λ (u : State C). has_peer u.origin) is) has in
      subst PeerFits (sym at.stays.peer) (introduced-fits _ _ _ at.introduced)

  opening-fits : (own : ℕ) (config : Config) (peer : Peer) (now start : ℕ) (items : List Item) (s : State C)
      → IsOpening own config peer start
      → s ≡ opening w own config peer now start → PeerFits (after_items w s items).peer
  unfolding opening
  opening-fits own config peer now start items s range is =
      let known = subst (IsKnown w config start) (sym is) (way-known w own (PairedAt config peer now start)) in
      let kept = items-keep_peer w config start s items known (ap (λ (u : State C). has_peer u.origin) is) in
      let last = kept.peer ∙ ap (λ (u : State C). u.peer) is in
      subst PeerFits (sym last) (record { id = range.id_fits; isn = range.isn_fits })

  -- the peer of a socket, however it was opened, fits its place
  pub peer-fits : (own : ℕ) (way : Way) (items : List Item) (s : State C) → IsWay own way → s ≡ opened_by w own way
      → has_peer (after_items w s items).origin ≡ true → PeerFits (after_items w s items).peer
  peer-fits own (Opened isn config now) items s range is has = opened-fits own isn config now items s is has
  peer-fits own (Paired config peer now) items s range is has = opening-fits own config peer now 0 items s range is
  peer-fits own (PairedAt config peer now start) items s range is has = opening-fits own config peer now start items s
      range is

module _ {C : Type 0} (w : Ways C) where
  -- a socket has the ID with which it was opened
  pub way-own : (own : ℕ) (way : Way) → (opened_by w own way).own ≡ own
  unfolding opened opening
  way-own own (Opened isn config now) = refl
  way-own own (Paired config peer now) = refl
  way-own own (PairedAt config peer now start) = refl

  -- which fits its place, and so does the initial sequence number
  way-fits : (own : ℕ) (way : Way) → IsWay own way → ((opened_by w own way).own < 2 ^ 32)
      × ((opened_by w own way).isn < 2 ^ 31)
  unfolding opened opening
  way-fits own (Opened isn config now) range = (range.own_fits, range.isn_fits)
  way-fits own (Paired config peer now) range = (range.own_fits, range.isn_fits)
  way-fits own (PairedAt config peer now start) range = (range.own_fits, range.isn_fits)

pair_from : Addr → ℕ → PeerPair
pair_from addr id = record { addr = addr; id = id }

pair_from-same : (a b : Addr) (m n : ℕ) → a ≡ b → m ≡ n → pair_from a m ≡ pair_from b n
pair_from-same a b m n addr id = cc

-- pairs of the same address and ID are the same
abbrev pub pair_of : Addr → ℕ → PeerPair
pair_of addr id = record { addr = addr; id = id }

pub pair-same : (a b : Addr) (m n : ℕ) → a ≡ b → m ≡ n → pair_of a m ≡ pair_of b n
unfolding pair_from
pair-same a b m n addr id = pair_from-same a b m n addr id

-- a socket that has a peer names it
pub has-names : (from : Origin) (peer : Peer) → has_peer from ≡ true → peer_by from peer
    ≡ Some (record { addr = peer.addr; id = peer.id })
has-names origin.Nobody peer has = absurd (cc)
has-names _ peer has = refl

module _ {C : Type 0} (w : Ways C) where
  goes-named : (t : State C) (emission : Emission) (packet : Packet) → GoesToPeer t emission packet
      → peer_by t.origin t.peer ≡ Some (record { addr = emission.datagram.addr; id = destination packet })
  unfolding pair_from
  goes-named t emission packet goes =
      has-names t.origin t.peer goes.has
      ∙ ap (λ (pair : PeerPair). Some pair)
      (pair_from-same t.peer.addr emission.datagram.addr t.peer.id (destination packet) (sym goes.addr) (sym goes.id))

  -- where a peer stays, what went to it goes to the last one
  goes-kept : (t u : State C) (emission : Emission) (packet : Packet) → KeepsPeer t u → GoesToPeer t emission packet
      → GoesToPeer u emission packet
  goes-kept t u emission packet kept goes = record {
    has = ap has_peer kept.origin ∙ goes.has;
    addr = goes.addr ∙ ap (λ (p : Peer). p.addr) (sym kept.peer);
    id = goes.id ∙ ap (λ (p : Peer). p.id) (sym kept.peer);
  }

  module _ (own : ℕ) (way : Way) (s : State C) (in_range : IsWay own way) (opened_so : s ≡ opened_by w own way) where
    -- what a handshake tells that was emitted with an item
    shake-at : (front : List Item) (item : Item) (emission : Emission)
        → (sent : IsShakeEmission (at_moment (after_items w s front) item.event.now) item.event.act emission)
        → Tells (at_moment (after_items w s front) item.event.now) (step w (after_items w s front) item.event).after
        sent.to sent.dest sent.shake
    unfolding step
    shake-at front item emission sent =
        let t = after_items w s front in
        let known = known-after w own way s opened_so front in
        sends-tells w (at_moment t item.event.now) item.event.act sent.to sent.dest sent.shake sent.sends known.knows
        (λ has.
        let kept = step-keeps_peer w (config_by w way) (start_by w way) t item.event known has in
        record { peer = kept.peer; origin = kept.origin })

    -- what was emitted with an item and is bound for the peer goes to the peer after it
    bound-at : (front : List Item) (item : Item) (emission : Emission) (packet : Packet)
        → IsToPeer (at_moment (after_items w s front) item.event.now) emission
        ⊎ IsShakeEmission (at_moment (after_items w s front) item.event.now) item.event.act emission
        → read emission.datagram.bytes ≡ Ok packet → is_bound packet ≡ true
        → (has_peer (step w (after_items w s front) item.event).after.origin ≡ true
        → (step w (after_items w s front) item.event).after.peer.id < 2 ^ 32)
        → GoesToPeer (step w (after_items w s front) item.event).after emission packet
    bound-at front item emission packet (inl sent) reads bound fits =
        let t = after_items w s front in
        let known = known-after w own way s opened_so front in
        let has = knows-speaks (standing_of t) t.phase known.knows sent.spoken in
        let kept = step-keeps_peer w (config_by w way) (start_by w way) t item.event known has in
        let t_fits = (peer-fits w own way front s in_range opened_so has).id in
        goes-kept t (step w t item.event).after emission packet kept (record {
          has = has;
          addr = sent.addr;
          id = spelling-dest sent.packet packet (subst (λ (n : ℕ). n < 2 ^ 32) (sym sent.dest) t_fits)
              (ap read (sym sent.bytes) ∙ reads) ∙ sent.dest;
        })
    bound-at front item emission packet (inr sent) reads bound fits =
        tells-bound (at_moment (after_items w s front) item.event.now) (step w (after_items w s front) item.event).after
        sent.to sent.dest sent.shake
        emission packet (shake-at front item emission sent) sent.is reads bound fits

    -- what some items emitted that is bound for the peer goes to the own peer
    pub bound-goes : (items : List Item) (emission : Emission) (packet : Packet)
        → Contains (emitted_by w s items) emission
        → read emission.datagram.bytes ≡ Ok packet → is_bound packet ≡ true
        → peer_by (after_items w s items).origin (after_items w s items).peer
        ≡ Some (record { addr = emission.datagram.addr; id = destination packet })
    bound-goes items emission packet among reads bound =
        let at = emitted-at w s items emission among in
        let t = (step w (after_items w s at.front) at.item.event).after in
        let fits : has_peer t.origin ≡ true → t.peer.id < 2 ^ 32 =
        λ has.
        let kept = last-keeps w own way s opened_so at.front at.item at.rest items at.joined has in
        subst (λ (p : Peer). p.id < 2 ^ 32) kept.peer
        (peer-fits w own way items s in_range opened_so (ap has_peer kept.origin ∙ has)).id in
        let goes =
        bound-at at.front at.item emission packet
        (emitting-cases w (at_moment (after_items w s at.front) at.item.event.now) at.item.event.act _ emission
        at.emitting) reads bound fits in
        goes-named (after_items w s items) emission packet
        (goes-kept t (after_items w s items) emission packet (last-keeps w own way s opened_so at.front at.item at.rest
        items at.joined
        goes.has) goes)

    -- a handshake that some items emitted and that tells whose it is carries the own ID and initial sequence number
    named-at : (front : List Item) (item : Item) (emission : Emission) (stamp dest : ℕ) (shake : Shake)
        → IsToPeer (at_moment (after_items w s front) item.event.now) emission
        ⊎ IsShakeEmission (at_moment (after_items w s front) item.event.now) item.event.act emission
        → read emission.datagram.bytes ≡ Ok (Handshake stamp dest shake) → names_sender dest (asked shake.ask) ≡ true
        → NamesOwn (after_items w s front).own (after_items w s front).isn (after_items w s front).kind shake
    named-at front item emission stamp dest shake (inl sent) reads names =
        absurd (plain-no_shake sent.packet stamp dest shake sent.plain (ap read (sym sent.bytes) ∙ reads))
    named-at front item emission stamp dest shake (inr sent) reads names =
        let t = after_items w s front in
        let name = after_items-keeps_name w s front in
        let fits = way-fits w own way in_range in
        tells-named (at_moment t item.event.now) (step w t item.event).after sent.to sent.dest sent.shake emission stamp
        dest shake
        (shake-at front item emission sent) sent.is reads names
        (subst (λ (n : ℕ). n < 2 ^ 32) (sym (name.own ∙ ap (λ (u : State C). u.own) opened_so)) fits.0)
        (subst (λ (n : ℕ). n < 2 ^ 31) (sym (name.isn ∙ ap (λ (u : State C). u.isn) opened_so)) fits.1)

    -- of all that they emitted
    pub shake-names : (items : List Item) (emission : Emission) (stamp dest : ℕ) (shake : Shake)
        → Contains (emitted_by w s items) emission
        → read emission.datagram.bytes ≡ Ok (Handshake stamp dest shake) → names_sender dest (asked shake.ask) ≡ true
        → (shake.id ≡ own) × (shake.isn ≡ s.isn)
    shake-names items emission stamp dest shake among reads names =
        let at = emitted-at w s items emission among in
        let named =
        named-at at.front at.item emission stamp dest shake
        (emitting-cases w (at_moment (after_items w s at.front) at.item.event.now) at.item.event.act _ emission
        at.emitting) reads names in
        let name = after_items-keeps_name w s at.front in
        (named.id ∙ name.own ∙ ap (λ (u : State C). u.own) opened_so ∙ way-own w own way, named.number ∙ name.isn)

    -- and tells what the socket carries
    pub shake-kind : (items : List Item) (emission : Emission) (stamp dest : ℕ) (shake : Shake)
        → Contains (emitted_by w s items) emission → read emission.datagram.bytes ≡ Ok (Handshake stamp dest shake)
        → names_sender dest (asked shake.ask) ≡ true → shake.kind ≡ kind_number s.kind
    shake-kind items emission stamp dest shake among reads names =
        let at = emitted-at w s items emission among in
        let named =
        named-at at.front at.item emission stamp dest shake
        (emitting-cases w (at_moment (after_items w s at.front) at.item.event.now) at.item.event.act _ emission
        at.emitting) reads names in
        named.kind ∙ ap kind_number (after_items-keeps_name w s at.front).kind
