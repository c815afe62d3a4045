-- The history of a socket since it was connected, which begins as connected: all of it, where the socket was opened
-- so, and else what follows the handshake that connected it. Before, nothing is taken or given, and no more than
-- handshakes are emitted.
use Rattle.std.proofs.Common.{◌≡◌, ℕ, ◌^◌, ◌<◌, ◌≤◌, true, false, List, ◌∷◌, ◌++◌, length, Ok, refl, ap, ◌∙◌, sym, subst, inl}
use Rattle.std.proofs.Common.{inr, ◌⊎◌, arith}
use Rattle.std.specs.List.{Contains}
use Rattle.udt_model.specs.declared.answers.Heard.TheVariants as heard
use Rattle.udt_model.specs.declared.answers.Origin.{Origin}
use Rattle.udt_model.specs.declared.answers.Peer.{Peer}
use Rattle.udt_model.specs.declared.packets.Config.{Config}
use Rattle.udt_model.specs.Counted.{on_control}
use Rattle.udt_model.specs.Emissions.{emitted}
use Rattle.udt_model.specs.Events.{Outcome, at_moment}
use Rattle.udt_model.specs.History.{Item, History, after_items, state_of, start_of, IsLegal, acked, arrived, gapless}
use Rattle.udt_model.specs.History.{placed_offsets}
use Rattle.udt_model.specs.Opening.{connected, opened, opening, IsOpened, IsOpening}
use Rattle.udt_model.specs.Phases as phase
use Rattle.udt_model.specs.Rate.{Ways}
use Rattle.udt_model.specs.Records.{Way, Opened, Paired, PairedAt, IsWay, opened_by, Enrolled, IsSocket, peer_by, own_peer}
use Rattle.udt_model.specs.SendHalf.{Sending}
use Rattle.udt_model.specs.State.{State, Emission}
use Rattle.udt_model.specs.Step.{step}
use Rattle.udt_model.specs.Wire.{Packet, is_handshake, read}
use Rattle.udt_model.proofs.ConnectedBy.{opened-met}
use Rattle.udt_model.proofs.HistoryLemmas.{after_items-append}
use Rattle.udt_model.proofs.PeerLemmas.{IsKnown, has_peer, way-known, items-known}
use Rattle.udt_model.proofs.PhaseLemmas.{speaks}
use Rattle.udt_model.proofs.SettlingLemmas.{IsHandshake, AreQuiet, GoesOnAs, goes_on, IsConnectedAt, items-begin, opened-unlinked}
use Rattle.udt_model.proofs.ShakeLemmas.{peer-fits, way-own}
use Rattle.udt_model.proofs.SpellingLemmas.{read-shake_spelling}
use Rattle.udt_model.proofs.StepLemmas.{KeepsName, same_name, step-keeps_name, after_items-keeps_name}
use Rattle.udt_model.proofs.UnlinkedLemmas.{IsUnlinked}
use Rattle.udt_laws.proofs.sockets.Begins.{Begins}
use Rattle.udt_laws.proofs.sockets.IdleFronts.{AreIdle, front-idle, front-unlinked, unlinked-uncontrolled, Within, Beyond, splits-meet}
use Rattle.udt_laws.proofs.sockets.Opened.{opening-begins}
use Rattle.udt_laws.proofs.sockets.SuitedPeers.{AgreesIn, items-agree, unlinked-some, IsSuited, links-suited}

-- what is emitted as a handshake is read as nothing else
pub emitted-handshake : (emission : Emission) (packet : Packet) → IsHandshake emission
    → read emission.datagram.bytes ≡ Ok packet
    → is_handshake packet ≡ true
emitted-handshake emission packet is reads =
    let told = read-shake_spelling is.stamp is.dest is.shake packet
    (ap (λ (e : Emission). read e.datagram.bytes) (sym is.is) ∙ reads) in
    ap is_handshake told.is

module _ {C : Type 0} (w : Ways C) where
  -- ---- since a socket was connected

  -- a state to which the first items of a history lead
  pub record IsFrontOf (part : History C) (s : State C) : Type 0 where
    pub front : List Item
    pub rest : List Item
    pub joined : part.items ≡ front ++ rest
    pub leads : s ≡ after_items w part.opening front

  -- the part of a history since the socket was connected. The first items of the history lead to idle halves, or to where
  -- the first ones of the part do
  pub record ConnectedPart (h : History C) : Type 0 where
    pub part : History C
    pub begins : Begins w part
    pub goes_on : GoesOnAs w h.opening h.items part.opening part.items
    pub name : KeepsName h.opening part.opening
    pub same_start : start_of part ≡ start_of h
    pub fronts : (front rest : List Item) → h.items ≡ front ++ rest
        → AreIdle w (start_of h) (after_items w h.opening front) ⊎ IsFrontOf part (after_items w h.opening front)

  -- a socket that was never connected
  pub record NeverConnected (h : History C) : Type 0 where
    pub config : Config
    pub quiet : AreQuiet w h.opening h.items
    pub begins : IsUnlinked w config 0 h.opening
    pub still : IsUnlinked w config 0 (state_of w h)
    pub begun : start_of h ≡ 0

  -- ---- a socket that was opened as connected

  -- a history that begins as connected is that part as a whole
  pub begins-part : (h : History C) → Begins w h → ConnectedPart h
  begins-part h begins = record {
    part = h;
    begins = begins;
    goes_on = goes_on w h.opening h.items begins.legal;
    name = same_name h.opening;
    same_start = refl;
    fronts = λ front rest joined. inr (record { front = front; rest = rest; joined = joined; leads = refl });
  }

  opening-part : (own : ℕ) (config : Config) (peer : Peer) (now start : ℕ) (h : History C)
      → IsOpening own config peer start
      → h.opening ≡ opening w own config peer now start → IsLegal w h → ConnectedPart h
  opening-part own config peer now start h in_range is legal =
      begins-part h (opening-begins w own config peer now start h is in_range legal)

  -- ---- a socket that was opened without a connection

  pub linked-peer : (s : State C) (peer : Peer) (from_whom : Origin) (emissions : List Emission) (outcome : Outcome C)
      → outcome ≡ on_control (connected w s peer from_whom) heard.Connected emissions → outcome.after.peer ≡ peer
  linked-peer s peer from_whom emissions outcome is = ap (λ (o : Outcome C). o.after.peer) is

  module _ (own isn : ℕ) (config : Config) (now : ℕ) (h : History C) (in_range : IsOpened own isn config)
      (is : h.opening ≡ opened w own isn config now) (legal : IsLegal w h) where
    pub opened_name : h.opening.own ≡ own
    unfolding opened
    opened_name = ap (λ (s : State C). s.own) is

    opened_number : h.opening.isn ≡ isn
    unfolding opened
    opened_number = ap (λ (s : State C). s.isn) is

    pub opened_start : start_of h ≡ 0
    unfolding opened
    opened_start = ap (λ (s : State C). s.sending.blocks.first) is

    opened_agrees : AgreesIn h.opening.phase
    unfolding opened
    opened_agrees = subst (λ (s : State C). AgreesIn s.phase) (sym is) tt

    pub begins_unlinked : IsUnlinked w config 0 h.opening
    begins_unlinked = subst (IsUnlinked w config 0) (sym is) (opened-unlinked w own isn config now)

    -- the handshake that connects it suits
    pub suited : (at : IsConnectedAt w config 0 h.opening h.items)
        → IsSuited (at_moment (after_items w h.opening at.front) at.item.event.now) at.linked.raw at.linked.peer
    suited at =
        let t = after_items w h.opening at.front in
        let way = Opened isn config now in
        let begun = subst (IsKnown w config 0) (sym is) (way-known w own way) in
        let known = items-known w config 0 h.opening at.front begun in
        let agrees = items-agree w config 0 h.opening at.front in_range.values.payload begun opened_agrees in
        links-suited w (at_moment t at.item.event.now) at.linked.from at.linked.raw at.linked.peer at.linked.from_whom
        at.linked.emissions
        (unlinked-some w config 0 t in_range.values.payload at.unlinked) known.knows agrees at.linked.links

    -- what follows the handshake that connects it
    abbrev since_item : IsConnectedAt w config 0 h.opening h.items → History C
    since_item at = record { opening = (step w (after_items w h.opening at.front) at.item.event).after; items = at.rest }

    -- before that the halves are idle
    idle_front : (front rest first : List Item) → IsUnlinked w config 0 (after_items w h.opening first)
        → first ≡ front ++ rest → AreIdle w (start_of h) (after_items w h.opening front)
    idle_front front rest first unlinked same =
        let last = subst (λ (l : List Item). IsUnlinked w config 0 (after_items w h.opening l)) same unlinked in
        let idle = front-idle w config 0 h.opening front rest begins_unlinked
        (unlinked-uncontrolled w config 0 (after_items w h.opening (front ++ rest)) last) in
        subst (λ (n : ℕ). AreIdle w n (after_items w h.opening front)) (sym opened_start) idle

    connected_fronts : (at : IsConnectedAt w config 0 h.opening h.items) (front rest : List Item) → h.items ≡ front ++ rest
        → AreIdle w (start_of h) (after_items w h.opening front) ⊎ IsFrontOf (since_item at) (after_items w h.opening front)
    unfolding after_items
    connected_fronts at front rest joined =
        elim (splits-meet front rest at.front at.item at.rest (sym joined ∙ at.joined)) [
          | Within more is ↦ inl (idle_front front more at.front at.unlinked is)
          | Beyond more is others ↦ inr (record {
            front = more;
            rest = rest;
            joined = others;
            leads = ap (after_items w h.opening) is ∙ after_items-append w h.opening at.front (at.item ∷ more);
          })
        ]

    pub connected_part : IsConnectedAt w config 0 h.opening h.items → ConnectedPart h
    connected_part at =
        let t = after_items w h.opening at.front in
        let next = (step w t at.item.event).after in
        let front_name = after_items-keeps_name w h.opening at.front in
        let one_name = step-keeps_name w t at.item.event in
        let name : KeepsName h.opening next = record {
          own = one_name.own ∙ front_name.own;
          kind = one_name.kind ∙ front_name.kind;
          isn = one_name.isn ∙ front_name.isn;
          opened = one_name.opened ∙ front_name.opened;
        } in
        let met = opened-met w own isn config now h.opening in_range is h.items at in
        let fits = peer-fits w own (Opened isn config now) h.items h.opening in_range is met.has in
        let peer_is = linked-peer (at_moment t at.item.event.now) at.linked.peer at.linked.from_whom
        at.linked.emissions _ at.linked.outcome_is in
        record {
          part = record { opening = next; items = at.rest };
          begins = record {
            config = config;
            start = 0;
            values = in_range.values;
            own_fits = rw (name.own, opened_name) in_range.own_fits;
            id_fits = subst (λ (p : Peer). p.id < 2 ^ 32) met.stays.peer fits.id;
            isn_fits = rw (name.isn, opened_number) in_range.isn_fits;
            payload = subst (λ (p : Peer). 1 ≤ p.payload) (sym peer_is) (suited at).payload;
            somebody = ap has_peer (sym met.stays.origin) ∙ met.has;
            fresh = at.fresh;
            legal = at.goes_on.legal;
          };
          goes_on = at.goes_on;
          name = name;
          same_start = ap (λ (sending : Sending C). sending.blocks.first) at.fresh.sending ∙ sym opened_start;
          fronts = connected_fronts at;
        }

    opened-parts : NeverConnected h ⊎ ConnectedPart h
    opened-parts = elim (items-begin w config 0 h.opening h.items begins_unlinked legal) [
      | inl never ↦ inl (record {
        config = config;
        quiet = never.1;
        begins = begins_unlinked;
        still = never.0;
        begun = opened_start;
      })
      | inr at ↦ inr (connected_part at)
    ]

  -- ---- sockets

  way-parts : (own : ℕ) (way : Way) (h : History C) → IsWay own way → h.opening ≡ opened_by w own way → IsLegal w h
      → NeverConnected h ⊎ ConnectedPart h
  way-parts own (Opened isn config now) h in_range is legal = opened-parts own isn config now h in_range is legal
  way-parts own (Paired config peer now) h in_range is legal = inr
      (opening-part own config peer now 0 h in_range is legal)
  way-parts own (PairedAt config peer now start) h in_range is legal = inr
      (opening-part own config peer now start h in_range is legal)

  -- a socket was never connected, or its history goes on as one that begins as connected
  pub socket-parts : (socket : Enrolled C) → IsSocket w socket
      → NeverConnected socket.history ⊎ ConnectedPart socket.history
  socket-parts socket is = way-parts socket.own socket.way socket.history is.in_range is.opened is.legal

  pub socket-own : (socket : Enrolled C) → IsSocket w socket → socket.history.opening.own ≡ socket.own
  socket-own socket is = ap (λ (s : State C). s.own) is.opened ∙ way-own w socket.own socket.way

  -- ---- what is the same since then

  module _ (h : History C) (since : ConnectedPart h) where
    pub part-peer : own_peer w h ≡ own_peer w since.part
    part-peer = ap (λ (s : State C). peer_by s.origin s.peer) since.goes_on.ends

    pub part-acked : acked w h ≡ acked w since.part
    part-acked = omega (arith, ap (λ (s : State C). s.sending.blocks.first) since.goes_on.ends, since.same_start)

    pub part-arrived : arrived w h ≡ arrived w since.part
    part-arrived =
        ap (λ (offsets : List ℕ). gapless (length offsets) (start_of h) offsets) since.goes_on.placed
        ∙ ap (λ (n : ℕ). gapless (length (placed_offsets w since.part)) n (placed_offsets w since.part))
        (sym since.same_start)

    -- what is emitted and is no handshake was emitted since then
    pub part-emitted : (emission : Emission) (packet : Packet) → Contains (emitted w h) emission
        → read emission.datagram.bytes ≡ Ok packet
        → is_handshake packet ≡ false → Contains (emitted w since.part) emission
    part-emitted emission packet among reads plain = elim (since.goes_on.emitted emission among) [
      | inl shakes ↦ let is = emitted-handshake emission packet shakes reads in absurd (cc)
      | inr later ↦ later
    ]

  module _ (h : History C) (never : NeverConnected h) where
    -- no items of it lead to a connection
    pub never-stands : (front rest : List Item) → h.items ≡ front ++ rest
        → (after_items w h.opening front).phase ≡ phase.Connected → ⊥
    never-stands front rest joined stands =
        let none = unlinked-uncontrolled w never.config 0 (state_of w h) never.still in
        let before = front-unlinked w never.config 0 h.opening front rest never.begins
        (ap (λ (items : List Item). (after_items w h.opening items).sending.control) (sym joined) ∙ none) in
        let mute = ap speaks (sym stands) ∙ before.mute in
        absurd (cc)

    -- a socket that was never connected has nothing acknowledged
    pub never-acked : acked w h ≡ 0
    never-acked = omega (arith, ap (λ (sending : Sending C). sending.blocks.first) never.still.sending, never.begun)

    -- and emits no more than handshakes
    pub never-emits : (emission : Emission) (packet : Packet) → Contains (emitted w h) emission
        → read emission.datagram.bytes ≡ Ok packet
        → is_handshake packet ≡ false → ⊥
    never-emits emission packet among reads plain =
        let is = emitted-handshake emission packet (never.quiet.emitted emission among) reads in
        cc
