-- A place was promised to a request: the listener as it is then, the socket that is made, and what is done with it.
use Rattle.std.proofs.Common.{◌≡◌, ℕ, ◌+◌, ◌%◌, ◌^◌, ◌<◌, ◌≤◌, ◌&&◌, Bool, true, false, List, [], ◌∷◌, ◌++◌, length, Some, None, Option, Ok, Err, refl, ap, ◌∙◌, sym, subst, arith, inl, inr, append_assoc}
use Rattle.std.specs.Prelude.{IsTrue, ◌↔◌, decimal, slice_get, slice_set, drop, nat_lt, vec_len, ◌⊎◌, if◌then◌else◌}
use Rattle.std.proofs.lemmas.Bool.{cases_lt, le-ltb, lt-ltb}
use Rattle.std.proofs.lemmas.List.{length-map, length-set, length_push}
use Rattle.std.proofs.lemmas.Option.{same_Some, slice_get_within}
use Rattle.udt_model.specs.declared.addresses.Addr.{Addr}
use Rattle.udt_model.specs.declared.answers.Heard.TheVariants as heard
use Rattle.udt_model.specs.declared.limits.TheConstants.{MOST_SOCKETS}
use Rattle.udt_model.specs.declared.packets.Config.{Config}
use Rattle.udt_model.specs.declared.packets.Malformed.TheVariants.{BadAckLength, BadDropLength, BadHandshakeLength, TooShort}
use Rattle.udt_model.specs.declared.packets.Shake.{Shake}
use Rattle.udt_model.specs.Addresses.{same_addr}
use Rattle.udt_model.specs.Connections.{config_of}
use Rattle.udt_model.specs.Events.{Arrive, DidHear, Event, Offer, Reply, Withdraw, event}
use Rattle.udt_model.specs.Handshakes as handshakes
use Rattle.udt_model.specs.History.{state_of}
use Rattle.udt_model.specs.Network as model
use Rattle.udt_model.specs.Network.{is_pair}
use Rattle.udt_model.specs.Opening.{opening}
use Rattle.udt_model.specs.Phases.{Backlog}
use Rattle.udt_model.specs.Phases as phase
use Rattle.udt_model.specs.Rate.{Ways}
use Rattle.udt_model.specs.Records.{PeerPair, peer_by}
use Rattle.udt_model.specs.Routes.{handshake_in}
use Rattle.udt_model.specs.Script.{Printed, and_then, arrived, event_at, event_there, followed_by, made_for, offered, with_socket}
use Rattle.udt_model.specs.State.{State}
use Rattle.udt_model.specs.Step.{step}
use Rattle.udt_model.specs.Wire.{ControlType, HandshakeType, KeepAliveType, AckType, NakType, ShutdownType, Ack2Type, DropAskType, NoType, Ack, DropAsk, Handshake, WireRange, ack_of, block_of, control_type, number_at, ranges_of, read, read_ack, read_control, read_drop, read_losses, read_shake, shake_of, type_of, word_at}
use Rattle.udt_laws.proofs.scripts.ReplacedOne.{set-other, set-same}
use Rattle.udt_script.specs.CodeAnswers.{reply_of}
use Rattle.udt_script.specs.declared.lines.Reply as code_answers
use Rattle.udt_script.specs.declared.lines.Reply.TheVariants as code
use Rattle.udt_world.specs.declared.network.Network.{Network}
use Rattle.udt_world.specs.declared.network.ScriptSocket.{ScriptSocket}
use Rattle.udt_world.specs.Done.{DoesLine}
use Rattle.udt_world.specs.Views.{HasEvent, RepliesTo, Shows, Sight, View, after_event, sight_of, sight_of_history, view_of}
use Rattle.udt_world.specs.Wiring.{FitsPhase, IsNew, IsWired, MayHappen, adopts, first_with, new_sight, peer_in, place_seen, sights_of}
use Rattle.udt_world.proofs.ArriveLemmas.{not_followed}
use Rattle.udt_world.proofs.EventLemmas.{event_shown, shown_at}
use Rattle.udt_world.proofs.FirstLemmas.{first-set}
use Rattle.udt_world.proofs.HeardLemmas.{KeepsOpening, promised-keeps}
use Rattle.udt_world.proofs.NewLemmas.{made-new, new_socket, opened-shown}
use Rattle.udt_world.proofs.NumberLemmas.{number_free}
use Rattle.udt_world.proofs.PushLemmas.{get-last, item_at}
use Rattle.udt_world.proofs.WiredLemmas.{sight-at}

-- ---- the initial sequence number of a handshake that was read

number-small : (place : ℕ) (bytes : List ℕ) → number_at place bytes < 2 ^ 31
number-small place bytes = omega arith

shake-small : (stamp dest : ℕ) (field : List ℕ) (shake : Shake) → handshake_in (read_shake stamp dest field) ≡ Some shake
    → shake.isn < 2 ^ 31
shake-small stamp dest field shake = by (nat_lt (length field) 48)
  where
    by : (b : Bool) → handshake_in (if b then Err BadHandshakeLength else Ok (Handshake stamp dest (shake_of field))) ≡ Some shake
        → shake.isn < 2 ^ 31
    by true is = absurd (cc)
    by false is =
        subst (λ (s : Shake). s.isn < 2 ^ 31) (same_Some (shake_of field) shake is) (number-small 8 field)

acks-none : (number stamp dest : ℕ) (field : List ℕ) → handshake_in (read_ack number stamp dest field) ≡ None
acks-none number stamp dest field = elim (nat_lt (length field) 4) as (λ b. handshake_in (if b then Err BadAckLength
    else Ok (Ack number stamp dest (ack_of field))) ≡ None) [
      | true ↦ refl
      | false ↦ refl
    ]

drops-none : (message stamp dest : ℕ) (field : List ℕ) → handshake_in (read_drop message stamp dest field) ≡ None
drops-none message stamp dest field = elim (nat_lt (length field) 8) as (λ b. handshake_in (if b then Err BadDropLength
    else Ok (DropAsk (message % 2 ^ 29) stamp dest (number_at 0 field) (number_at 4 field))) ≡ None) [
      | true ↦ refl
      | false ↦ refl
    ]

losses-none : (stamp dest : ℕ) (ranges : Option (List WireRange)) → handshake_in (read_losses stamp dest ranges) ≡ None
losses-none stamp dest None = refl
losses-none stamp dest (Some ranges) = refl

control-small : (type : ControlType) (info stamp dest : ℕ) (field : List ℕ) (shake : Shake)
    → handshake_in (read_control type info stamp dest field) ≡ Some shake → shake.isn < 2 ^ 31
unfolding read_control
control-small HandshakeType info stamp dest field shake is = shake-small stamp dest field shake is
control-small KeepAliveType info stamp dest field shake is = absurd (cc)
control-small AckType info stamp dest field shake is = let none = acks-none info stamp dest field in absurd (cc)
control-small NakType info stamp dest field shake is = let none = losses-none stamp dest (ranges_of field) in absurd (cc)
control-small ShutdownType info stamp dest field shake is = absurd (cc)
control-small Ack2Type info stamp dest field shake is = absurd (cc)
control-small DropAskType info stamp dest field shake is = let none = drops-none info stamp dest field in absurd (cc)
control-small NoType info stamp dest field shake is = absurd (cc)

-- it has 31 bits
pub isn-small : (bytes : List ℕ) (shake : Shake) → handshake_in (read bytes) ≡ Some shake → shake.isn < 2 ^ 31
unfolding read
isn-small bytes shake = by (nat_lt (length bytes) 16) (nat_lt (word_at 0 bytes) (2 ^ 31))
  where
    by : (short block : Bool) → handshake_in (if short then Err TooShort else (if block then Ok (block_of bytes)
        else read_control (control_type (type_of (word_at 0 bytes)))
        (word_at 4 bytes) (word_at 8 bytes) (word_at 12 bytes) (drop 16 bytes))) ≡ Some shake → shake.isn < 2 ^ 31
    by true block is = absurd (cc)
    by false true is = absurd (cc)
    by false false is =
        control-small (control_type (type_of (word_at 0 bytes))) (word_at 4 bytes) (word_at 8 bytes) (word_at 12 bytes)
        (drop 16 bytes) shake is

-- ---- answers

-- an answer of the code's that tells a promise
pub heard-request : (reply : code_answers.Reply) → reply_of reply ≡ DidHear heard.Request → reply ≡ code.Heard heard.Request
heard-request (code.Heard answer) is = let same : answer ≡ heard.Request = cc in ap code.Heard same
heard-request (code.Listened answer) is = absurd (cc)
heard-request (code.Connected answer) is = absurd (cc)
heard-request (code.Met answer) is = absurd (cc)
heard-request (code.Accepted answer) is = absurd (cc)
heard-request (code.Shaken answer) is = absurd (cc)
heard-request (code.Offered id taken) is = absurd (cc)
heard-request code.Withdrawn is = absurd (cc)
heard-request (code.Sent answer) is = absurd (cc)
heard-request (code.Received answer) is = absurd (cc)
heard-request (code.SentMessage answer) is = absurd (cc)
heard-request (code.ReceivedMessage answer) is = absurd (cc)
heard-request (code.Packed answer) is = absurd (cc)
heard-request code.Ticked is = absurd (cc)
heard-request code.Closed is = absurd (cc)
heard-request (code.Measured answer) is = absurd (cc)

-- ---- the listener

fits-alone : {C : Type 0} (s : State C) (b : Backlog) → s.phase ≡ phase.Listening b → FitsPhase s.phase s.origin s.peer
    → peer_by s.origin s.peer ≡ None
fits-alone s b listens fits =
    let nobody = rw listens at fits in
    ap (λ o. peer_by o s.peer) nobody

module _ {C : Type 0} (w : Ways C) (sights : List (Sight C)) (place now : ℕ) (from : Addr) (raw : List ℕ) (s : Sight C)
    (found : slice_get sights place ≡ Some s) (fits : FitsPhase s.state.phase s.state.origin s.state.peer)
    (promises : (step w s.state (event now (Arrive from raw))).reply ≡ DidHear heard.Request) where
  abbrev listening : Sight C
  listening = after_event w s (event now (Arrive from raw))

  keeps : KeepsOpening s.state (step w s.state (event now (Arrive from raw))).after
  keeps = promised-keeps w s.state now from raw promises

  nobody-before : peer_in s ≡ None
  nobody-before = fits-alone s.state keeps.backlog keeps.listens fits

  -- the listener has no peer once it promised the place
  pub nobody-after : peer_in listening ≡ None
  nobody-after = rw (keeps.origin, keeps.peer) nobody-before

  -- nor has any at its host adopted who asks
  pub unadopted-after : (shake : Shake) → handshake_in (read raw) ≡ Some shake → MayHappen sights place (Arrive from raw)
      → first_with (adopts s.host from shake.id) (slice_set sights place listening) ≡ None
  unadopted-after shake reads may =
      first-set (adopts s.host from shake.id) sights place s listening found
      (ap (λ (o : Option PeerPair). same_addr s.host s.host && is_pair from shake.id o) (nobody-after ∙ sym nobody-before))
      ∙ may.hears s from raw shake found refl reads nobody-before

  -- and it is configured as it was
  pub config-after : config_of listening.state ≡ config_of s.state
  config-after = keeps.config

module _ {C : Type 0} (w : Ways C) (old new : View C) (place now : ℕ) (from : Addr) (raw before after : List ℕ) (reply : Reply)
    (happens : HasEvent w place (event now (Arrive from raw)) old new before after)
    (replies : RepliesTo w place (event now (Arrive from raw)) reply old) (request : reply ≡ DidHear heard.Request)
    (fit : (p : ℕ) (s : Sight C) → slice_get old.sockets p ≡ Some s → FitsPhase s.state.phase s.state.origin s.state.peer)
    (t : Sight C) (at : slice_get new.sockets place ≡ Some t) where
  promised : (step w happens.sight.state (event now (Arrive from raw))).reply ≡ DidHear heard.Request
  promised = sym (replies happens.sight happens.found) ∙ request

  fitting : FitsPhase happens.sight.state.phase happens.sight.state.origin happens.sight.state.peer
  fitting = fit place happens.sight happens.found

  is_then : after_event w happens.sight (event now (Arrive from raw)) ≡ t
  is_then =
      same_Some _ _ (sym (ap (λ (l : List (Sight C)). slice_get l place) happens.sockets
      ∙ set-same old.sockets place happens.sight _ happens.found) ∙ at)

  -- who promised a place has no peer
  pub promised-nobody : peer_in t ≡ None
  promised-nobody =
      ap (λ (s : Sight C). peer_in s) (sym is_then)
      ∙ nobody-after w old.sockets place now from raw happens.sight happens.found fitting promised

  -- nor has any at its host adopted who asked
  pub promised-unadopted : (shake : Shake) → handshake_in (read raw) ≡ Some shake → MayHappen old.sockets place (Arrive from raw)
      → first_with (adopts t.host from shake.id) new.sockets ≡ None
  promised-unadopted shake reads may =
      ap (λ (s : Sight C). first_with (adopts s.host from shake.id) new.sockets) (sym is_then)
      ∙ (ap (first_with (adopts happens.sight.host from shake.id)) happens.sockets
      ∙ unadopted-after w old.sockets place now from raw happens.sight happens.found fitting promised shake reads may)

-- ---- the socket that is made

-- there are as many as are seen
pub count-seen : {C : Type 0} (network : Network C) → length (sights_of network) ≡ vec_len network.sockets
count-seen network = length-map network.sockets.items sight_of ∙ omega (arith, network.sockets.ok.0)

module _ {C : Type 0} (w : Ways C) (network : Network C) (wired : IsWired network) (place : ℕ) (listener made : ScriptSocket C)
    (there : slice_get network.sockets.items place ≡ Some listener) (nobody : peer_in (sight_of listener) ≡ None)
    (room : vec_len network.sockets < MOST_SOCKETS) (own : ℕ) (own_is : own ≡ vec_len network.sockets + 1)
    (config : Config) (from : Addr) (shake : Shake)
    (sight : sight_of made ≡ new_sight (decimal own) listener.host
    (opening w own config (handshakes.peer_in config from shake) 0 0)) where
  -- it may be added
  pub request-new : made.endpoint ≡ listener.endpoint
      → first_with (adopts listener.host from shake.id) (sights_of network) ≡ None → IsNew network made
  unfolding opening
  request-new end free =
      made-new network made listener.endpoint (decimal own) listener.host _ sight end (wired.stands place listener there) room
      (ap (λ (n : ℕ). place_seen (sights_of network) (decimal n)) own_is
      ∙ number_free network wired (vec_len network.sockets) (sym (count-seen network)))
      (inl (ap decimal own_is)) own_is refl refl free tt (record {
        first = λ is. let other = (wired.halves place (sight_of listener) (sight-at network place listener there)).first is in
            absurd (cc);
        second = λ is. let other = (wired.halves place (sight_of listener) (sight-at network place listener there)).second is in
            absurd (cc);
      })

-- and it has a peer
pub request-named : {C : Type 0} (w : Ways C) (made : ScriptSocket C) (name : List ℕ) (host : Addr) (own : ℕ) (config : Config)
    (from : Addr) (shake : Shake)
    → sight_of made ≡ new_sight name host (opening w own config (handshakes.peer_in config from shake) 0 0)
    → peer_in (sight_of made) ≡ Some (record { addr = from; id = shake.id })
unfolding opening
request-named w made name host own config from shake sight = ap (λ s. peer_in s) sight

-- ---- what may happen then

module _ {C : Type 0} (sights : List (Sight C)) where
  -- a socket may be offered
  pub may-offer : (place id : ℕ) → 0 < id → id ≤ length sights → MayHappen sights place (Offer id)
  may-offer place id some few = record {
    listens = λ s most secret at is. absurd (cc);
    meets = λ s to at is. absurd (cc);
    offers = λ other is. let same : id ≡ other = cc in (omega (arith, same, some), omega (arith, same, few));
    hears = λ s from bytes shake at is. absurd (cc);
  }

  -- one that has a peer may hear anything
  pub may-hear_named : (place : ℕ) (s : Sight C) (pair : PeerPair) (from : Addr) (bytes : List ℕ)
      → slice_get sights place ≡ Some s → peer_in s ≡ Some pair → MayHappen sights place (Arrive from bytes)
  may-hear_named place s pair from bytes at named = record {
    listens = λ s most secret at is. absurd (cc);
    meets = λ s to at is. absurd (cc);
    offers = λ other is. absurd (cc);
    hears = λ other addr text shake found is reads none.
        let same : s ≡ other = same_Some s other (sym at ∙ found) in
        let also : peer_in s ≡ None = ap (λ (x : Sight C). peer_in x) same ∙ none in
        absurd (cc);
  }

-- ---- where the sockets stand

-- where there is no room, there are as many as there may be
pub no-room : (b : Bool) (count : ℕ) → b ≡ false → IsTrue b ↔ (count + 1 ≤ MOST_SOCKETS) → MOST_SOCKETS ≤ count
no-room b count none room = elim (cases_lt count MOST_SOCKETS) [
  | inl few ↦ let so : b ≡ true = room.1 (omega (arith, few)) in absurd (cc)
  | inr many ↦ many
]

last-after : {C : Type 0} (sights : List (Sight C)) (place : ℕ) (last next : Sight C) → place < length sights
    → slice_get (slice_set (sights ++ last ∷ []) place next) (length sights) ≡ Some last
last-after sights place last next within =
    set-other (sights ++ last ∷ []) place (length sights) next (λ same. omega (arith, same, within))
    ∙ get-last sights last (length sights) refl

module _ {C : Type 0} where
  -- what is seen of a new socket, by what it was made of
  pub seen-made : (made : ScriptSocket C) (text name : List ℕ) (host : Addr) (state known : State C)
      → sight_of made ≡ new_sight text host state → text ≡ name → state ≡ known → sight_of made ≡ new_sight name host known
  seen-made made text name host state known seen name_is state_is =
      seen ∙ (ap (λ (l : List ℕ). new_sight l host state) name_is ∙ ap (new_sight name host) state_is)

  module _ (old mid : Network C) (made : ScriptSocket C)
      (added : view_of mid ≡ record (view_of old) { sockets = sights_of old ++ sight_of made ∷ [] }) where
    sights-more : sights_of mid ≡ sights_of old ++ sight_of made ∷ []
    sights-more = ap (λ (v : View C). v.sockets) added

    -- there is one socket more
    pub count-more : vec_len mid.sockets ≡ vec_len old.sockets + 1
    count-more =
        sym (count-seen mid) ∙ (ap length sights-more ∙ (length_push (sights_of old) (sight_of made)
        ∙ ap (λ (k : ℕ). k + 1) (count-seen old)))

    -- and it is the last one still once another had an event
    pub last-seen : (new : Network C) (place : ℕ) (next : Sight C) → place < vec_len old.sockets
        → sights_of new ≡ slice_set (sights_of mid) place next
        → slice_get (sights_of new) (vec_len old.sockets) ≡ Some (sight_of made)
    last-seen new place next within moved =
        ap (λ (l : List (Sight C)). slice_get l (vec_len old.sockets))
        (moved ∙ ap (λ (l : List (Sight C)). slice_set l place next) sights-more)
        ∙ subst (λ (k : ℕ). slice_get (slice_set (sights_of old ++ sight_of made ∷ []) place next) k ≡ Some (sight_of made))
        (count-seen old) (last-after (sights_of old) place (sight_of made) next (omega (arith, within, count-seen old)))

  -- an event leaves as many
  pub count-kept : (old new : Network C) (place : ℕ) (next : Sight C) → sights_of new ≡ slice_set (sights_of old) place next
      → vec_len new.sockets ≡ vec_len old.sockets
  count-kept old new place next moved =
      sym (count-seen new) ∙ (ap length moved ∙ (length-set (sights_of old) place next ∙ count-seen old))

-- ---- what is done is what the definitions say

module _ {C : Type 0} (w : Ways C) where
  -- what was printed is that of these, and they leave what is shown
  abbrev pub Does : Printed C → View C → List ℕ → List ℕ → Type 0
  Does printed new before after = Shows w printed.network new × (after ≡ before ++ printed.text)

  -- a socket that is there has its event
  pub there-does : (n : model.Network C) (place : ℕ) (happens : Event) (old new : View C) (before after : List ℕ) → Shows w n old
      → HasEvent w place happens old new before after → Does (event_there w n place happens) new before after
  there-does n place happens old new before after shows h =
      let count : length old.sockets ≡ length n.sockets =
      ap length shows.sockets_are ∙ length-map n.sockets (sight_of_history w) in
      let known = item_at n.sockets place (omega (arith, count, slice_get_within old.sockets place h.sight h.found)) in
      rw known.1 (event_shown w n place known.0 happens old new before after shows known.1 h)

  -- one thing after another
  pub then-does : (first : Printed C) (next : model.Network C → Printed C) (mid new : View C) (before between after : List ℕ)
      → Does first mid before between → Does (next first.network) new between after → Does (and_then first next) new before after
  then-does first next mid new before between after one other = (
    other.0,
    other.1 ∙ (ap (λ (l : List ℕ). l ++ (next first.network).text) one.1
        ∙ append_assoc before first.text (next first.network).text),
  )

  module _ (n : model.Network C) (now place : ℕ) (listener : model.ScriptSocket C) (datagram : model.ScriptDatagram)
      (shake : Shake) (old : View C) (shows : Shows w n old) where
    shown_count : length n.sockets ≡ length old.sockets
    shown_count = sym (ap length shows.sockets_are ∙ length-map n.sockets (sight_of_history w))

    -- there is no room, and the promise is taken back
    pub withdraw-does : (new : View C) (before after : List ℕ) → MOST_SOCKETS ≤ length old.sockets
        → HasEvent w place (event now Withdraw) old new before after
        → DoesLine w n (Some (offered w n now place listener datagram shake)) true new before after
    withdraw-does new before after full happens =
        rw (le-ltb (length n.sockets) MOST_SOCKETS (omega (arith, full, shown_count)))
        (there-does n place (event now Withdraw) old new before after shows happens)

    -- there is, and a socket is made, offered and given the request
    pub offer-does : (s : Sight C) (mid next new : View C) (count : ℕ) (before between after : List ℕ)
        → listener.host ≡ s.host → config_of (state_of w listener.history) ≡ config_of s.state
        → count ≡ length old.sockets → count < MOST_SOCKETS
        → mid ≡ record old {
          sockets = old.sockets ++ new_sight (decimal (count + 1)) s.host (opening w (count + 1) (config_of s.state)
              (handshakes.peer_in (config_of s.state) datagram.from shake) 0 0) ∷ [];
        }
        → HasEvent w place (event now (Offer (count + 1))) mid next before between
        → HasEvent w count (event now (Arrive datagram.from datagram.bytes)) next new between after
        → DoesLine w n (Some (offered w n now place listener datagram shake)) true new before after
    offer-does s mid next new count before between after host config count_is room added offers hears =
        let same : length n.sockets ≡ count = shown_count ∙ sym count_is in
        let state : ℕ → Config → State C =
        λ k c. opening w (k + 1) c (handshakes.peer_in c datagram.from shake) 0 0 in
        let made : made_for w n listener datagram.from shake
        ≡ new_socket w (decimal (count + 1)) s.host (state count (config_of s.state)) =
        ap (λ (k : ℕ). new_socket w (decimal (k + 1)) listener.host (state k (config_of (state_of w listener.history)))) same
        ∙ (ap (λ (a : Addr). new_socket w (decimal (count + 1)) a (state count (config_of (state_of w listener.history)))) host
        ∙ ap (λ (c : Config). new_socket w (decimal (count + 1)) s.host (state count c)) config) in
        let first : Shows w (with_socket n (made_for w n listener datagram.from shake)) mid =
        subst (λ (x : model.ScriptSocket C). Shows w (with_socket n x) mid) (sym made)
        (opened-shown w n old mid (decimal (count + 1)) s.host (state count (config_of s.state)) shows added) in
        let offering : Event = event now (Offer (length n.sockets + 1)) in
        let arrival : Event = event now (Arrive datagram.from datagram.bytes) in
        let m = event_there w (with_socket n (made_for w n listener datagram.from shake)) place offering in
        let second : Does m next before between =
        there-does (with_socket n (made_for w n listener datagram.from shake)) place offering mid next before between first
        (subst (λ (k : ℕ). HasEvent w place (event now (Offer (k + 1))) mid next before between) (sym same) offers) in
        let third : Does (event_there w m.network (length n.sockets) arrival) new between after =
        there-does m.network (length n.sockets) arrival next new between after second.0
        (subst (λ (k : ℕ). HasEvent w k arrival next new between after) (sym same) hears) in
        rw (lt-ltb (length n.sockets) MOST_SOCKETS (omega (arith, same, room)))
        (then-does m (λ (k : model.Network C). event_there w k (length n.sockets) arrival) next new before between after
        second third)

  module _ (n : model.Network C) (now place : ℕ) (socket : model.ScriptSocket C) (datagram : model.ScriptDatagram)
      (old mid : View C) (before between : List ℕ) (shows : Shows w n old)
      (there : slice_get n.sockets place ≡ Some socket)
      (happens : HasEvent w place (event now (Arrive datagram.from datagram.bytes)) old mid before between) where
    abbrev arrival : Event
    arrival = event now (Arrive datagram.from datagram.bytes)

    same : happens.sight ≡ sight_of_history w socket
    same = shown_at w n old place happens.sight socket shows happens.found there

    reply_same : (step w (state_of w socket.history) arrival).reply ≡ (step w happens.sight.state arrival).reply
    reply_same = ap (λ (s : Sight C). (step w s.state arrival).reply) (sym same)

    heard-shown : Does (event_at w n place socket arrival) mid before between
    heard-shown = event_shown w n place socket arrival old mid before between shows there happens

    unfollowed : (shake : Option Shake)
        → (shake ≡ None) ⊎ ((step w happens.sight.state arrival).reply ≡ DidHear heard.Request → ⊥)
        → followed_by w (event_at w n place socket arrival) now place socket datagram shake
        (step w (state_of w socket.history) arrival).reply ≡ event_at w n place socket arrival
    unfollowed None why = refl
    unfollowed (Some shake) (inl none) = absurd (cc)
    unfollowed (Some shake) (inr other) =
        not_followed w (event_at w n place socket arrival) now place socket datagram (Some shake)
        (step w (state_of w socket.history) arrival).reply (λ is. other (sym reply_same ∙ is))

    -- no place was promised
    pub arrival-does : (handshake_in (read datagram.bytes) ≡ None)
        ⊎ ((step w happens.sight.state arrival).reply ≡ DidHear heard.Request → ⊥)
        → DoesLine w n (Some (arrived w n now datagram (model.ToSocket place socket))) true mid before between
    arrival-does why =
        subst (λ (printed : Printed C). Does printed mid before between)
        (sym (unfollowed (handshake_in (read datagram.bytes)) why))
        heard-shown

    -- a place was, and what follows is done
    pub request-does : (shake : Shake) (new : View C) (after : List ℕ)
        → FitsPhase happens.sight.state.phase happens.sight.state.origin happens.sight.state.peer
        → handshake_in (read datagram.bytes) ≡ Some shake
        → (step w happens.sight.state arrival).reply ≡ DidHear heard.Request
        → ((m : model.Network C) (listener : model.ScriptSocket C) (s : Sight C) → Shows w m mid
        → slice_get mid.sockets place ≡ Some s → listener.host ≡ s.host
        → config_of (state_of w listener.history) ≡ config_of s.state
        → DoesLine w m (Some (offered w m now place listener datagram shake)) true new between after)
        → DoesLine w n (Some (arrived w n now datagram (model.ToSocket place socket))) true new before after
    request-does shake new after fits reads promises follows =
        let first = event_at w n place socket arrival in
        let next = after_event w happens.sight arrival in
        let at : slice_get mid.sockets place ≡ Some next =
        ap (λ (l : List (Sight C)). slice_get l place) happens.sockets
        ∙ set-same old.sockets place happens.sight next happens.found in
        let host : socket.host ≡ next.host = ap (λ (s : Sight C). s.host) (sym same) in
        let config : config_of (state_of w socket.history) ≡ config_of next.state =
        ap (λ (s : Sight C). config_of s.state) (sym same)
        ∙ sym (config-after w old.sockets place now datagram.from datagram.bytes happens.sight happens.found fits promises) in
        let second = follows first.network socket next heard-shown.0 at host config in
        rw (reads, reply_same ∙ promises)
        (then-does first (λ (m : model.Network C). offered w m now place socket datagram shake) mid new before between after
        heard-shown second)
