-- Where records are lawful and honest, a stream socket and its own peer are in step, and a message socket shows what
-- its own peer was asked.
use Rattle.std.proofs.Common.{◌≡◌, ℕ, ◌+◌, ◌<◌, ◌≤◌, List, [], ◌∷◌, ◌++◌, Some, refl, ap, ◌∙◌, sym, subst, inl, inr, arith}
use Rattle.std.specs.Prelude.{slice_get}
use Rattle.std.specs.List.{Contains, concat}
use Rattle.udt_model.specs.declared.addresses.Addr.{Addr}
use Rattle.udt_model.specs.Emissions.{IsPrefix, emitted}
use Rattle.udt_model.specs.History.{ShownMessage, AskedMessage, History, start_of, accepted, delivered, acked, arrived, shown, placed_offsets, dropped_offsets}
use Rattle.udt_model.specs.Honest.{IsHonest}
use Rattle.udt_model.specs.Rate.{Ways}
use Rattle.udt_model.specs.Records.{Enrolled, EndpointRecord, StandsAt, own_peer, AreLawful}
use Rattle.udt_model.proofs.ReceivingLemmas.{AllFrom}
use Rattle.udt_laws.specs.Laws.{IsStream, CarriesMessages, AreInStep, Prefix, WasAsked, IsOrdered, ShowsMessages, Messages}
use Rattle.udt_laws.proofs.acked_has_arrived.AckedHasArrived.{prefix-arrived}
use Rattle.udt_laws.proofs.adoption.Agreement.{connects-part, parts-connected, part-comes}
use Rattle.udt_laws.proofs.adoption.Hears.{AllHear, acked-shows, all-meet, all-layout}
use Rattle.udt_laws.proofs.adoption.MutualAdoption.{part-hears}
use Rattle.udt_laws.proofs.adoption.NamesBack.{names-back}
use Rattle.udt_laws.proofs.adoption.PeersMeet.{Connects, stands-connects}
use Rattle.udt_laws.proofs.delivered_is_carried.DeliveredIsCarried.{begins_given_none}
use Rattle.udt_laws.proofs.delivered_is_carried.DeliversPlacedBlocks.{delivers-front_of}
use Rattle.udt_laws.proofs.delivered_prefix.DeliveredPrefix.{prefix-delivered}
use Rattle.udt_laws.proofs.laid_messages.Layout.{AreLaidOut}
use Rattle.udt_model.proofs.Members.{first-contained, none-contained}
use Rattle.udt_laws.proofs.laid_messages.PeerMessagesAlone.{peer-messages}
use Rattle.udt_laws.proofs.laid_messages.ShownMessages.{AreShownOf, shows-layout}
use Rattle.udt_laws.proofs.sockets.Begins.{begins_placed, begins_given}
use Rattle.udt_laws.proofs.sockets.ConnectedParts.{ConnectedPart, NeverConnected, part-acked, part-arrived, never-acked, never-emits}
use Rattle.udt_laws.proofs.sockets.OneSocket.{same-socket}
use Rattle.udt_laws.proofs.sockets.WasSaid.{AllSaid, honest-said}

-- ---- where no arrival may place a block

bytes-none : (some rest : List ℕ) → [] ≡ some ++ rest → some ≡ []
bytes-none [] rest is = refl
bytes-none (byte ∷ bytes) rest is = absurd (cc)

-- what is a front of no blocks has no bytes
blocks-none : (start : ℕ) (blocks : List (List ℕ)) (got : List ℕ) → AllFrom (λ offset payload. ⊥) start blocks
    → IsPrefix got (concat blocks)
    → got ≡ []
blocks-none start [] got each prefix = bytes-none got prefix.0 prefix.1
blocks-none start (block ∷ blocks) got each prefix = absurd each.0

-- and no message of no layout is shown
messages-none : (messages : List ShownMessage) → AreShownOf [] messages → messages ≡ []
messages-none [] of = refl
messages-none (message ∷ others) of =
    let whole = of.whole message (first-contained message others) in
    absurd (none-contained whole.laid whole.among)

module _ {C : Type 0} (w : Ways C) where
  module _ (h : History C) (since : ConnectedPart w h) (silent : AllHear w ⊥ since.part.opening since.part.items) where
    -- a socket that hears nothing delivers nothing
    silent-delivers : IsStream h → delivered h ≡ []
    silent-delivers stream =
        let part = since.part in
        let front = delivers-front_of w (λ offset payload. ⊥) (start_of part) part.opening part.items
        (since.name.kind ∙ stream) since.begins.legal
        (all-meet w ⊥ part.opening part.items silent) (begins_given_none w (λ offset payload. ⊥) part since.begins) in
        since.goes_on.delivered ∙ blocks-none (start_of part) front.blocks (delivered part) front.each front.front

    -- shows nothing
    silent-shows : CarriesMessages h → shown w h ≡ []
    unfolding AreLaidOut
    silent-shows carries =
        let part = since.part in
        let of = shows-layout 1 0 [] (omega arith) tt w part.opening part.items (since.name.kind ∙ carries)
        (record { placed = begins_placed w part since.begins; given = begins_given w part since.begins })
        since.begins.legal
        (all-layout w 1 [] part.opening part.items silent) in
        since.goes_on.shown ∙ messages-none (shown w part) of

    -- and has nothing acknowledged
    silent-acked : acked w h ≡ 0
    silent-acked = elim (acked-shows w ⊥ since.part.opening since.part.items silent) [
      | inl same ↦ omega (arith, same, part-acked w h since)
      | inr none ↦ absurd none
    ]

  -- where nothing is shown, no more has to be said than what is acknowledged
  nothing-shown : (h g : History C) → shown w h ≡ []
      → ((offset : ℕ) → start_of g ≤ offset → offset < start_of g + acked w g
      → Contains (placed_offsets w h ++ dropped_offsets w h) offset)
      → ShowsMessages w h g
  nothing-shown h g none acknowledged = record {
    whole = λ message there. absurd (none-contained message
        (subst (λ (l : List ShownMessage). Contains l message) none there));
    once = λ m n one another found found_too same.
        let is : slice_get [] m ≡ Some one = ap (λ (l : List ShownMessage). slice_get l m) (sym none) ∙ found in
        absurd (cc);
    in_order = λ m n one another less found found_too ordered ordered_too.
        let is : slice_get [] m ≡ Some one = ap (λ (l : List ShownMessage). slice_get l m) (sym none) ∙ found in
        absurd (cc);
    acknowledged = acknowledged;
  }

  -- nor where nothing is delivered and nothing acknowledged
  nothing-in_step : (h g : History C) → delivered h ≡ [] → acked w h ≡ 0 → AreInStep w h g
  nothing-in_step h g none zero_acked = record {
    prefix = (accepted g, rw none refl);
    acknowledged = omega
        (arith, zero_acked);
  }

  none-acknowledged : (h g : History C) → acked w g ≡ 0 → (offset : ℕ) → start_of g ≤ offset
      → offset < start_of g + acked w g
      → Contains (placed_offsets w h ++ dropped_offsets w h) offset
  none-acknowledged h g none offset low high = absurd (omega (arith, none, low, high))

  -- ---- what is said of the parts since two sockets were connected is said of their histories

  part-in_step : (h g : History C) (since : ConnectedPart w h) (other : ConnectedPart w g)
      → IsPrefix (delivered since.part) (accepted other.part)
      → acked w since.part ≤ arrived w other.part → AreInStep w h g
  part-in_step h g since other prefix acknowledged = record {
    prefix = subst (λ (bytes : List ℕ). IsPrefix bytes (accepted g)) (sym since.goes_on.delivered)
        (subst (IsPrefix (delivered since.part)) (sym other.goes_on.accepted) prefix);
    acknowledged = omega (arith, acknowledged, part-acked w h since, part-arrived w g other);
  }

  part-asked : (g : History C) (other : ConnectedPart w g) (message : ShownMessage) → WasAsked w other.part message
      → WasAsked w g message
  part-asked g other message was = record {
    asked_one = was.asked_one;
    among = subst (λ (l : List AskedMessage). Contains l was.asked_one) (sym other.goes_on.asked) was.among;
    at = was.at;
    same = λ another among. was.same another (subst (λ (l : List AskedMessage). Contains l another)
        other.goes_on.asked among);
  }

  part-ordered : (g : History C) (other : ConnectedPart w g) (first : ℕ) → IsOrdered w g first
      → IsOrdered w other.part first
  part-ordered g other first is = record {
    asked_one = is.asked_one;
    among = subst (λ (l : List AskedMessage). Contains l is.asked_one) other.goes_on.asked is.among;
    at = is.at;
    ordered = is.ordered;
  }

  part-shows : (h g : History C) (since : ConnectedPart w h) (other : ConnectedPart w g)
      → ShowsMessages w since.part other.part → ShowsMessages w h g
  part-shows h g since other shows =
      let found = λ (m : ℕ) (one : ShownMessage) (is : slice_get (shown w h) m ≡ Some one).
      ap (λ (l : List ShownMessage). slice_get l m) (sym since.goes_on.shown) ∙ is in
      record {
        whole = λ message there.
            part-asked g other message (shows.whole message (subst (λ (l : List ShownMessage). Contains l message)
            since.goes_on.shown there));
        once = λ m n one another is is_too same. shows.once m n one another (found m one is) (found n another is_too)
            same;
        in_order = λ m n one another less is is_too ordered ordered_too.
            shows.in_order m n one another less (found m one is) (found n another is_too)
            (part-ordered g other one.first ordered)
            (part-ordered g other another.first ordered_too);
        acknowledged = λ offset low high.
            let among = shows.acknowledged offset (omega (arith, low, other.same_start))
            (omega (arith, high, other.same_start, part-acked w g other)) in
            rw (since.goes_on.placed, since.goes_on.dropped) among;
      }

  -- ---- sockets of lawful and honest records

  module _ (net : List (EndpointRecord C)) (lawful : AreLawful w net) (honest : IsHonest w net) where
    said : AllSaid w net
    said = honest-said w net honest

    module _ (addr : Addr) (socket : Enrolled C) (here : StandsAt net addr socket) (at : Addr) (other : Enrolled C)
        (there : StandsAt net at other)
        (names : own_peer w socket.history ≡ Some (record { addr = at; id = other.own })) where
      -- a socket hears nothing of a peer that was never connected
      idle-silent : (mine : Connects w net here.endpoint socket) → NeverConnected w other.history
          → AllHear w ⊥ (connects-part w net lawful addr socket here mine).part.opening
          (connects-part w net lawful addr socket here mine).part.items
      idle-silent mine never =
          part-hears w net lawful said addr socket here at other.own names mine ⊥ honest (λ of.
          let same = same-socket w net lawful at of.other other of.there there of.own_is in
          never-emits w other.history never of.emission of.packet
          (subst (λ (x : Enrolled C). Contains (emitted w x.history) of.emission) same of.emits) of.reads of.plain)

      module _ (mine : Connects w net here.endpoint socket) (theirs : Connects w net there.endpoint other) where
        back : own_peer w other.history ≡ Some (record { addr = addr; id = socket.own })
        back = names-back w net lawful said addr socket here at other there names theirs

        both-in_step : IsStream socket.history → AreInStep w socket.history other.history
        both-in_step stream =
            let since = connects-part w net lawful addr socket here mine in
            let other_since = connects-part w net lawful at other there theirs in
            let are = parts-connected w net lawful said addr socket here at other there names back mine theirs in
            let comes = part-comes w net lawful said addr socket here at other there names back theirs in
            let so = since.goes_on.honest net addr (honest addr socket here) in
            let streams = since.name.kind ∙ stream in
            part-in_step socket.history other.history since other_since
            (prefix-delivered w net addr socket.own since.part at other.own other_since.part are comes so streams)
            (prefix-arrived w net addr socket.own since.part at other.own other_since.part are comes so streams)

        both-show : CarriesMessages socket.history → ShowsMessages w socket.history other.history
        both-show carries =
            let since = connects-part w net lawful addr socket here mine in
            let other_since = connects-part w net lawful at other there theirs in
            let are = parts-connected w net lawful said addr socket here at other there names back mine theirs in
            part-shows socket.history other.history since other_since
            (peer-messages w net addr socket.own since.part at other.own other_since.part are
            (part-comes w net lawful said addr socket here at other there names back theirs)
            (part-comes w net lawful said at other there addr socket here back names mine)
            (since.goes_on.honest net addr (honest addr socket here))
            (other_since.goes_on.honest net at (honest at other there))
            (since.name.kind ∙ carries))

      in_step : IsStream socket.history → AreInStep w socket.history other.history
      in_step stream =
          let h = socket.history in
          let g = other.history in
          elim (stands-connects w net lawful addr socket here) [
            | inl idle ↦ nothing-in_step h g idle.never.quiet.delivered (never-acked w h idle.never)
            | inr mine ↦ elim (stands-connects w net lawful at other there) [
              | inl idle ↦
                  let since = connects-part w net lawful addr socket here mine in
                  let silent = idle-silent mine idle.never in
                  nothing-in_step h g (silent-delivers h since silent stream) (silent-acked h since silent)
              | inr theirs ↦ both-in_step mine theirs stream
            ]
          ]

    module _ (addr : Addr) (socket : Enrolled C) (here : StandsAt net addr socket) (at : Addr) (other : Enrolled C)
        (there : StandsAt net at other)
        (names : own_peer w socket.history ≡ Some (record { addr = at; id = other.own })) where
      -- nothing of a socket is acknowledged whose peer was never connected
      idle-acked : NeverConnected w socket.history → acked w other.history ≡ 0
      idle-acked never =
          elim (stands-connects w net lawful at other there) [
            | inl idle ↦ never-acked w other.history idle.never
            | inr theirs ↦
                let back = names-back w net lawful said addr socket here at other there names theirs in
                silent-acked other.history (connects-part w net lawful at other there theirs)
                (idle-silent at other there addr socket here back theirs never)
          ]

      shows : CarriesMessages socket.history → ShowsMessages w socket.history other.history
      shows carries =
          let h = socket.history in
          let g = other.history in
          elim (stands-connects w net lawful addr socket here) [
            | inl idle ↦ nothing-shown h g idle.never.quiet.shown (none-acknowledged h g (idle-acked idle.never))
            | inr mine ↦ elim (stands-connects w net lawful at other there) [
              | inl idle ↦
                  let silent = idle-silent addr socket here at other there names mine idle.never in
                  nothing-shown h g (silent-shows h (connects-part w net lawful addr socket here mine) silent carries)
                  (none-acknowledged h g (never-acked w g idle.never))
              | inr theirs ↦ both-show addr socket here at other there names mine theirs carries
            ]
          ]

  pub prefix : Prefix w
  prefix net addr socket other peer lawful honest here stream names there own_is =
      in_step net lawful honest addr socket here peer.addr other there
      (subst (λ (n : ℕ). own_peer w socket.history ≡ Some (record { addr = peer.addr; id = n })) (sym own_is) names)
      stream

  pub messages : Messages w
  messages net addr socket other peer lawful honest here carries names there own_is =
      shows net lawful honest addr socket here peer.addr other there
      (subst (λ (n : ℕ). own_peer w socket.history ≡ Some (record { addr = peer.addr; id = n })) (sym own_is) names)
      carries
