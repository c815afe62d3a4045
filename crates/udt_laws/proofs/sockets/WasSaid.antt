-- Who emitted what arrived, and what this tells of it, where records are lawful. How near it lies to where it is read
-- isn't asked.
use Rattle.std.proofs.Common.{◌≡◌, ℕ, true, List, [], ◌∷◌, ◌++◌, Some, Ok, ap, ◌∙◌, sym, subst, inl, inr}
use Rattle.std.specs.List.{Contains}
use Rattle.std.proofs.lemmas.List.Elements.{Contains-append_left, Contains-append_right, Contains-append_cases, Contains-push}
use Rattle.udt_model.specs.declared.addresses.Addr.{Addr}
use Rattle.udt_model.specs.declared.packets.Shake.{Shake}
use Rattle.udt_model.specs.Emissions.{emitted, arrived_by_act, arrived_by, arrivals}
use Rattle.udt_model.specs.Events.{Act, Arrive}
use Rattle.udt_model.specs.Handshakes.{asked, kind_number}
use Rattle.udt_model.specs.History.{Item}
use Rattle.udt_model.specs.Honest.{WasEmitted, IsHonestAct, AreHonest, IsHonest}
use Rattle.udt_model.specs.Rate.{Ways}
use Rattle.udt_model.specs.Records.{Enrolled, EndpointRecord, StandsAt, is_bound, names_sender, own_peer, AreLawful}
use Rattle.udt_model.specs.State.{State, Datagram, Emission}
use Rattle.udt_model.specs.Step.{step}
use Rattle.udt_model.specs.Wire.{Packet, Handshake, destination, read}
use Rattle.udt_model.proofs.RecordLemmas.{arrived_by-append}
use Rattle.udt_model.proofs.ShakeLemmas.{shake-kind}
use Rattle.udt_model.proofs.Members.{contained-cases, none-contained}

-- a datagram from an address
abbrev pub datagram_from : Addr → List ℕ → Datagram
datagram_from from raw = record { addr = from; bytes = raw }

-- what an act brings arrives with the items that it is among
arrives-with : (item : Item) (rest : List Item) (from : Addr) (raw : List ℕ) → item.event.act ≡ Arrive from raw
    → Contains (arrived_by (item ∷ rest)) (datagram_from from raw)
unfolding arrived_by
arrives-with item rest from raw is =
    Contains-append_left (arrived_by_act item.event.act) (arrived_by rest) (datagram_from from raw)
    (subst (λ (act : Act). Contains (arrived_by_act act) (datagram_from from raw)) (sym is)
    (Contains-push [] (datagram_from from raw)))

pub arrives-at : (front : List Item) (item : Item) (rest items : List Item) (from : Addr) (raw : List ℕ)
    → items ≡ front ++ item ∷ rest
    → item.event.act ≡ Arrive from raw → Contains (arrived_by items) (datagram_from from raw)
arrives-at front item rest items from raw joined is =
    let split = ap arrived_by joined ∙ arrived_by-append front (item ∷ rest) in
    subst (λ (all : List Datagram). Contains all (datagram_from from raw)) (sym split)
    (Contains-append_right (arrived_by front) (arrived_by (item ∷ rest)) (datagram_from from raw)
    (arrives-with item rest from raw is))

pub arrives-among : (items : List Item) (item : Item) (from : Addr) (raw : List ℕ) → Contains items item
    → item.event.act ≡ Arrive from raw
    → Contains (arrived_by items) (datagram_from from raw)
unfolding arrived_by
arrives-among [] item from raw among is = absurd (none-contained item among)
arrives-among (first ∷ others) item from raw among is = elim (contained-cases first others item among) [
  | inl same ↦ arrives-with first others from raw (ap (λ (i : Item). i.event.act) same ∙ is)
  | inr later ↦ Contains-append_right (arrived_by_act first.event.act) (arrived_by others) (datagram_from from raw)
      (arrives-among others item from raw later is)
]

module _ {C : Type 0} (w : Ways C) where
  -- these bytes from this address were emitted there, to the other address
  pub record WasSaid (net : List (EndpointRecord C)) (from to : Addr) (bytes : List ℕ) : Type 0 where
    pub socket : Enrolled C
    pub emission : Emission
    pub stands : StandsAt net from socket
    pub emits : Contains (emitted w socket.history) emission
    pub sent_to : emission.datagram.addr ≡ to
    pub same : emission.datagram.bytes ≡ bytes

  pub emitted-said : (net : List (EndpointRecord C)) (s : State C) (from to : Addr) (bytes : List ℕ)
      → WasEmitted w net s from to bytes
      → WasSaid net from to bytes
  emitted-said net s from to bytes was = record {
    socket = was.socket;
    emission = was.emission;
    stands = was.stands;
    emits = was.emits;
    sent_to = ap (λ (d : Datagram). d.addr) was.datagram;
    same = ap (λ (d : Datagram). d.bytes) was.datagram;
  }

  -- all that arrived at the sockets of these records was so emitted
  abbrev pub AllSaid : List (EndpointRecord C) → Type 0
  AllSaid net =
      (addr : Addr) (socket : Enrolled C) → StandsAt net addr socket → (datagram : Datagram)
      → Contains (arrivals socket.history) datagram
      → WasSaid net datagram.addr addr datagram.bytes

  -- as it is where they are honest
  act-said : (net : List (EndpointRecord C)) (addr : Addr) (s : State C) (act : Act) (datagram : Datagram)
      → IsHonestAct w net addr s act
      → Contains (arrived_by_act act) datagram → WasSaid net datagram.addr addr datagram.bytes
  act-said net addr s (Arrive from bytes) datagram honest among = elim
      (contained-cases (datagram_from from bytes) [] datagram among) [
        | inl same ↦ subst (λ (d : Datagram). WasSaid net d.addr addr d.bytes) same
            (emitted-said net s from addr bytes honest)
        | inr none ↦ absurd (none-contained datagram none)
      ]
  act-said net addr s _ datagram honest among = absurd (none-contained datagram among)

  items-said : (net : List (EndpointRecord C)) (addr : Addr) (s : State C) (items : List Item) (datagram : Datagram)
      → AreHonest w net addr s items
      → Contains (arrived_by items) datagram → WasSaid net datagram.addr addr datagram.bytes
  unfolding AreHonest arrived_by
  items-said net addr s [] datagram honest among = absurd (none-contained datagram among)
  items-said net addr s (item ∷ items) datagram honest among =
      elim (Contains-append_cases (arrived_by_act item.event.act) (arrived_by items) datagram among) [
        | inl here ↦ act-said net addr s item.event.act datagram honest.0 here
        | inr later ↦ items-said net addr (step w s item.event).after items datagram honest.1 later
      ]

  pub honest-said : (net : List (EndpointRecord C)) → IsHonest w net → AllSaid net
  honest-said net honest addr socket here datagram among =
      items-said net addr socket.history.opening socket.history.items datagram (honest addr socket here) among

  module _ (net : List (EndpointRecord C)) (lawful : AreLawful w net) (from to : Addr) (bytes : List ℕ)
      (was : WasSaid net from to bytes) where
    -- what is bound for the emitter's peer tells of its own peer
    pub said-bound : (packet : Packet) → read bytes ≡ Ok packet → is_bound packet ≡ true
        → own_peer w was.socket.history ≡ Some (record { addr = to; id = destination packet })
    said-bound packet reads bound =
        subst (λ (a : Addr). own_peer w was.socket.history ≡ Some (record { addr = a; id = destination packet }))
        was.sent_to
        ((lawful.each was.stands.endpoint was.stands.among).addressed was.socket was.emission packet
        was.stands.enrolled was.emits (ap read was.same ∙ reads) bound)

    module _ (stamp dest : ℕ) (shake : Shake) (reads : read bytes ≡ Ok (Handshake stamp dest shake))
        (names : names_sender dest (asked shake.ask) ≡ true) where
      -- and a handshake that tells whose it is, of its ID, its initial sequence number and what it carries
      pub said-own : (shake.id ≡ was.socket.own) × (shake.isn ≡ was.socket.history.opening.isn)
      said-own =
          (lawful.each was.stands.endpoint was.stands.among).named was.socket was.emission stamp dest shake
          was.stands.enrolled was.emits
          (ap read was.same ∙ reads) names

      pub said-kind : shake.kind ≡ kind_number was.socket.history.opening.kind
      said-kind =
          let is = (lawful.each was.stands.endpoint was.stands.among).sockets was.socket was.stands.enrolled in
          shake-kind w was.socket.own was.socket.way was.socket.history.opening is.in_range is.opened
          was.socket.history.items was.emission
          stamp dest shake was.emits (ap read was.same ∙ reads) names
