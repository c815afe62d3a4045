-- Two sockets that were made as a pair have lawful records.
use Rattle.std.proofs.Common.{◌≡◌, List, [], ◌∷◌, Some, refl, ap, ◌∙◌, sym, subst, ◌⊎◌, inl, inr, arith}
use Rattle.std.specs.List.{Contains}
use Rattle.std.proofs.lemmas.List.Elements.{Contains-append_left, Contains-append_right, Contains-append_cases, Contains-push, Contains-push_cases}
use Rattle.udt_model.specs.declared.addresses.Addr.{Addr}
use Rattle.udt_model.specs.Wire.{destination}
use Rattle.udt_model.specs.Rate.{Ways}
use Rattle.udt_model.specs.Records.{Way, PairedAt, Enrolled, IsSocket, EndpointRecord, StandsAt, ArePaired, IsAsked, IsLawful, AreLawful, own_peer}
use Rattle.udt_model.specs.Emissions.{emitted}
use Rattle.udt_model.specs.Honest.{AreHonest, IsHonest}
use Rattle.udt_laws.specs.Laws.{both_records}
use Rattle.udt_laws.proofs.sent_blocks.SocketsSend.{addressed, named}
use Rattle.udt_laws.proofs.sockets.OneSocket.{paired-back}

module _ {C : Type 0} (w : Ways C) where
  only-socket : (first other : Enrolled C) → Contains (first ∷ []) other → first ≡ other
  only-socket first other among = elim (Contains-push_cases [] first other among) [ inl none ↦ absurd (omega (arith, none.1)) | inr same ↦ same ]

  only-endpoint : (first other : EndpointRecord C) → Contains (first ∷ []) other → first ≡ other
  only-endpoint first other among = elim (Contains-push_cases [] first other among) [ inl none ↦ absurd (omega (arith, none.1)) | inr same ↦ same ]

  -- a socket that was made as a pair may be opened so
  paired-asked : (net : List (EndpointRecord C)) (endpoint : EndpointRecord C) (socket : Enrolled C) (other_addr : Addr) (other : Enrolled C) (way : Way)
      → socket.way ≡ way → StandsAt net other_addr other → ArePaired endpoint.addr socket.own way other_addr other.own other.way
      → IsAsked net endpoint socket way
  paired-asked net endpoint socket other_addr other (PairedAt config peer now start) is stands paired = record {
    other_addr = other_addr;
    other = other;
    stands = stands;
    paired = subst (λ (way : Way). ArePaired endpoint.addr socket.own way other_addr other.own other.way) (sym is) paired;
  }
  paired-asked net endpoint socket other_addr other _ is stands paired = absurd paired

  -- the record of an endpoint with one socket, whose other half stands in the records
  lone-lawful : (net : List (EndpointRecord C)) (addr : Addr) (socket : Enrolled C) (other_addr : Addr) (other : Enrolled C) → IsSocket w socket
      → StandsAt net other_addr other → ArePaired addr socket.own socket.way other_addr other.own other.way
      → IsLawful w net (record { addr = addr; sockets = socket ∷ [] })
  lone-lawful net addr socket other_addr other in_range stands paired = record {
    sockets = λ one among. subst (IsSocket w) (only-socket socket one among) in_range;
    ids = λ one two first second own. sym (only-socket socket one first) ∙ only-socket socket two second;
    peers = λ one two peer first second a b. sym (only-socket socket one first) ∙ only-socket socket two second;
    addressed = λ one emission packet among emits reads bound.
        let same = only-socket socket one among in
        let mine = subst (λ (x : Enrolled C). Contains (emitted w x.history) emission) (sym same) emits in
        subst (λ (x : Enrolled C). own_peer w x.history ≡ Some (record { addr = emission.datagram.addr; id = destination packet }))
        same (addressed w socket emission packet in_range mine reads bound);
    named = λ one emission stamp dest shake among emits reads names.
        let same = only-socket socket one among in
        let mine = subst (λ (x : Enrolled C). Contains (emitted w x.history) emission) (sym same) emits in
        subst (λ (x : Enrolled C). (shake.id ≡ x.own) × (shake.isn ≡ x.history.opening.isn))
        same (named w socket emission stamp dest shake in_range mine reads names);
    met = λ one among. subst (λ (x : Enrolled C). IsAsked net (record { addr = addr; sockets = socket ∷ [] }) x x.way) (only-socket socket one among)
        (paired-asked net (record { addr = addr; sockets = socket ∷ [] }) socket other_addr other socket.way refl stands paired);
  }

  module _ (addr other_addr : Addr) (socket other : Enrolled C) where
    abbrev pub first_record : EndpointRecord C
    first_record = record { addr = addr; sockets = socket ∷ [] }

    abbrev pub second_record : EndpointRecord C
    second_record = record { addr = other_addr; sockets = other ∷ [] }

    which : (endpoint : EndpointRecord C) → Contains (both_records addr socket other_addr other) endpoint
        → (first_record ≡ endpoint) ⊎ (second_record ≡ endpoint)
    which endpoint among =
        elim (Contains-append_cases (first_record ∷ []) (second_record ∷ []) endpoint among) [
          | inl first ↦ inl (only-endpoint first_record endpoint first)
          | inr second ↦ inr (only-endpoint second_record endpoint second)
        ]

    pub stands_first : StandsAt (both_records addr socket other_addr other) addr socket
    stands_first = record {
      endpoint = first_record;
      among = Contains-append_left (first_record ∷ []) (second_record ∷ []) first_record (Contains-push [] first_record);
      addr_is = refl;
      enrolled = Contains-push [] socket;
    }

    pub stands_second : StandsAt (both_records addr socket other_addr other) other_addr other
    stands_second = record {
      endpoint = second_record;
      among = Contains-append_right (first_record ∷ []) (second_record ∷ []) second_record (Contains-push [] second_record);
      addr_is = refl;
      enrolled = Contains-push [] other;
    }

    both-lawful : (addr ≡ other_addr → ⊥) → IsLawful w (both_records addr socket other_addr other) first_record
        → IsLawful w (both_records addr socket other_addr other) second_record → AreLawful w (both_records addr socket other_addr other)
    both-lawful apart first second = record {
      each = λ endpoint among. elim (which endpoint among) [
        | inl is ↦ subst (IsLawful w (both_records addr socket other_addr other)) is first
        | inr is ↦ subst (IsLawful w (both_records addr socket other_addr other)) is second
      ];
      addresses = λ one two a b same. elim (which one a) [
        | inl is ↦ elim (which two b) [
          | inl is_too ↦ sym is ∙ is_too
          | inr other_is ↦ absurd (apart (ap (λ (e : EndpointRecord C). e.addr) is ∙ same ∙ sym (ap (λ (e : EndpointRecord C). e.addr) other_is)))
        ]
        | inr is ↦ elim (which two b) [
          | inl other_is ↦ absurd (apart (ap (λ (e : EndpointRecord C). e.addr) other_is ∙ sym same ∙ sym (ap (λ (e : EndpointRecord C). e.addr) is)))
          | inr is_too ↦ sym is ∙ is_too
        ]
      ];
    }

    pub both-honest : AreHonest w (both_records addr socket other_addr other) addr socket.history.opening socket.history.items
        → AreHonest w (both_records addr socket other_addr other) other_addr other.history.opening other.history.items
        → IsHonest w (both_records addr socket other_addr other)
    both-honest first second at one stands =
        elim (which stands.endpoint stands.among) [
          | inl is ↦
              let same = only-socket socket one (subst (λ (e : EndpointRecord C). Contains e.sockets one) (sym is) stands.enrolled) in
              let addr_is = ap (λ (e : EndpointRecord C). e.addr) is ∙ stands.addr_is in
              subst (λ (a : Addr). AreHonest w (both_records addr socket other_addr other) a one.history.opening one.history.items) addr_is
              (subst (λ (x : Enrolled C). AreHonest w (both_records addr socket other_addr other) addr x.history.opening x.history.items) same first)
          | inr is ↦
              let same = only-socket other one (subst (λ (e : EndpointRecord C). Contains e.sockets one) (sym is) stands.enrolled) in
              let addr_is = ap (λ (e : EndpointRecord C). e.addr) is ∙ stands.addr_is in
              subst (λ (a : Addr). AreHonest w (both_records addr socket other_addr other) a one.history.opening one.history.items) addr_is
              (subst (λ (x : Enrolled C). AreHonest w (both_records addr socket other_addr other) other_addr x.history.opening x.history.items) same second)
        ]

  -- so the records of a pair are lawful
  pub pair-lawful : (addr other_addr : Addr) (socket other : Enrolled C) → (addr ≡ other_addr → ⊥) → IsSocket w socket → IsSocket w other
      → ArePaired addr socket.own socket.way other_addr other.own other.way → AreLawful w (both_records addr socket other_addr other)
  pair-lawful addr other_addr socket other apart in_range other_in paired =
      let net = both_records addr socket other_addr other in
      both-lawful addr other_addr socket other apart
      (lone-lawful net addr socket other_addr other in_range (stands_second addr other_addr socket other) paired)
      (lone-lawful net other_addr other addr socket other_in (stands_first addr other_addr socket other)
      (paired-back addr socket.own socket.way other_addr other.own other.way paired))
