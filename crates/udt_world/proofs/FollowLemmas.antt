-- One socket of a network has an event: what is seen of it follows what was seen, and no place at a host is held twice.
use Rattle.std.proofs.Common.{◌≡◌, ℕ, Bool, true, false, not, ◌&&◌, List, Some, None, Option, refl, ap, ◌∙◌, sym, subst, inl, inr, ◌⊎◌}
use Rattle.std.specs.Prelude.{slice_get, slice_set, ◌==◌}
use Rattle.std.proofs.lemmas.Bool.{and_parts, eqb-true, eq-eqb}
use Rattle.udt_model.specs.declared.addresses.Addr.{Addr}
use Rattle.udt_model.specs.Addresses.{same_addr}
use Rattle.udt_model.specs.Network.{is_met, is_pair}
use Rattle.udt_model.specs.Phases.{is_closed}
use Rattle.udt_model.specs.Records.{PeerPair}
use Rattle.udt_model.proofs.AddressLemmas.{same_addr-is}
use Rattle.udt_laws.proofs.scripts.UnadoptedPair.{same-addr}
use Rattle.udt_world.specs.Views.{Sight}
use Rattle.udt_world.specs.Wiring.{adopts, first_with, is_here, listens, meets, peer_in}
use Rattle.udt_world.proofs.FirstLemmas.{Only, Fails, only-set, first-fails}

pub both : (a b : Bool) → a ≡ true → b ≡ true → (a && b) ≡ true
both a b one other = rw (one, other) refl

not-so : (b : Bool) → not b ≡ true → b ≡ false
not-so true is = absurd (cc)
not-so false is = refl

pub met-is : (addr : Addr) (o : Option Addr) → is_met addr o ≡ true → o ≡ Some addr
met-is addr None is = absurd (cc)
met-is addr (Some to) is = ap Some (sym (same_addr-is addr to is))

pub is-met : (addr : Addr) (o : Option Addr) → o ≡ Some addr → is_met addr o ≡ true
is-met addr o is = rw is (same-addr addr)

pub pair-is : (addr : Addr) (id : ℕ) (o : Option PeerPair) → is_pair addr id o ≡ true → o ≡ Some (record { addr = addr; id = id })
pair-is addr id None is = absurd (cc)
pair-is addr id (Some peer) is =
    let parts = and_parts (same_addr addr peer.addr) (id == peer.id) is in
    let one : peer.addr ≡ addr = sym (same_addr-is addr peer.addr parts.0) in
    let other : peer.id ≡ id = sym (eqb-true id peer.id parts.1) in
    rw (sym one, sym other) refl

pub is-pair : (pair : PeerPair) (o : Option PeerPair) → o ≡ Some pair → is_pair pair.addr pair.id o ≡ true
is-pair pair o is = rw is (both _ _ (same-addr pair.addr) (eq-eqb pair.id pair.id refl))

module _ {C : Type 0} where
  pub here-parts : (host : Addr) (s : Sight C) → is_here host s ≡ true → (s.host ≡ host) × (is_closed s.state.phase ≡ false)
  here-parts host s is =
      let parts = and_parts (same_addr s.host host) (not (is_closed s.state.phase)) is in
      (same_addr-is s.host host parts.0, not-so (is_closed s.state.phase) parts.1)

  pub is-here : (host : Addr) (s : Sight C) → s.host ≡ host → is_closed s.state.phase ≡ false → is_here host s ≡ true
  is-here host s stands live = both _ _ (ap (same_addr s.host) (sym stands) ∙ same-addr s.host) (ap not live)

  -- at most one socket of a host listens, one meets an address, and one has adopted a pair
  pub record AreOnce (sights : List (Sight C)) : Type 0 where
    pub listener : (host : Addr) → Only (listens host) sights
    pub meeter : (host addr : Addr) → Only (meets host addr) sights
    pub adopter : (host addr : Addr) (id : ℕ) → Only (adopts host addr id) sights

  -- what a socket holds it keeps, but for what a closed one gives up
  pub record Follows (s next : Sight C) : Type 0 where
    pub host : next.host ≡ s.host
    pub closed : is_closed s.state.phase ≡ true → is_closed next.state.phase ≡ true
    pub listened : s.listened ≡ true → next.listened ≡ true
    pub met : (to : Addr) → s.met ≡ Some to → next.met ≡ Some to
    pub peer : (pair : PeerPair) → peer_in s ≡ Some pair → peer_in next ≡ Some pair

  -- and what it comes to hold none at its host held
  pub record MayFollow (sights : List (Sight C)) (s next : Sight C) : Type 0 where
    pub listener : s.listened ≡ false → next.listened ≡ true → first_with (listens s.host) sights ≡ None
    pub meeter : (to : Addr) → s.met ≡ None → next.met ≡ Some to → first_with (meets s.host to) sights ≡ None
    pub adopter : (pair : PeerPair) → peer_in s ≡ None → peer_in next ≡ Some pair
        → first_with (adopts s.host pair.addr pair.id) sights ≡ None

  module _ (sights : List (Sight C)) (k : ℕ) (s next : Sight C) (there : slice_get sights k ≡ Some s) (once : AreOnce sights)
      (follows : Follows s next) (may : MayFollow sights s next) where
    pub open-before : is_closed next.state.phase ≡ false → is_closed s.state.phase ≡ false
    open-before live = by (is_closed s.state.phase) refl
      where
        by : (b : Bool) → is_closed s.state.phase ≡ b → b ≡ false
        by true e = let still = follows.closed e in absurd (cc)
        by false e = refl

    here-before : (host : Addr) → is_here host next ≡ true → (s.host ≡ host) × (is_here host s ≡ true)
    here-before host here =
        let parts = here-parts host next here in
        let stands : s.host ≡ host = sym follows.host ∙ parts.0 in
        (stands, is-here host s stands (open-before parts.1))

    listens-before : (host : Addr) → listens host next ≡ true → (listens host s ≡ true) ⊎ Fails (listens host) sights
    listens-before host passes =
        let parts = and_parts (is_here host next) next.listened passes in
        let here = here-before host parts.0 in
        by here.0 here.1 parts.1 s.listened refl
      where
        by : s.host ≡ host → is_here host s ≡ true → next.listened ≡ true → (b : Bool) → s.listened ≡ b
            → (listens host s ≡ true) ⊎ Fails (listens host) sights
        by stands here now true e = inl (both _ _ here e)
        by stands here now false e =
            inr (first-fails (listens host) sights (subst (λ (h : Addr). first_with (listens h) sights ≡ None) stands (may.listener e now)))

    meets-before : (host addr : Addr) → meets host addr next ≡ true → (meets host addr s ≡ true) ⊎ Fails (meets host addr) sights
    meets-before host addr passes =
        let parts = and_parts (is_here host next) (is_met addr next.met) passes in
        let here = here-before host parts.0 in
        by here.0 here.1 (met-is addr next.met parts.1) s.met refl
      where
        by : s.host ≡ host → is_here host s ≡ true → next.met ≡ Some addr → (o : Option Addr) → s.met ≡ o
            → (meets host addr s ≡ true) ⊎ Fails (meets host addr) sights
        by stands here now (Some to) e =
            let still = follows.met to e in
            let same : to ≡ addr = cc in
            inl (both _ _ here (is-met addr s.met (e ∙ ap Some same)))
        by stands here now None e =
            inr (first-fails (meets host addr) sights (subst (λ (h : Addr). first_with (meets h addr) sights ≡ None) stands (may.meeter addr e now)))

    adopts-before : (host addr : Addr) (id : ℕ) → adopts host addr id next ≡ true
        → (adopts host addr id s ≡ true) ⊎ Fails (adopts host addr id) sights
    adopts-before host addr id passes =
        let parts = and_parts (same_addr next.host host) (is_pair addr id (peer_in next)) passes in
        by (sym follows.host ∙ same_addr-is next.host host parts.0) (ap (λ (h : Addr). same_addr h host) (sym follows.host) ∙ parts.0)
        (pair-is addr id (peer_in next) parts.1) (peer_in s) refl
      where
        by : s.host ≡ host → same_addr s.host host ≡ true → peer_in next ≡ Some (record { addr = addr; id = id })
            → (o : Option PeerPair) → peer_in s ≡ o → (adopts host addr id s ≡ true) ⊎ Fails (adopts host addr id) sights
        by stands here now (Some pair) e =
            let still = follows.peer pair e in
            let same : Some pair ≡ Some (record { addr = addr; id = id }) = sym still ∙ now in
            inl (both _ _ here (is-pair (record { addr = addr; id = id }) (peer_in s) (e ∙ same)))
        by stands here now None e =
            inr (first-fails (adopts host addr id) sights
            (subst (λ (h : Addr). first_with (adopts h addr id) sights ≡ None) stands (may.adopter (record { addr = addr; id = id }) e now)))

    -- no place is held twice
    pub once-kept : AreOnce (slice_set sights k next)
    once-kept = record {
      listener = λ host. only-set (listens host) sights k s next there (once.listener host) (listens-before host);
      meeter = λ host addr. only-set (meets host addr) sights k s next there (once.meeter host addr) (meets-before host addr);
      adopter = λ host addr id.
          only-set (adopts host addr id) sights k s next there (once.adopter host addr id) (adopts-before host addr id);
    }
