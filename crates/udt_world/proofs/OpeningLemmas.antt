-- A new host leaves a network wired, and none has adopted the sockets of a new pair.
use Rattle.std.proofs.Common.{◌≡◌, ℕ, ◌+◌, ◌≤◌, Bool, true, false, List, [], ◌∷◌, ◌++◌, length, map, Some, None, refl, ap, ◌∙◌, sym, subst, arith, inl, inr, ◌⊎◌, option_map}
use Rattle.std.specs.Global.{Global}
use Rattle.std.specs.Prelude.{slice_get, Vec, if◌then◌else◌}
use Rattle.std.proofs.lemmas.Bool.{and_parts}
use Rattle.std.proofs.lemmas.List.{map-append}
use Rattle.std.proofs.lemmas.Option.{same_Some, slice_get_within}
use Rattle.udt_model.specs.declared.addresses.Addr.{Addr}
use Rattle.udt_model.specs.Addresses.{same_addr}
use Rattle.udt_model.specs.Network as model
use Rattle.udt_model.specs.Network.{address_of_host, first_host, second_host, is_host, is_pair}
use Rattle.udt_model.specs.Records.{PeerPair}
use Rattle.udt_model.specs.Words.{is_word}
use Rattle.udt_model.proofs.AddressLemmas.{same_addr-is}
use Rattle.udt_world.specs.declared.network.Network.{Network}
use Rattle.udt_world.specs.declared.network.ScriptHost.{ScriptHost}
use Rattle.udt_world.specs.Views.{Sight, host_of}
use Rattle.udt_world.specs.Wiring.{IsFree, IsWired, adopts, first_with, peer_in, sights_of}
use Rattle.udt_world.proofs.FollowLemmas.{pair-is}
use Rattle.udt_world.proofs.PushLemmas.{none_first}

-- ---- hosts

-- a name is that of one more host, or it was one before
pub named-more : (hosts : List model.ScriptHost) (more : model.ScriptHost) (name : List ℕ) (addr : Addr)
    → address_of_host name (hosts ++ more ∷ []) ≡ Some addr → (address_of_host name hosts ≡ Some addr) ⊎ (more.addr ≡ addr)
named-more [] more name addr is = one (is_word more.name name) is
  where
    one : (b : Bool) → (if b then Some more.addr else None) ≡ Some addr → (None ≡ Some addr) ⊎ (more.addr ≡ addr)
    one true is = inr (same_Some more.addr addr is)
    one false is = inl is
named-more (host ∷ hosts) more name addr is = by (is_word host.name name) is (named-more hosts more name addr)
  where
    by : (b : Bool) → (if b then Some host.addr else address_of_host name (hosts ++ more ∷ [])) ≡ Some addr
        → (address_of_host name (hosts ++ more ∷ []) ≡ Some addr → (address_of_host name hosts ≡ Some addr) ⊎ (more.addr ≡ addr))
        → ((if b then Some host.addr else address_of_host name hosts) ≡ Some addr) ⊎ (more.addr ≡ addr)
    by true is others = inl is
    by false is others = others is

-- an address that no host has is none of the hosts of pairs
pub not-fixed : (hosts : List model.ScriptHost) (addr : Addr) → is_host hosts addr ≡ false → IsFree addr
not-fixed hosts addr none = record {
  first = λ is. let so : is_host hosts addr ≡ true = rw is refl in absurd (cc);
  second = λ is. let so : is_host hosts addr ≡ true = rw is refl in absurd (cc);
}

-- one more host
pub host-wired : {C : Type 0} (old : Network C) (hosts : Vec ScriptHost Global) (more : ScriptHost) → IsWired old
    → hosts.items ≡ old.hosts.items ++ more ∷ [] → IsFree more.addr → IsWired (record old { hosts = hosts })
host-wired old hosts more wired grown is_free = record {
  few = wired.few;
  stands = wired.stands;
  apart = wired.apart;
  knows = wired.knows;
  names = wired.names;
  called = wired.called;
  given = wired.given;
  owns = wired.owns;
  waits = wired.waits;
  peers = wired.peers;
  halves = wired.halves;
  free = λ name addr named.
      elim (named-more (map host_of old.hosts.items) (host_of more) name addr
      (ap (address_of_host name) (sym (ap (map host_of) grown ∙ map-append host_of old.hosts.items (more ∷ []))) ∙ named)) [
        | inl before ↦ wired.free name addr before
        | inr last ↦ subst IsFree last is_free
      ];
  listens_once = wired.listens_once;
  meets_once = wired.meets_once;
  adopts_once = wired.adopts_once;
}

-- ---- pairs

same-id : (a b : PeerPair) → Some a ≡ Some b → a.id ≡ b.id
same-id a b is = cc

module _ {C : Type 0} (sights : List (Sight C)) (host addr : Addr) (id : ℕ)
    (others : (k : ℕ) (s : Sight C) → slice_get sights k ≡ Some s → s.host ≡ host
    → (peer : PeerPair) × (peer_in s ≡ Some peer) × (peer.id ≡ id → ⊥)) where
  fails : (k : ℕ) (s : Sight C) → slice_get sights k ≡ Some s → adopts host addr id s ≡ false
  fails k s at = by (adopts host addr id s) refl
    where
      by : (b : Bool) → adopts host addr id s ≡ b → adopts host addr id s ≡ false
      by false is = is
      by true is =
          let parts = and_parts (same_addr s.host host) (is_pair addr id (peer_in s)) is in
          let its = others k s at (same_addr-is s.host host parts.0) in
          absurd (its.2 (same-id its.0 (record { addr = addr; id = id }) (sym its.1 ∙ pair-is addr id (peer_in s) parts.1)))

  -- where each at a host names another, none has adopted the pair
  unadopted : first_with (adopts host addr id) sights ≡ None
  unadopted = ap (option_map (λ place. place + 1)) (none_first (adopts host addr id) sights fails)

module _ {C : Type 0} (network : Network C) (wired : IsWired network) where
  -- none has adopted the second socket of a pair that comes next
  pub first-unadopted : (id : ℕ) → length (sights_of network) + 2 ≤ id
      → first_with (adopts first_host second_host id) (sights_of network) ≡ None
  first-unadopted id past = unadopted (sights_of network) first_host second_host id (λ k s at stands. (
    record { addr = second_host; id = k + 2 },
    (wired.halves k s at).first stands,
    λ same. omega (arith, same, past, slice_get_within (sights_of network) k s at),
  ))

  -- nor the first
  pub second-unadopted : (id : ℕ) → length (sights_of network) ≤ id
      → first_with (adopts second_host first_host id) (sights_of network) ≡ None
  second-unadopted id past = unadopted (sights_of network) second_host first_host id (λ k s at stands. (
    record { addr = first_host; id = k },
    (wired.halves k s at).second stands,
    λ same. omega (arith, same, past, slice_get_within (sights_of network) k s at),
  ))
