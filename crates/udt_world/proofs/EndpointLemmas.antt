-- A new endpoint at an address that had none leaves the network wired.
use Rattle.std.proofs.Common.{◌≡◌, ℕ, Bool, true, false, true≢false, List, [], ◌∷◌, ◌++◌, length, Vec, Some, None, refl, ap, ◌∙◌, sym, subst}
use Rattle.std.specs.Prelude.{slice_get, position}
use Rattle.std.specs.Global.{Global}
use Rattle.udt_model.specs.declared.addresses.Addr.{Addr}
use Rattle.udt_model.specs.Addresses.{same_addr}
use Rattle.udt_model.proofs.AddressLemmas.{same_addr-is}
use Rattle.udt_laws.proofs.scripts.ReplacedOne.{append-first}
use Rattle.udt_laws.proofs.scripts.UnadoptedPair.{same-addr}
use Rattle.udt_routes.specs.Tables.{empty_table}
use Rattle.udt_world.specs.declared.hosts.TheConstants.{MOST_ENROLLED}
use Rattle.udt_world.specs.declared.hosts.Endpoint.{Endpoint}
use Rattle.udt_world.specs.declared.network.Network.{Network}
use Rattle.udt_world.specs.Views.{Sight}
use Rattle.udt_world.specs.Wiring.{HasAddress, IsWired, KeepsAddresses, Knows, sights_of}
use Rattle.udt_world.proofs.EmptyLemmas.{empty_knows}
use Rattle.udt_world.proofs.PushLemmas.{IsOneMore, Before, Last, each_fails, first_passes, get-last, get-push}
use Rattle.udt_world.proofs.WiredLemmas.{mapped}

-- other addresses aren't equal
pub other_addr : (a b : Addr) → same_addr a b ≡ false → a ≡ b → ⊥
other_addr a b other is = true≢false (sym (same-addr b) ∙ (ap (λ (x : Addr). same_addr x b) (sym is) ∙ other))

-- nor the same the other way
pub other-turned : (a b : Addr) → (a ≡ b → ⊥) → same_addr a b ≡ false
other-turned a b apart = by (same_addr a b) refl
  where
    by : (t : Bool) → same_addr a b ≡ t → same_addr a b ≡ false
    by true is = absurd (apart (same_addr-is a b is))
    by false is = is

-- the endpoint that was found has the address
pub endpoint-found : (endpoints : List Endpoint) (addr : Addr) (place : ℕ)
    → position (λ (e : Endpoint). same_addr addr e.addr) endpoints ≡ Some place → HasAddress endpoints place addr
endpoint-found endpoints addr place found =
    let at = first_passes (λ (e : Endpoint). same_addr addr e.addr) endpoints place found in
    record { endpoint = at.0; found = at.1; addr_is = sym (same_addr-is addr at.0.addr at.2) }

module _ {C : Type 0} (old : Network C) (endpoints : Vec Endpoint Global) (addr : Addr) (new : Endpoint) (wired : IsWired old)
    (grown : endpoints.items ≡ old.endpoints.items ++ new ∷ []) (addr_is : new.addr ≡ addr)
    (routes_are : new.routes ≡ empty_table MOST_ENROLLED MOST_ENROLLED)
    (free : position (λ (e : Endpoint). same_addr addr e.addr) old.endpoints.items ≡ None) where
  abbrev later : Network C
  later = record old { endpoints = endpoints }

  -- the others stand where they stood
  pub endpoint-stands : KeepsAddresses old later
  endpoint-stands place host at = record {
    endpoint = at.endpoint;
    found = rw grown (append-first old.endpoints.items (new ∷ []) place at.endpoint at.found);
    addr_is = at.addr_is;
  }

  -- none of them has this address
  others : (place : ℕ) (e : Endpoint) → slice_get old.endpoints.items place ≡ Some e → e.addr ≡ addr → ⊥
  others place e at is =
      other_addr addr e.addr (each_fails (λ (e : Endpoint). same_addr addr e.addr) old.endpoints.items place e free at) (sym is)

  away : (k : ℕ) (s : Sight C) → slice_get (sights_of old) k ≡ Some s → same_addr s.host addr ≡ false
  away k s at =
      let found = mapped old k s at in
      let end = wired.stands k found.0 found.1 in
      let host : found.0.host ≡ s.host = ap (λ (x : Sight C). x.host) found.2 in
      other-turned s.host addr (λ is. others found.0.endpoint end.endpoint end.found (end.addr_is ∙ (host ∙ is)))

  at-new : (place : ℕ) (e : Endpoint) → slice_get endpoints.items place ≡ Some e → IsOneMore old.endpoints.items new place e
  at-new place e at = get-push old.endpoints.items new place e (rw grown at at)

  knows-new : Knows new.routes (sights_of old) new.addr
  knows-new = rw (routes_are, addr_is) (empty_knows (sights_of old) addr away MOST_ENROLLED refl)

  pub endpoint-wired : IsWired later
  endpoint-wired = record {
    few = wired.few;
    stands = λ place socket at. endpoint-stands socket.endpoint socket.host (wired.stands place socket at);
    apart = apart;
    knows = knows;
    names = wired.names;
    called = wired.called;
    given = wired.given;
    owns = wired.owns;
    waits = wired.waits;
    peers = wired.peers;
    halves = wired.halves;
    free = wired.free;
    listens_once = wired.listens_once;
    meets_once = wired.meets_once;
    adopts_once = wired.adopts_once;
  }
    where
      apart : (i j : ℕ) (e f : Endpoint) → slice_get endpoints.items i ≡ Some e → slice_get endpoints.items j ≡ Some f
          → e.addr ≡ f.addr → i ≡ j
      apart i j e f e_at f_at same = by (at-new i e e_at) (at-new j f f_at)
        where
          by : IsOneMore old.endpoints.items new i e → IsOneMore old.endpoints.items new j f → i ≡ j
          by (Before there) (Before also) = wired.apart i j e f there also same
          by (Before there) (Last is it) = absurd (others i e there (same ∙ (ap (λ (x : Endpoint). x.addr) it ∙ addr_is)))
          by (Last is it) (Before also) = absurd (others j f also (sym same ∙ (ap (λ (x : Endpoint). x.addr) it ∙ addr_is)))
          by (Last is it) (Last too that) = is ∙ sym too

      knows : (place : ℕ) (e : Endpoint) → slice_get endpoints.items place ≡ Some e → Knows e.routes (sights_of old) e.addr
      knows place e at = by (at-new place e at)
        where
          by : IsOneMore old.endpoints.items new place e → Knows e.routes (sights_of old) e.addr
          by (Before there) = wired.knows place e there
          by (Last is it) = subst (λ (x : Endpoint). Knows x.routes (sights_of old) x.addr) (sym it) knows-new

  -- and the new one stands behind them
  pub endpoint-last : (place : ℕ) → place ≡ length old.endpoints.items → HasAddress endpoints.items place addr
  endpoint-last place is = record {
    endpoint = new;
    found = rw grown (get-last old.endpoints.items new place is);
    addr_is = addr_is;
  }
