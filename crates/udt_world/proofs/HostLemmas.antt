-- Hosts by their names and by their addresses.
use Rattle.std.proofs.Common.{◌≡◌, ℕ, zero, suc, Bool, true, false, cond, List, [], ◌∷◌, map, Some, None, Option, refl, ap, ◌∙◌, sym, option_map, arith}
use Rattle.std.specs.Prelude.{position, is_some, slice_get, ◌||◌, if◌then◌else◌}
use Rattle.std.proofs.lemmas.Option.{same_Some}
use Rattle.udt_model.specs.Words.{is_word}
use Rattle.std.specs.List.{list_any}
use Rattle.udt_model.specs.declared.addresses.Addr.{Addr}
use Rattle.udt_model.specs.Addresses.{same_addr}
use Rattle.udt_model.specs.Network as model
use Rattle.udt_world.specs.declared.network.ScriptHost.{ScriptHost}
use Rattle.udt_world.specs.Views.{host_of}
use Rattle.udt_world.proofs.PlaceLemmas.{position-cons, position-map}

kept : (o : Option ℕ) → is_some (option_map suc o) ≡ is_some o
kept None = refl
kept (Some k) = refl

some-found : {A : Type 0} (p : A → Bool) (xs : List A) → is_some (position p xs) ≡ list_any p xs
some-found p [] = refl
some-found p (x ∷ xs) =
    ap (λ (o : Option ℕ). is_some o) (position-cons p x xs)
    ∙ (elim (p x) as (λ b. is_some (cond b (Some 0) (option_map suc (position p xs))) ≡ (b || list_any p xs)) [
      | true ↦ refl
      | false ↦ kept (position p xs) ∙ some-found p xs
    ])

-- a host has an address where one is found that has
pub host_found : (hosts : List ScriptHost) (addr : Addr)
    → is_some (position (λ host. same_addr addr host.addr) hosts) ≡ list_any (λ (host : model.ScriptHost). same_addr addr host.addr) (map host_of hosts)
host_found hosts addr =
    ap (λ (o : Option ℕ). is_some o) (sym (position-map host_of (λ (host : model.ScriptHost). same_addr addr host.addr) hosts))
    ∙ some-found (λ (host : model.ScriptHost). same_addr addr host.addr) (map host_of hosts)

-- ---- names

by_none : (b : Bool) (rest : Option ℕ) (here : Addr) (others : Option Addr) → cond b (Some 0) (option_map suc rest) ≡ None
    → (rest ≡ None → others ≡ None) → (if b then Some here else others) ≡ None
by_none true rest here others is f = absurd (cc)
by_none false None here others is f = f refl
by_none false (Some k) here others is f = absurd (cc)

by_some : (b : Bool) (rest : Option ℕ) (place : ℕ) (first : ScriptHost) (hosts : List ScriptHost) (host : ScriptHost) (others : Option Addr)
    → cond b (Some 0) (option_map suc rest) ≡ Some place → slice_get (first ∷ hosts) place ≡ Some host
    → ((k : ℕ) → rest ≡ Some k → slice_get hosts k ≡ Some host → others ≡ Some host.addr)
    → (if b then Some first.addr else others) ≡ Some host.addr
by_some true rest zero first hosts host others is at f = ap (λ (h : ScriptHost). Some h.addr) (same_Some first host at)
by_some true rest (suc place) first hosts host others is at f = absurd (cc)
by_some false None place first hosts host others is at f = absurd (cc)
by_some false (Some k) zero first hosts host others is at f = absurd (cc)
by_some false (Some k) (suc place) first hosts host others is at f =
    let same : k ≡ place = omega (arith, same_Some (suc k) (suc place) is) in f k refl (rw same at)

-- no host has the name
pub none_named : (hosts : List ScriptHost) (name : List ℕ) → position (λ host. is_word host.name.items name) hosts ≡ None
    → model.address_of_host name (map host_of hosts) ≡ None
none_named [] name none = refl
none_named (host ∷ hosts) name none =
    by_none (is_word host.name.items name) (position (λ h. is_word h.name.items name) hosts) host.addr _
    (sym (position-cons (λ h. is_word h.name.items name) host hosts) ∙ none) (none_named hosts name)

-- the first host of the name has this address
pub named_at : (hosts : List ScriptHost) (name : List ℕ) (place : ℕ) (host : ScriptHost) → position (λ h. is_word h.name.items name) hosts ≡ Some place
    → slice_get hosts place ≡ Some host → model.address_of_host name (map host_of hosts) ≡ Some host.addr
named_at [] name place host found at = absurd (cc)
named_at (first ∷ hosts) name place host found at =
    by_some (is_word first.name.items name) (position (λ h. is_word h.name.items name) hosts) place first hosts host _
    (sym (position-cons (λ h. is_word h.name.items name) first hosts) ∙ found) at (λ k is there. named_at hosts name k host is there)
