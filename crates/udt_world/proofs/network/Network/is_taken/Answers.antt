use Rattle.std.proofs.Common.{◌≡◌, ℕ, Option, Some, None, true, false, refl, ap, ◌∙◌, sym}
use Rattle.std.specs.Prelude.{is_some}
use Rattle.udt_model.specs.declared.addresses.Addr.{Addr}
use Rattle.udt_model.specs.Network.{place_of}
use Rattle.udt_world.proofs.UnderLemmas.{place_kept, seen_under}
use Rattle.udt_world.proofs.network.Network.is_taken.Goals as goal

none_found : (found : Option ℕ) → is_some found ≡ false → found ≡ None
none_found None is = refl
none_found (Some k) is = absurd (cc)

-- a socket has the name
pub returns-then-contains_key : goal.returns-then-contains_key
returns-then-contains_key g c = record {
  value = λ n shows.
      let kept = place_kept g.C.Control.ways n c.args.self.now c.args.name.now shows c.requires in
      let taken : is_some (place_of c.args.name.now n.sockets) ≡ true =
      ap (λ (o : Option ℕ). is_some o) (sym kept) ∙ (sym c.contains_key.ensures ∙ c.if-contains_key.true) in
      c.if-contains_key.true ∙ rw taken refl;
  free = λ none. let has = c.if-contains_key.true in absurd (cc);
}

-- none has it, so a host has it or not
pub returns-else-contains_key : goal.returns-else-contains_key
returns-else-contains_key g c = record {
  value = λ n shows.
      let kept = place_kept g.C.Control.ways n c.args.self.now c.args.name.now shows c.requires in
      let free : is_some (place_of c.args.name.now n.sockets) ≡ false =
      ap (λ (o : Option ℕ). is_some o) (sym kept) ∙ (sym c.contains_key.ensures ∙ c.if-contains_key.false) in
      c.is_some.ensures ∙ (ap (λ (o : Option Addr). is_some o) c.host_named.ensures ∙ rw (free, shows.hosts_are) refl);
  free = λ none.
      sym (seen_under c.args.self.now c.args.name.now c.requires)
      ∙ none_found _ (sym c.contains_key.ensures ∙ c.if-contains_key.false);
}
