use Rattle.std.proofs.Common.{◌-◌, ◌<◌, ℕ, List, Some, None, cond, length, refl, ap, ◌∙◌, sym, subst, arith, inr}
use Rattle.std.specs.Prelude.{slice_get, slice_set}
use Rattle.std.specs.Map.{lookup}
use Rattle.std.proofs.lemmas.List.{map-set}
use Rattle.std.proofs.lemmas.Option.{slice_get_read}
use Rattle.udt_model.specs.Words.{is_word}
use Rattle.udt_laws.proofs.scripts.ReplacedOne.{found-once}
use Rattle.udt_world.specs.declared.network.ScriptSocket.{ScriptSocket}
use Rattle.udt_world.specs.Views.{Sight, sight_of, view_of}
use Rattle.udt_world.specs.Wiring.{IsGiven, place_seen, sights_of}
use Rattle.udt_world.proofs.AlikeLemmas.{IsAlike, placed-wired}
use Rattle.udt_world.proofs.FirstLemmas.{replaced-cases}
use Rattle.udt_world.proofs.NameLemmas.{is_named, kept_after}
use Rattle.udt_world.proofs.RenamedLemmas.{called-renamed, seen-renamed}
use Rattle.udt_world.proofs.WiredLemmas.{sight-at}
use Rattle.udt_world.proofs.network.Network.rename.Goals as goal

-- the socket with the ID is seen under its new name
pub returns-clause-view : goal.returns-clause-view
returns-clause-view g c = λ sight at.
    let network = c.args.self.now in
    let place = c.args.id - 1 in
    let socket = c.index_mut.result.now in
    let within : place < length network.sockets.items = omega (arith, network.sockets.ok.0, c.requires.within, c.requires.id) in
    let read = slice_get_read network.sockets.items (length network.sockets.items) place socket refl within c.index_mut.ensures.value in
    let same = found-once (sights_of network) place (sight_of socket) sight (sight-at network place socket read) at in
    let named = ap (λ (name : List ℕ). record (sight_of socket) { name = name }) c.in_ok-self.ensures.items
    ∙ ap (λ (s : Sight _). record s { name = c.args.name.now }) same in
    ap (λ (sights : List (Sight _)). record (view_of network) { sockets = sights })
    (map-set sight_of network.sockets.items place (record socket { name = c.in_ok-self.field-0 })
    ∙ ap (slice_set (sights_of network) place) named)

-- nothing changed that an endpoint may know, and the names are those of the sockets
pub returns-clause-wired : goal.returns-clause-wired
returns-clause-wired g c =
    let network = c.args.self.now in
    let wired = c.requires.wired in
    let place = c.args.id - 1 in
    let socket = c.index_mut.result.now in
    let word = c.in_ok-self.field-0.items in
    let later = record socket { name = c.in_ok-self.field-0 } in
    let within : place < length network.sockets.items = omega (arith, network.sockets.ok.0, c.requires.within, c.requires.id) in
    let read = slice_get_read network.sockets.items (length network.sockets.items) place socket refl within c.index_mut.ensures.value in
    let was = slice_get_read network.sockets.items (length network.sockets.items) place c.index.result.now refl within c.index.ensures in
    let seen = sight-at network place socket read in
    let free = ap (place_seen (sights_of network)) c.in_ok-self.ensures.items ∙ c.requires.name in
    let sights_are = map-set sight_of network.sockets.items place later in
    let key_is = c.in_ok-key.ensures.items ∙ sym c.in_ok-self.ensures.items in
    let was_is = c.as_slice.ensures.value
    ∙ ap (λ (s : ScriptSocket _). s.name.items) (found-once network.sockets.items place c.index.result.now socket was read) in
    let alike : IsAlike (sight_of socket) (sight_of later) =
    record {
      host = refl;
      listened = refl;
      met = refl;
      look = record {
        own = refl;
        closed = refl;
        origin = refl;
        peer = refl;
        waits = λ id has. has;
        fits = λ fits. fits;
      };
    } in
    placed-wired network _ place socket later wired read alike refl refl sights_are refl refl refl
    (λ name. kept_after c.remove.new.self c.insert.new.self c.in_ok-key.key.items (Some place) c.in_ok-insert.ensures.updates name
    ∙ (ap (λ (key : List ℕ). cond (is_word key name) (Some place) (lookup (is_named name) c.remove.new.self.entries)) key_is
    ∙ (ap (cond (is_word word name) (Some place))
    (kept_after network.names c.remove.new.self c.as_slice.result.now None c.remove.ensures.updates name
    ∙ (ap (λ (old : List ℕ). cond (is_word old name) None (lookup (is_named name) network.names.entries)) was_is
    ∙ ap (cond (is_word socket.name.items name) None) (wired.names name)))
    ∙ sym (ap (λ (sights : List (Sight _)). place_seen sights name) sights_are
    ∙ seen-renamed (sights_of network) place (sight_of socket) word seen wired.called free name))))
    (λ p x at. ap (λ (sights : List (Sight _)). place_seen sights x.name) sights_are
    ∙ called-renamed (sights_of network) place (sight_of socket) word seen wired.called free p x
    (ap (λ (sights : List (Sight _)). slice_get sights p) (sym sights_are) ∙ at))
    (λ p x at. replaced-cases (sights_of network) place (sight_of socket) (sight_of later) seen p x
    (ap (λ (sights : List (Sight _)). slice_get sights p) (sym sights_are) ∙ at)
    (λ is x_is. subst (λ (s : Sight _). IsGiven p s.name) (sym x_is) (inr (rw c.in_ok-self.ensures.items c.requires.given)))
    (λ apart before. wired.given p x before))
