-- The sockets that a line opens may be added, and are seen as the definitions' ones.
use Rattle.std.proofs.Common.{◌≡◌, ℕ, ◌+◌, ◌<◌, true, false, true≢false, List, [], ◌∷◌, ◌++◌, length, map, Some, None, refl, ap, ◌∙◌, sym, subst, arith, inr, append_assoc}
use Rattle.std.specs.Prelude.{nat_lt, vec_len}
use Rattle.std.proofs.lemmas.Bool.{lt-ltb}
use Rattle.std.proofs.lemmas.List.{length-map, map-append}
use Rattle.udt_model.specs.declared.addresses.Addr.{Addr}
use Rattle.udt_model.specs.declared.limits.TheConstants.{MOST_SOCKETS}
use Rattle.udt_model.specs.Addresses.{same_addr}
use Rattle.udt_model.specs.History.{after_items}
use Rattle.udt_model.specs.Lines.{OpeningLine, OpenLine, Pairing, PairLine}
use Rattle.udt_model.specs.Network as model
use Rattle.udt_model.specs.Network.{address_of_host, first_host, second_host, is_taken, met_by}
use Rattle.udt_model.specs.Opening.{opened, opening}
use Rattle.udt_model.specs.declared.packets.Config.{Config}
use Rattle.udt_model.specs.Phases.{is_closed}
use Rattle.udt_model.specs.Rate.{Ways}
use Rattle.udt_model.specs.Script.{on_line, open_config, paired, may_open, may_pair, pair_config, peer_of, with_socket}
use Rattle.udt_model.specs.State.{State}
use Rattle.udt_model.specs.Texts.{open_text, pair_text}
use Rattle.udt_model.specs.Words.{is_name, is_word}
use Rattle.udt_world.specs.declared.network.Network.{Network}
use Rattle.udt_world.specs.declared.network.ScriptSocket.{ScriptSocket}
use Rattle.udt_world.specs.Done.{DoesLine}
use Rattle.udt_world.specs.Views.{Sight, View, Shows, sight_of, sight_of_history, view_of}
use Rattle.udt_world.specs.Wiring.{FitsPhase, HasAddress, IsFree, IsGiven, IsHalf, IsNew, IsUnadopted, IsWired, new_sight, peer_in, place_seen, sights_of, waiting_at}
use Rattle.udt_world.proofs.OpeningLemmas.{first-unadopted, second-unadopted}
use Rattle.udt_world.proofs.PushLemmas.{push_other}

-- ---- what is seen of them

module _ {C : Type 0} (w : Ways C) where
  abbrev pub new_socket : List ℕ → Addr → State C → model.ScriptSocket C
  new_socket name host state = record { name = name; host = host; history = record { opening = state; items = [] } }

  new-seen : (name : List ℕ) (host : Addr) (state : State C)
      → sight_of_history w (new_socket name host state) ≡ new_sight name host state
  unfolding after_items met_by
  new-seen name host state = refl

  -- one more socket is seen
  pub opened-shown : (n : model.Network C) (old new : View C) (name : List ℕ) (host : Addr) (state : State C) → Shows w n old
      → new ≡ record old { sockets = old.sockets ++ new_sight name host state ∷ [] }
      → Shows w (with_socket n (new_socket name host state)) new
  opened-shown n old new name host state shows is = record {
    hosts_are = ap (λ (v : View C). v.hosts) is ∙ shows.hosts_are;
    sockets_are = ap (λ (v : View C). v.sockets) is
        ∙ (ap (λ (l : List (Sight C)). l ++ new_sight name host state ∷ []) shows.sockets_are
        ∙ (ap (λ (s : Sight C). map (sight_of_history w) n.sockets ++ s ∷ []) (sym (new-seen name host state))
        ∙ sym (map-append (sight_of_history w) n.sockets (new_socket name host state ∷ []))));
    datagrams_are = ap (λ (v : View C). v.datagrams) is ∙ shows.datagrams_are;
  }

  -- a line that makes a pair does so
  pub pair-does : (n : model.Network C) (p : Pairing) (old mid new : View C) (count : ℕ) (before after : List ℕ) → Shows w n old
      → may_pair n p ≡ true → count ≡ length old.sockets
      → mid ≡ record old {
        sockets = old.sockets
            ++ new_sight p.a first_host
            (opening w (count + 1) (pair_config p) (peer_of p second_host (count + 2)) 0 p.start) ∷ [];
      }
      → new ≡ record mid {
        sockets = mid.sockets
            ++ new_sight p.b second_host
            (opening w (count + 2) (pair_config p) (peer_of p first_host (count + 1)) 0 p.start) ∷ [];
      }
      → after ≡ before ++ pair_text p count → DoesLine w n (on_line w n (PairLine p)) true new before after
  unfolding paired
  pair-does n p old mid new count before after shows may count_is mid_is new_is text =
      let same : length n.sockets ≡ count =
      sym (count_is ∙ (ap length shows.sockets_are ∙ length-map n.sockets (sight_of_history w))) in
      let a = opening w (count + 1) (pair_config p) (peer_of p second_host (count + 2)) 0 p.start in
      let b = opening w (count + 2) (pair_config p) (peer_of p first_host (count + 1)) 0 p.start in
      let first = opened-shown n old mid p.a first_host a shows mid_is in
      let second = opened-shown (with_socket n (new_socket p.a first_host a)) mid new p.b second_host b first new_is in
      rw (may, same) (
        subst (λ (l : List (model.ScriptSocket C)). Shows w (record n { sockets = l }) new)
            (append_assoc n.sockets (new_socket p.a first_host a ∷ []) (new_socket p.b second_host b ∷ [])) second,
        text,
      )

  -- a line that opens a socket does so
  pub open-does : (n : model.Network C) (o : OpeningLine) (host : Addr) (old new : View C) (count : ℕ) (before after : List ℕ)
      → Shows w n old → count ≡ length old.sockets → count < MOST_SOCKETS → is_taken o.name n ≡ false
      → address_of_host o.host old.hosts ≡ Some host
      → new ≡ record old { sockets = old.sockets ++ new_sight o.name host (opened w (count + 1) o.isn (open_config o) 0) ∷ [] }
      → after ≡ before ++ open_text o count → DoesLine w n (on_line w n (OpenLine o)) true new before after
  open-does n o host old new count before after shows count_is room free at new_is text =
      let same : length n.sockets ≡ count =
      sym (count_is ∙ (ap length shows.sockets_are ∙ length-map n.sockets (sight_of_history w))) in
      let fits : nat_lt (length n.sockets) MOST_SOCKETS ≡ true =
      lt-ltb (length n.sockets) MOST_SOCKETS (omega (arith, room, same)) in
      let may : may_open n o.name ≡ true = rw (fits, free) refl in
      let found : address_of_host o.host n.hosts ≡ Some host = ap (address_of_host o.host) (sym shows.hosts_are) ∙ at in
      rw (may, found, same)
      (opened-shown n old new o.name host (opened w (count + 1) o.isn (open_config o) 0) shows new_is, text)

-- ---- once one was added

module _ {C : Type 0} (old new : Network C) where
  -- one more socket is seen, once an endpoint was made for it
  pub added-seen : (mid : Network C) (made : ScriptSocket C) (sight : Sight C) → mid ≡ record old { endpoints = mid.endpoints }
      → view_of new ≡ record (view_of mid) { sockets = sights_of mid ++ sight_of made ∷ [] } → sight_of made ≡ sight
      → view_of new ≡ record (view_of old) { sockets = sights_of old ++ sight ∷ [] }
  added-seen mid made sight kept seen is =
      seen
      ∙ (ap (λ (m : Network C). record (view_of m) { sockets = sights_of m ++ sight_of made ∷ [] }) kept
      ∙ ap (λ (s : Sight C). record (view_of old) { sockets = sights_of old ++ s ∷ [] }) is)

  module _ (sight : Sight C) (seen : view_of new ≡ record (view_of old) { sockets = sights_of old ++ sight ∷ [] }) where
    -- a name that none had is that of none, but of the new one
    pub unseen-more : (name : List ℕ) → place_seen (sights_of old) name ≡ None → is_word sight.name name ≡ false
        → place_seen (sights_of new) name ≡ None
    unseen-more name none other =
        ap (λ (v : View C). place_seen v.sockets name) seen
        ∙ (push_other (λ (s : Sight C). is_word s.name name) (sights_of old) sight other ∙ none)

-- ---- they may be added

module _ {C : Type 0} (network : Network C) (made : ScriptSocket C) (endpoint : ℕ) (name : List ℕ) (host : Addr) (state : State C)
    (sight : sight_of made ≡ new_sight name host state) (end : made.endpoint ≡ endpoint)
    (stands : HasAddress network.endpoints.items endpoint host) (room : vec_len network.sockets < MOST_SOCKETS)
    (unseen : place_seen (sights_of network) name ≡ None) (given : IsGiven (vec_len network.sockets) name)
    (own : state.own ≡ vec_len network.sockets + 1) (live : is_closed state.phase ≡ false) (waits : waiting_at state.phase ≡ [])
    (peer : IsUnadopted (sights_of network) host (peer_in (new_sight name host state)))
    (fits : FitsPhase state.phase state.origin state.peer)
    (half : IsHalf (vec_len network.sockets) host (peer_in (new_sight name host state))) where
  pub made-new : IsNew network made
  made-new = record {
    room = room;
    stands = subst (λ (s : Sight C). HasAddress network.endpoints.items made.endpoint s.host) (sym sight)
        (subst (λ (i : ℕ). HasAddress network.endpoints.items i host) (sym end) stands);
    own = ap (λ (s : Sight C). s.state.own) sight ∙ own;
    name = ap (λ (s : Sight C). place_seen (sights_of network) s.name) sight ∙ unseen;
    given = subst (λ (s : Sight C). IsGiven (vec_len network.sockets) s.name) (sym sight) given;
    live = ap (λ (s : Sight C). is_closed s.state.phase) sight ∙ live;
    waits = ap (λ (s : Sight C). waiting_at s.state.phase) sight ∙ waits;
    listened = ap (λ (s : Sight C). s.listened) sight;
    met = ap (λ (s : Sight C). s.met) sight;
    peer = subst (λ (s : Sight C). IsUnadopted (sights_of network) s.host (peer_in s)) (sym sight) peer;
    fits = subst (λ (s : Sight C). FitsPhase s.state.phase s.state.origin s.state.peer) (sym sight) fits;
    half = subst (λ (s : Sight C). IsHalf (vec_len network.sockets) s.host (peer_in s)) (sym sight) half;
  }

apart : first_host ≡ second_host → ⊥
apart is = true≢false (ap (same_addr first_host) is)

module _ {C : Type 0} (w : Ways C) (network : Network C) (wired : IsWired network) (made : ScriptSocket C) (endpoint own id : ℕ)
    (end : made.endpoint ≡ endpoint) (room : vec_len network.sockets < MOST_SOCKETS)
    (own_is : own ≡ vec_len network.sockets + 1) where
  count_is : length (sights_of network) ≡ vec_len network.sockets
  count_is = length-map network.sockets.items sight_of ∙ omega (arith, network.sockets.ok.0)

  -- the first socket of a pair
  pub first-new : (p : Pairing) → HasAddress network.endpoints.items endpoint first_host
      → sight_of made ≡ new_sight p.a first_host (opening w own (pair_config p) (peer_of p second_host id) 0 p.start)
      → place_seen (sights_of network) p.a ≡ None → is_name p.a ≡ true → id ≡ vec_len network.sockets + 2 → IsNew network made
  unfolding opening
  first-new p stands sight unseen given id_is =
      made-new network made endpoint p.a first_host _ sight end stands room unseen (inr given) own_is refl refl
      (first-unadopted network wired id (omega (arith, id_is, count_is))) tt (record {
        first = λ is. ap (λ (i : ℕ). Some (record { addr = second_host; id = i })) id_is;
        second = λ is. absurd (apart is);
      })

  -- the second one, once the first was added
  pub second-new : (p : Pairing) → HasAddress network.endpoints.items endpoint second_host
      → sight_of made ≡ new_sight p.b second_host (opening w own (pair_config p) (peer_of p first_host id) 0 p.start)
      → place_seen (sights_of network) p.b ≡ None → is_name p.b ≡ true → id ≡ vec_len network.sockets → IsNew network made
  unfolding opening
  second-new p stands sight unseen given id_is =
      made-new network made endpoint p.b second_host _ sight end stands room unseen (inr given) own_is refl refl
      (second-unadopted network wired id (omega (arith, id_is, count_is))) tt (record {
        first = λ is. absurd (apart (sym is));
        second = λ is. ap (λ (i : ℕ). Some (record { addr = first_host; id = i })) id_is;
      })

  -- a socket without a connection, at a host that a line named
  pub open-new : (name : List ℕ) (host : Addr) (isn : ℕ) (config : Config) → HasAddress network.endpoints.items endpoint host
      → sight_of made ≡ new_sight name host (opened w own isn config 0)
      → place_seen (sights_of network) name ≡ None → is_name name ≡ true → IsFree host → IsNew network made
  unfolding opened
  open-new name host isn config stands sight unseen given is_free =
      made-new network made endpoint name host _ sight end stands room unseen (inr given) own_is refl refl tt refl (record {
        first = λ is. absurd (is_free.first is);
        second = λ is. absurd (is_free.second is);
      })
