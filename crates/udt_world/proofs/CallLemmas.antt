-- A call of a socket does what the definitions say: the places at its host are those that are seen.
use Rattle.std.proofs.Common.{◌≡◌, ℕ, ◌+◌, ◌<◌, Bool, true, false, List, ◌++◌, length, Some, None, Option, refl, ap, ◌∙◌, sym, arith, option_map}
use Rattle.std.specs.Prelude.{slice_get, is_some, vec_len, ◌||◌, ◌&&◌, if◌then◌else◌}
use Rattle.std.proofs.lemmas.List.{length-map}
use Rattle.std.proofs.lemmas.Option.{same_Some, slice_get_within}
use Rattle.udt_model.specs.declared.addresses.Addr.{Addr}
use Rattle.udt_model.specs.Events.{Act, Listen, Meet, Event, event}
use Rattle.udt_model.specs.Network as model
use Rattle.udt_model.specs.Rate.{Ways}
use Rattle.udt_model.specs.Lines.{CallLine}
use Rattle.udt_model.specs.Script.{call_at, on_line}
use Rattle.udt_model.specs.Texts.{listen_twice_text, meet_taken_text}
use Rattle.udt_routes.specs.Meets.{meeter_of}
use Rattle.udt_routes.specs.Tables.{what_of}
use Rattle.udt_script.specs.CodeLines.{act_of}
use Rattle.udt_script.specs.declared.lines.Call.{Call}
use Rattle.udt_script.specs.declared.lines.Call.TheVariants as code_call
use Rattle.udt_world.specs.declared.hosts.Endpoint.{Endpoint}
use Rattle.udt_world.specs.declared.network.Network.{Network}
use Rattle.udt_world.specs.declared.network.ScriptSocket.{ScriptSocket}
use Rattle.udt_world.specs.Views.{Sight, View, sight_of, sight_of_history, view_of, Shows, HasEvent}
use Rattle.udt_world.specs.Done.{DoesLine}
use Rattle.udt_world.specs.Wiring.{IsWired, Knows, first_with, is_any, is_here, listens, meets, sights_of}
use Rattle.udt_world.proofs.EventLemmas.{event_shown, shown_at}
use Rattle.udt_world.proofs.FirstLemmas.{with-place}
use Rattle.udt_world.proofs.KnownLemmas.{known_seen}
use Rattle.udt_world.proofs.PushLemmas.{item_at}
use Rattle.udt_world.proofs.WiredLemmas.{sight-at}

module _ {C : Type 0} where
  -- the endpoint of a socket knows what is seen at its host
  pub host-knows : (network : Network C) (place : ℕ) (socket : ScriptSocket C) (e : Endpoint) → IsWired network
      → slice_get network.sockets.items place ≡ Some socket → slice_get network.endpoints.items socket.endpoint ≡ Some e
      → Knows e.routes (sights_of network) socket.host
  host-knows network place socket e wired there found =
      let at = wired.stands place socket there in
      let same : at.endpoint ≡ e = same_Some _ _ (sym at.found ∙ found) in
      let addr : e.addr ≡ socket.host = ap (λ (x : Endpoint). x.addr) (sym same) ∙ at.addr_is in
      rw addr at (wired.knows socket.endpoint e found)

  -- and there is one
  pub endpoint-within : (network : Network C) (place : ℕ) (socket : ScriptSocket C) → IsWired network
      → slice_get network.sockets.items place ≡ Some socket → socket.endpoint < vec_len network.endpoints
  endpoint-within network place socket wired there =
      let at = wired.stands place socket there in
      omega (arith, slice_get_within network.endpoints.items socket.endpoint at.endpoint at.found, network.endpoints.ok.0)

some-if : {A : Type 0} (b : Bool) (x : A) → is_some (if b then Some x else None) ≡ b
some-if true x = refl
some-if false x = refl

either-way : (a b c : Bool) → b ≡ c → (a && b) ≡ (c && a)
either-way true true c same = rw (sym same) refl
either-way true false c same = rw (sym same) refl
either-way false true c same = rw (sym same) refl
either-way false false c same = rw (sym same) refl

module _ {C : Type 0} (network : Network C) (wired : IsWired network) (place : ℕ) (socket : ScriptSocket C) (e : Endpoint)
    (there : slice_get network.sockets.items place ≡ Some socket)
    (found : slice_get network.endpoints.items socket.endpoint ≡ Some e) where
  -- the endpoint of a socket knows whether one of its host listens
  listener-known : is_some e.routes.listener ≡ is_some (first_with (listens socket.host) (sights_of network))
  listener-known = ap (λ o. is_some o) (host-knows network place socket e wired there found).same.listener

  -- and whether the socket is enrolled
  enrolled-known : is_some (what_of e.routes socket.socket.own) ≡ is_here socket.host (sight_of socket)
  enrolled-known =
      let at : slice_get (sights_of network) place ≡ Some (sight_of socket) = sight-at network place socket there in
      let own : socket.socket.own ≡ place + 1 = wired.owns place (sight_of socket) at in
      rw own (
      sym (some-if (is_some (what_of e.routes (place + 1))) (place + 1))
      ∙ ((host-knows network place socket e wired there found).same.enrolled (place + 1)
      ∙ ap (λ o. is_any (is_here socket.host) o) (with-place (sights_of network) place ∙ at))
      )

  -- and whether one of them meets this address, or the socket meets any
  meeting-known : (to : Addr)
      → (is_some (meeter_of e.routes.meetings to) || (is_some socket.met && is_some (what_of e.routes socket.socket.own)))
      ≡ (is_some (first_with (meets socket.host to) (sights_of network)) || (is_here socket.host (sight_of socket) && is_some socket.met))
  meeting-known to =
      let one = ap (λ o. is_some o) ((host-knows network place socket e wired there found).same.meeter to) in
      rw (one, either-way (is_some socket.met) _ _ enrolled-known) refl

  module _ (sight : Sight C) (at : slice_get (sights_of network) place ≡ Some sight) where
    seen-same : sight_of socket ≡ sight
    seen-same = same_Some _ _ (sym (sight-at network place socket there) ∙ at)

    pub listener-seen : is_some e.routes.listener ≡ is_some (first_with (listens sight.host) (sights_of network))
    listener-seen =
        listener-known ∙ ap (λ (s : Sight C). is_some (first_with (listens s.host) (sights_of network))) seen-same

    pub meeting-seen : (to : Addr)
        → (is_some (meeter_of e.routes.meetings to) || (is_some socket.met && is_some (what_of e.routes socket.socket.own)))
        ≡ (is_some (first_with (meets sight.host to) (sights_of network)) || (is_here sight.host sight && is_some sight.met))
    meeting-seen to =
        meeting-known to
        ∙ ap (λ (s : Sight C). is_some (first_with (meets s.host to) (sights_of network)) || (is_here s.host s && is_some s.met))
        seen-same

pub some-mapped : {A B : Type 0} (f : A → B) (o : Option A) → is_some (option_map f o) ≡ is_some o
some-mapped f None = refl
some-mapped f (Some x) = refl

-- ---- what is asked one after another

pub first-holds : (r a b : Bool) → r ≡ a → r ≡ true → r ≡ (a || b)
first-holds r true b same is = same
first-holds r false b same is = absurd (cc)

pub then-asked : (a m r : Bool) → false ≡ a → true ≡ m → r ≡ (a || (m && r))
then-asked false true r none some = refl
then-asked true m r none some = absurd (cc)
then-asked a false r none some = absurd (cc)

pub none-asked : (a m b : Bool) → false ≡ a → false ≡ m → false ≡ (a || (m && b))
none-asked false false b none other = refl
none-asked true m b none other = absurd (cc)
none-asked a true b none other = absurd (cc)

-- ---- what a call may do

module _ {C : Type 0} (sights : List (Sight C)) (sight : Sight C) where
  -- no socket of its host holds the place that a call asks for
  abbrev pub IsFree : Act → Type 0
  IsFree (Listen most secret) = is_some (first_with (listens sight.host) sights) ≡ false
  IsFree (Meet to) =
      (is_some (first_with (meets sight.host to) sights) || (is_here sight.host sight && is_some sight.met)) ≡ false
  IsFree other = Unit {0}

  -- other calls ask for none
  pub other_free : (call : Call) → ((most : ℕ) → call ≡ code_call.Listen most → ⊥) → ((to : Addr) → call ≡ code_call.Meet to → ⊥)
      → IsFree (act_of call)
  other_free (code_call.Listen most) not_listens not_meets = absurd (not_listens most refl)
  other_free (code_call.Meet to) not_listens not_meets = absurd (not_meets to refl)
  other_free (code_call.Connect to) not_listens not_meets = tt
  other_free code_call.Shake not_listens not_meets = tt
  other_free (code_call.Send bytes) not_listens not_meets = tt
  other_free (code_call.Recv room) not_listens not_meets = tt
  other_free (code_call.SendMessage ttl order bytes) not_listens not_meets = tt
  other_free (code_call.RecvMessage room) not_listens not_meets = tt
  other_free code_call.Pack not_listens not_meets = tt
  other_free code_call.Tick not_listens not_meets = tt
  other_free code_call.Close not_listens not_meets = tt
  other_free code_call.Perf not_listens not_meets = tt

module _ {C : Type 0} (w : Ways C) where
  -- there are as many sockets
  pub count_same : (n : model.Network C) (network : Network C) → Shows w n (view_of network)
      → length n.sockets ≡ length network.sockets.items
  count_same n network shows =
      sym (length-map n.sockets (sight_of_history w)) ∙ (ap length (sym shows.sockets_are) ∙ length-map network.sockets.items sight_of)

  pub known_at : (n : model.Network C) (network : Network C) (place : ℕ) → Shows w n (view_of network)
      → place < length network.sockets.items → (known : model.ScriptSocket C) × (slice_get n.sockets place ≡ Some known)
  known_at n network place shows within = item_at n.sockets place (rw (count_same n network shows) within)

  module _ (n : model.Network C) (view : View C) (shows : Shows w n view) (place : ℕ) (socket : model.ScriptSocket C)
      (there : slice_get n.sockets place ≡ Some socket) (sight : Sight C) (found : slice_get view.sockets place ≡ Some sight) where
    same : sight ≡ sight_of_history w socket
    same = shown_at w n view place sight socket shows found there

    host : sight.host ≡ socket.host
    host = ap (λ (s : Sight C). s.host) same

    listener : model.first_id (model.holds_listener w socket.host) n.sockets ≡ first_with (listens sight.host) view.sockets
    listener = rw (shows.sockets_are, host) (known_seen w n.sockets socket.host).listener

    meeting : (to : Addr) → model.first_id (model.holds_meeting w socket.host to) n.sockets ≡ first_with (meets sight.host to) view.sockets
    meeting to = rw (shows.sockets_are, host) ((known_seen w n.sockets socket.host).meeter to)

    any-meeting : model.holds_any_meeting w socket ≡ (is_here sight.host sight && is_some sight.met)
    any-meeting = sym (ap (λ (s : Sight C). is_here s.host s && is_some s.met) same)

    -- a socket of its host listens
    pub listened_twice : (now most : ℕ) (secret before after : List ℕ) → is_some (first_with (listens sight.host) view.sockets) ≡ true
        → after ≡ before ++ listen_twice_text sight.name
        → DoesLine w n (Some (call_at w n place socket (event now (Listen most secret)))) true view before after
    listened_twice now most secret before after taken text =
        let some : is_some (model.first_id (model.holds_listener w socket.host) n.sockets) ≡ true = ap (λ o. is_some o) listener ∙ taken in
        let name : sight.name ≡ socket.name = ap (λ (s : Sight C). s.name) same in
        rw some (shows, rw (sym name) text)

    -- a socket of its host meets the address, or this one meets any
    pub met_taken : (now : ℕ) (to : Addr) (before after : List ℕ)
        → (is_some (first_with (meets sight.host to) view.sockets) || (is_here sight.host sight && is_some sight.met)) ≡ true
        → after ≡ before ++ meet_taken_text sight.name
        → DoesLine w n (Some (call_at w n place socket (event now (Meet to)))) true view before after
    met_taken now to before after taken text =
        let some : (is_some (model.first_id (model.holds_meeting w socket.host to) n.sockets) || model.holds_any_meeting w socket) ≡ true =
        rw (meeting to, any-meeting) taken in
        let name : sight.name ≡ socket.name = ap (λ (s : Sight C). s.name) same in
        rw some (shows, rw (sym name) text)

    -- where no place is taken, the socket has the call
    pub called : (now : ℕ) (act : Act) (new : View C) (before after : List ℕ) → IsFree view.sockets sight act
        → HasEvent w place (event now act) view new before after
        → DoesLine w n (Some (call_at w n place socket (event now act))) true new before after
    called now (Listen most secret) new before after free happens =
        let none : is_some (model.first_id (model.holds_listener w socket.host) n.sockets) ≡ false = ap (λ o. is_some o) listener ∙ free in
        rw none (event_shown w n place socket (event now (Listen most secret)) view new before after shows there happens)
    called now (Meet to) new before after free happens =
        let none : (is_some (model.first_id (model.holds_meeting w socket.host to) n.sockets) || model.holds_any_meeting w socket) ≡ false =
        rw (meeting to, any-meeting) free in
        rw none (event_shown w n place socket (event now (Meet to)) view new before after shows there happens)
    called now act new before after free happens = event_shown w n place socket (event now act) view new before after shows there happens

  -- ---- calls by their names

  pub no_name : (n : model.Network C) (view : View C) (name text : List ℕ) (happens : Event) → Shows w n view
      → None ≡ model.place_of name n.sockets → DoesLine w n (on_line w n (CallLine name happens)) false view text text
  no_name n view name text happens shows none = rw (sym none) (shows, refl)

  pub named_call : (n : model.Network C) (new : View C) (name before after : List ℕ) (happens : Event) (place : ℕ)
      (socket : model.ScriptSocket C) → Some place ≡ model.place_of name n.sockets → slice_get n.sockets place ≡ Some socket
      → DoesLine w n (Some (call_at w n place socket happens)) true new before after
      → DoesLine w n (on_line w n (CallLine name happens)) true new before after
  named_call n new name before after happens place socket at there does = rw (sym at, there) does
