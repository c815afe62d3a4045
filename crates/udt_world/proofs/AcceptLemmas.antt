-- What an accept does to a network: the connection that waited first gets its name.
use Rattle.std.proofs.Common.{◌≡◌, ℕ, ◌-◌, ◌<◌, ◌≤◌, true, false, List, [], ◌∷◌, ◌++◌, length, map, Some, Ok, Err, Result, refl, ap, ◌∙◌, sym, arith, option_map}
use Rattle.std.specs.Prelude.{slice_get, slice_set}
use Rattle.std.specs.List.{Contains}
use Rattle.std.proofs.lemmas.List.{append-nil, map-set, length-map, length-set}
use Rattle.std.proofs.lemmas.Option.{slice_get-map}
use Rattle.udt_model.specs.declared.answers.Refusal.{Refusal}
use Rattle.udt_model.specs.Connections.{accept_answer, first_offered}
use Rattle.udt_model.specs.Events.{Accept, Accepted, event}
use Rattle.udt_model.specs.History.{state_of}
use Rattle.udt_model.specs.Lines.{AcceptLine}
use Rattle.udt_model.specs.Network as model
use Rattle.udt_model.specs.Network.{place_of}
use Rattle.udt_model.specs.Phases.{Phase}
use Rattle.udt_model.specs.Phases as phase
use Rattle.udt_model.specs.Rate.{Ways}
use Rattle.udt_model.specs.Script as model_script
use Rattle.udt_model.specs.Script.{event_at, named_by, on_line, with_name}
use Rattle.udt_model.specs.State.{State}
use Rattle.udt_model.specs.Step.{step}
use Rattle.udt_model.specs.Texts.{accept_text, ended, event_text, reply_text, spaced}
use Rattle.udt_model.specs.Words.{is_word}
use Rattle.udt_script.specs.CodeLines.{datagram_of}
use Rattle.udt_world.specs.Done.{DoesLine}
use Rattle.udt_world.specs.declared.network.Network.{Network}
use Rattle.udt_world.specs.declared.network.ScriptSocket.{ScriptSocket}
use Rattle.udt_world.specs.Views.{Moves, Shows, Sight, View, sight_of, sight_of_history, view_of}
use Rattle.udt_world.specs.Wiring.{place_seen, sights_of, waiting_at}
use Rattle.udt_world.proofs.AlikeLemmas.{quiet-same}
use Rattle.udt_world.proofs.EventLemmas.{accept_outs, moves_shown, no_datagrams_text, shown_at}
use Rattle.udt_world.proofs.FirstLemmas.{position-set}
use Rattle.udt_world.proofs.PlaceLemmas.{same_word}
use Rattle.udt_world.proofs.PushLemmas.{first_passes, item_at}
use Rattle.udt_world.proofs.WiredLemmas.{sight-at}

first-waits : (ids : List ℕ) (id : ℕ) → Accepted (Ok id) ≡ Accepted (first_offered ids) → Contains ids id
first-waits [] id is = absurd (cc)
first-waits (first ∷ ids) id is = let same : id ≡ first = cc in rw same (0, omega arith, refl)

waiting-by : (p : Phase) (id : ℕ) → Accepted (Ok id) ≡ Accepted (accept_answer p) → Contains (waiting_at p) id
waiting-by (phase.Listening b) id is = first-waits b.offered id is
waiting-by _ id is = absurd (cc)

module _ {C : Type 0} (old : Network C) (place : ℕ) (socket : ScriptSocket C) (after : State C) where
  -- what is seen once the socket at a place is in this state
  abbrev pub view_with : View C
  view_with = record (view_of old) {
    sockets = map sight_of (slice_set old.sockets.items place (record socket { socket = after }));
  }

  -- there are as many sockets, and each has the name that it had
  pub count_with : length view_with.sockets ≡ length (sights_of old)
  count_with = ap length (map-set sight_of old.sockets.items place (record socket { socket = after }))
      ∙ length-set (sights_of old) place (record (sight_of socket) { state = after })

  pub named_with : (name : List ℕ) → slice_get old.sockets.items place ≡ Some socket
      → place_seen view_with.sockets name ≡ place_seen (sights_of old) name
  named_with name found =
      ap (λ (l : List (Sight C)). place_seen l name) (map-set sight_of old.sockets.items place (record socket { socket = after }))
      ∙ position-set (λ (x : Sight C). is_word x.name name) (sights_of old) place (sight_of socket)
      (record (sight_of socket) { state = after }) (sight-at old place socket found) refl

module _ {C : Type 0} (w : Ways C) where
  -- what an accept gives has waited
  pub accepts_waiting : (s : State C) (now id : ℕ) → Accepted (Ok id) ≡ (step w s (event now Accept)).reply
      → Contains (waiting_at s.phase) id
  unfolding step
  accepts_waiting s now id is = waiting-by s.phase id is

  -- it emits nothing, and neither listens nor meets anybody
  pub accept_moves : (old : Network C) (place now : ℕ) (socket : ScriptSocket C) (after : State C) (answer : Result ℕ Refusal)
      → after ≡ (step w socket.socket (event now Accept)).after
      → Accepted answer ≡ (step w socket.socket (event now Accept)).reply
      → slice_get old.sockets.items place ≡ Some socket
      → Moves w place (event now Accept) (view_of old) (view_with old place socket after)
  accept_moves old place now socket after answer after_is answers found = record {
    sight = sight_of socket;
    hosts = refl;
    found = sight-at old place socket found;
    sockets = map-set sight_of old.sockets.items place (record socket { socket = after })
        ∙ ap (slice_set (sights_of old) place)
        (quiet-same w (sight_of socket) (event now Accept) after (Accepted answer) after_is answers refl refl);
    datagrams = rw (accept_outs w socket.socket now) (sym (append-nil (map datagram_of old.datagrams.items)));
  }

  -- a socket that is renamed is one of the network's
  renamed_shown : (m : model.Network C) (mid new : View C) (id : ℕ) (name : List ℕ) → Shows w m mid → 0 < id
      → id ≤ length mid.sockets
      → ((sight : Sight C) → slice_get mid.sockets (id - 1) ≡ Some sight
      → new ≡ record mid { sockets = slice_set mid.sockets (id - 1) (record sight { name = name }) })
      → Shows w (with_name m id name) new
  renamed_shown m mid new id name shows some few renamed =
      let count : length mid.sockets ≡ length m.sockets =
      ap length shows.sockets_are ∙ length-map m.sockets (sight_of_history w) in
      let known = item_at m.sockets (id - 1) (omega (arith, some, few, count)) in
      let seen : slice_get mid.sockets (id - 1) ≡ Some (sight_of_history w known.0) =
      ap (λ (l : List (Sight C)). slice_get l (id - 1)) shows.sockets_are
      ∙ (slice_get-map (sight_of_history w) m.sockets (id - 1) ∙ ap (option_map (sight_of_history w)) known.1) in
      let is = renamed (sight_of_history w known.0) seen in
      rw known.1 (record {
        hosts_are = ap (λ (v : View C). v.hosts) is ∙ shows.hosts_are;
        sockets_are = ap (λ (v : View C). v.sockets) is
            ∙ (ap (λ (l : List (Sight C)). slice_set l (id - 1) (record (sight_of_history w known.0) { name = name }))
            shows.sockets_are
            ∙ sym (map-set (sight_of_history w) m.sockets (id - 1) (record known.0 { name = name })));
        datagrams_are = ap (λ (v : View C). v.datagrams) is ∙ shows.datagrams_are;
      })

  module _ (n : model.Network C) (old mid : View C) (shows : Shows w n old) (name accepted : List ℕ) (now place : ℕ) (s : Sight C)
      (free : false ≡ model.is_taken accepted n) (at : Some place ≡ place_of name n.sockets)
      (found : slice_get old.sockets place ≡ Some s) (moves : Moves w place (event now Accept) old mid) where
    there : (known : model.ScriptSocket C) × (slice_get n.sockets place ≡ Some known) × (is_word known.name name ≡ true)
    unfolding place_of
    there = first_passes (λ (socket : model.ScriptSocket C). is_word socket.name name) n.sockets place (sym at)

    abbrev known : model.ScriptSocket C
    known = there.0

    known_name : known.name ≡ name
    known_name = same_word known.name name there.2

    abbrev moved : model_script.Printed C
    moved = event_at w n place known (event now Accept)

    moved_shown : Shows w moved.network mid
    moved_shown = moves_shown w n place known (event now Accept) old mid shows there.1 moves

    answers_too : (answer : Result ℕ Refusal) → Accepted answer ≡ (step w s.state (event now Accept)).reply
        → (step w (state_of w known.history) (event now Accept)).reply ≡ Accepted answer
    answers_too answer answers =
        sym (answers ∙ ap (λ (x : Sight C). (step w x.state (event now Accept)).reply)
        (shown_at w n old place s known shows found there.1))

    planned : (answer : Result ℕ Refusal) → Accepted answer ≡ (step w s.state (event now Accept)).reply
        → on_line w n (AcceptLine name now accepted) ≡ Some (named_by w moved known.name accepted (Accepted answer))
    planned answer answers = rw (sym free, sym at, there.1, answers_too answer answers) refl

    moved_text : (answer : Result ℕ Refusal) → Accepted answer ≡ (step w s.state (event now Accept)).reply
        → moved.text ≡ spaced known.name ++ ended (reply_text (Accepted answer))
    unfolding event_at event_text
    moved_text answer answers =
        rw (accept_outs w (state_of w known.history) now, no_datagrams_text (length n.datagrams), answers_too answer answers)
        (append-nil (spaced known.name ++ ended (reply_text (Accepted answer))))

    -- a connection waited
    pub accept_named : (id : ℕ) (new : View C) (before after : List ℕ)
        → Accepted (Ok id) ≡ (step w s.state (event now Accept)).reply → 0 < id → id ≤ length mid.sockets
        → ((sight : Sight C) → slice_get mid.sockets (id - 1) ≡ Some sight
        → new ≡ record mid { sockets = slice_set mid.sockets (id - 1) (record sight { name = accepted }) })
        → after ≡ before ++ accept_text name accepted id
        → DoesLine w n (on_line w n (AcceptLine name now accepted)) true new before after
    accept_named id new before after answers some few renamed text =
        rw (planned (Ok id) answers)
        (renamed_shown moved.network mid new id accepted moved_shown some few renamed, rw known_name text)

    -- none did
    pub accept_refused : (why : Refusal) (before after : List ℕ) → Accepted (Err why) ≡ (step w s.state (event now Accept)).reply
        → after ≡ before ++ (spaced name ++ ended (reply_text (Accepted (Err why))))
        → DoesLine w n (on_line w n (AcceptLine name now accepted)) true mid before after
    accept_refused why before after answers text =
        rw (planned (Err why) answers) (moved_shown, rw (moved_text (Err why) answers, known_name) text)
