-- Entries tell the histories of a network, so that what they say was received and sent is in step.
use Rattle.std.proofs.Common.{◌≡◌, ℕ, zero, suc, ◌+◌, ◌-◌, ◌<◌, ◌^◌, Bool, true, false, not, ◌||◌, List, [], ◌∷◌, ◌++◌, length, map, Some, None, Option, Ok, refl, ap, ◌∙◌, sym, subst, inl, inr, ◌⊎◌, arith, rules, tests, option_map, append_assoc}
use Rattle.std.specs.Prelude.{slice_get, slice_set, if◌then◌else◌, is_some, nat_lt, decimal}
use Rattle.std.specs.List.{Contains}
use Rattle.std.specs.Str.{all_ascii_digits}
use Rattle.std.specs.Char.{is_ascii_digit, is_ascii_lowercase}
use Rattle.std.proofs.lemmas.Fmt.{decimal_injective, digits_decimal}
use Rattle.std.specs.Str.Parse.{digits_value}
use Rattle.std.proofs.lemmas.Str.Parse.{IsNumeralModel, numerals_by_value}
use Rattle.std.proofs.lemmas.Bool.{cases_eq, and_parts, ltb-true}
use Rattle.std.proofs.lemmas.List.{append-nil, map-append}
use Rattle.std.proofs.lemmas.List.Concat.{flat_map-append}
use Rattle.std.proofs.lemmas.List.Elements.{Contains-push_cases}
use Rattle.std.proofs.lemmas.Option.{same_Some, slice_get_within}
use Rattle.udt_model.specs.declared.addresses.Addr.{Addr}
use Rattle.udt_model.specs.declared.packets.Config.{Config}
use Rattle.udt_model.specs.declared.packets.Kind.{Kind}
use Rattle.udt_model.specs.declared.packets.Kind.TheVariants.{Stream, Message}
use Rattle.udt_model.specs.declared.answers.Peer.{Peer}
use Rattle.udt_model.specs.Emissions.{IsPrefix}
use Rattle.udt_model.specs.declared.answers.Heard.TheVariants as heard
use Rattle.udt_model.specs.declared.packets.Shake.{Shake}
use Rattle.udt_model.specs.Events.{Act, Listen, Meet, Accept, Offer, Withdraw, Arrive, Accepted, DidHear, DidTick, Event, Reply, event, outs_of}
use Rattle.udt_model.specs.History.{History, after_items, state_of, happened, taken_by, given_by, accepted_by, delivered_by, accepted, delivered}
use Rattle.udt_model.specs.declared.limits.TheConstants.{MOST_SOCKETS}
use Rattle.udt_model.specs.Lines.{Pairing, OpeningLine, Line, Silent, PairLine, HostLine, OpenLine, AcceptLine, CallLine, DeliverLine, RawLine, read_line, AreEmitted}
use Rattle.udt_model.specs.Network.{ScriptHost, ScriptSocket, ScriptDatagram, Network, empty_network, first_host, second_host, address_of_host, place_of, is_taken, holds_listener, holds_meeting, holds_any_meeting, first_id, Route, ToSocket, Nowhere, route}
use Rattle.udt_model.specs.Opening.{opening, opened}
use Rattle.udt_model.specs.Rate.{Ways}
use Rattle.udt_model.specs.Records.{PairedAt, peer_by, own_peer}
use Rattle.udt_model.specs.Routes.{handshake_in}
use Rattle.udt_model.specs.Script.{Printed, size_of, from_host, paired_socket, paired, may_pair, may_host, may_open, with_host, with_socket, with_name, named_at, named_by, and_then, with_place, opened_at, event_at, event_there, call_by, accept_at, made_for, offered, followed_by, arrived, delivery, on_line, played_line, network_after, printed_after}
use Rattle.udt_model.specs.State.{State}
use Rattle.udt_model.specs.Step.{step}
use Rattle.udt_model.specs.Texts.{datagrams_text, listen_twice_text, meet_taken_text}
use Rattle.udt_model.specs.Wire.{read}
use Rattle.udt_model.specs.Words.{◌>>=◌, is_name, is_word}
use Rattle.udt_model.proofs.HistoryLemmas.{accepted_by-append, delivered_by-append}
use Rattle.udt_model.proofs.PeerLemmas.{own_peer-stays}
use Rattle.udt_laws.proofs.scripts.ReplacedOne.{set-other, set-same, append-found, append-first, append-second, found-once}
use Rattle.udt_laws.proofs.scripts.HostReached.{host-reached}
use Rattle.udt_world.proofs.ScriptLaws.{script_prefix}
use Rattle.udt_world.specs.Kept.{AreAccepted}
use Rattle.udt_world.specs.ScriptLines.{Accepts}
use Rattle.udt_world.specs.Transcripts.{Answer, Replied, ListensTwice, MeetsTaken, Entry, told_text, answer_text, given_in, taken_in, entry_text, given_to, taken_from, received, sent, AreInStep, lines_in, ArePrinted, TellsLine}
use Rattle.udt_world.proofs.ArriveLemmas.{arrive-gives}
use Rattle.udt_world.proofs.MessageLemmas.{happened-gives}
use Rattle.udt_world.specs.Wiring.{IsGiven}
use Rattle.udt_world.proofs.GivenLemmas.{IsAsked, Names, line_names}
use Rattle.udt_world.proofs.QueueLemmas.{queue_of, IsUnnamed, IsQueued, none-queued, added-queued, event-queued, offered-queued, accept-queued}
use Rattle.udt_world.proofs.LineLemmas.{no_lines, accepted-by, left-after}
use Rattle.udt_world.proofs.PlaceLemmas.{same_word, is_same_word, name_there, found_there, place-set, position-first, position-others, position-cons, position-apart, position-here}

-- the entries say of this name nothing
record SaysNothing (name : List ℕ) (entries : List Entry) : Type 0 where
  received : received name entries ≡ []
  sent : sent name entries ≡ []

-- ---- what entries say

received-more : (name : List ℕ) (entries : List Entry) (e : Entry) → received name (entries ++ e ∷ []) ≡ received name entries ++ given_to name (read_line e.line) e.answer
received-more name entries e =
    flat_map-append (λ (entry : Entry). given_to name (read_line entry.line) entry.answer) entries (e ∷ [])
    ∙ ap (λ more. received name entries ++ more) (append-nil (given_to name (read_line e.line) e.answer))

sent-more : (name : List ℕ) (entries : List Entry) (e : Entry) → sent name (entries ++ e ∷ []) ≡ sent name entries ++ taken_from name (read_line e.line) e.answer
sent-more name entries e =
    flat_map-append (λ (entry : Entry). taken_from name (read_line entry.line) entry.answer) entries (e ∷ [])
    ∙ ap (λ more. sent name entries ++ more) (append-nil (taken_from name (read_line e.line) e.answer))

-- an entry tells this of a name
record Adds (name : List ℕ) (e : Entry) (gave took : List ℕ) : Type 0 where
  gives : given_to name (read_line e.line) e.answer ≡ gave
  takes : taken_from name (read_line e.line) e.answer ≡ took

says-nothing-on : (name : List ℕ) (entries : List Entry) (e : Entry) → Adds name e [] [] → SaysNothing name entries → SaysNothing name (entries ++ e ∷ [])
says-nothing-on name entries e adds says = record {
  received = received-more name entries e ∙ (rw adds.gives (append-nil (received name entries)) ∙ says.received);
  sent = sent-more name entries e ∙ (rw adds.takes (append-nil (sent name entries)) ∙ says.sent);
}

-- ---- quiet lines

-- a line that is no call and no pair
record IsQuiet (line : List ℕ) : Type 0 where
  answers : (answer : Answer) → answer_text (read_line line) answer ≡ []
  gives : (name : List ℕ) (answer : Answer) → given_to name (read_line line) answer ≡ []
  takes : (name : List ℕ) (answer : Answer) → taken_from name (read_line line) answer ≡ []
  no_pair : (p : Pairing) → read_line line ≡ Some (PairLine p) → ⊥

entry_of : List ℕ → List ℕ → Entry
entry_of line text = record { line = line; answer = Replied DidTick; rest = text }

no_matter : (b : Bool) (xs : List ℕ) → xs ≡ [] → (if b then xs else []) ≡ []
no_matter true xs none = none
no_matter false xs none = refl

-- the form is no call and no pair
abbrev IsQuietForm : Line → Type 0
IsQuietForm (PairLine pairing) = ⊥
IsQuietForm (CallLine name event) = ⊥
IsQuietForm form = Unit {0}

quiet-form : (line : List ℕ) (form : Line) → IsQuietForm form → read_line line ≡ Some form → IsQuiet line
quiet-form line (PairLine pairing) is reads = absurd is
quiet-form line (CallLine name event) is reads = absurd is
quiet-form line form is reads = record {
  answers = λ answer. rw reads refl;
  gives = λ name answer. rw reads refl;
  takes = λ name answer. rw reads refl;
  no_pair = λ p pairs. cc;
}

-- ---- two sockets

two-found : {X : Type 0} (a b x : X) (j : ℕ) → slice_get (a ∷ b ∷ []) j ≡ Some x → ((j ≡ 0) × (a ≡ x)) ⊎ ((j ≡ 1) × (b ≡ x))
two-found a b x zero found = inl (refl, cc)
two-found a b x (suc zero) found = inr (refl, cc)
two-found a b x (suc (suc j)) found = absurd (cc)

same_pairing : (p other : Pairing) → Some (PairLine p) ≡ Some (PairLine other) → p ≡ other
same_pairing p other is = cc

not_taken : (o : Option ℕ) (host : Bool) → not (is_some o || host) ≡ true → o ≡ None
not_taken None host is = refl
not_taken (Some k) host is = absurd (cc)

not_free : (o : Option ℕ) (host : Bool) → is_some o || host ≡ false → o ≡ None
not_free None host is = refl
not_free (Some k) host is = absurd (cc)

one-found : {X : Type 0} (a x : X) (j : ℕ) → slice_get (a ∷ []) j ≡ Some x → (j ≡ 0) × (a ≡ x)
one-found a x zero found = (refl, cc)
one-found a x (suc j) found = absurd (cc)

is_false : (b : Bool) → not b ≡ true → b ≡ false
is_false true is = absurd (cc)
is_false false is = refl

no_socket : {X : Type 0} (k : ℕ) (x : X) → slice_get [] k ≡ Some x → ⊥
no_socket k x at = cc

true-false : true ≡ false → ⊥
true-false is = cc

digit-no_letter : (c : ℕ) → is_ascii_digit c ≡ true → is_ascii_lowercase c ≡ false
digit-no_letter c digit = grind (arith, tests)

numerals : IsNumeralModel (λ ds. all_ascii_digits ds ≡ true) (digits_value 10)
numerals = numerals_by_value _ (search rules)

number-digits : (n : ℕ) → n < 2 ^ 64 → all_ascii_digits (decimal n) ≡ true
number-digits n few = digits_decimal numerals n few

module _ {C : Type 0} (w : Ways C) where
  -- the entries say of this name what the history says, which gave no bytes of a stream where the socket carries messages
  record Says (name : List ℕ) (entries : List Entry) (h : History C) : Type 0 where
    received : received name entries ≡ delivered h
    sent : sent name entries ≡ accepted h
    none : h.opening.kind ≡ Message → delivered h ≡ []

  -- a socket at this place began as this one did
  record BeganAs (n : Network C) (place : ℕ) (fresh : ScriptSocket C) : Type 0 where
    socket : ScriptSocket C
    at : slice_get n.sockets place ≡ Some socket
    name : socket.name ≡ fresh.name
    host : socket.host ≡ fresh.host
    opened : socket.history.opening ≡ fresh.history.opening

  -- two sockets began as a pair
  record HasPair (n : Network C) (p : Pairing) : Type 0 where
    place : ℕ
    first : BeganAs n place (paired_socket w p p.a first_host (place + 1) second_host (place + 2))
    second : BeganAs n (place + 1) (paired_socket w p p.b second_host (place + 2) first_host (place + 1))

  -- the entries tell the network
  pub record IsTold (n : Network C) (entries : List Entry) : Type 0 where
    sockets : (k : ℕ) (socket : ScriptSocket C) → slice_get n.sockets k ≡ Some socket → Says socket.name entries socket.history
    places : (k : ℕ) (socket : ScriptSocket C) → slice_get n.sockets k ≡ Some socket → place_of socket.name n.sockets ≡ Some k
    given : (k : ℕ) (socket : ScriptSocket C) → slice_get n.sockets k ≡ Some socket → IsGiven k socket.name
    queued : IsQueued w n
    others : (name : List ℕ) → place_of name n.sockets ≡ None → SaysNothing name entries
    pairs : (entry : Entry) (p : Pairing) → Contains entries entry → read_line entry.line ≡ Some (PairLine p) → HasPair n p

  -- ---- one more entry

  says-on : (name : List ℕ) (entries : List Entry) (e : Entry) (h : History C) → Adds name e [] [] → Says name entries h → Says name (entries ++ e ∷ []) h
  says-on name entries e h adds says = record {
    received = received-more name entries e ∙ (rw adds.gives (append-nil (received name entries)) ∙ says.received);
    sent = sent-more name entries e ∙ (rw adds.takes (append-nil (sent name entries)) ∙ says.sent);
    none = says.none;
  }

  delivered-happened : (h : History C) (event : Event) → delivered (happened w h 0 event) ≡ delivered h ++ given_by (step w (state_of w h) event).reply
  unfolding delivered_by
  delivered-happened h event = delivered_by-append h.items _ ∙ ap (λ more. delivered h ++ more) (append-nil (given_by (step w (state_of w h) event).reply))

  accepted-happened : (h : History C) (event : Event) → accepted (happened w h 0 event) ≡ accepted h ++ taken_by event.act (step w (state_of w h) event).reply
  unfolding accepted_by
  accepted-happened h event = accepted_by-append h.items _ ∙ ap (λ more. accepted h ++ more) (append-nil (taken_by event.act (step w (state_of w h) event).reply))

  pairs-on : (n : Network C) (entries : List Entry) (e : Entry) → ((p : Pairing) → read_line e.line ≡ Some (PairLine p) → HasPair n p)
      → ((entry : Entry) (p : Pairing) → Contains entries entry → read_line entry.line ≡ Some (PairLine p) → HasPair n p)
      → (entry : Entry) (p : Pairing) → Contains (entries ++ e ∷ []) entry → read_line entry.line ≡ Some (PairLine p) → HasPair n p
  pairs-on n entries e new old entry p among reads = elim (Contains-push_cases entries e entry among) [
    | inl before ↦ old entry p before reads
    | inr last ↦ new p (ap (λ (x : Entry). read_line x.line) last ∙ reads)
  ]

  -- an entry that tells nothing of any name
  quiet : (n : Network C) (entries : List Entry) (e : Entry) → ((name : List ℕ) → Adds name e [] []) → ((p : Pairing) → read_line e.line ≡ Some (PairLine p) → HasPair n p)
      → IsTold n entries → IsTold n (entries ++ e ∷ [])
  quiet n entries e adds new told = record {
    sockets = λ k socket at. says-on socket.name entries e socket.history (adds socket.name) (told.sockets k socket at);
    places = told.places;
    given = told.given;
    queued = told.queued;
    others = λ name none. says-nothing-on name entries e (adds name) (told.others name none);
    pairs = pairs-on n entries e new told.pairs;
  }

  -- entries tell more of one name, and of no other
  record SayMore (name gave took : List ℕ) (entries later : List Entry) : Type 0 where
    received : (other : List ℕ) → received other later ≡ received other entries ++ (if is_word name other then gave else [])
    sent : (other : List ℕ) → sent other later ≡ sent other entries ++ (if is_word name other then took else [])
    pairs : (entry : Entry) (p : Pairing) → Contains later entry → read_line entry.line ≡ Some (PairLine p) → Contains entries entry

  one-says : (name gave took : List ℕ) (entries : List Entry) (e : Entry)
      → ((other : List ℕ) → Adds other e (if is_word name other then gave else []) (if is_word name other then took else []))
      → ((p : Pairing) → read_line e.line ≡ Some (PairLine p) → ⊥) → SayMore name gave took entries (entries ++ e ∷ [])
  one-says name gave took entries e adds no_pair = record {
    received = λ other. received-more other entries e ∙ ap (λ more. received other entries ++ more) (adds other).gives;
    sent = λ other. sent-more other entries e ∙ ap (λ more. sent other entries ++ more) (adds other).takes;
    pairs = λ entry p among reads. elim (Contains-push_cases entries e entry among) [
      | inl before ↦ before
      | inr last ↦ absurd (no_pair p (ap (λ (x : Entry). read_line x.line) last ∙ reads))
    ];
  }

  none-says : (name gave took : List ℕ) (entries : List Entry) → gave ≡ [] → took ≡ [] → SayMore name gave took entries entries
  none-says name gave took entries gives takes = record {
    received = λ other. sym (ap (λ more. received other entries ++ more) (no_matter (is_word name other) gave gives) ∙ append-nil (received other entries));
    sent = λ other. sym (ap (λ more. sent other entries ++ more) (no_matter (is_word name other) took takes) ∙ append-nil (sent other entries));
    pairs = λ entry p among reads. among;
  }

  -- and nothing of a name
  record SaySame (name : List ℕ) (entries later : List Entry) : Type 0 where
    received : received name later ≡ received name entries
    sent : sent name later ≡ sent name entries

  same-says : (name : List ℕ) (entries later : List Entry) (h : History C) → SaySame name entries later → Says name entries h → Says name later h
  same-says name entries later h same says =
      record { received = same.received ∙ says.received; sent = same.sent ∙ says.sent; none = says.none }

  -- ---- events

  module _ (n : Network C) (entries : List Entry) (told : IsTold n entries) (k : ℕ) (socket : ScriptSocket C) (event : Event) (at : slice_get n.sockets k ≡ Some socket) where
    abbrev later : ScriptSocket C
    later = record socket { history = happened w socket.history 0 event }

    abbrev gave : List ℕ
    gave = given_by (step w (state_of w socket.history) event).reply

    abbrev took : List ℕ
    took = taken_by event.act (step w (state_of w socket.history) event).reply

    began-on : (place : ℕ) (fresh : ScriptSocket C) → BeganAs n place fresh → BeganAs (event_at w n k socket event).network place fresh
    unfolding event_at
    began-on place fresh began = elim (cases_eq k place) [
      | inl same ↦
          let one = found-once n.sockets place socket began.socket (subst (λ (j : ℕ). slice_get n.sockets j ≡ Some socket) same at) began.at in
          let there = subst (λ (j : ℕ). slice_get (slice_set n.sockets k later) j ≡ Some later) same (set-same n.sockets k socket later at) in
          record {
            socket = later;
            at = there;
            name = ap (λ (s : ScriptSocket C). s.name) one ∙ began.name;
            host = ap (λ (s : ScriptSocket C). s.host) one ∙ began.host;
            opened = ap (λ (s : ScriptSocket C). s.history.opening) one ∙ began.opened;
          }
      | inr apart ↦ record {
        socket = began.socket;
        at = set-other n.sockets k place later apart ∙ began.at;
        name = began.name;
        host = began.host;
        opened = began.opened;
      }
    ]

    event-there : slice_get (event_at w n k socket event).network.sockets k ≡ Some later
    unfolding event_at
    event-there = set-same n.sockets k socket later at

    -- another name has another place
    another : (name : List ℕ) (found : Option ℕ) → place_of name n.sockets ≡ found → (found ≡ Some k → ⊥) → is_word socket.name name ≡ false
    another name found place apart =
        elim (is_word socket.name name) as (λ b. is_word socket.name name ≡ b → b ≡ false) [
          | true ↦ λ e.
              let same = same_word socket.name name e in
              absurd (apart (sym place ∙ (ap (λ word. place_of word n.sockets) (sym same) ∙ told.places k socket at)))
          | false ↦ λ e. refl
        ] refl

    -- the entries tell of the socket's name what the event gave and took
    event-told : (longer : List Entry) → SayMore socket.name gave took entries longer → IsQueued w (event_at w n k socket event).network
        → IsTold (event_at w n k socket event).network longer
    unfolding event_at
    event-told longer more queued =
        let silent : (name : List ℕ) → is_word socket.name name ≡ false → SaySame name entries longer = λ name other. record {
          received = more.received name ∙ (rw other (append-nil (received name entries)));
          sent = more.sent name ∙ (rw other (append-nil (sent name entries)));
        } in
        let own = is_same_word socket.name in
        let says = told.sockets k socket at in
        let mine : Says socket.name longer later.history = record {
          received = more.received socket.name ∙ (rw (own, says.received) (sym (delivered-happened socket.history event)));
          sent = more.sent socket.name ∙ (rw (own, says.sent) (sym (accepted-happened socket.history event)));
          none = λ carries. delivered-happened socket.history event ∙ rw (says.none carries, happened-gives w socket.history event carries) refl;
        } in
        let there : (j : ℕ) → k ≡ j → slice_get (slice_set n.sockets k later) j ≡ Some later =
        λ j same. subst (λ (i : ℕ). slice_get (slice_set n.sockets k later) i ≡ Some later) same (set-same n.sockets k socket later at) in
        record {
          sockets = λ j found found_at. elim (cases_eq k j) [
            | inl same ↦ subst (λ (s : ScriptSocket C). Says s.name longer s.history) (found-once _ j later found (there j same) found_at) mine
            | inr apart ↦
                let old = sym (set-other n.sockets k j later apart) ∙ found_at in
                let other = another found.name (Some j) (told.places j found old) (λ (same : Some j ≡ Some k). apart (sym (same_Some j k same))) in
                same-says found.name entries longer found.history (silent found.name other) (told.sockets j found old)
          ];
          places = λ j found found_at. place-set found.name n.sockets k socket later at refl ∙ (elim (cases_eq k j) [
            | inl same ↦
                let one = found-once _ j later found (there j same) found_at in
                ap (λ (s : ScriptSocket C). place_of s.name n.sockets) (sym one) ∙ (told.places k socket at ∙ ap Some same)
            | inr apart ↦ told.places j found (sym (set-other n.sockets k j later apart) ∙ found_at)
          ]);
          given = λ j found found_at. elim (cases_eq k j) [
            | inl same ↦
                let one = found-once _ j later found (there j same) found_at in
                subst (λ (s : ScriptSocket C). IsGiven j s.name) one (subst (λ (i : ℕ). IsGiven i socket.name) same (told.given k socket at))
            | inr apart ↦ told.given j found (sym (set-other n.sockets k j later apart) ∙ found_at)
          ];
          queued = queued;
          others = λ name none.
              let before : place_of name n.sockets ≡ None = sym (place-set name n.sockets k socket later at refl) ∙ none in
              let same = silent name (another name None before (λ same. absurd (cc))) in
              let says = told.others name before in
              record { received = same.received ∙ says.received; sent = same.sent ∙ says.sent };
          pairs = λ entry p among reads.
              let pair = told.pairs entry p (more.pairs entry p among reads) reads in
              record { place = pair.place; first = began-on pair.place _ pair.first; second = began-on (pair.place + 1) _ pair.second };
        }

    -- an event that gives and takes no bytes, and by which nothing comes to wait
    silent-told : gave ≡ [] → took ≡ [] → ((id : ℕ) → event.act ≡ Offer id → ⊥) → IsTold (event_at w n k socket event).network entries
    silent-told gives takes no_offer =
        event-told entries (none-says socket.name gave took entries gives takes) (event-queued w n k socket event at no_offer told.queued)

  -- ---- lines

  -- what a line printed is an entry, with which the entries tell what it left
  pub record Made (line : List ℕ) (entries : List Entry) (p : Printed C) : Type 0 where
    pub entry : Entry
    pub line_is : entry.line ≡ line
    pub text : entry_text entry ≡ p.text
    pub told : IsTold p.network (entries ++ entry ∷ [])

  -- a quiet line leaves what is told without it
  quiet-made : (entries : List Entry) (line : List ℕ) (p : Printed C) → IsQuiet line → IsTold p.network entries → Made line entries p
  unfolding entry_of
  quiet-made entries line p is told = record {
    entry = entry_of line p.text;
    line_is = refl;
    text = rw (is.answers (Replied DidTick)) refl;
    told = quiet p.network entries (entry_of line p.text)
        (λ name. record { gives = is.gives name (Replied DidTick); takes = is.takes name (Replied DidTick) }) (λ p reads. absurd (is.no_pair p reads)) told;
  }

  -- ---- calls

  -- no call of a line is an offer
  called-no_offer : (line name : List ℕ) (now : ℕ) (act : Act) (id : ℕ) → read_line line ≡ Some (CallLine name (event now act)) → act ≡ Offer id → ⊥
  called-no_offer line name now act id reads is =
      subst IsAsked is ((line_names line).given (CallLine name (event now act)) reads).1

  -- a call is answered by the socket of its name
  call-made : (n : Network C) (entries : List Entry) (line name : List ℕ) (now : ℕ) (act : Act) (k : ℕ) (socket : ScriptSocket C)
      → read_line line ≡ Some (CallLine name (event now act)) → socket.name ≡ name → slice_get n.sockets k ≡ Some socket → IsTold n entries
      → Made line entries (event_at w n k socket (event now act))
  unfolding event_at
  call-made n entries line name now act k socket reads named at told =
      let reply = (step w (state_of w socket.history) (event now act)).reply in
      let entry : Entry = record {
        line = line;
        answer = Replied reply;
        rest = datagrams_text (length n.datagrams) (map (from_host socket.host) (outs_of (step w (state_of w socket.history) (event now act))));
      } in
      record {
        entry = entry;
        line_is = refl;
        text = rw (reads, ← named) refl;
        told = event-told n entries told k socket (event now act) at (entries ++ entry ∷ [])
            (one-says socket.name _ _ entries entry (λ other. record { gives = rw (reads, ← named) refl; takes = rw (reads, ← named) refl }) (λ p pairs. absurd (cc)))
            (event-queued w n k socket (event now act) at (λ id. called-no_offer line name now act id reads) told.queued);
      }

  -- or its place is taken, and nothing happens
  taken-made : (n : Network C) (entries : List Entry) (line name : List ℕ) (now : ℕ) (act : Act) (answer : Answer)
      → read_line line ≡ Some (CallLine name (event now act)) → given_in answer ≡ [] → taken_in act answer ≡ [] → IsTold n entries
      → Made line entries (record { network = n; text = told_text name act answer })
  taken-made n entries line name now act answer reads gives takes told =
      let entry : Entry = record { line = line; answer = answer; rest = [] } in
      record {
        entry = entry;
        line_is = refl;
        text = rw reads (append-nil (told_text name act answer));
        told = quiet n entries entry (λ other. record {
          gives = rw reads (no_matter (is_word name other) (given_in answer) gives);
          takes = rw reads (no_matter (is_word name other) (taken_in act answer) takes);
        }) (λ p pairs. absurd (cc)) told;
      }

  call_by-made : (n : Network C) (entries : List Entry) (line : List ℕ) (now : ℕ) (act : Act) (k : ℕ) (socket : ScriptSocket C)
      → read_line line ≡ Some (CallLine socket.name (event now act)) → slice_get n.sockets k ≡ Some socket → IsTold n entries
      → Made line entries (call_by w n k socket now act)
  call_by-made n entries line now (Listen most secret) k socket reads at told =
      elim (is_some (first_id (holds_listener w socket.host) n.sockets)) as (λ held. Made line entries (
      if held then record { network = n; text = listen_twice_text socket.name } else event_at w n k socket (event now (Listen most secret)))) [
        | true ↦ taken-made n entries line socket.name now (Listen most secret) ListensTwice reads refl refl told
        | false ↦ call-made n entries line socket.name now (Listen most secret) k socket reads refl at told
      ]
  call_by-made n entries line now (Meet to) k socket reads at told =
      elim (is_some (first_id (holds_meeting w socket.host to) n.sockets) || holds_any_meeting w socket) as (λ held. Made line entries (
      if held then record { network = n; text = meet_taken_text socket.name } else event_at w n k socket (event now (Meet to)))) [
        | true ↦ taken-made n entries line socket.name now (Meet to) MeetsTaken reads refl refl told
        | false ↦ call-made n entries line socket.name now (Meet to) k socket reads refl at told
      ]
  call_by-made n entries line now act k socket reads at told = call-made n entries line socket.name now act k socket reads refl at told

  call-found : (n : Network C) (entries : List Entry) (line name : List ℕ) (event : Event) (k : ℕ) (found : Option (ScriptSocket C)) (p : Printed C)
      → read_line line ≡ Some (CallLine name event) → place_of name n.sockets ≡ Some k → slice_get n.sockets k ≡ found
      → option_map (λ socket. call_by w n k socket event.now event.act) found ≡ Some p → IsTold n entries → Made line entries p
  call-found n entries line name event k None p reads place at is told = absurd (cc)
  call-found n entries line name event k (Some socket) p reads place at is told =
      let named = name_there name n.sockets k socket place at in
      subst (Made line entries) (same_Some _ p is) (call_by-made n entries line event.now event.act k socket (rw named reads) at told)

  call-there : (n : Network C) (entries : List Entry) (line name : List ℕ) (event : Event) (found : Option ℕ) (p : Printed C)
      → read_line line ≡ Some (CallLine name event) → place_of name n.sockets ≡ found
      → with_place w n (λ place socket. call_by w n place socket event.now event.act) found ≡ Some p → IsTold n entries → Made line entries p
  call-there n entries line name event None p reads place is told = absurd (cc)
  call-there n entries line name event (Some k) p reads place is told = call-found n entries line name event k (slice_get n.sockets k) p reads place refl is told

  -- nothing was said of a new name, and nothing happened to its socket
  new-says : (name : List ℕ) (entries : List Entry) (h : History C) → h.items ≡ [] → SaysNothing name entries → Says name entries h
  unfolding delivered_by accepted_by
  new-says name entries h none says = record { received = rw none says.received; sent = rw none says.sent; none = λ carries. rw none refl }

  -- ---- pairs

  module _ (n : Network C) (p : Pairing) (no_a : place_of p.a n.sockets ≡ None) (no_b : place_of p.b n.sockets ≡ None) (differ : is_word p.a p.b ≡ false) where
    abbrev first_one : ScriptSocket C
    first_one = paired_socket w p p.a first_host (length n.sockets + 1) second_host (length n.sockets + 2)

    abbrev second_one : ScriptSocket C
    second_one = paired_socket w p p.b second_host (length n.sockets + 2) first_host (length n.sockets + 1)

    abbrev with_both : List (ScriptSocket C)
    with_both = n.sockets ++ first_one ∷ second_one ∷ []

    old-place : (name : List ℕ) (k : ℕ) → place_of name n.sockets ≡ Some k → place_of name with_both ≡ Some k
    unfolding place_of
    old-place name k is = position-first (λ (s : ScriptSocket C). is_word s.name name) n.sockets (first_one ∷ second_one ∷ []) k is

    first-place : place_of p.a with_both ≡ Some (length n.sockets)
    unfolding place_of
    first-place =
        let test : ScriptSocket C → Bool = λ s. is_word s.name p.a in
        let none : length n.sockets + 0 ≡ length n.sockets = omega arith in
        position-others test n.sockets (first_one ∷ second_one ∷ []) no_a
        ∙ rw (position-cons test first_one (second_one ∷ []), is_same_word p.a, none) refl

    second-place : place_of p.b with_both ≡ Some (length n.sockets + 1)
    unfolding place_of
    second-place =
        let test : ScriptSocket C → Bool = λ s. is_word s.name p.b in
        position-others test n.sockets (first_one ∷ second_one ∷ []) no_b
        ∙ rw (position-cons test first_one (second_one ∷ []), differ, position-cons test second_one [], is_same_word p.b) refl

    no-place : (name : List ℕ) (found : Option ℕ) → place_of name n.sockets ≡ found → place_of name with_both ≡ None → found ≡ None
    no-place name None is none = refl
    no-place name (Some k) is none = absurd (let there = old-place name k is in cc)

    began-first : (place : ℕ) (fresh : ScriptSocket C) → BeganAs n place fresh → BeganAs (paired w n p).network place fresh
    unfolding paired
    began-first place fresh began = record {
      socket = began.socket;
      at = append-first n.sockets _ place began.socket began.at;
      name = began.name;
      host = began.host;
      opened = began.opened;
    }

    the-pair : HasPair (paired w n p).network p
    unfolding paired
    the-pair = record {
      place = length n.sockets;
      first = record { socket = first_one; at = append-second n.sockets _ (length n.sockets) 0 first_one (omega arith) refl; name = refl; host = refl; opened = refl };
      second = record { socket = second_one; at = append-second n.sockets _ (length n.sockets + 1) 1 second_one refl refl; name = refl; host = refl; opened = refl };
    }

    pair-queued : IsQueued w n → IsQueued w (paired w n p).network
    unfolding paired after_items opening
    pair-queued queued =
        let one = added-queued w n first_one refl queued in
        let two = added-queued w (with_socket n first_one) second_one refl one in
        subst (λ (sockets : List (ScriptSocket C)). IsQueued w (record n { sockets = sockets }))
        (append_assoc n.sockets (first_one ∷ []) (second_one ∷ [])) two

    pair-told : (entries : List Entry) (e : Entry) → read_line e.line ≡ Some (PairLine p) → IsTold n entries → IsTold (paired w n p).network (entries ++ e ∷ [])
    unfolding paired
    pair-told entries e reads told =
        let adds : (name : List ℕ) → Adds name e [] [] = λ name. record { gives = rw reads refl; takes = rw reads refl } in
        record {
          sockets = λ k socket at. elim (append-found n.sockets (first_one ∷ second_one ∷ []) k socket at) [
            | inl old ↦ says-on socket.name entries e socket.history (adds socket.name) (told.sockets k socket old)
            | inr past ↦ elim (two-found first_one second_one socket past.0 past.2) [
              | inl one ↦ subst (λ (s : ScriptSocket C). Says s.name (entries ++ e ∷ []) s.history) one.1
                  (new-says p.a (entries ++ e ∷ []) first_one.history refl (says-nothing-on p.a entries e (adds p.a) (told.others p.a no_a)))
              | inr two ↦ subst (λ (s : ScriptSocket C). Says s.name (entries ++ e ∷ []) s.history) two.1
                  (new-says p.b (entries ++ e ∷ []) second_one.history refl (says-nothing-on p.b entries e (adds p.b) (told.others p.b no_b)))
            ]
          ];
          places = λ k socket at. elim (append-found n.sockets (first_one ∷ second_one ∷ []) k socket at) [
            | inl old ↦ old-place socket.name k (told.places k socket old)
            | inr past ↦ elim (two-found first_one second_one socket past.0 past.2) [
              | inl one ↦
                  let place : length n.sockets ≡ k = omega (arith, past.1, one.0) in
                  ap (λ (s : ScriptSocket C). place_of s.name with_both) (sym one.1) ∙ (first-place ∙ ap Some place)
              | inr two ↦
                  let place : length n.sockets + 1 ≡ k = omega (arith, past.1, two.0) in
                  ap (λ (s : ScriptSocket C). place_of s.name with_both) (sym two.1) ∙ (second-place ∙ ap Some place)
            ]
          ];
          given = λ k socket at. elim (append-found n.sockets (first_one ∷ second_one ∷ []) k socket at) [
            | inl old ↦ told.given k socket old
            | inr past ↦ elim (two-found first_one second_one socket past.0 past.2) [
              | inl one ↦ subst (λ (s : ScriptSocket C). IsGiven k s.name) one.1 (inr ((line_names e.line).given (PairLine p) reads).0)
              | inr two ↦ subst (λ (s : ScriptSocket C). IsGiven k s.name) two.1 (inr ((line_names e.line).given (PairLine p) reads).1)
            ]
          ];
          queued = pair-queued told.queued;
          others = λ name none. says-nothing-on name entries e (adds name) (told.others name (no-place name (place_of name n.sockets) refl none));
          pairs = pairs-on (paired w n p).network entries e
              (λ other is. subst (HasPair (paired w n p).network) (same_pairing p other (sym reads ∙ is)) the-pair)
              (λ entry other among is.
              let pair = told.pairs entry other among is in
              record { place = pair.place; first = began-first pair.place _ pair.first; second = began-first (pair.place + 1) _ pair.second });
        }

  pair-made : (n : Network C) (entries : List Entry) (line : List ℕ) (pairing : Pairing) (p : Printed C) → read_line line ≡ Some (PairLine pairing)
      → (if may_pair n pairing then Some (paired w n pairing) else None) ≡ Some p → IsTold n entries → Made line entries p
  unfolding entry_of
  pair-made n entries line pairing p reads is told =
      elim (may_pair n pairing) as (λ may. may_pair n pairing ≡ may → (if may then Some (paired w n pairing) else None) ≡ Some p → Made line entries p) [
        | true ↦ λ test e.
            let parts = and_parts _ _ test in
            let two = and_parts _ _ parts.0 in
            let three = and_parts _ _ two.0 in
            let entry = entry_of line (paired w n pairing).text in
            subst (Made line entries) (same_Some _ p e) (record {
              entry = entry;
              line_is = refl;
              text = rw reads refl;
              told = pair-told n pairing (not_taken _ _ two.1) (not_taken _ _ parts.1) (is_false _ three.1) entries entry reads told;
            })
        | false ↦ λ test e. absurd (cc)
      ] refl is

  -- ---- hosts and sockets

  began-hosted : (n : Network C) (hosts : List ScriptHost) (place : ℕ) (fresh : ScriptSocket C) → BeganAs n place fresh
      → BeganAs (record n { hosts = hosts }) place fresh
  began-hosted n hosts place fresh began =
      record { socket = began.socket; at = began.at; name = began.name; host = began.host; opened = began.opened }

  hosted-told : (n : Network C) (entries : List Entry) (hosts : List ScriptHost) → IsTold n entries → IsTold (record n { hosts = hosts }) entries
  hosted-told n entries hosts told = record {
    sockets = told.sockets;
    places = told.places;
    given = told.given;
    queued = record {
      unnamed = λ k id s at waits.
          let is = told.queued.unnamed k id s at waits in
          record { positive = is.positive; socket = is.socket; at = is.at; unnamed = is.unnamed };
      once = told.queued.once;
    };
    others = told.others;
    pairs = λ entry p among reads.
        let pair = told.pairs entry p among reads in
        record {
          place = pair.place;
          first = began-hosted n hosts pair.place _ pair.first;
          second = began-hosted n hosts (pair.place + 1) _ pair.second;
        };
  }

  host-made : (n : Network C) (entries : List Entry) (line name : List ℕ) (addr : Addr) (p : Printed C) → IsQuiet line
      → (if may_host n name addr then Some (with_host n name addr) else None) ≡ Some p → IsTold n entries → Made line entries p
  host-made n entries line name addr p quietly is told =
      elim (may_host n name addr) as (λ may. (if may then Some (with_host n name addr) else None) ≡ Some p → Made line entries p) [
        | true ↦ λ e. subst (Made line entries) (same_Some _ p e) (quiet-made entries line (with_host n name addr) quietly (hosted-told n entries _ told))
        | false ↦ λ e. absurd (cc)
      ] is

  added-place : (n : Network C) (fresh : ScriptSocket C) (name : List ℕ) (k : ℕ) → place_of name n.sockets ≡ Some k
      → place_of name (n.sockets ++ fresh ∷ []) ≡ Some k
  unfolding place_of
  added-place n fresh name k is = position-first (λ (s : ScriptSocket C). is_word s.name name) n.sockets (fresh ∷ []) k is

  last-place : (n : Network C) (fresh : ScriptSocket C) → place_of fresh.name n.sockets ≡ None
      → place_of fresh.name (n.sockets ++ fresh ∷ []) ≡ Some (length n.sockets)
  unfolding place_of
  last-place n fresh none =
      let test : ScriptSocket C → Bool = λ s. is_word s.name fresh.name in
      let same : length n.sockets + 0 ≡ length n.sockets = omega arith in
      position-others test n.sockets (fresh ∷ []) none ∙ rw (position-cons test fresh [], is_same_word fresh.name, same) refl

  none-before : (n : Network C) (fresh : ScriptSocket C) (name : List ℕ) (found : Option ℕ) → place_of name n.sockets ≡ found
      → place_of name (n.sockets ++ fresh ∷ []) ≡ None → found ≡ None
  none-before n fresh name None is none = refl
  none-before n fresh name (Some k) is none = absurd (let there = added-place n fresh name k is in cc)

  began-added : (n : Network C) (added : ScriptSocket C) (place : ℕ) (fresh : ScriptSocket C) → BeganAs n place fresh
      → BeganAs (with_socket n added) place fresh
  began-added n added place fresh began = record {
    socket = began.socket;
    at = append-first n.sockets (added ∷ []) place began.socket began.at;
    name = began.name;
    host = began.host;
    opened = began.opened;
  }

  -- a socket of a new name is added
  added-told : (n : Network C) (entries : List Entry) (fresh : ScriptSocket C) → place_of fresh.name n.sockets ≡ None → fresh.history.items ≡ []
      → queue_of w fresh ≡ [] → IsGiven (length n.sockets) fresh.name → IsTold n entries → IsTold (with_socket n fresh) entries
  added-told n entries fresh no_place none waits given told =
      let old_place : (name : List ℕ) (k : ℕ) → place_of name n.sockets ≡ Some k → place_of name (n.sockets ++ fresh ∷ []) ≡ Some k = added-place n fresh in
      record {
        sockets = λ k socket at. elim (append-found n.sockets (fresh ∷ []) k socket at) [
          | inl old ↦ told.sockets k socket old
          | inr past ↦ subst (λ (s : ScriptSocket C). Says s.name entries s.history) (one-found fresh socket past.0 past.2).1
              (new-says fresh.name entries fresh.history none (told.others fresh.name no_place))
        ];
        places = λ k socket at. elim (append-found n.sockets (fresh ∷ []) k socket at) [
          | inl old ↦ old_place socket.name k (told.places k socket old)
          | inr past ↦
              let one = one-found fresh socket past.0 past.2 in
              let place : length n.sockets ≡ k = omega (arith, past.1, one.0) in
              ap (λ (s : ScriptSocket C). place_of s.name (n.sockets ++ fresh ∷ [])) (sym one.1) ∙ (last-place n fresh no_place ∙ ap Some place)
        ];
        given = λ k socket at. elim (append-found n.sockets (fresh ∷ []) k socket at) [
          | inl old ↦ told.given k socket old
          | inr past ↦
              let one = one-found fresh socket past.0 past.2 in
              let place : length n.sockets ≡ k = omega (arith, past.1, one.0) in
              subst (λ (s : ScriptSocket C). IsGiven k s.name) one.1 (subst (λ (i : ℕ). IsGiven i fresh.name) place given)
        ];
        queued = added-queued w n fresh waits told.queued;
        others = λ name nothing. told.others name (none-before n fresh name (place_of name n.sockets) refl nothing);
        pairs = λ entry p among reads.
            let pair = told.pairs entry p among reads in
            record { place = pair.place; first = began-added n fresh pair.place _ pair.first; second = began-added n fresh (pair.place + 1) _ pair.second };
      }

  opened-made : (n : Network C) (entries : List Entry) (line : List ℕ) (opening : OpeningLine) (host : Option Addr) (p : Printed C)
      → read_line line ≡ Some (OpenLine opening) → place_of opening.name n.sockets ≡ None → opened_at w n opening host ≡ Some p → IsTold n entries
      → Made line entries p
  unfolding after_items opened
  opened-made n entries line opening None p reads free is told = absurd (cc)
  opened-made n entries line opening (Some host) p reads free is told =
      subst (Made line entries) (same_Some _ p is)
      (quiet-made entries line _ (quiet-form line (OpenLine opening) tt reads)
      (added-told n entries _ free refl refl (inr ((line_names line).given (OpenLine opening) reads)) told))

  open-made : (n : Network C) (entries : List Entry) (line : List ℕ) (opening : OpeningLine) (p : Printed C) → read_line line ≡ Some (OpenLine opening)
      → (if may_open n opening.name then opened_at w n opening (address_of_host opening.host n.hosts) else None) ≡ Some p → IsTold n entries
      → Made line entries p
  open-made n entries line opening p reads is told =
      elim (may_open n opening.name) as (λ may. may_open n opening.name ≡ may
      → (if may then opened_at w n opening (address_of_host opening.host n.hosts) else None) ≡ Some p → Made line entries p) [
        | true ↦ λ test e. opened-made n entries line opening (address_of_host opening.host n.hosts) p reads (not_taken _ _ (and_parts _ _ test).1) e told
        | false ↦ λ test e. absurd (cc)
      ] refl is

  -- ---- arrivals

  -- no name of a line is a number, and no socket has that of the next ID
  starts-apart : (text : List ℕ) → all_ascii_digits text ≡ true → is_name text ≡ false
  starts-apart [] digits = refl
  starts-apart (c ∷ text) digits =
      let digit = and_parts _ _ digits in
      let letter : is_ascii_lowercase c ≡ false = digit-no_letter c digit.0 in
      rw letter refl

  number-unnamed : (n : ℕ) → n < 2 ^ 64 → is_name (decimal n) ≡ false
  number-unnamed n few = starts-apart (decimal n) (number-digits n few)

  number-held : (n : Network C) (k : ℕ) (socket : ScriptSocket C) → length n.sockets < 2 ^ 32 → slice_get n.sockets k ≡ Some socket → IsGiven k socket.name
      → socket.name ≡ decimal (length n.sockets + 1) → ⊥
  number-held n k socket few at (inl own) is =
      let below = slice_get_within n.sockets k socket at in
      let same = decimal_injective (k + 1) (length n.sockets + 1) (omega (arith, few, below)) (omega (arith, few)) (sym own ∙ is) in
      omega (arith, same, below)
  number-held n k socket few at (inr named) is =
      let unnamed = number-unnamed (length n.sockets + 1) (omega (arith, few)) in
      true-false (sym named ∙ (ap is_name is ∙ unnamed))

  number-free : (n : Network C) (entries : List Entry) → length n.sockets < 2 ^ 32 → IsTold n entries
      → place_of (decimal (length n.sockets + 1)) n.sockets ≡ None
  number-free n entries few told = by (place_of (decimal (length n.sockets + 1)) n.sockets) refl
    where
      by : (found : Option ℕ) → place_of (decimal (length n.sockets + 1)) n.sockets ≡ found → found ≡ None
      by None is = refl
      by (Some k) is =
          let there = found_there (decimal (length n.sockets + 1)) n.sockets k is in
          absurd (number-held n k there.0 few there.1 (told.given k there.0 there.1) (name_there (decimal (length n.sockets + 1)) n.sockets k there.0 is there.1))

  module _ (now : ℕ) (datagram : ScriptDatagram) where
    abbrev arrival : Event
    arrival = event now (Arrive datagram.from datagram.bytes)

    arrival-told : (n : Network C) (entries : List Entry) (k : ℕ) (socket : ScriptSocket C) → slice_get n.sockets k ≡ Some socket → IsTold n entries
        → IsTold (event_at w n k socket arrival).network entries
    arrival-told n entries k socket at told = silent-told n entries told k socket arrival at
        (arrive-gives w (state_of w socket.history) now datagram.from datagram.bytes) refl (λ id is. absurd (cc))

    there : (n : Network C) (k : ℕ) (socket : ScriptSocket C) (event : Event) → slice_get n.sockets k ≡ Some socket
        → event_there w n k event ≡ event_at w n k socket event
    there n k socket event at = rw at refl

    offer-gives : (s : State C) (id : ℕ) → given_by (step w s (event now (Offer id))).reply ≡ []
    unfolding step
    offer-gives s id = refl

    withdraw-gives : (s : State C) (at : ℕ) → given_by (step w s (event at Withdraw)).reply ≡ []
    unfolding step
    withdraw-gives s at = refl

    -- a socket is made, offered, and given the request
    connected-told : (n : Network C) (entries : List Entry) (k : ℕ) (listener socket : ScriptSocket C) (shake : Shake) → length n.sockets < 2 ^ 32
        → slice_get n.sockets k ≡ Some socket → IsTold n entries
        → IsTold (and_then
        (event_there w (with_socket n (made_for w n listener datagram.from shake)) k (event now (Offer (length n.sockets + 1))))
        (λ (m : Network C). event_there w m (length n.sockets) arrival)).network entries
    unfolding event_at after_items opening
    connected-told n entries k listener socket shake few at told =
        let new = made_for w n listener datagram.from shake in
        let more = with_socket n new in
        let offer = event now (Offer (length n.sockets + 1)) in
        let one = added-told n entries new (number-free n entries few told) refl refl (inl refl) told in
        let still = append-first n.sockets (new ∷ []) k socket at in
        let queued = offered-queued w n new k socket now refl (number-unnamed (length n.sockets + 1) (omega (arith, few))) at told.queued in
        let says = none-says socket.name _ _ entries (offer-gives (state_of w socket.history) (length n.sockets + 1)) refl in
        let two = event-told more entries one k socket offer still entries says queued in
        let below = slice_get_within n.sockets k socket at in
        let last : slice_get (event_at w more k socket offer).network.sockets (length n.sockets) ≡ Some new =
        set-other more.sockets k (length n.sockets) _ (λ same. omega (arith, same, below))
        ∙ append-second n.sockets (new ∷ []) (length n.sockets) 0 new (omega arith) refl in
        rw (there more k socket offer still, there (event_at w more k socket offer).network (length n.sockets) new arrival last)
        (arrival-told (event_at w more k socket offer).network entries (length n.sockets) new last two)

    offered-told : (n : Network C) (entries : List Entry) (k : ℕ) (listener socket : ScriptSocket C) (shake : Shake) → slice_get n.sockets k ≡ Some socket
        → IsTold n entries → IsTold (offered w n now k listener datagram shake).network entries
    offered-told n entries k listener socket shake at told =
        elim (nat_lt (length n.sockets) MOST_SOCKETS) as (λ room. nat_lt (length n.sockets) MOST_SOCKETS ≡ room → IsTold (
        if room
        then and_then
        (event_there w (with_socket n (made_for w n listener datagram.from shake)) k (event now (Offer (length n.sockets + 1))))
        (λ (m : Network C). event_there w m (length n.sockets) arrival)
        else event_there w n k (event now Withdraw)).network entries) [
          | true ↦ λ test. connected-told n entries k listener socket shake (omega (arith, ltb-true (length n.sockets) MOST_SOCKETS test)) at told
          | false ↦ λ test. rw (there n k socket (event now Withdraw) at) (silent-told n entries told k socket (event now Withdraw) at
              (withdraw-gives (state_of w socket.history) now) refl (λ id is. absurd (cc)))
        ] refl

    followed-told : (n : Network C) (entries : List Entry) (k : ℕ) (listener socket : ScriptSocket C) (text : List ℕ) (shake : Option Shake) (reply : Reply)
        → slice_get n.sockets k ≡ Some socket → IsTold n entries
        → IsTold (followed_by w (record { network = n; text = text }) now k listener datagram shake reply).network entries
    followed-told n entries k listener socket text (Some shake) (DidHear heard.Request) at told = offered-told n entries k listener socket shake at told
    followed-told n entries k listener socket text shake reply at told = told

    arrived-told : (n : Network C) (entries : List Entry) (r : Route C) → route w n datagram ≡ r → IsTold n entries
        → IsTold (arrived w n now datagram r).network entries
    arrived-told n entries (Nowhere word) is told = told
    arrived-told n entries (ToSocket place socket) is told =
        let at = (host-reached w n datagram place socket is).0 in
        followed-told (event_at w n place socket arrival).network entries place socket (record socket { history = happened w socket.history 0 arrival })
        (event_at w n place socket arrival).text (handshake_in (read datagram.bytes)) (step w (state_of w socket.history) arrival).reply
        (event-there n entries told place socket arrival at) (arrival-told n entries place socket at told)

  delivery-made : (n : Network C) (entries : List Entry) (line : List ℕ) (now : ℕ) (found : Option ScriptDatagram) (p : Printed C) → delivery w n now found ≡ Some p → IsQuiet line
      → IsTold n entries → Made line entries p
  delivery-made n entries line now None p is quietly told = absurd (cc)
  delivery-made n entries line now (Some datagram) p is quietly told =
      subst (Made line entries) (same_Some _ p is)
      (quiet-made entries line (arrived w n now datagram (route w n datagram)) quietly (arrived-told now datagram n entries (route w n datagram) refl told))

  -- ---- accepts

  accept-gives : (s : State C) (now : ℕ) → given_by (step w s (event now Accept)).reply ≡ []
  unfolding step
  accept-gives s now = refl

  unnamed-adds : (name : List ℕ) (found : Option Line) (answer : Answer) → ((line : Line) → found ≡ Some line → Names line) → is_name name ≡ false
      → (given_to name found answer ≡ []) × (taken_from name found answer ≡ [])
  unnamed-adds name (Some (CallLine other event)) answer names unnamed =
      elim (is_word other name) as (λ same. is_word other name ≡ same
      → ((if same then given_in answer else []) ≡ []) × ((if same then taken_in event.act answer else []) ≡ [])) [
        | true ↦ λ e.
            let called = names (CallLine other event) refl in
            let is : is_name name ≡ true = ap is_name (sym (same_word other name e)) ∙ called.0 in
            absurd (cc)
        | false ↦ λ e. (refl, refl)
      ] refl
  unnamed-adds name found answer names unnamed = (refl, refl)

  -- entries say nothing of a name that no line may have
  unnamed-says : (name : List ℕ) (entries : List Entry) → is_name name ≡ false → SaysNothing name entries
  unnamed-says name [] unnamed = record { received = refl; sent = refl }
  unnamed-says name (e ∷ entries) unnamed =
      let rest = unnamed-says name entries unnamed in
      let none = unnamed-adds name (read_line e.line) e.answer (λ line is. (line_names e.line).given line is) unnamed in
      record { received = rw (none.0, rest.received) refl; sent = rw (none.1, rest.sent) refl }

  -- two words that aren't one
  apart-words : (a b : List ℕ) → (a ≡ b → ⊥) → is_word a b ≡ false
  apart-words a b apart = elim (is_word a b) as (λ same. is_word a b ≡ same → same ≡ false) [
    | true ↦ λ e. absurd (apart (same_word a b e))
    | false ↦ λ e. refl
  ] refl

  none-some : (k : ℕ) → None ≡ Some k → ⊥
  none-some k is = cc

  -- a socket of a pair isn't the one that is renamed
  began-renamed : (n : Network C) (k : ℕ) (name : List ℕ) (socket : ScriptSocket C) → slice_get n.sockets k ≡ Some socket → is_name socket.name ≡ false
      → (place : ℕ) (fresh : ScriptSocket C) → is_name fresh.name ≡ true → BeganAs n place fresh
      → BeganAs (record n { sockets = slice_set n.sockets k (record socket { name = name }) }) place fresh
  began-renamed n k name socket at unnamed place fresh named began =
      let apart : k ≡ place → ⊥ = λ same.
      let one = found-once n.sockets place socket began.socket (subst (λ (j : ℕ). slice_get n.sockets j ≡ Some socket) same at) began.at in
      let is : is_name socket.name ≡ true = ap (λ (s : ScriptSocket C). is_name s.name) one ∙ (ap is_name began.name ∙ named) in
      true-false (sym is ∙ unnamed) in
      record {
        socket = began.socket;
        at = set-other n.sockets k place _ apart ∙ began.at;
        name = began.name;
        host = began.host;
        opened = began.opened;
      }

  -- where a name stands once a socket has another
  module _ (n : Network C) (k : ℕ) (name : List ℕ) (socket : ScriptSocket C) (at : slice_get n.sockets k ≡ Some socket) where
    abbrev renamed : ScriptSocket C
    renamed = record socket { name = name }

    here-renamed : (j : ℕ) → k ≡ j → slice_get (slice_set n.sockets k renamed) j ≡ Some renamed
    here-renamed j same = subst (λ (i : ℕ). slice_get (slice_set n.sockets k renamed) i ≡ Some renamed) same (set-same n.sockets k socket renamed at)

    place-apart : (other : List ℕ) → is_word socket.name other ≡ false → is_word name other ≡ false
        → place_of other (slice_set n.sockets k renamed) ≡ place_of other n.sockets
    unfolding place_of
    place-apart other old new = position-apart (λ (s : ScriptSocket C). is_word s.name other) n.sockets k socket renamed at old new

    place-renamed : place_of name n.sockets ≡ None → place_of name (slice_set n.sockets k renamed) ≡ Some k
    unfolding place_of
    place-renamed free = position-here (λ (s : ScriptSocket C). is_word s.name name) n.sockets k socket renamed at free (is_same_word name)

  -- a socket without a name of a line gets one that is new
  renamed-told : (n : Network C) (entries : List Entry) (k : ℕ) (name : List ℕ) (socket : ScriptSocket C) (at : slice_get n.sockets k ≡ Some socket)
      → is_name socket.name ≡ false → is_name name ≡ true → place_of name n.sockets ≡ None
      → IsQueued w (record n { sockets = slice_set n.sockets k (record socket { name = name }) }) → IsTold n entries
      → IsTold (record n { sockets = slice_set n.sockets k (record socket { name = name }) }) entries
  renamed-told n entries k name socket at unnamed named free queued told =
      let old_says = told.sockets k socket at in
      let none = unnamed-says socket.name entries unnamed in
      let fresh = told.others name free in
      let mine : Says name entries socket.history = record {
        received = fresh.received ∙ (sym none.received ∙ old_says.received);
        sent = fresh.sent ∙ (sym none.sent ∙ old_says.sent);
        none = old_says.none;
      } in
      let here = here-renamed n k name socket at in
      let before : (j : ℕ) (found : ScriptSocket C) → (k ≡ j → ⊥) → slice_get (slice_set n.sockets k (record socket { name = name })) j ≡ Some found
      → slice_get n.sockets j ≡ Some found = λ j found apart found_at. sym (set-other n.sockets k j _ apart) ∙ found_at in
      record {
        sockets = λ j found found_at. elim (cases_eq k j) [
          | inl same ↦ subst (λ (s : ScriptSocket C). Says s.name entries s.history) (found-once _ j _ found (here j same) found_at) mine
          | inr apart ↦ told.sockets j found (before j found apart found_at)
        ];
        places = λ j found found_at. elim (cases_eq k j) [
          | inl same ↦
              ap (λ (s : ScriptSocket C). place_of s.name (slice_set n.sockets k (record socket { name = name }))) (sym (found-once _ j _ found (here j same) found_at))
              ∙ (place-renamed n k name socket at free ∙ ap Some same)
          | inr apart ↦
              let old = told.places j found (before j found apart found_at) in
              let other = apart-words socket.name found.name (λ same. apart (same_Some k j (sym (told.places k socket at) ∙ (ap (λ word. place_of word n.sockets) same ∙ old)))) in
              let new = apart-words name found.name (λ same. none-some j (sym free ∙ (ap (λ word. place_of word n.sockets) same ∙ old))) in
              place-apart n k name socket at found.name other new ∙ old
        ];
        given = λ j found found_at. elim (cases_eq k j) [
          | inl same ↦ subst (λ (s : ScriptSocket C). IsGiven j s.name) (found-once _ j _ found (here j same) found_at) (inr named)
          | inr apart ↦ told.given j found (before j found apart found_at)
        ];
        queued = queued;
        others = λ other nothing. elim (is_word socket.name other) as (λ b. is_word socket.name other ≡ b → SaysNothing other entries) [
          | true ↦ λ e. subst (λ word. SaysNothing word entries) (same_word socket.name other e) none
          | false ↦ λ e.
              let new = apart-words name other (λ same. none-some k (sym nothing
              ∙ (ap (λ word. place_of word (slice_set n.sockets k (record socket { name = name }))) (sym same) ∙ place-renamed n k name socket at free))) in
              told.others other (sym (place-apart n k name socket at other e new) ∙ nothing)
        ] refl;
        pairs = λ entry p among reads.
            let pair = told.pairs entry p among reads in
            let names = (line_names entry.line).given (PairLine p) reads in
            record {
              place = pair.place;
              first = began-renamed n k name socket at unnamed pair.place _ names.0 pair.first;
              second = began-renamed n k name socket at unnamed (pair.place + 1) _ names.1 pair.second;
            };
      }

  -- a socket without a name of a line gets one that is new
  named-told : (n : Network C) (entries : List Entry) (id : ℕ) (name : List ℕ) → IsUnnamed w n id → is_name name ≡ true → place_of name n.sockets ≡ None
      → IsQueued w (with_name n id name) → IsTold n entries → IsTold (with_name n id name) entries
  named-told n entries id name unnamed named free queued told =
      let as_named : with_name n id name ≡ named_at n (id - 1) name (Some unnamed.socket) = ap (named_at n (id - 1) name) unnamed.at in
      subst (λ (m : Network C). IsTold m entries) (sym as_named)
      (renamed-told n entries (id - 1) name unnamed.socket unnamed.at unnamed.unnamed named free (subst (IsQueued w) as_named queued) told)

  named_by-told : (n : Network C) (entries : List Entry) (now : ℕ) (name : List ℕ) (k : ℕ) (socket : ScriptSocket C) (reply : Reply)
      → slice_get n.sockets k ≡ Some socket → is_name name ≡ true → place_of name n.sockets ≡ None
      → (step w (state_of w socket.history) (event now Accept)).reply ≡ reply → IsTold n entries
      → IsTold (event_at w n k socket (event now Accept)).network entries
      → IsTold (named_by w (event_at w n k socket (event now Accept)) socket.name name reply).network entries
  unfolding event_at
  named_by-told n entries now name k socket (Accepted (Ok id)) at named free gives before told =
      let accepted = accept-queued w n k socket now id name at gives before.queued in
      let later : ScriptSocket C = record socket { history = happened w socket.history 0 (event now Accept) } in
      let still : place_of name (event_at w n k socket (event now Accept)).network.sockets ≡ None =
      place-set name n.sockets k socket later at refl ∙ free in
      named-told (event_at w n k socket (event now Accept)).network entries id name accepted.unnamed named still accepted.queued told
  named_by-told n entries now name k socket reply at named free gives before told = told

  accept_at-told : (n : Network C) (entries : List Entry) (now : ℕ) (name : List ℕ) (k : ℕ) (socket : ScriptSocket C)
      → slice_get n.sockets k ≡ Some socket → is_name name ≡ true → place_of name n.sockets ≡ None → IsTold n entries
      → IsTold (accept_at w n now name k socket).network entries
  accept_at-told n entries now name k socket at named free told =
      named_by-told n entries now name k socket _ at named free refl told
      (silent-told n entries told k socket (event now Accept) at (accept-gives (state_of w socket.history) now) refl (λ id is. absurd (cc)))

  accept-found : (n : Network C) (entries : List Entry) (line name : List ℕ) (now : ℕ) (accepted : List ℕ) (k : ℕ) (found : Option (ScriptSocket C)) (p : Printed C)
      → read_line line ≡ Some (AcceptLine name now accepted) → place_of accepted n.sockets ≡ None → slice_get n.sockets k ≡ found
      → option_map (accept_at w n now accepted k) found ≡ Some p → IsTold n entries → Made line entries p
  accept-found n entries line name now accepted k None p reads free at is told = absurd (cc)
  accept-found n entries line name now accepted k (Some socket) p reads free at is told =
      subst (Made line entries) (same_Some _ p is)
      (quiet-made entries line (accept_at w n now accepted k socket) (quiet-form line (AcceptLine name now accepted) tt reads)
      (accept_at-told n entries now accepted k socket at ((line_names line).given (AcceptLine name now accepted) reads) free told))

  accept-there : (n : Network C) (entries : List Entry) (line name : List ℕ) (now : ℕ) (accepted : List ℕ) (found : Option ℕ) (p : Printed C)
      → read_line line ≡ Some (AcceptLine name now accepted) → place_of accepted n.sockets ≡ None
      → with_place w n (accept_at w n now accepted) found ≡ Some p → IsTold n entries → Made line entries p
  accept-there n entries line name now accepted None p reads free is told = absurd (cc)
  accept-there n entries line name now accepted (Some k) p reads free is told =
      accept-found n entries line name now accepted k (slice_get n.sockets k) p reads free refl is told

  accept-made : (n : Network C) (entries : List Entry) (line name : List ℕ) (now : ℕ) (accepted : List ℕ) (p : Printed C)
      → read_line line ≡ Some (AcceptLine name now accepted)
      → (if is_taken accepted n then None else with_place w n (accept_at w n now accepted) (place_of name n.sockets)) ≡ Some p → IsTold n entries
      → Made line entries p
  accept-made n entries line name now accepted p reads is told =
      elim (is_taken accepted n) as (λ taken. is_taken accepted n ≡ taken
      → (if taken then None else with_place w n (accept_at w n now accepted) (place_of name n.sockets)) ≡ Some p → Made line entries p) [
        | true ↦ λ test e. absurd (cc)
        | false ↦ λ test e. accept-there n entries line name now accepted (place_of name n.sockets) p reads (not_free _ _ test) e told
      ] refl is

  -- ---- all lines

  form-made : (n : Network C) (entries : List Entry) (line : List ℕ) (form : Line) (p : Printed C) → read_line line ≡ Some form → on_line w n form ≡ Some p
      → IsTold n entries → Made line entries p
  form-made n entries line Silent p reads is told =
      subst (Made line entries) (same_Some _ p is) (quiet-made entries line (record { network = n; text = [] }) (quiet-form line Silent tt reads) told)
  form-made n entries line (PairLine pairing) p reads is told = pair-made n entries line pairing p reads is told
  form-made n entries line (HostLine name addr) p reads is told =
      host-made n entries line name addr p (quiet-form line (HostLine name addr) tt reads) is told
  form-made n entries line (OpenLine opening) p reads is told = open-made n entries line opening p reads is told
  form-made n entries line (AcceptLine name now accepted) p reads is told = accept-made n entries line name now accepted p reads is told
  form-made n entries line (CallLine name event) p reads is told = call-there n entries line name event (place_of name n.sockets) p reads refl is told
  form-made n entries line (DeliverLine number now) p reads is told =
      delivery-made n entries line now (slice_get n.datagrams number) p is (quiet-form line (DeliverLine number now) tt reads) told
  form-made n entries line (RawLine now datagram) p reads is told =
      delivery-made n entries line now (Some datagram) p is (quiet-form line (RawLine now datagram) tt reads) told

  read-made : (n : Network C) (entries : List Entry) (line : List ℕ) (found : Option Line) (p : Printed C) → read_line line ≡ found → (found >>= on_line w n) ≡ Some p
      → IsTold n entries → Made line entries p
  read-made n entries line None p reads is told = absurd (cc)
  read-made n entries line (Some form) p reads is told = form-made n entries line form p reads is told

  -- each line that isn't refused
  pub line-made : (n : Network C) (entries : List Entry) (line : List ℕ) (p : Printed C) → played_line w n line ≡ Some p → IsTold n entries → Made line entries p
  unfolding played_line
  line-made n entries line p is told = read-made n entries line (read_line line) p refl is told

  pub nothing_told : IsTold empty_network []
  nothing_told = record {
    sockets = λ k socket at. absurd (no_socket k socket at);
    places = λ k socket at. absurd (no_socket k socket at);
    given = λ k socket at. absurd (no_socket k socket at);
    queued = none-queued w;
    others = λ name none. record { received = refl; sent = refl };
    pairs = λ entry p among reads. absurd (omega (arith, among.1));
  }

  -- ---- in step

  module _ (lines : List (List ℕ)) (entries : List Entry) (few : size_of lines < 2 ^ 30) (emitted : AreEmitted lines) (told : IsTold (network_after w lines) entries) where
    prefix-told : (k m : ℕ) (one other : ScriptSocket C) (own : BeganAs (network_after w lines) k one) (peer : BeganAs (network_after w lines) m other)
        → own_peer w own.socket.history ≡ Some (record { addr = peer.socket.host; id = m + 1 })
        → IsPrefix (received one.name entries) (sent other.name entries)
    prefix-told k m one other own peer names =
        let mine = told.sockets k own.socket own.at in
        let theirs = told.sockets m peer.socket peer.at in
        let within : IsPrefix (delivered own.socket.history) (accepted peer.socket.history) =
        elim own.socket.history.opening.kind as (λ (kind : Kind). own.socket.history.opening.kind ≡ kind → IsPrefix (delivered own.socket.history) (accepted peer.socket.history)) [
          | Stream ↦ λ stream. (script_prefix w lines k m own.socket peer.socket few emitted own.at peer.at stream names).prefix
          | Message ↦ λ carries. (accepted peer.socket.history, rw (mine.none carries) refl)
        ] refl in
        rw (← own.name, ← peer.name, mine.received, theirs.sent) within

    peer-named : (h : History C) (own : ℕ) (config : Config) (peer : Peer) (start : ℕ) (host : Addr) (id : ℕ) → h.opening ≡ opening w own config peer 0 start
        → peer.addr ≡ host → peer.id ≡ id → own_peer w h ≡ Some (record { addr = host; id = id })
    unfolding after_items opening
    peer-named h own config peer start host id opened addr_is id_is =
        let named = own_peer-stays w own (PairedAt config peer 0 start) h.opening [] h.items (record { addr = peer.addr; id = peer.id }) opened
        (ap (λ (s : State C). peer_by s.origin s.peer) opened) in
        named ∙ rw (addr_is, id_is) refl

    pub in-step : AreInStep entries
    in-step = record {
      second = λ entry p among reads.
          let pair = told.pairs entry p among reads in
          prefix-told (pair.place + 1) pair.place _ _ pair.second pair.first
          (peer-named pair.second.socket.history _ _ _ _ pair.first.socket.host (pair.place + 1) pair.second.opened (sym pair.first.host) refl);
      first = λ entry p among reads.
          let pair = told.pairs entry p among reads in
          prefix-told pair.place (pair.place + 1) _ _ pair.first pair.second
          (peer-named pair.first.socket.history _ _ _ _ pair.second.socket.host (pair.place + 1 + 1) pair.first.opened (sym pair.second.host) (omega arith));
    }

  -- ---- transcripts

  -- the entries tell the lines of a script
  pub record Transcript (lines : List (List ℕ)) (entries : List Entry) : Type 0 where
    pub lines_are : lines_in entries ≡ lines
    pub printed : ArePrinted w [] entries
    pub told : IsTold (network_after w lines) entries

  -- one more entry is printed after the others
  printed-more : (before : List (List ℕ)) (entries : List Entry) (e : Entry) → ArePrinted w before entries
      → printed_after w (before ++ lines_in entries) e.line ≡ Some (entry_text e) → ArePrinted w before (entries ++ e ∷ [])
  unfolding ArePrinted
  printed-more before [] e are last = (rw (append-nil before) at last, tt)
  printed-more before (entry ∷ entries) e are last =
      (are.0, printed-more (before ++ entry.line ∷ []) entries e are.1 (rw (append_assoc before (entry.line ∷ []) (lines_in entries)) last))

  -- the entry of one more line
  pub record More (lines : List (List ℕ)) (entries : List Entry) (line text : List ℕ) : Type 0 where
    pub entry : Entry
    pub line_is : entry.line ≡ line
    pub text_is : entry_text entry ≡ text
    pub transcript : Transcript (lines ++ line ∷ []) (entries ++ entry ∷ [])

  pub one-told : (lines : List (List ℕ)) (entries : List Entry) (line text : List ℕ) → Transcript lines entries → printed_after w lines line ≡ Some text
      → More lines entries line text
  one-told lines entries line text t printed =
      let found = accepted-by w lines line text printed in
      let made = line-made (network_after w lines) entries line found.0 found.1 t.told in
      let last : printed_after w ([] ++ lines_in entries) made.entry.line ≡ Some (entry_text made.entry) =
      ap (λ before. printed_after w before made.entry.line) t.lines_are
      ∙ (ap (λ one. printed_after w lines one) made.line_is ∙ (printed ∙ ap (λ told. Some told) (sym (made.text ∙ found.2)))) in
      record {
        entry = made.entry;
        line_is = made.line_is;
        text_is = made.text ∙ found.2;
        transcript = record {
          lines_are = map-append (λ (entry : Entry). entry.line) entries (made.entry ∷ []) ∙ rw (t.lines_are, made.line_is) refl;
          printed = printed-more [] entries made.entry t.printed last;
          told = rw (left-after w lines line found.0 found.1) made.told;
        };
      }

  pub no_transcript : Transcript [] []
  unfolding ArePrinted
  no_transcript = record { lines_are = refl; printed = tt; told = rw (no_lines w) nothing_told }

  -- the lines of a script, each accepted after those before it
  transcript-from : (before lines : List (List ℕ)) (entries : List Entry) → Transcript before entries → AreAccepted w before lines
      → (all : List Entry) × Transcript (before ++ lines) all
  unfolding AreAccepted
  transcript-from before [] entries t are = (entries, rw (append-nil before) t)
  transcript-from before (line ∷ lines) entries t are =
      let more = one-told before entries line are.0.0 t are.0.1 in
      let whole = transcript-from (before ++ line ∷ []) lines (entries ++ more.entry ∷ []) more.transcript are.1 in
      (whole.0, rw (append_assoc before (line ∷ []) lines) at whole.1)

  -- one more line that was accepted
  pub accepted-more : (before lines : List (List ℕ)) (line text : List ℕ) → AreAccepted w before lines → printed_after w (before ++ lines) line ≡ Some text
      → AreAccepted w before (lines ++ line ∷ [])
  unfolding AreAccepted
  accepted-more before [] line text are printed = ((text, rw (append-nil before) at printed), tt)
  accepted-more before (first ∷ lines) line text are printed =
      (are.0, accepted-more (before ++ first ∷ []) lines line text are.1 (rw (append_assoc before (first ∷ []) lines) printed))

  -- what it printed tells it
  pub tells : (lines : List (List ℕ)) (line : List ℕ) (new : Option (List (List ℕ))) (before after : List ℕ) → AreAccepted w [] lines → size_of (lines ++ line ∷ []) < 2 ^ 30
      → Accepts (printed_after w lines line) lines line new before after → TellsLine w lines line before after
  tells lines line new before after are few accepts =
      let t = transcript-from [] lines [] no_transcript are in
      let more = one-told lines t.0 line accepts.text t.1 accepts.printed in
      record {
        entries = t.0;
        last = more.entry;
        lines_are = t.1.lines_are;
        line_is = more.line_is;
        printed = t.1.printed;
        text = accepts.output ∙ ap (λ text. before ++ text) (sym more.text_is);
        in_step = λ emitted. in-step (lines ++ line ∷ []) (t.0 ++ more.entry ∷ []) few emitted more.transcript.told;
      }
