-- What the turns of a generated run do.
use Rattle.std.proofs.Common.{◌≡◌, ℕ, zero, suc, ◌+◌, ◌-◌, ◌≤◌, ◌<◌, Bool, true, false, eqb, ◌*◌, List, [], ◌++◌, length, Some, refl, ap, ◌∙◌, sym, subst, arith}
use Rattle.std.specs.Prelude.{slice_get, codes, option_map, Result, Ok, Err, IfOk, OnOk, nat_lt, ◌%◌, vec_len}
use Rattle.std.proofs.lemmas.Bool.{le-ltb, lt-ltb, ne_eqb}
use Rattle.std.proofs.lemmas.List.{append-nil, length-append, length-map, length-take-le, length-set}
use Rattle.std.proofs.lemmas.Option.{same_Some, slice_get-map}
use Rattle.udt_core.specs.Received.{received_in}
use Rattle.udt_model.specs.declared.addresses.Addr.{Addr}
use Rattle.udt_model.specs.declared.answers.Perf.{Perf}
use Rattle.udt_model.specs.Phases.{Link, Stands, Lost, Absent, link_of}
use Rattle.udt_model.specs.declared.answers.Refusal.{Refusal}
use Rattle.udt_model.specs.declared.answers.SendNo.{SendNo}
use Rattle.udt_model.specs.declared.packets.Kind.{Kind}
use Rattle.udt_model.specs.declared.packets.Kind.TheVariants as kind
use Rattle.udt_model.specs.Calls.{send_in, send_as, taken_as}
use Rattle.udt_model.specs.Draws.{next_state, draw}
use Rattle.udt_model.specs.Events.{Act, Send, Recv, Pack, Tick, Arrive, Measure, Event, Reply, Sent, Received, DidMeasure, event, at_moment}
use Rattle.udt_model.specs.Generated.{Run, after_call, after_sending, after_delivery, accepted_of, counted_bytes, delivered_number, generated_pair, generated, summary_of, turn}
use Rattle.udt_model.specs.History.{History, state_of, happened, start_of, accepted, delivered, accepted_by, delivered_by, taken_by, given_by}
use Rattle.udt_model.specs.Network.{Network, ScriptSocket, empty_network, place_of}
use Rattle.udt_model.specs.Network as model
use Rattle.udt_model.specs.Opening.{opening}
use Rattle.udt_model.specs.Rate.{Ways}
use Rattle.udt_model.specs.Routes.{handshake_in}
use Rattle.udt_model.specs.Wire.{read}
use Rattle.udt_model.specs.Script.{Printed, arrived, call_at, call_by, event_at, left_by, on_line, paired, may_pair, with_place}
use Rattle.udt_model.specs.Lines.{PairLine}
use Rattle.udt_model.specs.SendHalf.{Sending, acked_of, send_answer}
use Rattle.udt_model.specs.State.{State}
use Rattle.udt_model.specs.Step.{step}
use Rattle.udt_model.proofs.HistoryLemmas.{accepted_by-append, delivered_by-append}
use Rattle.udt_model.proofs.PhaseLemmas.{is_settled}
use Rattle.udt_script.specs.CodeLines.{datagram_of}
use Rattle.udt_world.specs.declared.generated.Run as code_run
use Rattle.udt_world.specs.declared.network.Network as code
use Rattle.udt_world.specs.declared.network.ScriptSocket as code_socket
use Rattle.udt_world.specs.Done.{DoesLine, GoesTo}
use Rattle.udt_world.specs.Runs.{count_in, Counts, IsRun, IsSet}
use Rattle.udt_world.specs.Views.{Sight, View, Shows, Moves, Answers, sight_of, sight_of_history, view_of}
use Rattle.udt_world.specs.Wiring.{IsWired, MayHappen}
use Rattle.udt_world.proofs.ArriveLemmas.{arrive-gives, not_followed, paired-settled, settled-promises}
use Rattle.udt_world.proofs.CountedLemmas.{counted-length}
use Rattle.udt_world.proofs.EventLemmas.{shown_at, moves_shown, reply_shown, tick_reply}
use Rattle.udt_world.proofs.PushLemmas.{item_at}

-- two facts of a result give a third
pub on_ok_both : {T E P Q R : Type 0} (r : Result T E) → (P → Q → R) → OnOk r P → OnOk r Q → OnOk r R
on_ok_both (Ok x) gives p q = gives p q
on_ok_both (Err e) gives p q = tt

-- a pack needs nothing
pub may_pack : {C : Type 0} (sights : List (Sight C)) (place : ℕ) → MayHappen sights place Pack
may_pack sights place = record {
  listens = λ s most secret found is. absurd (cc);
  meets = λ s to found is. absurd (cc);
  offers = λ id is. absurd (cc);
  hears = λ s from bytes shake found is reads none. absurd (cc);
}

-- a tick needs nothing
pub may_tick : {C : Type 0} (sights : List (Sight C)) (place : ℕ) → MayHappen sights place Tick
may_tick sights place = record {
  listens = λ s most secret found is. absurd (cc);
  meets = λ s to found is. absurd (cc);
  offers = λ id is. absurd (cc);
  hears = λ s from bytes shake found is reads none. absurd (cc);
}

-- ---- what is taken and given

-- no more is taken than there is
answer_within : {C : Type 0} (s : Sending C) (len count : ℕ) → send_answer s len ≡ Ok count → count ≤ len
unfolding send_answer
answer_within s len count is = grind arith

taken_within : (answer : Result ℕ SendNo) (count : ℕ) → Ok count ≡ taken_as answer → answer ≡ Ok count
taken_within (Ok taken) count is = cc
taken_within (Err why) count is = absurd (cc)

sent_within : {C : Type 0} (s : State C) (bytes : List ℕ) (l : Link) (count : ℕ) → Sent (Ok count) ≡ (send_in s bytes l).reply
    → count ≤ length bytes
sent_within s bytes Stands count is =
    let same : Ok count ≡ taken_as (send_answer s.sending (length bytes)) = cc in
    answer_within s.sending (length bytes) count (taken_within (send_answer s.sending (length bytes)) count same)
sent_within s bytes (Lost why) count is = absurd (cc)
sent_within s bytes Absent count is = absurd (cc)

sent_within_as : {C : Type 0} (s : State C) (bytes : List ℕ) (k : Kind) (count : ℕ)
    → Sent (Ok count) ≡ (send_as s bytes k).reply → count ≤ length bytes
sent_within_as s bytes kind.Stream count is = sent_within s bytes (link_of s.phase) count is
sent_within_as s bytes kind.Message count is = absurd (cc)

-- no more is given than there is room for
pub received_at_most : (answer : Result ℕ Refusal) (into : List ℕ) → IfOk answer (λ count. count ≤ length into)
    → count_in answer ≤ length into
received_at_most (Ok count) into within = within
received_at_most (Err why) into within = omega arith

module _ {C : Type 0} (w : Ways C) where
  taken_at_most : (s : State C) (now : ℕ) (bytes : List ℕ) (count : ℕ)
      → Sent (Ok count) ≡ (step w s (event now (Send bytes))).reply → count ≤ length bytes
  unfolding step
  taken_at_most s now bytes count is = sent_within_as (at_moment s now) bytes s.kind count is

  -- what is measured as acknowledged
  pub measured_acked : (s : State C) (now : ℕ) (p : Perf) → DidMeasure p ≡ (step w s (event now Measure)).reply
      → p.acked ≡ acked_of s.sending
  unfolding step
  measured_acked s now p is = cc

  answered_at_most : (place now : ℕ) (bytes : List ℕ) (answer : Result ℕ Refusal) (old new : View C)
      → Answers w place (event now (Send bytes)) (Sent answer) old new → count_in answer ≤ length bytes
  answered_at_most place now bytes (Ok count) old new answers = taken_at_most answers.moves.sight.state now bytes count
      answers.reply_is
  answered_at_most place now bytes (Err why) old new answers = omega arith

  -- an answer counts no more than was sent
  pub sent_at_most : (place now before most : ℕ) (bytes : List ℕ) (answer : Result ℕ Refusal) (old new : View C)
      → bytes ≡ counted_bytes before most
      → Answers w place (event now (Send bytes)) (Sent answer) old new → count_in answer ≤ most
  sent_at_most place now before most bytes answer old new bytes_are answers =
      let count = ap length bytes_are ∙ counted-length before most in
      omega (arith, count, answered_at_most place now bytes answer old new answers)

  -- what a send took, by its answer
  taken_is : (s : State C) (now : ℕ) (bytes : List ℕ) (answer : Result ℕ Refusal)
      → Sent answer ≡ (step w s (event now (Send bytes))).reply
      → count_in answer ≡ length (taken_by (Send bytes) (step w s (event now (Send bytes))).reply)
  taken_is s now bytes (Ok count) is = rw (sym is) (sym (length-take-le count bytes (taken_at_most s now bytes count is)))
  taken_is s now bytes (Err why) is = rw (sym is) refl

  -- and what a receive gave
  given_is : (answer : Result ℕ Refusal) (into : List ℕ) (reply : Reply) → IfOk answer (λ count. count ≤ length into)
      → Received (received_in answer into) ≡ reply → count_in answer ≡ length (given_by reply)
  given_is (Ok count) into reply within is = rw (sym is) (sym (length-take-le count into within))
  given_is (Err why) into reply within is = rw (sym is) refl

  -- an event keeps the number of sockets
  pub moved_count : (place : ℕ) (happens : Event) (old new : code.Network C) → Moves w place happens (view_of old) (view_of new)
      → vec_len new.sockets ≡ vec_len old.sockets
  moved_count place happens old new moves =
      let count = ap length moves.sockets ∙ length-set (view_of old).sockets place _ in
      omega (
        arith,
        count,
        length-map old.sockets.items sight_of,
        length-map new.sockets.items sight_of,
        old.sockets.ok.0,
        new.sockets.ok.0,
      )

  -- and what is set stays so
  pub set_moved : (place : ℕ) (happens : Event) (old new : code_run.Run C) → IsSet old
      → Moves w place happens (view_of old.network) (view_of new.network) → IsWired new.network
      → new.pattern ≡ old.pattern → vec_len new.room ≡ vec_len old.room → IsSet new
  set_moved place happens old new set moves wired pattern room = record {
    wired = wired;
    sockets = moved_count place happens old.network new.network moves ∙ set.sockets;
    pattern = rw pattern set.pattern;
    length = rw pattern set.length;
    room = room ∙ set.room;
  }

  -- the endpoints of a network are not seen
  pub endpoints_unseen : (old new : code.Network C) → new ≡ record old { endpoints = new.endpoints } → view_of new ≡ view_of old
  endpoints_unseen old new kept = ap (λ (n : code.Network C). view_of n) kept

  -- and what is seen the same moves the same
  pub moved_from : (place : ℕ) (happens : Event) (old between new : View C) → between ≡ old → Moves w place happens between new
      → Moves w place happens old new
  moved_from place happens old between new same moves = subst (λ v. Moves w place happens v new) same moves

  -- ---- histories

  accepted-happened : (h : History C) (e : Event)
      → length (accepted (happened w h 0 e)) ≡ length (accepted h) + length (taken_by e.act (step w (state_of w h) e).reply)
  unfolding accepted_by
  accepted-happened h e =
      let taken = taken_by e.act (step w (state_of w h) e).reply in
      ap length (accepted_by-append h.items _ ∙ ap (λ more. accepted h ++ more) (append-nil taken))
      ∙ length-append (accepted h) (taken_by e.act (step w (state_of w h) e).reply)

  delivered-happened : (h : History C) (e : Event)
      → length (delivered (happened w h 0 e)) ≡ length (delivered h) + length (given_by (step w (state_of w h) e).reply)
  unfolding delivered_by
  delivered-happened h e =
      let given = given_by (step w (state_of w h) e).reply in
      ap length (delivered_by-append h.items _ ∙ ap (λ more. delivered h ++ more) (append-nil given))
      ∙ length-append (delivered h) (given_by (step w (state_of w h) e).reply)

  -- a call that needs no place at its host
  abbrev pub IsPlain : ℕ → Act → Type 0
  IsPlain now act = (n : Network C) (place : ℕ) (socket : ScriptSocket C)
      → call_by w n place socket now act ≡ event_at w n place socket (event now act)

  -- ---- counts

  module _ (n : Network C) (sent received : ℕ) (c : Counts n sent received) where
    -- a stands first
    pub first_at : slice_get n.sockets 0 ≡ Some c.first
    first_at = rw c.sockets_are refl

    -- and b second
    pub second_at : slice_get n.sockets 1 ≡ Some c.second
    second_at = rw c.sockets_are refl

    -- an event of a
    pub counts_first : (e : Event) (more : ℕ) → more ≡ length (taken_by e.act (step w (state_of w c.first.history) e).reply)
        → Counts (event_at w n 0 c.first e).network (sent + more) received
    unfolding event_at
    counts_first e more is = record {
      first = record c.first { history = happened w c.first.history 0 e };
      second = c.second;
      sockets_are = rw c.sockets_are refl;
      first_name = c.first_name;
      second_name = c.second_name;
      first_paired = c.first_paired;
      second_paired = c.second_paired;
      start = c.start;
      accepted = rw (c.accepted, is) (sym (accepted-happened c.first.history e));
      delivered = c.delivered;
    }

    -- an event of b
    pub counts_second : (e : Event) (more : ℕ) → more ≡ length (given_by (step w (state_of w c.second.history) e).reply)
        → Counts (event_at w n 1 c.second e).network sent (received + more)
    unfolding event_at
    counts_second e more is = record {
      first = c.first;
      second = record c.second { history = happened w c.second.history 0 e };
      sockets_are = rw c.sockets_are refl;
      first_name = c.first_name;
      second_name = c.second_name;
      first_paired = c.first_paired;
      second_paired = c.second_paired;
      start = c.start;
      accepted = c.accepted;
      delivered = rw (c.delivered, is) (sym (delivered-happened c.second.history e));
    }

    -- an arrival counts for neither
    pub counts_arrival : (place : ℕ) (known : ScriptSocket C) (now : ℕ) (from : Addr) (bytes : List ℕ)
        → slice_get n.sockets place ≡ Some known
        → Counts (event_at w n place known (event now (Arrive from bytes))).network sent received
    counts_arrival zero known now from bytes there =
        let same : known ≡ c.first = same_Some _ _ (sym there ∙ first_at) in
        let none : sent + 0 ≡ sent = omega arith in
        rw same (rw none at (counts_first (event now (Arrive from bytes)) 0 refl))
    counts_arrival (suc zero) known now from bytes there =
        let same : known ≡ c.second = same_Some _ _ (sym there ∙ second_at) in
        let none : received + 0 ≡ received = omega arith in
        let gives = sym (ap length (arrive-gives w (state_of w c.second.history) now from bytes)) in
        rw same (rw none at (counts_second (event now (Arrive from bytes)) 0 gives))
    counts_arrival (suc (suc place)) known now from bytes there = let never = rw c.sockets_are at there in absurd (cc)

    -- each of the two is settled
    pub settled_at : (place : ℕ) (known : ScriptSocket C) → slice_get n.sockets place ≡ Some known
        → is_settled (state_of w known.history).phase ≡ true
    settled_at zero known there =
        rw (same_Some _ _ (sym there ∙ first_at)) (paired-settled w c.first.history c.first_paired)
    settled_at (suc zero) known there =
        rw (same_Some _ _ (sym there ∙ second_at)) (paired-settled w c.second.history c.second_paired)
    settled_at (suc (suc place)) known there = let never = rw c.sockets_are at there in absurd (cc)

    -- ---- calls

    first_place : place_of (codes "a") n.sockets ≡ Some 0
    unfolding place_of
    first_place = rw (c.sockets_are, c.first_name) refl

    second_place : place_of (codes "b") n.sockets ≡ Some 1
    unfolding place_of
    second_place = rw (c.sockets_are, c.first_name, c.second_name) refl

    -- a call of a
    pub after_first : (now : ℕ) (act : Act) → IsPlain now act
        → after_call w n (codes "a") now act ≡ (event_at w n 0 c.first (event now act)).network
    after_first now act plain =
        let does : ℕ → ScriptSocket C → Printed C = λ place socket. call_at w n place socket (event now act) in
        ap (λ found. left_by n (with_place w n does found)) first_place
        ∙ (ap (λ found. left_by n (option_map (does 0) found)) first_at
        ∙ ap (λ (p : Printed C). p.network) (plain n 0 c.first))

    -- and of b
    pub after_second : (now : ℕ) (act : Act) → IsPlain now act
        → after_call w n (codes "b") now act ≡ (event_at w n 1 c.second (event now act)).network
    after_second now act plain =
        let does : ℕ → ScriptSocket C → Printed C = λ place socket. call_at w n place socket (event now act) in
        ap (λ found. left_by n (with_place w n does found)) second_place
        ∙ (ap (λ found. left_by n (option_map (does 1) found)) second_at
        ∙ ap (λ (p : Printed C). p.network) (plain n 1 c.second))

  -- ---- the beginning

  may_pair_first : (n : ℕ) → may_pair {C = C} empty_network (generated_pair n) ≡ true
  unfolding place_of
  may_pair_first n = refl

  counts_none : (n : ℕ) → Counts (paired w empty_network (generated_pair n)).network 0 0
  unfolding paired opening accepted_by delivered_by
  counts_none n = record {
    first = _;
    second = _;
    sockets_are = refl;
    first_name = refl;
    second_name = refl;
    first_paired = refl;
    second_paired = refl;
    start = refl;
    accepted = refl;
    delivered = refl;
  }

  line_shown : (n : Network C) (printed : Printed C) (did : Bool) (view : View C) (before after : List ℕ)
      → DoesLine w n (Some printed) did view before after → Shows w printed.network view
  line_shown n printed true view before after does = does.0
  line_shown n printed false view before after does = absurd does

  generated_none : (n : ℕ) → generated w n 0 ≡ record { network = (paired w empty_network (generated_pair n)).network; state = n }
  unfolding generated
  generated_none n = rw (may_pair_first n) refl

  -- the pair is opened, and nothing was accepted or delivered yet
  pub run_new : (n : ℕ) (code : code_run.Run C) (did : Bool) (old : View C) (before after : List ℕ)
      → Shows w empty_network old
      → ((known : Network C) → Shows w known old
      → DoesLine w known (on_line w known (PairLine (generated_pair n))) did (view_of code.network) before after)
      → code.state ≡ n → code.accepted ≡ 0 → code.delivered ≡ 0 → IsRun w (generated w n 0) code
  run_new n code did old before after shows done state_is accepted_is delivered_is =
      let printed : Printed C = paired w empty_network (generated_pair n) in
      let does : DoesLine w empty_network (Some printed) did (view_of code.network) before after =
      rw (may_pair_first n) at (done empty_network shows) in
      rw (generated_none n) (record {
        shown = line_shown empty_network printed did (view_of code.network) before after does;
        state = state_is;
        counts = rw (accepted_is, delivered_is) (counts_none n);
      })

  -- a run has two sockets
  pub run_sockets : (run : Run C) (code : code_run.Run C) → IsRun w run code → vec_len code.network.sockets ≡ 2
  run_sockets run code is =
      omega (
        arith,
        ap length is.shown.sockets_are,
        length-map code.network.sockets.items sight_of,
        length-map run.network.sockets (sight_of_history w),
        ap length is.counts.sockets_are,
        code.network.sockets.ok.0,
      )

  -- ---- the end

  -- what is counted and measured is the summary
  pub summary_is : (run : Run C) (code : code_run.Run C) (socket : code_socket.ScriptSocket C) (now count : ℕ) (p : Perf)
      → IsRun w run code
      → slice_get code.network.sockets.items 0 ≡ Some socket → DidMeasure p ≡ (step w socket.socket (event now Measure)).reply
      → count ≡ length code.network.datagrams.items
      → record { accepted = code.accepted; delivered = code.delivered; acked = p.acked; datagrams = count }
      ≡ summary_of w run.network
  summary_is run code socket now count p is found measured count_is =
      let first = first_at run.network code.accepted code.delivered is.counts in
      let second = second_at run.network code.accepted code.delivered is.counts in
      let seen : slice_get (view_of code.network).sockets 0 ≡ Some (sight_of socket) =
      rw (slice_get-map sight_of code.network.sockets.items 0, found) refl in
      let same = shown_at w run.network (view_of code.network) 0 (sight_of socket) is.counts.first is.shown seen first in
      let state : socket.socket ≡ state_of w is.counts.first.history = ap (λ (s : Sight C). s.state) same in
      let measured_is = measured_acked socket.socket now p measured in
      let acked_is : p.acked ≡ acked_of (state_of w is.counts.first.history).sending - start_of is.counts.first.history =
      omega (arith, measured_is, ap (λ (s : State C). acked_of s.sending) state, is.counts.start) in
      let datagrams_are : count ≡ length run.network.datagrams =
      omega (arith, count_is, ap length is.shown.datagrams_are, length-map code.network.datagrams.items datagram_of) in
      rw (first, second, is.counts.accepted, is.counts.delivered, acked_is, datagrams_are) refl

  -- ---- turns

  -- an event of a, which took so many bytes
  run_first : (run : Run C) (old new : code_run.Run C) (now : ℕ) (act : Act) (more state : ℕ) (is : IsRun w run old)
      → IsPlain now act
      → Moves w 0 (event now act) (view_of old.network) (view_of new.network)
      → more ≡ length (taken_by act (step w (state_of w is.counts.first.history) (event now act)).reply)
      → new.state ≡ state → new.accepted ≡ old.accepted + more → new.delivered ≡ old.delivered
      → IsRun w (record { network = after_call w run.network (codes "a") now act; state = state }) new
  run_first run old new now act more state is plain moves took state_is accepted_is delivered_is =
      let after = after_first run.network old.accepted old.delivered is.counts now act plain in
      record {
        shown = rw after (moves_shown w run.network 0 is.counts.first (event now act) _ _ is.shown
            (first_at run.network old.accepted old.delivered is.counts) moves);
        state = state_is;
        counts = rw (after, accepted_is, delivered_is) (counts_first run.network old.accepted old.delivered is.counts
            (event now act) more took);
      }

  -- an event of b, which gave so many bytes
  run_second : (run : Run C) (old new : code_run.Run C) (now : ℕ) (act : Act) (more state : ℕ) (is : IsRun w run old)
      → IsPlain now act
      → Moves w 1 (event now act) (view_of old.network) (view_of new.network)
      → more ≡ length (given_by (step w (state_of w is.counts.second.history) (event now act)).reply)
      → new.state ≡ state → new.accepted ≡ old.accepted → new.delivered ≡ old.delivered + more
      → IsRun w (record { network = after_call w run.network (codes "b") now act; state = state }) new
  run_second run old new now act more state is plain moves gave state_is accepted_is delivered_is =
      let after = after_second run.network old.accepted old.delivered is.counts now act plain in
      record {
        shown = rw after (moves_shown w run.network 1 is.counts.second (event now act) _ _ is.shown
            (second_at run.network old.accepted old.delivered is.counts) moves);
        state = state_is;
        counts = rw (after, accepted_is, delivered_is) (counts_second run.network old.accepted old.delivered is.counts
            (event now act) more gave);
      }

  -- a sends
  pub run_sent : (run : Run C) (old new : code_run.Run C) (now : ℕ) (bytes : List ℕ) (answer : Result ℕ Refusal) → IsRun w run old
      → bytes ≡ counted_bytes old.accepted (1 + draw old.state % 4096)
      → Answers w 0 (event now (Send bytes)) (Sent answer) (view_of old.network) (view_of new.network)
      → new.state ≡ next_state old.state → new.accepted ≡ old.accepted + count_in answer → new.delivered ≡ old.delivered
      → IsRun w (after_sending w run now) new
  run_sent run old new now bytes answer is bytes_are answers state_is accepted_is delivered_is =
      let there = first_at run.network old.accepted old.delivered is.counts in
      let sent : accepted_of (slice_get run.network.sockets 0) ≡ old.accepted = rw there (sym is.counts.accepted) in
      let reply = reply_shown w run.network 0 is.counts.first (event now (Send bytes)) (Sent answer) _ _ is.shown there answers in
      let took = taken_is (state_of w is.counts.first.history) now bytes answer reply in
      let same : bytes ≡ counted_bytes (accepted_of (slice_get run.network.sockets 0)) (1 + draw run.state % 4096) =
      rw (sent, sym is.state) bytes_are in
      rw (sym same) (run_first run old new now (Send bytes) (count_in answer) (next_state run.state) is (λ n place socket. refl)
      answers.moves took (state_is ∙ ap (λ s. next_state s) is.state) accepted_is delivered_is)

  -- b receives
  pub run_received : (run : Run C) (old new : code_run.Run C) (now room : ℕ) (into : List ℕ) (answer : Result ℕ Refusal)
      → IsRun w run old
      → IfOk answer (λ count. count ≤ length into)
      → Answers w 1 (event now (Recv room)) (Received (received_in answer into)) (view_of old.network) (view_of new.network)
      → new.state ≡ old.state → new.accepted ≡ old.accepted → new.delivered ≡ old.delivered + count_in answer
      → IsRun w (record run { network = after_call w run.network (codes "b") now (Recv room) }) new
  run_received run old new now room into answer is within answers state_is accepted_is delivered_is =
      let there = second_at run.network old.accepted old.delivered is.counts in
      let reply = reply_shown w run.network 1 is.counts.second (event now (Recv room)) _ _ _ is.shown there answers in
      let gave = given_is answer into _ within reply in
      run_second run old new now (Recv room) (count_in answer) run.state is (λ n place socket. refl) answers.moves gave
      (state_is ∙ is.state) accepted_is delivered_is

  -- an event of a that takes no bytes
  pub run_quiet_first : (run : Run C) (old new : code_run.Run C) (now : ℕ) (act : Act) → IsRun w run old → IsPlain now act
      → ((reply : Reply) → taken_by act reply ≡ [])
      → Moves w 0 (event now act) (view_of old.network) (view_of new.network)
      → new.state ≡ old.state → new.accepted ≡ old.accepted → new.delivered ≡ old.delivered
      → IsRun w (record run { network = after_call w run.network (codes "a") now act }) new
  run_quiet_first run old new now act is plain none moves state_is accepted_is delivered_is =
      let took = sym (ap length (none (step w (state_of w is.counts.first.history) (event now act)).reply)) in
      run_first run old new now act 0 run.state is plain moves took (state_is ∙ is.state) (omega (arith, accepted_is))
      delivered_is

  -- and a tick of b
  pub run_ticked_second : (run : Run C) (old new : code_run.Run C) (now : ℕ) → IsRun w run old
      → Moves w 1 (event now Tick) (view_of old.network) (view_of new.network)
      → new.state ≡ old.state → new.accepted ≡ old.accepted → new.delivered ≡ old.delivered
      → IsRun w (record run { network = after_call w run.network (codes "b") now Tick }) new
  run_ticked_second run old new now is moves state_is accepted_is delivered_is =
      let gave = sym (ap (λ reply. length (given_by reply)) (tick_reply w (state_of w is.counts.second.history) now)) in
      run_second run old new now Tick 0 run.state is (λ n place socket. refl) moves gave (state_is ∙ is.state) accepted_is
      (omega (arith, delivered_is))

  -- ---- deliveries

  -- the datagram with this number
  pub datagram_at : (old : code_run.Run C) (number : ℕ) → number < length old.network.datagrams.items
      → (datagram : model.ScriptDatagram) × (slice_get (view_of old.network).datagrams number ≡ Some datagram)
  datagram_at old number within =
      item_at (view_of old.network).datagrams number (omega (arith, length-map old.network.datagrams.items datagram_of, within))

  module _ (run : Run C) (old new : code_run.Run C) (now kind number : ℕ) (is : IsRun w run old)
      (number_is : number ≡ delivered_number kind (draw old.state) (length old.network.datagrams.items))
      (within : number < length old.network.datagrams.items)
      (datagram : model.ScriptDatagram) (at : slice_get (view_of old.network).datagrams number ≡ Some datagram)
      (state_is : new.state ≡ next_state old.state) (accepted_is : new.accepted ≡ old.accepted)
      (delivered_is : new.delivered ≡ old.delivered) where
    count_is : length run.network.datagrams ≡ length old.network.datagrams.items
    count_is = omega (arith, ap length is.shown.datagrams_are, length-map old.network.datagrams.items datagram_of)

    -- what the delivery leads to
    delivered_so : (after : Network C) → (arrived w run.network now datagram (model.route w run.network datagram)).network ≡ after
        → after_delivery w run now kind ≡ record { network = after; state = next_state run.state }
    delivered_so after is_after =
        let some : eqb (length run.network.datagrams) 0 ≡ false =
        ne_eqb (length run.network.datagrams) 0 (λ e. absurd (omega (arith, e, count_is, within))) in
        let same : delivered_number kind (draw run.state) (length run.network.datagrams) ≡ number =
        rw (count_is, sym is.state) (sym number_is) in
        let there : slice_get run.network.datagrams number ≡ Some datagram = rw is.shown.datagrams_are at at in
        rw (some, same, there, is_after) refl

    -- the socket promises no place
    silent_arrival : (place : ℕ) (known : ScriptSocket C) → slice_get run.network.sockets place ≡ Some known
        → (arrived w run.network now datagram (model.ToSocket place known)).network
        ≡ (event_at w run.network place known (event now (Arrive datagram.from datagram.bytes))).network
    silent_arrival place known there =
        ap (λ (p : Printed C). p.network) (not_followed w _ now place known datagram (handshake_in (read datagram.bytes)) _
        (settled-promises w (state_of w known.history) now datagram.from datagram.bytes
        (settled_at run.network old.accepted old.delivered is.counts place known there)))

    -- it goes to a socket
    pub run_delivered : (place : ℕ) → GoesTo w run.network datagram place
        → Moves w place (event now (Arrive datagram.from datagram.bytes)) (view_of old.network) (view_of new.network)
        → IsRun w (after_delivery w run now kind) new
    run_delivered place goes moves =
        let arrives = event now (Arrive datagram.from datagram.bytes) in
        let leads : (arrived w run.network now datagram (model.route w run.network datagram)).network
        ≡ (event_at w run.network place goes.0 arrives).network =
        ap (λ r. (arrived w run.network now datagram r).network) goes.2 ∙ silent_arrival place goes.0 goes.1 in
        rw (delivered_so _ leads) (record {
          shown = moves_shown w run.network place goes.0 arrives _ _ is.shown goes.1 moves;
          state = state_is ∙ ap (λ s. next_state s) is.state;
          counts = rw (accepted_is, delivered_is) (counts_arrival run.network old.accepted old.delivered is.counts place goes.0
              now datagram.from datagram.bytes goes.1);
        })

    -- it goes nowhere
    pub run_dropped : (word : List ℕ) → model.route w run.network datagram ≡ model.Nowhere word
        → (view_of new.network) ≡ (view_of old.network) → IsRun w (after_delivery w run now kind) new
    run_dropped word nowhere same =
        let leads : (arrived w run.network now datagram (model.route w run.network datagram)).network ≡ run.network =
        ap (λ r. (arrived w run.network now datagram r).network) nowhere in
        rw (delivered_so _ leads) (record {
          shown = rw same is.shown;
          state = state_is ∙ ap (λ s. next_state s) is.state;
          counts = rw (accepted_is, delivered_is) is.counts;
        })

  -- ---- what the draws decide

  -- a draw alone
  pub run_drawn : (run : Run C) (old new : code_run.Run C) → IsRun w run old → new ≡ record old { state = next_state old.state }
      → IsRun w (record run { state = next_state run.state }) new
  run_drawn run old new is drawn =
      rw drawn (record { shown = is.shown; state = ap (λ s. next_state s) is.state; counts = is.counts })

  module _ (run : Run C) (now kind : ℕ) (kind_is : kind ≡ draw run.state % 8) where
    -- a turn sends, receives, packs, ticks or delivers, by its kind
    pub turn_sends : kind ≡ 0 → turn w run now ≡ after_sending w (record run { state = next_state run.state }) now
    unfolding turn
    turn_sends is = let e = sym kind_is ∙ is in rw e refl

    pub turn_receives : kind ≡ 1
        → turn w run now ≡ record { network = after_call w run.network (codes "b") now (Recv 4096); state = next_state run.state }
    unfolding turn
    turn_receives is = let e = sym kind_is ∙ is in rw e refl

    pub turn_packs : 1 < kind → kind < 4
        → turn w run now ≡ record { network = after_call w run.network (codes "a") now Pack; state = next_state run.state }
    unfolding turn
    turn_packs some few =
        let zero_no : eqb kind 0 ≡ false = ne_eqb kind 0 (λ e. absurd (omega (arith, e, some))) in
        let one_no : eqb kind 1 ≡ false = ne_eqb kind 1 (λ e. absurd (omega (arith, e, some))) in
        let less : nat_lt kind 4 ≡ true = lt-ltb kind 4 few in
        rw (sym kind_is, zero_no, one_no, less) refl

    pub turn_ticks : kind ≡ 4
        → turn w run now ≡ record {
          network = after_call w (after_call w run.network (codes "a") now Tick) (codes "b") now Tick;
          state = next_state run.state;
        }
    unfolding turn
    turn_ticks is = let e = sym kind_is ∙ is in rw e refl

    pub turn_delivers : 4 < kind → turn w run now ≡ after_delivery w (record run { state = next_state run.state }) now kind
    unfolding turn
    turn_delivers many =
        let zero_no : eqb kind 0 ≡ false = ne_eqb kind 0 (λ e. absurd (omega (arith, e, many))) in
        let one_no : eqb kind 1 ≡ false = ne_eqb kind 1 (λ e. absurd (omega (arith, e, many))) in
        let four_no : eqb kind 4 ≡ false = ne_eqb kind 4 (λ e. absurd (omega (arith, e, many))) in
        let less : nat_lt kind 4 ≡ false = le-ltb kind 4 (omega (arith, many)) in
        rw (sym kind_is, zero_no, one_no, less, four_no) refl

  -- one more turn
  pub generated_more : (n turns : ℕ) → generated w n (suc turns) ≡ turn w (generated w n turns) (50 * (turns + 1))
  unfolding generated
  generated_more n turns = refl
