-- An event of a socket changes what is seen of it as a socket may change, and what endpoints at other hosts know stays.
use Rattle.std.proofs.Common.{◌≡◌, ℕ, ◌+◌, ◌≤◌, Bool, true, false, not, ◌&&◌, ◌||◌, List, Some, None, Option, is_some, refl, ap, ◌∙◌, sym, arith, inl, inr}
use Rattle.std.specs.Prelude.{slice_get, slice_set}
use Rattle.std.proofs.lemmas.Bool.{cases_eq}
use Rattle.std.proofs.lemmas.List.{length-set}
use Rattle.udt_model.specs.declared.addresses.Addr.{Addr}
use Rattle.udt_model.specs.declared.answers.Origin.{Origin}
use Rattle.udt_model.specs.declared.answers.Origin.TheVariants as origin
use Rattle.udt_model.specs.declared.answers.Peer.{Peer}
use Rattle.udt_model.specs.Addresses.{same_addr}
use Rattle.udt_model.specs.Events.{Act, event, at_moment}
use Rattle.udt_model.specs.Network.{first_met, is_listening, is_met, is_pair, meets_by}
use Rattle.udt_model.specs.Phases.{is_closed}
use Rattle.udt_model.specs.Rate.{Ways}
use Rattle.udt_model.specs.Records.{PeerPair, peer_by}
use Rattle.udt_model.specs.Step.{step}
use Rattle.udt_model.proofs.AddressLemmas.{same_addr-is}
use Rattle.udt_routes.specs.Tables.{Table}
use Rattle.udt_laws.proofs.scripts.ReplacedOne.{set-same}
use Rattle.udt_world.specs.Views.{Sight, after_event}
use Rattle.udt_world.specs.Wiring.{FitsPhase, Knows, MayHappen, adopts, first_with, is_any, is_here, listens, meets, one_if, peer_in, sight_with}
use Rattle.udt_world.proofs.ActLemmas.{Acts, meets-asked, step-acts}
use Rattle.udt_world.proofs.FirstLemmas.{first-set, with-place, with-set, sum-set}
use Rattle.udt_world.proofs.FollowLemmas.{Follows, MayFollow}

peer-parts : (from : Origin) (peer : Peer) (pair : PeerPair) → peer_by from peer ≡ Some pair → (pair.addr ≡ peer.addr) × (pair.id ≡ peer.id)
peer-parts origin.Nobody peer pair is = absurd (cc)
peer-parts _ peer pair is =
    let same : record { addr = peer.addr; id = peer.id } ≡ pair = cc in
    (ap (λ (p : PeerPair). p.addr) (sym same), ap (λ (p : PeerPair). p.id) (sym same))

counts-grow : {A : Type 0} (o p : Option A) → ((a : A) → o ≡ Some a → p ≡ Some a) → one_if (is_some o) ≤ one_if (is_some p)
counts-grow None p grows = omega arith
counts-grow (Some a) p grows = rw (grows a refl) (omega arith)

module _ {C : Type 0} (w : Ways C) (sights : List (Sight C)) (place : ℕ) (s : Sight C) (now : ℕ) (act : Act)
    (there : slice_get sights place ≡ Some s) (fits : FitsPhase s.state.phase s.state.origin s.state.peer)
    (may : MayHappen sights place act) where
  acts : Acts (at_moment s.state now) act (step w s.state (event now act))
  acts = step-acts w s.state now act

  -- it keeps what it held
  pub event-follows : Follows s (after_event w s (event now act))
  event-follows = record {
    host = refl;
    closed = acts.closed;
    listened = λ was. ap (λ (b : Bool). b || is_listening (step w s.state (event now act)).reply) was;
    met = λ to was. ap (λ (o : Option Addr). first_met o (meets_by act (step w s.state (event now act)).reply)) was;
    peer = λ pair was. elim (acts.peer fits) [
      | inl keeps ↦
          ap (λ (from : Origin). peer_by from (step w s.state (event now act)).after.peer) keeps.origin
          ∙ (ap (peer_by s.state.origin) keeps.peer ∙ was)
      | inr told ↦
          let none : peer_in s ≡ None = ap (λ (from : Origin). peer_by from s.state.peer) told.none_before in
          absurd (cc)
    ];
  }

  -- and comes to hold what it may
  pub event-may : MayFollow sights s (after_event w s (event now act))
  event-may = record {
    listener = λ none listened.
        let asked = acts.listens (ap (λ (b : Bool). b || is_listening (step w s.state (event now act)).reply) (sym none) ∙ listened) in
        may.listens s asked.0 asked.1 there asked.2;
    meeter = λ to none met.
        let by : meets_by act (step w s.state (event now act)).reply ≡ Some to =
        ap (λ (o : Option Addr). first_met o (meets_by act (step w s.state (event now act)).reply)) (sym none) ∙ met in
        (may.meets s to there (meets-asked act (step w s.state (event now act)).reply to by)).0;
    adopter = λ pair none has. elim (acts.peer fits) [
      | inl keeps ↦
          let same : peer_in (after_event w s (event now act)) ≡ peer_in s =
          ap (λ (from : Origin). peer_by from (step w s.state (event now act)).after.peer) keeps.origin
          ∙ ap (peer_by s.state.origin) keeps.peer in
          absurd (cc)
      | inr told ↦
          let parts = peer-parts (step w s.state (event now act)).after.origin (step w s.state (event now act)).after.peer pair has in
          let free = may.hears s told.from told.raw told.shake there told.arrives told.reads none in
          ap (λ (a : Addr). first_with (adopts s.host a pair.id) sights) (parts.0 ∙ told.addr)
          ∙ (ap (λ (i : ℕ). first_with (adopts s.host told.from i) sights) (parts.1 ∙ told.id) ∙ free)
    ];
  }

module _ {C R : Type 0} (t : Table R) (sights : List (Sight C)) (other : Addr) (k : ℕ) (s next : Sight C)
    (there : slice_get sights k ≡ Some s) (apart : s.host ≡ other → ⊥) (knows : Knows t sights other) (follows : Follows s next) where
  away : (x : Sight C) → x.host ≡ s.host → same_addr x.host other ≡ false
  away x same = by (same_addr x.host other) refl
    where
      by : (b : Bool) → same_addr x.host other ≡ b → b ≡ false
      by false e = refl
      by true e = absurd (apart (sym same ∙ same_addr-is x.host other e))

  -- of a socket at another host nothing is known
  pub others-know : Knows t (slice_set sights k next) other
  others-know = record {
    same = record {
      enrolled = λ id. knows.same.enrolled id ∙ sym (elim (cases_eq id (k + 1)) [
        | inl same ↦
            ap (λ (i : ℕ). is_any (is_here other) (sight_with (slice_set sights k next) i)) same
            ∙ (ap (is_any (is_here other)) (with-place (slice_set sights k next) k ∙ set-same sights k s next there)
            ∙ (ap (λ (b : Bool). b && not (is_closed next.state.phase)) (away next follows.host)
            ∙ sym (ap (λ (i : ℕ). is_any (is_here other) (sight_with sights i)) same
            ∙ (ap (is_any (is_here other)) (with-place sights k ∙ there)
            ∙ ap (λ (b : Bool). b && not (is_closed s.state.phase)) (away s refl)))))
        | inr differs ↦ ap (is_any (is_here other)) (with-set sights k next id differs)
      ]);
      adopter = λ addr id. knows.same.adopter addr id ∙ sym (first-set (adopts other addr id) sights k s next there
          (ap (λ (b : Bool). b && is_pair addr id (peer_in next)) (away next follows.host)
          ∙ sym (ap (λ (b : Bool). b && is_pair addr id (peer_in s)) (away s refl))));
      listener = knows.same.listener ∙ sym (first-set (listens other) sights k s next there
          (ap (λ (b : Bool). (b && not (is_closed next.state.phase)) && next.listened) (away next follows.host)
          ∙ sym (ap (λ (b : Bool). (b && not (is_closed s.state.phase)) && s.listened) (away s refl))));
      meeter = λ addr. knows.same.meeter addr ∙ sym (first-set (meets other addr) sights k s next there
          (ap (λ (b : Bool). (b && not (is_closed next.state.phase)) && is_met addr next.met) (away next follows.host)
          ∙ sym (ap (λ (b : Bool). (b && not (is_closed s.state.phase)) && is_met addr s.met) (away s refl))));
    };
    adopted_once = knows.adopted_once;
    met_once = knows.met_once;
    enrolled_rise = knows.enrolled_rise;
    meetings_rise = knows.meetings_rise;
    ids = knows.ids;
    live = knows.live;
    enrolled = omega (arith, knows.enrolled, length-set sights k next);
    adoptions =
        omega (arith, knows.adoptions, sum-set (λ (x : Sight C). one_if (is_some (peer_in x))) sights k s next there, counts-grow (peer_in s) (peer_in next) follows.peer);
    meetings =
        omega (arith, knows.meetings, sum-set (λ (x : Sight C). one_if (is_some x.met)) sights k s next there, counts-grow s.met next.met follows.met);
  }
