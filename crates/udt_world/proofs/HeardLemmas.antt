-- A listener that promises a place to a request keeps its peer and what it was opened with.
use Rattle.std.proofs.Common.{◌≡◌, Result, Ok, Err, List, ℕ, refl}
use Rattle.udt_model.specs.declared.addresses.Addr.{Addr}
use Rattle.udt_model.specs.declared.answers.Heard.{Heard}
use Rattle.udt_model.specs.declared.answers.Heard.TheVariants as heard
use Rattle.udt_model.specs.declared.answers.Origin.{Origin}
use Rattle.udt_model.specs.declared.answers.Peer.{Peer}
use Rattle.udt_model.specs.declared.packets.Malformed.{Malformed}
use Rattle.udt_model.specs.Arrivals.{on_read}
use Rattle.udt_model.specs.Connections.{config_of}
use Rattle.udt_model.specs.Events.{Arrive, DidHear, at_moment, event}
use Rattle.udt_model.specs.Phases.{Backlog, Phase}
use Rattle.udt_model.specs.Phases as phase
use Rattle.udt_model.specs.Rate.{Ways}
use Rattle.udt_model.specs.State.{Emission, State}
use Rattle.udt_model.specs.Step.{step}
use Rattle.udt_model.specs.Wire.{Packet, read}
use Rattle.udt_model.proofs.ArrivalLemmas as arrives
use Rattle.udt_model.proofs.ArrivalLemmas.{Shakes, packet-shows}
use Rattle.udt_laws.proofs.scripts.RequestHeard.{Promises, request-promised}

module _ {C : Type 0} where
  -- a listener, and what it is once it promised
  pub record KeepsOpening (s t : State C) : Type 0 where
    pub backlog : Backlog
    pub listens : s.phase ≡ phase.Listening backlog
    pub origin : t.origin ≡ s.origin
    pub peer : t.peer ≡ s.peer
    pub config : config_of t ≡ config_of s

  shakes-keeps : (s : State C) (from : Addr) (result : Result Packet Malformed) (next : Phase) (peer : Peer) (from_whom : Origin)
      (answer : Heard) (emissions : List Emission) → Shakes s from result next peer from_whom answer emissions
      → answer ≡ heard.Request → (peer ≡ s.peer) × (from_whom ≡ s.origin)
  shakes-keeps s from result _ _ _ _ _ (arrives.Promises b stamp shake is reads asks named judges) request = (refl, refl)
  shakes-keeps s from result _ _ _ _ _ (arrives.GivesCookie b stamp shake answer is reads asks named judges) request = absurd (cc)
  shakes-keeps s from result _ _ _ _ _ (arrives.Refuses b stamp shake answer is reads asks named judges) request = absurd (cc)
  shakes-keeps s from result _ _ _ _ _ (arrives.TakesCookie c again stamp dest shake is reads sees) request = absurd (cc)
  shakes-keeps s from result _ _ _ _ _ (arrives.IsRefused c again stamp dest shake is reads sees) request = absurd (cc)
  shakes-keeps s from result _ _ _ _ _ (arrives.Adopts m again stamp dest shake peer is reads sees) request = absurd (cc)
  shakes-keeps s from result _ _ _ _ _ (arrives.AnswersAdopted m again stamp dest shake is reads sees) request = absurd (cc)

module _ {C : Type 0} (w : Ways C) where
  read-keeps : (s : State C) (from : Addr) (raw : List ℕ) (result : Result Packet Malformed) → read raw ≡ result
      → Promises (on_read w s from result) → KeepsOpening s (on_read w s from result).after
  read-keeps s from raw (Err why) reads is = absurd (cc)
  read-keeps s from raw (Ok packet) reads is =
      let promised = request-promised w s from raw (Ok packet) reads is in
      packet-shows w s from (Ok packet) (λ outcome. Promises outcome → KeepsOpening s outcome.after) (record {
        stale = λ e. absurd (cc);
        shaken = λ next peer origin answer emissions placed dropped unsettled shakes e.
            let same : answer ≡ heard.Request = cc in
            let keeps = shakes-keeps s from (Ok packet) next peer origin answer emissions shakes same in
            record {
              backlog = promised.backlog;
              listens = promised.listens;
              origin = keeps.1;
              peer = keeps.0;
              config = refl;
            };
        linked = λ peer origin emissions unsettled links e. absurd (cc);
      }) packet s.phase refl refl (λ connected e. let listens = promised.listens in absurd (cc)) is

  -- so it is once it heard the request
  pub promised-keeps : (s : State C) (now : ℕ) (from : Addr) (raw : List ℕ)
      → (step w s (event now (Arrive from raw))).reply ≡ DidHear heard.Request
      → KeepsOpening s (step w s (event now (Arrive from raw))).after
  unfolding step
  promised-keeps s now from raw promises =
      let keeps = read-keeps (at_moment s now) from raw (read raw) refl promises in
      record {
        backlog = keeps.backlog;
        listens = keeps.listens;
        origin = keeps.origin;
        peer = keeps.peer;
        config = keeps.config;
      }
