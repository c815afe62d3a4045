-- What a client and a meeting socket see in a handshake that they take.
use Rattle.std.proofs.Common.{◌≡◌, ℕ, true, false, Option, Some, None, refl, inl, inr, ◌⊎◌}
use Rattle.std.specs.Prelude.{◌==◌, ◌&&◌, if◌then◌else◌}
use Rattle.std.proofs.lemmas.Bool.{and_parts, eqb-true}
use Rattle.udt_model.specs.declared.addresses.Addr.{Addr}
use Rattle.udt_model.specs.declared.answers.Peer.{Peer}
use Rattle.udt_model.specs.declared.handshakes.Asked.{Asked}
use Rattle.udt_model.specs.declared.handshakes.Asked.TheVariants as asks
use Rattle.udt_model.specs.declared.handshakes.ClientSaw.{ClientSaw}
use Rattle.udt_model.specs.declared.handshakes.ClientSaw.TheVariants as client
use Rattle.udt_model.specs.declared.handshakes.MeetSaw.{MeetSaw}
use Rattle.udt_model.specs.declared.handshakes.MeetSaw.TheVariants as meet
use Rattle.udt_model.specs.declared.packets.Shake.{Shake}
use Rattle.udt_model.specs.Addresses.{same_addr}
use Rattle.udt_model.specs.Handshakes.{Connecting, Meeting, asked, suits, peer_in, client_sees, client_saw, meets_first, meets_answer, meets_agreement, meet_sees, meet_saw}
use Rattle.udt_model.proofs.AddressLemmas.{same_addr-is}

-- ---- a client

-- what a client sees in a handshake from the address that it asks, for its own ID: a cookie, an answer, or a refusal
pub data SeesAsClient (c : Connecting) (dest : ℕ) (shake : Shake) (from : Addr) : ClientSaw → Type 0 where
  SeesCookie : from ≡ c.caller.to → dest ≡ c.caller.own → asked shake.ask ≡ asks.Requests
      → SeesAsClient c dest shake from client.Cookie
  SeesOffer : from ≡ c.caller.to → dest ≡ c.caller.own → asked shake.ask ≡ asks.Answers → suits c.caller.config shake
      ≡ true
      → SeesAsClient c dest shake from (client.Connected (peer_in c.caller.config from shake))
  SeesRefusal : from ≡ c.caller.to → dest ≡ c.caller.own → asked shake.ask ≡ asks.Refuses
      → SeesAsClient c dest shake from client.Rejected
  SeesNothing : SeesAsClient c dest shake from client.Stale

module _ (c : Connecting) (dest : ℕ) (shake : Shake) (from : Addr) where
  asked-sees : (a : Asked) → asked shake.ask ≡ a → from ≡ c.caller.to → dest ≡ c.caller.own
      → SeesAsClient c dest shake from (client_sees c from shake a)
  asked-sees asks.Requests is sender own =
      elim (shake.cookie == 0) as
      (λ none. SeesAsClient c dest shake from (if none then client.Stale else client.Cookie)) [
        | true ↦ SeesNothing
        | false ↦ SeesCookie sender own is
      ]
  asked-sees asks.Answers is sender own =
      elim (suits c.caller.config shake) as (λ fits. suits c.caller.config shake ≡ fits
      → SeesAsClient c dest shake from (
      if fits
      then client.Connected (peer_in c.caller.config from shake)
      else client.Stale)) [
        | true ↦ λ fits. SeesOffer sender own is fits
        | false ↦ λ fits. SeesNothing
      ] refl
  asked-sees asks.Refuses is sender own = SeesRefusal sender own is
  asked-sees _ is sender own = SeesNothing

  pub client_saw-sees : SeesAsClient c dest shake from (client_saw c dest shake from)
  unfolding client_saw
  client_saw-sees =
      let is_own = same_addr from c.caller.to && (dest == c.caller.own) in
      elim is_own as (λ own. is_own ≡ own → SeesAsClient c dest shake from (
      if own
      then client_sees c from shake (asked shake.ask)
      else client.Stale)) [
        | true ↦ λ own.
            let parts = and_parts (same_addr from c.caller.to) (dest == c.caller.own) own in
            asked-sees (asked shake.ask) refl (same_addr-is from c.caller.to parts.0)
            (eqb-true dest c.caller.own parts.1)
        | false ↦ λ own. SeesNothing
      ] refl

-- ---- a rendezvous

-- what a meeting socket sees in a handshake from the address that it meets: the first one, the first one again, an
-- answer while it has adopted nobody, or an answer of the peer that it has adopted
pub data SeesAsMeeting (m : Meeting) (dest : ℕ) (shake : Shake) (from : Addr) : MeetSaw → Type 0 where
  SeesFirst : from ≡ m.caller.to → suits m.caller.config shake ≡ true → asked shake.ask ≡ asks.Meets → m.adopted ≡ None
      → SeesAsMeeting m dest shake from (meet.Adopted (peer_in m.caller.config from shake))
  SeesAgain : (peer : Peer) → from ≡ m.caller.to → asked shake.ask ≡ asks.Meets → m.adopted ≡ Some peer
      → peer.id ≡ shake.id
      → SeesAsMeeting m dest shake from meet.Answered
  SeesAnswer : from ≡ m.caller.to → suits m.caller.config shake ≡ true → asked shake.ask ≡ asks.Answers
      → dest ≡ m.caller.own
      → m.adopted ≡ None → SeesAsMeeting m dest shake from (meet.Connected (peer_in m.caller.config from shake))
  SeesPeer : (peer : Peer) → from ≡ m.caller.to → suits m.caller.config shake ≡ true
      → (asked shake.ask ≡ asks.Answers) ⊎ (asked shake.ask ≡ asks.Agrees) → dest ≡ m.caller.own → m.adopted ≡ Some peer
      → peer.id ≡ shake.id → SeesAsMeeting m dest shake from (meet.Connected peer)
  SeesNoHandshake : SeesAsMeeting m dest shake from meet.Stale

module _ (m : Meeting) (dest : ℕ) (shake : Shake) (from : Addr) (sender : from ≡ m.caller.to)
    (fits : suits m.caller.config shake ≡ true) where
  first-sees : (adopted : Option Peer) → asked shake.ask ≡ asks.Meets → m.adopted ≡ adopted
      → SeesAsMeeting m dest shake from (meets_first m from shake adopted)
  first-sees None is adopts = SeesFirst sender fits is adopts
  first-sees (Some peer) is adopts =
      elim (peer.id == shake.id) as (λ same. (peer.id == shake.id) ≡ same → SeesAsMeeting m dest shake from (
      if same then meet.Answered else meet.Stale)) [
        | true ↦ λ same. SeesAgain peer sender is adopts (eqb-true peer.id shake.id same)
        | false ↦ λ same. SeesNoHandshake
      ] refl

  peer-sees : (peer : Peer) → (asked shake.ask ≡ asks.Answers) ⊎ (asked shake.ask ≡ asks.Agrees) → dest ≡ m.caller.own
      → m.adopted ≡ Some peer
      → SeesAsMeeting m dest shake from (if peer.id == shake.id then meet.Connected peer else meet.Stale)
  peer-sees peer is own adopts =
      elim (peer.id == shake.id) as (λ same. (peer.id == shake.id) ≡ same → SeesAsMeeting m dest shake from (
      if same then meet.Connected peer else meet.Stale)) [
        | true ↦ λ same. SeesPeer peer sender fits is own adopts (eqb-true peer.id shake.id same)
        | false ↦ λ same. SeesNoHandshake
      ] refl

  answer-sees : (adopted : Option Peer) → asked shake.ask ≡ asks.Answers → dest ≡ m.caller.own → m.adopted ≡ adopted
      → SeesAsMeeting m dest shake from (meets_answer m from shake adopted)
  answer-sees None is own adopts = SeesAnswer sender fits is own adopts
  answer-sees (Some peer) is own adopts = peer-sees peer (inl is) own adopts

  agreement-sees : (adopted : Option Peer) → asked shake.ask ≡ asks.Agrees → dest ≡ m.caller.own → m.adopted ≡ adopted
      → SeesAsMeeting m dest shake from (meets_agreement shake adopted)
  agreement-sees None is own adopts = SeesNoHandshake
  agreement-sees (Some peer) is own adopts = peer-sees peer (inr is) own adopts

  -- what is for the own ID alone
  own-sees : (saw : MeetSaw) → (dest ≡ m.caller.own → SeesAsMeeting m dest shake from saw)
      → SeesAsMeeting m dest shake from (if dest == m.caller.own then saw else meet.Stale)
  own-sees saw sees =
      elim (dest == m.caller.own) as (λ own. (dest == m.caller.own) ≡ own → SeesAsMeeting m dest shake from (
      if own then saw else meet.Stale)) [
        | true ↦ λ own. sees (eqb-true dest m.caller.own own)
        | false ↦ λ own. SeesNoHandshake
      ] refl

  meeting-sees : (a : Asked) → asked shake.ask ≡ a → SeesAsMeeting m dest shake from (meet_sees m dest from shake a)
  meeting-sees asks.Meets is = first-sees m.adopted is refl
  meeting-sees asks.Answers is = own-sees (meets_answer m from shake m.adopted)
      (λ own. answer-sees m.adopted is own refl)
  meeting-sees asks.Agrees is = own-sees (meets_agreement shake m.adopted) (λ own. agreement-sees m.adopted is own refl)
  meeting-sees _ is = SeesNoHandshake

pub meet_saw-sees : (m : Meeting) (dest : ℕ) (shake : Shake) (from : Addr)
    → SeesAsMeeting m dest shake from (meet_saw m dest shake from)
unfolding meet_saw
meet_saw-sees m dest shake from =
    let takes = same_addr from m.caller.to && suits m.caller.config shake in
    elim takes as (λ may. takes ≡ may → SeesAsMeeting m dest shake from (
    if may then meet_sees m dest from shake (asked shake.ask) else meet.Stale)) [
      | true ↦ λ may.
          let parts = and_parts (same_addr from m.caller.to) (suits m.caller.config shake) may in
          meeting-sees m dest shake from (same_addr-is from m.caller.to parts.0) parts.1 (asked shake.ask) refl
      | false ↦ λ may. SeesNoHandshake
    ] refl
