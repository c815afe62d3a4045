-- A socket whose peer's datagrams alone arrive delivers a prefix of what the peer accepted.
use Rattle.std.proofs.Common.{◌≡◌, ℕ, zero, suc, ◌+◌, ◌-◌, List, [], ◌∷◌, ◌++◌, drop, Some, Ok, refl, ap, ◌∙◌, sym, subst, true, arith}
use Rattle.std.specs.Prelude.{slice_get}
use Rattle.std.specs.List.{Contains, concat}
use Rattle.std.proofs.lemmas.Option.{same_Some}
use Rattle.std.proofs.lemmas.List.{append_assoc}
use Rattle.std.proofs.lemmas.List.Elements.{Contains-push}
use Rattle.udt_model.specs.declared.packets.Kind.TheVariants.{Stream}
use Rattle.udt_model.specs.declared.answers.Peer.{Peer}
use Rattle.udt_model.specs.declared.packets.Flags.{Flags}
use Rattle.udt_model.specs.Numbers.{sequence_number, near}
use Rattle.udt_model.specs.Wire.{Block, read}
use Rattle.udt_model.specs.History.{History, state_of, start_of, accepted, delivered}
use Rattle.udt_model.specs.declared.addresses.Addr.{Addr}
use Rattle.udt_model.specs.Emissions.{IsPrefix}
use Rattle.udt_model.specs.Rate.{Ways}
use Rattle.udt_model.specs.State.{Emission}
use Rattle.udt_model.proofs.NearLemmas.{near-is}
use Rattle.udt_model.proofs.PhaseLemmas.{is_settled}
use Rattle.udt_model.proofs.ReceivingLemmas.{AllFrom, concat-append}
use Rattle.udt_laws.specs.Laws.{HasBlocks}
use Rattle.udt_laws.proofs.delivered_is_carried.GivenIsOfBlocks.{IsPrefixOf}
use Rattle.udt_laws.proofs.delivered_is_carried.DeliversPlacedBlocks.{AllMeet, delivers-front_of}
use Rattle.udt_laws.proofs.sockets.Begins.{Begins, begins_settled, begins_receiving, begins_top, begins_base, begins_placed, last_peer, last_isn}
use Rattle.udt_laws.proofs.sockets.Opened.{AreConnected}
use Rattle.udt_laws.proofs.sockets.OneSocket.{IsEmittedNear}
use Rattle.udt_laws.proofs.delivered_prefix.WindowRises.{IsWithin}
use Rattle.udt_laws.proofs.delivered_is_carried.DeliveredIsCarried.{begins_given_none}
use Rattle.udt_laws.proofs.sent_blocks.SentBlocks.{has_blocks}

-- a block at its place in a list begins what stands from there on
drop-found : (blocks : List (List ℕ)) (k : ℕ) (block : List ℕ) → slice_get blocks k ≡ Some block → drop k blocks ≡ block ∷ drop (k + 1) blocks
drop-found [] k block found = absurd (cc)
drop-found (first ∷ others) zero block found = ap (λ (b : List ℕ). b ∷ others) (same_Some _ _ found)
drop-found (first ∷ others) (suc k) block found =
    let same : suc k + 1 ≡ suc (k + 1) = omega arith in
    rw same (drop-found others k block found)

module _ {C : Type 0} (w : Ways C) where
  module _ (g : History C) (has : HasBlocks w g) where
    -- the block of the sender at this offset
    abbrev pub IsBlockAt : ℕ → List ℕ → Type 0
    IsBlockAt offset payload = slice_get has.blocks (offset - start_of g) ≡ Some payload

    -- a data packet that the sender emitted is read as the block whose offset it names
    pub record IsReadAs (emission : Emission) (offset : ℕ) (payload : List ℕ) : Type 0 where
      pub named : Contains emission.offsets offset
      pub is_block : IsBlockAt offset payload

    pub reads-as : (isn top number offset : ℕ) (flags : Flags) (stamp dest : ℕ) (bytes payload : List ℕ) → (state_of w g).sending.isn ≡ isn
        → (is : IsEmittedNear w g top bytes) → read bytes ≡ Ok (Block number flags stamp dest payload) → near isn top number ≡ Some offset
        → IsReadAs is.emission offset payload
    reads-as isn top number offset flags stamp dest bytes payload same_isn is reads found =
        let carries = has.emits is.emission number flags stamp dest payload is.among (ap read is.same ∙ reads) in
        let named = subst (λ (offsets : List ℕ). Contains offsets carries.offset) (sym carries.names) (Contains-push [] carries.offset) in
        let close = is.close carries.offset named in
        let numbered : sequence_number isn carries.offset ≡ number = ap (λ (n : ℕ). sequence_number n carries.offset) (sym same_isn) ∙ sym carries.numbered in
        let there = near-is isn top number carries.offset (record { carries = numbered; not_above = close.0; not_below = close.1 }) in
        let same : carries.offset ≡ offset = same_Some _ _ (sym there ∙ found) in
        record {
          named = subst (λ (n : ℕ). Contains is.emission.offsets n) same named;
          is_block = subst (λ (n : ℕ). IsBlockAt n payload) same carries.carries;
        }

    -- blocks that stand at their places follow one another in the list
    blocks-follow : (k : ℕ) (blocks : List (List ℕ)) → AllFrom IsBlockAt (start_of g + k) blocks
        → (rest : List (List ℕ)) × (drop k has.blocks ≡ blocks ++ rest)
    blocks-follow k [] all = (drop k has.blocks, refl)
    blocks-follow k (block ∷ others) all =
        let place : start_of g + k - start_of g ≡ k = omega arith in
        let next : start_of g + k + 1 ≡ start_of g + (k + 1) = omega arith in
        let found : slice_get has.blocks k ≡ Some block = ap (slice_get has.blocks) (sym place) ∙ all.0 in
        let after = blocks-follow (k + 1) others (subst (λ (offset : ℕ). AllFrom IsBlockAt offset others) next all.1) in
        (after.0, drop-found has.blocks k block found ∙ ap (λ (rest : List (List ℕ)). block ∷ rest) after.1)

    -- so a front of them is a front of what the sender accepted
    front-accepted : (got : List ℕ) → IsPrefixOf IsBlockAt (start_of g) got → IsPrefix got (accepted g)
    front-accepted got front =
        let place : start_of g ≡ start_of g + 0 = omega arith in
        let follow = blocks-follow 0 front.blocks (subst (λ (offset : ℕ). AllFrom IsBlockAt offset front.blocks) place front.each) in (
          front.front.0 ++ concat follow.0,
          sym has.joined ∙ ap concat follow.1 ∙ concat-append front.blocks follow.0
              ∙ ap (λ (bytes : List ℕ). bytes ++ concat follow.0) front.front.1 ∙ append_assoc got front.front.0 (concat follow.0),
        )

    -- a socket that begins where the sender does, and places only its blocks, delivers a front of what it accepted
    pub delivers-front : (h : History C) → Begins w h → start_of g ≡ start_of h → h.opening.kind ≡ Stream → AllMeet w IsBlockAt h.opening h.items
        → IsPrefix (delivered h) (accepted g)
    delivers-front h begins same_start stream meets =
        let front = delivers-front_of w IsBlockAt (start_of h) h.opening h.items stream begins.legal meets
        (begins_given_none w IsBlockAt h begins) in
        front-accepted (delivered h) (subst (λ (n : ℕ). IsPrefixOf IsBlockAt n (delivered h)) (sym same_start) front)

  -- ---- histories that begin as connected to each other

  -- two sockets name each other as peer, count from one initial sequence number and one offset, and the one delivers a front of
  -- what the other accepted where it places only its blocks
  pub record AreMates (addr : Addr) (own : ℕ) (h : History C) (other_addr : Addr) (other_own : ℕ) (g : History C) : Type 0 where
    pub has : HasBlocks w g
    pub settled : is_settled h.opening.phase ≡ true
    pub own_is : h.opening.own ≡ own
    pub peer_addr : h.opening.peer.addr ≡ other_addr
    pub back_addr : (state_of w g).peer.addr ≡ addr
    pub back_id : (state_of w g).peer.id ≡ own
    pub same_isn : (state_of w g).sending.isn ≡ h.opening.receiving.isn
    pub same_start : start_of g ≡ start_of h
    pub stands : IsWithin (start_of h) (start_of h) h.opening.receiving
    pub front : h.opening.kind ≡ Stream → AllMeet w (IsBlockAt g has) h.opening h.items → IsPrefix (delivered h) (accepted g)

  -- a receiving half that begins stands where its direction begins
  stands-begun : (h : History C) → Begins w h → IsWithin (start_of h) (start_of h) h.opening.receiving
  stands-begun h begins = record {
    not_below = omega (arith, begins_base w h begins);
    base = omega (arith, begins_base w h begins, begins_top w h begins);
    placed = rw (begins_placed w h begins) tt;
    not_above = omega (arith, begins_top w h begins);
  }

  pub mates : (addr : Addr) (own : ℕ) (h : History C) (other_addr : Addr) (other_own : ℕ) (g : History C)
      → AreConnected w addr own h other_addr other_own g → AreMates addr own h other_addr other_own g
  mates addr own h other_addr other_own g are =
      let has = has_blocks w g are.other_begins in
      let back_is = last_peer w g are.other_begins in
      record {
        has = has;
        settled = begins_settled w h are.begins;
        own_is = are.own_is;
        peer_addr = are.peer_addr;
        back_addr = ap (λ (p : Peer). p.addr) back_is ∙ are.back_addr;
        back_id = ap (λ (p : Peer). p.id) back_is ∙ are.back_id;
        same_isn = last_isn w g are.other_begins ∙ sym are.isn ∙ sym (begins_receiving w h are.begins);
        same_start = are.same_start;
        stands = stands-begun h are.begins;
        front = delivers-front g has h are.begins are.same_start;
      }
