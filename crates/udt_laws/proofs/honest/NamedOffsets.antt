-- The data packets and message drop requests of a history name offsets from its start on, below as many more as bytes
-- that it accepted.
use Rattle.std.proofs.Common.{◌≡◌, ℕ, ◌+◌, ◌-◌, ◌<◌, ◌≤◌, List, [], ◌∷◌, length, Ok, refl, sym, subst, arith}
use Rattle.std.specs.List.{Contains}
use Rattle.std.proofs.lemmas.Option.{slice_get_within}
use Rattle.udt_model.specs.declared.packets.Flags.{Flags}
use Rattle.udt_model.specs.declared.packets.Kind.{Kind}
use Rattle.udt_model.specs.declared.packets.Kind.TheVariants.{Stream, Message}
use Rattle.udt_model.specs.Emissions.{emitted}
use Rattle.udt_model.specs.Events.{Act, Reply}
use Rattle.udt_model.specs.History.{History, after_items, state_of, start_of, accepted}
use Rattle.udt_model.specs.Numbers.{sequence_number}
use Rattle.udt_model.specs.Rate.{Ways}
use Rattle.udt_model.specs.State.{State, Emission}
use Rattle.udt_model.specs.Wire.{Block, DropAsk, read}
use Rattle.udt_model.proofs.EmissionLemmas.{Emitting, DropRequest}
use Rattle.udt_model.proofs.StreamLemmas.{packing-no_drop}
use Rattle.udt_laws.proofs.sockets.Begins.{Begins, begins_settled}
use Rattle.udt_laws.proofs.sent_blocks.AcceptedIsCut.{blocks_by, blocks_by-parts}
use Rattle.udt_laws.proofs.sent_blocks.EmissionsRead.{packet_of}
use Rattle.udt_laws.proofs.sent_blocks.NamedWasSent.{only-named, IsEndless, items-endless, moment-endless, begins-endless}
use Rattle.udt_laws.proofs.sent_blocks.SentBlocks.{same-packet, begins-well, emission-at, emission-reads, carries-block}
use Rattle.udt_laws.proofs.laid_messages.LayoutLemmas.{lies-from, first-covered}
use Rattle.udt_model.proofs.Members.{first-contained, other-contained}
use Rattle.udt_laws.proofs.laid_messages.PairMessages.{either-named, laid-within}
use Rattle.udt_laws.proofs.laid_messages.SentMessages.{payload_of, sends_messages}

module _ {C : Type 0} (w : Ways C) where
  -- a stream asks to drop nothing
  asks-no_drop : (s : State C) (act : Act) (reply : Reply) (emission : Emission) (x : Emitting w s act reply emission)
      (message stamp dest first last : ℕ) → IsEndless w s
      → packet_of w s act reply emission x ≡ DropAsk message stamp dest first last → ⊥
  asks-no_drop s act reply emission (DropRequest dropped connected packs is) message stamp dest first last endless same =
      packing-no_drop w s.sending s.last dropped endless.none packs
  asks-no_drop s act reply emission _ message stamp dest first last endless same = cc

  module _ (h : History C) (begins : Begins w h) where
    pub block-between : (emission : Emission) (number : ℕ) (flags : Flags) (stamp dest : ℕ) (payload : List ℕ) (offset : ℕ)
        → Contains (emitted w h) emission → read emission.datagram.bytes ≡ Ok (Block number flags stamp dest payload)
        → Contains emission.offsets offset → (start_of h ≤ offset) × (offset < start_of h + length (accepted h))
    block-between emission number flags stamp dest payload offset among reads named =
        let carries = carries-block w h begins emission number flags stamp dest payload among reads in
        let same = only-named emission carries.offset offset carries.names named in
        let blocks = blocks_by w h.opening h.items in
        let room : carries.offset - start_of h < length blocks =
        slice_get_within blocks (carries.offset - start_of h) payload carries.carries in
        let parts = blocks_by-parts w h.opening h.items (begins_settled w h begins) begins.legal
        (begins-well w h begins).cut.payload in
        (omega (arith, same, carries.not_before), omega (arith, same, carries.not_before, room, parts.few))

    kind-drop : (k : Kind) → h.opening.kind ≡ k → (emission : Emission) (message stamp dest first last offset : ℕ)
        → Contains (emitted w h) emission → read emission.datagram.bytes ≡ Ok (DropAsk message stamp dest first last)
        → Contains emission.offsets offset → (start_of h ≤ offset) × (offset < start_of h + length (accepted h))
    kind-drop Stream stream emission message stamp dest first last offset among reads named =
        let at = emission-at w h begins emission among in
        let spelled = emission-reads w h begins emission at in
        let same = same-packet emission.datagram.bytes _ _ spelled.reads reads in
        let endless = moment-endless w (after_items w h.opening at.front) at.item.event.now
        (items-endless w h.opening at.front (begins-endless w h begins stream)) in
        absurd (asks-no_drop _ _ _ emission at.emitting message stamp dest first last endless same)
    kind-drop Message carries emission message stamp dest first last offset among reads named =
        let sends = sends_messages w h begins carries in
        let asks = sends.drops emission message stamp dest first last among reads in
        let lies = lies-from (payload_of w h) sends.some (start_of h) sends.laid asks.laid sends.are_laid asks.among in
        let order = (first-covered (payload_of w h) sends.some (start_of h) asks.laid lies).to in
        let between = either-named asks.laid.message.first asks.laid.message.last offset emission.offsets asks.names
        named order in
        (omega (arith, lies.from, between.0), omega (arith, between.1, laid-within w h begins sends asks.laid asks.among))

    pub drop-between : (emission : Emission) (message stamp dest first last offset : ℕ) → Contains (emitted w h) emission
        → read emission.datagram.bytes ≡ Ok (DropAsk message stamp dest first last)
        → Contains emission.offsets offset → (start_of h ≤ offset) × (offset < start_of h + length (accepted h))
    drop-between = kind-drop h.opening.kind refl

    -- the last sequence number of a drop request is that of an offset that it names
    pub record NamesLast (emission : Emission) (last : ℕ) : Type 0 where
      pub offset : ℕ
      pub named : Contains emission.offsets offset
      pub numbered : last ≡ sequence_number (state_of w h).sending.isn offset

    kind-last : (k : Kind) → h.opening.kind ≡ k → (emission : Emission) (message stamp dest first last : ℕ)
        → Contains (emitted w h) emission → read emission.datagram.bytes ≡ Ok (DropAsk message stamp dest first last)
        → NamesLast emission last
    kind-last Stream stream emission message stamp dest first last among reads =
        let at = emission-at w h begins emission among in
        let spelled = emission-reads w h begins emission at in
        let same = same-packet emission.datagram.bytes _ _ spelled.reads reads in
        let endless = moment-endless w (after_items w h.opening at.front) at.item.event.now
        (items-endless w h.opening at.front (begins-endless w h begins stream)) in
        absurd (asks-no_drop _ _ _ emission at.emitting message stamp dest first last endless same)
    kind-last Message carries emission message stamp dest first last among reads =
        let asks = (sends_messages w h begins carries).drops emission message stamp dest first last among reads in
        let m = asks.laid.message in
        record {
          offset = m.last;
          named = subst (λ (offsets : List ℕ). Contains offsets m.last) (sym asks.names)
              (other-contained m.first (m.last ∷ []) m.last (first-contained m.last []));
          numbered = asks.ends;
        }

    pub names-last : (emission : Emission) (message stamp dest first last : ℕ) → Contains (emitted w h) emission
        → read emission.datagram.bytes ≡ Ok (DropAsk message stamp dest first last) → NamesLast emission last
    names-last = kind-last h.opening.kind refl
