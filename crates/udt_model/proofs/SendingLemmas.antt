-- How the sending half keeps its blocks: a message cut into blocks is its bytes, and the kept blocks are the last
-- ones accepted, whatever is sent, acknowledged and lost.
use Rattle.std.proofs.Common.{◌≡◌, ℕ, zero, suc, ◌+◌, ◌-◌, ◌*◌, ◌^◌, ◌<◌, ◌≤◌, Bool, true, false, List, [], ◌∷◌, ◌++◌, length, take, drop, Some, None, refl, ap, ◌∙◌, sym, subst, arith}
use Rattle.std.specs.Prelude.{Option, slice_get, map, max, nat_lt, nat_le, ◌&&◌, if◌then◌else◌}
use Rattle.std.specs.List.{concat}
use Rattle.std.specs.Option.{option_map}
use Rattle.std.proofs.lemmas.Bool.{ltb-true, ltb-false, leb-true, and_parts}
use Rattle.std.proofs.lemmas.Bool.Decides.{nat_tests}
use Rattle.std.proofs.lemmas.Option.{slice_get-map}
use Rattle.std.proofs.lemmas.Option.{slice_get_within}
use Rattle.std.proofs.lemmas.List.{length-append, length-map, map-append, drop-append-le, drop-drop, drop-map, length-drop, take_all}
use Rattle.std.proofs.Math.Seq.{take-add}
use Rattle.udt_model.specs.declared.packets.AckBody.{AckBody}
use Rattle.udt_model.specs.declared.packets.AckBody.TheVariants.{Light, Buffer, Full}
use Rattle.udt_model.specs.Losses.{LostRange, with_range}
use Rattle.udt_model.specs.Numbers.{near}
use Rattle.udt_model.specs.Rate.{Ways}
use Rattle.udt_model.specs.SendBlocks.{Message, KeptBlock, SendBlocks, count_for, blocks_of, following_message, end_of, kept_at}
use Rattle.udt_model.specs.SendHalf.{Sending, message_after, with_message, Retransmits, Drops, Sends, Idles, Waits, Packing, has_passed, sends, retransmits, leaves_next, packing, after_packing, after_pack}
use Rattle.udt_model.specs.SendReports.{Acking, Acks, IsStale, acking_near, acking, acked_number, released, measured, after_acking, after_ack, entering_range, from_first, entering, with_ranges, after_entering, after_nak, after_timeout, sampled}
use Rattle.udt_model.specs.Timing.{RoundTrip}
use Rattle.udt_model.specs.Wire.{WireRange}
use Rattle.udt_model.proofs.OffsetLemmas.{AreWithin, AreWithin-wider, AreWithin-drop, without_range-within, from_offset-within, with_range-within, with_range-among}

-- the bytes of blocks, one by one
abbrev pub bytes_of : List KeptBlock → List (List ℕ)
bytes_of kept = map (λ (block : KeptBlock). block.bytes) kept

-- each block's message number fits its place
abbrev pub MessagesFit : List KeptBlock → Type 0
MessagesFit [] = Unit {0}
MessagesFit (block ∷ others) = (block.flags.message < 2 ^ 29) × (block.message.number < 2 ^ 29) × MessagesFit others

pub MessagesFit-append : (kept more : List KeptBlock) → MessagesFit kept → MessagesFit more → MessagesFit (kept ++ more)
MessagesFit-append [] more fit next = next
MessagesFit-append (block ∷ others) more fit next = (fit.0, fit.1, MessagesFit-append others more fit.2 next)

pub MessagesFit-drop : (n : ℕ) (kept : List KeptBlock) → MessagesFit kept → MessagesFit (drop n kept)
MessagesFit-drop zero kept fit = fit
MessagesFit-drop (suc n) [] fit = tt
MessagesFit-drop (suc n) (block ∷ others) fit = MessagesFit-drop n others fit.2

pub MessagesFit-at : (kept : List KeptBlock) (n : ℕ) (block : KeptBlock) → MessagesFit kept → slice_get kept n ≡ Some block
    → block.flags.message < 2 ^ 29
MessagesFit-at [] n block fit found = absurd (cc)
MessagesFit-at (first ∷ others) zero block fit found =
    let is : first ≡ block = cc in
    subst (λ (b : KeptBlock). b.flags.message < 2 ^ 29) is fit.0
MessagesFit-at (first ∷ others) (suc n) block fit found = MessagesFit-at others n block fit.2 found

pub MessagesFit-number : (kept : List KeptBlock) (n : ℕ) (block : KeptBlock) → MessagesFit kept → slice_get kept n ≡ Some block
    → block.message.number < 2 ^ 29
MessagesFit-number [] n block fit found = absurd (cc)
MessagesFit-number (first ∷ others) zero block fit found =
    let is : first ≡ block = cc in
    subst (λ (b : KeptBlock). b.message.number < 2 ^ 29) is fit.1
MessagesFit-number (first ∷ others) (suc n) block fit found = MessagesFit-number others n block fit.2 found

-- the message of each block ends before this offset
abbrev pub EndBefore : ℕ → List KeptBlock → Type 0
EndBefore end [] = Unit {0}
EndBefore end (block ∷ others) = (block.message.last < end) × EndBefore end others

pub EndBefore-later : (end later : ℕ) (kept : List KeptBlock) → end ≤ later → EndBefore end kept → EndBefore later kept
EndBefore-later end later [] up ends = tt
EndBefore-later end later (block ∷ others) up ends = (omega (arith, ends.0), EndBefore-later end later others up ends.1)

pub EndBefore-append : (end : ℕ) (kept more : List KeptBlock) → EndBefore end kept → EndBefore end more → EndBefore end (kept ++ more)
EndBefore-append end [] more ends next = next
EndBefore-append end (block ∷ others) more ends next = (ends.0, EndBefore-append end others more ends.1 next)

pub EndBefore-drop : (end n : ℕ) (kept : List KeptBlock) → EndBefore end kept → EndBefore end (drop n kept)
EndBefore-drop end zero kept ends = ends
EndBefore-drop end (suc n) [] ends = tt
EndBefore-drop end (suc n) (block ∷ others) ends = EndBefore-drop end n others ends.1

pub EndBefore-at : (end : ℕ) (kept : List KeptBlock) (n : ℕ) (block : KeptBlock) → EndBefore end kept → slice_get kept n ≡ Some block
    → block.message.last < end
EndBefore-at end [] n block ends found = absurd (cc)
EndBefore-at end (first ∷ others) zero block ends found =
    let is : first ≡ block = cc in
    subst (λ (b : KeptBlock). b.message.last < end) is ends.0
EndBefore-at end (first ∷ others) (suc n) block ends found = EndBefore-at end others n block ends.1 found

-- ---- a message cut into blocks

pub blocks_of-ends : (m : Message) (payload offset count end : ℕ) (bytes : List ℕ) → (1 ≤ count → m.last < end)
    → EndBefore end (blocks_of m payload offset count bytes)
unfolding blocks_of
blocks_of-ends m payload offset zero end bytes before = tt
blocks_of-ends m payload offset (suc count) end bytes before =
    (before (omega arith), blocks_of-ends m payload (offset + 1) count end (drop payload bytes) (λ some. before (omega arith)))

pub length-blocks_of : (m : Message) (payload offset count : ℕ) (bytes : List ℕ) → length (blocks_of m payload offset count bytes) ≡ count
unfolding blocks_of
length-blocks_of m payload offset zero bytes = refl
length-blocks_of m payload offset (suc count) bytes = ap suc (length-blocks_of m payload (offset + 1) count (drop payload bytes))

pub blocks_of-fit : (m : Message) (payload offset count : ℕ) (bytes : List ℕ) → m.number < 2 ^ 29
    → MessagesFit (blocks_of m payload offset count bytes)
unfolding blocks_of
blocks_of-fit m payload offset zero bytes fits = tt
blocks_of-fit m payload offset (suc count) bytes fits = (fits, fits, blocks_of-fit m payload (offset + 1) count (drop payload bytes) fits)

-- this many blocks joined are a front of the bytes
pub blocks_of-joined : (m : Message) (payload offset count : ℕ) (bytes : List ℕ)
    → concat (bytes_of (blocks_of m payload offset count bytes)) ≡ take (count * payload) bytes
unfolding blocks_of
blocks_of-joined m payload offset zero bytes =
    let none : zero * payload ≡ 0 = omega arith in
    rw none
blocks_of-joined m payload offset (suc count) bytes =
    let more : suc count * payload ≡ payload + count * payload = grind arith in
    ap (λ (rest : List ℕ). take payload bytes ++ rest) (blocks_of-joined m payload (offset + 1) count (drop payload bytes))
    ∙ sym (take-add payload (count * payload) bytes) ∙ ap (λ (n : ℕ). take n bytes) (sym more)

-- and as many as a message fills are all of them
pub count_for-enough : (len payload : ℕ) → 1 ≤ payload → len ≤ count_for len payload * payload
count_for-enough len payload some = omega arith

pub blocks_of-all : (m : Message) (payload offset : ℕ) (bytes : List ℕ) → 1 ≤ payload
    → concat (bytes_of (blocks_of m payload offset (count_for (length bytes) payload) bytes)) ≡ bytes
blocks_of-all m payload offset bytes some =
    blocks_of-joined m payload offset (count_for (length bytes) payload) bytes
    ∙ take_all (count_for (length bytes) payload * payload) bytes (count_for-enough (length bytes) payload some)

message_after-fits : (message : ℕ) → message < 2 ^ 29 → message_after message < 2 ^ 29
message_after-fits message fits = grind (arith, nat_tests)

-- ---- the blocks that were accepted

slice_get-drop : (k n : ℕ) (xs : List (List ℕ)) → slice_get (drop k xs) n ≡ slice_get xs (k + n)
slice_get-drop zero n xs =
    let same : zero + n ≡ n = omega arith in
    rw same
slice_get-drop (suc k) n [] = refl
slice_get-drop (suc k) n (x ∷ xs) =
    let same : suc k + n ≡ suc (k + n) = omega arith in
    rw same (slice_get-drop k n xs)

-- a block that is kept at an offset stands there
pub record IsKeptAt (b : SendBlocks) (offset : ℕ) (block : KeptBlock) : Type 0 where
  pub not_below : b.first ≤ offset
  pub found : slice_get b.kept (offset - b.first) ≡ Some block

pub kept_at-is : (b : SendBlocks) (offset : ℕ) (block : KeptBlock) → kept_at b offset ≡ Some block → IsKeptAt b offset block
kept_at-is b offset block is =
    elim (nat_lt offset b.first) as (λ below. nat_lt offset b.first ≡ below
    → (if below then None else slice_get b.kept (offset - b.first)) ≡ Some block → IsKeptAt b offset block) [
      | true ↦ λ test none. absurd (cc)
      | false ↦ λ test found. record { not_below = ltb-false offset b.first test; found = found }
    ] refl is

module _ {C : Type 0} where
  -- these are all blocks that the half ever accepted, in a direction that begins at this offset: the kept ones are the
  -- last of them, and those that are to be retransmitted are in flight
  pub record IsCut (s : Sending C) (start : ℕ) (blocks : List (List ℕ)) : Type 0 where
    pub not_before : start ≤ s.blocks.first
    pub count : s.blocks.first + length s.blocks.kept ≡ start + length blocks
    pub kept : bytes_of s.blocks.kept ≡ drop (s.blocks.first - start) blocks
    pub sent_from : s.blocks.first ≤ s.next
    pub sent_to : s.next ≤ s.blocks.first + length s.blocks.kept
    pub lost : AreWithin s.blocks.first s.next s.lost
    pub messages : MessagesFit s.blocks.kept
    pub ends : EndBefore (s.blocks.first + length s.blocks.kept) s.blocks.kept
    pub message : s.message < 2 ^ 29
    pub payload : 1 ≤ s.blocks.payload

  -- the blocks into which a message of these bytes is cut
  abbrev pub new_blocks : Sending C → Bool → Option ℕ → List ℕ → List KeptBlock
  new_blocks s order expires bytes =
      let count = count_for (length bytes) s.blocks.payload in
      blocks_of (following_message s.blocks count s.message order expires) s.blocks.payload (end_of s.blocks) count bytes

  -- a message adds the blocks into which it is cut
  pub cut-with_message : (s : Sending C) (start : ℕ) (blocks : List (List ℕ)) (order : Bool) (expires : Option ℕ) (bytes : List ℕ)
      → IsCut s start blocks
      → IsCut (with_message s order expires bytes) start (blocks ++ bytes_of (new_blocks s order expires bytes))
  cut-with_message s start blocks order expires bytes is_cut =
      let more = new_blocks s order expires bytes in
      let count = count_for (length bytes) s.blocks.payload in
      let filled = length-blocks_of (following_message s.blocks count s.message order expires) s.blocks.payload (end_of s.blocks) count bytes in
      let end = s.blocks.first + length (s.blocks.kept ++ more) in
      let longer = length-append s.blocks.kept more in
      let known : s.blocks.first - start ≤ length blocks = omega (arith, is_cut.not_before, is_cut.count) in
      record {
        not_before = is_cut.not_before;
        count = omega (arith, is_cut.count, length-append s.blocks.kept more, length-append blocks (bytes_of more), length-map more (λ (block : KeptBlock). block.bytes));
        kept = map-append (λ (block : KeptBlock). block.bytes) s.blocks.kept more
            ∙ ap (λ (front : List (List ℕ)). front ++ bytes_of more) is_cut.kept
            ∙ sym (drop-append-le (s.blocks.first - start) blocks (bytes_of more) known);
        sent_from = is_cut.sent_from;
        sent_to = omega (arith, is_cut.sent_to, length-append s.blocks.kept more);
        lost = is_cut.lost;
        messages = MessagesFit-append s.blocks.kept more is_cut.messages (blocks_of-fit _ s.blocks.payload _ _ bytes is_cut.message);
        ends = EndBefore-append end s.blocks.kept more
            (EndBefore-later (s.blocks.first + length s.blocks.kept) end s.blocks.kept (omega (arith, longer)) is_cut.ends)
            (blocks_of-ends _ s.blocks.payload _ _ end bytes (λ some. omega (arith, longer, filled, some)));
        message = message_after-fits s.message is_cut.message;
        payload = is_cut.payload;
      }

  -- a kept block stands at its offset
  pub cut-kept_at : (s : Sending C) (start : ℕ) (blocks : List (List ℕ)) (offset : ℕ) (block : KeptBlock) → IsCut s start blocks
      → kept_at s.blocks offset ≡ Some block → slice_get blocks (offset - start) ≡ Some block.bytes
  cut-kept_at s start blocks offset block is_cut is =
      let at = kept_at-is s.blocks offset block is in
      let place : s.blocks.first - start + (offset - s.blocks.first) ≡ offset - start = omega (arith, is_cut.not_before, at.not_below) in
      ap (slice_get blocks) (sym place) ∙ sym (slice_get-drop (s.blocks.first - start) (offset - s.blocks.first) blocks)
      ∙ ap (λ (kept : List (List ℕ)). slice_get kept (offset - s.blocks.first)) (sym is_cut.kept)
      ∙ slice_get-map (λ (block : KeptBlock). block.bytes) s.blocks.kept (offset - s.blocks.first) ∙ ap (option_map (λ (b : KeptBlock). b.bytes)) at.found

  -- ---- packing

  -- the least lost block, where it is retransmitted
  pub record IsLeastLost (s : Sending C) (offset : ℕ) (block : KeptBlock) : Type 0 where
    pub others : List ℕ
    pub lost : s.lost ≡ offset ∷ others
    pub kept : kept_at s.blocks offset ≡ Some block

  -- the message of the least lost block
  pub record IsOfLeastLost (s : Sending C) (message : Message) : Type 0 where
    pub offset : ℕ
    pub block : KeptBlock
    pub least : IsLeastLost s offset block
    pub is : block.message ≡ message

module _ {C : Type 0} (w : Ways C) where
  sends-unsent : (s : Sending C) (o : Option KeptBlock) (block : KeptBlock) → sends w s o ≡ Sends block → o ≡ Some block
  sends-unsent s None block is = absurd (cc)
  sends-unsent s (Some first) block is = grind (arith, nat_tests)

  sends-none_again : (s : Sending C) (o : Option KeptBlock) (offset : ℕ) (block : KeptBlock) → sends w s o ≡ Retransmits offset block → ⊥
  sends-none_again s None offset block is = cc
  sends-none_again s (Some first) offset block is = grind (arith, nat_tests)

  sends-no_drop : (s : Sending C) (o : Option KeptBlock) (message : Message) → sends w s o ≡ Drops message → ⊥
  sends-no_drop s None message is = cc
  sends-no_drop s (Some first) message is = grind (arith, nat_tests)

  retransmit-by : (found offset : ℕ) (first block : KeptBlock) (expired : Bool)
      → (if expired then Drops first.message else Retransmits found first) ≡ Retransmits offset block → (found ≡ offset) × (first ≡ block)
  retransmit-by found offset first block true is = absurd (cc)
  retransmit-by found offset first block false is = (cc, cc)

  retransmit-block : (now found offset : ℕ) (o : Option KeptBlock) (block : KeptBlock) → retransmits w now found o ≡ Retransmits offset block
      → (found ≡ offset) × (o ≡ Some block)
  retransmit-block now found offset None block is = absurd (cc)
  retransmit-block now found offset (Some first) block is =
      let same = retransmit-by found offset first block (has_passed now first.message.expires) is in
      (same.0, ap (λ (b : KeptBlock). Some b) same.1)

  unsent-by : (found : ℕ) (first block : KeptBlock) (expired : Bool)
      → (if expired then Drops first.message else Retransmits found first) ≡ Sends block → ⊥
  unsent-by found first block true is = cc
  unsent-by found first block false is = cc

  retransmit-unsent : (now found : ℕ) (o : Option KeptBlock) (block : KeptBlock) → retransmits w now found o ≡ Sends block → ⊥
  retransmit-unsent now found None block is = cc
  retransmit-unsent now found (Some first) block is = unsent-by found first block (has_passed now first.message.expires) is

  drops-by : (found : ℕ) (first : KeptBlock) (message : Message) (expired : Bool)
      → (if expired then Drops first.message else Retransmits found first) ≡ Drops message → first.message ≡ message
  drops-by found first message true is = cc
  drops-by found first message false is = absurd (cc)

  -- the message of a block that has expired is dropped
  pub record IsKeptOf (o : Option KeptBlock) (message : Message) : Type 0 where
    pub block : KeptBlock
    pub kept : o ≡ Some block
    pub is : block.message ≡ message

  drops-block : (now found : ℕ) (o : Option KeptBlock) (message : Message) → retransmits w now found o ≡ Drops message → IsKeptOf o message
  drops-block now found None message is = absurd (cc)
  drops-block now found (Some first) message is =
      record { block = first; kept = refl; is = drops-by found first message (has_passed now first.message.expires) is }

  first-unsent : (s : Sending C) (now : ℕ) (lost : List ℕ) (block : KeptBlock) → leaves_next w s now lost ≡ Sends block → kept_at s.blocks s.next ≡ Some block
  first-unsent s now [] block is = sends-unsent s (kept_at s.blocks s.next) block is
  first-unsent s now (offset ∷ others) block is = absurd (retransmit-unsent now offset (kept_at s.blocks offset) block is)

  first-dropped : (s : Sending C) (now : ℕ) (lost : List ℕ) (message : Message) → s.lost ≡ lost → leaves_next w s now lost ≡ Drops message
      → IsOfLeastLost s message
  first-dropped s now [] message same is = absurd (sends-no_drop s (kept_at s.blocks s.next) message is)
  first-dropped s now (offset ∷ others) message same is =
      let found = drops-block now offset (kept_at s.blocks offset) message is in
      record {
        offset = offset;
        block = found.block;
        least = record { others = others; lost = same; kept = found.kept };
        is = found.is;
      }

  first-lost : (s : Sending C) (now : ℕ) (lost : List ℕ) (offset : ℕ) (block : KeptBlock) → s.lost ≡ lost → leaves_next w s now lost ≡ Retransmits offset block
      → IsLeastLost s offset block
  first-lost s now [] offset block same is = absurd (sends-none_again s (kept_at s.blocks s.next) offset block is)
  first-lost s now (first ∷ others) offset block same is =
      let found = retransmit-block now first offset (kept_at s.blocks first) block is in
      record {
        others = others;
        lost = same ∙ ap (λ (n : ℕ). n ∷ others) found.0;
        kept = ap (kept_at s.blocks) (sym found.0) ∙ found.1;
      }

  -- packing sends the first block that was never sent
  pub packing-sends : (s : Sending C) (now : ℕ) (block : KeptBlock) → packing w s now ≡ Sends block → kept_at s.blocks s.next ≡ Some block
  unfolding packing
  packing-sends s now block is =
      let due : leaves_next w s now s.lost ≡ Sends block = grind (arith, nat_tests) in
      first-unsent s now s.lost block due

  -- or the least lost one again
  pub packing-again : (s : Sending C) (now offset : ℕ) (block : KeptBlock) → packing w s now ≡ Retransmits offset block → IsLeastLost s offset block
  unfolding packing
  packing-again s now offset block is =
      let due : leaves_next w s now s.lost ≡ Retransmits offset block = grind (arith, nat_tests) in
      first-lost s now s.lost offset block refl due

  -- or asks the peer to drop the message of the least lost one
  pub packing-drops : (s : Sending C) (now : ℕ) (message : Message) → packing w s now ≡ Drops message → IsOfLeastLost s message
  unfolding packing
  packing-drops s now message is =
      let due : leaves_next w s now s.lost ≡ Drops message = grind (arith, nat_tests) in
      first-dropped s now s.lost message refl due

  -- after it the blocks are cut as before
  pub cut-after_packing : (s : Sending C) (start now : ℕ) (blocks : List (List ℕ)) (p : Packing) → packing w s now ≡ p → IsCut s start blocks
      → IsCut (after_packing w s now p) start blocks
  cut-after_packing s start now blocks (Waits until) is is_cut = is_cut
  cut-after_packing s start now blocks (Retransmits offset block) is is_cut = record {
    not_before = is_cut.not_before;
    count = is_cut.count;
    kept = is_cut.kept;
    sent_from = is_cut.sent_from;
    sent_to = is_cut.sent_to;
    lost = AreWithin-drop s.blocks.first s.next s.lost is_cut.lost;
    messages = is_cut.messages;
    ends = is_cut.ends;
    message = is_cut.message;
    payload = is_cut.payload;
  }
  cut-after_packing s start now blocks (Drops message) is is_cut =
      let found = packing-drops s now message is in
      let at = kept_at-is s.blocks found.offset found.block found.least.kept in
      let ends = EndBefore-at _ s.blocks.kept (found.offset - s.blocks.first) found.block is_cut.ends at.found in
      let last : message.last < s.blocks.first + length s.blocks.kept =
      subst (λ (m : Message). m.last < s.blocks.first + length s.blocks.kept) found.is ends in
      record {
        not_before = is_cut.not_before;
        count = is_cut.count;
        kept = is_cut.kept;
        sent_from = omega (arith, is_cut.sent_from);
        sent_to = omega (arith, is_cut.sent_to, last);
        lost = AreWithin-wider s.blocks.first s.next s.blocks.first (max s.next (message.last + 1)) _ (omega arith) (omega arith)
            (without_range-within message.first message.last s.blocks.first s.next s.lost is_cut.lost);
        messages = is_cut.messages;
        ends = is_cut.ends;
        message = is_cut.message;
        payload = is_cut.payload;
      }
  cut-after_packing s start now blocks (Sends block) is is_cut =
      let at = kept_at-is s.blocks s.next block (packing-sends s now block is) in
      let found = slice_get_within s.blocks.kept (s.next - s.blocks.first) block at.found in
      record {
        not_before = is_cut.not_before;
        count = is_cut.count;
        kept = is_cut.kept;
        sent_from = omega (arith, is_cut.sent_from);
        sent_to = omega (arith, is_cut.sent_from, is_cut.sent_to, found);
        lost = AreWithin-wider s.blocks.first s.next s.blocks.first (s.next + 1) s.lost (omega arith) (omega arith) is_cut.lost;
        messages = is_cut.messages;
        ends = is_cut.ends;
        message = is_cut.message;
        payload = is_cut.payload;
      }
  cut-after_packing s start now blocks Idles is is_cut = is_cut

  pub cut-after_pack : (s : Sending C) (start now : ℕ) (blocks : List (List ℕ)) → IsCut s start blocks → IsCut (after_pack w s now) start blocks
  unfolding after_pack
  cut-after_pack s start now blocks is_cut = cut-after_packing s start now blocks (packing w s now) refl is_cut

module _ {C : Type 0} where
  -- which is in flight
  pub lost-within : (s : Sending C) (start : ℕ) (blocks : List (List ℕ)) (offset : ℕ) (block : KeptBlock) → IsCut s start blocks
      → IsLeastLost s offset block → (s.blocks.first ≤ offset) × (offset < s.next)
  lost-within s start blocks offset block is_cut least =
      let within : AreWithin s.blocks.first s.next (offset ∷ least.others) = rw least.lost at is_cut.lost in
      (within.0, within.1)

  -- ---- acknowledgements

  -- an acknowledgement that isn't stale names a near offset, of those that were sent
  pub record IsAcked (s : Sending C) (number offset : ℕ) : Type 0 where
    pub is_near : near s.isn s.blocks.first number ≡ Some offset
    pub not_below : s.blocks.first ≤ offset
    pub not_above : offset ≤ s.next

  acks-near : (s : Sending C) (found : Option ℕ) (offset : ℕ) → acking_near s found ≡ Acks offset
      → (found ≡ Some offset) × (s.blocks.first ≤ offset) × (offset ≤ s.next)
  acks-near s None offset is = absurd (cc)
  acks-near s (Some found) offset is = (grind (arith, nat_tests), grind (arith, nat_tests), grind (arith, nat_tests))

  pub acking-acks : (s : Sending C) (number offset : ℕ) → acking s number ≡ Acks offset → IsAcked s number offset
  unfolding acking
  acking-acks s number offset is =
      let found = acks-near s (near s.isn s.blocks.first number) offset is in
      record { is_near = found.0; not_below = found.1; not_above = found.2 }

  -- it releases the blocks below that offset, and the others are cut as before
  pub cut-released : (s : Sending C) (start : ℕ) (blocks : List (List ℕ)) (body : AckBody) (offset : ℕ) → acking s (acked_number body) ≡ Acks offset
      → IsCut s start blocks → IsCut (released s body offset) start blocks
  cut-released s start blocks body offset is is_cut =
      let acked = acking-acks s (acked_number body) offset is in
      let gone = offset - s.blocks.first in
      let place : s.blocks.first - start + gone ≡ offset - start = omega (arith, is_cut.not_before, acked.not_below) in
      let left = length-drop gone s.blocks.kept in
      record {
        not_before = omega (arith, is_cut.not_before, acked.not_below);
        count = omega (arith, is_cut.count, is_cut.sent_to, acked.not_below, acked.not_above, left);
        kept = sym (drop-map (λ (block : KeptBlock). block.bytes) gone s.blocks.kept) ∙ ap (drop gone) is_cut.kept
            ∙ drop-drop gone (s.blocks.first - start) blocks ∙ ap (λ (n : ℕ). drop n blocks) place;
        sent_from = acked.not_above;
        sent_to = omega (arith, is_cut.sent_to, acked.not_below, acked.not_above, left);
        lost = from_offset-within offset s.blocks.first s.next s.lost is_cut.lost;
        messages = MessagesFit-drop gone s.blocks.kept is_cut.messages;
        ends = EndBefore-later (s.blocks.first + length s.blocks.kept) _ _
            (omega (arith, is_cut.sent_to, acked.not_below, acked.not_above, left))
            (EndBefore-drop _ gone s.blocks.kept is_cut.ends);
        message = is_cut.message;
        payload = is_cut.payload;
      }

  -- fields that tell nothing of the blocks may change
  pub cut-others : (s t : Sending C) (start : ℕ) (blocks : List (List ℕ)) → t.blocks ≡ s.blocks → t.next ≡ s.next → t.lost ≡ s.lost
      → t.message ≡ s.message → IsCut s start blocks → IsCut t start blocks
  cut-others s t start blocks same next lost message is_cut = record {
    not_before = rw same is_cut.not_before;
    count = rw same is_cut.count;
    kept = rw same is_cut.kept;
    sent_from = rw (same, next) is_cut.sent_from;
    sent_to = rw (same, next) is_cut.sent_to;
    lost = rw (same, next, lost) is_cut.lost;
    messages = rw same is_cut.messages;
    ends = rw same is_cut.ends;
    message = rw message is_cut.message;
    payload = rw same is_cut.payload;
  }

  -- more offsets may be retransmitted, as long as they are in flight
  pub cut-lost : (s t : Sending C) (start : ℕ) (blocks : List (List ℕ)) → t.blocks ≡ s.blocks → t.next ≡ s.next
      → t.message ≡ s.message → AreWithin s.blocks.first s.next t.lost → IsCut s start blocks → IsCut t start blocks
  cut-lost s t start blocks same next message lost is_cut = record {
    not_before = rw same is_cut.not_before;
    count = rw same is_cut.count;
    kept = rw same is_cut.kept;
    sent_from = rw (same, next) is_cut.sent_from;
    sent_to = rw (same, next) is_cut.sent_to;
    lost = rw (same, next) lost;
    messages = rw same is_cut.messages;
    ends = rw same is_cut.ends;
    message = rw message is_cut.message;
    payload = rw same is_cut.payload;
  }

  -- ---- NAKs

  -- each range lies in flight
  abbrev pub AreInFlight : Sending C → List LostRange → Type 0
  AreInFlight s [] = Unit {0}
  AreInFlight s (range ∷ ranges) = (s.blocks.first ≤ range.first) × (range.first ≤ range.last) × (range.last < s.next) × AreInFlight s ranges

  from_first-above : (s : Sending C) (first : Option ℕ) → s.blocks.first ≤ from_first s first
  from_first-above s None = omega arith
  from_first-above s (Some first) = omega arith

  in_flight-append : (s : Sending C) (ranges more : List LostRange) → AreInFlight s ranges → AreInFlight s more → AreInFlight s (ranges ++ more)
  in_flight-append s [] more front rest = rest
  in_flight-append s (range ∷ ranges) more front rest = (front.0, front.1, front.2, in_flight-append s ranges more front.3 rest)

  range-in_flight : (s : Sending C) (from : ℕ) (last : Option ℕ) → s.blocks.first ≤ from → AreInFlight s (entering_range s from last)
  range-in_flight s from None above = tt
  range-in_flight s from (Some last) above =
      elim (nat_lt last s.next && nat_le from last) as (λ enters. (nat_lt last s.next && nat_le from last) ≡ enters
      → AreInFlight s (if enters then record { first = from; last = last } ∷ [] else [])) [
        | true ↦ λ test.
            let parts = and_parts (nat_lt last s.next) (nat_le from last) test in
            (above, leb-true from last parts.1, ltb-true last s.next parts.0, tt)
        | false ↦ λ test. tt
      ] refl

  pub entering-in_flight : (s : Sending C) (ranges : List WireRange) → AreInFlight s (entering s ranges)
  unfolding entering
  entering-in_flight s [] = tt
  entering-in_flight s (range ∷ ranges) =
      in_flight-append s _ _
      (range-in_flight s _ (near s.isn s.blocks.first range.last) (from_first-above s (near s.isn s.blocks.first range.first)))
      (entering-in_flight s ranges)

  pub with_ranges-within : (s : Sending C) (ranges : List LostRange) (lost : List ℕ) → AreInFlight s ranges → AreWithin s.blocks.first s.next lost
      → AreWithin s.blocks.first s.next (with_ranges ranges lost)
  unfolding with_ranges
  with_ranges-within s [] lost in_flight within = within
  with_ranges-within s (range ∷ ranges) lost in_flight within =
      with_ranges-within s ranges (with_range range.first range.last lost) in_flight.3
      (with_range-among s.blocks.first s.next range.first range.last lost in_flight.0 in_flight.1 in_flight.2 within)

module _ {C : Type 0} (w : Ways C) where
  -- a control that is told of an ACK changes nothing of the blocks
  pub cut-measured : (s : Sending C) (start : ℕ) (blocks : List (List ℕ)) (known : RoundTrip) (newly : ℕ) (body : AckBody) → IsCut s start blocks
      → IsCut (measured w s known newly body) start blocks
  cut-measured s start blocks known newly (Light ack) is_cut = is_cut
  cut-measured s start blocks known newly (Buffer ack rtt var buffer) is_cut = is_cut
  cut-measured s start blocks known newly (Full ack rtt var buffer rate capacity) is_cut =
      cut-others s _ start blocks refl refl refl refl is_cut

  cut-after_acking : (s : Sending C) (start : ℕ) (blocks : List (List ℕ)) (known : RoundTrip) (body : AckBody) (a : Acking) → acking s (acked_number body) ≡ a
      → IsCut s start blocks → IsCut (after_acking w s known body a) start blocks
  cut-after_acking s start blocks known body (Acks offset) is is_cut =
      cut-measured (released s body offset) start blocks (sampled known body) (offset - s.blocks.first) body
      (cut-released s start blocks body offset is is_cut)
  cut-after_acking s start blocks known body IsStale is is_cut = is_cut

  pub cut-after_ack : (s : Sending C) (start : ℕ) (blocks : List (List ℕ)) (known : RoundTrip) (body : AckBody) → IsCut s start blocks
      → IsCut (after_ack w s known body) start blocks
  unfolding after_ack
  cut-after_ack s start blocks known body is_cut = cut-after_acking s start blocks known body (acking s (acked_number body)) refl is_cut

  measured-first : (s : Sending C) (known : RoundTrip) (newly : ℕ) (body : AckBody) → (measured w s known newly body).blocks.first ≡ s.blocks.first
  measured-first s known newly (Light ack) = refl
  measured-first s known newly (Buffer ack rtt var buffer) = refl
  measured-first s known newly (Full ack rtt var buffer rate capacity) = refl

  -- once it was taken in, all before its offset is acknowledged
  pub after_ack-acked : (s : Sending C) (known : RoundTrip) (body : AckBody) (offset : ℕ) → acking s (acked_number body) ≡ Acks offset
      → (after_ack w s known body).blocks.first ≡ offset
  unfolding after_ack
  after_ack-acked s known body offset is =
      ap (λ (a : Acking). (after_acking w s known body a).blocks.first) is
      ∙ measured-first (released s body offset) (sampled known body) (offset - s.blocks.first) body

  measured-next : (s : Sending C) (known : RoundTrip) (newly : ℕ) (body : AckBody) → (measured w s known newly body).next ≡ s.next
  measured-next s known newly (Light ack) = refl
  measured-next s known newly (Buffer ack rtt var buffer) = refl
  measured-next s known newly (Full ack rtt var buffer rate capacity) = refl

  -- it changes what is sent next in no way
  after_acking-next : (s : Sending C) (known : RoundTrip) (body : AckBody) (a : Acking) → (after_acking w s known body a).next ≡ s.next
  after_acking-next s known body (Acks offset) = measured-next (released s body offset) (sampled known body) (offset - s.blocks.first) body
  after_acking-next s known body IsStale = refl

  pub after_ack-next : (s : Sending C) (known : RoundTrip) (body : AckBody) → (after_ack w s known body).next ≡ s.next
  unfolding after_ack
  after_ack-next s known body = after_acking-next s known body (acking s (acked_number body))

  -- ---- loss

  cut-after_entering : (s : Sending C) (start : ℕ) (blocks : List (List ℕ)) (known : RoundTrip) (ranges : List LostRange) → AreInFlight s ranges
      → IsCut s start blocks → IsCut (after_entering w s known ranges) start blocks
  cut-after_entering s start blocks known [] in_flight is_cut = is_cut
  cut-after_entering s start blocks known (range ∷ ranges) in_flight is_cut =
      cut-lost s _ start blocks refl refl refl (with_ranges-within s (range ∷ ranges) s.lost in_flight is_cut.lost) is_cut

  -- what a NAK reports may be retransmitted
  pub cut-after_nak : (s : Sending C) (start : ℕ) (blocks : List (List ℕ)) (known : RoundTrip) (ranges : List WireRange) → IsCut s start blocks
      → IsCut (after_nak w s known ranges) start blocks
  unfolding after_nak
  cut-after_nak s start blocks known ranges is_cut =
      cut-after_entering s start blocks known (entering s ranges) (entering-in_flight s ranges) is_cut

  -- and at a timeout all that is in flight
  pub cut-after_timeout : (s : Sending C) (start : ℕ) (blocks : List (List ℕ)) (known : RoundTrip) → IsCut s start blocks
      → IsCut (after_timeout w s known) start blocks
  unfolding after_timeout
  cut-after_timeout s start blocks known is_cut =
      elim (nat_lt s.blocks.first s.next) as (λ some. nat_lt s.blocks.first s.next ≡ some
      → IsCut (if some
      then record s {
        lost = with_range s.blocks.first (s.next - 1) s.lost;
        control = option_map (λ c. w.after_timeout c (record { newly = 0; rate = s.rate; capacity = s.capacity; rtt = known.rtt })) s.control;
      }
      else s) start blocks) [
        | true ↦ λ test.
            let less = ltb-true s.blocks.first s.next test in
            let last : s.next - 1 + 1 ≡ s.next = omega arith in
            let within : AreWithin s.blocks.first (s.next - 1 + 1) s.lost = rw last is_cut.lost in
            cut-lost s _ start blocks refl refl refl (rw last at (with_range-within s.blocks.first (s.next - 1) s.lost (omega arith) within)) is_cut
        | false ↦ λ test. is_cut
      ] refl
