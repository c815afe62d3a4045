-- What leaves next, and what is taken.
use Rattle.std.proofs.Common.{◌≡◌, ℕ, zero, suc, ◌+◌, ◌*◌, ◌<◌, ◌≤◌, Bool, true, false, List, [], ◌∷◌, length, take, drop, min, max, Some, None, refl, ap, ◌∙◌, arith}
use Rattle.std.specs.Prelude.{Option, Ok, if◌then◌else◌}
use Rattle.std.proofs.Math.Nat.{mul-pos, mul-le-mul_right}
use Rattle.std.proofs.lemmas.Bool.{ne_eqb, le-ltb}
use Rattle.std.proofs.lemmas.List.{take_all}
use Rattle.udt_model.specs.Rate.{Ways}
use Rattle.udt_model.specs.SendBlocks.{KeptBlock, free_of, accepted_of, with_bytes, after_accept}
use Rattle.udt_model.specs.SendHalf.{Sending, Retransmits, Drops, has_passed, retransmits, leaves_next, after_packing, room_of, blocks_for, expiry_of, with_message, after_answer, send_answer, after_send, message_answer, after_send_message}
use Rattle.udt_snd_buffer.proofs.KeptLemmas.{count_fits}
use Rattle.udt_sender.specs.declared.sender.packing.Dropping.{Dropping}
use Rattle.udt_sender.specs.Messages.{dropping_of, after_dropping}
use Rattle.udt_sender.specs.Packets.{leaves}
use Rattle.udt_sender.proofs.LostLemmas.{LostFirst, without_range-least}

-- what leaves for a lost block, by whether its message has expired
again-by : (passed : Bool) (offset : ℕ) (block : KeptBlock) → passed ≡ false → (if passed then Drops block.message else Retransmits offset block) ≡ Retransmits offset block
again-by true offset block is = absurd (cc)
again-by false offset block is = refl

dropped-by : (passed : Bool) (offset : ℕ) (block : KeptBlock) → passed ≡ true → (if passed then Drops block.message else Retransmits offset block) ≡ Drops block.message
dropped-by true offset block is = refl
dropped-by false offset block is = absurd (cc)

either-by : (passed : Bool) (offset : ℕ) (block : KeptBlock) → leaves (if passed then Drops block.message else Retransmits offset block) ≡ true
either-by true offset block = refl
either-by false offset block = refl

module _ {C : Type 0} where
  first-leaves : (w : Ways C) (s : Sending C) (now offset : ℕ) → (first : LostFirst s.blocks s.lost offset)
      → leaves_next w s now s.lost ≡ retransmits w now offset (Some first.block)
  first-leaves w s now offset first = rw (first.is, first.found) refl

  -- the least lost block is retransmitted, where its message hasn't expired
  pub leaves-again : (w : Ways C) (s : Sending C) (now offset : ℕ) → (first : LostFirst s.blocks s.lost offset) → has_passed now first.block.message.expires ≡ false
      → leaves_next w s now s.lost ≡ Retransmits offset first.block
  leaves-again w s now offset first lasts =
      first-leaves w s now offset first ∙ again-by (has_passed now first.block.message.expires) offset first.block lasts

  -- the message is dropped, where it has
  pub leaves-drop : (w : Ways C) (s : Sending C) (now offset : ℕ) → (first : LostFirst s.blocks s.lost offset) → has_passed now first.block.message.expires ≡ true
      → leaves_next w s now s.lost ≡ Drops first.block.message
  leaves-drop w s now offset first passed =
      first-leaves w s now offset first ∙ dropped-by (has_passed now first.block.message.expires) offset first.block passed

  -- so the half after it has nothing left of the message to send
  pub drops-lost : (w : Ways C) (s : Sending C) (now offset : ℕ) (m : Dropping) → (first : LostFirst s.blocks s.lost offset) → m ≡ dropping_of first.block.message
      → first.block.message.first ≤ offset → offset ≤ first.block.message.last
      → after_dropping (record s { lost = drop 1 s.lost }) m ≡ after_packing w s now (Drops first.block.message)
  drops-lost w s now offset m first is low high =
      let message = first.block.message in
      ap (after_dropping (record s { lost = drop 1 s.lost })) is
      ∙ ap (λ (lost : List ℕ). record s { lost = lost; next = max s.next (message.last + 1) })
      (without_range-least message.first message.last offset s.lost first.others first.is low high)

  -- and a packet leaves in either case
  pub leaves-lost : (w : Ways C) (s : Sending C) (now offset : ℕ) → LostFirst s.blocks s.lost offset → leaves (leaves_next w s now s.lost) ≡ true
  leaves-lost w s now offset first =
      ap leaves (first-leaves w s now offset first) ∙ either-by (has_passed now first.block.message.expires) offset first.block

  -- some of the bytes fit where a block is free
  pub fits-some : (s : Sending C) (len : ℕ) → (len ≡ 0 → ⊥) → (room_of s ≡ 0 → ⊥) → (free_of s.blocks ≡ 0 → ⊥) → 0 < s.blocks.payload
      → 0 < accepted_of s.blocks len (room_of s)
  fits-some s len some room free payload =
      let blocks : 0 < min (free_of s.blocks) (room_of s) = omega (arith, positive (free_of s.blocks) free, positive (room_of s) room) in
      omega (arith, mul-pos blocks payload, positive len some)
    where
      positive : (n : ℕ) → (n ≡ 0 → ⊥) → 0 < n
      positive zero none = absurd (none refl)
      positive (suc n) none = omega arith

  -- the bytes are those that a send takes, where it takes some
  pub takes-some : (s : Sending C) (bytes : List ℕ) (count : ℕ) → (length bytes ≡ 0 → ⊥) → (room_of s ≡ 0 → ⊥) → (free_of s.blocks ≡ 0 → ⊥)
      → 0 < count → count ≡ accepted_of s.blocks (length bytes) (room_of s) → after_send s bytes ≡ with_message s false None (take count bytes)
  unfolding after_send send_answer
  takes-some s bytes zero some room free positive is = absurd (omega (arith, positive))
  takes-some s bytes (suc n) some room free positive is =
      rw (ne_eqb (length bytes) 0 some, ne_eqb (room_of s) 0 room, ne_eqb (free_of s.blocks) 0 free, ← is) refl

  -- a message is taken whole where all its blocks fit
  pub fits-whole : (s : Sending C) (len : ℕ) → 0 < s.blocks.payload → blocks_for s len ≤ room_of s → blocks_for s len ≤ free_of s.blocks
      → accepted_of s.blocks len (room_of s) ≡ len
  fits-whole s len payload room free =
      let few : blocks_for s len ≤ min (free_of s.blocks) (room_of s) = omega (arith, room, free) in
      let enough : blocks_for s len * s.blocks.payload ≤ min (free_of s.blocks) (room_of s) * s.blocks.payload = mul-le-mul_right s.blocks.payload few in
      omega (arith, enough, count_fits len s.blocks.payload payload)

  -- so what is kept has all its bytes
  pub keeps-whole : (s : Sending C) (order : Bool) (expires : Option ℕ) (bytes : List ℕ) → accepted_of s.blocks (length bytes) (room_of s) ≡ length bytes
      → after_accept s.blocks bytes (room_of s) s.message order expires ≡ with_bytes s.blocks s.message order expires bytes
  keeps-whole s order expires bytes whole =
      ap (λ (n : ℕ). with_bytes s.blocks s.message order expires (take n bytes)) whole
      ∙ ap (λ (taken : List ℕ). with_bytes s.blocks s.message order expires taken) (take_all (length bytes) bytes (omega arith))

  answers-whole : (s : Sending C) (order : Bool) (expires : Option ℕ) (bytes : List ℕ) → (length bytes ≡ 0 → ⊥)
      → after_answer s order expires bytes (Ok (length bytes)) ≡ with_message s order expires bytes
  answers-whole s order expires [] some = absurd (some refl)
  answers-whole s order expires (byte ∷ bytes) some =
      ap (with_message s order expires) (take_all (length (byte ∷ bytes)) (byte ∷ bytes) (omega arith))

  -- and the answer is how many they are
  pub answers-length : (s : Sending C) (len : ℕ) → blocks_for s len ≤ s.blocks.blocks → blocks_for s len ≤ room_of s → blocks_for s len ≤ free_of s.blocks
      → message_answer s len ≡ Ok len
  unfolding message_answer
  answers-length s len blocks room free =
      rw (le-ltb s.blocks.blocks (blocks_for s len) blocks, le-ltb (room_of s) (blocks_for s len) room, le-ltb (free_of s.blocks) (blocks_for s len) free) refl

  -- the message is that of all the bytes, where there are some
  pub takes-whole : (s : Sending C) (now : ℕ) (ttl : Option ℕ) (order : Bool) (bytes : List ℕ) → (length bytes ≡ 0 → ⊥)
      → blocks_for s (length bytes) ≤ s.blocks.blocks → blocks_for s (length bytes) ≤ room_of s → blocks_for s (length bytes) ≤ free_of s.blocks
      → after_send_message s now ttl order bytes ≡ with_message s order (expiry_of now ttl) bytes
  unfolding after_send_message
  takes-whole s now ttl order bytes some blocks room free =
      ap (after_answer s order (expiry_of now ttl) bytes) (answers-length s (length bytes) blocks room free) ∙ answers-whole s order (expiry_of now ttl) bytes some
