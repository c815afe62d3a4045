-- The datagram of the packet that packing wrote down.
use Rattle.std.proofs.Common.{◌≡◌, ℕ, ◌+◌, List, [], ◌∷◌, length, take, drop, Some, sym, ap, ◌∙◌, arith}
use Rattle.std.proofs.lemmas.List.{take_at}
use Rattle.udt_model.specs.declared.addresses.Addr.{Addr}
use Rattle.udt_model.specs.declared.answers.Packed.TheVariants as packed
use Rattle.udt_model.specs.SendBlocks.{Message, KeptBlock}
use Rattle.udt_model.specs.SendHalf.{Sending, Packing, Waits, Retransmits, Drops, Sends, Idles, packed_as, block_packet, drop_packet, packet_of}
use Rattle.udt_model.specs.Wire.{spelling}
use Rattle.udt_sender.specs.Packets.{with_packet}
use Rattle.udt_core.specs.Emitted.{datagrams_to}

module _ {C : Type 0} (s : Sending C) (stamp dest : ℕ) where
  -- the packet of a block has four words beside it
  block-size : (offset : ℕ) (block : KeptBlock) → length (spelling (block_packet s stamp dest offset block)) ≡ 16 + length block.bytes
  unfolding spelling
  block-size offset block = omega arith

  -- so many bytes are its spelling
  block-written : (offset size : ℕ) (block : KeptBlock) (old new : List ℕ) → packed.Block size ≡ packed.Block (16 + length block.bytes)
      → new ≡ with_packet (Some (block_packet s stamp dest offset block)) old → take size new ≡ spelling (block_packet s stamp dest offset block)
  block-written offset size block old new size_is new_is =
      let packet = block_packet s stamp dest offset block in
      let size_of : size ≡ 16 + length block.bytes = cc in
      let long : length (spelling packet) ≡ size = block-size offset block ∙ sym size_of in
      ap (take size) new_is ∙ take_at (spelling packet) (drop (length (spelling packet)) old) size long

  -- a message drop request has six words
  drop-size : (message : Message) → length (spelling (drop_packet s stamp dest message)) ≡ 24
  unfolding spelling
  drop-size message = omega arith

  drop-written : (message : Message) (size : ℕ) (old new : List ℕ) → packed.DropAsk size ≡ packed.DropAsk 24
      → new ≡ with_packet (Some (drop_packet s stamp dest message)) old → take size new ≡ spelling (drop_packet s stamp dest message)
  drop-written message size old new size_is new_is =
      let packet = drop_packet s stamp dest message in
      let size_of : size ≡ 24 = cc in
      let long : length (spelling packet) ≡ size = drop-size message ∙ sym size_of in
      ap (take size) new_is ∙ take_at (spelling packet) (drop (length (spelling packet)) old) size long

  -- where a block was written down, it is the one that leaves
  pub packed-written : (p : Packing) (addr : Addr) (size : ℕ) (old new : List ℕ) → packed.Block size ≡ packed_as p
      → new ≡ with_packet (packet_of s stamp dest p) old
      → record { addr = addr; bytes = take size new } ∷ [] ≡ datagrams_to addr (packet_of s stamp dest p)
  packed-written (Waits until) addr size old new size_is new_is = absurd cc
  packed-written (Retransmits offset block) addr size old new size_is new_is =
      ap (λ (bytes : List ℕ). record { addr = addr; bytes = bytes } ∷ []) (block-written offset size block old new size_is new_is)
  packed-written (Drops message) addr size old new size_is new_is = absurd cc
  packed-written (Sends block) addr size old new size_is new_is =
      ap (λ (bytes : List ℕ). record { addr = addr; bytes = bytes } ∷ []) (block-written s.next size block old new size_is new_is)
  packed-written Idles addr size old new size_is new_is = absurd cc

  -- and where a message drop request was, so is that
  pub asked-written : (p : Packing) (addr : Addr) (size : ℕ) (old new : List ℕ) → packed.DropAsk size ≡ packed_as p
      → new ≡ with_packet (packet_of s stamp dest p) old
      → record { addr = addr; bytes = take size new } ∷ [] ≡ datagrams_to addr (packet_of s stamp dest p)
  asked-written (Waits until) addr size old new size_is new_is = absurd cc
  asked-written (Retransmits offset block) addr size old new size_is new_is = absurd cc
  asked-written (Drops message) addr size old new size_is new_is =
      ap (λ (bytes : List ℕ). record { addr = addr; bytes = bytes } ∷ []) (drop-written message size old new size_is new_is)
  asked-written (Sends block) addr size old new size_is new_is = absurd cc
  asked-written Idles addr size old new size_is new_is = absurd cc
