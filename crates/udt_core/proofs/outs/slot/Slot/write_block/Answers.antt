-- The bytes that packing wrote are the datagram of the block.
use Rattle.std.proofs.Common.{◌≡◌, ℕ, List, [], ◌∷◌, length, take, ap, ◌∙◌, arith}
use Rattle.std.proofs.lemmas.List.{with_items_is}
use Rattle.udt_core.proofs.BlockLemmas.{packed-written, asked-written}
use Rattle.udt_core.proofs.outs.slot.Slot.write_block.Goals as goal

pub returns-in-Block-clause-written : goal.returns-in-Block-clause-written
returns-in-Block-clause-written g c =
    let long : length c.pack-packed.new.into ≡ c.self.inside.bytes.len = omega arith in
    let bytes = with_items_is c.self.inside.bytes c.pack-packed.new.into long in
    ap (λ (bytes : List ℕ). record { addr = c.args.peer.now.addr; bytes = take c.in-Block.size bytes } ∷ []) bytes
    ∙ packed-written c.args.sender.now c.args.stamp c.args.peer.now.id _ c.args.peer.now.addr c.in-Block.size _ _ c.in-Block.ensures.value c.in-Block.ensures.into

pub returns-in-DropAsk-clause-written : goal.returns-in-DropAsk-clause-written
returns-in-DropAsk-clause-written g c =
    let long : length c.pack-packed.new.into ≡ c.self.inside.bytes.len = omega arith in
    let bytes = with_items_is c.self.inside.bytes c.pack-packed.new.into long in
    ap (λ (bytes : List ℕ). record { addr = c.args.peer.now.addr; bytes = take c.in-DropAsk.size bytes } ∷ []) bytes
    ∙ asked-written c.args.sender.now c.args.stamp c.args.peer.now.id _ c.args.peer.now.addr c.in-DropAsk.size _ _ c.in-DropAsk.ensures.value c.in-DropAsk.ensures.into
