-- Which offsets a message drop request takes, and that the blocks stay in order when it does, and when a message is received.
use Rattle.std.proofs.Common.{◌≡◌, ℕ, ◌+◌, ◌<◌, ◌≤◌, Bool, true, false, List, [], ◌∷◌, length, Some, None, refl, ap, ◌∙◌, subst, inl, inr, arith}
use Rattle.std.specs.Prelude.{Option, ◌==◌, ◌&&◌, nat_lt, nat_le, if◌then◌else◌}
use Rattle.std.proofs.lemmas.Bool.{and_parts, leb-true, ltb-true, cases_lt}
use Rattle.std.proofs.lemmas.Option.{same_Some}
use Rattle.udt_model.specs.declared.limits.TheConstants.{PACKET_LIMIT}
use Rattle.udt_model.specs.Losses.{LostRange, Missing}
use Rattle.udt_model.specs.Numbers.{near}
use Rattle.udt_model.specs.ReceiveBlocks.{PlacedBlock, ReceiveBlocks, WholeMessage, is_taken, next_message, after_message, after_found, after_read_message}
use Rattle.udt_model.specs.ReceiveHalf.{Receiving, takes, range_taken, drop_range, with_taken, after_receive_message}
use Rattle.udt_model.specs.ReceiveOrder.{IsInOrder}
use Rattle.udt_model.specs.Readable.{AreParts}
use Rattle.udt_model.proofs.InOrder.{IsTakable, consumed_in_order, skipped_in_order}
use Rattle.udt_model.proofs.MessageLemmas.{contained-taken, search-readable}

-- ---- what is taken

-- a message drop request takes the offsets near its two numbers, where there is room for the last of them
pub record IsAsked (r : Receiving) (first last : ℕ) (range : LostRange) : Type 0 where
  pub first_near : near r.isn r.top first ≡ Some range.first
  pub last_near : near r.isn r.top last ≡ Some range.last
  pub takes : IsTakable r.blocks range.first range.last
  pub within : range.last < PACKET_LIMIT

taken-by : (b : ReceiveBlocks) (from to : ℕ) (range : LostRange) (may : Bool) → takes b from to ≡ may
    → (if may then Some (record { first = from; last = to }) else None) ≡ Some range
    → (from ≡ range.first) × (to ≡ range.last) × IsTakable b from to × (to < PACKET_LIMIT)
taken-by b from to range false test is = absurd (cc)
taken-by b from to range true test is =
    let all = and_parts (nat_le from to && nat_le b.base to && nat_lt to (b.base + b.capacity)) (nat_lt to PACKET_LIMIT) test in
    let more = and_parts (nat_le from to && nat_le b.base to) (nat_lt to (b.base + b.capacity)) all.0 in
    let ends = and_parts (nat_le from to) (nat_le b.base to) more.0 in
    let same = same_Some (record { first = from; last = to }) range is in (
      ap (λ (x : LostRange). x.first) same,
      ap (λ (x : LostRange). x.last) same,
      record {
        some = leb-true from to ends.0;
        not_below = leb-true b.base to ends.1;
        room = ltb-true to (b.base + b.capacity) more.1;
      },
      ltb-true to PACKET_LIMIT all.1,
    )

asked-by : (r : Receiving) (first last : ℕ) (from to : Option ℕ) (range : LostRange) → near r.isn r.top first ≡ from
    → near r.isn r.top last ≡ to → range_taken r.blocks from to ≡ Some range → IsAsked r first last range
asked-by r first last None None range near_first near_last is = absurd (cc)
asked-by r first last None (Some to) range near_first near_last is = absurd (cc)
asked-by r first last (Some from) None range near_first near_last is = absurd (cc)
asked-by r first last (Some from) (Some to) range near_first near_last is =
    let found = taken-by r.blocks from to range (takes r.blocks from to) refl is in
    record {
      first_near = near_first ∙ ap (λ (n : ℕ). Some n) found.0;
      last_near = near_last ∙ ap (λ (n : ℕ). Some n) found.1;
      takes = subst (λ (n : ℕ). IsTakable r.blocks n range.last) found.0 (subst (λ (n : ℕ). IsTakable r.blocks from n) found.1 found.2);
      within = subst (λ (n : ℕ). n < PACKET_LIMIT) found.1 found.3;
    }

pub drop_range-is : (r : Receiving) (first last : ℕ) (range : LostRange) → drop_range r first last ≡ Some range → IsAsked r first last range
unfolding drop_range
drop_range-is r first last range is = asked-by r first last (near r.isn r.top first) (near r.isn r.top last) range refl refl is

-- ---- the order

pub taken_in_order : (r : Receiving) (now first last : ℕ) (range : LostRange) → drop_range r first last ≡ Some range
    → IsInOrder r.blocks r.top r.missing
    → IsInOrder (with_taken r now range).blocks (with_taken r now range).top (with_taken r now range).missing
taken_in_order r now first last range taken order =
    skipped_in_order r.blocks range.first range.last r.top now r.missing order (drop_range-is r first last range taken).takes

-- each offset of a message's blocks has one
pub parts-taken : (b : ReceiveBlocks) (offset number n : ℕ) (parts : List PlacedBlock) → AreParts b offset number parts → offset ≤ n
    → n < offset + length parts → is_taken n b.placed ≡ true
parts-taken b offset number n [] parts low high = absurd parts
parts-taken b offset number n (block ∷ []) parts low high =
    let at : block.offset ≡ n = omega (arith, parts.0.at, low, high) in
    subst (λ (k : ℕ). is_taken k b.placed ≡ true) at (contained-taken b.placed block parts.0.among)
parts-taken b offset number n (block ∷ next ∷ others) parts low high = elim (cases_lt offset n) [
  | inl later ↦ parts-taken b (offset + 1) number n (next ∷ others) parts.2 (omega (arith, later)) (omega (arith, high))
  | inr here ↦
      let at : block.offset ≡ n = omega (arith, parts.0.at, low, here) in
      subst (λ (k : ℕ). is_taken k b.placed ≡ true) at (contained-taken b.placed block parts.0.among)
]

-- each offset of a message that is shown has a block
read_in_order : (b : ReceiveBlocks) (top : ℕ) (missing : List Missing) (m : WholeMessage) → next_message b ≡ Some m
    → IsInOrder b top missing → IsInOrder (after_message b m) top missing
read_in_order b top missing m is order =
    let readable = search-readable b b.base true b.placed m (λ x there. there) (λ gapless n low high. absurd (omega (arith, low, high))) is in
    consumed_in_order b m.first m.count top missing (λ n low high.
    parts-taken b m.first readable.first.flags.message n (readable.first ∷ readable.others) readable.parts low (omega (arith, high, readable.count))) order

found_in_order : (b : ReceiveBlocks) (room top : ℕ) (missing : List Missing) (found : Option WholeMessage) → next_message b ≡ found
    → IsInOrder b top missing → IsInOrder (after_found b room found) top missing
found_in_order b room top missing None is order = order
found_in_order b room top missing (Some m) is order =
    elim (nat_le (length m.bytes) room) as (λ fits. IsInOrder (if fits then after_message b m else b) top missing) [
      | true ↦ read_in_order b top missing m is order
      | false ↦ order
    ]

-- reading a message keeps the order, however much room there is for it
pub message_in_order : (b : ReceiveBlocks) (room top : ℕ) (missing : List Missing) → IsInOrder b top missing
    → IsInOrder (after_read_message b room) top missing
message_in_order b room top missing order = found_in_order b room top missing (next_message b) refl order

pub shown_in_order : (r : Receiving) (room : ℕ) → IsInOrder r.blocks r.top r.missing
    → IsInOrder (after_receive_message r room).blocks (after_receive_message r room).top (after_receive_message r room).missing
shown_in_order r room order =
    elim (room == 0) as (λ none. IsInOrder
    (if none then r else record r { blocks = after_read_message r.blocks room }).blocks
    (if none then r else record r { blocks = after_read_message r.blocks room }).top
    (if none then r else record r { blocks = after_read_message r.blocks room }).missing) [
      | true ↦ order
      | false ↦ message_in_order r.blocks room r.top r.missing order
    ]
