-- What a data packet does to the half and what is answered, by what became of its block.
use Rattle.std.proofs.Common.{◌≡◌, ℕ, ◌+◌, ◌<◌, ◌≤◌, false, List, Option, Some, None, refl, sym, ap, ◌∙◌, arith, inl, inr}
use Rattle.std.specs.Prelude.{IfSome}
use Rattle.std.proofs.lemmas.Bool.{cases_lt, lt-ltb, le-ltb}
use Rattle.udt_model.specs.declared.limits.TheConstants.{PACKET_LIMIT}
use Rattle.udt_model.specs.declared.answers.Placed.{Placed}
use Rattle.udt_model.specs.declared.answers.Placed.TheVariants as placing
use Rattle.udt_model.specs.declared.packets.Flags.{Flags}
use Rattle.udt_model.specs.ReceiveBlocks.{ReceiveBlocks, PlacedBlock, placing_of, arrived_at, after_place, after_placing_of}
use Rattle.udt_model.specs.ReceiveHalf.{Receiving, measured, offset_of, placing_at, after_placing, after_block, arrived_as, block_answer, gap_before}
use Rattle.udt_receiver.specs.Gaps.{IsGap}
use Rattle.udt_receiver.specs.Kept.{KeepsTerms}

-- ---- the half that was measured answers as the half before

pub answer_measured : (old r : Receiving) (now number : ℕ) → r ≡ measured old now number → block_answer r number ≡ block_answer old number
unfolding block_answer offset_of
answer_measured old r now number e = ap (λ h. arrived_as h (offset_of h number) (placing_at h (offset_of h number))) e

pub after_measured : (old r : Receiving) (now number : ℕ) (flags : Flags) (bytes : List ℕ) → r ≡ measured old now number → after_placing r now flags bytes (offset_of r number) (placing_at r (offset_of r number)) ≡ after_block old now number flags bytes
unfolding after_block offset_of
after_measured old r now number flags bytes e = ap (λ h. after_placing h now flags bytes (offset_of h number) (placing_at h (offset_of h number))) e

pub kept_measured : (old r : Receiving) (now number : ℕ) → r ≡ measured old now number → KeepsTerms old r
kept_measured old r now number e =
    record { isn = ap (λ h. h.isn) e; payload = ap (λ h. h.payload) e; room = ap (λ h. h.blocks.payload) e; capacity = ap (λ h. h.blocks.capacity) e }

-- ---- a block that isn't new

-- changes no block
same_blocks : (blocks : ReceiveBlocks) (block : PlacedBlock) (p : Placed) → (p ≡ placing.New → ⊥) → after_placing_of blocks block p ≡ blocks
same_blocks blocks block placing.New other = absurd (other refl)
same_blocks blocks block placing.Below other = refl
same_blocks blocks block placing.Above other = refl
same_blocks blocks block placing.Double other = refl

pub place_other : (blocks : ReceiveBlocks) (offset : ℕ) (flags : Flags) (bytes : List ℕ) (p : Placed) → p ≡ placing_of blocks offset → (p ≡ placing.New → ⊥) → after_place blocks offset flags bytes ≡ blocks
unfolding after_place
place_other blocks offset flags bytes p is other =
    ap (after_placing_of blocks (arrived_at offset flags bytes)) (sym is) ∙ same_blocks blocks (arrived_at offset flags bytes) p other

-- nothing else of the half
same_half : (r : Receiving) (now offset : ℕ) (flags : Flags) (bytes : List ℕ) (p : Placed) → (p ≡ placing.New → ⊥) → after_placing r now flags bytes (Some offset) p ≡ r
same_half r now offset flags bytes placing.New other = absurd (other refl)
same_half r now offset flags bytes placing.Below other = refl
same_half r now offset flags bytes placing.Above other = refl
same_half r now offset flags bytes placing.Double other = refl

pub after_other : (r : Receiving) (now number offset : ℕ) (flags : Flags) (bytes : List ℕ) (p : Placed) → offset_of r number ≡ Some offset → p ≡ placing_of r.blocks offset → (p ≡ placing.New → ⊥) → after_placing r now flags bytes (offset_of r number) (placing_at r (offset_of r number)) ≡ r
after_other r now number offset flags bytes p at is other =
    ap (λ found. after_placing r now flags bytes found (placing_at r found)) at
    ∙ ap (after_placing r now flags bytes (Some offset)) (sym is)
    ∙ same_half r now offset flags bytes p other

-- and shows no gap
no_gap : (r : Receiving) (offset : ℕ) (p : Placed) → (p ≡ placing.New → ⊥) → arrived_as r (Some offset) p ≡ record { placed = p; gap = None; light = false }
no_gap r offset placing.New other = absurd (other refl)
no_gap r offset placing.Below other = refl
no_gap r offset placing.Above other = refl
no_gap r offset placing.Double other = refl

pub answer_other : (r : Receiving) (number offset : ℕ) (p : Placed) → offset_of r number ≡ Some offset → p ≡ placing_of r.blocks offset → (p ≡ placing.New → ⊥) → block_answer r number ≡ record { placed = p; gap = None; light = false }
unfolding block_answer
answer_other r number offset p at is other =
    ap (λ found. arrived_as r found (placing_at r found)) at
    ∙ ap (arrived_as r (Some offset)) (sym is)
    ∙ no_gap r offset p other

-- ---- the gap that a new block shows

pub gap_is : (r : Receiving) (offset : ℕ) → r.blocks.base ≤ r.top → offset < r.blocks.base + r.blocks.capacity → offset < PACKET_LIMIT → IfSome (gap_before r.top offset) (IsGap r)
gap_is r offset base room limit = elim (cases_lt r.top offset) [
  | inl above ↦ rw (lt-ltb r.top offset above) (record { from = refl; base = base; order = omega (arith, above); room = omega (arith, room, above); limit = omega (arith, limit, above) })
  | inr within ↦ rw (le-ltb r.top offset within) tt
]

gap_moved : (old r : Receiving) (gap : Option (ℕ × ℕ)) → r.top ≡ old.top → r.blocks ≡ old.blocks → IfSome gap (IsGap r) → IfSome gap (IsGap old)
gap_moved old r None top blocks is = tt
gap_moved old r (Some gap) top blocks is = record { from = is.from ∙ top; base = rw (← blocks) is.base; order = is.order; room = rw (← blocks) is.room; limit = is.limit }

-- which lies as well in the half before it was measured
pub gap_measured : (old r : Receiving) (now number offset : ℕ) → r ≡ measured old now number → IfSome (gap_before r.top offset) (IsGap r) → IfSome (gap_before r.top offset) (IsGap old)
gap_measured old r now number offset e = gap_moved old r (gap_before r.top offset) (ap (λ h. h.top) e) (ap (λ h. h.blocks) e)
