-- The blocks in a row of parts, as the rising list of placed blocks.
use Rattle.std.proofs.Common.{◌≡◌, ℕ, zero, suc, ◌+◌, ◌-◌, ◌<◌, ◌≤◌, Bool, true, false, cond, List, [], ◌∷◌, ◌++◌, length, take, drop, set, Some, refl, ap, ◌∙◌, sym, arith, inl, inr}
use Rattle.std.proofs.Math.Nat.{add-zero}
use Rattle.std.specs.Prelude.{All, slice_get}
use Rattle.std.proofs.lemmas.Bool.{eq-eqb, ne_eqb, lt-ltb, le-ltb, le-leb, lt-leb, cases_Bool}
use Rattle.std.proofs.lemmas.List.Elements.{All-head, All-tail}
use Rattle.std.proofs.lemmas.List.{length-set, length-append}
use Rattle.udt_model.specs.ReceiveBlocks.{PlacedBlock, is_taken, put_block, bytes_from, beginning, with_consumed}
use Rattle.udt_rcv_buffer.specs.declared.head.Head.{Head}
use Rattle.udt_ring.specs.Parts.{Part, joined}
use Rattle.udt_rcv_buffer.specs.PlacedParts.{block_in, placed_from, consumed_part, consume_parts, IsUsed, IsUnused, IsSettled}
use Rattle.udt_rcv_buffer.specs.Marked.{EndsRun}

-- no part is used, so no block is placed
pub placed_from-unused : (parts : List (Part Head)) (base : ℕ) → All IsUnused parts → placed_from base parts ≡ []
unfolding placed_from
placed_from-unused [] base unused = refl
placed_from-unused (part ∷ parts) base unused =
    let here : part.head.used ≡ false = All-head IsUnused part parts unused in
    rw here (placed_from-unused parts (base + 1) (All-tail IsUnused part parts unused))

-- each block stands at this offset or after it
unfoldable pub AreFrom : ℕ → List PlacedBlock → Type 0
AreFrom low [] = Unit {0}
AreFrom low (block ∷ blocks) = (low ≤ block.offset) × AreFrom low blocks

AreFrom-lower : (low less : ℕ) (blocks : List PlacedBlock) → less ≤ low → AreFrom low blocks → AreFrom less blocks
unfolding AreFrom
AreFrom-lower low less [] le from = tt
AreFrom-lower low less (block ∷ blocks) le from = let here : low ≤ block.offset = from.0 in (omega arith, AreFrom-lower low less blocks le from.1)

-- the blocks of parts stand from the first part's offset on
pub placed_from-AreFrom : (parts : List (Part Head)) (base : ℕ) → AreFrom base (placed_from base parts)
unfolding AreFrom placed_from
placed_from-AreFrom [] base = tt
placed_from-AreFrom (part ∷ parts) base =
    let others = AreFrom-lower (base + 1) base (placed_from (base + 1) parts) (omega arith) (placed_from-AreFrom parts (base + 1)) in
    elim part.head.used as (λ used. AreFrom base (cond used (block_in base part ∷ placed_from (base + 1) parts) (placed_from (base + 1) parts))) [
      | true ↦ (omega arith, others)
      | false ↦ others
    ]

-- below them no offset is taken
is_taken-below : (blocks : List PlacedBlock) (offset : ℕ) → AreFrom (offset + 1) blocks → is_taken offset blocks ≡ false
unfolding AreFrom
is_taken-below [] offset from = refl
is_taken-below (block ∷ blocks) offset from =
    let here : offset + 1 ≤ block.offset = from.0 in
    rw (ne_eqb block.offset offset (λ e. absurd (omega (arith, e)))) (is_taken-below blocks offset from.1)

-- and a block goes in front of them
put_block-first : (block : PlacedBlock) (blocks : List PlacedBlock) → AreFrom (block.offset + 1) blocks → put_block block blocks ≡ block ∷ blocks
unfolding AreFrom put_block
put_block-first block [] from = refl
put_block-first block (other ∷ blocks) from =
    let here : block.offset + 1 ≤ other.offset = from.0 in
    rw (lt-ltb block.offset other.offset (omega arith)) refl

-- the first part's offset is taken where that part is used
is_taken-first : (used : Bool) (block : PlacedBlock) (others : List PlacedBlock) → AreFrom (block.offset + 1) others → is_taken block.offset (cond used (block ∷ others) others) ≡ used
is_taken-first true block others from = rw (eq-eqb block.offset block.offset refl) refl
is_taken-first false block others from = is_taken-below others block.offset from

is_taken-later : (used : Bool) (offset : ℕ) (block : PlacedBlock) (others : List PlacedBlock) → block.offset < offset → is_taken offset (cond used (block ∷ others) others) ≡ is_taken offset others
is_taken-later true offset block others lt = rw (ne_eqb block.offset offset (λ e. absurd (omega (arith, e)))) refl
is_taken-later false offset block others lt = refl

-- an offset is taken where its part is used
pub is_taken-part : (parts : List (Part Head)) (base place : ℕ) (part : Part Head) → slice_get parts place ≡ Some part → is_taken (base + place) (placed_from base parts) ≡ part.head.used
unfolding placed_from
is_taken-part [] base place part found = absurd cc
is_taken-part (first ∷ parts) base zero part found =
    let same : first ≡ part = cc in
    rw add-zero (is_taken-first first.head.used (block_in base first) (placed_from (base + 1) parts) (placed_from-AreFrom parts (base + 1)) ∙ ap (λ (p : Part Head). p.head.used) same)
is_taken-part (first ∷ parts) base (suc place) part found =
    let moved : base + suc place ≡ (base + 1) + place = omega arith in
    let later : base < base + suc place = omega arith in
    is_taken-later first.head.used (base + suc place) (block_in base first) (placed_from (base + 1) parts) later
    ∙ rw moved (is_taken-part parts (base + 1) place part found)

-- a block comes in place of the first part's, or in front of the others
put_block-here : (used : Bool) (block first : PlacedBlock) (others : List PlacedBlock) → block.offset ≡ first.offset → AreFrom (block.offset + 1) others
    → put_block block (cond used (first ∷ others) others) ≡ block ∷ others
unfolding put_block
put_block-here true block first others same from =
    rw (le-ltb block.offset first.offset (omega (arith, same)), eq-eqb block.offset first.offset same) refl
put_block-here false block first others same from = put_block-first block others from

-- a later block goes after the first part's
put_block-later : (used : Bool) (block first : PlacedBlock) (others : List PlacedBlock) → first.offset < block.offset
    → put_block block (cond used (first ∷ others) others) ≡ cond used (first ∷ put_block block others) (put_block block others)
unfolding put_block
put_block-later true block first others lt =
    rw (le-ltb block.offset first.offset (omega (arith, lt)), ne_eqb block.offset first.offset (λ e. absurd (omega (arith, e, lt)))) refl
put_block-later false block first others lt = refl

-- a block that comes into a part stands at the part's offset
pub put_block-part : (parts : List (Part Head)) (base place : ℕ) (new : Part Head) → place < length parts → new.head.used ≡ true
    → put_block (block_in (base + place) new) (placed_from base parts) ≡ placed_from base (set parts place new)
unfolding placed_from
put_block-part [] base place new within used = absurd (omega (arith, within))
put_block-part (first ∷ parts) base zero new within used =
    rw (add-zero, used) (put_block-here first.head.used (block_in base new) (block_in base first) (placed_from (base + 1) parts) refl (placed_from-AreFrom parts (base + 1)))
put_block-part (first ∷ parts) base (suc place) new within used =
    let moved : base + suc place ≡ (base + 1) + place = omega arith in
    let later : base < base + suc place = omega arith in
    let others = put_block-part parts (base + 1) place new (omega (arith, within)) used in
    put_block-later first.head.used (block_in (base + suc place) new) (block_in base first) (placed_from (base + 1) parts) later
    ∙ rw (moved, others) refl

-- ---- consuming

pub length-consume_parts : (at count : ℕ) (parts : List (Part Head)) → length (consume_parts at count parts) ≡ length parts
unfolding consume_parts
length-consume_parts at zero parts = refl
length-consume_parts at (suc count) parts = length-set (consume_parts at count parts) (at + count) consumed_part ∙ length-consume_parts at count parts

-- parts that are consumed are consumed offsets
pub placed_from-consumed : (base at count : ℕ) (parts : List (Part Head)) → at + count ≤ length parts
    → placed_from base (consume_parts at count parts) ≡ with_consumed (base + at) count (placed_from base parts)
unfolding consume_parts with_consumed
placed_from-consumed base at zero parts within = refl
placed_from-consumed base at (suc count) parts within =
    let before = placed_from-consumed base at count parts (omega (arith, within)) in
    let moved : base + (at + count) ≡ base + at + count = omega arith in
    let put = put_block-part (consume_parts at count parts) base (at + count) consumed_part (omega (arith, within, length-consume_parts at count parts)) refl in
    sym put ∙ rw (before, moved) refl

-- ---- the run

-- no byte follows an offset that isn't taken
bytes_from-above : (blocks : List PlacedBlock) (offset : ℕ) → AreFrom (offset + 1) blocks → bytes_from offset blocks ≡ []
unfolding AreFrom bytes_from
bytes_from-above [] offset from = refl
bytes_from-above (block ∷ blocks) offset from =
    let here : offset + 1 ≤ block.offset = from.0 in
    rw (ne_eqb block.offset offset (λ e. absurd (omega (arith, e)))) refl

-- the bytes that follow one another are those of the run
pub bytes_from-run : (parts : List (Part Head)) (base run : ℕ) → run ≤ length parts → All IsUsed (take run parts) → EndsRun run parts
    → bytes_from base (placed_from base parts) ≡ joined (take run parts)
unfolding placed_from bytes_from
bytes_from-run [] base zero within used ends = refl
bytes_from-run [] base (suc run) within used ends = absurd (omega (arith, within))
bytes_from-run (part ∷ parts) base zero within used ends =
    let here : part.head.used ≡ false = ends part refl in
    rw here (bytes_from-above (placed_from (base + 1) parts) base (placed_from-AreFrom parts (base + 1)))
bytes_from-run (part ∷ parts) base (suc run) within used ends =
    let here : part.head.used ≡ true = All-head IsUsed part (take run parts) used in
    let rest = bytes_from-run parts (base + 1) run (omega (arith, within)) (All-tail IsUsed part (take run parts) used) ends in
    rw (here, eq-eqb base base refl, rest) refl

-- ---- where it begins

-- parts at the end that aren't used change nothing
pub placed_from-append : (parts others : List (Part Head)) (base : ℕ) → All IsUnused others → placed_from base (parts ++ others) ≡ placed_from base parts
unfolding placed_from
placed_from-append [] others base unused = placed_from-unused others base unused
placed_from-append (part ∷ parts) others base unused = rw (placed_from-append parts others (base + 1) unused) refl

beginning-above : (blocks : List PlacedBlock) (base given : ℕ) → AreFrom (base + 1) blocks → beginning base given blocks ≡ record { base = base; given = given; placed = blocks }
unfolding AreFrom beginning
beginning-above [] base given from = refl
beginning-above (block ∷ blocks) base given from =
    let here : base + 1 ≤ block.offset = from.0 in
    rw (ne_eqb block.offset base (λ e. absurd (omega (arith, e)))) refl

beginning-unused : (part : Part Head) (parts : List (Part Head)) (base given : ℕ) → part.head.used ≡ false
    → beginning base given (placed_from base (part ∷ parts)) ≡ record { base = base; given = given; placed = placed_from base (part ∷ parts) }
unfolding placed_from
beginning-unused part parts base given unused = rw unused (beginning-above (placed_from (base + 1) parts) base given (placed_from-AreFrom parts (base + 1)))

beginning-part : (part : Part Head) (parts : List (Part Head)) (base given : ℕ) → part.head.used ≡ true → given < length part.bytes
    → beginning base given (placed_from base (part ∷ parts)) ≡ record { base = base; given = given; placed = placed_from base (part ∷ parts) }
unfolding placed_from beginning
beginning-part part parts base given used lt = rw (used, eq-eqb base base refl, lt-leb (length part.bytes) given lt) refl

-- where bytes of the first block are left, it begins there
pub beginning-settled : (parts : List (Part Head)) (base given : ℕ) → IsSettled given parts
    → beginning base given (placed_from base parts) ≡ record { base = base; given = given; placed = placed_from base parts }
unfolding placed_from beginning
beginning-settled [] base given settled = refl
beginning-settled (part ∷ parts) base given settled =
    elim (cases_Bool part.head.used) [
      | inl used ↦ beginning-part part parts base given used (settled.block used)
      | inr unused ↦ beginning-unused part parts base given unused
    ]

-- a block that has none left is passed ..
beginning-first : (part : Part Head) (parts : List (Part Head)) (base given : ℕ) → part.head.used ≡ true → length part.bytes ≤ given
    → beginning base given (placed_from base (part ∷ parts)) ≡ beginning (base + 1) (given - length part.bytes) (placed_from (base + 1) parts)
unfolding placed_from beginning
beginning-first part parts base given used le = rw (used, eq-eqb base base refl, le-leb (length part.bytes) given le) refl

-- .. and so are all those at the front
pub beginning-passed : (count : ℕ) (parts : List (Part Head)) (base given left : ℕ) → count ≤ length parts → All IsUsed (take count parts)
    → length (joined (take count parts)) + left ≡ given
    → beginning base given (placed_from base parts) ≡ beginning (base + count) left (placed_from (base + count) (drop count parts))
beginning-passed zero parts base given left within used sum =
    let here : base + 0 ≡ base = omega arith in
    let same : given ≡ left = omega (arith, sum) in
    rw (here, same) refl
beginning-passed (suc count) [] base given left within used sum = absurd (omega (arith, within))
beginning-passed (suc count) (part ∷ parts) base given left within used sum =
    let len = length-append part.bytes (joined (take count parts)) in
    let moved : base + suc count ≡ base + 1 + count = omega arith in
    let others = beginning-passed count parts (base + 1) (given - length part.bytes) left (omega (arith, within)) (All-tail IsUsed part (take count parts) used) (omega (arith, sum, len)) in
    beginning-first part parts base given (All-head IsUsed part (take count parts) used) (omega (arith, sum, len)) ∙ rw moved others

-- ---- steps of consuming

pub consume_none : (at : ℕ) (parts : List (Part Head)) → consume_parts at 0 parts ≡ parts
unfolding consume_parts
consume_none at parts = refl

pub consume_more : (at count : ℕ) (parts : List (Part Head)) → set (consume_parts at count parts) (at + count) consumed_part ≡ consume_parts at (count + 1) parts
unfolding consume_parts
consume_more at count parts = let e : count + 1 ≡ suc count = omega arith in rw e refl
