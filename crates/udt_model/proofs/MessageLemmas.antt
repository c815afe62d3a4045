-- What the search for the next message finds: the readable one with the least offset, and none only where none is readable.
use Rattle.std.proofs.Common.{◌≡◌, ℕ, ◌+◌, ◌<◌, ◌≤◌, Bool, true, false, List, [], ◌∷◌, ◌++◌, length, map, Some, None, refl, ap, ◌∙◌, sym, subst, inl, inr, ◌⊎◌, arith}
use Rattle.std.specs.Prelude.{Option, not, ◌&&◌, ◌||◌, ◌==◌, if◌then◌else◌}
use Rattle.std.specs.List.{Contains, concat}
use Rattle.std.specs.Option.{option_map, option_or}
use Rattle.std.proofs.lemmas.Bool.{and_parts, eqb-true, eq-eqb, or_left, or_right, or_cases, cases_lt, cases_eq, cases_Bool}
use Rattle.std.proofs.lemmas.List.{append-nil}
use Rattle.std.proofs.lemmas.Option.{same_Some}
use Rattle.udt_model.specs.ReceiveBlocks.{PlacedBlock, ReceiveBlocks, WholeMessage, is_taken, goes_on, with_first, up_to_last, may_begin, message_from, next_message}
use Rattle.udt_model.specs.Readable.{IsPartOf, AreParts, IsReadable, IsNextMessage}
use Rattle.udt_model.proofs.Members.{first-contained, other-contained, none-contained, contained-cases}
use Rattle.udt_model.proofs.ReceivingLemmas.{AreRising}

-- ---- blocks of a list

bytes_in : PlacedBlock → List ℕ
bytes_in block = block.bytes

-- these are placed
abbrev pub AreAmong : List PlacedBlock → ReceiveBlocks → Type 0
AreAmong placed b = (block : PlacedBlock) → Contains placed block → Contains b.placed block

-- all that are placed from this offset on are among these
abbrev pub HasAll : ReceiveBlocks → ℕ → List PlacedBlock → Type 0
HasAll b offset placed = (block : PlacedBlock) → Contains b.placed block → offset ≤ block.offset → Contains placed block

pub contained-taken : (placed : List PlacedBlock) (block : PlacedBlock) → Contains placed block → is_taken block.offset placed ≡ true
contained-taken [] block there = absurd (none-contained block there)
contained-taken (first ∷ others) block there = elim (contained-cases first others block there) [
  | inl same ↦ or_left (first.offset == block.offset) _ (eq-eqb first.offset block.offset (ap (λ (x : PlacedBlock). x.offset) same))
  | inr later ↦ or_right (first.offset == block.offset) _ (contained-taken others block later)
]

-- a placed block with an offset that has one
record HasBlockAt (placed : List PlacedBlock) (offset : ℕ) : Type 0 where
  block : PlacedBlock
  among : Contains placed block
  at : block.offset ≡ offset

taken-contained : (placed : List PlacedBlock) (offset : ℕ) → is_taken offset placed ≡ true → HasBlockAt placed offset
taken-contained [] offset taken = absurd (cc)
taken-contained (first ∷ others) offset taken = elim (or_cases (first.offset == offset) (is_taken offset others) taken) [
  | inl here ↦ record { block = first; among = first-contained first others; at = eqb-true first.offset offset here }
  | inr later ↦
      let found = taken-contained others offset later in
      record { block = found.block; among = other-contained first others found.block found.among; at = found.at }
]

-- rising ones lie from the first offset on
above-first : (from : ℕ) (placed : List PlacedBlock) (block : PlacedBlock) → AreRising from placed → Contains placed block → from ≤ block.offset
above-first from [] block rising there = absurd (none-contained block there)
above-first from (first ∷ others) block rising there = elim (contained-cases first others block there) [
  | inl same ↦ subst (λ (x : PlacedBlock). from ≤ x.offset) same rising.0
  | inr later ↦ omega (arith, rising.0, above-first (first.offset + 1) others block rising.1 later)
]

-- so all from the next offset on are among the others
all-others : (b : ReceiveBlocks) (offset : ℕ) (first : PlacedBlock) (others : List PlacedBlock) → offset ≤ first.offset → HasAll b offset (first ∷ others)
    → HasAll b (first.offset + 1) others
all-others b offset first others low all block among above = elim (contained-cases first others block (all block among (omega (arith, low, above)))) [
  | inl same ↦ absurd (omega (arith, above, ap (λ (x : PlacedBlock). x.offset) same))
  | inr later ↦ later
]

not_true : (x : Bool) → not x ≡ true → x ≡ false
not_true true is = cc
not_true false is = refl

not_false : (x : Bool) → x ≡ false → not x ≡ true
not_false x is = rw is refl

both_true : (x y : Bool) → x ≡ true → y ≡ true → (x && y) ≡ true
both_true x y first second = rw (first, second) refl

-- ---- the blocks of a message that was found

goes-on : (b : ReceiveBlocks) (offset number : ℕ) (block : PlacedBlock) → Contains b.placed block → goes_on offset number block ≡ true
    → IsPartOf b offset number block
goes-on b offset number block among goes =
    let outer = and_parts (block.offset == offset) (not block.consumed && block.flags.message == number) goes in
    let inner = and_parts (not block.consumed) (block.flags.message == number) outer.1 in
    record {
      among = among;
      at = eqb-true block.offset offset outer.0;
      unread = not_true block.consumed inner.0;
      numbered = eqb-true block.flags.message number inner.1;
    }

part-goes-on : (b : ReceiveBlocks) (offset number : ℕ) (block : PlacedBlock) → IsPartOf b offset number block → goes_on offset number block ≡ true
part-goes-on b offset number block part =
    both_true (block.offset == offset) (not block.consumed && block.flags.message == number) (eq-eqb block.offset offset part.at)
    (both_true (not block.consumed) (block.flags.message == number) (not_false block.consumed part.unread)
    (eq-eqb block.flags.message number part.numbered))

-- from this block on the message was found whole
record IsFound (b : ReceiveBlocks) (offset number : ℕ) (block : PlacedBlock) (m : WholeMessage) : Type 0 where
  others : List PlacedBlock
  parts : AreParts b offset number (block ∷ others)
  first : m.first ≡ offset
  count : m.count ≡ length (block ∷ others)
  joined : m.bytes ≡ concat (map (λ (x : PlacedBlock). x.bytes) (block ∷ others))

found-last : (b : ReceiveBlocks) (offset number : ℕ) (block : PlacedBlock) (m : WholeMessage) → IsPartOf b offset number block → block.flags.last ≡ true
    → Some (record { first = offset; count = 1; bytes = block.bytes }) ≡ Some m → IsFound b offset number block m
found-last b offset number block m part last is =
    let same = same_Some (record { first = offset; count = 1; bytes = block.bytes }) m is in
    record {
      others = [];
      parts = (part, last);
      first = sym (ap (λ (x : WholeMessage). x.first) same);
      count = sym (ap (λ (x : WholeMessage). x.count) same);
      joined = sym (ap (λ (x : WholeMessage). x.bytes) same) ∙ sym (append-nil block.bytes);
    }

found-more : (b : ReceiveBlocks) (offset number : ℕ) (block next : PlacedBlock) (more m : WholeMessage) → IsPartOf b offset number block
    → block.flags.last ≡ false → IsFound b (offset + 1) number next more → Some (with_first block more) ≡ Some m
    → IsFound b offset number block m
found-more b offset number block next more m part last rest is =
    let same = same_Some (with_first block more) m is in
    record {
      others = next ∷ rest.others;
      parts = (part, last, rest.parts);
      first = sym (ap (λ (x : WholeMessage). x.first) same) ∙ part.at;
      count = sym (ap (λ (x : WholeMessage). x.count) same) ∙ omega (arith, rest.count);
      joined = sym (ap (λ (x : WholeMessage). x.bytes) same) ∙ ap (λ (bytes : List ℕ). block.bytes ++ bytes) rest.joined;
    }

found-by : (b : ReceiveBlocks) (offset number : ℕ) (block next : PlacedBlock) (m : WholeMessage) (goes last : Bool) (rest : Option WholeMessage)
    → Contains b.placed block → goes_on offset number block ≡ goes → block.flags.last ≡ last
    → (if goes then (if last then Some (record { first = offset; count = 1; bytes = block.bytes }) else option_map (with_first block) rest) else None) ≡ Some m
    → ((more : WholeMessage) → rest ≡ Some more → IsFound b (offset + 1) number next more) → IsFound b offset number block m
found-by b offset number block next m false last rest among goes ends is later = absurd (cc)
found-by b offset number block next m true true rest among goes ends is later =
    found-last b offset number block m (goes-on b offset number block among goes) ends is
found-by b offset number block next m true false None among goes ends is later = absurd (cc)
found-by b offset number block next m true false (Some more) among goes ends is later =
    found-more b offset number block next more m (goes-on b offset number block among goes) ends (later more refl) is

found : (b : ReceiveBlocks) (offset number : ℕ) (block : PlacedBlock) (others : List PlacedBlock) (m : WholeMessage) → AreAmong (block ∷ others) b
    → up_to_last offset number (block ∷ others) ≡ Some m → IsFound b offset number block m
unfolding up_to_last
found b offset number block [] m among is =
    found-by b offset number block block m (goes_on offset number block) block.flags.last None (among block (first-contained block []))
    refl refl is (λ more none. absurd (cc))
found b offset number block (next ∷ others) m among is =
    found-by b offset number block next m (goes_on offset number block) block.flags.last (up_to_last (offset + 1) number (next ∷ others))
    (among block (first-contained block (next ∷ others))) refl refl is
    (λ more there. found b (offset + 1) number next others more (λ x within. among x (other-contained block (next ∷ others) x within)) there)

-- ---- what is found is readable

-- one that was found from its first block on is readable, where that block may begin it
begins-readable : (b : ReceiveBlocks) (block : PlacedBlock) (m : WholeMessage) (still : Bool) → IsFound b block.offset block.flags.message block m
    → may_begin still block ≡ true → (still ≡ true → (n : ℕ) → b.base ≤ n → n < block.offset → is_taken n b.placed ≡ true)
    → IsReadable b m
begins-readable b block m still whole may before =
    let parts = and_parts block.flags.first (not block.flags.order || still) may in
    record {
      first = block;
      others = whole.others;
      parts = subst (λ (n : ℕ). AreParts b n block.flags.message (block ∷ whole.others)) (sym whole.first) whole.parts;
      begins = parts.0;
      in_order = λ ordered n low high. elim (or_cases (not block.flags.order) still parts.1) [
        | inl free ↦ absurd (cc)
        | inr gapless ↦ before gapless n low (omega (arith, high, whole.first))
      ];
      count = whole.count;
      joined = whole.joined;
    }

search-by : (b : ReceiveBlocks) (block : PlacedBlock) (m : WholeMessage) (still begins : Bool) (here later : Option WholeMessage)
    → may_begin still block ≡ begins → option_or (if begins then here else None) later ≡ Some m
    → ((x : WholeMessage) → here ≡ Some x → IsFound b block.offset block.flags.message block x)
    → (still ≡ true → (n : ℕ) → b.base ≤ n → n < block.offset → is_taken n b.placed ≡ true)
    → (later ≡ Some m → IsReadable b m) → IsReadable b m
search-by b block m still true (Some x) later may is whole before next =
    let same = same_Some x m is in
    begins-readable b block m still (subst (IsFound b block.offset block.flags.message block) same (whole x refl)) may before
search-by b block m still true None later may is whole before next = next is
search-by b block m still false here later may is whole before next = next is

pub search-readable : (b : ReceiveBlocks) (offset : ℕ) (gapless : Bool) (placed : List PlacedBlock) (m : WholeMessage) → AreAmong placed b
    → (gapless ≡ true → (n : ℕ) → b.base ≤ n → n < offset → is_taken n b.placed ≡ true)
    → message_from offset gapless placed ≡ Some m → IsReadable b m
unfolding message_from
search-readable b offset gapless [] m among before is = absurd (cc)
search-readable b offset gapless (block ∷ others) m among before is =
    let still = gapless && block.offset == offset in
    let own : Contains b.placed block = among block (first-contained block others) in
    let up_to : still ≡ true → (n : ℕ) → b.base ≤ n → n < block.offset → is_taken n b.placed ≡ true = λ holds n low high.
    let parts = and_parts gapless (block.offset == offset) holds in
    before parts.0 n low (omega (arith, high, eqb-true block.offset offset parts.1)) in
    search-by b block m still (may_begin still block) (up_to_last block.offset block.flags.message (block ∷ others))
    (message_from (block.offset + 1) still others) refl is
    (λ x there. found b block.offset block.flags.message block others x among there)
    up_to
    (λ later. search-readable b (block.offset + 1) still others m (λ x within. among x (other-contained block others x within))
    (λ holds n low high. elim (cases_eq n block.offset) [
      | inl at ↦ rw at (contained-taken b.placed block own)
      | inr apart ↦ up_to holds n low (omega (arith, high, apart))
    ]) later)

-- ---- and what is readable is found

-- the block at the first offset stands first
record StandsFirst (placed : List PlacedBlock) (block : PlacedBlock) : Type 0 where
  rest : List PlacedBlock
  is : placed ≡ block ∷ rest

stands-first : (b : ReceiveBlocks) (offset : ℕ) (placed : List PlacedBlock) (block : PlacedBlock) → AreRising offset placed → HasAll b offset placed
    → Contains b.placed block → block.offset ≡ offset → StandsFirst placed block
stands-first b offset [] block rising all among at = absurd (none-contained block (all block among (omega (arith, at))))
stands-first b offset (first ∷ others) block rising all among at =
    elim (contained-cases first others block (all block among (omega (arith, at)))) [
      | inl same ↦ record { rest = others; is = ap (λ (x : PlacedBlock). x ∷ others) same }
      | inr later ↦ absurd (omega (arith, rising.0, above-first (first.offset + 1) others block rising.1 later, at))
    ]

no-more : (first : PlacedBlock) (o : Option WholeMessage) → option_map (with_first first) o ≡ None → o ≡ None
no-more first None is = refl
no-more first (Some m) is = absurd (cc)

-- what the search makes of a block that goes on, by whether it is the last one
last-found : (offset : ℕ) (bytes : List ℕ) (goes last : Bool) (more : Option WholeMessage) → goes ≡ true → last ≡ true
    → (if goes then (if last then Some (record { first = offset; count = 1; bytes = bytes }) else more) else None) ≡ None → ⊥
last-found offset bytes true true more goes_is last_is none = cc
last-found offset bytes true false more goes_is last_is none = cc
last-found offset bytes false last more goes_is last_is none = cc

more-found : (offset : ℕ) (bytes : List ℕ) (goes last : Bool) (more : Option WholeMessage) → goes ≡ true → last ≡ false
    → (if goes then (if last then Some (record { first = offset; count = 1; bytes = bytes }) else more) else None) ≡ None → more ≡ None
more-found offset bytes true false more goes_is last_is none = none
more-found offset bytes true true more goes_is last_is none = absurd (cc)
more-found offset bytes false last more goes_is last_is none = absurd (cc)

-- parts of a message are found, from their first block on
pub parts-found : (b : ReceiveBlocks) (offset number : ℕ) (first : PlacedBlock) (others placed : List PlacedBlock) → AreRising offset placed → HasAll b offset placed
    → AreParts b offset number (first ∷ others) → up_to_last offset number placed ≡ None → ⊥
unfolding up_to_last
parts-found b offset number first [] placed rising all parts none =
    let stands = stands-first b offset placed first rising all parts.0.among parts.0.at in
    let goes = part-goes-on b offset number first parts.0 in
    let is = rw stands.is at none in
    last-found offset first.bytes (goes_on offset number first) first.flags.last
    (option_map (with_first first) (up_to_last (offset + 1) number stands.rest)) goes parts.1 is
parts-found b offset number first (next ∷ others) placed rising all parts none =
    let stands = stands-first b offset placed first rising all parts.0.among parts.0.at in
    let goes = part-goes-on b offset number first parts.0 in
    let rising_all : AreRising offset (first ∷ stands.rest) = rw stands.is at rising in
    let has_all : HasAll b offset (first ∷ stands.rest) = subst (HasAll b offset) stands.is all in
    let is = rw stands.is at none in
    let later = more-found offset first.bytes (goes_on offset number first) first.flags.last
    (option_map (with_first first) (up_to_last (offset + 1) number stands.rest)) goes parts.1 is in
    let place : first.offset ≡ offset = parts.0.at in
    parts-found b (offset + 1) number next others stands.rest
    (subst (λ (n : ℕ). AreRising (n + 1) stands.rest) place rising_all.1)
    (subst (λ (n : ℕ). HasAll b (n + 1) stands.rest) place (all-others b offset first stands.rest (omega (arith, place)) has_all))
    parts.2 (no-more first (up_to_last (offset + 1) number stands.rest) later)

-- what was found begins no later
abbrev pub IsAtMost : ℕ → Option WholeMessage → Type 0
IsAtMost offset None = ⊥
IsAtMost offset (Some m) = m.first ≤ offset

least-by : (block : PlacedBlock) (offset : ℕ) (begins : Bool) (here later : Option WholeMessage) → ((x : WholeMessage) → here ≡ Some x → x.first ≡ block.offset)
    → block.offset ≤ offset → (block.offset ≡ offset → (begins ≡ true) × (here ≡ None → ⊥))
    → (block.offset < offset → IsAtMost offset later) → IsAtMost offset (option_or (if begins then here else None) later)
least-by block offset true (Some x) later whole low at below = omega (arith, low, whole x refl)
least-by block offset true None later whole low at below = elim (cases_lt block.offset offset) [
  | inl less ↦ below less
  | inr more ↦ absurd ((at (omega (arith, low, more))).1 refl)
]
least-by block offset false here later whole low at below = elim (cases_lt block.offset offset) [
  | inl less ↦ below less
  | inr more ↦
      let must = (at (omega (arith, low, more))).0 in
      absurd (cc)
]

first-part : (b : ReceiveBlocks) (offset number : ℕ) (first : PlacedBlock) (others : List PlacedBlock) → AreParts b offset number (first ∷ others)
    → IsPartOf b offset number first
first-part b offset number first [] parts = parts.0
first-part b offset number first (next ∷ others) parts = parts.0

-- no offset before a block is missing where each has a block
gapless-there : (b : ReceiveBlocks) (offset : ℕ) (gapless : Bool) (block : PlacedBlock) (others : List PlacedBlock) → b.base ≤ offset
    → AreRising offset (block ∷ others) → HasAll b offset (block ∷ others)
    → (((n : ℕ) → b.base ≤ n → n < offset → is_taken n b.placed ≡ true) → gapless ≡ true)
    → ((n : ℕ) → b.base ≤ n → n < block.offset → is_taken n b.placed ≡ true) → (gapless && block.offset == offset) ≡ true
gapless-there b offset gapless block others low rising all knows taken =
    both_true gapless (block.offset == offset) (knows (λ n from to. taken n from (omega (arith, to, rising.0))))
    (elim (cases_lt offset block.offset) [
      | inl above ↦
          let there = taken-contained b.placed offset (taken offset low above) in
          let least = above-first block.offset (block ∷ others) there.block (omega arith, rising.1) (all there.block there.among (omega (arith, there.at))) in
          absurd (omega (arith, above, least, there.at))
      | inr at ↦ eq-eqb block.offset offset (omega (arith, at, rising.0))
    ])

pub search-least : (b : ReceiveBlocks) (offset : ℕ) (gapless : Bool) (placed : List PlacedBlock) (m : WholeMessage) → b.base ≤ offset
    → AreAmong placed b → AreRising offset placed → HasAll b offset placed
    → (((n : ℕ) → b.base ≤ n → n < offset → is_taken n b.placed ≡ true) → gapless ≡ true)
    → IsReadable b m → offset ≤ m.first → IsAtMost m.first (message_from offset gapless placed)
unfolding message_from
search-least b offset gapless [] m low among rising all knows readable from =
    let part = first-part b m.first readable.first.flags.message readable.first readable.others readable.parts in
    none-contained readable.first (all readable.first part.among (omega (arith, from, part.at)))
search-least b offset gapless (block ∷ others) m low among rising all knows readable from =
    let first = readable.first in
    let part = first-part b m.first first.flags.message first readable.others readable.parts in
    let there = all first part.among (omega (arith, from, part.at)) in
    let still = gapless && block.offset == offset in
    let rising_here : AreRising block.offset (block ∷ others) = (omega arith, rising.1) in
    let above : block.offset ≤ first.offset = above-first block.offset (block ∷ others) first rising_here there in
    let whole : (x : WholeMessage) → up_to_last block.offset block.flags.message (block ∷ others) ≡ Some x → x.first ≡ block.offset =
    λ x is. (found b block.offset block.flags.message block others x among is).first in
    least-by block m.first (may_begin still block) (up_to_last block.offset block.flags.message (block ∷ others))
    (message_from (block.offset + 1) still others) whole (omega (arith, above, part.at))
    (λ at. elim (contained-cases block others first there) [
      | inl same ↦
          let order_is : first.flags.order ≡ block.flags.order = ap (λ (x : PlacedBlock). x.flags.order) (sym same) in
          let may : (not block.flags.order || still) ≡ true = elim (cases_Bool block.flags.order) [
            | inl ordered ↦ or_right (not block.flags.order) still
                (gapless-there b offset gapless block others low rising all knows
                (λ n below upto. readable.in_order (order_is ∙ ordered) n below (omega (arith, upto, at))))
            | inr free ↦ or_left (not block.flags.order) still (not_false block.flags.order free)
          ] in
          let parts_here : AreParts b block.offset block.flags.message (block ∷ readable.others) =
          subst (λ (x : PlacedBlock). AreParts b block.offset x.flags.message (x ∷ readable.others)) (sym same)
          (subst (λ (n : ℕ). AreParts b n first.flags.message (first ∷ readable.others)) (sym at) readable.parts) in
          let all_here : HasAll b block.offset (block ∷ others) = λ x inside up. all x inside (omega (arith, up, rising.0)) in (
            both_true block.flags.first (not block.flags.order || still) (ap (λ (x : PlacedBlock). x.flags.first) same ∙ readable.begins) may,
            parts-found b block.offset block.flags.message block readable.others (block ∷ others) rising_here all_here parts_here,
          )
      | inr later ↦ absurd (omega (arith, above-first (block.offset + 1) others first rising.1 later, at, part.at))
    ])
    (λ less. search-least b (block.offset + 1) still others m (omega (arith, low, rising.0))
    (λ x within. among x (other-contained block others x within)) rising.1 (all-others b offset block others rising.0 all)
    (λ taken. gapless-there b offset gapless block others low rising all knows (λ n below upto. taken n below (omega (arith, upto))))
    readable (omega (arith, less)))

-- ---- the next message

next-by : (b : ReceiveBlocks) (o : Option WholeMessage) → AreRising b.base b.placed → message_from b.base true b.placed ≡ o → IsNextMessage b o
next-by b None rising is = λ m readable.
    let part = first-part b m.first readable.first.flags.message readable.first readable.others readable.parts in
    let low = above-first b.base b.placed readable.first rising part.among in
    subst (IsAtMost m.first) is
    (search-least b b.base true b.placed m (omega arith) (λ x there. there) rising (λ x there up. there) (λ taken. refl) readable (omega (arith, low, part.at)))
next-by b (Some m) rising is = (
  search-readable b b.base true b.placed m (λ x there. there) (λ gapless n low high. absurd (omega (arith, low, high))) is,
  λ other readable.
      let part = first-part b other.first readable.first.flags.message readable.first readable.others readable.parts in
      let low = above-first b.base b.placed readable.first rising part.among in
      subst (IsAtMost other.first) is
      (search-least b b.base true b.placed other (omega arith) (λ x there. there) rising (λ x there up. there) (λ taken. refl) readable (omega (arith, low, part.at))),
)

-- the search finds the readable message with the least offset, and none only where none is readable
pub next_message-is : (b : ReceiveBlocks) → AreRising b.base b.placed → IsNextMessage b (next_message b)
next_message-is b rising = next-by b (next_message b) rising refl
