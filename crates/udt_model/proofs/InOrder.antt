-- Blocks, the top and the missing packets stay in order.
use Rattle.std.proofs.Common.{◌≡◌, ℕ, ◌+◌, ◌-◌, ◌<◌, ◌≤◌, Bool, true, false, cond, ltb, leb, List, [], max, refl, sym, ap, ◌∙◌, arith, inl, inr}
use Rattle.std.proofs.lemmas.Bool.{cases_lt, cases_eq, lt-ltb, le-ltb, or_left, or_right, or_cases, false_from_ne_true, true≢false, ltb-true, ltb-false, leb-false}
use Rattle.udt_model.specs.declared.answers.Placed.TheVariants as placing
use Rattle.udt_model.specs.declared.packets.Flags.{Flags}
use Rattle.udt_model.specs.Losses.{Missing, LostRange, with_missing, without_missing, after_report}
use Rattle.udt_model.specs.ReceiveBlocks.{ReceiveBlocks, PlacedBlock, is_taken, placing_of, put_block, arrived_at, after_place, after_placing_of, after_bytes, beginning, begins_at, with_consumed, given_after, after_consuming, after_skip}
use Rattle.udt_model.specs.ReceiveOrder.{IsInOrder, missing_then, missing_past}
use Rattle.udt_model.proofs.TakenOffsets.{put_own, put_keeps, put_only, consumed_has, consumed_keeps, consumed_only, begins_later, passed_taken, left_only, left_keeps}
use Rattle.udt_model.proofs.MissingOffsets.{added_only, added_keeps, added_has, arrived_only, arrived_keeps, taken_only, taken_keeps, reported_same}

-- ---- blocks that are placed

-- where a block is new
pub record IsNew (blocks : ReceiveBlocks) (offset : ℕ) : Type 0 where
  pub from : blocks.base ≤ offset
  pub room : offset < blocks.base + blocks.capacity
  pub absent : is_taken offset blocks.placed ≡ false

is_new_by : (blocks : ReceiveBlocks) (offset : ℕ) (below above taken : Bool) → ltb offset blocks.base ≡ below → leb (blocks.base + blocks.capacity) offset ≡ above → is_taken offset blocks.placed ≡ taken → cond below placing.Below (cond above placing.Above (cond taken placing.Double placing.New)) ≡ placing.New → IsNew blocks offset
is_new_by blocks offset true above taken b a t h = absurd (cc)
is_new_by blocks offset false true taken b a t h = absurd (cc)
is_new_by blocks offset false false true b a t h = absurd (cc)
is_new_by blocks offset false false false b a t h = record {
  from = ltb-false offset blocks.base b;
  room = leb-false (blocks.base + blocks.capacity) offset a;
  absent = t;
}

pub is_new : (blocks : ReceiveBlocks) (offset : ℕ) → placing_of blocks offset ≡ placing.New → IsNew blocks offset
unfolding placing_of
is_new blocks offset h = is_new_by blocks offset (ltb offset blocks.base) (leb (blocks.base + blocks.capacity) offset) (is_taken offset blocks.placed) refl refl refl h

-- what is placed then
pub placed_is : (blocks : ReceiveBlocks) (offset : ℕ) (flags : Flags) (bytes : List ℕ) → placing_of blocks offset ≡ placing.New → after_place blocks offset flags bytes ≡ record blocks { placed = put_block (arrived_at offset flags bytes) blocks.placed }
unfolding after_place
placed_is blocks offset flags bytes new = ap (after_placing_of blocks (arrived_at offset flags bytes)) new

-- the offset of the block is no missing one before it is placed above the top
differs : (n offset : ℕ) → n < offset → n ≡ offset → ⊥
differs n offset less same = omega arith

-- the parts of the order that speak of missing offsets, with a block put at this offset, once these are missing
put_absent : (blocks : ReceiveBlocks) (block : PlacedBlock) (n : ℕ) → (n ≡ block.offset → ⊥) → is_taken n blocks.placed ≡ false → is_taken n (put_block block blocks.placed) ≡ false
put_absent blocks block n other absent = false_from_ne_true _ (λ taken. elim (put_only n block blocks.placed taken) [
  | inl own ↦ other own
  | inr old ↦ true≢false (sym old ∙ absent)
])

-- a block above the top
put_above : (blocks : ReceiveBlocks) (block : PlacedBlock) (top now : ℕ) (missing : List Missing) → IsInOrder blocks top missing → IsNew blocks block.offset → top < block.offset → IsInOrder (record blocks { placed = put_block block blocks.placed }) (max top (block.offset + 1)) (with_missing top (block.offset - 1) now missing)
put_above blocks block top now missing o new above = record {
  base = omega (arith, o.base);
  room = omega (arith, o.room, new.room, above);
  from = λ n there. elim (added_only top (block.offset - 1) now n missing there) [ inl old ↦ o.from n old | inr row ↦ omega (arith, o.base, row.0) ];
  below = λ n there. elim (added_only top (block.offset - 1) now n missing there) [ inl old ↦ omega (arith, o.below n old, above) | inr row ↦ omega (arith, row.1, above) ];
  absent = λ n there. elim (added_only top (block.offset - 1) now n missing there) [
    | inl old ↦ put_absent blocks block n (differs n block.offset (omega (arith, o.below n old, above))) (o.absent n old)
    | inr row ↦ put_absent blocks block n (differs n block.offset (omega (arith, row.1, above))) (false_from_ne_true _ (λ taken. omega (arith, o.placed n taken, row.0)))
  ];
  placed = λ n taken. elim (put_only n block blocks.placed taken) [ inl own ↦ omega (arith, own) | inr old ↦ omega (arith, o.placed n old) ];
  all = λ n from to none. elim (cases_lt n top) [
    | inl below ↦ put_keeps n block blocks.placed (o.all n from below (false_from_ne_true _ (λ there. true≢false (sym (added_keeps top (block.offset - 1) now n missing there) ∙ none))))
    | inr past ↦ elim (cases_lt n block.offset) [
      | inl before ↦ absurd (true≢false (sym (added_has top (block.offset - 1) now n missing past (omega (arith, before, above))) ∙ none))
      | inr here ↦
          let own : block.offset ≡ n = omega (arith, here, to, above) in
          rw (← own) (put_own block blocks.placed)
    ]
  ];
}

-- a block below the top
put_below : (blocks : ReceiveBlocks) (block : PlacedBlock) (top : ℕ) (missing : List Missing) → IsInOrder blocks top missing → IsNew blocks block.offset → block.offset < top → IsInOrder (record blocks { placed = put_block block blocks.placed }) (max top (block.offset + 1)) (without_missing block.offset block.offset missing)
put_below blocks block top missing o new below = record {
  base = omega (arith, o.base);
  room = omega (arith, o.room, below);
  from = λ n there. o.from n (arrived_only block.offset n missing there).0;
  below = λ n there. omega (arith, o.below n (arrived_only block.offset n missing there).0);
  absent = λ n there.
      let was = arrived_only block.offset n missing there in
      put_absent blocks block n was.1 (o.absent n was.0);
  placed = λ n taken. elim (put_only n block blocks.placed taken) [ inl own ↦ omega (arith, own) | inr old ↦ omega (arith, o.placed n old) ];
  all = λ n from to none. elim (cases_eq n block.offset) [
    | inl own ↦ rw own (put_own block blocks.placed)
    | inr other ↦
        put_keeps n block blocks.placed
        (o.all n from (omega (arith, to, below)) (false_from_ne_true _ (λ there. true≢false (sym (arrived_keeps block.offset n missing there other) ∙ none))))
  ];
}

-- a block at the top
put_at : (blocks : ReceiveBlocks) (block : PlacedBlock) (top : ℕ) (missing : List Missing) → IsInOrder blocks top missing → IsNew blocks block.offset → block.offset ≡ top → IsInOrder (record blocks { placed = put_block block blocks.placed }) (max top (block.offset + 1)) missing
put_at blocks block top missing o new at = record {
  base = omega (arith, o.base);
  room = omega (arith, o.room, new.room, at);
  from = o.from;
  below = λ n there. omega (arith, o.below n there);
  absent = λ n there. put_absent blocks block n (differs n block.offset (omega (arith, o.below n there, at))) (o.absent n there);
  placed = λ n taken. elim (put_only n block blocks.placed taken) [ inl own ↦ omega (arith, own) | inr old ↦ omega (arith, o.placed n old) ];
  all = λ n from to none. elim (cases_lt n top) [
    | inl below ↦ put_keeps n block blocks.placed (o.all n from below none)
    | inr here ↦
        let own : block.offset ≡ n = omega (arith, here, to, at) in
        rw (← own) (put_own block blocks.placed)
  ];
}

put_order : (blocks : ReceiveBlocks) (block : PlacedBlock) (top now : ℕ) (missing : List Missing) → IsInOrder blocks top missing → IsNew blocks block.offset → IsInOrder (record blocks { placed = put_block block blocks.placed }) (max top (block.offset + 1)) (missing_then top now block.offset missing)
put_order blocks block top now missing o new = elim (cases_lt top block.offset) [
  | inl above ↦ rw (lt-ltb top block.offset above) (put_above blocks block top now missing o new above)
  | inr most ↦ elim (cases_lt block.offset top) [
    | inl below ↦ rw (le-ltb top block.offset most, lt-ltb block.offset top below) (put_below blocks block top missing o new below)
    | inr least ↦ rw (le-ltb top block.offset most, le-ltb block.offset top least) (put_at blocks block top missing o new (omega (arith, most, least)))
  ]
]

-- a new block at an offset
pub placed_in_order : (blocks : ReceiveBlocks) (top now offset : ℕ) (flags : Flags) (bytes : List ℕ) (missing : List Missing) → IsInOrder blocks top missing → placing_of blocks offset ≡ placing.New → IsInOrder (after_place blocks offset flags bytes) (max top (offset + 1)) (missing_then top now offset missing)
placed_in_order blocks top now offset flags bytes missing o new =
    rw (placed_is blocks offset flags bytes new)
    (put_order blocks (arrived_at offset flags bytes) top now missing o (is_new blocks offset new))

-- ---- bytes that are read

pub read_in_order : (blocks : ReceiveBlocks) (top count : ℕ) (missing : List Missing) → IsInOrder blocks top missing → IsInOrder (after_bytes blocks count) top missing
read_in_order blocks top count missing o =
    let given = blocks.given + count in
    let later = begins_later blocks.placed blocks.base given in
    record {
      base = elim (cases_lt top (beginning blocks.base given blocks.placed).base) [
        | inl passed ↦ absurd (omega (arith, o.placed top (passed_taken top blocks.placed blocks.base given o.base passed)))
        | inr within ↦ within
      ];
      room = omega (arith, o.room, later);
      from = λ n there. elim (cases_lt n (beginning blocks.base given blocks.placed).base) [
        | inl passed ↦ absurd (true≢false (sym (passed_taken n blocks.placed blocks.base given (o.from n there) passed) ∙ o.absent n there))
        | inr left ↦ left
      ];
      below = o.below;
      absent = λ n there. false_from_ne_true _ (λ taken. true≢false (sym (left_only n blocks.placed blocks.base given taken) ∙ o.absent n there));
      placed = λ n taken. o.placed n (left_only n blocks.placed blocks.base given taken);
      all = λ n from to none. left_keeps n blocks.placed blocks.base given from (o.all n (omega (arith, later, from)) to none);
    }

-- ---- offsets that are consumed

-- blocks at the same offsets are as much in order
pub same_in_order : (blocks : ReceiveBlocks) (placed : List PlacedBlock) (top : ℕ) (missing : List Missing)
    → ((n : ℕ) → is_taken n blocks.placed ≡ true → is_taken n placed ≡ true)
    → ((n : ℕ) → is_taken n placed ≡ true → is_taken n blocks.placed ≡ true)
    → IsInOrder blocks top missing → IsInOrder (record blocks { placed = placed }) top missing
same_in_order blocks placed top missing to from o = record {
  base = o.base;
  room = o.room;
  from = o.from;
  below = o.below;
  absent = λ n there. false_from_ne_true _ (λ taken. true≢false (sym (from n taken) ∙ o.absent n there));
  placed = λ n taken. o.placed n (from n taken);
  all = λ n low high none. to n (o.all n low high none);
}

-- the base moves over what was given and consumed
pub begun_in_order : (blocks : ReceiveBlocks) (placed : List PlacedBlock) (given top : ℕ) (missing : List Missing)
    → IsInOrder (record blocks { placed = placed }) top missing
    → IsInOrder (begins_at blocks (beginning blocks.base given placed)) top missing
begun_in_order blocks placed given top missing o =
    let later = begins_later placed blocks.base given in
    record {
      base = elim (cases_lt top (beginning blocks.base given placed).base) [
        | inl passed ↦ absurd (omega (arith, o.placed top (passed_taken top placed blocks.base given o.base passed)))
        | inr within ↦ within
      ];
      room = omega (arith, o.room, later);
      from = λ n there. elim (cases_lt n (beginning blocks.base given placed).base) [
        | inl passed ↦ absurd (true≢false (sym (passed_taken n placed blocks.base given (o.from n there) passed) ∙ o.absent n there))
        | inr left ↦ left
      ];
      below = o.below;
      absent = λ n there. false_from_ne_true _ (λ taken. true≢false (sym (left_only n placed blocks.base given taken) ∙ o.absent n there));
      placed = λ n taken. o.placed n (left_only n placed blocks.base given taken);
      all = λ n from to none. left_keeps n placed blocks.base given from (o.all n (omega (arith, later, from)) to none);
    }

-- offsets that have blocks may be consumed
pub consumed_in_order : (blocks : ReceiveBlocks) (from count top : ℕ) (missing : List Missing)
    → ((n : ℕ) → from ≤ n → n < from + count → is_taken n blocks.placed ≡ true) → IsInOrder blocks top missing
    → IsInOrder (after_consuming blocks from count) top missing
consumed_in_order blocks from count top missing taken o =
    begun_in_order blocks (with_consumed from count blocks.placed) (given_after blocks from count) top missing
    (same_in_order blocks (with_consumed from count blocks.placed) top missing (λ n was. consumed_keeps n from count blocks.placed was)
    (λ n is. elim (consumed_only n from count blocks.placed is) [
      | inl was ↦ was
      | inr within ↦ taken n within.0 within.1
    ]) o)

-- where a range lies that a message drop request takes
pub record IsTakable (blocks : ReceiveBlocks) (first last : ℕ) : Type 0 where
  pub some : first ≤ last
  pub not_below : blocks.base ≤ last
  pub room : last < blocks.base + blocks.capacity

-- from this offset on it is consumed
abbrev from_of : ReceiveBlocks → ℕ → ℕ
from_of blocks first = max first blocks.base

abbrev placed_past : ReceiveBlocks → ℕ → ℕ → List PlacedBlock
placed_past blocks first last = with_consumed (from_of blocks first) (last + 1 - from_of blocks first) blocks.placed

-- a range above the top
past_above : (blocks : ReceiveBlocks) (first last top now : ℕ) (missing : List Missing) → IsInOrder blocks top missing → IsTakable blocks first last → top < first
    → IsInOrder (record blocks { placed = placed_past blocks first last }) (max top (last + 1)) (with_missing top (first - 1) now missing)
past_above blocks first last top now missing o takes above =
    let from = from_of blocks first in
    let count = last + 1 - from in
    record {
      base = omega (arith, o.base);
      room = omega (arith, o.room, takes.room);
      from = λ n there. elim (added_only top (first - 1) now n missing there) [ inl old ↦ o.from n old | inr row ↦ omega (arith, o.base, row.0) ];
      below = λ n there. elim (added_only top (first - 1) now n missing there) [ inl old ↦ omega (arith, o.below n old) | inr row ↦ omega (arith, row.1, above, takes.some) ];
      absent = λ n there. false_from_ne_true _ (λ taken. elim (consumed_only n from count blocks.placed taken) [
        | inl old ↦ elim (added_only top (first - 1) now n missing there) [
          | inl was ↦ true≢false (sym old ∙ o.absent n was)
          | inr row ↦ omega (arith, o.placed n old, row.0)
        ]
        | inr within ↦ elim (added_only top (first - 1) now n missing there) [
          | inl was ↦ omega (arith, o.below n was, within.0, above)
          | inr row ↦ omega (arith, row.1, within.0, above)
        ]
      ]);
      placed = λ n taken. elim (consumed_only n from count blocks.placed taken) [
        | inl old ↦ omega (arith, o.placed n old)
        | inr within ↦ omega (arith, within.0, within.1, takes.some, takes.not_below)
      ];
      all = λ n low high none. elim (cases_lt n top) [
        | inl below ↦ consumed_keeps n from count blocks.placed (o.all n low below (false_from_ne_true _ (λ there. true≢false (sym (added_keeps top (first - 1) now n missing there) ∙ none))))
        | inr past ↦ elim (cases_lt n first) [
          | inl before ↦ absurd (true≢false (sym (added_has top (first - 1) now n missing past (omega (arith, before, above))) ∙ none))
          | inr here ↦ consumed_has n from count blocks.placed (omega (arith, here, low)) (omega (arith, here, high, above, takes.some, takes.not_below))
        ]
      ];
    }

-- a range that begins at the top or below it
past_below : (blocks : ReceiveBlocks) (first last top : ℕ) (missing : List Missing) → IsInOrder blocks top missing → IsTakable blocks first last → first ≤ top
    → IsInOrder (record blocks { placed = placed_past blocks first last }) (max top (last + 1)) (without_missing first last missing)
past_below blocks first last top missing o takes most =
    let from = from_of blocks first in
    let count = last + 1 - from in
    record {
      base = omega (arith, o.base);
      room = omega (arith, o.room, takes.room);
      from = λ n there. o.from n (taken_only first last n missing there).0;
      below = λ n there. omega (arith, o.below n (taken_only first last n missing there).0);
      absent = λ n there. false_from_ne_true _ (λ taken.
          let was = taken_only first last n missing there in
          elim (consumed_only n from count blocks.placed taken) [
            | inl old ↦ true≢false (sym old ∙ o.absent n was.0)
            | inr within ↦ elim (or_cases (ltb n first) (ltb last n) was.1) [
              | inl before ↦ omega (arith, ltb-true n first before, within.0)
              | inr after ↦ omega (arith, ltb-true last n after, within.0, within.1, takes.some, takes.not_below)
            ]
          ]);
      placed = λ n taken. elim (consumed_only n from count blocks.placed taken) [
        | inl old ↦ omega (arith, o.placed n old)
        | inr within ↦ omega (arith, within.0, within.1, takes.some, takes.not_below)
      ];
      all = λ n low high none. elim (cases_lt n first) [
        | inl before ↦
            consumed_keeps n from count blocks.placed
            (o.all n low (omega (arith, before, most)) (false_from_ne_true _ (λ there.
            true≢false (sym (taken_keeps first last n missing there (or_left (ltb n first) (ltb last n) (lt-ltb n first before))) ∙ none))))
        | inr here ↦ elim (cases_lt last n) [
          | inl after ↦
              consumed_keeps n from count blocks.placed
              (o.all n low (omega (arith, after, high)) (false_from_ne_true _ (λ there.
              true≢false (sym (taken_keeps first last n missing there (or_right (ltb n first) (ltb last n) (lt-ltb last n after))) ∙ none))))
          | inr within ↦ consumed_has n from count blocks.placed (omega (arith, here, low)) (omega (arith, here, low, within, takes.some, takes.not_below))
        ]
      ];
    }

-- a range that a message drop request takes
pub skipped_in_order : (blocks : ReceiveBlocks) (first last top now : ℕ) (missing : List Missing) → IsInOrder blocks top missing → IsTakable blocks first last
    → IsInOrder (after_skip blocks first last) (max top (last + 1)) (missing_past top now first last missing)
skipped_in_order blocks first last top now missing o takes =
    let from = from_of blocks first in
    let count = last + 1 - from in
    begun_in_order blocks (placed_past blocks first last) (given_after blocks from count) (max top (last + 1)) (missing_past top now first last missing)
    (elim (cases_lt top first) [
      | inl above ↦ rw (lt-ltb top first above) (past_above blocks first last top now missing o takes above)
      | inr most ↦ rw (le-ltb top first most) (past_below blocks first last top missing o takes most)
    ])

-- ---- packets that are reported

pub reported_in_order : (blocks : ReceiveBlocks) (top now : ℕ) (ranges : List LostRange) (missing : List Missing) → IsInOrder blocks top missing → IsInOrder blocks top (after_report now ranges missing)
reported_in_order blocks top now ranges missing o = record {
  base = o.base;
  room = o.room;
  from = λ n there. o.from n (sym (reported_same now n ranges missing) ∙ there);
  below = λ n there. o.below n (sym (reported_same now n ranges missing) ∙ there);
  absent = λ n there. o.absent n (sym (reported_same now n ranges missing) ∙ there);
  placed = o.placed;
  all = λ n from to none. o.all n from to (sym (reported_same now n ranges missing) ∙ none);
}

-- ---- nothing yet

pub none_in_order : (payload capacity start : ℕ) → IsInOrder (record { payload = payload; capacity = capacity; base = start; given = 0; placed = [] }) start []
none_in_order payload capacity start = record {
  base = omega arith;
  room = omega arith;
  from = λ n there. absurd (true≢false (sym there));
  below = λ n there. absurd (true≢false (sym there));
  absent = λ n there. refl;
  placed = λ n taken. absurd (true≢false (sym taken));
  all = λ n from to none. absurd (omega (arith, from, to));
}
