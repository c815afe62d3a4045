-- What the base passes.
use Rattle.std.proofs.Common.{◌≡◌, ℕ, zero, suc, ◌+◌, ◌-◌, ◌<◌, ◌≤◌, Bool, true, false, eqb, leb, ◌&&◌, ◌||◌, ltb, List, [], ◌∷◌, ◌++◌, length, max, Some, None, Option, refl, ap, ◌∙◌, arith, inl, inr}
use Rattle.std.proofs.lemmas.Bool.{cases_lt, cases_Bool, eqb-true, ne_eqb, and_parts, le-leb, or_left, or_right}
use Rattle.std.proofs.lemmas.List.Folds.{list_any-append}
use Rattle.udt_model.specs.declared.packets.Flags.{Flags}
use Rattle.udt_model.specs.declared.answers.Placed.{Placed}
use Rattle.udt_model.specs.declared.answers.Placed.TheVariants as placing
use Rattle.udt_model.specs.ReceiveBlocks.{PlacedBlock, ReceiveBlocks, WholeMessage, is_taken, placing_of, arrived_at, after_place, after_placing_of, beginning, after_bytes, put_block, consumed_at, with_consumed, given_after, after_consuming, after_skip, after_found, after_read_message, next_message}
use Rattle.udt_rcv_buffer.specs.Whole.{IsRun, Ends, Goes}
use Rattle.udt_rcv_buffer.specs.Moves.{BaseMoves, none, range_of}
use Rattle.udt_rcv_buffer.proofs.WholeLemmas.{shown_is_whole, taken_here, taken_later}

-- the base moves on
beginning_later : (blocks : List PlacedBlock) (base given : ℕ) → base ≤ (beginning base given blocks).base
unfolding beginning
beginning_later [] base given = omega arith
beginning_later (block ∷ others) base given = elim (cases_Bool (eqb block.offset base && leb (length block.bytes) given)) [
  | inl passed ↦ rw passed (omega (arith, beginning_later others (base + 1) (given - length block.bytes)))
  | inr stays ↦ rw stays (omega arith)
]

-- where it does, there was a block at each offset
beginning_taken : (n : ℕ) (blocks : List PlacedBlock) (base given : ℕ) → base ≤ n → n < (beginning base given blocks).base → is_taken n blocks ≡ true
unfolding beginning
beginning_taken n [] base given from to = absurd (omega arith)
beginning_taken n (block ∷ others) base given from to = elim (cases_Bool (eqb block.offset base && leb (length block.bytes) given)) [
  | inl passed ↦
      let at : block.offset ≡ base = eqb-true block.offset base (and_parts (eqb block.offset base) (leb (length block.bytes) given) passed).0 in
      let to' = rw passed at to in
      elim (cases_lt base n) [
        | inl above ↦ taken_later n block others (beginning_taken n others (base + 1) (given - length block.bytes) (omega (arith, above)) to')
        | inr here ↦ taken_here block others n (omega (arith, at, here, from))
      ]
  | inr stays ↦ let to' = rw stays at to in absurd (omega (arith, from, to'))
]

or_of : (a b c : Bool) → (b ≡ true → c ≡ true) → (a || b) ≡ true → (a || c) ≡ true
or_of true b c h on = refl
or_of false b c h on = h on

-- a block more takes its own offset and no other
put_taken_only : (n : ℕ) (block : PlacedBlock) (blocks : List PlacedBlock) → is_taken n (put_block block blocks) ≡ true → (block.offset ≡ n → ⊥) → is_taken n blocks ≡ true
unfolding put_block
put_taken_only n block [] h differs = rw (ne_eqb block.offset n differs) at h
put_taken_only n block (first ∷ others) h differs = elim (cases_Bool (ltb block.offset first.offset)) [
  | inl before ↦ let h' = rw before at h in rw (ne_eqb block.offset n differs) at h'
  | inr after ↦ elim (cases_Bool (eqb block.offset first.offset)) [
    | inl same ↦ let h' = rw (after, same) at h in taken_later n first others (rw (ne_eqb block.offset n differs) at h')
    | inr apart ↦
        let h' = rw (after, apart) at h in
        or_of (eqb first.offset n) (is_taken n (put_block block others)) (is_taken n others) (λ k. put_taken_only n block others k differs) h'
  ]
]

-- so do offsets that are consumed
consumed_taken_only : (n from count : ℕ) (blocks : List PlacedBlock) → is_taken n (with_consumed from count blocks) ≡ true → (from ≤ n → n < from + count → ⊥) → is_taken n blocks ≡ true
unfolding with_consumed
consumed_taken_only n from zero blocks h out = h
consumed_taken_only n from (suc count) blocks h out =
    consumed_taken_only n from count blocks
    (put_taken_only n (consumed_at (from + count)) (with_consumed from count blocks) h (λ same. out (omega (arith, same)) (omega (arith, same))))
    (λ le lt. out le (omega (arith, lt)))

-- each offset of a run is taken by its block
run_taken : (number offset : ℕ) (blocks : List PlacedBlock) → IsRun number offset blocks → (n : ℕ) → offset ≤ n → n < offset + length blocks → is_taken n blocks ≡ true
run_taken number _ _ (Ends block _ _ _) n from to = taken_here block [] n (omega (arith, from, to))
run_taken number _ _ (Goes block others _ _ _ run) n from to = elim (cases_lt block.offset n) [
  | inl above ↦ taken_later n block others (run_taken number (block.offset + 1) others run n (omega (arith, above)) (omega (arith, to)))
  | inr here ↦ taken_here block others n (omega (arith, here, from))
]

message_taken : (r : ReceiveBlocks) (m : WholeMessage) → next_message r ≡ Some m → (n : ℕ) → m.first ≤ n → n < m.first + m.count → is_taken n r.placed ≡ true
message_taken r m is n from to =
    let w = shown_is_whole r m is in
    let own = run_taken w.first.flags.message m.first (w.first ∷ w.others) w.run n from (omega (arith, to, w.count)) in
    let test : PlacedBlock → Bool = λ block. eqb block.offset n in
    ap (is_taken n) w.placed
    ∙ list_any-append test w.before (w.first ∷ w.others ++ w.after)
    ∙ or_right (is_taken n w.before) (is_taken n (w.first ∷ w.others ++ w.after))
    (list_any-append test (w.first ∷ w.others) w.after ∙ or_left (is_taken n (w.first ∷ w.others)) (is_taken n w.after) own)

stays : (passes : ℕ → Bool) (old new : ReceiveBlocks) → new.base ≡ old.base → BaseMoves passes old new
stays passes old new same = record { later = omega (arith, same); passed = λ n from to. absurd (omega (arith, from, to, same)) }

-- a block that is placed
place_stays : (r : ReceiveBlocks) (block : PlacedBlock) (p : Placed) → (after_placing_of r block p).base ≡ r.base
place_stays r block placing.New = refl
place_stays r block placing.Below = refl
place_stays r block placing.Above = refl
place_stays r block placing.Double = refl

pub place_moves : (r : ReceiveBlocks) (offset : ℕ) (flags : Flags) (bytes : List ℕ) → BaseMoves none r (after_place r offset flags bytes)
unfolding after_place
place_moves r offset flags bytes = stays none r _ (place_stays r (arrived_at offset flags bytes) (placing_of r offset))

-- bytes that are read
pub read_moves : (r : ReceiveBlocks) (count : ℕ) → BaseMoves none r (after_bytes r count)
read_moves r count = record {
  later = beginning_later r.placed r.base (r.given + count);
  passed = λ n from to. or_left (is_taken n r.placed) false (beginning_taken n r.placed r.base (r.given + count) from to);
}

-- offsets that are consumed
consuming_moves : (passes : ℕ → Bool) (r : ReceiveBlocks) (first count : ℕ) → ((n : ℕ) → first ≤ n → n < first + count → (is_taken n r.placed || passes n) ≡ true) → BaseMoves passes r (after_consuming r first count)
consuming_moves passes r first count may = record {
  later = beginning_later (with_consumed first count r.placed) r.base (given_after r first count);
  passed = λ n from to.
      let taken = beginning_taken n (with_consumed first count r.placed) r.base (given_after r first count) from to in
      elim (cases_lt n first) [
        | inl below ↦ or_left (is_taken n r.placed) (passes n) (consumed_taken_only n first count r.placed taken (λ le lt. omega (arith, le, below)))
        | inr above ↦ elim (cases_lt n (first + count)) [
          | inl within ↦ may n above within
          | inr past ↦ or_left (is_taken n r.placed) (passes n) (consumed_taken_only n first count r.placed taken (λ le lt. omega (arith, lt, past)))
        ]
      ];
}

found_moves : (r : ReceiveBlocks) (room : ℕ) (found : Option WholeMessage) → next_message r ≡ found → BaseMoves none r (after_found r room found)
found_moves r room None is = stays none r r refl
found_moves r room (Some m) is = elim (cases_Bool (leb (length m.bytes) room)) [
  | inl fits ↦ rw fits (consuming_moves none r m.first m.count (λ n from to. or_left (is_taken n r.placed) false (message_taken r m is n from to)))
  | inr large ↦ rw large (stays none r r refl)
]

pub message_moves : (r : ReceiveBlocks) (room : ℕ) → BaseMoves none r (after_read_message r room)
message_moves r room = found_moves r room (next_message r) refl

pub skip_moves : (r : ReceiveBlocks) (first last : ℕ) → BaseMoves (range_of first last) r (after_skip r first last)
skip_moves r first last =
    consuming_moves (range_of first last) r (max first r.base) (last + 1 - max first r.base) (λ n from to.
    let low : first ≤ n = omega (arith, from) in
    let high : n ≤ last = omega (arith, from, to) in
    or_right (is_taken n r.placed) (range_of first last n) (rw (le-leb first n low, le-leb n last high) refl))
