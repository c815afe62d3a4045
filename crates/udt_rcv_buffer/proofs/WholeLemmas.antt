-- A message that is shown is whole.
use Rattle.std.proofs.Common.{◌≡◌, ℕ, suc, ◌+◌, ◌<◌, ◌≤◌, Bool, true, false, not, cond, ◌&&◌, ◌||◌, List, [], ◌∷◌, ◌++◌, length, eqb, Some, None, Option, refl, ap, ◌∙◌, sym, subst, arith, inl, inr}
use Rattle.std.specs.Prelude.{flat_map, option_map}
use Rattle.std.specs.Option.{option_or}
use Rattle.std.proofs.lemmas.Bool.{cases_Bool, and_parts, eqb-true, eq-eqb, cases_lt, false≢true}
use Rattle.std.proofs.lemmas.List.{append-nil}
use Rattle.std.proofs.lemmas.Option.{same_Some}
use Rattle.udt_model.specs.ReceiveBlocks.{PlacedBlock, WholeMessage, is_taken, goes_on, with_first, up_to_last, may_begin, message_from}
use Rattle.udt_rcv_buffer.specs.Whole.{IsRun, Ends, Goes, ShownIsWhole}

-- a message that goes up to a last block, by its blocks
record FromRun (offset number : ℕ) (block : PlacedBlock) (others : List PlacedBlock) (m : WholeMessage) : Type 0 where
  rest : List PlacedBlock
  after : List PlacedBlock
  blocks : others ≡ rest ++ after
  run : IsRun number offset (block ∷ rest)
  first : m.first ≡ offset
  count : m.count ≡ suc (length rest)
  bytes : m.bytes ≡ block.bytes ++ flat_map (λ (b : PlacedBlock). b.bytes) rest

not_true : (b : Bool) → not b ≡ true → b ≡ false
not_true true h = absurd (false≢true h)
not_true false h = refl

-- one block more, in front of the others
run_more : (offset number : ℕ) (block next : PlacedBlock) (others : List PlacedBlock) (m : WholeMessage) (found : Option WholeMessage)
    → ((w : WholeMessage) → found ≡ Some w → FromRun (offset + 1) number next others w) → option_map (with_first block) found ≡ Some m
    → block.offset ≡ offset → block.consumed ≡ false → block.flags.message ≡ number → block.flags.last ≡ false → FromRun offset number block (next ∷ others) m
run_more offset number block next others m None later is at unconsumed same more = absurd cc
run_more offset number block next others m (Some w) later is at unconsumed same more =
    let rest = later w refl in
    let same_m = same_Some (with_first block w) m is in
    record {
      rest = next ∷ rest.rest;
      after = rest.after;
      blocks = ap (λ (bs : List PlacedBlock). next ∷ bs) rest.blocks;
      run = rw (← at) (Goes block (next ∷ rest.rest) unconsumed same more (rw at rest.run));
      first = sym (ap (λ (x : WholeMessage). x.first) same_m) ∙ at;
      count = let c = ap (λ (x : WholeMessage). x.count) same_m in omega (arith, c, rest.count);
      bytes = sym (ap (λ (x : WholeMessage). x.bytes) same_m) ∙ ap (λ (bs : List ℕ). block.bytes ++ bs) rest.bytes;
    }

-- a block that ends the message, or goes on
run_by : (offset number : ℕ) (block : PlacedBlock) (others : List PlacedBlock) (m : WholeMessage)
    → (option_map (with_first block) (up_to_last (offset + 1) number others) ≡ Some m → block.offset ≡ offset → block.consumed ≡ false → block.flags.message ≡ number → block.flags.last ≡ false → FromRun offset number block others m)
    → up_to_last offset number (block ∷ others) ≡ Some m → FromRun offset number block others m
unfolding up_to_last
run_by offset number block others m on is = elim (cases_Bool (goes_on offset number block)) [
  | inr stops ↦ let none : ◌≡◌ {A = Option WholeMessage} None (Some m) = rw stops at is in absurd cc
  | inl goes ↦
      let here = and_parts (eqb block.offset offset) (not block.consumed && eqb block.flags.message number) goes in
      let parts = and_parts (not block.consumed) (eqb block.flags.message number) here.1 in
      let at : block.offset ≡ offset = eqb-true block.offset offset here.0 in
      let unconsumed = not_true block.consumed parts.0 in
      let same : block.flags.message ≡ number = eqb-true block.flags.message number parts.1 in
      elim (cases_Bool block.flags.last) [
        | inl last ↦
            let found : ◌≡◌ {A = Option WholeMessage} (Some (record { first = offset; count = 1; bytes = block.bytes })) (Some m) = rw (goes, last) at is in
            let e = same_Some (record { first = offset; count = 1; bytes = block.bytes }) m found in
            record {
              rest = [];
              after = others;
              blocks = refl;
              run = rw (← at) (Ends block unconsumed same last);
              first = sym (ap (λ (w : WholeMessage). w.first) e);
              count = sym (ap (λ (w : WholeMessage). w.count) e);
              bytes = sym (ap (λ (w : WholeMessage). w.bytes) e) ∙ sym (append-nil block.bytes);
            }
        | inr more ↦ on (rw (goes, more) at is) at unconsumed same more
      ]
]

from_run : (offset number : ℕ) (block : PlacedBlock) (others : List PlacedBlock) (m : WholeMessage) → up_to_last offset number (block ∷ others) ≡ Some m → FromRun offset number block others m
unfolding up_to_last
from_run offset number block [] m is = run_by offset number block [] m (λ none at unconsumed same more. absurd cc) is
from_run offset number block (next ∷ others) m is =
    run_by offset number block (next ∷ others) m
    (run_more offset number block next others m (up_to_last (offset + 1) number (next ∷ others)) (λ w e. from_run (offset + 1) number next others w e)) is

-- the message that is found among some blocks
record Picks (offset : ℕ) (gapless : Bool) (blocks : List PlacedBlock) (m : WholeMessage) : Type 0 where
  before : List PlacedBlock
  first : PlacedBlock
  others : List PlacedBlock
  after : List PlacedBlock
  placed : blocks ≡ before ++ (first ∷ others ++ after)
  begins : first.flags.first ≡ true
  run : IsRun first.flags.message m.first (first ∷ others)
  count : m.count ≡ length (first ∷ others)
  bytes : m.bytes ≡ flat_map (λ (b : PlacedBlock). b.bytes) (first ∷ others)
  gapless_so_far : first.flags.order ≡ true → gapless ≡ true
  in_order : first.flags.order ≡ true → (n : ℕ) → offset ≤ n → n < m.first → is_taken n blocks ≡ true

pub taken_later : (n : ℕ) (block : PlacedBlock) (others : List PlacedBlock) → is_taken n others ≡ true → is_taken n (block ∷ others) ≡ true
taken_later n block others taken = rw taken (or_true (eqb block.offset n))
  where
    or_true : (b : Bool) → (b || true) ≡ true
    or_true true = refl
    or_true false = refl

pub taken_here : (block : PlacedBlock) (others : List PlacedBlock) (n : ℕ) → block.offset ≡ n → is_taken n (block ∷ others) ≡ true
taken_here block others n at = rw (eq-eqb block.offset n at) refl

-- it is among the later blocks
picks_later : (offset : ℕ) (gapless : Bool) (block : PlacedBlock) (others : List PlacedBlock) (m : WholeMessage) → Picks (block.offset + 1) (gapless && eqb block.offset offset) others m → Picks offset gapless (block ∷ others) m
picks_later offset gapless block others m p = record {
  before = block ∷ p.before;
  first = p.first;
  others = p.others;
  after = p.after;
  placed = ap (λ (bs : List PlacedBlock). block ∷ bs) p.placed;
  begins = p.begins;
  run = p.run;
  count = p.count;
  bytes = p.bytes;
  gapless_so_far = λ order. (and_parts gapless (eqb block.offset offset) (p.gapless_so_far order)).0;
  in_order = λ order n from to.
      let at : block.offset ≡ offset = eqb-true block.offset offset (and_parts gapless (eqb block.offset offset) (p.gapless_so_far order)).1 in
      elim (cases_lt offset n) [
        | inl above ↦ taken_later n block others (p.in_order order n (omega (arith, at, above)) to)
        | inr here ↦ taken_here block others n (omega (arith, at, here, from))
      ];
}

-- it begins with the first block
picks_here : (offset : ℕ) (gapless : Bool) (block : PlacedBlock) (others : List PlacedBlock) (m : WholeMessage)
    → up_to_last block.offset block.flags.message (block ∷ others) ≡ Some m → may_begin (gapless && eqb block.offset offset) block ≡ true → Picks offset gapless (block ∷ others) m
picks_here offset gapless block others m found begun =
    let run = from_run block.offset block.flags.message block others m found in
    let parts = and_parts block.flags.first (not block.flags.order || (gapless && eqb block.offset offset)) begun in
    let still : block.flags.order ≡ true → (gapless && eqb block.offset offset) ≡ true = λ order. rw order at parts.1 in
    record {
      before = [];
      first = block;
      others = run.rest;
      after = run.after;
      placed = ap (λ (bs : List PlacedBlock). block ∷ bs) run.blocks;
      begins = parts.0;
      run = subst (λ (n : ℕ). IsRun block.flags.message n (block ∷ run.rest)) (sym run.first) run.run;
      count = run.count;
      bytes = run.bytes;
      gapless_so_far = λ order. (and_parts gapless (eqb block.offset offset) (still order)).0;
      in_order = λ order n from to.
          let at : block.offset ≡ offset = eqb-true block.offset offset (and_parts gapless (eqb block.offset offset) (still order)).1 in
          absurd (omega (arith, at, from, to, run.first));
    }

picks_by : (offset : ℕ) (gapless : Bool) (block : PlacedBlock) (others : List PlacedBlock) (m : WholeMessage) (found : Option WholeMessage)
    → up_to_last block.offset block.flags.message (block ∷ others) ≡ found
    → (message_from (block.offset + 1) (gapless && eqb block.offset offset) others ≡ Some m → Picks (block.offset + 1) (gapless && eqb block.offset offset) others m)
    → option_or (cond (may_begin (gapless && eqb block.offset offset) block) found None) (message_from (block.offset + 1) (gapless && eqb block.offset offset) others) ≡ Some m
    → Picks offset gapless (block ∷ others) m
picks_by offset gapless block others m None e later is =
    elim (cases_Bool (may_begin (gapless && eqb block.offset offset) block)) [
      | inl begun ↦ picks_later offset gapless block others m (later (rw begun at is))
      | inr not_begun ↦ picks_later offset gapless block others m (later (rw not_begun at is))
    ]
picks_by offset gapless block others m (Some w) e later is =
    elim (cases_Bool (may_begin (gapless && eqb block.offset offset) block)) [
      | inl begun ↦
          let here : ◌≡◌ {A = Option WholeMessage} (Some w) (Some m) = rw begun at is in
          picks_here offset gapless block others m (e ∙ here) begun
      | inr not_begun ↦ picks_later offset gapless block others m (later (rw not_begun at is))
    ]

picks : (offset : ℕ) (gapless : Bool) (blocks : List PlacedBlock) (m : WholeMessage) → message_from offset gapless blocks ≡ Some m → Picks offset gapless blocks m
unfolding message_from
picks offset gapless [] m is = absurd cc
picks offset gapless (block ∷ others) m is =
    picks_by offset gapless block others m (up_to_last block.offset block.flags.message (block ∷ others)) refl (λ e. picks (block.offset + 1) (gapless && eqb block.offset offset) others m e) is

pub shown_is_whole : ShownIsWhole
shown_is_whole r m is =
    let p = picks r.base true r.placed m is in
    record {
      before = p.before;
      first = p.first;
      others = p.others;
      after = p.after;
      placed = p.placed;
      begins = p.begins;
      run = p.run;
      count = p.count;
      bytes = p.bytes;
      in_order = p.in_order;
    }
