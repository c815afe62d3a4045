-- One step of the walk over the parts, in which the next message is found.
use Rattle.std.proofs.Common.{◌≡◌, ℕ, ◌+◌, ◌-◌, ◌^◌, ◌<◌, ◌≤◌, ◌==◌, Bool, true, false, not, cond, ◌&&◌, ◌||◌, List, ◌∷◌, length, take, drop, eqb, Some, None, Option, refl, ap, ◌∙◌, sym, arith, inl, inr, ◌⊎◌}
use Rattle.std.specs.Prelude.{slice_get, All, option_map, IfSome}
use Rattle.std.proofs.lemmas.Bool.{eq-eqb, eqb-true, cases_Bool}
use Rattle.std.proofs.lemmas.List.{length-append, append-nil, take-append-drop}
use Rattle.std.proofs.lemmas.Option.{some_pair_parts, cond_some, same_Some}
use Rattle.udt_model.specs.ReceiveBlocks.{PlacedBlock, WholeMessage, goes_on, up_to_last, may_begin, message_from}
use Rattle.udt_rcv_buffer.specs.declared.head.Head.{Head}
use Rattle.udt_rcv_buffer.specs.declared.messages.Begun.{Begun}
use Rattle.udt_ring.specs.Parts.{Part, joined}
use Rattle.udt_rcv_buffer.specs.PlacedParts.{block_in, placed_from, IsUnused}
use Rattle.udt_rcv_buffer.specs.Messages.{begins, begun_then, message_in, sought, IsBegun}
use Rattle.udt_ring.proofs.TurnLemmas.{slice_get-drop}
use Rattle.udt_ring.proofs.JoinedLemmas.{joined_more, joined-append, joined-take_le}
use Rattle.udt_rcv_buffer.proofs.PlacedLemmas.{placed_from-AreFrom, placed_from-unused}
use Rattle.udt_rcv_buffer.proofs.CopyLemmas.{drop_at_part}
use Rattle.udt_rcv_buffer.proofs.SearchLemmas.{seek, seek-missing, seek-none, seek-ends, seek-goes_on, seek-single, seek-begins, grown_by, first_piece, message_from-consumed, message_from-none}

-- a message that was begun, with its number
unfoldable pub begun_in : ℕ → ℕ → List (Part Head) → Option Begun → Option (WholeMessage × ℕ)
begun_in base place parts begun = option_map (λ (b : Begun). (message_in base b.first (place - b.first) parts, b.number)) begun

pub sought-seek : (base place : ℕ) (gapless : Bool) (begun : Option Begun) (parts : List (Part Head))
    → sought base place gapless begun parts ≡ seek (base + place) gapless (begun_in base place parts begun) (placed_from (base + place) (drop place parts))
unfolding seek begun_in
sought-seek base place gapless None parts = refl
sought-seek base place gapless (Some b) parts = refl

-- the blocks from a part on
blocks_here : (base place : ℕ) (parts : List (Part Head)) (part : Part Head) → slice_get parts place ≡ Some part
    → placed_from (base + place) (drop place parts)
    ≡ cond part.head.used (block_in (base + place) part ∷ placed_from (base + place + 1) (drop (place + 1) parts)) (placed_from (base + place + 1) (drop (place + 1) parts))
unfolding placed_from
blocks_here base place parts part found = rw (drop_at_part parts place part found) refl

later : (base place : ℕ) → base + place + 1 ≡ base + (place + 1)
later base place = omega arith

-- ---- what is begun, as blocks see it

-- the pieces of a message that was begun, with one block more
grown_piece : (base place : ℕ) (parts : List (Part Head)) (part : Part Head) (b : Begun) → slice_get parts place ≡ Some part → b.first ≤ place
    → grown_by (message_in base b.first (place - b.first) parts) part.bytes ≡ message_in base b.first (place + 1 - b.first) parts
unfolding grown_by
grown_piece base place parts part b found le =
    let at : b.first + (place - b.first) ≡ place = omega (arith, le) in
    let there : slice_get (drop b.first parts) (place - b.first) ≡ Some part = slice_get-drop b.first (place - b.first) parts ∙ ap (slice_get parts) at ∙ found in
    let count : place + 1 - b.first ≡ place - b.first + 1 = omega (arith, le) in
    rw (count, joined_more (drop b.first parts) (place - b.first) part there) refl

one_piece : (base place : ℕ) (parts : List (Part Head)) (part : Part Head) → slice_get parts place ≡ Some part
    → first_piece (block_in (base + place) part) ≡ message_in base place (place + 1 - place) parts
unfolding first_piece
one_piece base place parts part found =
    let count : place + 1 - place ≡ 1 = omega arith in
    let bytes : joined (take 1 (drop place parts)) ≡ part.bytes = rw (drop_at_part parts place part found) (append-nil part.bytes) in
    rw (count, bytes) refl

-- whether a block goes on with a message
goes_on_is : (offset number : ℕ) (part : Part Head) (b : Bool) → part.head.consumed ≡ false → eqb part.head.flags.message number ≡ b → goes_on offset number (block_in offset part) ≡ b
goes_on_is offset number part b unconsumed same = rw (eq-eqb offset offset refl, unconsumed, same) refl

goes_on_consumed : (offset number : ℕ) (part : Part Head) → part.head.consumed ≡ true → goes_on offset number (block_in offset part) ≡ false
goes_on_consumed offset number part consumed = rw (eq-eqb offset offset refl, consumed) refl

-- ---- the step

-- what the walk knows once it has passed a part
pub record Passes (base place : ℕ) (gapless : Bool) (begun after : Option Begun) (parts : List (Part Head)) (part : Part Head) : Type 0 where
  -- a message that has its last block is the next one
  pub whole : (b : Begun) → after ≡ Some b → part.head.flags.last ≡ true → sought base place gapless begun parts ≡ Some (message_in base b.first (place + 1 - b.first) parts)
  -- or else the search goes on
  pub goes : part.head.flags.last ≡ false → sought base place gapless begun parts ≡ sought base (place + 1) (gapless && part.head.used) after parts
  pub none : after ≡ None → sought base place gapless begun parts ≡ sought base (place + 1) (gapless && part.head.used) after parts

module _ (base place : ℕ) (gapless : Bool) (parts : List (Part Head)) (part : Part Head) (found : slice_get parts place ≡ Some part) where
  others : List PlacedBlock
  others = placed_from (base + place + 1) (drop (place + 1) parts)

  -- the search from the next part on
  next_is : (begun : Option Begun) (still : Bool) → sought base (place + 1) still begun parts ≡ seek (base + place + 1) still (begun_in base (place + 1) parts begun) others
  unfolding others
  next_is begun still = sought-seek base (place + 1) still begun parts
      ∙ ap (λ (n : ℕ). seek n still (begun_in base (place + 1) parts begun) (placed_from n (drop (place + 1) parts))) (sym (later base place))

  -- the search from here on, where a block is here
  here_is : (begun : Option Begun) → part.head.used ≡ true
      → sought base place gapless begun parts ≡ seek (base + place) gapless (begun_in base place parts begun) (block_in (base + place) part ∷ others)
  unfolding others
  here_is begun used =
      let blocks : placed_from (base + place) (drop place parts) ≡ block_in (base + place) part ∷ placed_from (base + place + 1) (drop (place + 1) parts) = blocks_here base place parts part found ∙ rw used refl in
      sought-seek base place gapless begun parts ∙ ap (seek (base + place) gapless (begun_in base place parts begun)) blocks

  still_is : part.head.used ≡ true → (gapless && part.head.used) ≡ gapless
  still_is used = rw used (and_true gapless)
    where
      and_true : (b : Bool) → (b && true) ≡ b
      and_true true = refl
      and_true false = refl

  -- no block is here
  pub passes_missing : (begun : Option Begun) → part.head.used ≡ false → Passes base place gapless begun None parts part
  unfolding others begun_in
  passes_missing begun unused =
      let still : (gapless && part.head.used) ≡ false = rw unused (and_false gapless) in
      let blocks : placed_from (base + place) (drop place parts) ≡ placed_from (base + place + 1) (drop (place + 1) parts) = blocks_here base place parts part found ∙ rw unused refl in
      let from = placed_from-AreFrom (drop (place + 1) parts) (base + place + 1) in
      let step : sought base place gapless begun parts ≡ sought base (place + 1) (gapless && part.head.used) None parts =
      sought-seek base place gapless begun parts ∙ ap (seek (base + place) gapless (begun_in base place parts begun)) blocks
      ∙ seek-missing (base + place) gapless (begun_in base place parts begun) (placed_from (base + place + 1) (drop (place + 1) parts)) from ∙ rw still (sym (next_is None false)) in
      record { whole = λ b is. absurd cc; goes = λ _. step; none = λ _. step }
    where
      and_false : (b : Bool) → (b && false) ≡ false
      and_false true = refl
      and_false false = refl

  -- the search goes on with nothing begun
  with_none : (begun : Option Begun) → part.head.used ≡ true
      → ((m : WholeMessage) (number : ℕ) → begun_in base place parts begun ≡ Some (m, number) → goes_on (base + place) number (block_in (base + place) part) ≡ false)
      → message_from (base + place) gapless (block_in (base + place) part ∷ others) ≡ message_from (base + place + 1) gapless others
      → Passes base place gapless begun None parts part
  unfolding begun_in
  with_none begun used other next =
      let step : sought base place gapless begun parts ≡ sought base (place + 1) (gapless && part.head.used) None parts =
      here_is begun used ∙ seek-none gapless (begun_in base place parts begun) (block_in (base + place) part) others other next ∙ rw (still_is used) (sym (next_is None gapless)) in
      record { whole = λ b is. absurd cc; goes = λ _. step; none = λ _. step }

  -- a consumed block is here
  pub passes_consumed : (begun : Option Begun) → part.head.used ≡ true → part.head.consumed ≡ true → Passes base place gapless begun None parts part
  passes_consumed begun used consumed =
      with_none begun used (λ m number is. goes_on_consumed (base + place) number part consumed) (message_from-consumed gapless (block_in (base + place) part) others consumed)

  -- a block that goes on with no message that was begun
  not_on : (begun : Option Begun) → part.head.consumed ≡ false → ((b : Begun) → begun ≡ Some b → eqb part.head.flags.message b.number ≡ false)
      → (m : WholeMessage) (number : ℕ) → begun_in base place parts begun ≡ Some (m, number) → goes_on (base + place) number (block_in (base + place) part) ≡ false
  unfolding begun_in
  not_on None unconsumed other m number is = absurd cc
  not_on (Some b) unconsumed other m number is = let same : b.number ≡ number = (some_pair_parts (message_in base b.first (place - b.first) parts) m b.number number is).1 in goes_on_is (base + place) number part false unconsumed (rw same at (other b refl))

  -- with which none may begin either
  pub passes_none : (begun : Option Begun) → part.head.used ≡ true → part.head.consumed ≡ false → ((b : Begun) → begun ≡ Some b → eqb part.head.flags.message b.number ≡ false)
      → may_begin gapless (block_in (base + place) part) ≡ false → Passes base place gapless begun None parts part
  passes_none begun used unconsumed other may =
      with_none begun used (not_on begun unconsumed other) (message_from-none gapless (block_in (base + place) part) others may)

  -- with which one begins
  pub passes_first : (begun : Option Begun) (len : ℕ) → part.head.used ≡ true → part.head.consumed ≡ false → ((b : Begun) → begun ≡ Some b → eqb part.head.flags.message b.number ≡ false)
      → may_begin gapless (block_in (base + place) part) ≡ true
      → Passes base place gapless begun (Some (record { first = place; number = part.head.flags.message; len = len })) parts part
  unfolding begun_in
  passes_first begun len used unconsumed other may =
      let block = block_in (base + place) part in
      let goes : goes_on (base + place) part.head.flags.message block ≡ true = goes_on_is (base + place) part.head.flags.message part true unconsumed (eq-eqb part.head.flags.message part.head.flags.message refl) in
      let piece = one_piece base place parts part found in
      let here = here_is begun used in
      record {
        whole = λ b is last.
            let first : place ≡ b.first = cc in
            here ∙ seek-single gapless (begun_in base place parts begun) block others (not_on begun unconsumed other) may goes last ∙ ap Some piece ∙ rw first refl;
        goes = λ more.
            here ∙ seek-begins gapless (begun_in base place parts begun) block others (not_on begun unconsumed other) may goes more
            ∙ rw (piece, still_is used) (sym (next_is (Some (record { first = place; number = part.head.flags.message; len = len })) gapless));
        none = λ is. absurd cc;
      }

  -- a block that goes on with the message
  pub passes_on : (b : Begun) (len : ℕ) → part.head.used ≡ true → part.head.consumed ≡ false → eqb part.head.flags.message b.number ≡ true → b.first ≤ place
      → Passes base place gapless (Some b) (Some (record { first = b.first; number = b.number; len = len })) parts part
  unfolding begun_in
  passes_on b len used unconsumed same le =
      let block = block_in (base + place) part in
      let m = message_in base b.first (place - b.first) parts in
      let goes : goes_on (base + place) b.number block ≡ true = goes_on_is (base + place) b.number part true unconsumed same in
      let number : part.head.flags.message ≡ b.number = eqb-true part.head.flags.message b.number same in
      let piece = grown_piece base place parts part b found le in
      let here = here_is (Some b) used in
      record {
        whole = λ after is last.
            let first : b.first ≡ after.first = cc in
            here ∙ seek-ends gapless m b.number block others goes last ∙ ap Some piece ∙ rw first refl;
        goes = λ more.
            here ∙ seek-goes_on gapless m b.number block others goes number more
            ∙ rw (piece, still_is used) (sym (next_is (Some (record { first = b.first; number = b.number; len = len })) gapless));
        none = λ is. absurd cc;
      }

  -- whether a message begins here
  begins_is : (len : ℕ) → part.head.used ≡ true → part.head.consumed ≡ false
      → begins part.head place len (gapless && part.head.used)
      ≡ cond (may_begin gapless (block_in (base + place) part)) (Some (record { first = place; number = part.head.flags.message; len = len })) None
  begins_is len used unconsumed = rw (still_is used, used, unconsumed) refl

  passes_begin : (begun : Option Begun) (len : ℕ) → part.head.used ≡ true → part.head.consumed ≡ false → ((b : Begun) → begun ≡ Some b → eqb part.head.flags.message b.number ≡ false)
      → Passes base place gapless begun (begins part.head place len (gapless && part.head.used)) parts part
  passes_begin begun len used unconsumed other =
      rw (begins_is len used unconsumed) (elim (cases_Bool (may_begin gapless (block_in (base + place) part))) [
        | inl may ↦ rw may (passes_first begun len used unconsumed other may)
        | inr not_may ↦ rw not_may (passes_none begun used unconsumed other not_may)
      ])

  -- nothing begins or goes on with a block that isn't there, or is consumed
  not_begun : (begun : Option Begun) (len : ℕ) → (part.head.used && not part.head.consumed) ≡ false → begun_then begun part.head place len (gapless && part.head.used) ≡ None
  not_begun None len gone = rw gone refl
  not_begun (Some b) len gone = rw gone refl

  passes_block : (begun : Option Begun) (len : ℕ) → ((b : Begun) → begun ≡ Some b → b.first ≤ place) → part.head.used ≡ true → part.head.consumed ≡ false
      → Passes base place gapless begun (begun_then begun part.head place len (gapless && part.head.used)) parts part
  passes_block None len within used unconsumed = passes_begin None len used unconsumed (λ b is. absurd cc)
  passes_block (Some b) len within used unconsumed = elim (cases_Bool (eqb part.head.flags.message b.number)) [
    | inl same ↦
        let goes : (part.head.used && not part.head.consumed && part.head.flags.message == b.number) ≡ true = rw (used, unconsumed, same) refl in
        rw goes (passes_on b (b.len + len) used unconsumed same (within b refl))
    | inr other ↦
        let goes : (part.head.used && not part.head.consumed && part.head.flags.message == b.number) ≡ false = rw (used, unconsumed, other) refl in
        rw goes (passes_begin (Some b) len used unconsumed (λ a is. let same : b.number ≡ a.number = cc in rw (← same) other))
  ]

  -- whatever is here, the walk passes it
  pub passes : (begun : Option Begun) (len : ℕ) → ((b : Begun) → begun ≡ Some b → b.first ≤ place)
      → Passes base place gapless begun (begun_then begun part.head place len (gapless && part.head.used)) parts part
  passes begun len within = elim (cases_Bool part.head.used) [
    | inl used ↦ elim (cases_Bool part.head.consumed) [
      | inl consumed ↦ rw (not_begun begun len (rw (used, consumed) refl)) (passes_consumed begun used consumed)
      | inr unconsumed ↦ passes_block begun len within used unconsumed
    ]
    | inr unused ↦ rw (not_begun begun len (rw unused refl)) (passes_missing begun unused)
  ]

-- ---- what the walk counts

-- the bytes of a message that was begun, with those of one part more
pub begun_more : (parts : List (Part Head)) (place : ℕ) (part : Part Head) (b : Begun) → IsBegun place parts b → slice_get parts place ≡ Some part
    → b.len + length part.bytes ≡ length (joined (take (place + 1 - b.first) (drop b.first parts)))
begun_more parts place part b begun found =
    let at : b.first + (place - b.first) ≡ place = omega (arith, begun.first) in
    let there : slice_get (drop b.first parts) (place - b.first) ≡ Some part = slice_get-drop b.first (place - b.first) parts ∙ ap (slice_get parts) at ∙ found in
    let count : place + 1 - b.first ≡ place - b.first + 1 = omega (arith, begun.first) in
    rw (count, joined_more (drop b.first parts) (place - b.first) part there) (omega (arith, begun.len, length-append (joined (take (place - b.first) (drop b.first parts))) part.bytes))

-- they can be counted
pub begun_fits : (parts : List (Part Head)) (place : ℕ) (part : Part Head) (begun : Option Begun) → ((b : Begun) → begun ≡ Some b → IsBegun place parts b) → slice_get parts place ≡ Some part
    → length (joined parts) < 2 ^ 64 → IfSome begun (λ b. b.len + length part.bytes < 2 ^ 64)
begun_fits parts place part None is found fits = tt
begun_fits parts place part (Some b) is found fits =
    let more = begun_more parts place part b (is b refl) found in
    let some = joined-take_le (place + 1 - b.first) (drop b.first parts) in
    let all = ap (λ (ps : List (Part Head)). length (joined ps)) (take-append-drop b.first parts) in
    let both = ap (λ (bs : List ℕ). length bs) (joined-append (take b.first parts) (drop b.first parts)) in
    omega (arith, more, some, all, both, fits, length-append (joined (take b.first parts)) (joined (drop b.first parts)))

-- and what is begun then is counted too
begins_counted : (parts : List (Part Head)) (place : ℕ) (part : Part Head) (gapless : Bool) (after : Begun) → slice_get parts place ≡ Some part
    → begins part.head place (length part.bytes) gapless ≡ Some after → IsBegun (place + 1) parts after
begins_counted parts place part gapless after found is =
    let picked = cond_some (part.head.used && not part.head.consumed && part.head.flags.first && (not part.head.flags.order || gapless)) (record { first = place; number = part.head.flags.message; len = length part.bytes }) after is in
    let first : place ≡ after.first = ap (λ (b : Begun). b.first) picked.1 in
    let len : length part.bytes ≡ after.len = ap (λ (b : Begun). b.len) picked.1 in
    let count : place + 1 - place ≡ 1 = omega arith in
    let bytes : joined (take (place + 1 - place) (drop place parts)) ≡ part.bytes = rw (count, drop_at_part parts place part found) (append-nil part.bytes) in
    record { first = omega (arith, first); len = rw (← first, bytes) (sym len) }

pub counted : (parts : List (Part Head)) (place : ℕ) (part : Part Head) (gapless : Bool) (begun : Option Begun) → ((b : Begun) → begun ≡ Some b → IsBegun place parts b) → slice_get parts place ≡ Some part
    → (after : Begun) → begun_then begun part.head place (length part.bytes) gapless ≡ Some after → IsBegun (place + 1) parts after
counted parts place part gapless None is found after then = begins_counted parts place part gapless after found then
counted parts place part gapless (Some b) is found after then =
    elim (cases_Bool (part.head.used && not part.head.consumed && part.head.flags.message == b.number)) [
      | inl goes ↦
          let same : ◌≡◌ {A = Option Begun} (Some (record { first = b.first; number = b.number; len = b.len + length part.bytes })) (Some after) = rw goes at then in
          let same' = same_Some (record { first = b.first; number = b.number; len = b.len + length part.bytes }) after same in
          let first : b.first ≡ after.first = ap (λ (a : Begun). a.first) same' in
          let len : b.len + length part.bytes ≡ after.len = ap (λ (a : Begun). a.len) same' in
          let before = is b refl in
          let le = before.first in
          record { first = omega (arith, first, le); len = rw (← first) (sym len ∙ begun_more parts place part b before found) }
      | inr not_goes ↦ begins_counted parts place part gapless after found (rw not_goes at then)
    ]

-- ---- whether a message ends

pub ended_some : (last : Bool) (begun : Option Begun) (b : Begun) → cond last begun None ≡ Some b → (last ≡ true) × (begun ≡ Some b)
ended_some true begun b is = (refl, is)
ended_some false begun b is = absurd cc

pub ended_none : (last : Bool) (begun : Option Begun) → cond last begun None ≡ None → (last ≡ false) ⊎ (begun ≡ None)
ended_none true begun is = inr is
ended_none false begun is = inl refl

-- ---- the end

-- after the last part that is used nothing is found
pub sought-past : (base place : ℕ) (gapless : Bool) (begun : Option Begun) (parts : List (Part Head)) → All IsUnused (drop place parts) → sought base place gapless begun parts ≡ None
unfolding message_from up_to_last
sought-past base place gapless None parts unused = rw (placed_from-unused (drop place parts) (base + place) unused) refl
sought-past base place gapless (Some b) parts unused = rw (placed_from-unused (drop place parts) (base + place) unused) refl
