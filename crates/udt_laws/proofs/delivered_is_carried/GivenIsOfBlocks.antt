-- What a receiving half keeps true of the bytes that it gave: they are a front of its blocks joined, and each block
-- meets what every placed one met.
use Rattle.std.proofs.Common.{◌≡◌, ℕ, ◌+◌, ◌≤◌, true, false, List, [], ◌++◌, length, take, drop, Some, None, Ok, Err, refl, ap, ◌∙◌, sym, subst, arith}
use Rattle.std.specs.Prelude.{Option, ◌==◌, if◌then◌else◌}
use Rattle.std.specs.List.{concat}
use Rattle.std.proofs.lemmas.Bool.{eqb-true}
use Rattle.std.proofs.lemmas.List.{append_assoc, length-append, length-take, length-drop, take-append-le, take_min, take-append-drop, nil_from_length}
use Rattle.std.proofs.Math.Seq.{take-add}
use Rattle.udt_model.specs.declared.answers.Placed.{Placed}
use Rattle.udt_model.specs.declared.answers.Placed.TheVariants as placing
use Rattle.udt_model.specs.declared.answers.Refusal.{Refusal}
use Rattle.udt_model.specs.declared.packets.Flags.{Flags}
use Rattle.udt_model.specs.Calls.{received_by, answer_with}
use Rattle.udt_model.specs.Emissions.{IsPrefix}
use Rattle.udt_model.specs.Events.{Received}
use Rattle.udt_model.specs.History.{given_by}
use Rattle.udt_model.specs.Numbers.{near}
use Rattle.udt_model.specs.ReceiveBlocks.{PlacedBlock, ReceiveBlocks, put_block, bytes_from, waiting_of, beginning, arrived_at, placing_of, after_placing_of, after_place, after_bytes}
use Rattle.udt_model.specs.ReceiveHalf.{Receiving, offset_of, placing_at, measured, after_placing, after_block, after_receive}
use Rattle.udt_model.proofs.ReceivingLemmas.{AreRising, AreApart, AllPlaced, AllFrom, AreRising-put_block, AllPlaced-put_block, bytes_from-put_block, offset_of-some, placing-new, AllFrom-append, concat-append, following_blocks, beginning-reads}

-- the half has consumed these blocks, and given the bytes of them and of a part of those that follow
pub record Kept (P : ℕ → List ℕ → Type 0) (start : ℕ) (b : ReceiveBlocks) (got : List ℕ) : Type 0 where
  pub done : List (List ℕ)
  pub count : b.base ≡ start + length done
  pub each : AllFrom P start done
  pub rising : AreRising b.base b.placed
  pub all : AllPlaced P b.placed
  pub within : b.given ≤ length (bytes_from b.base b.placed)
  pub got_is : got ≡ concat done ++ take b.given (bytes_from b.base b.placed)

-- what was given is a front of blocks that all meet what is asked
pub record IsPrefixOf (P : ℕ → List ℕ → Type 0) (start : ℕ) (got : List ℕ) : Type 0 where
  pub blocks : List (List ℕ)
  pub each : AllFrom P start blocks
  pub front : IsPrefix got (concat blocks)

module _ (P : ℕ → List ℕ → Type 0) (start : ℕ) where
  -- reading goes on where the half stopped
  pub keep-read : (b : ReceiveBlocks) (got : List ℕ) (count : ℕ) → count ≤ length (waiting_of b)
      → Kept P start b got → Kept P start (after_bytes b count) (got ++ take count (waiting_of b))
  keep-read b got count fits kept =
      let joined = bytes_from b.base b.placed in
      let bound : b.given + count ≤ length joined = omega (arith, kept.within, length-drop b.given joined) in
      let read = beginning-reads P b.base (b.given + count) b.placed kept.rising kept.all bound in
      let front = beginning b.base (b.given + count) b.placed in
      record {
        done = kept.done ++ read.blocks;
        count = omega (arith, kept.count, read.count, length-append kept.done read.blocks);
        each = AllFrom-append P start kept.done read.blocks kept.each (subst (λ offset. AllFrom P offset read.blocks) kept.count read.each);
        rising = read.rising;
        all = read.all;
        within = read.within;
        got_is =
            ap (λ (bytes : List ℕ). bytes ++ take count (waiting_of b)) kept.got_is
            ∙ append_assoc (concat kept.done) (take b.given joined) (take count (waiting_of b))
            ∙ ap (λ (bytes : List ℕ). concat kept.done ++ bytes) (sym (take-add b.given count joined) ∙ read.same)
            ∙ sym (append_assoc (concat kept.done) (concat read.blocks) (take front.given (bytes_from front.base front.placed)))
            ∙ ap (λ (bytes : List ℕ). bytes ++ take front.given (bytes_from front.base front.placed)) (sym (concat-append kept.done read.blocks));
      }

  -- what a receive answers are the bytes that it gives
  given-answer : (why : Refusal) (room : ℕ) (bytes : List ℕ) → (room ≡ 0 → bytes ≡ []) → given_by (Received (answer_with why room bytes)) ≡ bytes
  given-answer why room bytes none =
      elim (room == 0) as (λ full. (room == 0) ≡ full
      → given_by (Received (if full then Ok [] else (if length bytes == 0 then Err why else Ok bytes))) ≡ bytes) [
        | true ↦ λ test. sym (none (eqb-true room 0 test))
        | false ↦ λ test. elim (length bytes == 0) as (λ empty. (length bytes == 0) ≡ empty
            → given_by (Received (if empty then Err why else Ok bytes)) ≡ bytes) [
              | true ↦ λ same. sym (nil_from_length bytes (eqb-true (length bytes) 0 same))
              | false ↦ λ some. refl
            ] refl
      ] refl

  pub keep-receive : (r : Receiving) (got : List ℕ) (room : ℕ) (why : Refusal) → Kept P start r.blocks got
      → Kept P start (after_receive r (length (received_by r room))).blocks (got ++ given_by (Received (answer_with why room (received_by r room))))
  keep-receive r got room why kept =
      let bytes = received_by r room in
      let fits : length bytes ≤ length (waiting_of r.blocks) = omega (arith, length-take room (waiting_of r.blocks)) in
      let same : take (length bytes) (waiting_of r.blocks) ≡ bytes =
      ap (λ n. take n (waiting_of r.blocks)) (length-take room (waiting_of r.blocks)) ∙ (take_min room (waiting_of r.blocks)) in
      let none : room ≡ 0 → bytes ≡ [] = λ full. ap (λ n. take n (waiting_of r.blocks)) full in
      subst (λ given. Kept P start (after_bytes r.blocks (length bytes)) (got ++ given))
      (same ∙ sym (given-answer why room bytes none))
      (keep-read r.blocks got (length bytes) fits kept)

  -- placing a block changes nothing of what follows from the base on, up to where it was given
  keep-put : (b : ReceiveBlocks) (got : List ℕ) (block : PlacedBlock) → b.base ≤ block.offset
      → AreApart block.offset b.placed → P block.offset block.bytes → Kept P start b got
      → Kept P start (record b { placed = put_block block b.placed }) got
  keep-put b got block low apart meets kept =
      let before = bytes_from b.base b.placed in
      let after = bytes_from b.base (put_block block b.placed) in
      let longer = bytes_from-put_block b.base block b.placed low apart kept.rising in
      record {
        done = kept.done;
        count = kept.count;
        each = kept.each;
        rising = AreRising-put_block b.base block b.placed low apart kept.rising;
        all = AllPlaced-put_block P block b.placed meets apart kept.all;
        within = omega (arith, kept.within, ap length longer.1, length-append before longer.0);
        got_is =
            kept.got_is
            ∙ ap (λ (bytes : List ℕ). concat kept.done ++ bytes)
            (sym (take-append-le b.given before longer.0 kept.within) ∙ ap (take b.given) (sym longer.1));
      }

  keep-placing : (b : ReceiveBlocks) (got : List ℕ) (offset : ℕ) (flags : Flags) (bytes : List ℕ) (p : Placed) → placing_of b offset ≡ p
      → P offset bytes → Kept P start b got → Kept P start (after_placing_of b (arrived_at offset flags bytes) p) got
  keep-placing b got offset flags bytes placing.New is meets kept =
      let free = placing-new b offset is in
      keep-put b got (arrived_at offset flags bytes) free.not_below free.apart meets kept
  keep-placing b got offset flags bytes placing.Below is meets kept = kept
  keep-placing b got offset flags bytes placing.Above is meets kept = kept
  keep-placing b got offset flags bytes placing.Double is meets kept = kept

  keep-place : (b : ReceiveBlocks) (got : List ℕ) (offset : ℕ) (flags : Flags) (bytes : List ℕ) → P offset bytes → Kept P start b got
      → Kept P start (after_place b offset flags bytes) got
  unfolding after_place
  keep-place b got offset flags bytes meets kept = keep-placing b got offset flags bytes (placing_of b offset) refl meets kept

  keep-found : (r : Receiving) (got : List ℕ) (now : ℕ) (flags : Flags) (bytes : List ℕ) (offset : Option ℕ) (p : Placed)
      → ((n : ℕ) → offset ≡ Some n → P n bytes) → Kept P start r.blocks got
      → Kept P start (after_placing r now flags bytes offset p).blocks got
  keep-found r got now flags bytes (Some offset) placing.New meets kept = keep-place r.blocks got offset flags bytes (meets offset refl) kept
  keep-found r got now flags bytes (Some offset) placing.Below meets kept = kept
  keep-found r got now flags bytes (Some offset) placing.Above meets kept = kept
  keep-found r got now flags bytes (Some offset) placing.Double meets kept = kept
  keep-found r got now flags bytes None placing.New meets kept = kept
  keep-found r got now flags bytes None placing.Below meets kept = kept
  keep-found r got now flags bytes None placing.Above meets kept = kept
  keep-found r got now flags bytes None placing.Double meets kept = kept

  -- so a block that arrives keeps this, where it meets what is asked at the offset that its number is near to
  pub keep-arrival : (r : Receiving) (got : List ℕ) (now number : ℕ) (flags : Flags) (bytes : List ℕ)
      → ((offset : ℕ) → near r.isn r.top number ≡ Some offset → P offset bytes) → Kept P start r.blocks got
      → Kept P start (after_block r now number flags bytes).blocks got
  unfolding after_block
  keep-arrival r got now number flags bytes meets kept =
      keep-found (measured r now number) got now flags bytes (offset_of r number) (placing_at r (offset_of r number))
      (λ offset found. meets offset (offset_of-some r number offset found).is_near) kept

  pub kept-front : (b : ReceiveBlocks) (got : List ℕ) → Kept P start b got → IsPrefixOf P start got
  kept-front b got kept =
      let joined = bytes_from b.base b.placed in
      let after = following_blocks P b.base b.placed kept.all in
      let all = concat-append kept.done after.blocks in
      record {
        blocks = kept.done ++ after.blocks;
        each = AllFrom-append P start kept.done after.blocks kept.each (subst (λ offset. AllFrom P offset after.blocks) kept.count after.each);
        front = (
          drop b.given joined,
          all ∙ ap (λ (bytes : List ℕ). concat kept.done ++ bytes) (sym after.joined ∙ sym (take-append-drop b.given joined))
              ∙ sym (append_assoc (concat kept.done) (take b.given joined) (drop b.given joined))
              ∙ ap (λ (bytes : List ℕ). bytes ++ drop b.given joined) (sym kept.got_is),
        );
      }
