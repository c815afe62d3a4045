-- What was received, by the definitions of the protocol alone.
use Rattle.std.proofs.Common.{◌≡◌, ℕ, ◌+◌, ◌-◌, ◌<◌, ◌≤◌, Bool, cond, ◌&&◌, List, [], ◌∷◌, ◌++◌, length, drop, eqb, leb, refl, ◌∙◌, sym, arith, inl, inr}
use Rattle.std.proofs.lemmas.Bool.{lt-ltb, le-ltb, le-leb, lt-leb, leb-true, and_parts, cases_Bool}
use Rattle.std.proofs.lemmas.List.{drop-drop, drop_at}
use Rattle.udt_model.specs.declared.packets.Flags.{Flags}
use Rattle.udt_model.specs.declared.answers.Placed.{Placed}
use Rattle.udt_model.specs.declared.answers.Placed.TheVariants as placing
use Rattle.udt_model.specs.ReceiveBlocks.{PlacedBlock, ReceiveBlocks, is_taken, placing_of, arrived_at, after_place, after_placing_of, bytes_from, beginning}

-- ---- where a block is placed

pub placing-below : (r : ReceiveBlocks) (offset : ℕ) → offset < r.base → placing_of r offset ≡ placing.Below
unfolding placing_of
placing-below r offset lt = rw (lt-ltb offset r.base lt) refl

pub placing-above : (r : ReceiveBlocks) (offset : ℕ) → r.base ≤ offset → r.base + r.capacity ≤ offset → placing_of r offset ≡ placing.Above
unfolding placing_of
placing-above r offset from above = rw (le-ltb offset r.base from, le-leb (r.base + r.capacity) offset above) refl

pub placing-within : (r : ReceiveBlocks) (offset : ℕ) (taken : Bool) → r.base ≤ offset → offset < r.base + r.capacity → is_taken offset r.placed ≡ taken → placing_of r offset ≡ cond taken placing.Double placing.New
unfolding placing_of
placing-within r offset taken from to is = rw (le-ltb offset r.base from, lt-leb (r.base + r.capacity) offset to, is) refl

pub after_place-is : (r : ReceiveBlocks) (offset : ℕ) (flags : Flags) (bytes : List ℕ) (p : Placed) → placing_of r offset ≡ p
    → after_place r offset flags bytes ≡ after_placing_of r (arrived_at offset flags bytes) p
unfolding after_place
after_place-is r offset flags bytes p is = rw is refl

-- ---- no byte is lost where the beginning moves

drop_past : (bytes others : List ℕ) (n : ℕ) → length bytes ≤ n → drop n (bytes ++ others) ≡ drop (n - length bytes) others
drop_past bytes others n le =
    let again : length bytes + (n - length bytes) ≡ n = omega (arith, le) in
    sym (rw again at (drop-drop (n - length bytes) (length bytes) (bytes ++ others))) ∙ rw (drop_at bytes others (length bytes) refl) refl

pub waiting-beginning : (placed : List PlacedBlock) (base given : ℕ)
    → drop given (bytes_from base placed) ≡ drop (beginning base given placed).given (bytes_from (beginning base given placed).base (beginning base given placed).placed)
unfolding beginning bytes_from
waiting-beginning [] base given = refl
waiting-beginning (block ∷ others) base given =
    elim (cases_Bool (eqb block.offset base && leb (length block.bytes) given)) [
      | inl whole ↦
          let parts = and_parts (eqb block.offset base) (leb (length block.bytes) given) whole in
          let le : length block.bytes ≤ given = leb-true (length block.bytes) given parts.1 in
          rw (parts.0, parts.1, drop_past block.bytes (bytes_from (base + 1) others) given le) (waiting-beginning others (base + 1) (given - length block.bytes))
      | inr part ↦ rw part refl
    ]
