-- What several calls of a source or a sink move together.
use Rattle.std.proofs.Common.{◌≡◌, ◌∙◌, ℕ, ◌<◌, ◌≤◌, List, [], ◌∷◌, ◌++◌, length, take, drop, refl, sym, ap, arith, Option, Some, None, append_assoc, append-nil}
use Rattle.std.proofs.lemmas.Grind.{common_steps}
use Rattle.std.specs.Prelude.{IfSome}
use Rattle.udt_outside.specs.Faults.{Rose}
use Rattle.udt_outside.specs.Streams.{Gives, EndsOnlyWhenEmpty, Takes}
use Rattle.udt_tool.specs.Streamed.{Reads, ReadsSome, ReadsMore, ReadsScript, ReadsPiece, Wrote, WrotePrefix, WrotePart}
use Rattle.udt_model.specs.declared.limits.TheConstants.{LONGEST_SCRIPT}

-- a count that rose in a later call rose
pub rose_later : (before between now : ℕ) → before ≤ between → Rose between now → Rose before now
rose_later before between now stays rose = omega (arith, stays, rose)

-- where it is told, the text was written up to this rest
abbrev pub WrittenTo : Option (List ℕ) → Option (List ℕ) → List ℕ → List ℕ → Type 0
WrittenTo before after text rest = IfSome before (λ taken. WrotePrefix taken after text rest)

-- nothing is written yet
pub nothing_written : (before : Option (List ℕ)) (text : List ℕ) → WrittenTo before before text text
nothing_written None text = tt
nothing_written (Some taken) text = record { prefix = []; taken = ap Some (sym (append-nil taken)); whole = refl }

-- one more write
pub more_written : (first now after : Option (List ℕ)) (text rest : List ℕ) (n : ℕ) → WrittenTo first now text rest → Takes now after rest n → WrittenTo first after text (drop n rest)
more_written None now after text rest n w t = tt
more_written (Some taken) now after text rest n w t =
    let t' : after ≡ Some ((taken ++ w.prefix) ++ take n rest) = rw w.taken at t in
    let cut : take n rest ++ drop n rest ≡ rest = grind (arith, common_steps) in
    record {
      prefix = w.prefix ++ take n rest;
      taken = t' ∙ ap Some (append_assoc taken w.prefix (take n rest));
      whole = w.whole ∙ ap (λ r. w.prefix ++ r) (sym cut) ∙ sym (append_assoc w.prefix (take n rest) (drop n rest));
    }

-- all is written
pub all_written : (first after : Option (List ℕ)) (text rest : List ℕ) → WrittenTo first after text rest → rest ≡ [] → Wrote first after text
all_written None after text rest w none = tt
all_written (Some taken) after text rest w none =
    let same : text ≡ w.prefix = w.whole ∙ ap (λ r. w.prefix ++ r) none ∙ append-nil w.prefix in
    w.taken ∙ ap (λ t. Some (taken ++ t)) (sym same)

-- a part is written
pub part_written : (first now after : Option (List ℕ)) (text rest : List ℕ) → WrittenTo first now text rest → after ≡ now → WrotePart first after text
part_written None now after text rest w same = tt
part_written (Some taken) now after text rest w same = (rest, record { prefix = w.prefix; taken = same ∙ w.taken; whole = w.whole })

-- where it is told, these bytes were read
abbrev pub ReadTo : Option (List ℕ) → Option (List ℕ) → List ℕ → Type 0
ReadTo before after bytes = IfSome before (λ left. Reads left after bytes)

pub nothing_read : (before : Option (List ℕ)) → ReadTo before before []
nothing_read None = tt
nothing_read (Some left) = record { rest = left; left = refl; whole = refl }

-- a call that gave nothing was at the end
pub gave_nothing : (before after : Option (List ℕ)) (buffer script : List ℕ) (room : ℕ) → 0 < room → Gives before after buffer 0 → EndsOnlyWhenEmpty before room 0 → IfSome before (λ left. ReadsPiece left after script script 0)
gave_nothing None after buffer script room big gives end = tt
gave_nothing (Some left) after buffer script room big gives end =
    let none : left ≡ [] = end big refl in
    record {
      piece = [];
      reads = record { rest = left; left = gives.rest; whole = refl };
      following = sym (append-nil script);
      end = λ _. none;
    }

-- a call that gave some bytes
pub gave_some : (before after : Option (List ℕ)) (buffer script new : List ℕ) (n : ℕ) → 0 < n → Gives before after buffer n → new ≡ script ++ take n buffer → IfSome before (λ left. ReadsPiece left after script new n)
gave_some None after buffer script new n some gives added = tt
gave_some (Some left) after buffer script new n some gives added =
    let cut : take n left ++ drop n left ≡ left = grind (arith, common_steps) in
    record {
      piece = take n left;
      reads = record { rest = drop n left; left = gives.rest; whole = sym cut };
      following = added ∙ ap (λ t. script ++ t) gives.front;
      end = λ none. absurd (omega (arith, some, none));
    }

pub gave_more : (before after : Option (List ℕ)) (buffer : List ℕ) (n : ℕ) → 0 < n → Gives before after buffer n → IfSome before (λ left. ReadsMore left after)
gave_more None after buffer n some gives = tt
gave_more (Some left) after buffer n some gives =
    let cut : take n left ++ drop n left ≡ left = grind (arith, common_steps) in
    let fits : n ≤ length left = gives.fits in
    record {
      bytes = take n left;
      some = grind (arith, common_steps, some, fits);
      reads = record { rest = drop n left; left = gives.rest; whole = sym cut };
    }

-- one more piece
pub more_read : (first now after : Option (List ℕ)) (script new : List ℕ) (n : ℕ) → ReadTo first now script → IfSome now (λ left. ReadsPiece left after script new n) → ReadTo first after new
more_read None now after script new n r p = tt
more_read (Some left) now after script new n r p =
    let p' : ReadsPiece r.rest after script new n = rw r.left at p in
    record {
      rest = p'.reads.rest;
      left = p'.reads.left;
      whole =
          r.whole
          ∙ ap (λ t. script ++ t) p'.reads.whole
          ∙ sym (append_assoc script p'.piece p'.reads.rest)
          ∙ ap (λ t. t ++ p'.reads.rest) (sym p'.following);
    }

-- what is left of nothing is nothing
no_rest : (whole front rest : List ℕ) → whole ≡ [] → whole ≡ front ++ rest → rest ≡ []
no_rest whole [] rest none parts = sym parts ∙ none
no_rest whole (byte ∷ front) rest none parts =
    let same : 0 ≡ length (byte ∷ (front ++ rest)) = ap length (sym none ∙ parts) in
    absurd (omega (arith, same))

-- the input was at its end
pub read_to_end : (first now after : Option (List ℕ)) (script new : List ℕ) → ReadTo first now script → IfSome now (λ left. ReadsPiece left after script new 0) → IfSome first (λ left. ReadsScript left after new)
read_to_end None now after script new r p = tt
read_to_end (Some left) now after script new r p =
    let p' : ReadsPiece r.rest after script new 0 = rw r.left at p in
    let none : r.rest ≡ [] = p'.end refl in
    let parts : r.rest ≡ p'.piece ++ p'.reads.rest = p'.reads.whole in
    let nothing : p'.reads.rest ≡ [] = no_rest r.rest p'.piece p'.reads.rest none parts in
    record {
      reads = more_read (Some left) now after script new 0 r p;
      to_end = λ _. p'.reads.left ∙ ap Some nothing;
    }

-- the input was read past the longest script
pub read_past : (first now : Option (List ℕ)) (script : List ℕ) → ReadTo first now script → LONGEST_SCRIPT < length script → IfSome first (λ left. ReadsScript left now script)
read_past None now script r past = tt
read_past (Some left) now script r past = record { reads = r; to_end = λ small. absurd (omega (arith, past, small)) }

-- a call that failed read some bytes, or none
pub read_some : (first now after : Option (List ℕ)) (script : List ℕ) → ReadTo first now script → IfSome now (λ left. ReadsSome left after) → IfSome first (λ left. ReadsSome left after)
read_some None now after script r p = tt
read_some (Some left) now after script r p =
    let p' : ReadsSome r.rest after = rw r.left at p in (
      script ++ p'.0,
      record {
        rest = p'.1.rest;
        left = p'.1.left;
        whole = r.whole ∙ ap (λ t. script ++ t) p'.1.whole ∙ sym (append_assoc script p'.0 p'.1.rest);
      },
    )

-- a call that failed read nothing
pub read_none : (before after : Option (List ℕ)) → after ≡ before → IfSome before (λ left. ReadsSome left after)
read_none None after same = tt
read_none (Some left) after same = ([], record { rest = left; left = same; whole = refl })

-- a piece that was lost for want of memory was read
pub read_more : (first now after : Option (List ℕ)) (script : List ℕ) → ReadTo first now script → IfSome now (λ left. ReadsMore left after) → IfSome first (λ left. ReadsMore left after)
read_more None now after script r p = tt
read_more (Some left) now after script r p =
    let p' : ReadsMore r.rest after = rw r.left at p in
    let some : 0 < length p'.bytes = p'.some in
    record {
      bytes = script ++ p'.bytes;
      some = grind (arith, common_steps, some);
      reads = record {
        rest = p'.reads.rest;
        left = p'.reads.left;
        whole = r.whole ∙ ap (λ t. script ++ t) p'.reads.whole ∙ sym (append_assoc script p'.bytes p'.reads.rest);
      };
    }

pub some_of_more : (before after : Option (List ℕ)) → IfSome before (λ left. ReadsMore left after) → IfSome before (λ left. ReadsSome left after)
some_of_more None after p = tt
some_of_more (Some left) after p = (p.bytes, p.reads)
