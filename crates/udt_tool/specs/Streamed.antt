-- What is read of an input, and what is written to an output, over several calls.
use Rattle.std.specs.Prelude.{◌≡◌, ℕ, ◌<◌, ◌≤◌, List, [], ◌++◌, length, Option, Some, IfSome}
use Rattle.udt_model.specs.declared.limits.TheConstants.{LONGEST_SCRIPT}

-- these bytes were read of what an input had left
pub record Reads (before : List ℕ) (after : Option (List ℕ)) (bytes : List ℕ) : Type 0 where
  pub rest : List ℕ
  pub left : after ≡ Some rest
  pub whole : before ≡ bytes ++ rest

-- some bytes were read, or none
abbrev pub ReadsSome : List ℕ → Option (List ℕ) → Type 0
ReadsSome before after = (bytes : List ℕ) × Reads before after bytes

-- at least a byte was read
pub record ReadsMore (before : List ℕ) (after : Option (List ℕ)) : Type 0 where
  pub bytes : List ℕ
  pub some : 0 < length bytes
  pub reads : Reads before after bytes

-- an input was read to its end, or past the longest script
pub record ReadsScript (before : List ℕ) (after : Option (List ℕ)) (script : List ℕ) : Type 0 where
  pub reads : Reads before after script
  pub to_end : length script ≤ LONGEST_SCRIPT → after ≡ Some []

-- a piece was read after others; without a byte in it the input was at its end
pub record ReadsPiece (before : List ℕ) (after : Option (List ℕ)) (others script : List ℕ) (n : ℕ) : Type 0 where
  pub piece : List ℕ
  pub reads : Reads before after piece
  pub following : script ≡ others ++ piece
  pub end : n ≡ 0 → before ≡ []

-- an output took this text
abbrev pub Wrote : Option (List ℕ) → Option (List ℕ) → List ℕ → Type 0
Wrote before after text = IfSome before (λ taken. after ≡ Some (taken ++ text))

-- an output took a prefix of a text, of which this is the rest
pub record WrotePrefix (before : List ℕ) (after : Option (List ℕ)) (text rest : List ℕ) : Type 0 where
  pub prefix : List ℕ
  pub taken : after ≡ Some (before ++ prefix)
  pub whole : text ≡ prefix ++ rest

-- where it is told what an output took, it took a prefix of a text
abbrev pub WrotePart : Option (List ℕ) → Option (List ℕ) → List ℕ → Type 0
WrotePart before after text = IfSome before (λ taken. (rest : List ℕ) × WrotePrefix taken after text rest)
