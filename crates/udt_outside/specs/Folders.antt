-- What a folder tells of its files.
use Rattle.std.specs.Prelude.{◌≡◌, ◌≢◌, ℕ, List, Option, Some, None, IfSome, length}
use Rattle.udt_outside.specs.declared.folder.Create.{Create}
use Rattle.udt_outside.specs.declared.folder.Create.TheVariants.{Made, Exists}

-- the files of a folder: the bytes of each name that has a file
abbrev pub Files : Type 0
Files = List ℕ → Option (List ℕ)

-- there is a file of this name, of this many bytes, and an end has all of it left
pub record IsWholeFile (files : Files) (name : List ℕ) (len : ℕ) (left : Option (List ℕ)) : Type 0 where
  pub bytes : List ℕ
  pub there : files name ≡ Some bytes
  pub unread : left ≡ Some bytes
  pub length_is : len ≡ length bytes

-- where the files are told, an end that was opened has left the whole file of this name
abbrev pub Opens : Option Files → List ℕ → ℕ → Option (List ℕ) → Type 0
Opens files name len left = IfSome files (λ fs. IsWholeFile fs name len left)

-- where the files are told, none has this name
abbrev pub IsNewName : Option Files → List ℕ → Type 0
IsNewName files name = IfSome files (λ fs. fs name ≡ None)

-- the file of this name has these bytes, and all others are as they were
pub record Puts (before after : Files) (name bytes : List ℕ) : Type 0 where
  pub this : after name ≡ Some bytes
  pub others : (other : List ℕ) → other ≢ name → after other ≡ before other

-- what an end took was known, and has become the file of this name in what was known before
pub record IsKept (before : Option Files) (after : Files) (name : List ℕ) (taken : Option (List ℕ)) : Type 0 where
  pub files : Files
  pub known : before ≡ Some files
  pub bytes : List ℕ
  pub took : taken ≡ Some bytes
  pub puts : Puts files after name bytes

-- where the files are told after an end was kept, what it took is the file of this name
abbrev pub Keeps : Option Files → Option Files → List ℕ → Option (List ℕ) → Type 0
Keeps before after name taken = IfSome after (λ fs. IsKept before fs name taken)

module _ {O : Type 0} where
  -- a fact about the end, where one was made
  abbrev pub IfMade : Create O → (O → Type 0) → Type 0
  IfMade (Made out) fact = fact out
  IfMade Exists fact = Unit {0}

  -- an end was made
  abbrev pub IsMade : Create O → Type 0
  IsMade (Made out) = Unit {0}
  IsMade Exists = ⊥

  -- a fact where the name was met
  abbrev pub OnExists : Create O → Type 0 → Type 0
  OnExists (Made out) fact = Unit {0}
  OnExists Exists fact = fact
