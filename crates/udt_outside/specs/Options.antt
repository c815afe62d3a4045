-- What is told where it can be told.
use Rattle.std.specs.Prelude.{◌≡◌, List, [], ◌∷◌, ◌++◌, Option, Some, IfSome}

module _ {T : Type 0} where
  -- where a list is told, it is empty
  abbrev pub HasNone : Option (List T) → Type 0
  HasNone told = IfSome told (λ xs. xs ≡ [])

  -- where a value is told, it is this one
  abbrev pub Tells : Option T → T → Type 0
  Tells told x = IfSome told (λ y. y ≡ x)

  -- the list was known before, and has one more at its end
  pub record IsLonger (before : Option (List T)) (after : List T) (x : T) : Type 0 where
    pub earlier : List T
    pub known : before ≡ Some earlier
    pub one_more : after ≡ earlier ++ x ∷ []

  -- where a list is told after a call, that call has added this one at its end
  abbrev pub Adds : Option (List T) → Option (List T) → T → Type 0
  Adds before after x = IfSome after (λ xs. IsLonger before xs x)
