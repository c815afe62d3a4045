-- The rule of a turn: what its words, its slot, one history and the views of all passes have to do with one another
-- between any two steps.
-- Word 0 tells the value: 256 times its count, and its bits. Word 1 counts the tickets drawn and word 2 those served,
-- both modulo 2 ^ 64. Word 3 counts the pass numbers drawn, and is 1 at first.
-- The one slot has the value while nobody has the turn.
use Rattle.std.specs.Prelude.{◌≡◌, ℕ, ◌+◌, ◌*◌, ◌%◌, ◌^◌, ◌<◌, ◌≤◌, min, ◌⊎◌, true, false, List, [], ◌∷◌, ◌++◌, length, Option, Some, None}
use mathlib.Core.Option as opt
use mathlib.Core.Option.{some, none}
use lib.ListN.{get_elem?}
use Rattle.atomic_table.specs.Table.{State}
use Rattle.udt_turn.specs.Story.{Telling}
use Rattle.udt_turn.specs.History.{has, mine_in, Begins, value_after, MayFollow, last_from}
use Rattle.udt_turn.specs.declared.view.Share.{Share}
use Rattle.udt_turn.specs.declared.view.View.{View}
use Rattle.udt_turn.specs.declared.view.Stage.{Stage}
use Rattle.udt_turn.specs.declared.view.Stage.TheVariants.{Waiting, Holding, Done, Counting, Owning, Alone, Spent}

-- the sum of a number of each
abbrev pub total_of : {A : Type 0} → (A → ℕ) → List A → ℕ
total_of f [] = 0
total_of f (x ∷ xs) = f x + total_of f xs

-- what a view that is not spent has seen is the beginning of the history, in the rest of which nothing was made under its names
pub record Sees {E : Type 0} (names : List ℕ) (seen items : List (ℕ × E)) : Type 0 where
  pub rest : List (ℕ × E)
  pub is : items ≡ seen ++ rest
  pub none_of : mine_in names rest ≡ []

-- the items under these names, which are some of the others, are all there
pub record IsShare {E : Type 0} (names : List ℕ) (items : List (ℕ × E)) (s : Share E) : Type 0 where
  pub all : mine_in s.names items ≡ s.made
  pub own : (m : ℕ) → has s.names m ≡ true → has names m ≡ true

-- no number stands twice in the list
abbrev pub NoTwice : List ℕ → Type 0
NoTwice [] = Unit {0}
NoTwice (n ∷ ns) = (has ns n ≡ false) × NoTwice ns

-- a child in these pairs
abbrev pub Child : List (ℕ × ℕ) → ℕ → ℕ → Type 0
Child [] p c = ⊥
Child (x ∷ xs) p c = ((x.0 ≡ p) × (x.1 ≡ c)) ⊎ Child xs p c

-- each item's number meets it
abbrev pub EachItem : {E : Type 0} → List (ℕ × E) → (ℕ → Type 0) → Type 0
EachItem [] P = Unit {0}
EachItem (x ∷ xs) P = P x.0 × EachItem xs P

module _ {E : Type 0} where
  -- the ticket of a pass that has drawn one
  abbrev pub ticket_of : Stage E → Option ℕ
  ticket_of (Waiting n) = Some n
  ticket_of (Holding n _) = Some n
  ticket_of (Done n) = Some n
  ticket_of _ = None

  -- 1 for a pass that has drawn a ticket, and else 0
  abbrev pub queues : Stage E → ℕ
  queues (Waiting _) = 1
  queues (Holding _ _) = 1
  queues (Done _) = 1
  queues _ = 0

  -- its ticket is served, and the slot is with it
  abbrev pub HasTurn : Stage E → Type 0
  HasTurn (Holding _ _) = Unit {0}
  HasTurn (Done _) = Unit {0}
  HasTurn _ = ⊥

  -- 1 for a pass that may draw a number, and else 0
  abbrev pub draws : Stage E → ℕ
  draws Counting = 1
  draws _ = 0

  -- the number that a pass has drawn, and has not given away yet
  abbrev pub owned_of : Stage E → Option ℕ
  owned_of (Owning n) = Some n
  owned_of _ = None

  -- 1 for a pass that owns a number, and else 0
  abbrev pub owns : Stage E → ℕ
  owns (Owning _) = 1
  owns _ = 0

  -- it was not joined into another
  abbrev pub IsLive : Stage E → Type 0
  IsLive Spent = ⊥
  IsLive _ = Unit {0}

  -- it knows that all others were joined into it
  abbrev pub IsAlone : Stage E → Type 0
  IsAlone Alone = Unit {0}
  IsAlone _ = ⊥

  -- what the holder of the turn knows of the history: until it has told it is what it found, and then what it has seen
  abbrev pub Knows : Stage E → List (ℕ × E) → List (ℕ × E) → Type 0
  Knows (Holding _ found) seen items = found ≡ items
  Knows (Done _) seen items = seen ≡ items
  Knows _ seen items = Unit {0}

module _ {V E : Type 0} where
  -- the number is the view's own or one that was joined to it, or it is drawn and not given away
  abbrev pub Claims : View V E → ℕ → Type 0
  Claims v m = (has v.names m ≡ true) ⊎ (owned_of v.stage ≡ Some m)

  -- how many numbers a view answers for
  abbrev pub parts : View V E → ℕ
  parts v = length v.names + owns v.stage

  -- each view meets it
  abbrev pub Each : List (View V E) → (View V E → Type 0) → Type 0
  Each views P = (j : ℕ) (v : View V E) → get_elem? views j ≡ some v → P v

  -- some view meets it
  abbrev pub Some_view : List (View V E) → (View V E → Type 0) → Type 0
  Some_view views P = (j : ℕ) × (v : View V E) × (get_elem? views j ≡ some v) × P v

  -- no two views have the same
  abbrev pub Apart : (View V E → ℕ → Type 0) → List (View V E) → Type 0
  Apart C views =
      (i j : ℕ) (u v : View V E) (m : ℕ) → get_elem? views i ≡ some u → get_elem? views j ≡ some v → C u m → C v m → i ≡ j

  -- the view's ticket is this one
  abbrev pub Tickets : View V E → ℕ → Type 0
  Tickets v n = ticket_of v.stage ≡ Some n

  -- Part 1. The tickets drawn are those served and those that are out. Those that are out are different, and none is
  -- before the one that is served
  pub record TicketsInOrder (served drawn : ℕ) (views : List (View V E)) : Type 0 where
    pub out : served + total_of (λ v. queues v.stage) views ≡ drawn
    pub within : Each views (λ v. (n : ℕ) → Tickets v n → (served ≤ n) × (n < drawn))
    pub apart : Apart Tickets views

  -- Part 2. The slot is at home exactly where no view has the turn, and has the value then. A view with the turn has the
  -- ticket that is served
  pub record OneHasTurn (served : ℕ) (value : V) (homes : List (opt.Option (Option V))) (views : List (View V E)) : Type 0 where
    pub slot : ((homes ≡ some (Some value) ∷ []) × Each views (λ v. HasTurn v.stage
        → ⊥)) ⊎ ((homes ≡ none ∷ []) × Some_view views (λ v. HasTurn v.stage))
    pub whose : Each views (λ v. HasTurn v.stage → Tickets v served)

  -- Part 4, and part 7: the own number is among the names, and a number that is owned is above it
  pub record IsView (t : Telling V E) (opening : V) (numbers : ℕ) (items : List (ℕ × E)) (v : View V E) : Type 0 where
    pub opened : v.seen.opening ≡ opening
    pub sees : Sees v.names v.seen.items items
    pub told : Begins v.told items
    pub one : IsShare v.names items v.one
    pub other : IsShare v.names items v.other
    pub knows : Knows v.stage v.seen.items items
    pub last : v.last ≡ last_from t v.names opening items 0
    pub drawn : v.drawn ≤ numbers
    pub own : has v.names v.number ≡ true
    pub once : NoTwice v.names
    pub above : (n : ℕ) → owned_of v.stage ≡ Some n → v.number < n

  -- Part 3. The history is legal, and word 0 tells the count and the bits of the value for which it stands
  pub record Told (t : Telling V E) (opening : V) (items : List (ℕ × E)) (told : ℕ) : Type 0 where
    pub legal : MayFollow t opening items
    pub word : told ≡ 256 * t.count (value_after t opening items) + t.bits (value_after t opening items)
    pub count : t.count (value_after t opening items) < 2 ^ 55
    pub bits : t.bits (value_after t opening items) < 256

  -- the number is a name of some view
  abbrev pub Named : List (View V E) → ℕ → Type 0
  Named views m = Some_view views (λ v. has v.names m ≡ true)

  -- Part 5. Names are different, below word 3 and below 65535. A number has one owner, and is nobody's name while it is owned.
  -- Each name but 0 was split off by a smaller one, in the view that has that one among its names. Each number that was
  -- split off is a name, and so is the number of each item
  pub record NamesInOrder (numbers : ℕ) (items : List (ℕ × E)) (views : List (View V E)) : Type 0 where
    pub below : Each views (λ v. (m : ℕ) → Claims v m → (m < numbers) × (m < 65535))
    pub apart : Apart Claims views
    pub unnamed : Each views (λ v. (m : ℕ) → owned_of v.stage ≡ Some m → has v.names m ≡ false)
    pub first : Named views 0
    pub split : Each views (λ v. (m : ℕ) → has v.names m ≡ true → 0 < m
        → Some_view views (λ u. (p : ℕ) × Child u.made p m × (has u.names p ≡ true) × (p < m)))
    pub children : Each views (λ v. (p m : ℕ) → Child v.made p m → Named views m)
    pub makers : EachItem items (Named views)

  -- Part 6. Word 3 and the passes that may draw are at most 131069. As many numbers below 65535 were drawn as are names or owned
  pub record NumbersFit (numbers : ℕ) (views : List (View V E)) : Type 0 where
    pub few : numbers + total_of (λ v. draws v.stage) views ≤ 131069
    pub all : total_of parts views ≡ min numbers 65535

  -- whoever knows that it is alone has all the names there are
  abbrev pub AloneHasAll : List (View V E) → Type 0
  AloneHasAll views = Each views (λ v. IsAlone v.stage → total_of parts views ≡ parts v)

  -- The whole rule, of some history, some numbers of tickets served and drawn, and some number of pass numbers drawn
  pub record Kept (t : Telling V E) (opening : V) (s : State (Option V) (View V E)) : Type 0 where
    pub items : List (ℕ × E)
    pub word : ℕ
    pub served : ℕ
    pub drawn : ℕ
    pub numbers : ℕ
    pub words : s.words ≡ word ∷ drawn % 2 ^ 64 ∷ served % 2 ^ 64 ∷ numbers ∷ []
    pub tickets : TicketsInOrder served drawn s.views
    pub turn : OneHasTurn served (value_after t opening items) s.homes s.views
    pub history : Told t opening items word
    pub view : Each s.views (λ v. IsLive v.stage → IsView t opening numbers items v)
    pub names : NamesInOrder numbers items s.views
    pub fit : NumbersFit numbers s.views
    pub alone : AloneHasAll s.views
