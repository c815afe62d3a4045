-- A queue's rule: one log of what was put and who took it, of which each hand has its own part.
use Rattle.std.specs.Prelude.{◌≡◌, ◌⊎◌, ℕ, ◌+◌, ◌<◌, ◌≤◌, Bool, true, false, ◌&&◌, ◌==◌, List, [], ◌∷◌, ◌++◌, map, slice_set}
use Rattle.std.specs.List.{filter, Contains}
use mathlib.Core.Option.{some}
use lib.ListN.{get_elem?}
use Rattle.udt_queues.specs.declared.view.Right.{Right}
use Rattle.udt_queues.specs.declared.view.Right.TheVariants.{Never, Shared, Alone}
use Rattle.udt_queues.specs.declared.view.Entry.{Entry}
use Rattle.udt_queues.specs.declared.view.Hand.{Hand}
use Rattle.udt_queues.specs.declared.view.View.{View}

-- two names are the same
abbrev pub same : List ℕ → List ℕ → Bool
same [] [] = true
same [] (b ∷ bs) = false
same (a ∷ rest) [] = false
same (a ∷ rest) (b ∷ bs) = (a == b) && same rest bs

-- the right is one to take
abbrev pub may_take : Right → Bool
may_take Never = false
may_take Shared = true
may_take Alone = true

module _ {T : Type 0} where
  -- what was put under a name, each with its place, where the first has this place
  abbrev pub placed : List ℕ → ℕ → List T → List (Entry T)
  placed name at [] = []
  placed name at (x ∷ xs) = record { from = name; place = at; value = x } ∷ placed name (at + 1) xs

  -- the entries that were put under a name
  abbrev pub put_under : List ℕ → List (Entry T) → List (Entry T)
  put_under name entries = filter (λ e. same name e.from) entries

  -- the entries that were taken under a name
  abbrev pub took_under : List ℕ → List (List ℕ × Entry T) → List (Entry T)
  took_under name done = map (λ d. d.1) (filter (λ d. same name d.0) done)

  -- all entries that were put: those that were taken, each by some name, and then those that the queue holds
  abbrev pub log_of : List (List ℕ × Entry T) → List (Entry T) → List (Entry T)
  log_of done here = map (λ d. d.1) done ++ here

  -- of two entries of one producer, the one that stands first was put first
  abbrev pub Rising : List (Entry T) → Type 0
  Rising [] = Unit {0}
  Rising (x ∷ xs) = ((y : Entry T) → Contains xs y → y.from ≡ x.from → x.place < y.place) × Rising xs

  -- the hand has its part of the log
  pub record Fits (done : List (List ℕ × Entry T)) (here : List (Entry T)) (h : Hand T) : Type 0 where
    pub put : put_under h.name (log_of done here) ≡ placed h.name 0 h.put
    pub took : h.took ≡ took_under h.name done

  -- the hand stands there: in this view, at this place
  abbrev pub At : List (View T) → ℕ → ℕ → Hand T → Type 0
  At views i k h = (v : View T) × (get_elem? views i ≡ some v) × (get_elem? v.hands k ≡ some h)

  -- a hand with this name has made at least this number of others
  abbrev pub Made : List (View T) → List ℕ → ℕ → Type 0
  Made views name least = (i : ℕ) × (k : ℕ) × (h : Hand T) × At views i k h × (h.name ≡ name) × (least ≤ h.made)

  -- a name but the first is a number and the name of a hand that has made more
  abbrev pub HasParent : List (View T) → List ℕ → Type 0
  HasParent views [] = Unit {0}
  HasParent views (j ∷ name) = Made views name (j + 1)

  -- the rule
  pub record Kept (items : List T) (views : List (View T)) : Type 0 where
    pub done : List (List ℕ × Entry T)
    pub here : List (Entry T)
    pub content : items ≡ map (λ e. e.value) here
    pub order : Rising (log_of done here)
    pub fits : (i k : ℕ) (h : Hand T) → At views i k h → Fits done here h
    pub parents : (i k : ℕ) (h : Hand T) → At views i k h → HasParent views h.name
    pub putters : (e : Entry T) → Contains (log_of done here) e → Made views e.from 0
    pub takers : (d : List ℕ × Entry T) → Contains done d → Made views d.0 0
    pub apart : (i j k l : ℕ) (h g : Hand T) → At views i k h → At views j l g → h.name ≡ g.name → (i ≡ j) × (k ≡ l)
    pub sole : (i k : ℕ) (h : Hand T) → At views i k h → h.right ≡ Alone → (d : List ℕ × Entry T) → Contains done d → d.0 ≡ h.name
    pub only : (i j k l : ℕ) (h g : Hand T) → At views i k h → At views j l g → h.right ≡ Alone
        → ((i ≡ j) × (k ≡ l)) ⊎ (g.right ≡ Never)

  -- what a hand is after it put a value, and after it took an entry
  abbrev pub putting : Hand T → T → Hand T
  putting h x = record h { put = h.put ++ x ∷ [] }

  abbrev pub taking : Hand T → Entry T → Hand T
  taking h e = record h { took = h.took ++ e ∷ [] }

  abbrev pub has_own : List (Hand T) → Bool
  has_own [] = false
  has_own (h ∷ hs) = true

  abbrev pub own_may_take : List (Hand T) → Bool
  own_may_take [] = false
  own_may_take (h ∷ hs) = may_take h.right

  -- the view has a hand of its own, the first
  abbrev pub IsLive : View T → Type 0
  IsLive v = has_own v.hands ≡ true

  -- and that hand may take
  abbrev pub Works : View T → Type 0
  Works v = own_may_take v.hands ≡ true

  -- its own hand put one more value, and nothing else changed
  abbrev pub Puts : View T → T → View T → Type 0
  Puts v x w = (h : Hand T) × (get_elem? v.hands 0 ≡ some h) × (w.hands ≡ slice_set v.hands 0 (putting h x))

  -- what was taken is in order, by each hand of it
  abbrev pub InOrder : View T → Type 0
  InOrder v = (k : ℕ) (h : Hand T) → get_elem? v.hands k ≡ some h → Rising h.took

  -- its own hand took one more entry, with this value, and nothing else changed. What was taken is in order
  pub record Takes (v : View T) (x : T) (w : View T) : Type 0 where
    pub by : Hand T
    pub there : get_elem? v.hands 0 ≡ some by
    pub entry : Entry T
    pub value : entry.value ≡ x
    pub next : w.hands ≡ slice_set v.hands 0 (taking by entry)
    pub order : InOrder w
