-- What a pass can tell of its queue from its own hands.
use Rattle.std.specs.Prelude.{◌≡◌, ◌≢◌, ◌⊎◌, ℕ, ◌+◌, ◌≤◌, List, [], ◌∷◌, ◌++◌, map}
use Rattle.std.specs.List.{Contains}
use mathlib.Core.Option.{some}
use lib.ListN.{get_elem?}
use Rattle.crossbeam_queue.specs.Fifo.{Held}
use Rattle.udt_queues.specs.declared.view.Right.TheVariants.{Alone}
use Rattle.udt_queues.specs.declared.view.Entry.{Entry}
use Rattle.udt_queues.specs.declared.view.Hand.{Hand}
use Rattle.udt_queues.specs.declared.view.View.{View}
use Rattle.udt_queues.specs.Lines.{log_of, put_under, Rising, Fits, InOrder}

-- the first list is a prefix of the second
abbrev pub IsPrefix : {X : Type 0} → List X → List X → Type 0
IsPrefix {X} xs ys = (rest : List X) × (ys ≡ xs ++ rest)

module _ {T : Type 0} where
  -- the hand stands at this place of the view
  abbrev pub HandAt : View T → ℕ → Hand T → Type 0
  HandAt v k h = get_elem? v.hands k ≡ some h

  -- a hand of the view has this name
  abbrev pub HasHand : View T → List ℕ → Type 0
  HasHand v name = (k : ℕ) × (h : Hand T) × HandAt v k h × (h.name ≡ name)

  -- all hands of the queue are in this view: the first one, and with each hand those that were made of it
  pub record IsWhole (v : View T) : Type 0 where
    pub first : HasHand v []
    pub others : (k : ℕ) (h : Hand T) → HandAt v k h → (j : ℕ) → j + 1 ≤ h.made → HasHand v (j ∷ h.name)

  -- the log, as a pass knows it that holds these hands, where the queue holds these values
  pub record Knows (v : View T) (items : List T) : Type 0 where
    pub done : List (List ℕ × Entry T)
    pub here : List (Entry T)
    pub content : items ≡ map (λ e. e.value) here
    pub order : Rising (log_of done here)
    pub fits : (k : ℕ) (h : Hand T) → HandAt v k h → Fits done here h
    pub sole : (k : ℕ) (h : Hand T) → HandAt v k h → h.right ≡ Alone → (d : List ℕ × Entry T) → Contains done d → d.0 ≡ h.name
    pub putters : IsWhole v → (e : Entry T) → Contains (log_of done here) e → HasHand v e.from
    pub takers : IsWhole v → (d : List ℕ × Entry T) → Contains done d → HasHand v d.0

  -- the hand put this value at this place
  abbrev pub PutAt : Hand T → Entry T → Type 0
  PutAt p e = (p.name ≡ e.from) × (get_elem? p.put e.place ≡ some e.value)

  -- some hand of the view took this entry
  abbrev pub TookIt : View T → Entry T → Type 0
  TookIt v e = (k : ℕ) × (h : Hand T) × HandAt v k h × Contains h.took e

  -- of all hands of the queue this one alone took entries: no other may, or all others are in this view and took none
  abbrev pub TookAlone : View T → Hand T → Type 0
  TookAlone v h = (h.right ≡ Alone) ⊎ (IsWhole v × ((k : ℕ) (g : Hand T) → HandAt v k g → g.name ≢ h.name → g.took ≡ []))

  -- the values that a hand took of what was put under a name, in the order in which it took them
  abbrev pub values_from : List ℕ → Hand T → List T
  values_from name h = map (λ e. e.value) (put_under name h.took)

  -- what holds between the hands of a pass
  pub record Told (v : View T) : Type 0 where
    -- of each producer, what was taken is in the order of its puts, and each at most once
    pub order : InOrder v
    -- what was taken under the name of a hand of this view, that hand put at that place
    pub put : (k l : ℕ) (h p : Hand T) → HandAt v k h → HandAt v l p → (e : Entry T) → Contains h.took e → e.from ≡ p.name
        → PutAt p e
    -- where one hand alone took entries, those of a producer are a prefix of what it put
    pub prefix : (k l : ℕ) (h p : Hand T) → HandAt v k h → HandAt v l p → TookAlone v h
        → IsPrefix (values_from p.name h) p.put
    -- where all hands are in this view, what was taken some hand of it put
    pub whole : IsWhole v → (e : Entry T) → TookIt v e → (l : ℕ) × (p : Hand T) × HandAt v l p × PutAt p e

  -- what holds between them besides, where the queue was empty
  pub record Emptied (v : View T) : Type 0 where
    -- where one hand alone took entries, it took all that a producer put
    pub all : (k l : ℕ) (h p : Hand T) → HandAt v k h → HandAt v l p → TookAlone v h → p.put ≡ values_from p.name h
    -- where all hands are in this view, each entry that was put was taken
    pub each : IsWhole v → (l : ℕ) (p : Hand T) → HandAt v l p → (e : Entry T) → PutAt p e → TookIt v e

  -- at a step of a call the queue was empty, and held as many values as this number, as far as the hands of the pass show
  abbrev pub WasFull : ℕ → View T → Type 0
  WasFull n v = Held n (Knows v)

  abbrev pub WasEmpty : View T → Type 0
  WasEmpty v = Held 0 (Knows v)
