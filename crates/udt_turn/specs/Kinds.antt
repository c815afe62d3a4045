-- The kinds of step: what each tells the pass that takes it, of the word that it found and of its view before and after.
use Rattle.std.specs.Prelude.{◌≡◌, ◌≢◌, ℕ, ◌+◌, ◌*◌, ◌%◌, ◌^◌, ◌<◌, ◌≤◌, min, max, true, List, [], ◌∷◌, ◌++◌, length, Option, Some}
use Rattle.atomic_table.specs.Table.{Step, Me, rest}
use Rattle.udt_turn.specs.Story.{Telling}
use Rattle.udt_turn.specs.History.{has, mine_in, Begins, longer, shorter, value_of, value_after, IsLegal, last_of}
use Rattle.udt_turn.specs.Rule.{Sees, Child, NoTwice}
use Rattle.udt_turn.specs.declared.view.Share.{Share}
use Rattle.udt_turn.specs.declared.view.View.{View}
use Rattle.udt_turn.specs.declared.view.Stage.{Stage}
use Rattle.udt_turn.specs.declared.view.Stage.TheVariants.{Idle, Waiting, Holding, Done, Counting, Owning, Alone, Spent}

-- the ticket of a stage that has one
abbrev pub ticket_in : {E : Type 0} → Stage E → ℕ
ticket_in (Waiting k) = k
ticket_in (Holding k _) = k
ticket_in (Done k) = k
ticket_in _ = 0

-- what the holder of the turn has found
abbrev pub found_in : {E : Type 0} → Stage E → List (ℕ × E)
found_in (Holding _ found) = found
found_in _ = []

-- the number that is owned
abbrev pub number_in : {E : Type 0} → Stage E → ℕ
number_in (Owning n) = n
number_in _ = 0

-- nothing under no names
abbrev pub no_share : {E : Type 0} → Share E
no_share = record { names = []; made = [] }

module _ {V E : Type 0} where
  -- what the pass has made
  abbrev pub share_of : View V E → Share E
  share_of v = record { names = v.names; made = mine_in v.names v.seen.items }

  -- a pass that has seen nothing, with these names
  abbrev pub blank : V → List ℕ → Stage E → View V E
  blank s names stage =
      record {
        number = 0;
        names = names;
        made = [];
        seen = record { opening = s; items = [] };
        told = [];
        one = no_share;
        other = no_share;
        last = 0;
        drawn = 0;
        stage = stage;
      }

  -- the first pass
  abbrev pub newcomer : V → View V E
  newcomer s = blank s (0 ∷ []) Idle

  -- a pass that was joined into another
  abbrev pub spent : V → View V E
  spent s = blank s [] Spent

  -- the view at another stage
  abbrev pub at_stage : View V E → Stage E → View V E
  at_stage v st = record v { stage = st }

  -- the view, having seen this much, at another stage
  abbrev pub seeing : View V E → List (ℕ × E) → Stage E → View V E
  seeing v xs st = record v { seen = record { opening = v.seen.opening; items = xs }; stage = st }

  -- 0 is among the names, and so is each number that was split off under them
  pub record IsWhole (v : View V E) : Type 0 where
    pub first : has v.names 0 ≡ true
    pub children : (p m : ℕ) → Child v.made p m → has v.names m ≡ true

  -- what was seen is legal, where the view is whole all of it was made under its names, the count after the last item of
  -- its own is known, and its own number is a name of it
  pub record IsSound (t : Telling V E) (v : View V E) : Type 0 where
    pub legal : IsLegal t v.seen
    pub whole : IsWhole v → mine_in v.names v.seen.items ≡ v.seen.items
    pub last : v.last ≡ last_of t v.names v.seen
    pub own : has v.names v.number ≡ true

  -- it has the ticket that it found
  abbrev pub Draws : Step (Option V) → Me (Option V) (View V E) → ℕ → Me (Option V) (View V E) → Type 0
  Draws st me n me' = (k : ℕ) × (n ≡ k % 2 ^ 64) × (me' ≡ (at_stage me.0 (Waiting k), me.1))

  -- where it found the ticket that it looked for it has that one; else nothing changes
  abbrev pub DrawsFirst : Step (Option V) → Me (Option V) (View V E) → ℕ → Me (Option V) (View V E) → Type 0
  DrawsFirst st me n me' = (n ≡ st.first → Draws st me n me') × (n ≢ st.first → me' ≡ me)

  -- the value of the history that it found is in the slot that it took
  pub record Takes (t : Telling V E) (me : Me (Option V) (View V E)) (me' : Me (Option V) (View V E)) : Type 0 where
    pub found : List (ℕ × E)
    pub now : me'
        ≡ (at_stage me.0 (Holding (ticket_in me.0.stage) found), (0, Some (value_after t me.0.seen.opening found)) ∷ me.1)
    pub sees : Sees me.0.names me.0.seen.items found
    pub most : t.count (value_after t me.0.seen.opening found) < 2 ^ 55
    pub sound : IsSound t (seeing me.0 found Idle)

  -- where its ticket is served it has the turn and the slot, and knows the history that it found; else nothing changes
  abbrev pub Reads : Telling V E → Step (Option V) → Me (Option V) (View V E) → ℕ → Me (Option V) (View V E) → Type 0
  Reads t st me n me' = (n ≡ ticket_in me.0.stage % 2 ^ 64 → Takes t me me') × (n ≢ ticket_in me.0.stage % 2 ^ 64 → me' ≡ me)

  -- the item was added to what it found
  abbrev pub saying : Telling V E → View V E → E → View V E
  saying t v e = record v {
    seen = record { opening = v.seen.opening; items = found_in v.stage ++ (v.number, e) ∷ [] };
    one = no_share;
    other = no_share;
    last = t.count (t.after (value_after t v.seen.opening (found_in v.stage)) e);
    stage = Done (ticket_in v.stage);
  }

  -- the value of the history that the holder of the turn found
  abbrev pub value_found : Telling V E → View V E → V
  value_found t v = value_after t v.seen.opening (found_in v.stage)

  -- the item may come after that value, and these are the count and the bits after it
  pub record Agrees (t : Telling V E) (item : Option E) (before : V) (count bits : ℕ) : Type 0 where
    pub entry : E
    pub named : item ≡ Some entry
    pub legal : t.legal before entry
    pub count_is : count ≡ t.count (t.after before entry)
    pub bits_is : bits ≡ t.bits (t.after before entry)
    pub next : count ≡ t.count before + 1
    pub most : count < 2 ^ 55

  -- it has the turn
  abbrev pub HasTicket : View V E → Type 0
  HasTicket v = (k : ℕ) × (v.stage ≡ Holding k (found_in v.stage))

  -- it has seen the history that it found with its item at the end
  abbrev pub Says : Telling V E → Option E → Step (Option V) → Me (Option V) (View V E) → ℕ → Me (Option V) (View V E) → Type 0
  Says t item st me n me' = (e : E) → item ≡ Some e
      → (me' ≡ (saying t me.0 e, me.1)) × IsSound t me'.0

  -- with the turn: it has seen the history that it found
  abbrev pub Leaves : Step (Option V) → Me (Option V) (View V E) → ℕ → Me (Option V) (View V E) → Type 0
  Leaves st me n me' = me' ≡ (seeing me.0 (found_in me.0.stage) (Done (ticket_in me.0.stage)), me.1)

  -- it has no ticket and no turn, and the slot is given back
  abbrev pub Calls : Step (Option V) → Me (Option V) (View V E) → ℕ → Me (Option V) (View V E) → Type 0
  Calls st me n me' = me' ≡ (at_stage me.0 Idle, rest me.1)

  -- the history that it then has seen begins with what it had seen, goes on with nothing of its own, and stands for a
  -- value with this count and these bits
  pub record Shows (t : Telling V E) (me : Me (Option V) (View V E)) (n : ℕ) (me' : Me (Option V) (View V E)) : Type 0 where
    pub found : List (ℕ × E)
    pub now : me' ≡ (seeing me.0 found Idle, me.1)
    pub sees : Sees me.0.names me.0.seen.items found
    pub sound : IsSound t me'.0
    pub word : n ≡ 256 * t.count (value_of t me'.0.seen) + t.bits (value_of t me'.0.seen)
    pub bits : t.bits (value_of t me'.0.seen) < 256

  -- it has seen the history
  abbrev pub Looks : Telling V E → Step (Option V) → Me (Option V) (View V E) → ℕ → Me (Option V) (View V E) → Type 0
  Looks t st me n me' = Shows t me n me'

  -- the view, having learnt that this many numbers were drawn, at another stage
  abbrev pub drawn_to : View V E → ℕ → Stage E → View V E
  drawn_to v n st = record v { drawn = n; stage = st }

  -- it may draw a number where fewer than 65535 were drawn, and what it had seen is sound
  abbrev pub Counts : Telling V E → Step (Option V) → Me (Option V) (View V E) → ℕ → Me (Option V) (View V E) → Type 0
  Counts t st me n me' =
      (me.0.drawn ≤ n) × (n < 65535 → me' ≡ (drawn_to me.0 n Counting, me.1))
      × (65535 ≤ n → me' ≡ (drawn_to me.0 n Idle, me.1)) × IsSound t me.0

  -- it owns the number that it found where that is below 65535
  abbrev pub Numbers : Step (Option V) → Me (Option V) (View V E) → ℕ → Me (Option V) (View V E) → Type 0
  Numbers st me n me' =
      (me.0.drawn ≤ n) × (me.0.number < n) × (mine_in (n ∷ []) me.0.seen.items ≡ [])
      × (n < 65535 → me' ≡ (drawn_to me.0 (n + 1) (Owning n), me.1)) × (65535 ≤ n → me' ≡ (drawn_to me.0 (n + 1) Idle, me.1))

  -- it owns a number below 65535, which no step of its own had shown as drawn, and under which it has seen nothing made
  pub record HasDrawn (me me' : Me (Option V) (View V E)) : Type 0 where
    pub drew : ℕ
    pub now : me' ≡ (drawn_to me.0 (drew + 1) (Owning drew), me.1)
    pub few : drew < 65535
    pub fresh : me.0.drawn ≤ drew
    pub above : me.0.number < drew
    pub unmade : mine_in (drew ∷ []) me.0.seen.items ≡ []

  -- it has learnt that 65535 numbers were drawn, and draws none
  pub record HasFound (me me' : Me (Option V) (View V E)) : Type 0 where
    pub found : ℕ
    pub now : me' ≡ (drawn_to me.0 found Idle, me.1)
    pub many : 65535 ≤ found

  -- the number that was owned becomes a child of the view's own number
  abbrev pub parent_of : View V E → View V E
  parent_of v = record v { made = (v.number, number_in v.stage) ∷ v.made; stage = Idle }

  -- and the number and only name of a new view, which has seen as much and made nothing
  abbrev pub child_of : View V E → View V E
  child_of v =
      record {
        number = number_in v.stage;
        names = number_in v.stage ∷ [];
        made = [];
        seen = v.seen;
        told = [];
        one = no_share;
        other = no_share;
        last = 0;
        drawn = v.drawn;
        stage = Idle;
      }

  -- the names and pairs of both, and the longer of both histories; the shorter is told
  abbrev pub joined : View V E → View V E → View V E
  joined v u =
      record v {
        names = v.names ++ u.names;
        made = v.made ++ u.made;
        seen = record {
          opening = v.seen.opening;
          items = longer v.seen.items u.seen.items;
        };
        told = shorter v.seen.items u.seen.items;
        one = share_of v;
        other = share_of u;
        last = max v.last u.last;
        drawn = max v.drawn u.drawn;
      }

  -- after a join, what was told is forgotten, being the beginning of what was seen
  abbrev pub Settles : Telling V E → Step (Option V) → Me (Option V) (View V E) → ℕ → Me (Option V) (View V E) → Type 0
  Settles t st me n me' =
      (me' ≡ (record me.0 { told = [] }, me.1)) × IsSound t me'.0 × Begins me.0.told me.0.seen.items
      × (length me.0.names ≤ 65535) × NoTwice me.0.names
      × (mine_in me.0.one.names me.0.seen.items ≡ me.0.one.made) × (mine_in me.0.other.names me.0.seen.items ≡ me.0.other.made)

  -- at the end it has all the names there are exactly where it has as many names as numbers below 65535 were drawn
  abbrev pub Ends : Step (Option V) → Me (Option V) (View V E) → ℕ → Me (Option V) (View V E) → Type 0
  Ends st me n me' =
      (length me.0.names ≡ min n 65535
      → (me' ≡ (at_stage me.0 Alone, me.1)) × IsWhole me.0) × (length me.0.names ≢ min n 65535
      → (me' ≡ me) × (IsWhole me.0 → ⊥))
