-- What waits was said, so what is heard was said before.
use Rattle.std.proofs.Common.{◌≡◌, ℕ, zero, suc, ◌+◌, ◌-◌, Bool, true, false, List, [], ◌∷◌, ◌++◌, length, take, drop, Option, Some, None, refl, sym, ap, ◌∙◌, subst, inl, inr, append_assoc}
use Rattle.std.proofs.lemmas.List.{append-nil}
use Rattle.std.specs.Prelude.{slice_get, insert, nat_lt, nat_le, if◌then◌else◌}
use Rattle.udt_model.specs.declared.addresses.Addr.{Addr}
use Rattle.udt_model.specs.Addresses.{same_addr}
use Rattle.udt_model.specs.State.{Datagram}
use Rattle.udt_model.proofs.AddressLemmas.{same_addr-is}
use Rattle.udt_turn.specs.History.{MayFollow, keep_if}
use Rattle.udt_turn.specs.Kinds.{IsSound}
use Rattle.udt_turn.specs.Words.{IsPassOf, Adds, opening_of, view_of, seen_of, mine_of, number_of}
use Rattle.udt_turn.specs.declared.story.Story as story
use Rattle.udt_turn.specs.declared.pass.Pass.{Pass}
use Rattle.udt_turn.specs.declared.turn.Turn.{Turn}
use Rattle.udt_net.specs.declared.side.Side.{Side}
use Rattle.udt_net.specs.declared.side.Side.TheVariants.{First, Second}
use Rattle.udt_net.specs.declared.draws.Fate.{Fate}
use Rattle.udt_net.specs.declared.draws.Fate.TheVariants.{Lost, Doubled, Overtaking, Ordinary}
use Rattle.udt_net.specs.Networks.{Network, Spoken, Said, Heard, IsSilent, address_of, same_side, side_at, receiver_of, most_bytes, most_waiting, datagram_from, put_at, arrived, fate_of, waiting_at, with_waiting, delivered, after, tale_of_nets}
use Rattle.udt_net.specs.Speaking.{WasSaid, HeardWasSaid, HearsWhatWasSaid, heard_at, said_from}
use Rattle.udt_model.specs.Draws.{next_state, draw}

-- ---- lists

abbrev Each : (Datagram → Type 0) → List Datagram → Type 0
Each P [] = Unit {0}
Each P (d ∷ ds) = P d × Each P ds

module _ (P Q : Datagram → Type 0) where
  each_map : ((d : Datagram) → P d → Q d) → (ds : List Datagram) → Each P ds → Each Q ds
  each_map f [] h = tt
  each_map f (d ∷ ds) h = (f d h.0, each_map f ds h.1)

module _ (P : Datagram → Type 0) where
  each_take : (n : ℕ) (ds : List Datagram) → Each P ds → Each P (take n ds)
  each_take zero ds h = tt
  each_take (suc n) [] h = tt
  each_take (suc n) (d ∷ ds) h = (h.0, each_take n ds h.1)

  each_drop : (n : ℕ) (ds : List Datagram) → Each P ds → Each P (drop n ds)
  each_drop zero ds h = h
  each_drop (suc n) [] h = tt
  each_drop (suc n) (d ∷ ds) h = each_drop n ds h.1

  each_append : (ds es : List Datagram) → Each P ds → Each P es → Each P (ds ++ es)
  each_append [] es h k = k
  each_append (d ∷ ds) es h k = (h.0, each_append ds es h.1 k)

  -- one that is put in among them is one of them
  each_put : (place : ℕ) (ds : List Datagram) (d : Datagram) → P d → Each P ds → Each P (put_at place ds d)
  each_put place ds d p h = by_room (nat_lt (length ds) most_waiting)
    where
      by_room : (b : Bool) → Each P (if b then insert ds place d else ds)
      by_room true = each_append (take place ds) (d ∷ drop place ds) (each_take place ds h) (p, each_drop place ds h)
      by_room false = h

  -- so whatever becomes of it, each that waits then did before, or it is the one
  each_arrived : (fate : Fate) (ds : List Datagram) (d : Datagram) → P d → Each P ds → Each P (arrived fate ds d)
  each_arrived Lost ds d p h = h
  each_arrived Doubled ds d p h =
      let once = put_at (length ds) ds d in each_put (length once) once d p (each_put (length ds) ds d p h)
  each_arrived Overtaking ds d p h = each_put (length ds - 1) ds d p h
  each_arrived Ordinary ds d p h = each_put (length ds) ds d p h

  each_first : (ds : List Datagram) (d : Datagram) → slice_get ds 0 ≡ Some d → Each P ds → P d
  each_first [] d e h = absurd (cc)
  each_first (x ∷ ds) d e h = subst P (some_is x d e) h.0
    where
      some_is : (a b : Datagram) → Some a ≡ Some b → a ≡ b
      some_is a b e = cc

-- ---- what was said

said_more : (items more : List (ℕ × Spoken)) (at : Side) (d : Datagram) → WasSaid items at d → WasSaid (items ++ more) at d
said_more [] more at d h = elim h [ ]
said_more ((by, Said from to bytes) ∷ items) more at d (inl h) = inl h
said_more ((by, Said from to bytes) ∷ items) more at d (inr h) = inr (said_more items more at d h)
said_more ((by, Heard other x) ∷ items) more at d h = said_more items more at d h

said_last : (items : List (ℕ × Spoken)) (by : ℕ) (from at : Side) (to : Addr) (bytes : List ℕ) → to ≡ address_of at → WasSaid (items ++ (by, Said from to bytes) ∷ []) at (datagram_from from bytes)
said_last [] by from at to bytes is = inl (is, refl)
said_last ((n, Said f t b) ∷ items) by from at to bytes is = inr (said_last items by from at to bytes is)
said_last ((n, Heard other x) ∷ items) by from at to bytes is = said_last items by from at to bytes is

-- a datagram reaches only the end to whose address it was said
reached : (to : Addr) (bytes : List ℕ) (at : Side) → receiver_of to bytes ≡ Some at → to ≡ address_of at
reached to bytes at e = by_size (nat_le (length bytes) most_bytes) e
  where
    side_is : (a b : Side) → Some a ≡ Some b → a ≡ b
    side_is a b e = cc

    named : (b c : Bool) → same_addr to (address_of First) ≡ b → same_addr to (address_of Second) ≡ c
        → (if b then Some First else if c then Some Second else None) ≡ Some at → to ≡ address_of at
    named true c is other e = subst (λ s. to ≡ address_of s) (side_is First at e) (same_addr-is to (address_of First) is)
    named false true other is e = subst (λ s. to ≡ address_of s) (side_is Second at e) (same_addr-is to (address_of Second) is)
    named false false other is e = absurd (cc)

    by_size : (b : Bool) → (if b then side_at to else None) ≡ Some at → to ≡ address_of at
    by_size true e = named (same_addr to (address_of First)) (same_addr to (address_of Second)) refl refl e
    by_size false e = absurd (cc)

-- ---- what an end tells

same_side-refl : (at : Side) → same_side at at ≡ true
same_side-refl First = refl
same_side-refl Second = refl

keep_if-append : (b : Bool) (x : Datagram) (xs ys zs : List Datagram) → xs ≡ ys ++ zs → keep_if b x xs ≡ keep_if b x ys ++ zs
keep_if-append true x xs ys zs e = ap (λ us. x ∷ us) e
keep_if-append false x xs ys zs e = e

heard_push : (items : List (ℕ × Spoken)) (by : ℕ) (at : Side) (d : Datagram) → heard_at at (items ++ (by, Heard at d) ∷ []) ≡ heard_at at items ++ d ∷ []
heard_push [] by at d = ap (λ b. keep_if b d []) (same_side-refl at)
heard_push ((n, Said from to bytes) ∷ items) by at d = heard_push items by at d
heard_push ((n, Heard other x) ∷ items) by at d = keep_if-append (same_side other at) x _ _ _ (heard_push items by at d)

abbrev datagram_to : Addr → List ℕ → Datagram
datagram_to to bytes = record { addr = to; bytes = bytes }

said_push : (items : List (ℕ × Spoken)) (by : ℕ) (from : Side) (to : Addr) (bytes : List ℕ)
    → said_from from (items ++ (by, Said from to bytes) ∷ []) ≡ said_from from items ++ record { addr = to; bytes = bytes } ∷ []
said_push [] by from to bytes = ap (λ b. keep_if b (datagram_to to bytes) []) (same_side-refl from)
said_push ((n, Said other t b) ∷ items) by from to bytes = keep_if-append (same_side other from) _ _ _ _ (said_push items by from to bytes)
said_push ((n, Heard at d) ∷ items) by from to bytes = said_push items by from to bytes

-- ---- what waits was said

record Waits (items : List (ℕ × Spoken)) (net : Network) : Type 0 where
  first : Each (WasSaid items First) net.first
  second : Each (WasSaid items Second) net.second

waits_at : (items : List (ℕ × Spoken)) (net : Network) (at : Side) → Waits items net → Each (WasSaid items at) (waiting_at net at)
waits_at items net First h = h.first
waits_at items net Second h = h.second

waits_more : (items more : List (ℕ × Spoken)) (net : Network) → Waits items net → Waits (items ++ more) net
waits_more items more net h = record {
  first = each_map (WasSaid items First) (WasSaid (items ++ more) First) (said_more items more First) net.first h.first;
  second = each_map (WasSaid items Second) (WasSaid (items ++ more) Second) (said_more items more Second) net.second h.second;
}

waits_with : (items : List (ℕ × Spoken)) (net : Network) (at : Side) (ds : List Datagram) → Waits items net → Each (WasSaid items at) ds → Waits items (with_waiting net at ds)
waits_with items net First ds h each = record { first = each; second = h.second }
waits_with items net Second ds h each = record { first = h.first; second = each }

waits_delivered : (items : List (ℕ × Spoken)) (net : Network) (receiver : Option Side) (fate : Fate) (d : Datagram)
    → ((at : Side) → receiver ≡ Some at → WasSaid items at d) → Waits items net → Waits items (delivered net receiver fate d)
waits_delivered items net None fate d said h = h
waits_delivered items net (Some at) fate d said h =
    waits_with items net at (arrived fate (waiting_at net at) d) h (each_arrived (WasSaid items at) fate (waiting_at net at) d (said at refl) (waits_at items net at h))

-- and still is after one more item
waits_after : (items : List (ℕ × Spoken)) (net : Network) (by : ℕ) (item : Spoken) → Waits items net → Waits (items ++ (by, item) ∷ []) (after net item)
waits_after items net by (Said from to bytes) h =
    let drawn : Network = record net { draws = next_state net.draws; count = net.count + 1 } in
    let more = waits_more items ((by, Said from to bytes) ∷ []) net h in
    waits_delivered (items ++ (by, Said from to bytes) ∷ []) drawn (receiver_of to bytes) (fate_of (draw net.draws)) (datagram_from from bytes)
    (λ at is. said_last items by from at to bytes (reached to bytes at is))
    (record { first = more.first; second = more.second })
waits_after items net by (Heard at d) h =
    let counted : Network = record net { count = net.count + 1 } in
    let items' = items ++ (by, Heard at d) ∷ [] in
    let more = waits_more items ((by, Heard at d) ∷ []) net h in
    waits_with items' counted at (drop 1 (waiting_at net at)) (record { first = more.first; second = more.second })
    (each_drop (WasSaid items' at) 1 (waiting_at net at) (waits_at items' net at more))

-- by a walk over what came before it, with all that was passed
heard_said : (before : List (ℕ × Spoken)) (net : Network) (passed later : List (ℕ × Spoken)) (by : ℕ) (at : Side) (d : Datagram)
    → Waits passed net → MayFollow tale_of_nets net (before ++ (by, Heard at d) ∷ later) → WasSaid (passed ++ before) at d
heard_said [] net passed later by at d waits legal =
    subst (λ l. WasSaid l at d) (sym (append-nil passed)) (each_first (WasSaid passed at) (waiting_at net at) d legal.0 (waits_at passed net at waits))
heard_said (x ∷ before) net passed later by at d waits legal =
    subst (λ l. WasSaid l at d) (append_assoc passed (x ∷ []) before)
    (heard_said before (after net x.1) (passed ++ x ∷ []) later by at d (waits_after passed net x.0 x.1 waits) legal.2)

pub hears_what_was_said : HearsWhatWasSaid
hears_what_was_said net items silent legal =
    let none : Waits [] net = record {
      first = subst (Each (WasSaid [] First)) (sym silent.first) tt;
      second = subst (Each (WasSaid [] Second)) (sym silent.second) tt;
    } in
    record { earlier = λ before later by at d is. heard_said before net [] later by at d none (subst (MayFollow tale_of_nets net) is legal) }

-- nothing was heard in a history without items
pub none_heard : (items : List (ℕ × Spoken)) → items ≡ [] → HeardWasSaid items
none_heard items none = record { earlier = λ before later by at d is. absurd (more before (by, Heard at d) later (sym none ∙ is)) }
  where
    more : (before : List (ℕ × Spoken)) (x : ℕ × Spoken) (later : List (ℕ × Spoken)) → [] ≡ before ++ x ∷ later → ⊥
    more [] x later e = cc
    more (y ∷ ys) x later e = cc

-- ---- what a pass has seen

module _ {g : story.Ghosts Network Spoken} where
  pub pass_hears_said : (turn : Turn Network Spoken) (p : Pass Network Spoken g) → IsPassOf turn p → IsSilent (opening_of turn) → IsSound tale_of_nets (view_of p) → HeardWasSaid (seen_of p).items
  pass_hears_said turn p own silent sound = hears_what_was_said (seen_of p).opening (seen_of p).items (subst IsSilent (sym own.opened) silent) sound.legal

  -- an item of its own is the last one that it heard
  pub heard_at_more : (at : Side) (d : Datagram) (p q : Pass Network Spoken g) → Adds tale_of_nets (Heard at d) p q → heard_at at (mine_of q) ≡ heard_at at (mine_of p) ++ d ∷ []
  heard_at_more at d p q adds = ap (heard_at at) adds.mine ∙ heard_push (mine_of p) (number_of p) at d

  -- and the last one that it said
  pub said_from_more : (from : Side) (to : Addr) (bytes : List ℕ) (p q : Pass Network Spoken g) → Adds tale_of_nets (Said from to bytes) p q
      → said_from from (mine_of q) ≡ said_from from (mine_of p) ++ record { addr = to; bytes = bytes } ∷ []
  said_from_more from to bytes p q adds = ap (said_from from) adds.mine ∙ said_push (mine_of p) (number_of p) from to bytes
