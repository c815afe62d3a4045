-- The parts of a piece of memory, in order.
use Rattle.std.specs.Prelude.{ℕ, List, [], ◌++◌, take, drop, replicate, slice_set, flat_map, refl}
use Rattle.std.specs.Coded.{Coded, code_by, coded×, coded_ℕ, coded_list}

-- a part: what is known of its bytes, and the bytes
pub record Part (H : Type 0) : Type 0 where
  pub head : H
  pub bytes : List ℕ

-- the parts from the first one on, and how many bytes each has room for
pub record Parts (H : Type 0) : Type 0 where
  pub room : ℕ
  pub list : List (Part H)

-- a part is stored as the pair of its head and its bytes
abbrev pub part_code : {H : Type 0} → Coded H → Coded (Part H)
part_code {H} code =
    code_by (H × List ℕ) (coded× code (coded_list coded_ℕ))
    (λ p. (p.head, p.bytes)) (λ p. record { head = p.0; bytes = p.1 }) (λ _. refl)

-- and the parts as the pair of their room and their list
abbrev pub parts_code : {H : Type 0} → Coded H → Coded (Parts H)
parts_code {H} code =
    code_by (ℕ × List (Part H)) (coded× coded_ℕ (coded_list (part_code code)))
    (λ p. (p.room, p.list)) (λ p. record { room = p.0; list = p.1 }) (λ _. refl)

-- a list that begins this many places later, where those before come after all others
abbrev pub turned : {X : Type 0} → ℕ → List X → List X
turned by xs = drop by xs ++ take by xs

module _ {H : Type 0} where
  -- a part with this head and no bytes
  abbrev pub empty_part : H → Part H
  empty_part head = record { head = head; bytes = [] }

  -- the bytes of parts, joined
  abbrev pub joined : List (Part H) → List ℕ
  joined parts = flat_map (λ part. part.bytes) parts

  -- the parts with another head and other bytes in one of them
  abbrev pub with_part : Parts H → ℕ → H → List ℕ → Parts H
  with_part ring i head bytes = record ring { list = slice_set ring.list i (record { head = head; bytes = bytes }) }

  -- the parts from one this many later on, where those before come after all others with this head and no bytes
  abbrev pub turned_by : ℕ → H → Parts H → Parts H
  turned_by by head ring = record ring { list = drop by ring.list ++ replicate by (empty_part head) }
