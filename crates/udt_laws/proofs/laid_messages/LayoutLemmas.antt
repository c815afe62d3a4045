-- How the messages of a layout lie: each fills its offsets, no two share one, and the bytes of its blocks are its own.
use Rattle.std.proofs.Common.{◌≡◌, ℕ, ◌+◌, ◌-◌, ◌*◌, ◌<◌, ◌≤◌, List, [], ◌∷◌, ◌++◌, length, take, drop, ap, ◌∙◌, sym, subst, inl, inr, arith}
use Rattle.std.specs.List.{Contains}
use Rattle.std.proofs.Math.Nat.{mul-le-mul_right}
use Rattle.std.proofs.lemmas.Bool.{cases_lt}
use Rattle.std.proofs.lemmas.List.{take-append-drop, drop-drop, take_all, length-drop, length-take}
use Rattle.udt_model.specs.SendBlocks.{count_for}
use Rattle.udt_model.proofs.SendingLemmas.{count_for-enough}
use Rattle.udt_laws.proofs.laid_messages.Layout.{LaidMessage, AreLaidOut}
use Rattle.udt_model.proofs.Members.{none-contained, contained-cases}

-- ---- where a message lies

-- the message fills its offsets with its bytes, and none of them is before the start
pub record LiesFrom (payload start : ℕ) (laid : LaidMessage) : Type 0 where
  pub from : start ≤ laid.message.first
  pub some : 1 ≤ length laid.bytes
  pub ends : laid.message.last + 1 ≡ laid.message.first + count_for (length laid.bytes) payload

-- the offset is one of the message
pub record Covers (laid : LaidMessage) (offset : ℕ) : Type 0 where
  pub from : laid.message.first ≤ offset
  pub to : offset ≤ laid.message.last

-- ---- slices

-- no block that bytes fill is empty
pub count_for-within : (len payload n : ℕ) → 1 ≤ payload → 1 ≤ len → n < count_for len payload → n * payload < len
count_for-within len payload n some more less =
    let next : n + 1 ≤ count_for len payload = omega arith in
    let most : (n + 1) * payload ≤ count_for len payload * payload = mul-le-mul_right payload next in
    omega arith

pub count_for-some : (len payload : ℕ) → 1 ≤ payload → 1 ≤ len → 1 ≤ count_for len payload
count_for-some len payload some more = elim (cases_lt 0 (count_for len payload)) [
  | inl above ↦ above
  | inr none ↦
      let zero : count_for len payload ≡ 0 = omega (arith, none) in
      absurd (omega (arith, subst (λ (n : ℕ). len ≤ n * payload) zero (count_for-enough len payload some)))
]

-- the bytes of a message from its block of this place on
abbrev pub rest_of : ℕ → LaidMessage → ℕ → List ℕ
rest_of payload laid n = drop (n * payload) laid.bytes

pub rest_of-all : (payload : ℕ) (laid : LaidMessage) → rest_of payload laid 0 ≡ laid.bytes
rest_of-all payload laid =
    let none : 0 * payload ≡ 0 = omega arith in
    ap (λ (n : ℕ). drop n laid.bytes) none

-- are those of the block and those from the next one on
pub rest_of-more : (payload n : ℕ) (laid : LaidMessage) → take payload (rest_of payload laid n) ++ rest_of payload laid (n + 1) ≡ rest_of payload laid n
rest_of-more payload n laid =
    let next : (n + 1) * payload ≡ n * payload + payload = omega arith in
    ap (λ (k : ℕ). take payload (rest_of payload laid n) ++ drop k laid.bytes) next
    ∙ ap (λ (rest : List ℕ). take payload (rest_of payload laid n) ++ rest) (sym (drop-drop payload (n * payload) laid.bytes))
    ∙ take-append-drop payload (rest_of payload laid n)

module _ (payload : ℕ) (some : 1 ≤ payload) where
  -- ---- no two share an offset

  pub lies-from : (start : ℕ) (messages : List LaidMessage) (laid : LaidMessage) → AreLaidOut payload start messages → Contains messages laid
      → LiesFrom payload start laid
  unfolding AreLaidOut
  lies-from start [] laid lie among = absurd (none-contained laid among)
  lies-from start (first ∷ others) laid lie among = elim (contained-cases first others laid among) [
    | inl same ↦
        subst (LiesFrom payload start) same (record { from = omega (arith, lie.0); some = lie.1; ends = omega (arith, lie.0, lie.2) })
    | inr later ↦
        let rest = lies-from (first.message.last + 1) others laid lie.3 later in
        record { from = omega (arith, rest.from, lie.2); some = rest.some; ends = rest.ends }
  ]

  pub one-message : (start : ℕ) (messages : List LaidMessage) (one other : LaidMessage) (offset : ℕ) → AreLaidOut payload start messages
      → Contains messages one → Contains messages other → Covers one offset → Covers other offset → one ≡ other
  unfolding AreLaidOut
  one-message start [] one other offset lie among too covers covers_too = absurd (none-contained one among)
  one-message start (first ∷ others) one other offset lie among too covers covers_too = elim (contained-cases first others one among) [
    | inl same ↦ elim (contained-cases first others other too) [
      | inl same_too ↦ sym same ∙ same_too
      | inr later ↦
          let last : first.message.last ≡ one.message.last = ap (λ (x : LaidMessage). x.message.last) same in
          absurd (omega (arith, last, covers.to, covers_too.from, (lies-from (first.message.last + 1) others other lie.3 later).from))
    ]
    | inr sooner ↦ elim (contained-cases first others other too) [
      | inl same_too ↦
          let last : first.message.last ≡ other.message.last = ap (λ (x : LaidMessage). x.message.last) same_too in
          absurd (omega (arith, last, covers_too.to, covers.from, (lies-from (first.message.last + 1) others one lie.3 sooner).from))
      | inr later ↦ one-message (first.message.last + 1) others one other offset lie.3 sooner later covers covers_too
    ]
  ]

  -- ---- the ends of a message

  pub first-covered : (start : ℕ) (laid : LaidMessage) → LiesFrom payload start laid → Covers laid laid.message.first
  first-covered start laid lies =
      record { from = omega arith; to = omega (arith, lies.ends, count_for-some (length laid.bytes) payload some lies.some) }

  -- the block of an offset has some bytes
  pub slice-some : (start : ℕ) (laid : LaidMessage) (offset : ℕ) → LiesFrom payload start laid → Covers laid offset
      → 1 ≤ length (take payload (rest_of payload laid (offset - laid.message.first)))
  slice-some start laid offset lies covers =
      let n = offset - laid.message.first in
      let within = count_for-within (length laid.bytes) payload n some lies.some (omega (arith, lies.ends, covers.from, covers.to)) in
      omega (arith, length-take payload (rest_of payload laid n), length-drop (n * payload) laid.bytes, within)

  -- the last block has all that is left
  pub slice-last : (start : ℕ) (laid : LaidMessage) → LiesFrom payload start laid
      → take payload (rest_of payload laid (laid.message.last - laid.message.first)) ≡ rest_of payload laid (laid.message.last - laid.message.first)
  slice-last start laid lies =
      let n = laid.message.last - laid.message.first in
      let one : n + 1 ≡ count_for (length laid.bytes) payload =
      omega (arith, lies.ends, count_for-some (length laid.bytes) payload some lies.some) in
      let all : length laid.bytes ≤ (n + 1) * payload = subst (λ (k : ℕ). length laid.bytes ≤ k * payload) (sym one) (count_for-enough (length laid.bytes) payload some) in
      take_all payload (rest_of payload laid n) (omega (arith, length-drop (n * payload) laid.bytes, all))
