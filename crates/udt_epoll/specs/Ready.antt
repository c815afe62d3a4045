-- Which members of a poll are ready, once each was asked.
use Rattle.std.specs.Prelude.{◌≡◌, ℕ, Bool, not, ◌==◌, bit_and, List, map, filter}
use Rattle.std.specs.List.{AllZip}
use Rattle.udt_epoll.specs.Members.{Watch, Members}

module _ {M : Type 0} where
  -- an answer has a bit that its member is watched for
  abbrev pub is_ready : (M → ℕ) → ℕ × Watch M → Bool
  is_ready answer m = not (bit_and (answer m.1.member) m.1.interest == 0)

  -- the ready members in order of ID, each with its whole answer
  abbrev pub ready_of : (M → ℕ) → Members M → List (ℕ × ℕ)
  ready_of answer members = map (λ m. (m.0, answer m.1.member)) (filter (is_ready answer) members)

  -- a member was asked once, and its ID and its interest stayed
  pub record WasAsked (asked : M → M → Type 0) (before after : ℕ × Watch M) : Type 0 where
    pub id : after.0 ≡ before.0
    pub interest : after.1.interest ≡ before.1.interest
    pub once : asked before.1.member after.1.member

  -- each member was asked once, and none came or went
  abbrev pub AllAsked : (M → M → Type 0) → Members M → Members M → Type 0
  AllAsked asked before after = AllZip (WasAsked asked) before after
