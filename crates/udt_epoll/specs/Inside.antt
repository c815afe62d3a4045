-- How a poll keeps its members.
use Rattle.std.specs.Prelude.{◌≡◌, ℕ, List, map}
use Rattle.std.specs.List.{AllByRecursion}
use Rattle.udt_epoll.specs.Members.{Watch, Members}
use Rattle.udt_epoll.specs.declared.asking.Watched.{Watched}
use Rattle.udt_epoll.specs.declared.poll.Poll.TheInside.{Inside}

module _ {M : Type 0} where
  -- a member without its last answer
  abbrev pub watch_of : Watched M → Watch M
  watch_of w = record { interest = w.interest; member = w.member }

  -- the members that the entries of its map are
  abbrev pub listed : List (ℕ × Watched M) → Members M
  listed entries = map (λ e. (e.0, watch_of e.1)) entries

  -- each member stands beside the answer that it gave last
  abbrev pub AnswersStand : (M → ℕ) → List (ℕ × Watched M) → Type 0
  AnswersStand answer entries = AllByRecursion (λ e. e.1.answer ≡ answer e.1.member) entries

  -- the members of a poll
  abbrev pub members_of : Inside M → Members M
  members_of p = listed p.members.entries
