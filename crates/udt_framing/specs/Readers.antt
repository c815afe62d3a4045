-- What a reader of a frame knows of the bytes that it was fed.
use Rattle.std.specs.Prelude.{◌≡◌, ℕ, ◌^◌, ◌<◌, ◌↔◌, Bool, List, length, take}
use Rattle.std.specs.Bool.{MatchBool}
use Rattle.udt_model.specs.Emissions.{IsPrefix}
use Rattle.udt_framing.specs.Framing.{header_of, BeginsFrame, file_of}

-- the header as far as it was read, the number of file bytes that followed, and whether the frame is bad
pub record Reading : Type 0 where
  pub head : List ℕ
  pub got : ℕ
  pub bad : Bool

-- these bytes begin a frame, and the reader knows its header and its number of file bytes so far
pub record FollowsFrame (r : Reading) (fed : List ℕ) : Type 0 where
  pub begins : BeginsFrame fed
  pub head : r.head ≡ take 12 fed
  pub got : r.got ≡ length (file_of fed)

-- these are all the bytes that a reader was fed, whatever pieces they came in. It is bad exactly where
-- they begin no frame, and its header is whole exactly where they begin with it
pub record WasFed (r : Reading) (fed : List ℕ) : Type 0 where
  pub place : MatchBool r.bad (¬ BeginsFrame fed) (FollowsFrame r fed)
  pub told : (len : ℕ) → len < 2 ^ 64 → (r.head ≡ header_of len) ↔ IsPrefix (header_of len) fed
