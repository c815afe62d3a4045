-- What one more line does to a world.
use Rattle.std.proofs.Common.{◌≡◌, ℕ, ◌+◌, ◌<◌, Bool, true, false, List, [], ◌∷◌, ◌++◌, length, Some, None, Option, refl, ap}
use Rattle.std.proofs.Common.{◌∙◌, sym, arith}
use Rattle.std.specs.Prelude.{option_map, ◌^◌, if◌then◌else◌}
use Rattle.std.proofs.lemmas.List.Sums.{sum_by-append}
use Rattle.udt_model.specs.Network as model
use Rattle.udt_model.specs.Lines as lines
use Rattle.udt_model.specs.Rate.{Ways}
use Rattle.udt_model.specs.Script.{Printed, on_line, left_by, network_after, played_line, printed_after, fits_after, size_of}
use Rattle.udt_world.specs.declared.world.World.TheInside.{Inside}
use Rattle.udt_world.specs.Views.{View, Shows}
use Rattle.udt_world.specs.InStep.{AllAdoptBack, AreAllInStep, AllShowMessages}
use Rattle.udt_world.specs.Worlds.{lines_in, lines_of, IsWorld}
use Rattle.udt_world.specs.Done.{DoesLine}
use Rattle.udt_world.specs.Kept.{kept_lines}
use Rattle.udt_world.specs.ScriptLines.{Accepts, Refuses}
use Rattle.udt_world.proofs.LineLemmas.{one_more}
use Rattle.udt_world.proofs.ScriptLaws.{script_adoption, script_prefix, script_messages}

-- the lines are of as many bytes more as the last one has, and its line feed
size-more : (lines : List (List ℕ)) (line : List ℕ) → size_of (lines ++ line ∷ []) ≡ size_of lines + (length line + 1)
size-more lines line =
    let last : size_of (line ∷ []) ≡ length line + 1 = omega arith in
    sum_by-append (λ (l : List ℕ). length l + 1) lines (line ∷ []) ∙ ap (λ n. size_of lines + n) last

module _ {C : Type 0} (w : Ways C) where
  -- what a line prints where it fits
  printed-fits : (lines : List (List ℕ)) (line : List ℕ) → fits_after lines line ≡ true
      → printed_after w lines line ≡ option_map (λ (p : Printed C). p.text) (played_line w (network_after w lines) line)
  unfolding printed_after
  printed-fits lines line fits = rw fits refl

  -- and where it doesn't, it prints nothing
  pub printed-none : (lines : List (List ℕ)) (line : List ℕ) → fits_after lines line ≡ false
      → printed_after w lines line ≡ None
  unfolding printed_after
  printed-none lines line fits = rw fits refl

  -- a line that can't be read is refused, another does what it says
  module _ {A : Type 0} (n : model.Network C) (line : List ℕ) (f : A → lines.Line) (found : Option A)
      (read : option_map f found ≡ lines.read_line line) where
    pub played_none : found ≡ None → played_line w n line ≡ None
    unfolding played_line
    played_none none = let e : lines.read_line line ≡ None = sym read ∙ ap (option_map f) none in rw e refl

    pub played_some : (x : A) → found ≡ Some x → played_line w n line ≡ on_line w n (f x)
    unfolding played_line
    played_some x some =
        let e : lines.read_line line ≡ Some (f x) = sym read ∙ ap (option_map f) some in
        rw e refl

  -- ---- one more line

  module _ (lines new_lines : List (List ℕ)) (line : List ℕ) (new : View C) (before after : List ℕ) where
    -- the line was accepted, and these are the lines with it
    pub record Accepted : Type 0 where
      pub shown : Shows w (network_after w new_lines) new
      pub size : size_of new_lines ≡ size_of lines + (length line + 1)
      pub answer : Accepts (printed_after w lines line) lines line (Some new_lines) before after

    -- it was refused, and the lines are as they were
    pub record Refused : Type 0 where
      pub shown : Shows w (network_after w new_lines) new
      pub same : new_lines ≡ lines
      pub answer : Refuses (printed_after w lines line) lines (Some new_lines) before after

    accepted_by : (n : model.Network C) (planned : Option (Printed C)) → new_lines ≡ lines ++ line ∷ []
        → printed_after w lines line ≡ option_map (λ (p : Printed C). p.text) planned
        → network_after w (lines ++ line ∷ []) ≡ left_by n planned → DoesLine w n planned true new before after → Accepted
    accepted_by n None kept printed made does = absurd does
    accepted_by n (Some p) kept printed made does = record {
      shown = rw (kept, made) does.0;
      size = rw kept (size-more lines line);
      answer = record { text = p.text; printed = printed; kept = ap (λ l. Some l) kept; output = does.1 };
    }

    refused_by : (n : model.Network C) (planned : Option (Printed C)) → new_lines ≡ lines
        → printed_after w lines line ≡ option_map (λ (p : Printed C). p.text) planned
        → network_after w lines ≡ n → DoesLine w n planned false new before after → Refused
    refused_by n (Some p) kept printed made does = absurd does
    refused_by n None kept printed made does = record {
      shown = rw (kept, made) does.0;
      same = kept;
      answer = record { refused = printed; same = ap (λ l. Some l) kept; output = does.1 };
    }

    -- what a line that was read and played does
    module _ (old : View C) (shows : Shows w (network_after w lines) old) (fits : fits_after lines line ≡ true) where
      abbrev before_it : model.Network C
      before_it = network_after w lines

      pub accepted : (did : Bool) → did ≡ true → new_lines ≡ kept_lines did lines line
          → ((n : model.Network C) → Shows w n old → DoesLine w n (played_line w n line) did new before after) → Accepted
      accepted true is kept does =
          accepted_by before_it (played_line w before_it line) kept (printed-fits lines line fits)
          (one_more w model.empty_network lines line) (does before_it shows)
      accepted false is kept does = absurd (cc)

      pub refused : (did : Bool) → did ≡ false → new_lines ≡ kept_lines did lines line
          → ((n : model.Network C) → Shows w n old → DoesLine w n (played_line w n line) did new before after) → Refused
      refused false is kept does =
          refused_by before_it (played_line w before_it line) kept (printed-fits lines line fits) refl (does before_it shows)
      refused true is kept does = absurd (cc)

  -- ---- what the sockets keep

  -- the laws of scripts hold of lines of few bytes
  module _ (lines : List (List ℕ)) where
    pub adopts_small : (lost : Bool) → (lost ≡ false → size_of lines < 2 ^ 30)
        → AllAdoptBack w (if lost then None else Some lines)
    adopts_small true small = tt
    adopts_small false small =
        λ place socket peer emitted. script_adoption w lines place socket peer (small refl) emitted

    pub steps_small : (lost : Bool) → (lost ≡ false → size_of lines < 2 ^ 30)
        → AreAllInStep w (if lost then None else Some lines)
    steps_small true small = tt
    steps_small false small =
        λ place peer_place socket peer emitted. script_prefix w lines place peer_place socket peer (small refl) emitted

    pub shows_small : (lost : Bool) → (lost ≡ false → size_of lines < 2 ^ 30)
        → AllShowMessages w (if lost then None else Some lines)
    shows_small true small = tt
    shows_small false small =
        λ place peer_place socket peer emitted. script_messages w lines place peer_place socket peer (small refl) emitted

  -- the lines of a world are of few bytes
  module _ (world : Inside C) (is : IsWorld w world) where
    pub small_world : world.lost ≡ false → size_of (lines_in world) < 2 ^ 30
    small_world kept = omega (arith, is.size_is kept, is.bound)

    pub adopts : AllAdoptBack w (lines_of world)
    adopts = adopts_small (lines_in world) world.lost small_world

    pub steps : AreAllInStep w (lines_of world)
    steps = steps_small (lines_in world) world.lost small_world

    pub shows : AllShowMessages w (lines_of world)
    shows = shows_small (lines_in world) world.lost small_world
