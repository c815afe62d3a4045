-- What a script and its output say that was sent and received.
use Rattle.std.specs.Prelude.{◌≡◌, ℕ, ◌+◌, false, Bool, List, [], ◌++◌, length, map, take, Option, Some, IfSome, if◌then◌else◌}
use Rattle.std.specs.List.{flat_map}
use Rattle.udt_model.specs.declared.limits.TheConstants.{LONGEST_SCRIPT}
use Rattle.udt_model.specs.Lines.{AreEmitted}
use Rattle.udt_model.specs.Script.{Played, pieces_of, line_in, refused_at}
use Rattle.udt_world.specs.Transcripts.{Entry, entry_text, lines_in, AreInStep}
use Rattle.udt_tool.specs.declared.offline.TheConstants.{DONE, REFUSED}

-- the lines of a script. No byte after the first one past the limit is looked at
abbrev pub lines_of : List ℕ → List (List ℕ)
lines_of script = map line_in (pieces_of (take (LONGEST_SCRIPT + 1) script))

-- entries tell the lines of a script from its first one to its end, or to the one before a line that is refused; and where
-- none of these gives bytes of its own, each name received a prefix of what its peer sent
pub record TellsScript (script : List ℕ) (p : Played) : Type 0 where
  pub entries : List Entry
  pub others : List (List ℕ)
  pub lines_are : lines_of script ≡ lines_in entries ++ others
  pub text : p.text ≡ flat_map entry_text entries ++ (if p.refused then (refused_at (length entries + 1)).text else [])
  pub whole : p.refused ≡ false → others ≡ []
  pub in_step : AreEmitted (lines_in entries) → AreInStep entries

-- the output took a text that so tells the script
abbrev pub WroteTold : List ℕ → Bool → List ℕ → Option (List ℕ) → Type 0
WroteTold script refused before after =
    (text : List ℕ) × (after ≡ Some (before ++ text)) × TellsScript script (record { text = text; refused = refused })

-- where the input and the output are told, a script that was done, or refused at a line, was so told
pub record PlaysInStep (before taken_before taken_after : Option (List ℕ)) (status : ℕ) : Type 0 where
  pub done : status ≡ DONE
      → IfSome before (λ script. IfSome taken_before (λ taken. WroteTold script Bool.false taken taken_after))
  pub refused : status ≡ REFUSED
      → IfSome before (λ script. IfSome taken_before (λ taken. WroteTold script Bool.true taken taken_after))
