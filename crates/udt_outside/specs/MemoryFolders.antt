-- A folder in memory.
use Rattle.std.specs.Prelude.{◌≡◌, ◌⊎◌, ℕ, ◌+◌, ◌-◌, ◌^◌, min, Bool, true, false, List, [], ◌∷◌, Option, Some, None, option_map, nat_eq, if◌then◌else◌}
use Rattle.std.specs.List.{find}
use Rattle.std.specs.Cmp.Lexicographic.{pointwise}
use Rattle.udt_outside.specs.declared.folder.Create.{Create}
use Rattle.udt_outside.specs.declared.folder.Create.TheVariants.{Made, Exists}
use Rattle.udt_outside.specs.Calls.{Schedule, failed_of, fails_next, after_call}
use Rattle.udt_outside.specs.Memory.{Input, Output, IsFreshOutput, read_faults, write_faults}
use Rattle.udt_outside.specs.Faults.{with_faults}
use Rattle.udt_outside.specs.Folders.{Files}

pub record File : Type 0 where
  pub name : List ℕ
  pub bytes : List ℕ

-- a folder: its files, the youngest first, and whether memory ran out while one was kept. How its ends behave. Its calls,
-- the faults that its list doesn't name, those of its ends among them, and how often a name was met. The last number told,
-- and the last end that was taken back
pub record FileStore : Type 0 where
  pub files : List File
  pub lost : Bool
  pub piece : ℕ
  pub room : ℕ
  pub read_failing : List ℕ
  pub write_failing : List ℕ
  pub calls : Schedule
  pub more_faults : ℕ
  pub met : ℕ
  pub told : Option ℕ
  pub back : Option Input

-- a folder that was just made
abbrev pub empty_store : ℕ → ℕ → List ℕ → List ℕ → List ℕ → FileStore
empty_store piece room failing read_failing write_failing =
    record {
      files = [];
      lost = false;
      piece = piece;
      room = room;
      read_failing = read_failing;
      write_failing = write_failing;
      calls = record { failing = failing; made = 0 };
      more_faults = 0;
      met = 0;
      told = None;
      back = None;
    }

-- whether the file has this name
abbrev pub has_name : List ℕ → File → Bool
has_name name file = pointwise nat_eq file.name name

-- the bytes of the youngest file of this name
abbrev pub file_of : List File → List ℕ → Option (List ℕ)
file_of files name = option_map (λ file. file.bytes) (find (has_name name) files)

-- the files are told unless memory ran out while one was kept
abbrev pub files_of : FileStore → Option Files
files_of s = if s.lost then None else Some (file_of s.files)

-- how many calls failed, and how many calls of ends that were taken back
abbrev pub all_faults : FileStore → ℕ
all_faults s = min (failed_of s.calls + s.more_faults) (2 ^ 64 - 1)

-- what the last end that was taken back had left
abbrev pub unread_of : FileStore → Option (List ℕ)
unread_of s = option_map (λ input. input.left) s.back

-- a file stands before those that were there
abbrev pub with_file : FileStore → List ℕ → List ℕ → FileStore
with_file s name bytes = record s { files = record { name = name; bytes = bytes } ∷ s.files }

-- a file was opened, and its length was told
abbrev pub after_opening : FileStore → ℕ → FileStore
after_opening s len = record s { calls = after_call s.calls; told = Some len }

-- an end was made, or the name was met and counted
abbrev pub after_creating : FileStore → Create Output → FileStore
after_creating s (Made out) = record s { calls = after_call s.calls }
after_creating s Exists = record s { calls = after_call s.calls; met = min (s.met + 1) (2 ^ 64 - 1) }

-- a call failed, by the list or else with a count of its own
abbrev pub after_fault : FileStore → FileStore
after_fault s =
    record s {
      calls = after_call s.calls;
      more_faults = if fails_next s.calls then s.more_faults else with_faults s.more_faults 1;
    }

-- an end that wrote was taken back, and what it took is the file of this name
abbrev pub after_keeping : FileStore → List ℕ → Output → FileStore
after_keeping s name out =
    let kept = with_file s name out.taken in
    record kept { more_faults = with_faults s.more_faults (write_faults out) }

-- an end that wrote was taken back, and there was no memory for its file
abbrev pub after_losing : FileStore → Output → FileStore
after_losing s out =
    record s {
      lost = true;
      more_faults = with_faults (with_faults s.more_faults (write_faults out)) 1;
    }

-- an end that wrote was taken back, and its file is there unless there was no memory for it
abbrev pub IsAfterKeeping : FileStore → FileStore → List ℕ → Output → Type 0
IsAfterKeeping before after name out =
    (after ≡ after_keeping before name out) ⊎ (after ≡ after_losing before out)

-- an end of the folder that took nothing yet
abbrev pub IsEmptyEnd : FileStore → Output → Type 0
IsEmptyEnd s out = IsFreshOutput out s.room s.piece s.write_failing

-- an end that read was taken back
abbrev pub after_done : FileStore → Input → FileStore
after_done s input =
    record s {
      more_faults = with_faults s.more_faults (read_faults input);
      back = Some input;
    }
