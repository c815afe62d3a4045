-- When words are an order, by the steps in which they are read.
use Rattle.std.proofs.Common.{String, ◌≡◌, ◌∙◌, ap₂, if◌then◌else◌, ◌<◌, ◌≤◌, Bool, List, [], ◌∷◌, get_or, length, IfSome, Option, Some, None, Result, Ok, Err, refl, sym, arith, rules}
use Rattle.std.specs.List.{list_any}
use Rattle.std.specs.Option.{option_and_then}
use Rattle.std.specs.Result.{IsErrAnd}
use Rattle.std.specs.String.{string_bytes}
use Rattle.clap.proofs.WalkLemmas.{list_any-map}
use Rattle.udt_words.specs.declared.commands.Command.{Command}
use Rattle.udt_words.specs.declared.commands.Command.TheVariants as command
use Rattle.udt_words.specs.declared.order.WordsFault.{WordsFault}
use Rattle.udt_words.specs.declared.order.WordsFault.TheVariants.{Usage}
use Rattle.udt_words.specs.Laws.{RefusesFiveWords, RefusesHyphens}
use Rattle.udt_words.specs.Table.{Word, called, check_order, command_of, is_option, ordered, pair_order, record_order, recv_order, replay_order, send_order, spelled, world_order}

module _ {A : Type 0} where
  -- there are no words
  pub without_name : (words : List (String A)) → length words < 1 → called (spelled words) ≡ None
  without_name [] none = refl
  without_name (word ∷ words) none = absurd (omega arith)

  -- a word begins with a hyphen where its bytes do
  pub options : (words : List (String A)) (some : Bool) → some ≡ list_any (λ word. is_option (string_bytes word)) words
      → list_any is_option (spelled words) ≡ some
  options words some tested = sym (tested ∙ list_any-map is_option string_bytes words)

  -- the first word is the name, unless there is one with a hyphen
  pub named : (words : List (String A)) (name : String A) (some : Bool) → 1 ≤ length words → name ≡ get_or words 0 name
      → some ≡ list_any (λ word. is_option (string_bytes word)) words
      → called (spelled words) ≡ (if some then None else command_of (string_bytes name))
  named [] name some more first tested = absurd (omega arith)
  named (word ∷ words) name some more first tested =
      ap₂ (λ (hyphen : Bool) (bytes : String A). if hyphen then None else command_of (string_bytes bytes)) (options (word ∷ words) some tested) (sym first)

-- no line has more than three words after the name
pub no_fourth : (c : Command) (words : List Word) → 3 < length words → ordered c words ≡ None
unfolding replay_order world_order pair_order recv_order send_order record_order check_order
no_fourth c [] more = absurd (omega arith)
no_fourth c (a ∷ []) more = absurd (omega arith)
no_fourth c (a ∷ b ∷ []) more = absurd (omega arith)
no_fourth c (a ∷ b ∷ d ∷ []) more = absurd (omega arith)
no_fourth command.Replay (a ∷ b ∷ d ∷ e ∷ words) more = refl
no_fourth command.World (a ∷ b ∷ d ∷ e ∷ words) more = refl
no_fourth command.Pair (a ∷ b ∷ d ∷ e ∷ words) more = refl
no_fourth command.Recv (a ∷ b ∷ d ∷ e ∷ words) more = refl
no_fourth command.Recv6 (a ∷ b ∷ d ∷ e ∷ words) more = refl
no_fourth command.Send (a ∷ b ∷ d ∷ e ∷ words) more = refl
no_fourth command.Record (a ∷ b ∷ d ∷ e ∷ words) more = refl
no_fourth command.Check (a ∷ b ∷ d ∷ e ∷ words) more = refl

-- the fault that is handed on is the one that was answered
pub handed_on : {T : Type 0} (r : Result T WordsFault) (fault : WordsFault) → IsErrAnd r (λ e. e ≡ fault) → r ≡ Err Usage → fault ≡ Usage
handed_on (Ok v) fault given same = absurd given
handed_on (Err e) fault given same = cc

-- what holds anyway holds where there is a value
pub holds_anyway : {A : Type 0} {P : Type 0} (o : Option A) → P → IfSome o (λ _. P)
holds_anyway None p = tt
holds_anyway (Some x) p = p

-- ---- all words

pub no_hyphen : RefusesHyphens
no_hyphen [] some = absurd (search rules)
no_hyphen (name ∷ words) some = rw some refl

pub no_fifth : RefusesFiveWords
no_fifth [] more = absurd (omega arith)
no_fifth (name ∷ words) more = go (called (name ∷ words))
  where
    go : (o : Option Command) → option_and_then (λ c. ordered c words) o ≡ None
    go None = refl
    go (Some c) = no_fourth c words (omega arith)
