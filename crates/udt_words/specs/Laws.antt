-- What no command has among its words.
use Rattle.std.specs.Prelude.{◌≡◌, ◌<◌, true, List, length, None}
use Rattle.std.specs.List.{list_any}
use Rattle.udt_words.specs.Table.{Word, is_option, order_of}

-- words of which one begins with a hyphen are no command
abbrev pub RefusesHyphens : Type 0
RefusesHyphens = (words : List Word) → list_any is_option words ≡ true → order_of words ≡ None

-- more than four words are no command
abbrev pub RefusesFiveWords : Type 0
RefusesFiveWords = (words : List Word) → 4 < length words → order_of words ≡ None
