-- The words after a command's name, of which there are three at most.
use Rattle.std.specs.Prelude.{List, [], ◌∷◌, Option, Some, None, codes}
use Rattle.clap.specs.Words.{first_value, found_of}
use Rattle.clap.specs.declared.parser.matches.ArgMatches.{ArgMatches}
use Rattle.udt_words.specs.Table.{Word}
use Rattle.udt_words.specs.declared.arguments.Given.{Given}
use Rattle.udt_words.specs.declared.arguments.Given.TheVariants.{Nothing, One, Two, Three}

-- the words, as a list
abbrev pub words_in : Given → List Word
words_in Nothing = []
words_in (One first) = first.now ∷ []
words_in (Two first second) = first.now ∷ second.now ∷ []
words_in (Three first second third) = first.now ∷ second.now ∷ third.now ∷ []

-- up to three words, as far as they are there
abbrev pub listed : Option Word → Option Word → Option Word → List Word
listed None second third = []
listed (Some first) None third = first ∷ []
listed (Some first) (Some second) None = first ∷ second ∷ []
listed (Some first) (Some second) (Some third) = first ∷ second ∷ third ∷ []

-- the word that was matched under a name
abbrev pub word_found : ArgMatches → Word → Option Word
word_found found name = first_value (found_of found) name

-- the words that were matched
abbrev pub words_found : ArgMatches → List Word
words_found found =
    listed (word_found found (codes "first")) (word_found found (codes "second")) (word_found found (codes "third"))
