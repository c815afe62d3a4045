-- What clap answers at a command with three positional arguments, for words of which none begins with a hyphen.
use Rattle.std.proofs.Common.{◌≡◌, ◌⊎◌, ◌∙◌, ◌<◌, ◌||◌, ℕ, Bool, true, false, List, [], ◌∷◌, length, drop, None, Result, Ok, Err, IfOk, IfErr, refl, sym, ap, ap₂, subst, inl, inr, arith, codes, rules}
use Rattle.std.specs.List.{list_any}
use Rattle.std.specs.Str.{bytes_eq}
use Rattle.clap.specs.Lexer.{strip_byte}
use Rattle.clap.specs.Words.{App, FailsBy, HasMatchesOf, IsAmong, Kinds, Row, Rule, Shape, built, fault_of, first_of, found_of, is_simple, is_simple_and_free, kind_of, new_app, new_rule, rows_of, with_rule}
use Rattle.clap.specs.Kinds.{or_else}
use Rattle.clap.specs.Walk.{Held, Walk, after_step, arg_by_index, finished, idle, nothing_held, pushed, rows_after, settled, to_positional, value, walk, walk_from, walked, word_met}
use Rattle.clap.specs.Faults.{built_fault, check_fault, defaults_fault, settle_fault, step_fault, turn_fault, walk_fault, word_fault}
use Rattle.clap.proofs.FaultLemmas.{leaf_fault}
use Rattle.clap.proofs.OnLiterals.{clap_on_literals}
use Rattle.clap.proofs.WalkLemmas.{first_value-rows}
use Rattle.clap.specs.declared.error.Error.{Error}
use Rattle.clap.specs.declared.error.kind.ErrorKind.TheVariants.{OutOfMemory, UnknownArgument}
use Rattle.clap.specs.declared.parser.matches.ArgMatches.{ArgMatches}
use Rattle.udt_words.specs.Table.{Word, is_option}
use Rattle.udt_words.specs.Given.{listed, words_found}

-- the command
abbrev pub command : App
command = with_rule (with_rule (with_rule (new_app (codes "udt")) (new_rule (codes "first"))) (new_rule (codes "second"))) (new_rule (codes "third"))

abbrev top : Shape
top = (built command).top

pub command_is_simple : is_simple command ≡ true
command_is_simple = refl

pub command_is_free : is_simple_and_free command ≡ true
command_is_free = refl

-- ---- one word

-- between two words: what is held, and the place of the positional that comes next
abbrev at : Held → ℕ → Walk
at h place = record { held = h; waiting = idle; position = place; is_trailing = false; stopped = None }

-- a word without a hyphen is a value
meets : (c : List Rule) (place : ℕ) (word : Word) (h : Held) → is_option word ≡ false → word_met c [] false idle place word h ≡ (h, value)
meets c place [] h e = refl
meets c place (x ∷ xs) h e =
    let no_flag : strip_byte 45 (x ∷ xs) ≡ None = rw e refl in
    let other : bytes_eq (x ∷ xs) (45 ∷ 45 ∷ []) ≡ false = rw e refl in
    rw (other, no_flag, no_flag) refl

blameless : (s : Shape) (word : Word) (h : Held) → is_option word ≡ false → word_fault s [] false idle word h ≡ []
blameless s [] h e = refl
blameless s (x ∷ xs) h e =
    let no_flag : strip_byte 45 (x ∷ xs) ≡ None = rw e refl in
    let other : bytes_eq (x ∷ xs) (45 ∷ 45 ∷ []) ≡ false = rw e refl in
    rw (other, no_flag, no_flag) refl

goes : (c : List Rule) (place : ℕ) (word : Word) (h : Held) → is_option word ≡ false
    → walked c [] (at h place) word ≡ to_positional c (arg_by_index c place) word (at h place) h
unfolding clap_on_literals
goes c place word h e = ap (λ met. after_step c word (at h place) met.0 met.1) (meets c place word h e)

turns : (s : Shape) (place : ℕ) (word : Word) (h : Held) → is_option word ≡ false → turn_fault s [] (at h place) word ≡ step_fault s place h value
turns s place word h e = ap₂ (λ fault met. or_else fault (step_fault s place met.0 met.1)) (blameless s word h e) (meets s.rules place word h e)

fails : (s : Shape) (place : ℕ) (word : Word) (words : List Word) (h : Held) → is_option word ≡ false
    → walk_fault s [] (at h place) (word ∷ words)
    ≡ or_else (step_fault s place h value) (walk_fault s [] (to_positional s.rules (arg_by_index s.rules place) word (at h place) h) words)
unfolding clap_on_literals
fails s place word words h e = ap₂ or_else (turns s place word h e) (ap (λ w. walk_fault s [] w words) (goes s.rules place word h e))

-- ---- up to three words, and more

-- what is held after a word, two and three
abbrev after_one : Word → Held
after_one a = pushed (codes "first") a nothing_held

abbrev after_two : Word → Word → Held
after_two a b = pushed (codes "second") b (settled top.rules (after_one a))

abbrev after_three : Word → Word → Word → Held
after_three a b c = pushed (codes "third") c (settled top.rules (after_two a b))

walk_one : (a : Word) → is_option a ≡ false → walk top.rules [] nothing_held (a ∷ []) ≡ at (after_one a) 2
walk_one a na = goes top.rules 1 a nothing_held na

walk_two : (a b : Word) → is_option a ≡ false → is_option b ≡ false → walk top.rules [] nothing_held (a ∷ b ∷ []) ≡ at (after_two a b) 3
walk_two a b na nb = ap (λ w. walked top.rules [] w b) (walk_one a na) ∙ goes top.rules 2 b (after_one a) nb

walk_three : (a b c : Word) → is_option a ≡ false → is_option b ≡ false → is_option c ≡ false
    → walk top.rules [] nothing_held (a ∷ b ∷ c ∷ []) ≡ at (after_three a b c) 4
walk_three a b c na nb nc = ap (λ w. walked top.rules [] w c) (walk_two a b na nb) ∙ goes top.rules 3 c (after_two a b) nc

-- what a fault of the words, and then what is held at their end, come to
abbrev ended : Kinds → Walk → Kinds
ended walked w =
    let again = top.args_override_self in
    or_else walked (or_else (settle_fault top.rules again w.held)
    (or_else (defaults_fault (settled top.rules w.held).rows top.rules) (check_fault top (finished top.rules w.held) false)))

fails_one : (a : Word) (words : List Word) → is_option a ≡ false
    → walk_fault top [] (walk_from nothing_held) (a ∷ words) ≡ walk_fault top [] (at (after_one a) 2) words
fails_one a words na = fails top 1 a words nothing_held na

fails_two : (a b : Word) (words : List Word) → is_option a ≡ false → is_option b ≡ false
    → walk_fault top [] (walk_from nothing_held) (a ∷ b ∷ words) ≡ walk_fault top [] (at (after_two a b) 3) words
fails_two a b words na nb = fails_one a (b ∷ words) na ∙ fails top 2 b words (after_one a) nb

fails_three : (a b c : Word) (words : List Word) → is_option a ≡ false → is_option b ≡ false → is_option c ≡ false
    → walk_fault top [] (walk_from nothing_held) (a ∷ b ∷ c ∷ words) ≡ walk_fault top [] (at (after_three a b c) 4) words
fails_three a b c words na nb nc = fails_two a b (c ∷ words) na nb ∙ fails top 3 c words (after_two a b) nc

fails_four : (a b c d : Word) (words : List Word) → is_option a ≡ false → is_option b ≡ false → is_option c ≡ false → is_option d ≡ false
    → walk_fault top [] (walk_from nothing_held) (a ∷ b ∷ c ∷ d ∷ words) ≡ UnknownArgument ∷ []
fails_four a b c d words na nb nc nd = fails_three a b c (d ∷ words) na nb nc ∙ fails top 4 d words (after_three a b c) nd

-- ---- the words of a command line, of which the first names the program

-- the words that rows hold
abbrev words_held : List Row → List Word
words_held rows = listed (first_of (codes "first") rows) (first_of (codes "second") rows) (first_of (codes "third") rows)

abbrev fault : List Word → Kinds
fault words = built_fault (built command) nothing_held words

abbrev held : List Word → List Row
held words = rows_after top.rules [] words

-- the words are taken, each at its place
record AreTaken (words : List Word) : Type 0 where
  faultless : fault words ≡ []
  each : words_held (held words) ≡ words

-- there is no place for a fourth word
record AreTooMany (words : List Word) : Type 0 where
  more : 3 < length words
  faulty : fault words ≡ UnknownArgument ∷ []

fault_is : (words : List Word) → fault words ≡ ended (walk_fault top [] (walk_from nothing_held) words) (walk top.rules [] nothing_held words)
fault_is words = leaf_fault (built command) nothing_held words refl

none_of : (x y : Bool) → (x || y) ≡ false → (x ≡ false) × (y ≡ false)
none_of true y h = absurd (search rules)
none_of false y h = (refl, h)

outcome : (words : List Word) → list_any is_option words ≡ false → AreTaken words ⊎ AreTooMany words
unfolding clap_on_literals
outcome [] none = inl (record { faultless = refl; each = refl })
outcome (a ∷ []) none =
    let (na, _) = none_of _ _ none in
    inl (record {
      faultless = fault_is (a ∷ []) ∙ ap₂ ended (fails_one a [] na) (walk_one a na);
      each = ap (λ w. words_held (finished top.rules w.held)) (walk_one a na);
    })
outcome (a ∷ b ∷ []) none =
    let (na, others) = none_of _ _ none in
    let (nb, _) = none_of _ _ others in
    inl (record {
      faultless = fault_is (a ∷ b ∷ []) ∙ ap₂ ended (fails_two a b [] na nb) (walk_two a b na nb);
      each = ap (λ w. words_held (finished top.rules w.held)) (walk_two a b na nb);
    })
outcome (a ∷ b ∷ c ∷ []) none =
    let (na, others) = none_of _ _ none in
    let (nb, last) = none_of _ _ others in
    let (nc, _) = none_of _ _ last in
    inl (record {
      faultless = fault_is (a ∷ b ∷ c ∷ []) ∙ ap₂ ended (fails_three a b c [] na nb nc) (walk_three a b c na nb nc);
      each = ap (λ w. words_held (finished top.rules w.held)) (walk_three a b c na nb nc);
    })
outcome (a ∷ b ∷ c ∷ d ∷ words) none =
    let (na, others) = none_of _ _ none in
    let (nb, rest) = none_of _ _ others in
    let (nc, last) = none_of _ _ rest in
    let (nd, _) = none_of _ _ last in
    inr (record {
      more = omega arith;
      faulty = fault_is (a ∷ b ∷ c ∷ d ∷ words)
          ∙ ap (λ f. ended f (walk top.rules [] nothing_held (a ∷ b ∷ c ∷ d ∷ words))) (fails_four a b c d words na nb nc nd);
    })

none_after : (words : List Word) → list_any is_option words ≡ false → list_any is_option (drop 1 words) ≡ false
none_after [] none = refl
none_after (name ∷ words) none = (none_of _ _ none).1

words_by_rows : (found : ArgMatches) (rows : List Row) → rows_of (found_of found) ≡ rows → words_found found ≡ words_held rows
words_by_rows found rows same =
    rw (first_value-rows (found_of found) (codes "first"), first_value-rows (found_of found) (codes "second"), first_value-rows (found_of found) (codes "third")) (ap words_held same)

-- a parse that succeeds finds the words
pub finds : (words : List Word) (r : Result ArgMatches Error) → list_any is_option words ≡ false → FailsBy (fault_of command words) r
    → IfOk r (HasMatchesOf command words) → IfOk r (λ found. words_found found ≡ drop 1 words)
finds words (Ok found) none fails matches = elim (outcome (drop 1 words) (none_after words none)) [
  | inl taken ↦ words_by_rows found (held (drop 1 words)) (matches command_is_simple).0 ∙ taken.each
  | inr many ↦ absurd (let kinds : UnknownArgument ∷ [] ≡ [] = sym many.faulty ∙ fails in search rules)
]
finds words (Err e) none fails matches = tt

-- a parse that fails had too many, or no memory
pub fails_by : (words : List Word) (r : Result ArgMatches Error) → list_any is_option words ≡ false → FailsBy (fault_of command words) r
    → IfErr r (λ e. (kind_of e ≡ OutOfMemory) ⊎ (3 < length (drop 1 words)))
fails_by words (Ok found) none fails = tt
fails_by words (Err e) none (inl memory) = inl memory
fails_by words (Err e) none (inr known) = elim (outcome (drop 1 words) (none_after words none)) [
  | inl taken ↦ absurd (let never : IsAmong (kind_of e) [] = subst (IsAmong (kind_of e)) taken.faultless known in never)
  | inr many ↦ inr many.more
]
