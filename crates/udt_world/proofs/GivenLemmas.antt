-- The names that a line gives are such as begin with a letter.
use Rattle.std.proofs.Common.{◌≡◌, ℕ, ◌-◌, ◌^◌, Bool, true, false, List, [], ◌∷◌, Some, None, Option, refl, subst}
use Rattle.std.specs.Prelude.{if◌then◌else◌}
use Rattle.std.proofs.lemmas.Option.{same_Some}
use Rattle.udt_model.specs.Lines as lines
use Rattle.udt_model.specs.declared.limits.TheConstants.{MOST_PAYLOAD, FEWEST_BLOCKS, MOST_BLOCKS, LAST_START}
use Rattle.udt_model.specs.Addresses.{addr_of}
use Rattle.udt_model.specs.Events.{Act, Listen, Connect, Meet, Shake, Send, Recv, SendMessage, RecvMessage, Pack, Tick, Close, Measure, Offer}
use Rattle.udt_model.specs.Lines.{Line, Silent, PairLine, HostLine, OpenLine, AcceptLine, CallLine, DeliverLine, RawLine}
use Rattle.udt_model.specs.Lines.{line_by_words, read_line, is_silent, kind_of, moment_of, call_of, pairing_of}
use Rattle.udt_model.specs.Lines.{pair_line, host_line, open_line, call_line, accept_line, deliver_line, raw_line}
use Rattle.udt_model.specs.Words.{◌>>=◌, is_name, name_of, words_of, number_within, bytes_of}
use Rattle.udt_world.specs.Done.{GivesNames}

-- no line calls for an offer
abbrev pub IsAsked : Act → Type 0
IsAsked (Offer id) = ⊥
IsAsked act = Unit {0}

-- the names that a line gives, or whose socket it calls
abbrev pub Names : Line → Type 0
Names (CallLine name event) = (is_name name ≡ true) × IsAsked event.act
Names line = GivesNames line

-- if there is a value, it is such
pub record Has {A : Type 0} (P : A → Type 0) (found : Option A) : Type 0 where
  pub given : (x : A) → found ≡ Some x → P x

abbrev pub HasNames : Option Line → Type 0
HasNames found = Has Names found

module _ {A : Type 0} {P : A → Type 0} where
  none : Has P None
  none = record { given = λ x is. absurd (cc) }

  some : (x : A) → P x → Has P (Some x)
  some x such = record { given = λ other is. subst P (same_Some x other is) such }

  after : {B : Type 0} (o : Option B) (f : B → Option A) → ((x : B) → o ≡ Some x → Has P (f x)) → Has P (o >>= f)
  after None f h = none
  after (Some x) f h = h x refl

  either : (b : Bool) (x y : Option A) → Has P x → Has P y → Has P (if b then x else y)
  either true x y one other = one
  either false x y one other = other

name-is : (word name : List ℕ) → name_of word ≡ Some name → is_name name ≡ true
name-is word name = by (is_name word) refl
  where
    by : (b : Bool) → is_name word ≡ b → (if b then Some word else None) ≡ Some name → is_name name ≡ true
    by true e is = subst (λ n. is_name n ≡ true) (same_Some word name is) e
    by false e is = absurd (cc)

pairing : (kind a b payload isn blocks : List ℕ) (start : ℕ) → HasNames (pairing_of kind a b payload isn blocks start)
pairing kind a b payload isn blocks start =
    after (kind_of kind) _ (λ k k_is. after (name_of a) _ (λ x x_is. after (name_of b) _ (λ y y_is.
    let both : (is_name x ≡ true) × (is_name y ≡ true) = (name-is a x x_is, name-is b y y_is) in
    after (number_within 1 MOST_PAYLOAD payload) _ (λ p p_is. after (number_within 0 (2 ^ 31 - 1) isn) _ (λ i i_is.
    after (number_within FEWEST_BLOCKS MOST_BLOCKS blocks) _ (λ c c_is.
    some (PairLine (record { kind = k; a = x; b = y; payload = p; isn = i; blocks = c; start = start })) both))))))

pair : (kind : List ℕ) (words : List (List ℕ)) → HasNames (pair_line kind words)
unfolding pair_line
pair kind (a ∷ b ∷ payload ∷ isn ∷ blocks ∷ []) = pairing kind a b payload isn blocks 0
pair kind (a ∷ b ∷ payload ∷ isn ∷ blocks ∷ start ∷ []) =
    after (number_within 0 LAST_START start) _ (λ s s_is. pairing kind a b payload isn blocks s)
pair kind words = none

host : (name : List ℕ) (words : List (List ℕ)) → HasNames (host_line name words)
unfolding host_line
host name (addr ∷ []) = after (name_of name) _ (λ n n_is. after (addr_of addr) _ (λ a a_is. some (HostLine n a) tt))
host name words = none

open_named : (kind : List ℕ) (words : List (List ℕ)) → HasNames (open_line kind words)
unfolding open_line
open_named kind (name ∷ host ∷ payload ∷ isn ∷ blocks ∷ []) =
    after (kind_of kind) _ (λ k k_is. after (name_of name) _ (λ n n_is. after (name_of host) _ (λ h h_is.
    after (number_within 1 MOST_PAYLOAD payload) _ (λ p p_is. after (number_within 0 (2 ^ 31 - 1) isn) _ (λ i i_is.
    after (number_within FEWEST_BLOCKS MOST_BLOCKS blocks) _ (λ c c_is.
    some (OpenLine (record { kind = k; name = n; host = h; payload = p; isn = i; blocks = c })) (name-is name n n_is)))))))
open_named kind words = none

-- ---- calls

abbrev HasAct : Option Act → Type 0
HasAct found = Has IsAsked found

listens : (words : List (List ℕ)) → HasAct (lines.listen_of words)
listens (most ∷ []) = after (number_within 0 (2 ^ 32 - 1) most) _ (λ n is. some (Listen n lines.no_secret) tt)
listens words = none

connects : (words : List (List ℕ)) → HasAct (lines.connect_of words)
connects (to ∷ []) = after (addr_of to) _ (λ a is. some (Connect a) tt)
connects words = none

meets : (words : List (List ℕ)) → HasAct (lines.meet_of words)
meets (to ∷ []) = after (addr_of to) _ (λ a is. some (Meet a) tt)
meets words = none

sends : (words : List (List ℕ)) → HasAct (lines.send_of words)
sends (bytes ∷ []) = after (bytes_of bytes) _ (λ b is. some (Send b) tt)
sends words = none

receives : (words : List (List ℕ)) → HasAct (lines.recv_of words)
receives (room ∷ []) = after (number_within 0 65536 room) _ (λ n is. some (Recv n) tt)
receives words = none

sends-message : (words : List (List ℕ)) → HasAct (lines.sendmsg_of words)
sends-message (ttl ∷ order ∷ bytes ∷ []) =
    after (lines.ttl_of ttl) _ (λ t t_is. after (lines.order_of order) _ (λ o o_is. after (bytes_of bytes) _ (λ b b_is.
    some (SendMessage t o b) tt)))
sends-message words = none

receives-message : (words : List (List ℕ)) → HasAct (lines.recvmsg_of words)
receives-message (room ∷ []) = after (number_within 0 65536 room) _ (λ n is. some (RecvMessage n) tt)
receives-message words = none

asks : (act : Act) (words : List (List ℕ)) → IsAsked act → HasAct (lines.alone act words)
asks act [] asked = some act asked
asks act (word ∷ words) asked = none

calls : (name : List ℕ) (words : List (List ℕ)) → HasAct (call_of name words)
unfolding call_of
calls name words =
    either _ _ _ (listens words) (either _ _ _ (connects words) (either _ _ _ (meets words) (either _ _ _ (asks Shake words tt)
    (either _ _ _ (sends words) (either _ _ _ (receives words) (either _ _ _ (sends-message words)
    (either _ _ _ (receives-message words) (either _ _ _ (asks Pack words tt) (either _ _ _ (asks Tick words tt)
    (either _ _ _ (asks Close words tt) (either _ _ _ (asks Measure words tt) none)))))))))))

call : (name act : List ℕ) (words : List (List ℕ)) → HasNames (call_line name act words)
unfolding call_line
call name act [] = none
call name act (now ∷ words) =
    after (name_of name) _ (λ n n_is. after (moment_of now) _ (λ t t_is. after (call_of act words) _ (λ a a_is.
    some (CallLine n (record { now = t; act = a })) (name-is name n n_is, (calls act words).given a a_is))))

accept : (name : List ℕ) (words : List (List ℕ)) → HasNames (accept_line name words)
unfolding accept_line
accept name (now ∷ accepted ∷ []) =
    after (name_of name) _ (λ n n_is. after (moment_of now) _ (λ t t_is. after (name_of accepted) _ (λ a a_is.
    some (AcceptLine n t a) (name-is accepted a a_is))))
accept name words = none

deliver : (number : List ℕ) (words : List (List ℕ)) → HasNames (deliver_line number words)
unfolding deliver_line
deliver number (now ∷ []) =
    after (number_within 0 (2 ^ 64 - 1) number) _ (λ n n_is. after (moment_of now) _ (λ t t_is. some (DeliverLine n t) tt))
deliver number words = none

raw : (now : List ℕ) (words : List (List ℕ)) → HasNames (raw_line now words)
unfolding raw_line
raw now (from ∷ to ∷ bytes ∷ []) =
    after (moment_of now) _ (λ n n_is. after (addr_of from) _ (λ f f_is. after (addr_of to) _ (λ t t_is.
    after (bytes_of bytes) _ (λ b b_is. some (RawLine n (record { from = f; to = t; bytes = b })) tt))))
raw now words = none

or_named : (one other : Option Line) → HasNames one → HasNames other → HasNames (lines.or_else one other)
or_named None other first second = second
or_named (Some line) other first second = first

by_words : (words : List (List ℕ)) → HasNames (line_by_words words)
unfolding line_by_words
by_words [] = none
by_words (first ∷ []) = none
by_words (first ∷ second ∷ others) =
    or_named _ _
    (either _ _ _ (deliver second others) (either _ _ _ (raw second others) (either _ _ _ (pair second others)
    (either _ _ _ (open_named second others) (either _ _ _ (host second others) none)))))
    (either _ _ _ (accept first others) (call first second others))

pub line_names : (line : List ℕ) → HasNames (read_line line)
unfolding read_line
line_names line = either (is_silent line) _ _ (some Silent tt) (by_words (words_of line))

names-given : (line : Line) → Names line → GivesNames line
names-given (CallLine name event) names = tt
names-given line names = names

-- if a line was read, the names that it gives are such
pub record Named (found : Option Line) : Type 0 where
  pub given : (line : Line) → found ≡ Some line → GivesNames line

pub line_named : (line : List ℕ) → Named (read_line line)
line_named line = record { given = λ read is. names-given read ((line_names line).given read is) }
