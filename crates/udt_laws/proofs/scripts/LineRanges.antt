-- The values of a line are in their ranges, its calls are no arrivals, and it has a socket take no more bytes than it has.
use Rattle.std.proofs.Common.{◌≡◌, ℕ, suc, ◌+◌, ◌-◌, ◌^◌, ◌<◌, ◌≤◌, Bool, true, false, List, [], ◌∷◌, length, Some, None, Ok, Option, refl, ap, subst, inl, inr, ◌⊎◌, arith}
use Rattle.std.specs.Prelude.{◌==◌, codes, if◌then◌else◌}
use Rattle.std.proofs.lemmas.Bool.Decides.{nat_tests}
use Rattle.std.proofs.lemmas.List.{length-take}
use Rattle.std.proofs.lemmas.Option.{same_Some}
use Rattle.udt_model.specs.declared.limits.TheConstants.{MOST_PAYLOAD, FEWEST_BLOCKS, MOST_BLOCKS, LAST_START}
use Rattle.udt_model.specs.Addresses.{addr_of}
use Rattle.udt_model.specs.Events.{Act, Listen, Connect, Meet, Shake, Send, Recv, SendMessage, RecvMessage, Pack, Tick, Close, Measure, Reply, Sent, SentMessage}
use Rattle.udt_model.specs.History.{taken_by}
use Rattle.udt_model.specs.Lines.{Pairing, OpeningLine, Line, Silent, PairLine, HostLine, OpenLine, AcceptLine, CallLine, DeliverLine, RawLine, is_arrival, is_silent, moment_of, kind_of, pairing_of, pair_line, host_line, open_line, alone, no_secret, listen_of, connect_of, meet_of, send_of, recv_of, ttl_of, order_of, sendmsg_of, recvmsg_of, call_of, call_line, accept_line, deliver_line, raw_line, line_by_first, line_by_second, or_else, line_by_words, read_line}
use Rattle.udt_model.specs.Words.{◌>>=◌, words_of, in_front, is_word, name_of, number_of, if_within, number_within, nibble_of, pairs_of, bytes_of}

-- how many bytes an act gives a socket to take
abbrev pub size_of_act : Act → ℕ
size_of_act (Send bytes) = length bytes
size_of_act (SendMessage ttl order bytes) = length bytes
size_of_act act = 0

-- no more are taken
pub taken-size : (act : Act) (reply : Reply) → length (taken_by act reply) ≤ size_of_act act
taken-size (Send bytes) (Sent (Ok count)) = omega (arith, length-take count bytes)
taken-size (SendMessage ttl order bytes) (SentMessage (Ok count)) = omega (arith, length-take count bytes)
taken-size act reply = omega arith

-- the values of a pair are in their ranges
pub record IsPairing (p : Pairing) : Type 0 where
  pub payload : 1 ≤ p.payload
  pub most_payload : p.payload ≤ MOST_PAYLOAD
  pub isn : p.isn < 2 ^ 31
  pub blocks : FEWEST_BLOCKS ≤ p.blocks
  pub most_blocks : p.blocks ≤ MOST_BLOCKS
  pub start : p.start ≤ LAST_START

-- and those of a socket that is to be opened
pub record IsOpeningLine (o : OpeningLine) : Type 0 where
  pub payload : 1 ≤ o.payload
  pub most_payload : o.payload ≤ MOST_PAYLOAD
  pub isn : o.isn < 2 ^ 31
  pub blocks : FEWEST_BLOCKS ≤ o.blocks
  pub most_blocks : o.blocks ≤ MOST_BLOCKS

-- an act is no arrival, and gives no more bytes than this
abbrev pub IsCall : ℕ → Act → Type 0
IsCall size act = (is_arrival act ≡ false) × (size_of_act act ≤ size)

-- the values of a line of this many bytes are in their ranges
abbrev pub IsInRange : ℕ → Line → Type 0
IsInRange size Silent = Unit {0}
IsInRange size (PairLine p) = IsPairing p
IsInRange size (HostLine name addr) = Unit {0}
IsInRange size (OpenLine o) = IsOpeningLine o
IsInRange size (AcceptLine name now accepted) = Unit {0}
IsInRange size (CallLine name event) = IsCall size event.act
IsInRange size (DeliverLine number now) = 2 ≤ size
IsInRange size (RawLine now datagram) = 2 ≤ size

-- ---- words

pub bind-some : {A B : Type 0} (o : Option A) (next : A → Option B) (y : B) → (o >>= next) ≡ Some y
    → (x : A) × (o ≡ Some x) × (next x ≡ Some y)
bind-some None next y is = absurd (cc)
bind-some (Some x) next y is = (x, refl, is)

pub if-some : {A : Type 0} (b : Bool) (x y : Option A) (z : A) → (if b then x else y) ≡ Some z → (x ≡ Some z) ⊎ (y ≡ Some z)
if-some true x y z is = inl is
if-some false x y z is = inr is

lies-within : (least most number n : ℕ) → if_within least most number ≡ Some n → (least ≤ n) × (n ≤ most)
lies-within least most number n is = (grind (arith, nat_tests), grind (arith, nat_tests))

number-within : (least most : ℕ) (word : List ℕ) (n : ℕ) → number_within least most word ≡ Some n → (least ≤ n) × (n ≤ most)
number-within least most word n is =
    let found = bind-some (number_of word) (if_within least most) n is in
    lies-within least most found.0 n found.2

-- how long some words are
abbrev size_of_words : List (List ℕ) → ℕ
size_of_words [] = 0
size_of_words (word ∷ words) = length word + size_of_words words

in_front-size : (byte : ℕ) (words : List (List ℕ)) → size_of_words (in_front byte words) ≡ suc (size_of_words words)
in_front-size byte [] = omega arith
in_front-size byte (word ∷ words) = omega arith

-- in as many words
in_front-count : (byte : ℕ) (words : List (List ℕ)) → 1 ≤ length words → length (in_front byte words) ≡ length words
in_front-count byte [] some = absurd (omega (arith, some))
in_front-count byte (word ∷ words) some = refl

words_of-some : (line : List ℕ) → 1 ≤ length (words_of line)
unfolding words_of
words_of-some [] = omega arith
words_of-some (byte ∷ line) = elim (byte == 32) as
    (λ space. 1 ≤ length (if space then [] ∷ words_of line else in_front byte (words_of line))) [
      | true ↦ omega arith
      | false ↦ omega (arith, words_of-some line, in_front-count byte (words_of line) (words_of-some line))
    ]

-- with a byte after each, words are as long as their line with its line feed
words_of-size : (line : List ℕ) → size_of_words (words_of line) + length (words_of line) ≡ length line + 1
unfolding words_of
words_of-size [] = omega arith
words_of-size (byte ∷ line) =
    let rest = words_of-size line in
    elim (byte == 32) as (λ space.
    size_of_words (if space then [] ∷ words_of line else in_front byte (words_of line))
    + length (if space then [] ∷ words_of line else in_front byte (words_of line)) ≡ length (byte ∷ line) + 1) [
      | true ↦ omega (arith, rest)
      | false ↦ omega (
        arith,
        rest,
        in_front-size byte (words_of line),
        in_front-count byte (words_of line) (words_of-some line),
      )
    ]

pairs_of-size : (word bytes : List ℕ) → pairs_of word ≡ Some bytes → length bytes ≤ length word
unfolding pairs_of
pairs_of-size [] bytes is = omega (arith, ap length (same_Some _ _ is))
pairs_of-size (high ∷ []) bytes is = absurd (cc)
pairs_of-size (high ∷ low ∷ others) bytes is =
    let one = bind-some (nibble_of high) _ _ is in
    let two = bind-some (nibble_of low) _ _ one.2 in
    let three = bind-some (pairs_of others) _ _ two.2 in
    omega (arith, ap length (same_Some _ _ three.2), pairs_of-size others three.0 three.1)

bytes_of-size : (word bytes : List ℕ) → bytes_of word ≡ Some bytes → length bytes ≤ length word
bytes_of-size [] bytes is = absurd (cc)
bytes_of-size (c ∷ cs) bytes is = elim (if-some (is_word (c ∷ cs) (codes "-")) _ _ _ is) [
  | inl none ↦ omega (arith, ap length (same_Some _ _ none))
  | inr pairs ↦ pairs_of-size (c ∷ cs) bytes pairs
]

-- ---- calls

-- a call that gives no bytes
no-bytes : (size : ℕ) (call act : Act) → is_arrival call ≡ false → size_of_act call ≡ 0 → Some call ≡ Some act → IsCall size act
no-bytes size call act here none is = subst (IsCall size) (same_Some _ _ is) (here, omega (arith, none))

listen_of-call : (size : ℕ) (words : List (List ℕ)) (act : Act) → listen_of words ≡ Some act → IsCall size act
listen_of-call size [] act is = absurd (cc)
listen_of-call size (word ∷ []) act is =
    let one = bind-some (number_within 0 (2 ^ 32 - 1) word) _ _ is in
    no-bytes size (Listen one.0 no_secret) act refl refl one.2
listen_of-call size (word ∷ other ∷ others) act is = absurd (cc)

connect_of-call : (size : ℕ) (words : List (List ℕ)) (act : Act) → connect_of words ≡ Some act → IsCall size act
connect_of-call size [] act is = absurd (cc)
connect_of-call size (word ∷ []) act is =
    let one = bind-some (addr_of word) _ _ is in
    no-bytes size (Connect one.0) act refl refl one.2
connect_of-call size (word ∷ other ∷ others) act is = absurd (cc)

meet_of-call : (size : ℕ) (words : List (List ℕ)) (act : Act) → meet_of words ≡ Some act → IsCall size act
meet_of-call size [] act is = absurd (cc)
meet_of-call size (word ∷ []) act is =
    let one = bind-some (addr_of word) _ _ is in
    no-bytes size (Meet one.0) act refl refl one.2
meet_of-call size (word ∷ other ∷ others) act is = absurd (cc)

send_of-call : (words : List (List ℕ)) (act : Act) → send_of words ≡ Some act → IsCall (size_of_words words) act
send_of-call [] act is = absurd (cc)
send_of-call (word ∷ []) act is =
    let one = bind-some (bytes_of word) _ _ is in
    subst (IsCall (size_of_words (word ∷ []))) (same_Some _ _ one.2) (refl, omega (arith, bytes_of-size word one.0 one.1))
send_of-call (word ∷ other ∷ others) act is = absurd (cc)

recv_of-call : (size : ℕ) (words : List (List ℕ)) (act : Act) → recv_of words ≡ Some act → IsCall size act
recv_of-call size [] act is = absurd (cc)
recv_of-call size (word ∷ []) act is =
    let one = bind-some (number_within 0 65536 word) _ _ is in
    no-bytes size (Recv one.0) act refl refl one.2
recv_of-call size (word ∷ other ∷ others) act is = absurd (cc)

sendmsg_of-call : (words : List (List ℕ)) (act : Act) → sendmsg_of words ≡ Some act → IsCall (size_of_words words) act
sendmsg_of-call [] act is = absurd (cc)
sendmsg_of-call (ttl ∷ []) act is = absurd (cc)
sendmsg_of-call (ttl ∷ order ∷ []) act is = absurd (cc)
sendmsg_of-call (ttl ∷ order ∷ word ∷ []) act is =
    let one = bind-some (ttl_of ttl) _ _ is in
    let two = bind-some (order_of order) _ _ one.2 in
    let three = bind-some (bytes_of word) _ _ two.2 in
    subst (IsCall (size_of_words (ttl ∷ order ∷ word ∷ []))) (same_Some _ _ three.2)
    (refl, omega (arith, bytes_of-size word three.0 three.1))
sendmsg_of-call (ttl ∷ order ∷ word ∷ other ∷ others) act is = absurd (cc)

recvmsg_of-call : (size : ℕ) (words : List (List ℕ)) (act : Act) → recvmsg_of words ≡ Some act → IsCall size act
recvmsg_of-call size [] act is = absurd (cc)
recvmsg_of-call size (word ∷ []) act is =
    let one = bind-some (number_within 0 65536 word) _ _ is in
    no-bytes size (RecvMessage one.0) act refl refl one.2
recvmsg_of-call size (word ∷ other ∷ others) act is = absurd (cc)

alone-call : (size : ℕ) (call : Act) (words : List (List ℕ)) (act : Act) → is_arrival call ≡ false → size_of_act call ≡ 0
    → alone call words ≡ Some act → IsCall size act
alone-call size call [] act here none is = no-bytes size call act here none is
alone-call size call (word ∷ words) act here none is = absurd (cc)

-- the last calls, with nothing after their moments
last-call : (call : List ℕ) (words : List (List ℕ)) (act : Act)
    → (if is_word call (codes "pack")
    then alone Pack words
    else (if is_word call (codes "tick")
    then alone Tick words
    else (if is_word call (codes "close")
    then alone Close words
    else (if is_word call (codes "perf") then alone Measure words else None)))) ≡ Some act
    → IsCall (size_of_words words) act
last-call call words act is = elim (if-some (is_word call (codes "pack")) _ _ _ is) [
  | inl packs ↦ alone-call _ Pack words act refl refl packs
  | inr one ↦ elim (if-some (is_word call (codes "tick")) _ _ _ one) [
    | inl ticks ↦ alone-call _ Tick words act refl refl ticks
    | inr two ↦ elim (if-some (is_word call (codes "close")) _ _ _ two) [
      | inl closes ↦ alone-call _ Close words act refl refl closes
      | inr three ↦ elim (if-some (is_word call (codes "perf")) _ _ _ three) [
        | inl measures ↦ alone-call _ Measure words act refl refl measures
        | inr none ↦ absurd (cc)
      ]
    ]
  ]
]

-- the ones that send and receive, and these
later-call : (call : List ℕ) (words : List (List ℕ)) (act : Act)
    → (if is_word call (codes "send")
    then send_of words
    else (if is_word call (codes "recv")
    then recv_of words
    else (if is_word call (codes "sendmsg")
    then sendmsg_of words
    else (if is_word call (codes "recvmsg")
    then recvmsg_of words
    else (if is_word call (codes "pack")
    then alone Pack words
    else (if is_word call (codes "tick")
    then alone Tick words
    else (if is_word call (codes "close")
    then alone Close words
    else (if is_word call (codes "perf") then alone Measure words else None)))))))) ≡ Some act
    → IsCall (size_of_words words) act
later-call call words act is = elim (if-some (is_word call (codes "send")) _ _ _ is) [
  | inl sends ↦ send_of-call words act sends
  | inr one ↦ elim (if-some (is_word call (codes "recv")) _ _ _ one) [
    | inl receives ↦ recv_of-call _ words act receives
    | inr two ↦ elim (if-some (is_word call (codes "sendmsg")) _ _ _ two) [
      | inl asks ↦ sendmsg_of-call words act asks
      | inr three ↦ elim (if-some (is_word call (codes "recvmsg")) _ _ _ three) [
        | inl shows ↦ recvmsg_of-call _ words act shows
        | inr four ↦ last-call call words act four
      ]
    ]
  ]
]

call_of-call : (call : List ℕ) (words : List (List ℕ)) (act : Act) → call_of call words ≡ Some act
    → IsCall (size_of_words words) act
unfolding call_of
call_of-call call words act is = elim (if-some (is_word call (codes "listen")) _ _ _ is) [
  | inl listens ↦ listen_of-call _ words act listens
  | inr one ↦ elim (if-some (is_word call (codes "connect")) _ _ _ one) [
    | inl connects ↦ connect_of-call _ words act connects
    | inr two ↦ elim (if-some (is_word call (codes "meet")) _ _ _ two) [
      | inl meets ↦ meet_of-call _ words act meets
      | inr three ↦ elim (if-some (is_word call (codes "shake")) _ _ _ three) [
        | inl shakes ↦ alone-call _ Shake words act refl refl shakes
        | inr four ↦ later-call call words act four
      ]
    ]
  ]
]

-- ---- lines

call-in_range : (size : ℕ) (name call : List ℕ) (words : List (List ℕ)) (line : Line) → size_of_words words ≤ size
    → call_line name call words ≡ Some line → IsInRange size line
unfolding call_line
call-in_range size name call [] line fits is = absurd (cc)
call-in_range size name call (now ∷ others) line fits is =
    let one = bind-some (name_of name) _ _ is in
    let two = bind-some (moment_of now) _ _ one.2 in
    let three = bind-some (call_of call others) _ _ two.2 in
    let calls = call_of-call call others three.0 three.1 in
    subst (IsInRange size) (same_Some _ _ three.2) (calls.0, omega (arith, fits, calls.1))

accept-in_range : (size : ℕ) (name : List ℕ) (words : List (List ℕ)) (line : Line) → accept_line name words ≡ Some line
    → IsInRange size line
unfolding accept_line
accept-in_range size name [] line is = absurd (cc)
accept-in_range size name (now ∷ []) line is = absurd (cc)
accept-in_range size name (now ∷ accepted ∷ []) line is =
    let one = bind-some (name_of name) _ _ is in
    let two = bind-some (moment_of now) _ _ one.2 in
    let three = bind-some (name_of accepted) _ _ two.2 in
    subst (IsInRange size) (same_Some _ _ three.2) tt
accept-in_range size name (now ∷ accepted ∷ other ∷ others) line is = absurd (cc)

deliver-in_range : (size : ℕ) (number : List ℕ) (words : List (List ℕ)) (line : Line) → length words + 1 ≤ size
    → deliver_line number words ≡ Some line → IsInRange size line
unfolding deliver_line
deliver-in_range size number [] line fits is = absurd (cc)
deliver-in_range size number (now ∷ []) line fits is =
    let one = bind-some (number_within 0 (2 ^ 64 - 1) number) _ _ is in
    let two = bind-some (moment_of now) _ _ one.2 in
    subst (IsInRange size) (same_Some _ _ two.2) (omega (arith, fits))
deliver-in_range size number (now ∷ other ∷ others) line fits is = absurd (cc)

raw-in_range : (size : ℕ) (now : List ℕ) (words : List (List ℕ)) (line : Line) → length words + 1 ≤ size
    → raw_line now words ≡ Some line → IsInRange size line
unfolding raw_line
raw-in_range size now [] line fits is = absurd (cc)
raw-in_range size now (a ∷ []) line fits is = absurd (cc)
raw-in_range size now (a ∷ b ∷ []) line fits is = absurd (cc)
raw-in_range size now (a ∷ b ∷ c ∷ []) line fits is =
    let one = bind-some (moment_of now) _ _ is in
    let two = bind-some (addr_of a) _ _ one.2 in
    let three = bind-some (addr_of b) _ _ two.2 in
    let four = bind-some (bytes_of c) _ _ three.2 in
    subst (IsInRange size) (same_Some _ _ four.2) (omega (arith, fits))
raw-in_range size now (a ∷ b ∷ c ∷ d ∷ others) line fits is = absurd (cc)

pairing-in_range : (size : ℕ) (kind a b payload isn blocks : List ℕ) (start : ℕ) (line : Line) → start ≤ LAST_START
    → pairing_of kind a b payload isn blocks start ≡ Some line → IsInRange size line
pairing-in_range size kind a b payload isn blocks start line fits is =
    let zeroth = bind-some (kind_of kind) _ _ is in
    let one = bind-some (name_of a) _ _ zeroth.2 in
    let two = bind-some (name_of b) _ _ one.2 in
    let three = bind-some (number_within 1 MOST_PAYLOAD payload) _ _ two.2 in
    let four = bind-some (number_within 0 (2 ^ 31 - 1) isn) _ _ three.2 in
    let five = bind-some (number_within FEWEST_BLOCKS MOST_BLOCKS blocks) _ _ four.2 in
    let payload_in = number-within 1 MOST_PAYLOAD payload three.0 three.1 in
    let isn_in = number-within 0 (2 ^ 31 - 1) isn four.0 four.1 in
    let blocks_in = number-within FEWEST_BLOCKS MOST_BLOCKS blocks five.0 five.1 in
    subst (IsInRange size) (same_Some _ _ five.2) (record {
      payload = payload_in.0;
      most_payload = payload_in.1;
      isn = omega (arith, isn_in.1);
      blocks = blocks_in.0;
      most_blocks = blocks_in.1;
      start = fits;
    })

pair-in_range : (size : ℕ) (kind : List ℕ) (words : List (List ℕ)) (line : Line) → pair_line kind words ≡ Some line
    → IsInRange size line
unfolding pair_line
pair-in_range size kind [] line is = absurd (cc)
pair-in_range size kind (a ∷ []) line is = absurd (cc)
pair-in_range size kind (a ∷ b ∷ []) line is = absurd (cc)
pair-in_range size kind (a ∷ b ∷ c ∷ []) line is = absurd (cc)
pair-in_range size kind (a ∷ b ∷ c ∷ d ∷ []) line is = absurd (cc)
pair-in_range size kind (a ∷ b ∷ c ∷ d ∷ e ∷ []) line is = pairing-in_range size kind a b c d e 0 line (omega arith) is
pair-in_range size kind (a ∷ b ∷ c ∷ d ∷ e ∷ f ∷ []) line is =
    let found = bind-some (number_within 0 LAST_START f) _ _ is in
    pairing-in_range size kind a b c d e found.0 line (number-within 0 LAST_START f found.0 found.1).1 found.2
pair-in_range size kind (a ∷ b ∷ c ∷ d ∷ e ∷ f ∷ g ∷ others) line is = absurd (cc)

host-in_range : (size : ℕ) (name : List ℕ) (words : List (List ℕ)) (line : Line) → host_line name words ≡ Some line
    → IsInRange size line
unfolding host_line
host-in_range size name [] line is = absurd (cc)
host-in_range size name (addr ∷ []) line is =
    let one = bind-some (name_of name) _ _ is in
    let two = bind-some (addr_of addr) _ _ one.2 in
    subst (IsInRange size) (same_Some _ _ two.2) tt
host-in_range size name (addr ∷ other ∷ others) line is = absurd (cc)

open-in_range : (size : ℕ) (kind : List ℕ) (words : List (List ℕ)) (line : Line) → open_line kind words ≡ Some line
    → IsInRange size line
unfolding open_line
open-in_range size kind [] line is = absurd (cc)
open-in_range size kind (a ∷ []) line is = absurd (cc)
open-in_range size kind (a ∷ b ∷ []) line is = absurd (cc)
open-in_range size kind (a ∷ b ∷ c ∷ []) line is = absurd (cc)
open-in_range size kind (a ∷ b ∷ c ∷ d ∷ []) line is = absurd (cc)
open-in_range size kind (name ∷ host ∷ payload ∷ isn ∷ blocks ∷ []) line is =
    let zeroth = bind-some (kind_of kind) _ _ is in
    let one = bind-some (name_of name) _ _ zeroth.2 in
    let two = bind-some (name_of host) _ _ one.2 in
    let three = bind-some (number_within 1 MOST_PAYLOAD payload) _ _ two.2 in
    let four = bind-some (number_within 0 (2 ^ 31 - 1) isn) _ _ three.2 in
    let five = bind-some (number_within FEWEST_BLOCKS MOST_BLOCKS blocks) _ _ four.2 in
    let payload_in = number-within 1 MOST_PAYLOAD payload three.0 three.1 in
    let isn_in = number-within 0 (2 ^ 31 - 1) isn four.0 four.1 in
    let blocks_in = number-within FEWEST_BLOCKS MOST_BLOCKS blocks five.0 five.1 in
    subst (IsInRange size) (same_Some _ _ five.2) (record {
      payload = payload_in.0;
      most_payload = payload_in.1;
      isn = omega (arith, isn_in.1);
      blocks = blocks_in.0;
      most_blocks = blocks_in.1;
    })
open-in_range size kind (a ∷ b ∷ c ∷ d ∷ e ∷ f ∷ others) line is = absurd (cc)

either-some : (one other : Option Line) (line : Line) → or_else one other ≡ Some line → (one ≡ Some line) ⊎ (other ≡ Some line)
either-some None other line is = inr is
either-some (Some first) other line is = inl is

first-in_range : (size : ℕ) (first second : List ℕ) (others : List (List ℕ)) (line : Line) → length others + 1 ≤ size
    → line_by_first first second others ≡ Some line → IsInRange size line
first-in_range size first second others line fits is = elim (if-some (is_word first (codes "deliver")) _ _ _ is) [
  | inl delivers ↦ deliver-in_range size second others line fits delivers
  | inr two ↦ elim (if-some (is_word first (codes "raw")) _ _ _ two) [
    | inl raws ↦ raw-in_range size second others line fits raws
    | inr three ↦ elim (if-some (is_word first (codes "pair")) _ _ _ three) [
      | inl pairs ↦ pair-in_range size second others line pairs
      | inr four ↦ elim (if-some (is_word first (codes "open")) _ _ _ four) [
        | inl opens ↦ open-in_range size second others line opens
        | inr five ↦ elim (if-some (is_word first (codes "host")) _ _ _ five) [
          | inl hosts ↦ host-in_range size second others line hosts
          | inr none ↦ absurd (cc)
        ]
      ]
    ]
  ]
]

second-in_range : (size : ℕ) (first second : List ℕ) (others : List (List ℕ)) (line : Line) → size_of_words others ≤ size
    → line_by_second first second others ≡ Some line → IsInRange size line
second-in_range size first second others line fits is = elim (if-some (is_word second (codes "accept")) _ _ _ is) [
  | inl accepts ↦ accept-in_range size first others line accepts
  | inr calls ↦ call-in_range size first second others line fits calls
]

words-in_range : (size : ℕ) (words : List (List ℕ)) (line : Line) → size_of_words words + length words ≤ size + 1
    → line_by_words words ≡ Some line → IsInRange size line
unfolding line_by_words
words-in_range size [] line fits is = absurd (cc)
words-in_range size (first ∷ []) line fits is = absurd (cc)
words-in_range size (first ∷ second ∷ others) line fits is = elim (either-some _ _ line is) [
  | inl by_first ↦ first-in_range size first second others line (omega (arith, fits)) by_first
  | inr by_second ↦ second-in_range size first second others line (omega (arith, fits)) by_second
]

pub line-in_range : (text : List ℕ) (line : Line) → read_line text ≡ Some line → IsInRange (length text) line
unfolding read_line
line-in_range text line is = elim (if-some (is_silent text) _ _ _ is) [
  | inl silent ↦ subst (IsInRange (length text)) (same_Some _ _ silent) tt
  | inr words ↦ words-in_range (length text) (words_of text) line (omega (arith, words_of-size text)) words
]
