-- Which words are the commands that are done here.
use Rattle.std.proofs.Common.{◌≡◌, ◌≤◌, ℕ, Bool, true, false, List, [], ◌∷◌, length, Option, Some, None, refl, arith, codes, if◌then◌else◌}
use Rattle.std.specs.List.{list_any}
use Rattle.std.specs.Prelude.{◌||◌}
use Rattle.std.specs.Option.{option_and_then}
use Rattle.udt_model.specs.declared.addresses.Family.{Family}
use Rattle.udt_model.specs.declared.addresses.Family.TheVariants.{Four, Six}
use Rattle.udt_model.specs.Words.{is_word, number_within}
use Rattle.udt_words.specs.declared.limits.TheConstants.{MOST_PAIR_BYTES, MOST_RECORD_TURNS}
use Rattle.udt_words.specs.declared.commands.Command.{Command}
use Rattle.udt_words.specs.declared.commands.Command.TheVariants as command
use Rattle.udt_words.specs.declared.order.Order.{Order}
use Rattle.udt_words.specs.declared.order.Order.TheVariants as order
use Rattle.udt_words.specs.Table.{Word, called, check_order, count_of, file_of, is_option, port_of, seed_of, target_of, order_of, ordered, pair_order, record_order, recv_order, replay_order, send_order, world_order}
use Rattle.udt_tool.specs.Commands.{is_done, is_offline, is_replaying, is_replay, is_command, outcome_of, done_of, faulty, always}

-- ---- the other commands

-- of two or three parts, each of which may lack, none makes an order that is done here
two_parts : {A B : Type 0} (x : Option A) (y : Option B) (f : A → B → Order) → ((a : A) (b : B) → is_done (Some (f a b)) ≡ false)
    → is_done (option_and_then (λ a. option_and_then (λ b. Some (f a b)) y) x) ≡ false
two_parts None y f other = refl
two_parts (Some a) None f other = refl
two_parts (Some a) (Some b) f other = other a b

three_parts : {A B D : Type 0} (x : Option A) (y : Option B) (z : Option D) (f : A → B → D → Order) → ((a : A) (b : B) (d : D) → is_done (Some (f a b d)) ≡ false)
    → is_done (option_and_then (λ a. option_and_then (λ b. option_and_then (λ d. Some (f a b d)) z) y) x) ≡ false
three_parts None y z f other = refl
three_parts (Some a) None z f other = refl
three_parts (Some a) (Some b) None f other = refl
three_parts (Some a) (Some b) (Some d) f other = other a b d

pair_other : (words : List Word) → is_done (pair_order words) ≡ false
unfolding pair_order
pair_other [] = refl
pair_other (_ ∷ []) = refl
pair_other (_ ∷ (_ ∷ [])) = refl
pair_other (size ∷ (count ∷ (n ∷ []))) =
    three_parts (number_within 0 MOST_PAIR_BYTES size) (count_of count) (seed_of n) (λ a b d. order.Pair a b d) (λ _ _ _. refl)
pair_other (_ ∷ (_ ∷ (_ ∷ (_ ∷ words)))) = refl

recv_other : (family : Family) (words : List Word) → is_done (recv_order family words) ≡ false
unfolding recv_order
recv_other family [] = refl
recv_other family (_ ∷ []) = refl
recv_other family (_ ∷ (_ ∷ [])) = refl
recv_other Four (port ∷ (file ∷ (count ∷ []))) =
    three_parts (port_of port) (file_of file) (count_of count) (λ a b d. order.Recv a b d) (λ _ _ _. refl)
recv_other Six (port ∷ (file ∷ (count ∷ []))) =
    three_parts (port_of port) (file_of file) (count_of count) (λ a b d. order.Recv6 a b d) (λ _ _ _. refl)
recv_other family (_ ∷ (_ ∷ (_ ∷ (_ ∷ words)))) = refl

send_other : (words : List Word) → is_done (send_order words) ≡ false
unfolding send_order
send_other [] = refl
send_other (_ ∷ []) = refl
send_other (_ ∷ (_ ∷ [])) = refl
send_other (file ∷ (addr ∷ (port ∷ []))) = two_parts (file_of file) (target_of addr port) (λ a b. order.Send a b) (λ _ _. refl)
send_other (_ ∷ (_ ∷ (_ ∷ (_ ∷ words)))) = refl

record_other : (words : List Word) → is_done (record_order words) ≡ false
unfolding record_order
record_other [] = refl
record_other (_ ∷ []) = refl
record_other (turns ∷ (n ∷ [])) = two_parts (number_within 0 MOST_RECORD_TURNS turns) (seed_of n) (λ a b. order.Record a b) (λ _ _. refl)
record_other (_ ∷ (_ ∷ (_ ∷ words))) = refl

check_other : (words : List Word) → is_done (check_order words) ≡ false
unfolding check_order
check_other [] = refl
check_other (_ ∷ words) = refl

-- none of them is done here
others : (words : List Word) (hyphen pair recv recv6 send recording check : Bool)
    → is_done (option_and_then (λ c. ordered c words) (if hyphen then None
    else (if pair then Some command.Pair
    else (if recv then Some command.Recv
    else (if recv6 then Some command.Recv6
    else (if send then Some command.Send
    else (if recording then Some command.Record
    else (if check then Some command.Check
    else None)))))))) ≡ false
others words true _ _ _ _ _ _ = refl
others words false true _ _ _ _ _ = pair_other words
others words false false true _ _ _ _ = recv_other Four words
others words false false false true _ _ _ = recv_other Six words
others words false false false false true _ _ = send_other words
others words false false false false false true _ = record_other words
others words false false false false false false true = check_other words
others words false false false false false false false = refl

-- ---- words

neither : (a b : Bool) → a || b ≡ false → (a ≡ false) × (b ≡ false)
neither true b e = absurd (cc)
neither false b e = (refl, e)

-- where the first word names none of these commands, the words are none
pub no_command : (words : List Word) → is_offline words ≡ false → is_command words ≡ false
no_command [] none = absurd (cc)
no_command (name ∷ words) none =
    let both = neither (is_word name (codes "replay")) (is_word name (codes "world")) none in
    let is : List ℕ → Bool = is_word name in
    rw (both.0, both.1)
    (others words (list_any is_option (name ∷ words)) (is (codes "pair")) (is (codes "recv")) (is (codes "recv6")) (is (codes "send")) (is (codes "record")) (is (codes "check")))

-- an order that is not done here, or none
pub not_done : (order : Option Order) → is_done order ≡ false → done_of order ≡ always faulty
not_done None none = refl
not_done (Some (order.Replay control)) none = absurd (cc)
not_done (Some (order.World n turns control)) none = absurd (cc)
not_done (Some (order.Pair size count n)) none = refl
not_done (Some (order.Recv port name count)) none = refl
not_done (Some (order.Recv6 port name count)) none = refl
not_done (Some (order.Send name to)) none = refl
not_done (Some (order.Record turns n)) none = refl
not_done (Some order.Check) none = refl

-- and such words end as faulty ones do
pub ends_faulty : (words : List Word) → is_command words ≡ false → outcome_of words ≡ always faulty
ends_faulty words none = not_done (order_of words) none

-- what is replayed is done here
replaying_done : (order : Option Order) → is_done order ≡ false → is_replaying order ≡ false
replaying_done None none = refl
replaying_done (Some (order.Replay control)) none = absurd (cc)
replaying_done (Some (order.World n turns control)) none = refl
replaying_done (Some (order.Pair size count n)) none = refl
replaying_done (Some (order.Recv port name count)) none = refl
replaying_done (Some (order.Recv6 port name count)) none = refl
replaying_done (Some (order.Send name to)) none = refl
replaying_done (Some (order.Record turns n)) none = refl
replaying_done (Some order.Check) none = refl

pub replay_is_command : (words : List Word) → is_command words ≡ false → is_replay words ≡ false
replay_is_command words none = replaying_done (order_of words) none

-- ---- a command's name alone

-- of the names only that of a replay is a command that is done here
name_alone : (name : Option Command) → is_done (option_and_then (λ c. ordered c []) name) ≡ is_replaying (option_and_then (λ c. ordered c []) name)
unfolding replay_order world_order pair_order recv_order send_order record_order check_order
name_alone None = refl
name_alone (Some command.Replay) = refl
name_alone (Some command.World) = refl
name_alone (Some command.Pair) = refl
name_alone (Some command.Recv) = refl
name_alone (Some command.Recv6) = refl
name_alone (Some command.Send) = refl
name_alone (Some command.Record) = refl
name_alone (Some command.Check) = refl

pub few_words : (words : List Word) → length words ≤ 1 → is_command words ≡ is_replay words
few_words [] few = refl
few_words (name ∷ []) few = name_alone (called (name ∷ []))
few_words (name ∷ (second ∷ words)) few = absurd (omega (arith, few))
