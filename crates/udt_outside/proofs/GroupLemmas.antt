-- How V6 texts are read.
use Rattle.std.proofs.Common.{◌≡◌, ◌≢◌, ℕ, ◌+◌, ◌<◌, Bool, true, false, ◌&&◌, ◌==◌, nat_lt, nat_le, List, [], ◌∷◌, ◌++◌, length, drop, Option, Some, None, option_map, All, decimal, refl, sym, ap, ◌∙◌, subst, arith, inl, inr, append_assoc, append-nil, length-append, le-leb, lt-ltb, ne_eqb, eq-eqb, eqb-true}
use Rattle.std.specs.List.{join_with_byte, list_all, list_any}
use Rattle.std.specs.Char.{digit_value, is_digit}
use Rattle.std.specs.Str.Parse.{AllDigits, digits_value}
use Rattle.std.proofs.lemmas.Bool.{and_parts, or_parts, false≢true, true≢false, leb-true, ltb-true, cases_Bool}
use Rattle.std.proofs.lemmas.Option.{none-some, same_Some}
use Rattle.std.proofs.lemmas.List.Elements.{All-nil, All-cons}
use Rattle.std.proofs.lemmas.List.Folds.{list_any-append}
use Rattle.std.proofs.lemmas.List.Splits.{slice_split_none, slice_split_at, length-slice_split, join_with_byte-slice_split}
use Rattle.std.proofs.NetLemmas.Options.{and_then_some, cond_some, map_some, same_parts}
use Rattle.std.specs.Net.Grammar.{IsDotted, IsGroup, IsGroupsAfter, IsGroups, IsColonHex}
use Rattle.std.specs.Net.Text.{dotted_text}
use Rattle.udt_model.specs.Addresses.{pieces_of, each_of, if_many, is_hex_group, hex_group, hex_groups, begins_with, around_double, groups_at, groups_of_v6}

-- ---- one group

abbrev is_colon : ℕ → Bool
is_colon c = c == 58

abbrev is_dot : ℕ → Bool
is_dot c = c == 46

no_colon : (g : List ℕ) → AllDigits 16 g → All (λ c. is_colon c ≡ false) g
no_colon [] h = All-nil (λ c. is_colon c ≡ false)
no_colon (c ∷ cs) h =
    let other : c ≢ 58 = λ e. let no : 36 < 16 = rw e at h.0 in omega arith in
    All-cons (λ c. is_colon c ≡ false) c cs (ne_eqb c 58 other) (no_colon cs h.1)

no_dots : (g : List ℕ) → AllDigits 16 g → list_any is_dot g ≡ false
no_dots [] h = refl
no_dots (c ∷ cs) h =
    let other : c ≢ 46 = λ e. let no : 36 < 16 = rw e at h.0 in omega arith in
    rw (ne_eqb c 46 other, no_dots cs h.1)

all_hex : (g : List ℕ) → AllDigits 16 g → list_all (λ c. is_digit c 16) g ≡ true
all_hex [] h = refl
all_hex (c ∷ cs) h = rw (lt-ltb (digit_value c) 16 h.0, all_hex cs h.1)

hex_all : (g : List ℕ) → list_all (λ c. is_digit c 16) g ≡ true → AllDigits 16 g
hex_all [] h = tt
hex_all (c ∷ cs) h =
    let (first, others) = and_parts (is_digit c 16) (list_all (λ c. is_digit c 16) cs) h in
    (ltb-true (digit_value c) 16 first, hex_all cs others)

hex_group_complete : (g : List ℕ) (s : ℕ) → IsGroup g s → hex_group g ≡ Some s
hex_group_complete g s h =
    rw (lt-ltb 0 (length g) h.0.0.0, le-leb (length g) 4 h.1, all_hex g h.0.0.1, h.0.1)

hex_group_sound : (g : List ℕ) (s : ℕ) → hex_group g ≡ Some s → IsGroup g s
hex_group_sound g s e =
    let (test, value) = cond_some (is_hex_group g) (digits_value 16 g) s e in
    let (sizes, hex) = and_parts (nat_lt 0 (length g) && nat_le (length g) 4) (list_all (λ c. is_digit c 16) g) test in
    let (some, few) = and_parts (nat_lt 0 (length g)) (nat_le (length g) 4) sizes in
    (((ltb-true 0 (length g) some, hex_all g hex), value), leb-true (length g) 4 few)

-- ---- groups with colons between them

groups_after : (g rest : List ℕ) (s : ℕ) (segments : List ℕ) → IsGroup g s → IsGroupsAfter false (58 ∷ []) rest segments → each_of hex_group (pieces_of 58 (g ++ rest)) ≡ Some (s ∷ segments)
groups_after g rest s [] h more =
    rw (more, append-nil g, slice_split_none is_colon g (no_colon g h.0.0.1), hex_group_complete g s h)
groups_after g rest s (t ∷ segments) h (inl k) =
    let (next, others, split, is_next, is_others) = k in
    rw (split, slice_split_at is_colon g 58 (next ++ others) (no_colon g h.0.0.1) refl, hex_group_complete g s h, groups_after next others t segments is_next is_others)
groups_after g rest s (t ∷ segments) h (inr k) = absurd (false≢true k.2)

some_groups : (text : List ℕ) → 0 < length text → hex_groups text ≡ each_of hex_group (pieces_of 58 text)
some_groups [] h = absurd (omega arith)
some_groups (c ∷ cs) h = refl

hex_groups_complete : (text segments : List ℕ) → IsGroups false text segments → hex_groups text ≡ Some segments
hex_groups_complete text [] h = rw h
hex_groups_complete text (s ∷ segments) (inl h) =
    let (g, rest, split, is_group, more) = h in
    let shown : text ≡ g ++ rest = split in
    let some : 0 < length (g ++ rest) = omega (arith, length-append g rest, is_group.0.0.0) in
    rw (shown, some_groups (g ++ rest) some, groups_after g rest s segments is_group more)
hex_groups_complete text (s ∷ segments) (inr h) = absurd (false≢true h.2)

groups_join : (pieces : List (List ℕ)) (segments lead : List ℕ) → 0 < length pieces → each_of hex_group pieces ≡ Some segments → IsGroupsAfter false lead (lead ++ join_with_byte 58 pieces) segments
groups_join [] segments lead some e = absurd (omega arith)
groups_join (p ∷ []) segments lead some e =
    and_then_some _ (hex_group p) segments e λ s spelled e₁.
    subst (λ xs. IsGroupsAfter false lead (lead ++ p) xs) (same_Some (s ∷ []) segments e₁)
    (inl (p, [], sym (append-nil (lead ++ p)), hex_group_sound p s spelled, refl))
groups_join (p ∷ q ∷ ps) segments lead some e =
    and_then_some _ (hex_group p) segments e λ s spelled e₁.
    and_then_some _ (each_of hex_group (q ∷ ps)) segments e₁ λ more read e₂.
    let rest = 58 ∷ join_with_byte 58 (q ∷ ps) in
    subst (λ xs. IsGroupsAfter false lead (lead ++ (p ++ rest)) xs) (same_Some (s ∷ more) segments e₂)
    (inl (p, rest, sym (append_assoc lead p rest), hex_group_sound p s spelled, groups_join (q ∷ ps) more (58 ∷ []) (omega arith) read))

hex_groups_sound : (text segments : List ℕ) → hex_groups text ≡ Some segments → IsGroups false text segments
hex_groups_sound [] segments e = subst (λ xs. IsGroups false [] xs) (same_Some [] segments e) refl
hex_groups_sound (c ∷ cs) segments e =
    subst (λ t. IsGroups false t segments) (join_with_byte-slice_split 58 (c ∷ cs)) (groups_join (pieces_of 58 (c ∷ cs)) segments [] (omega (arith, length-slice_split is_colon (c ∷ cs))) e)

-- ---- the first `::`

-- what stands in front of both halves
abbrev onto : List ℕ → Option (List ℕ × List ℕ) → Option (List ℕ × List ℕ)
onto front None = None
onto front (Some halves) = Some (front ++ halves.0, halves.1)

onto-nil : (o : Option (List ℕ × List ℕ)) → onto [] o ≡ o
onto-nil None = refl
onto-nil (Some halves) = refl

onto-onto : (xs ys : List ℕ) (o : Option (List ℕ × List ℕ)) → onto xs (onto ys o) ≡ onto (xs ++ ys) o
onto-onto xs ys None = refl
onto-onto xs ys (Some halves) = ap (λ t. Some (t, halves.1)) (sym (append_assoc xs ys halves.0))

onto-map : (c : ℕ) (o : Option (List ℕ × List ℕ)) → option_map (λ halves. (c ∷ halves.0, halves.1)) o ≡ onto (c ∷ []) o
onto-map c None = refl
onto-map c (Some halves) = refl

around-group : (g xs : List ℕ) → AllDigits 16 g → around_double (g ++ xs) ≡ onto g (around_double xs)
unfolding around_double
around-group [] xs h = sym (onto-nil (around_double xs))
around-group (c ∷ g) xs h =
    let other : c ≢ 58 = λ e. let no : 36 < 16 = rw e at h.0 in omega arith in
    rw (ne_eqb c 58 other, onto-map c (around_double (g ++ xs)), around-group g xs h.1) (onto-onto (c ∷ []) g (around_double xs))

around-colon : (g xs : List ℕ) → 0 < length g → AllDigits 16 g → around_double (58 ∷ (g ++ xs)) ≡ onto (58 ∷ []) (around_double (g ++ xs))
unfolding around_double
around-colon [] xs some h = absurd (omega arith)
around-colon (c ∷ g) xs some h =
    let other : c ≢ 58 = λ e. let no : 36 < 16 = rw e at h.0 in omega arith in
    rw (ne_eqb c 58 other) (onto-map 58 _)

around-groups : (rest xs segments : List ℕ) → IsGroupsAfter false (58 ∷ []) rest segments → around_double (rest ++ xs) ≡ onto rest (around_double xs)
around-groups rest xs [] h = rw h (sym (onto-nil (around_double xs)))
around-groups rest xs (s ∷ segments) (inl h) =
    let (g, others, split, is_group, more) = h in
    let shown : rest ++ xs ≡ 58 ∷ (g ++ (others ++ xs)) = ap (λ t. t ++ xs) split ∙ simp append_assoc in
    let whole : (58 ∷ []) ++ (g ++ others) ≡ rest = sym (split ∙ append_assoc (58 ∷ []) g others) in
    rw (shown, around-colon g (others ++ xs) is_group.0.0.0 is_group.0.0.1, around-group g (others ++ xs) is_group.0.0.1, around-groups others xs segments more)
    (ap (onto (58 ∷ [])) (onto-onto g others (around_double xs)) ∙ onto-onto (58 ∷ []) (g ++ others) (around_double xs) ∙ ap (λ t. onto t (around_double xs)) whole)
around-groups rest xs (s ∷ segments) (inr h) = absurd (false≢true h.2)

around-all : (text xs segments : List ℕ) → IsGroups false text segments → around_double (text ++ xs) ≡ onto text (around_double xs)
around-all text xs [] h = rw h (sym (onto-nil (around_double xs)))
around-all text xs (s ∷ segments) (inl h) =
    let (g, others, split, is_group, more) = h in
    let shown : text ++ xs ≡ g ++ (others ++ xs) = ap (λ t. t ++ xs) split ∙ append_assoc g others xs in
    let whole : g ++ others ≡ text = sym split in
    rw (shown, around-group g (others ++ xs) is_group.0.0.1, around-groups others xs segments more)
    (onto-onto g others (around_double xs) ∙ ap (λ t. onto t (around_double xs)) whole)
around-all text xs (s ∷ segments) (inr h) = absurd (false≢true h.2)

no_double : (text segments : List ℕ) → IsGroups false text segments → around_double text ≡ None
unfolding around_double
no_double text segments h = ap around_double (sym (append-nil text)) ∙ around-all text [] segments h

first_double : (head tail segments : List ℕ) → IsGroups false head segments → around_double (head ++ (58 ∷ 58 ∷ tail)) ≡ Some (head, tail)
unfolding around_double
first_double head tail segments h =
    around-all head (58 ∷ 58 ∷ tail) segments h ∙ ap (λ t. Some (t, tail)) (append-nil head)

begins_sound : (byte : ℕ) (cs : List ℕ) → begins_with byte cs ≡ true → cs ≡ byte ∷ drop 1 cs
begins_sound byte [] h = absurd (false≢true h)
begins_sound byte (c ∷ cs) h = ap (λ x. x ∷ cs) (eqb-true c byte h)

around_sound : (text head tail : List ℕ) → around_double text ≡ Some (head, tail) → text ≡ head ++ (58 ∷ 58 ∷ tail)
unfolding around_double
around_sound [] head tail e = absurd (none-some (head, tail) e)
around_sound (c ∷ cs) head tail e =
    elim (cases_Bool (is_colon c && begins_with 58 cs)) [
      | inl at_front ↦
          let (first, second) = and_parts (is_colon c) (begins_with 58 cs) at_front in
          let (head_is, tail_is) = same_parts [] head (drop 1 cs) tail (rw at_front at e) in
          rw (← head_is, ← tail_is) (ap (λ x. x ∷ cs) (eqb-true c 58 first) ∙ ap (λ t. 58 ∷ t) (begins_sound 58 cs second))
      | inr further ↦
          map_some (λ halves. (c ∷ halves.0, halves.1)) (around_double cs) (head, tail) (rw further at e) λ halves found same.
          let later = around_sound cs halves.0 halves.1 found in
          let head_is : c ∷ halves.0 ≡ head = ap (λ p. p.0) same in
          let tail_is : halves.1 ≡ tail = ap (λ p. p.1) same in
          rw (← head_is, ← tail_is) (ap (λ t. c ∷ t) later)
    ]

-- ---- whole texts

has_dot : (text bytes : List ℕ) → IsDotted text bytes → list_any is_dot text ≡ true
has_dot text bytes h =
    rw h.spelled (go (list_any is_dot (dotted_text h.a h.b h.c h.d)) refl)
  where
    go : (b : Bool) → list_any is_dot (dotted_text h.a h.b h.c h.d) ≡ b → list_any is_dot (dotted_text h.a h.b h.c h.d) ≡ true
    go true e = e
    go false e =
        let ab = decimal h.a ++ (46 ∷ []) in
        let whole = ab ++ (decimal h.b ++ (46 ∷ []) ++ decimal h.c ++ (46 ∷ []) ++ decimal h.d) in
        let shown : dotted_text h.a h.b h.c h.d ≡ whole = simp append_assoc in
        let front = or_parts (list_any is_dot ab) _ (sym (list_any-append is_dot ab _) ∙ ap (list_any is_dot) (sym shown) ∙ e) in
        let dot = or_parts (list_any is_dot (decimal h.a)) true (sym (list_any-append is_dot (decimal h.a) (46 ∷ [])) ∙ front.0) in
        absurd (true≢false dot.1)

-- where there is no dot, a dotted tail isn't one of the cases
strip : (segments lead text : List ℕ) → list_any is_dot text ≡ false → IsGroupsAfter true lead text segments → IsGroupsAfter false lead text segments
strip [] lead text none h = h
strip (s ∷ segments) lead text none (inl h) =
    let (g, rest, split, is_group, more) = h in
    let parts = or_parts (list_any is_dot (lead ++ g)) (list_any is_dot rest) (sym (list_any-append is_dot (lead ++ g) rest) ∙ ap (list_any is_dot) (sym split) ∙ none) in
    inl (g, rest, split, is_group, strip segments (58 ∷ []) rest parts.1 more)
strip (s ∷ segments) lead text none (inr h) =
    let (last, bytes, allowed, split, dotted, value) = h in
    let parts = or_parts (list_any is_dot lead) (list_any is_dot last) (sym (list_any-append is_dot lead last) ∙ ap (list_any is_dot) (sym split) ∙ none) in
    absurd (true≢false (sym (has_dot last bytes dotted) ∙ parts.1))

pub v6_complete : (text segments : List ℕ) → list_any is_dot text ≡ false → IsColonHex text segments → groups_of_v6 text ≡ Some segments
unfolding groups_of_v6
v6_complete text segments none (inl h) =
    let plain = strip segments [] text none h.0 in
    rw (no_double text segments plain, hex_groups_complete text segments plain, eq-eqb (length segments) 8 h.1)
v6_complete text segments none (inr h) =
    let tail_of = 58 ∷ 58 ∷ h.tail_text in
    let shown : text ≡ h.head_text ++ tail_of = h.spelled ∙ append_assoc h.head_text (58 ∷ 58 ∷ []) h.tail_text in
    let back = or_parts (list_any is_dot h.head_text) (list_any is_dot tail_of) (sym (list_any-append is_dot h.head_text tail_of) ∙ ap (list_any is_dot) (sym shown) ∙ none) in
    let plain = strip h.tail [] h.tail_text back.1 h.tail_groups in
    rw (
      shown,
      first_double h.head_text h.tail_text h.head h.head_groups,
      hex_groups_complete h.head_text h.head h.head_groups,
      hex_groups_complete h.tail_text h.tail plain,
      lt-ltb (length h.head + length h.tail) 8 h.room,
    ) (ap Some (sym h.value))

-- eight groups are read as they stand
pub eight_groups : (text segments : List ℕ) → IsGroups false text segments → length segments ≡ 8 → groups_of_v6 text ≡ Some segments
unfolding groups_of_v6
eight_groups text segments h eight =
    rw (no_double text segments h, hex_groups_complete text segments h, eq-eqb (length segments) 8 eight)

-- groups without a dotted tail are groups that may have one
weaker : (segments lead text : List ℕ) → IsGroupsAfter false lead text segments → IsGroupsAfter true lead text segments
weaker [] lead text h = h
weaker (s ∷ segments) lead text (inl h) = inl (h.0, h.1, h.2, h.3, weaker segments (58 ∷ []) h.1 h.4)
weaker (s ∷ segments) lead text (inr h) = absurd (false≢true h.2)

no_dots_after : (segments lead text : List ℕ) → list_any is_dot lead ≡ false → IsGroupsAfter false lead text segments → list_any is_dot text ≡ false
no_dots_after [] lead text none h = rw h
no_dots_after (s ∷ segments) lead text none (inl h) =
    let (g, rest, split, is_group, more) = h in
    rw (split, list_any-append is_dot (lead ++ g) rest, list_any-append is_dot lead g, none, no_dots g is_group.0.0.1, no_dots_after segments (58 ∷ []) rest refl more)
no_dots_after (s ∷ segments) lead text none (inr h) = absurd (false≢true h.2)

pub v6_sound : (text segments : List ℕ) → groups_of_v6 text ≡ Some segments → IsColonHex text segments × (list_any is_dot text ≡ false)
unfolding groups_of_v6
v6_sound text segments e = go (around_double text) refl e
  where
    go : (o : Option (List ℕ × List ℕ)) → around_double text ≡ o → groups_at text o ≡ Some segments → IsColonHex text segments × (list_any is_dot text ≡ false)
    go None found f =
        and_then_some (if_many 8) (hex_groups text) segments f λ all read kept.
        let (test, same) = cond_some (length all == 8) all segments kept in
        let groups = hex_groups_sound text all read in
        let eight = eqb-true (length all) 8 test in
        subst (λ xs. IsColonHex text xs × (list_any is_dot text ≡ false)) same
        (inl (weaker all [] text groups, eight), no_dots_after all [] text refl groups)
    go (Some halves) found f =
        and_then_some _ (hex_groups halves.0) segments f λ head read_head f₁.
        and_then_some _ (hex_groups halves.1) segments f₁ λ tail read_tail f₂.
        let (test, value) = cond_some (nat_lt (length head + length tail) 8) _ segments f₂ in
        let head_groups = hex_groups_sound halves.0 head read_head in
        let tail_groups = hex_groups_sound halves.1 tail read_tail in
        let spelled = around_sound text halves.0 halves.1 found in
        let dots : list_any is_dot text ≡ false =
        rw (spelled, list_any-append is_dot halves.0 (58 ∷ 58 ∷ halves.1), no_dots_after head [] halves.0 refl head_groups, no_dots_after tail [] halves.1 refl tail_groups) in (
          inr (record {
            head_text = halves.0;
            tail_text = halves.1;
            head = head;
            tail = tail;
            spelled = spelled ∙ sym (append_assoc halves.0 (58 ∷ 58 ∷ []) halves.1);
            head_groups = head_groups;
            tail_groups = weaker tail [] halves.1 tail_groups;
            room = ltb-true (length head + length tail) 8 test;
            value = sym value;
          }),
          dots,
        )

pub v6_none : (text : List ℕ) → ((segments : List ℕ) → ¬ (IsColonHex text segments)) → groups_of_v6 text ≡ None
v6_none text never = go (groups_of_v6 text) refl
  where
    go : (o : Option (List ℕ)) → groups_of_v6 text ≡ o → groups_of_v6 text ≡ None
    go None e = e
    go (Some segments) e = absurd (never segments (v6_sound text segments e).0)

pub no_dotted_v6 : (text : List ℕ) → list_any is_dot text ≡ true → groups_of_v6 text ≡ None
no_dotted_v6 text dots = go (groups_of_v6 text) refl
  where
    go : (o : Option (List ℕ)) → groups_of_v6 text ≡ o → groups_of_v6 text ≡ None
    go None e = e
    go (Some segments) e = absurd (true≢false (sym dots ∙ (v6_sound text segments e).1))
