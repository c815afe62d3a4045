-- What is printed of an address is read as that address.
use Rattle.std.proofs.Common.{◌≡◌, ◌≢◌, ℕ, ◌+◌, ◌*◌, ◌/◌, ◌%◌, ◌^◌, ◌<◌, ◌≤◌, false, ◌==◌, List, [], ◌∷◌, ◌++◌, length, get_or, take, drop, Some, option_map, All, decimal, refl, sym, ap, ◌∙◌, subst, arith, inl, inr, append_assoc, append-nil, length-append, lit<, lit≤, take_at, drop_at, ne_eqb, eq-eqb}
use Rattle.std.specs.Fmt.{digits}
use Rattle.std.specs.Char.{digit_value}
use Rattle.std.specs.Int.Digits.{number_from_digits}
use Rattle.std.specs.Str.Parse.{AllDigits}
use Rattle.std.specs.Net.Grammar.{IsDotted, IsGroup, IsGroupsAfter, IsGroups}
use Rattle.std.proofs.lemmas.Bool.{cases_lt}
use Rattle.std.proofs.lemmas.List.{drop-drop}
use Rattle.std.proofs.lemmas.List.Elements.{All-nil, All-cons, All-head, All-tail, All-append, All-from_get_or}
use Rattle.std.proofs.lemmas.Fmt.{decimal_is_IsNumeral, digits_is_IsNumeral}
use Rattle.std.proofs.lemmas.Str.Parse.{digit_at}
use Rattle.udt_model.specs.declared.addresses.Addr.{Addr}
use Rattle.udt_model.specs.declared.addresses.Ip.{Ip}
use Rattle.udt_model.specs.declared.addresses.Ip.TheVariants.{V4, V6}
use Rattle.udt_model.specs.Addresses.{dotted, grouped, ip_text, address_text, begins_with, length_before, before, following, v4_of, v6_of, addr_of}
use Rattle.udt_outside.specs.Writing.{IpFits}
use Rattle.udt_outside.proofs.NumberLemmas.{number_within-decimal}
use Rattle.udt_outside.proofs.ReadingLemmas.{v4_complete}
use Rattle.udt_outside.proofs.GroupLemmas.{eight_groups}
use Rattle.udt_outside.proofs.WritingLemmas.{one_digit, two_digits, three_digits, four_digits}

-- ---- what stands before and after a byte

-- the text has no such byte
abbrev Without : ℕ → List ℕ → Type 0
Without byte xs = All (λ c. (c == byte) ≡ false) xs

ends_before : (byte : ℕ) (xs ys : List ℕ) → Without byte xs → length_before byte (xs ++ byte ∷ ys) ≡ length xs
ends_before byte [] ys h = rw (eq-eqb byte byte refl)
ends_before byte (x ∷ xs) ys h =
    let later = ends_before byte xs ys (All-tail (λ c. (c == byte) ≡ false) x xs h) in
    let first : (x == byte) ≡ false = All-head (λ c. (c == byte) ≡ false) x xs h in
    rw first (omega (arith, later))

before_at : (byte : ℕ) (xs ys : List ℕ) → Without byte xs → before byte (xs ++ byte ∷ ys) ≡ xs
before_at byte xs ys h = ap (λ n. take n (xs ++ byte ∷ ys)) (ends_before byte xs ys h) ∙ take_at xs (byte ∷ ys) (length xs) refl

following_at : (byte : ℕ) (xs ys : List ℕ) → Without byte xs → following byte (xs ++ byte ∷ ys) ≡ ys
following_at byte xs ys h =
    ap (λ n. drop (n + 1) (xs ++ byte ∷ ys)) (ends_before byte xs ys h)
    ∙ sym (drop-drop 1 (length xs) (xs ++ byte ∷ ys)) ∙ ap (drop 1) (drop_at xs (byte ∷ ys) (length xs) refl)

begins_none : (byte : ℕ) (xs ys : List ℕ) → 0 < length xs → Without byte xs → begins_with byte (xs ++ ys) ≡ false
begins_none byte [] ys some h = absurd (omega arith)
begins_none byte (x ∷ xs) ys some h = All-head (λ c. (c == byte) ≡ false) x xs h

-- ---- V4

decimal_without : (byte n : ℕ) → 57 < byte → n < 2 ^ 64 → Without byte (decimal n)
decimal_without byte n high fits =
    All-from_get_or (λ c. (c == byte) ≡ false) (decimal n) 0 λ i h.
    let digit = digit_at (decimal n) i (decimal_is_IsNumeral n fits).0.1 h in
    ne_eqb (get_or (decimal n) i 0) byte (omega arith)

dotted_without : (byte bits : ℕ) → 57 < byte → bits < 2 ^ 32 → Without byte (dotted bits)
dotted_without byte bits high fits =
    let P : ℕ → Type 0 = λ c. (c == byte) ≡ false in
    let dot : P 46 = ne_eqb 46 byte (omega arith) in
    let next : (n : ℕ) → n < 2 ^ 64 → All P (46 ∷ decimal n) = λ n small. All-cons P 46 (decimal n) dot (decimal_without byte n high small) in
    All-append P _ _
    (All-append P _ _
    (All-append P _ _ (decimal_without byte (bits / 2 ^ 24) high (omega arith)) (next (bits / 2 ^ 16 % 256) (omega arith)))
    (next (bits / 2 ^ 8 % 256) (omega arith)))
    (next (bits % 256) (omega arith))

dotted_read : (bits : ℕ) → bits < 2 ^ 32 → v4_of (dotted bits) ≡ Some (V4 bits)
dotted_read bits fits =
    let bytes = bits / 2 ^ 24 ∷ bits / 2 ^ 16 % 256 ∷ bits / 2 ^ 8 % 256 ∷ bits % 256 ∷ [] in
    let spelled : IsDotted (dotted bits) bytes = record {
      a = bits / 2 ^ 24;
      b = bits / 2 ^ 16 % 256;
      c = bits / 2 ^ 8 % 256;
      d = bits % 256;
      fit = omega arith;
      value = refl;
      spelled = simp append_assoc;
    } in
    let value : number_from_digits 256 bytes ≡ bits = omega arith in
    ap (option_map (λ xs. V4 (number_from_digits 256 xs))) (v4_complete (dotted bits) bytes spelled) ∙ ap (λ n. Some (V4 n)) value

dotted_some : (bits : ℕ) → bits < 2 ^ 32 → 0 < length (dotted bits)
dotted_some bits fits = simp length-append (omega (arith, (decimal_is_IsNumeral (bits / 2 ^ 24) (omega arith)).0.0))

v4_back : (bits port : ℕ) → bits < 2 ^ 32 → port < 2 ^ 16 → addr_of (dotted bits ++ 58 ∷ decimal port) ≡ Some (record { ip = V4 bits; port = port })
unfolding addr_of
v4_back bits port fits small =
    rw (
      begins_none 91 (dotted bits) (58 ∷ decimal port) (dotted_some bits fits) (dotted_without 91 bits (lit< tt) fits),
      before_at 58 (dotted bits) (decimal port) (dotted_without 58 bits (lit< tt) fits),
      following_at 58 (dotted bits) (decimal port) (dotted_without 58 bits (lit< tt) fits),
      dotted_read bits fits,
      number_within-decimal 65535 port (omega arith) (lit< tt),
    )

-- ---- V6

IsGroup-digits : (n : ℕ) → n < 2 ^ 16 → IsGroup (digits 16 false n) n
IsGroup-digits n fits =
    let number = digits_is_IsNumeral 16 false (lit≤ tt) (lit≤ tt) n (omega arith) in
    let short : length (digits 16 false n) ≤ 4 = elim (cases_lt n 0x10) [
      | inl one ↦ rw (one_digit n one) (omega arith)
      | inr more ↦ elim (cases_lt n 0x100) [
        | inl two ↦ rw (two_digits n more two) (omega arith)
        | inr more₂ ↦ elim (cases_lt n 0x1000) [
          | inl three ↦ rw (three_digits n more₂ three) (omega arith)
          | inr four ↦ rw (four_digits n four (omega arith)) (omega arith)
        ]
      ]
    ] in
    (number, short)

hex_without : (byte : ℕ) (g : List ℕ) → 16 ≤ digit_value byte → AllDigits 16 g → Without byte g
hex_without byte [] high h = All-nil (λ c. (c == byte) ≡ false)
hex_without byte (c ∷ cs) high h =
    let other : c ≢ byte = λ e. let low : digit_value byte < 16 = rw e at h.0 in omega arith in
    All-cons (λ c. (c == byte) ≡ false) c cs (ne_eqb c byte other) (hex_without byte cs high h.1)

-- each group after a colon
abbrev more_groups : List ℕ → List ℕ
more_groups [] = []
more_groups (n ∷ ns) = 58 ∷ (digits 16 false n ++ more_groups ns)

abbrev AllGroups : List ℕ → Type 0
AllGroups [] = Unit {0}
AllGroups (n ∷ ns) = (n < 2 ^ 16) × AllGroups ns

more_read : (ns : List ℕ) → AllGroups ns → IsGroupsAfter false (58 ∷ []) (more_groups ns) ns
more_read [] h = refl
more_read (n ∷ ns) h = inl (digits 16 false n, more_groups ns, refl, IsGroup-digits n h.0, more_read ns h.1)

more_without : (ns : List ℕ) → AllGroups ns → Without 93 (more_groups ns)
more_without [] h = All-nil (λ c. (c == 93) ≡ false)
more_without (n ∷ ns) h =
    All-cons (λ c. (c == 93) ≡ false) 58 _ refl
    (All-append (λ c. (c == 93) ≡ false) (digits 16 false n) (more_groups ns) (hex_without 93 _ (lit≤ tt) (IsGroup-digits n h.0).0.0.1) (more_without ns h.1))

joined : (a b c d e f g h p q r s t u n : ℕ) → a * 65536 + b ≡ p → p * 65536 + c ≡ q → q * 65536 + d ≡ r → r * 65536 + e ≡ s → s * 65536 + f ≡ t → t * 65536 + g ≡ u → u * 65536 + h ≡ n → number_from_digits 65536 (a ∷ b ∷ c ∷ d ∷ e ∷ f ∷ g ∷ h ∷ []) ≡ n
joined a b c d e f g h p q r s t u n e₁ e₂ e₃ e₄ e₅ e₆ e₇ = omega arith

regroup : (a b c d e f g h : List ℕ) → a ++ 58 ∷ b ++ 58 ∷ c ++ 58 ∷ d ++ 58 ∷ e ++ 58 ∷ f ++ 58 ∷ g ++ 58 ∷ h ≡ a ++ 58 ∷ (b ++ 58 ∷ (c ++ 58 ∷ (d ++ 58 ∷ (e ++ 58 ∷ (f ++ 58 ∷ (g ++ 58 ∷ h))))))
regroup a b c d e f g h = rw (append_assoc, append_assoc, append_assoc, append_assoc, append_assoc, append_assoc)

below : (n : ℕ) → n % 2 ^ 16 < 2 ^ 16
below n = omega arith

module _ (bits : ℕ) (fits : bits < 2 ^ 128) where
  abbrev others : List ℕ
  others =
      bits / 2 ^ 96 % 2 ^ 16 ∷ bits / 2 ^ 80 % 2 ^ 16 ∷ bits / 2 ^ 64 % 2 ^ 16 ∷ bits / 2 ^ 48 % 2 ^ 16 ∷ bits / 2 ^ 32 % 2 ^ 16 ∷ bits / 2 ^ 16 % 2 ^ 16 ∷ bits / 2 ^ 0 % 2 ^ 16 ∷ []

  abbrev first : ℕ
  first = bits / 2 ^ 112 % 2 ^ 16

  all_fit : AllGroups (first ∷ others)
  all_fit = (below _, (below _, (below _, (below _, (below _, (below _, (below _, (below _, tt))))))))

  grouped_is : grouped bits ≡ digits 16 false first ++ more_groups others
  grouped_is = rw append-nil (regroup _ _ _ _ _ _ _ _)

  grouped_value : number_from_digits 65536 (first ∷ others) ≡ bits
  grouped_value =
      joined first _ _ _ _ _ _ _ (bits / 2 ^ 96) (bits / 2 ^ 80) (bits / 2 ^ 64) (bits / 2 ^ 48) (bits / 2 ^ 32) (bits / 2 ^ 16) bits
      (omega arith) (omega arith) (omega arith) (omega arith) (omega arith) (omega arith) (omega arith)

  grouped_read : v6_of (grouped bits) ≡ Some (V6 bits)
  grouped_read =
      let groups : IsGroups false (digits 16 false first ++ more_groups others) (first ∷ others) = inl (digits 16 false first, more_groups others, refl, IsGroup-digits first all_fit.0, more_read others all_fit.1) in
      ap v6_of grouped_is ∙ ap (option_map (λ xs. V6 (number_from_digits 65536 xs))) (eight_groups _ (first ∷ others) groups refl) ∙ ap (λ n. Some (V6 n)) grouped_value

  grouped_without : Without 93 (grouped bits)
  grouped_without =
      subst (Without 93) (sym grouped_is)
      (All-append (λ c. (c == 93) ≡ false) (digits 16 false first) (more_groups others) (hex_without 93 _ (lit≤ tt) (IsGroup-digits first all_fit.0).0.0.1) (more_without others all_fit.1))

  v6_back : (port : ℕ) → port < 2 ^ 16 → addr_of (91 ∷ (grouped bits ++ 93 ∷ 58 ∷ decimal port)) ≡ Some (record { ip = V6 bits; port = port })
  unfolding addr_of
  v6_back port small =
      rw (
        before_at 93 (grouped bits) (58 ∷ decimal port) grouped_without,
        following_at 93 (grouped bits) (58 ∷ decimal port) grouped_without,
        grouped_read,
        number_within-decimal 65535 port (omega arith) (lit< tt),
      )

-- ---- both

ip_back : (ip : Ip) (port : ℕ) → IpFits ip → port < 2 ^ 16 → addr_of (ip_text ip ++ 58 ∷ decimal port) ≡ Some (record { ip = ip; port = port })
ip_back (V4 bits) port fits small = v4_back bits port fits small
ip_back (V6 bits) port fits small =
    let shown : ip_text (V6 bits) ++ 58 ∷ decimal port ≡ 91 ∷ (grouped bits ++ 93 ∷ 58 ∷ decimal port) = simp append_assoc in
    ap addr_of shown ∙ v6_back bits fits port small

-- the one printed form of an address is read as that address
pub reads_back : (addr : Addr) → IpFits addr.ip → addr.port < 2 ^ 16 → addr_of (address_text addr) ≡ Some addr
unfolding address_text
reads_back addr fits small = ip_back addr.ip addr.port fits small
