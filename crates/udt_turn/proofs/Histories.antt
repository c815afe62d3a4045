-- Histories that go on: the value after one more item, what is legal still, and whose items they are.
use Rattle.std.proofs.Common.{◌≡◌, ℕ, suc, ◌+◌, ◌≤◌, max, Bool, true, false, ◌||◌, List, [], ◌∷◌, ◌++◌, length, refl, sym, ap, ◌∙◌, arith, append-nil, append_assoc, length-append}
use Rattle.std.specs.Prelude.{eqb, if◌then◌else◌}
use Rattle.udt_turn.specs.Story.{Telling}
use Rattle.udt_turn.specs.History.{has, keep_if, mine_in, Begins, value_after, MayFollow, last_from}
use Rattle.udt_turn.specs.Rule.{Sees}

module _ {V E : Type 0} (t : Telling V E) where
  pub value_after-push : (s : V) (xs : List (ℕ × E)) (y : ℕ × E) → value_after t s (xs ++ y ∷ []) ≡ t.after (value_after t s xs) y.1
  value_after-push s [] y = refl
  value_after-push s (x ∷ xs) y = value_after-push (t.after s x.1) xs y

  pub may_follow-push : (s : V) (xs : List (ℕ × E)) (y : ℕ × E) → MayFollow t s xs → t.legal (value_after t s xs) y.1
      → t.count (t.after (value_after t s xs) y.1) ≡ t.count (value_after t s xs) + 1 → MayFollow t s (xs ++ y ∷ [])
  may_follow-push s [] y h legal count = (legal, count, tt)
  may_follow-push s (x ∷ xs) y h legal count = (h.0, h.1, may_follow-push (t.after s x.1) xs y h.2 legal count)

  -- the beginning of a legal history is legal
  pub may_follow-front : (s : V) (xs ys : List (ℕ × E)) → MayFollow t s (xs ++ ys) → MayFollow t s xs
  may_follow-front s [] ys h = tt
  may_follow-front s (x ∷ xs) ys h = (h.0, h.1, may_follow-front (t.after s x.1) xs ys h.2)

keep_if-append : {A : Type 0} (b : Bool) (x : A) (xs ys zs : List A) → xs ≡ ys ++ zs → keep_if b x xs ≡ keep_if b x ys ++ zs
keep_if-append true x xs ys zs e = ap (λ us. x ∷ us) e
keep_if-append false x xs ys zs e = e

pub mine_in-append : {E : Type 0} (names : List ℕ) (xs ys : List (ℕ × E)) → mine_in names (xs ++ ys) ≡ mine_in names xs ++ mine_in names ys
mine_in-append names [] ys = refl
mine_in-append names (x ∷ xs) ys = keep_if-append (has names x.0) x (mine_in names (xs ++ ys)) (mine_in names xs) (mine_in names ys) (mine_in-append names xs ys)

pub append_empty : {A : Type 0} (xs ys : List A) → xs ++ ys ≡ [] → (xs ≡ []) × (ys ≡ [])
append_empty [] ys e = (refl, e)
append_empty (x ∷ xs) ys e = absurd (cc)

-- of what was made under these names the beginning of the history has as much as the whole
pub sees_mine : {E : Type 0} (names : List ℕ) (seen items : List (ℕ × E)) → Sees names seen items → mine_in names items ≡ mine_in names seen
sees_mine names seen items h = ap (mine_in names) h.is ∙ mine_in-append names seen h.rest ∙ ap (λ ys. mine_in names seen ++ ys) h.none_of ∙ append-nil (mine_in names seen)

-- with an item of one's own at the end, that much is one's own
pub mine_in-own : {E : Type 0} (names : List ℕ) (seen found : List (ℕ × E)) (y : ℕ × E) → Sees names seen found → has names y.0 ≡ true → mine_in names (found ++ y ∷ []) ≡ mine_in names seen ++ y ∷ []
mine_in-own names seen found y h own = mine_in-append names found (y ∷ []) ∙ ap (λ zs. zs ++ mine_in names (y ∷ [])) (sees_mine names seen found h) ∙ ap (λ b. mine_in names seen ++ keep_if b y []) own

-- all of it was seen
pub sees_all : {E : Type 0} (names : List ℕ) (items : List (ℕ × E)) → Sees names items items
sees_all names items = record { rest = []; is = sym (append-nil items); none_of = refl }

-- one more item, which is not under these names
pub sees_more : {E : Type 0} (names : List ℕ) (seen items : List (ℕ × E)) (y : ℕ × E) → has names y.0 ≡ false → Sees names seen items → Sees names seen (items ++ y ∷ [])
sees_more names seen items y not h = record {
  rest = h.rest ++ y ∷ [];
  is = ap (λ zs. zs ++ y ∷ []) h.is ∙ append_assoc seen h.rest (y ∷ []);
  none_of = mine_in-append names h.rest (y ∷ []) ∙ ap (λ zs. zs ++ mine_in names (y ∷ [])) h.none_of ∙ ap (λ b. keep_if b y []) not;
}

pub begins_more : {A : Type 0} (xs ys zs : List A) → Begins xs ys → Begins xs (ys ++ zs)
begins_more xs ys zs h = (h.0 ++ zs, ap (λ us. us ++ zs) h.1 ∙ append_assoc xs h.0 zs)

-- of two beginnings of one list the shorter begins the longer
pub begins_both : {A : Type 0} (xs ys r q : List A) → xs ++ r ≡ ys ++ q → length xs ≤ length ys → Begins xs ys
begins_both [] ys r q e le = (ys, refl)
begins_both (x ∷ xs) [] r q e le = absurd (omega arith)
begins_both (x ∷ xs) (y ∷ ys) r q e le =
    let head : x ≡ y = cc in
    let tail : xs ++ r ≡ ys ++ q = cc in
    let h = begins_both xs ys r q tail (omega arith) in
    (h.0, λ i. sym head i ∷ h.1 i)

-- what is left after the longer of the two
pub cancel : {A : Type 0} (xs ys zs : List A) → xs ++ ys ≡ xs ++ zs → ys ≡ zs
cancel [] ys zs e = e
cancel (x ∷ xs) ys zs e = cancel xs ys zs (cc)

-- whoever was seen less far has made nothing in the rest either
pub sees_longer : {E : Type 0} (names : List ℕ) (xs ys items rest : List (ℕ × E)) → Sees names xs items → items ≡ ys ++ rest → length xs ≤ length ys → mine_in names rest ≡ []
sees_longer names xs ys items rest h e le =
    let b = begins_both xs ys h.rest rest (sym h.is ∙ e) le in
    let same : h.rest ≡ b.0 ++ rest = cancel xs h.rest (b.0 ++ rest) (sym h.is ∙ e ∙ ap (λ us. us ++ rest) b.1 ∙ append_assoc xs b.0 rest) in
    (append_empty (mine_in names b.0) (mine_in names rest) (sym (mine_in-append names b.0 rest) ∙ ap (mine_in names) (sym same) ∙ h.none_of)).1

or_false : (a b : Bool) → (a || b) ≡ false → (a ≡ false) × (b ≡ false)
or_false true b e = absurd (cc)
or_false false b e = (refl, e)

pub has-append : (ms ns : List ℕ) (n : ℕ) → has (ms ++ ns) n ≡ (has ms n || has ns n)
has-append [] ns n = refl
has-append (m ∷ ms) ns n = joined (eqb m n) (has ms n) (has ns n) (has (ms ++ ns) n) (has-append ms ns n)
  where
    joined : (a b c d : Bool) → d ≡ (b || c) → (a || d) ≡ ((a || b) || c)
    joined true b c d e = refl
    joined false b c d e = e

keep_if-none : {A : Type 0} (p q r : Bool) (x : A) (xs ys zs : List A) → r ≡ (p || q) → (xs ≡ [] → ys ≡ [] → zs ≡ []) → keep_if p x xs ≡ [] → keep_if q x ys ≡ [] → keep_if r x zs ≡ []
keep_if-none true q r x xs ys zs e f a b = absurd (cc)
keep_if-none false true r x xs ys zs e f a b = absurd (cc)
keep_if-none false false r x xs ys zs e f a b = ap (λ c. keep_if c x zs) e ∙ f a b

-- what is under neither of two lists of names is not under both together
pub mine_in-none : {E : Type 0} (ms ns : List ℕ) (xs : List (ℕ × E)) → mine_in ms xs ≡ [] → mine_in ns xs ≡ [] → mine_in (ms ++ ns) xs ≡ []
mine_in-none ms ns [] a b = refl
mine_in-none ms ns (x ∷ xs) a b =
    keep_if-none (has ms x.0) (has ns x.0) (has (ms ++ ns) x.0) x (mine_in ms xs) (mine_in ns xs) (mine_in (ms ++ ns) xs) (has-append ms ns x.0) (mine_in-none ms ns xs) a b

length-keep_if : {A : Type 0} (b : Bool) (x : A) (xs ys : List A) → length xs ≤ length ys → length (keep_if b x xs) ≤ suc (length ys)
length-keep_if true x xs ys h = omega arith
length-keep_if false x xs ys h = omega arith

no_longer : {E : Type 0} (names : List ℕ) (xs : List (ℕ × E)) → length (mine_in names xs) ≤ length xs
no_longer names [] = omega arith
no_longer names (x ∷ xs) = length-keep_if (has names x.0) x (mine_in names xs) xs (no_longer names xs)

nothing_left : {A : Type 0} (xs : List A) → length xs ≡ 0 → xs ≡ []
nothing_left [] e = refl
nothing_left (x ∷ xs) e = absurd (omega arith)

-- where all of the history was made under these names, so was what was seen of it
pub seen_whole : {E : Type 0} (names : List ℕ) (seen items : List (ℕ × E)) → Sees names seen items → mine_in names items ≡ items → mine_in names seen ≡ seen
seen_whole names seen items h all =
    let e : mine_in names seen ≡ seen ++ h.rest = sym (sees_mine names seen items h) ∙ all ∙ h.is in
    let le = no_longer names seen in
    let l : length (mine_in names seen) ≡ length seen + length h.rest = ap length e ∙ length-append seen h.rest in
    let none : h.rest ≡ [] = nothing_left h.rest (omega arith) in
    e ∙ ap (λ ys. seen ++ ys) none ∙ append-nil seen

pub keep_if-empty : {A : Type 0} (b : Bool) (x : A) (xs : List A) → keep_if b x xs ≡ [] → (b ≡ false) × (xs ≡ [])
keep_if-empty true x xs e = absurd (cc)
keep_if-empty false x xs e = (refl, e)

if_true : {A : Type 0} (b : Bool) (x y : A) → b ≡ true → (if b then x else y) ≡ x
if_true true x y e = refl
if_true false x y e = absurd (cc)

if_false : {A : Type 0} (b : Bool) (x y : A) → b ≡ false → (if b then x else y) ≡ y
if_false true x y e = absurd (cc)
if_false false x y e = refl

-- the later of two counts, where one that is new is above both
later_of : (p q r : Bool) (a b n : ℕ) → r ≡ (p || q) → a ≤ n → b ≤ n → (if r then n else max a b) ≡ max (if p then n else a) (if q then n else b)
later_of true true r a b n e la lb = ap (λ z. if z then n else max a b) e ∙ omega arith
later_of true false r a b n e la lb = ap (λ z. if z then n else max a b) e ∙ omega arith
later_of false true r a b n e la lb = ap (λ z. if z then n else max a b) e ∙ omega arith
later_of false false r a b n e la lb = ap (λ z. if z then n else max a b) e

no_later : (p : Bool) (a n m : ℕ) → a ≤ n → m ≡ n + 1 → (if p then m else a) ≤ m
no_later true a n m h e = omega arith
no_later false a n m h e = omega arith

module _ {V E : Type 0} (t : Telling V E) where
  pub last_from-append : (names : List ℕ) (s : V) (xs ys : List (ℕ × E)) (c : ℕ) → last_from t names s (xs ++ ys) c ≡ last_from t names (value_after t s xs) ys (last_from t names s xs c)
  last_from-append names s [] ys c = refl
  last_from-append names s (x ∷ xs) ys c = last_from-append names (t.after s x.1) xs ys (if has names x.0 then t.count (t.after s x.1) else c)

  pub last_from-none : (names : List ℕ) (s : V) (xs : List (ℕ × E)) (c : ℕ) → mine_in names xs ≡ [] → last_from t names s xs c ≡ c
  last_from-none names s [] c e = refl
  last_from-none names s (x ∷ xs) c e =
      let h = keep_if-empty (has names x.0) x (mine_in names xs) e in
      last_from-none names (t.after s x.1) xs (if has names x.0 then t.count (t.after s x.1) else c) h.1 ∙ if_false (has names x.0) (t.count (t.after s x.1)) c h.0

  -- an item of one's own is the last one
  pub last_from-own : (names : List ℕ) (s : V) (xs : List (ℕ × E)) (y : ℕ × E) (c : ℕ) → has names y.0 ≡ true → last_from t names s (xs ++ y ∷ []) c ≡ t.count (t.after (value_after t s xs) y.1)
  last_from-own names s xs y c h = last_from-append names s xs (y ∷ []) c ∙ if_true (has names y.0) (t.count (t.after (value_after t s xs) y.1)) (last_from t names s xs c) h

  pub last_from-other : (names : List ℕ) (s : V) (xs : List (ℕ × E)) (y : ℕ × E) (c : ℕ) → has names y.0 ≡ false → last_from t names s (xs ++ y ∷ []) c ≡ last_from t names s xs c
  last_from-other names s xs y c h = last_from-append names s xs (y ∷ []) c ∙ if_false (has names y.0) (t.count (t.after (value_after t s xs) y.1)) (last_from t names s xs c) h

  -- what was seen has the last item of one's own
  pub last_from-seen : (names : List ℕ) (s : V) (seen items : List (ℕ × E)) (c : ℕ) → Sees names seen items → last_from t names s items c ≡ last_from t names s seen c
  last_from-seen names s seen items c h =
      ap (λ xs. last_from t names s xs c) h.is ∙ last_from-append names s seen h.rest c
      ∙ last_from-none names (value_after t s seen) h.rest (last_from t names s seen c) h.none_of

  -- of two lists of names together the last item is the later of both
  pub last_from-both : (ms ns : List ℕ) (s : V) (xs : List (ℕ × E)) (a b : ℕ) → a ≤ t.count s → b ≤ t.count s → MayFollow t s xs
      → last_from t (ms ++ ns) s xs (max a b) ≡ max (last_from t ms s xs a) (last_from t ns s xs b)
  last_from-both ms ns s [] a b la lb legal = refl
  last_from-both ms ns s (x ∷ xs) a b la lb legal =
      let n = t.count (t.after s x.1) in
      let up : n ≡ t.count s + 1 = legal.1 in
      let step : (if has (ms ++ ns) x.0 then n else max a b) ≡ max (if has ms x.0 then n else a) (if has ns x.0 then n else b) =
      later_of (has ms x.0) (has ns x.0) (has (ms ++ ns) x.0) a b n (has-append ms ns x.0) (omega arith) (omega arith) in
      ap (λ c. last_from t (ms ++ ns) (t.after s x.1) xs c) step
      ∙ last_from-both ms ns (t.after s x.1) xs (if has ms x.0 then n else a) (if has ns x.0 then n else b)
      (no_later (has ms x.0) a (t.count s) n la up) (no_later (has ns x.0) b (t.count s) n lb up) legal.2
