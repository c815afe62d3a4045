-- The last ACK with a number, and the history without it.
use Rattle.std.proofs.Common.{◌≡◌, ◌≢◌, ℕ, suc, ◌+◌, ◌-◌, ◌<◌, Bool, true, false, not, cond, Option, Some, None, List, [], ◌∷◌, ◌++◌, length, take, drop, get_or, filter, refl, sym, ◌∙◌, ap, arith, length-drop}
use Rattle.std.specs.List.{All, remove, last_or, suffix_len, before_last, after_last}
use Rattle.std.proofs.lemmas.Bool.{eq-eqb, ne_eqb}
use Rattle.std.proofs.lemmas.List.{drop_more, take-append-drop, get_or-drop}
use Rattle.std.proofs.lemmas.List.Elements.{All-head, All-tail, filter-append}
use Rattle.std.proofs.lemmas.List.Sums.{suffix_len_is}
use Rattle.udt_model.specs.Timing.{is_under, last_under, without_last_under}
use Rattle.udt_model.specs.declared.sockets.SentAck.{SentAck}
use Rattle.udt_timing.specs.AckHistories.{TakesLast, KeepsOthers}

-- ---- lists around a place

split_at : {X : Type 0} (es : List X) (i : ℕ) (x : X) → i < length es → get_or es i x ≡ x → es ≡ take i es ++ x ∷ drop (i + 1) es
split_at {X} es i x h is =
    sym (take-append-drop i es)
    ∙ ap (λ z. take i es ++ z) (drop_more es i x h)
    ∙ ap (λ z. take i es ++ z ∷ drop (i + 1) es) is

filter-none : {X : Type 0} (p : X → Bool) (es : List X) → All (λ e. p e ≡ false) es → filter p es ≡ []
filter-none p [] none = refl
filter-none p (e ∷ es) none =
    ap (λ b. cond b (e ∷ filter p es) (filter p es)) (All-head (λ e. p e ≡ false) e es none) ∙ filter-none p es (All-tail (λ e. p e ≡ false) e es none)

last_or-push : {X : Type 0} (o : Option X) (xs : List X) (x : X) → last_or o (xs ++ x ∷ []) ≡ Some x
last_or-push o [] x = refl
last_or-push o (y ∷ ys) x = last_or-push (Some y) ys x

-- ---- a test that passes at a place and at none after it

module _ {X : Type 0} (p : X → Bool) (es : List X) (i : ℕ) (x : X) (h : i < length es) (is : get_or es i x ≡ x) (passes : p x ≡ true) (none : All (λ e. p e ≡ false) (drop (i + 1) es)) where
  last-filter : last_or None (filter p es) ≡ Some x
  last-filter =
      ap (λ z. last_or None (filter p z)) (split_at es i x h is)
      ∙ ap (last_or None) (filter-append p (take i es) (x ∷ drop (i + 1) es))
      ∙ ap (λ b. last_or None (filter p (take i es) ++ cond b (x ∷ filter p (drop (i + 1) es)) (filter p (drop (i + 1) es)))) passes
      ∙ ap (λ z. last_or None (filter p (take i es) ++ x ∷ z)) (filter-none p (drop (i + 1) es) none)
      ∙ last_or-push None (filter p (take i es)) x

  following : suffix_len (λ e. not (p e)) es ≡ length es - (i + 1)
  following =
      suffix_len_is (λ e. not (p e)) es (i + 1) x (omega arith)
      (λ k from within.
      let place : (i + 1) + (k - (i + 1)) ≡ k = omega arith in
      let at = get_or-drop (i + 1) es (k - (i + 1)) x ∙ ap (λ n. get_or es n x) place in
      ap not (sym (ap p at) ∙ none (k - (i + 1)) x (omega (arith, length-drop (i + 1) es))))
      (λ _.
      let place : (i + 1) - 1 ≡ i = omega arith in
      ap not (ap (λ n. p (get_or es n x)) place ∙ ap p is ∙ passes))

  around_last : before_last p es ++ after_last p es ≡ take i es ++ drop (i + 1) es
  around_last =
      let front : length es - suffix_len (λ e. not (p e)) es - 1 ≡ i = omega (arith, following) in
      let back : length es - suffix_len (λ e. not (p e)) es ≡ i + 1 = omega (arith, following) in
      ap (λ n. take n es ++ after_last p es) front ∙ ap (λ n. take i es ++ drop n es) back

-- ---- a test that passes nowhere

around_none : {X : Type 0} (p : X → Bool) (es : List X) → All (λ e. p e ≡ false) es → before_last p es ++ after_last p es ≡ es
around_none p [] none = refl
around_none p (e ∷ es) none =
    let all : List _ = e ∷ es in
    let following : suffix_len (λ x. not (p x)) all ≡ length all - 0 = suffix_len_is (λ x. not (p x)) all 0 e (omega arith) (λ k _ within. ap not (none k e within)) (λ pos. absurd (omega arith)) in
    let front : length all - suffix_len (λ x. not (p x)) all - 1 ≡ 0 = omega (arith, following) in
    let back : length all - suffix_len (λ x. not (p x)) all ≡ 0 = omega (arith, following) in
    ap (λ n. take n all ++ after_last p all) front ∙ ap (λ n. drop n all) back

-- ---- by the number

other_number : (number : ℕ) (es : List SentAck) → All (λ e. e.number ≢ number) es → All (λ e. is_under number e ≡ false) es
other_number number es none k d h = ne_eqb (get_or es k d).number number (none k d h)

pub last_under-none : (number : ℕ) (es : List SentAck) → All (λ e. e.number ≢ number) es → last_under number es ≡ None
last_under-none number es none = ap (last_or None) (filter-none (is_under number) es (other_number number es none))

pub without_last_under-none : (number : ℕ) (es : List SentAck) → All (λ e. e.number ≢ number) es → without_last_under number es ≡ es
without_last_under-none number es none = around_none (is_under number) es (other_number number es none)

module _ (number : ℕ) (es : List SentAck) (i : ℕ) (x : SentAck) (h : i < length es) (is : get_or es i x ≡ x) (same : x.number ≡ number) (none : All (λ e. e.number ≢ number) (drop (i + 1) es)) where
  pub last_under-found : last_under number es ≡ Some x
  last_under-found =
      last-filter (is_under number) es i x h is (eq-eqb x.number number same) (other_number number (drop (i + 1) es) none)

  pub without_last_under-found : without_last_under number es ≡ take i es ++ drop (i + 1) es
  without_last_under-found =
      around_last (is_under number) es i x h is (eq-eqb x.number number same) (other_number number (drop (i + 1) es) none)

  -- it is taken out from between the others
  pub TakesLast-found : (rest : List SentAck) → rest ≡ take i es ++ drop (i + 1) es → TakesLast number x.offset x.moment es rest
  TakesLast-found rest out =
      record {
        before = take i es;
        after = drop (i + 1) es;
        was = split_at es i x h is ∙ ap (λ n. take i es ++ record { number = n; offset = x.offset; moment = x.moment } ∷ drop (i + 1) es) same;
        is = out;
        last = none;
      }

-- ---- what comes to the end is the last under its number

pub last_under-pushed : (number : ℕ) (es : List SentAck) (x : SentAck) → x.number ≡ number → last_under number (es ++ x ∷ []) ≡ Some x
last_under-pushed number es x same =
    let p : SentAck → Bool = is_under number in
    ap (last_or None) (filter-append p es (x ∷ []))
    ∙ ap (λ b. last_or None (filter p es ++ cond b (x ∷ []) [])) (eq-eqb x.number number same)
    ∙ last_or-push None (filter p es) x

-- ---- taking one out leaves what other numbers find

filter-skip : {X : Type 0} (p : X → Bool) (before : List X) (x : X) (after : List X) → p x ≡ false → filter p (before ++ x ∷ after) ≡ filter p (before ++ after)
filter-skip p before x after fails =
    filter-append p before (x ∷ after)
    ∙ ap (λ b. filter p before ++ cond b (x ∷ filter p after) (filter p after)) fails
    ∙ sym (filter-append p before after)

pub KeepsOthers-takes : (number offset moment : ℕ) (old new : List SentAck) → TakesLast number offset moment old new → KeepsOthers number old new
KeepsOthers-takes number offset moment old new takes other differs =
    let x : SentAck = record { number = number; offset = offset; moment = moment } in
    let p : SentAck → Bool = is_under other in
    ap (λ z. last_or None (filter p z)) takes.is
    ∙ ap (last_or None) (sym (filter-skip p takes.before x takes.after (ne_eqb number other (λ e. differs (sym e)))))
    ∙ ap (λ z. last_or None (filter p z)) (sym takes.was)

-- ---- so it is with the last under a number

module _ (number : ℕ) (old rest : List SentAck) (i : ℕ) (x : SentAck) (h : i < length old) (is : get_or old i x ≡ x) (same : x.number ≡ number) (none : All (λ e. e.number ≢ number) (drop (i + 1) old)) (out : rest ≡ remove old i) where
  pub record Took : Type 0 where
    pub entry : last_under number old ≡ Some x
    pub others : rest ≡ without_last_under number old
    pub between : TakesLast number x.offset x.moment old rest
    pub kept : KeepsOthers number old rest

  pub took : Took
  took =
      let next : suc i ≡ i + 1 = omega arith in
      let out : rest ≡ take i old ++ drop (i + 1) old = out ∙ ap (λ k. take i old ++ drop k old) next in
      let between = TakesLast-found number old i x h is same none rest out in
      record {
        entry = last_under-found number old i x h is same none;
        others = out ∙ sym (without_last_under-found number old i x h is same none);
        between = between;
        kept = KeepsOthers-takes number x.offset x.moment old rest between;
      }
