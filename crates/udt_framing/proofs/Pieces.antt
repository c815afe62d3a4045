-- What a reader knows after one more piece.
use Rattle.std.proofs.Common.{◌≡◌, ℕ, ◌+◌, ◌-◌, ◌^◌, ◌<◌, ◌≤◌, ◌↔◌, min, Bool, true, false, List, [], ◌++◌, length, take, drop, refl, sym, ◌∙◌, ap, subst, inl, inr, arith, length-append, length-take, length-drop, lit<}
use Rattle.std.proofs.lemmas.Bool.{cases_lt}
use Rattle.std.proofs.lemmas.List.{take_all, take_min, drop_min, take-append-le, append-nil}
use Rattle.udt_model.specs.Emissions.{IsPrefix}
use Rattle.udt_framing.specs.Framing.{header_of, BeginsFrame, IsFrame, file_of}
use Rattle.udt_framing.specs.Readers.{Reading, FollowsFrame, WasFed}
use Rattle.udt_framing.proofs.Parts.{take-append, drop-append, IsPrefix-taken, IsPrefix-longer}
use Rattle.udt_framing.proofs.Headers.{length-header_of, taken-from_header, header-from_taken, begins-from_count, none-from_count, none-from_header, begins-shorter, begins-from_frame, frame-from_count, count-from_frame, header_of-same}

-- the parts of a piece: what belongs to the header, and the rest
pub record IsCut (fed piece first bytes head : List ℕ) : Type 0 where
  pub knows : head ≡ take 12 fed
  pub first_is : first ≡ take (min (length piece) (12 - length head)) piece
  pub rest_is : bytes ≡ drop (min (length piece) (12 - length head)) piece

-- twelve bytes less what is known of them, and less what was fed, are the same
gap : (fed head : List ℕ) → head ≡ take 12 fed → 12 - length fed ≡ 12 - length head
gap fed head knows = omega (arith, ap length knows, length-take 12 fed)

least-swap : (a b : ℕ) → min a b ≡ min b a
least-swap a b = omega arith

-- the header goes on with the first part
pub taken-cut : (fed piece first bytes head : List ℕ) → IsCut fed piece first bytes head → take 12 (fed ++ piece) ≡ head ++ first
taken-cut fed piece first bytes head cut =
    take-append 12 fed piece
    ∙ ap (λ h. h ++ take (12 - length fed) piece) (sym cut.knows)
    ∙ ap (λ n. head ++ take n piece) (gap fed head cut.knows)
    ∙ ap (λ ys. head ++ ys) (sym (take_min (12 - length head) piece)
    ∙ ap (λ n. take n piece) (least-swap (12 - length head) (length piece))
    ∙ sym cut.first_is)

-- the file goes on with the rest
pub file-cut : (fed piece first bytes head : List ℕ) → IsCut fed piece first bytes head → file_of (fed ++ piece) ≡ file_of fed ++ bytes
file-cut fed piece first bytes head cut =
    drop-append 12 fed piece
    ∙ ap (λ n. drop 12 fed ++ drop n piece) (gap fed head cut.knows)
    ∙ ap (λ ys. drop 12 fed ++ ys) (sym (drop_min (12 - length head) piece)
    ∙ ap (λ n. drop n piece) (least-swap (12 - length head) (length piece))
    ∙ sym cut.rest_is)

-- a reader that knows the first twelve bytes has a whole header exactly where they begin with it
pub told-from_taken : (xs : List ℕ) (len : ℕ) → (take 12 xs ≡ header_of len) ↔ IsPrefix (header_of len) xs
told-from_taken xs len = (header-from_taken len xs, taken-from_header len xs)

-- a reader that is bad stays so
pub stays_bad : (r : Reading) (fed piece : List ℕ) → r.bad ≡ true → WasFed r fed → WasFed r (fed ++ piece)
stays_bad r fed piece bad was =
    let none : BeginsFrame fed → ⊥ = rw bad at was.place in
    record {
      place = rw bad (λ begins. none (begins-shorter fed piece begins));
      told = λ len fits. (
        λ is. IsPrefix-longer (header_of len) fed piece ((was.told len fits).0 is),
        λ begins.
            elim (cases_lt (length fed) 12) [
              | inl shorter ↦
                  let part : take 12 fed ≡ fed = take_all 12 fed (omega arith) in
                  let all : take 12 (fed ++ piece) ≡ header_of len = taken-from_header len (fed ++ piece) begins in
                  let header : header_of len ≡ take 12 fed ++ take (12 - length fed) piece = sym all ∙ take-append 12 fed piece in
                  absurd (none (begins-from_count len fed fits (take (12 - length fed) piece, header) (omega (arith, length-drop 12 fed))))
              | inr longer ↦
                  let all : take 12 (fed ++ piece) ≡ header_of len = taken-from_header len (fed ++ piece) begins in
                  let same : take 12 (fed ++ piece) ≡ take 12 fed = take-append-le 12 fed piece longer in
                  (was.told len fits).1 (header-from_taken len fed (sym same ∙ all))
            ],
      );
    }

-- what a reader knows that isn't bad, of the bytes that it was fed
pub knows : (head : List ℕ) (got : ℕ) (fed : List ℕ) → WasFed (record { head = head; got = got; bad = false }) fed → FollowsFrame (record { head = head; got = got; bad = false }) fed
knows head got fed was = was.place

-- where no header goes on with the first part, the frame is bad
pub refused_head : (head first bytes fed piece : List ℕ) → IsCut fed piece first bytes head → ((len : ℕ) → IsPrefix (head ++ first) (header_of len) → ⊥) → BeginsFrame (fed ++ piece) → ⊥
refused_head head first bytes fed piece cut none =
    none-from_header (fed ++ piece) (λ len begins. none len (subst (λ (ys : List ℕ). IsPrefix ys (header_of len)) (taken-cut fed piece first bytes head cut) begins))

-- and the reader that keeps what it knew is bad
pub turns_bad : (head first bytes fed piece : List ℕ) (got : ℕ) → IsCut fed piece first bytes head → ((len : ℕ) → IsPrefix (head ++ first) (header_of len) → ⊥) → WasFed (record { head = head; got = got; bad = false }) fed → WasFed (record { head = head; got = got; bad = true }) (fed ++ piece)
turns_bad head first bytes fed piece got cut none was =
    record {
      place = refused_head head first bytes fed piece cut none;
      told = λ len fits. (
        λ is. IsPrefix-longer (header_of len) fed piece ((was.told len fits).0 is),
        λ begins.
            absurd (none len (
              [],
              sym (taken-from_header len (fed ++ piece) begins)
                  ∙ taken-cut fed piece first bytes head cut
                  ∙ sym (append-nil (head ++ first)),
            )),
      );
    }

-- a header that goes on with the first part, of which as much is known as was fed
pub record GoesOn (fed piece first bytes head head_after : List ℕ) (len : ℕ) : Type 0 where
  pub cut : IsCut fed piece first bytes head
  pub fits : len < 2 ^ 64
  pub begins : IsPrefix (head ++ first) (header_of len)
  pub after : head_after ≡ take (length head + length first) (header_of len)

pub taken-on : (fed piece first bytes head head_after : List ℕ) (len : ℕ) → GoesOn fed piece first bytes head head_after len → head_after ≡ take 12 (fed ++ piece)
taken-on fed piece first bytes head head_after len on =
    on.after
    ∙ ap (λ n. take n (header_of len)) (sym (length-append head first))
    ∙ IsPrefix-taken (head ++ first) (header_of len) on.begins
    ∙ sym (taken-cut fed piece first bytes head on.cut)

header-on : (fed piece first bytes head head_after : List ℕ) (len : ℕ) → GoesOn fed piece first bytes head head_after len → IsPrefix (take 12 (fed ++ piece)) (header_of len)
header-on fed piece first bytes head head_after len on =
    subst (λ (ys : List ℕ). IsPrefix ys (header_of len)) (sym (taken-cut fed piece first bytes head on.cut)) on.begins

count-on : (fed piece first bytes head head_after : List ℕ) (len : ℕ) → GoesOn fed piece first bytes head head_after len → length (file_of (fed ++ piece)) ≡ length (file_of fed) + length bytes
count-on fed piece first bytes head head_after len on =
    ap length (file-cut fed piece first bytes head on.cut) ∙ length-append (file_of fed) bytes

-- no more file bytes than the length: the frame goes on
pub begins-on : (fed piece first bytes head head_after : List ℕ) (len : ℕ) → GoesOn fed piece first bytes head head_after len → length (file_of fed) + length bytes ≤ len → BeginsFrame (fed ++ piece)
begins-on fed piece first bytes head head_after len on few =
    begins-from_count len (fed ++ piece) on.fits (header-on fed piece first bytes head head_after len on)
    (omega (arith, count-on fed piece first bytes head head_after len on))

-- more of them: it is bad
pub refused-on : (fed piece first bytes head head_after : List ℕ) (len : ℕ) → GoesOn fed piece first bytes head head_after len → len < length (file_of fed) + length bytes → BeginsFrame (fed ++ piece) → ⊥
refused-on fed piece first bytes head head_after len on many =
    none-from_count len (fed ++ piece) on.fits (header-on fed piece first bytes head head_after len on)
    (omega (arith, count-on fed piece first bytes head head_after len on))

told-on : (fed piece first bytes head head_after : List ℕ) (len : ℕ) → GoesOn fed piece first bytes head head_after len → (l : ℕ) → l < 2 ^ 64 → (head_after ≡ header_of l) ↔ IsPrefix (header_of l) (fed ++ piece)
told-on fed piece first bytes head head_after len on l fits = (
  λ is. header-from_taken l (fed ++ piece) (sym (taken-on fed piece first bytes head head_after len on) ∙ is),
  λ begins. taken-on fed piece first bytes head head_after len on ∙ taken-from_header l (fed ++ piece) begins,
)

pub follows-on : (fed piece first bytes head head_after : List ℕ) (len got : ℕ) → GoesOn fed piece first bytes head head_after len → got ≡ length (file_of fed) → got + length bytes ≤ len → WasFed (record { head = head_after; got = got + length bytes; bad = false }) (fed ++ piece)
follows-on fed piece first bytes head head_after len got on is few =
    record {
      place = record {
        begins = begins-on fed piece first bytes head head_after len on (omega arith);
        head = taken-on fed piece first bytes head head_after len on;
        got = omega (arith, count-on fed piece first bytes head head_after len on);
      };
      told = told-on fed piece first bytes head head_after len on;
    }

pub turns_bad-on : (fed piece first bytes head head_after : List ℕ) (len got : ℕ) → GoesOn fed piece first bytes head head_after len → len < length (file_of fed) + length bytes → WasFed (record { head = head_after; got = got; bad = true }) (fed ++ piece)
turns_bad-on fed piece first bytes head head_after len got on many =
    record {
      place = refused-on fed piece first bytes head head_after len on many;
      told = told-on fed piece first bytes head head_after len on;
    }

-- how `feed` cuts a piece
pub cut-from_split : (fed piece first bytes : List ℕ) (len seen mid : ℕ) → seen ≤ 12 → mid ≡ min (length piece) (12 - seen) → first ≡ take mid piece → bytes ≡ drop mid piece → take seen (header_of len) ≡ take 12 fed → IsCut fed piece first bytes (take seen (header_of len))
cut-from_split fed piece first bytes len seen mid within mid_is first_is rest_is is =
    let size : length (take seen (header_of len)) ≡ seen = omega (arith, length-take seen (header_of len), length-header_of len) in
    let same : mid ≡ min (length piece) (12 - length (take seen (header_of len))) = omega arith in
    record { knows = is; first_is = first_is ∙ ap (λ n. take n piece) same; rest_is = rest_is ∙ ap (λ n. drop n piece) same }

-- a reader that isn't bad, by its fields
pub was_good : (r : Reading) (head : List ℕ) (got : ℕ) (bad : Bool) (fed : List ℕ) → record { head = head; got = got; bad = bad } ≡ r → bad ≡ false → WasFed r fed → WasFed (record { head = head; got = got; bad = false }) fed
was_good r head got bad fed is good was =
    let P : Bool → Type 0 = λ b. WasFed (record { head = head; got = got; bad = b }) fed in
    subst P good (rw (← is) at was)

pub cut-from_good : (fed piece first bytes : List ℕ) (len seen mid got : ℕ) → seen ≤ 12 → mid ≡ min (length piece) (12 - seen) → first ≡ take mid piece → bytes ≡ drop mid piece → WasFed (record { head = take seen (header_of len); got = got; bad = false }) fed → IsCut fed piece first bytes (take seen (header_of len))
cut-from_good fed piece first bytes len seen mid got within mid_is first_is rest_is was =
    cut-from_split fed piece first bytes len seen mid within mid_is first_is rest_is (knows (take seen (header_of len)) got fed was).head

-- the header of a length that has the first part goes on
pub going_on : (fed piece first bytes : List ℕ) (len seen l : ℕ) → seen ≤ 12 → IsCut fed piece first bytes (take seen (header_of len)) → l < 2 ^ 64 → IsPrefix (take seen (header_of len) ++ first) (header_of l) → GoesOn fed piece first bytes (take seen (header_of len)) (take (seen + length first) (header_of l)) l
going_on fed piece first bytes len seen l within cut fits begins =
    let size : seen ≡ length (take seen (header_of len)) = omega (arith, length-take seen (header_of len), length-header_of len) in
    record { cut = cut; fits = fits; begins = begins; after = ap (λ n. take (n + length first) (header_of l)) size }

-- a reader that was fed nothing
pub fed_nothing : WasFed (record { head = []; got = 0; bad = false }) []
fed_nothing =
    record {
      place = record { begins = (0, [], lit< tt, (header_of 0 ++ [], refl)); head = refl; got = refl };
      told = λ len fits. (
        λ is. absurd (omega (arith, length-header_of len, ap length is)),
        λ (rest, is). absurd (omega (arith, length-header_of len, length-append (header_of len) rest, ap length is)),
      );
    }

-- the reader's fields after they were opened
pub was_fields : (r : Reading) (head : List ℕ) (got : ℕ) (bad : Bool) (fed : List ℕ) → record { head = head; got = got; bad = bad } ≡ r → WasFed r fed → WasFed (record { head = head; got = got; bad = bad }) fed
was_fields r head got bad fed is was = rw (← is) at was

-- a header that is whole is the one that the bytes begin with
pub told-whole : (len seen got : ℕ) (bad : Bool) (fed : List ℕ) → len < 2 ^ 64 → 12 ≤ seen → WasFed (record { head = take seen (header_of len); got = got; bad = bad }) fed → IsPrefix (header_of len) fed
told-whole len seen got bad fed fits whole was =
    (was.told len fits).0 (take_all seen (header_of len) (omega (arith, length-header_of len)))

-- a header that isn't whole is none
pub none-told : (len seen got : ℕ) (bad : Bool) (fed : List ℕ) (l : ℕ) → seen < 12 → l < 2 ^ 64 → WasFed (record { head = take seen (header_of len); got = got; bad = bad }) fed → IsPrefix (header_of l) fed → ⊥
none-told len seen got bad fed l less fits was begins =
    absurd (omega (arith, length-take seen (header_of len), length-header_of l, ap length ((was.told l fits).1 begins)))

-- a bad reader has no whole frame
pub no_frame-bad : (r : Reading) (fed : List ℕ) → r.bad ≡ true → WasFed r fed → IsFrame fed → ⊥
no_frame-bad r fed bad was frame =
    let none : BeginsFrame fed → ⊥ = rw bad at was.place in
    none (begins-from_frame fed frame)

-- with a whole header and as many bytes as it tells the frame is whole
pub frame-whole : (len got : ℕ) (fed : List ℕ) → len < 2 ^ 64 → got ≡ len → WasFed (record { head = take 12 (header_of len); got = got; bad = false }) fed → IsFrame fed
frame-whole len got fed fits all was =
    let known = knows (take 12 (header_of len)) got fed was in
    frame-from_count len fed fits
    (sym known.head ∙ take_all 12 (header_of len) (omega (arith, length-header_of len)))
    (sym known.got ∙ all)

-- and a whole frame has them
pub whole-frame : (len seen got : ℕ) (fed : List ℕ) → len < 2 ^ 64 → seen ≤ 12 → WasFed (record { head = take seen (header_of len); got = got; bad = false }) fed → IsFrame fed → (seen ≡ 12) × (got ≡ len)
whole-frame len seen got fed fits within was (file, file_fits, is) =
    let known = knows (take seen (header_of len)) got fed was in
    let counted = count-from_frame fed file is in
    let head : take seen (header_of len) ≡ header_of (length file) = known.head ∙ counted.head in
    let twelve : seen ≡ 12 = omega (arith, length-take seen (header_of len), length-header_of len, length-header_of (length file), ap length head) in
    let own : take seen (header_of len) ≡ header_of len = take_all seen (header_of len) (omega (arith, length-header_of len)) in
    let same : len ≡ length file = header_of-same len (length file) fits file_fits (sym own ∙ head) in
    (twelve, known.got ∙ counted.count ∙ sym same)
