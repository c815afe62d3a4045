-- The order of a log.
use Rattle.std.proofs.Common.{◌≡◌, ◌<◌, ℕ, Bool, true, false, cond, List, [], ◌∷◌, ◌++◌, length, map, sym, ap, ◌∙◌, subst, ⊎_elim, arith}
use Rattle.std.specs.List.{filter, Contains}
use Rattle.std.proofs.lemmas.List.Elements.{Contains-push_cases, Contains-append_left}
use mathlib.Core.Option.{some}
use lib.ListN.{get_elem?}
use Rattle.udt_queues.specs.declared.view.Entry.{Entry}
use Rattle.udt_queues.specs.declared.view.Hand.{Hand}
use Rattle.udt_queues.specs.Lines.{same, put_under, took_under, log_of, Rising, Fits}
use Rattle.udt_queues.proofs.Members.{in_none, in_here, in_rest, filter_in, filter_passed, in_filter, filter_all, in_map, map_in}
use Rattle.udt_queues.proofs.Names.{same_self, same_sound, placed_is}

module _ {T : Type 0} where
  -- one more entry, above all of its producer
  pub rising_push : (log : List (Entry T)) (e : Entry T) → ((y : Entry T) → Contains log y → e.from ≡ y.from → y.place < e.place) → Rising log → Rising (log ++ e ∷ [])
  rising_push [] e f r = ((λ y h is. absurd (in_none y h)), tt)
  rising_push (x ∷ xs) e f r = (
    (λ y h is. ⊎_elim
        (λ (old : Contains xs y). r.0 y old is)
        (λ (new : e ≡ y). subst (λ (z : Entry T). x.place < z.place) new (f x (in_here x xs) (ap (λ (z : Entry T). z.from) new ∙ is)))
        (Contains-push_cases xs e y h)),
    rising_push xs e (λ y h. f y (in_rest x xs y h)) r.1,
  )

  kept_rising : (p : Entry T → Bool) (x : Entry T) (b : Bool) (xs ys : List (Entry T)) → ((y : Entry T) → Contains ys y → Contains xs y) → Rising (x ∷ xs) → Rising ys → Rising (cond b (x ∷ ys) ys)
  kept_rising p x true xs ys f r s = ((λ y h is. r.0 y (f y h) is), s)
  kept_rising p x false xs ys f r s = s

  -- some of the entries, in their order
  pub rising_filter : (p : Entry T → Bool) (xs : List (Entry T)) → Rising xs → Rising (filter p xs)
  rising_filter p [] r = r
  rising_filter p (x ∷ xs) r = kept_rising p x (p x) xs (filter p xs) (filter_in p xs) r (rising_filter p xs r.1)

  -- the first of them
  pub rising_prefix : (xs ys : List (Entry T)) → Rising (xs ++ ys) → Rising xs
  rising_prefix [] ys r = tt
  rising_prefix (x ∷ xs) ys r = ((λ y h is. r.0 y (Contains-append_left xs ys y h) is), rising_prefix xs ys r.1)

  -- what is taken under a name was taken
  pub took_done : (name : List ℕ) (done : List (List ℕ × Entry T)) (e : Entry T) → Contains (took_under name done) e → Contains done (name, e)
  took_done name done e h =
      let r = map_in (λ (d : List ℕ × Entry T). d.1) (filter (λ (d : List ℕ × Entry T). same name d.0) done) e h in
      let there = filter_in (λ (d : List ℕ × Entry T). same name d.0) done r.0 r.1 in
      let is = same_sound name r.0.0 (filter_passed (λ (d : List ℕ × Entry T). same name d.0) done r.0 r.1) in
      subst (λ (z : List ℕ × Entry T). Contains done z) (λ i. (sym is i, r.2 i)) there

  pub done_took : (name : List ℕ) (done : List (List ℕ × Entry T)) (e : Entry T) → Contains done (name, e) → Contains (took_under name done) e
  done_took name done e h = in_map (λ (d : List ℕ × Entry T). d.1) (filter (λ (d : List ℕ × Entry T). same name d.0) done) (name, e)
      (in_filter (λ (d : List ℕ × Entry T). same name d.0) done (name, e) h (same_self name))

  -- and stands in the log
  pub done_logged : (done : List (List ℕ × Entry T)) (here : List (Entry T)) (d : List ℕ × Entry T) → Contains done d → Contains (log_of done here) d.1
  done_logged done here d h = Contains-append_left (map (λ (d : List ℕ × Entry T). d.1) done) here d.1 (in_map (λ (d : List ℕ × Entry T). d.1) done d h)

  cut_rising : (p : List ℕ × Entry T → Bool) (d : List ℕ × Entry T) (b : Bool) (ds es : List (List ℕ × Entry T)) → ((z : List ℕ × Entry T) → Contains es z → Contains ds z)
      → Rising (map (λ (d : List ℕ × Entry T). d.1) (d ∷ ds)) → Rising (map (λ (d : List ℕ × Entry T). d.1) es) → Rising (map (λ (d : List ℕ × Entry T). d.1) (cond b (d ∷ es) es))
  cut_rising p d true ds es f r s = (
    (λ y h is. let m = map_in (λ (d : List ℕ × Entry T). d.1) es y h in r.0 y (subst (Contains (map (λ (d : List ℕ × Entry T). d.1) ds)) m.2 (in_map (λ (d : List ℕ × Entry T). d.1) ds m.0 (f m.0 m.1))) is),
    s,
  )
  cut_rising p d false ds es f r s = s

  -- what was taken under a name is in the order of the log
  took_rises : (name : List ℕ) (done : List (List ℕ × Entry T)) → Rising (map (λ (d : List ℕ × Entry T). d.1) done) → Rising (took_under name done)
  took_rises name [] r = tt
  took_rises name (d ∷ ds) r =
      let p : List ℕ × Entry T → Bool = λ d. same name d.0 in
      cut_rising p d (p d) ds (filter p ds) (filter_in p ds) r (took_rises name ds r.1)

  pub took_rising : (name : List ℕ) (done : List (List ℕ × Entry T)) (here : List (Entry T)) → Rising (log_of done here) → Rising (took_under name done)
  took_rising name done here r = took_rises name done (rising_prefix (map (λ (d : List ℕ × Entry T). d.1) done) here r)

  -- an entry under the name of a hand is what that hand put at that place
  pub put_there : (done : List (List ℕ × Entry T)) (here : List (Entry T)) (h : Hand T) → Fits done here h → (e : Entry T) → Contains (log_of done here) e → e.from ≡ h.name
      → (e.place < length h.put) × (get_elem? h.put e.place ≡ some e.value)
  put_there done here h fits e there is =
      let log = log_of done here in
      let mine : Contains (put_under h.name log) e = in_filter (λ (e : Entry T). same h.name e.from) log e there (ap (same h.name) is ∙ same_self h.name) in
      let r = placed_is h.name 0 h.put e (subst (λ l. Contains l e) fits.put mine) in
      let at = r.1 in let lt = r.2 in
      let n : r.0 ≡ e.place = omega (arith, at) in
      (omega (arith, at, lt), subst (λ (k : ℕ). get_elem? h.put k ≡ some e.value) n r.3)

  -- where all was taken under one name, that took the whole log of what was taken
  pub took_all : (name : List ℕ) (done : List (List ℕ × Entry T)) → ((d : List ℕ × Entry T) → Contains done d → d.0 ≡ name) → took_under name done ≡ map (λ (d : List ℕ × Entry T). d.1) done
  took_all name done each = ap (map (λ (d : List ℕ × Entry T). d.1)) (filter_all (λ (d : List ℕ × Entry T). same name d.0) done (λ d h. ap (same name) (each d h) ∙ same_self name))
