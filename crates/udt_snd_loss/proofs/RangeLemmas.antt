-- The ranges that offsets make.
use Rattle.std.proofs.Common.{◌≡◌, ℕ, suc, ◌+◌, ◌-◌, true, ltb, ◌||◌, List, [], ◌∷◌, ◌++◌, map, filter, refl, sym, ap, subst, ◌∙◌, arith}
use Rattle.std.specs.List.{range_with_len}
use Rattle.std.proofs.lemmas.Bool.{eq-eqb, false≢true}
use Rattle.udt_model.specs.Losses.{LostRange, ranges_of, with_range, without_range}
use Rattle.udt_ranges.specs.declared.range.Range.{Range}
use Rattle.udt_ranges.specs.Ranges.{Item, Rises, items_of, items_of_range, with_items, without_items}
use Rattle.udt_ranges.specs.Merging.{IsMaximal, IsApart, joins, untagged}
use Rattle.udt_ranges.proofs.ItemLemmas.{items_of-cons}
use Rattle.udt_ranges.specs.Offsets.{offsets_in}
use Rattle.udt_ranges.proofs.OffsetLemmas.{Gap, ranges_of-row, offsets_in-append, offsets_in-range, offsets_in-filter}

-- the ends of a range
abbrev pub ends_of : Range (Unit {0}) → LostRange
ends_of r = record { first = r.first; last = r.last }

joined : (r s : Range (Unit {0})) → r.last + 1 ≡ s.first → joins untagged r s ≡ true
joined r s first = rw (eq-eqb _ _ first) refl

-- what is after a range that lies apart does not go on from it
apart_gap : (r : Range (Unit {0})) (rs : List (Range (Unit {0}))) → IsApart untagged r rs → Gap (r.last + 1) (map ends_of rs)
unfolding Gap
apart_gap r [] apart = tt
apart_gap r (s ∷ rs) apart = λ same. false≢true (sym apart ∙ joined r s (sym same))

ranges_of-step : (low high : ℕ) (r : Range (Unit {0})) (rs : List (Range (Unit {0}))) → Rises low high (r ∷ rs) → IsApart untagged r rs → ranges_of (offsets_in (items_of rs)) ≡ map ends_of rs → ranges_of (offsets_in (items_of (r ∷ rs))) ≡ map ends_of (r ∷ rs)
unfolding Rises
ranges_of-step low high r rs h apart rest =
    let e : r.last + 1 - r.first ≡ suc (r.last - r.first) = omega arith in
    let f : r.first + (r.last - r.first) ≡ r.last = omega arith in
    let gap = subst (λ k. Gap (k + 1) (map ends_of rs)) (sym f) (apart_gap r rs apart) in
    ap (λ ms. ranges_of (offsets_in ms)) (items_of-cons r rs)
    ∙ ap ranges_of (offsets_in-append (items_of_range r) (items_of rs) ∙ ap (λ xs. xs ++ offsets_in (items_of rs)) (offsets_in-range r))
    ∙ ap (λ n. ranges_of (range_with_len r.first n ++ offsets_in (items_of rs))) e
    ∙ ranges_of-row r.first (r.last - r.first) (offsets_in (items_of rs)) (map ends_of rs) rest gap
    ∙ ap (λ k. record { first = r.first; last = k } ∷ map ends_of rs) f

-- ranges that are as long as they can be are the ranges of their offsets
pub ranges_of-items : (low high : ℕ) (rs : List (Range (Unit {0}))) → Rises low high rs → IsMaximal untagged rs → ranges_of (offsets_in (items_of rs)) ≡ map ends_of rs
unfolding IsMaximal
ranges_of-items low high [] h maximal = unfold items_of ranges_of in refl
ranges_of-items low high (r ∷ rs) h maximal = ranges_of-step low high r rs h maximal.0 (ranges_of-items (r.last + 1) high rs (unfold Rises in h.3) maximal.1)

-- without the offsets of a range
pub without_is : (from to : ℕ) (items : List (Item (Unit {0}))) → offsets_in (without_items from to items) ≡ without_range from to (offsets_in items)
unfolding without_items without_range
without_is from to items = offsets_in-filter (λ n. ltb n from || ltb to n) items

-- with a range in place of what was listed of its offsets
pub with_is : (r : Range (Unit {0})) (items : List (Item (Unit {0}))) → offsets_in (with_items r items) ≡ with_range r.first r.last (offsets_in items)
unfolding with_range
with_is r items =
    let below = filter (λ (m : Item (Unit {0})). ltb m.offset r.first) items in
    let above = filter (λ (m : Item (Unit {0})). ltb r.last m.offset) items in
    offsets_in-append (below ++ items_of_range r) above
    ∙ rw (offsets_in-append below (items_of_range r), offsets_in-filter (λ k. ltb k r.first) items, offsets_in-filter (λ k. ltb r.last k) items, offsets_in-range r) refl
