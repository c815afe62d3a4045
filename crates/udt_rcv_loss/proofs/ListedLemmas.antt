-- The packets of ranges: how the offsets of ranges tell of them.
use Rattle.std.proofs.Common.{◌≡◌, ℕ, ◌+◌, ◌-◌, ◌≤◌, Bool, true, false, cond, ltb, ◌||◌, List, [], ◌∷◌, ◌++◌, length, map, filter, refl, sym, ap, ◌∙◌, arith}
use Rattle.std.specs.List.{range_with_len}
use Rattle.std.proofs.lemmas.List.{map-append, length-map}
use Rattle.std.proofs.lemmas.List.Concat.{flat_map-append}
use Rattle.udt_model.specs.Losses.{Missing, offsets_between, without_missing, with_missing}
use Rattle.udt_ranges.specs.declared.range.Range.{Range}
use Rattle.udt_ranges.specs.Ranges.{Item, Rises, IsWithin, items_of, items_of_range, with_items, without_items}
use Rattle.udt_ranges.specs.Offsets.{Rising, offsets_in as offsets_of_items}
use Rattle.udt_ranges.specs.Merging.{pushed}
use Rattle.udt_ranges.proofs.RisingLemmas.{Rises-middle}
use Rattle.udt_ranges.proofs.PlaceLemmas.{bounds}
use Rattle.udt_ranges.proofs.ItemLemmas.{Rises-below, Rises-front}
use Rattle.udt_ranges.proofs.MaximalLemmas.{items_of-pushed}
use Rattle.udt_ranges.proofs.EditLemmas.{EndsBelow-front}
use Rattle.udt_ranges.proofs.OffsetLemmas.{Rising-items}
use Rattle.udt_rcv_loss.specs.declared.last_report.LastReport.{LastReport}
use Rattle.udt_rcv_loss.specs.SameReports.{same_report_only}
use Rattle.udt_rcv_loss.specs.Absent.{offsets_in}
use Rattle.udt_rcv_loss.specs.Tags.{same_report, missing_at, missing_in, missing_in_range}

-- an offset with its tag, as a packet with its report
abbrev pub packet_of : Item LastReport → Missing
packet_of i = record { offset = i.offset; reported = i.tag.reported; wait = i.tag.wait }

pub missing_in-append : (rs ss : List (Range LastReport)) → missing_in (rs ++ ss) ≡ missing_in rs ++ missing_in ss
unfolding missing_in
missing_in-append rs ss = flat_map-append missing_in_range rs ss

pub missing_in-cons : (r : Range LastReport) (rs : List (Range LastReport)) → missing_in (r ∷ rs) ≡ missing_in_range r ++ missing_in rs
unfolding missing_in
missing_in-cons r rs = refl

row_packets : (r : Range LastReport) (ns : List ℕ) → map packet_of (map (λ n. record { offset = n; tag = r.tag }) ns) ≡ map (missing_at r) ns
row_packets r [] = refl
row_packets r (n ∷ ns) = ap (λ ms. missing_at r n ∷ ms) (row_packets r ns)

pub range_packets : (r : Range LastReport) → map packet_of (items_of_range r) ≡ missing_in_range r
range_packets r = row_packets r (offsets_between r.first r.last)

-- the packets of ranges are their offsets with the tags as reports
pub packets_are : (rs : List (Range LastReport)) → map packet_of (items_of rs) ≡ missing_in rs
unfolding items_of missing_in
packets_are [] = refl
packets_are (r ∷ rs) =
    map-append packet_of (items_of_range r) (items_of rs)
    ∙ ap (λ ms. ms ++ map packet_of (items_of rs)) (range_packets r)
    ∙ ap (λ ms. missing_in_range r ++ ms) (packets_are rs)

pub length-missing_in : (rs : List (Range LastReport)) → length (missing_in rs) ≡ length (items_of rs)
length-missing_in rs = sym (ap length (packets_are rs)) ∙ length-map (items_of rs) packet_of

filter_packets : (p : ℕ → Bool) (is : List (Item LastReport)) → map packet_of (filter (λ i. p i.offset) is) ≡ filter (λ m. p m.offset) (map packet_of is)
filter_packets p [] = refl
filter_packets p (i ∷ is) =
    elim (p i.offset) as (λ b. map packet_of (cond b (i ∷ filter (λ j. p j.offset) is) (filter (λ j. p j.offset) is)) ≡ cond b (packet_of i ∷ filter (λ m. p m.offset) (map packet_of is)) (filter (λ m. p m.offset) (map packet_of is))) [
      | true ↦ ap (λ ms. packet_of i ∷ ms) (filter_packets p is)
      | false ↦ filter_packets p is
    ]

-- a range that was cut, and one that was put in
pub missing_in-without : (from to : ℕ) (rs new : List (Range LastReport)) → items_of new ≡ without_items from to (items_of rs) → missing_in new ≡ without_missing from to (missing_in rs)
unfolding without_items without_missing
missing_in-without from to rs new is =
    sym (packets_are new) ∙ ap (map packet_of) is ∙ filter_packets (λ n. ltb n from || ltb to n) (items_of rs) ∙ ap (filter (λ m. ltb m.offset from || ltb to m.offset)) (packets_are rs)

pub missing_in-with : (r : Range LastReport) (rs new : List (Range LastReport)) → items_of new ≡ with_items r (items_of rs) → missing_in new ≡ filter (λ m. ltb m.offset r.first) (missing_in rs) ++ missing_in_range r ++ filter (λ m. ltb r.last m.offset) (missing_in rs)
missing_in-with r rs new is =
    let p : ℕ → Bool = λ n. ltb n r.first in
    let q : ℕ → Bool = λ n. ltb r.last n in
    let below = filter (λ (i : Item LastReport). p i.offset) (items_of rs) in
    let above = filter (λ (i : Item LastReport). q i.offset) (items_of rs) in
    sym (packets_are new)
    ∙ ap (map packet_of) is
    ∙ map-append packet_of (below ++ items_of_range r) above
    ∙ rw (map-append packet_of below (items_of_range r), range_packets r, filter_packets p (items_of rs), filter_packets q (items_of rs), packets_are rs) refl

-- the offsets of packets
pub offsets_in-append : (ms ns : List Missing) → offsets_in (ms ++ ns) ≡ offsets_in ms ++ offsets_in ns
offsets_in-append ms ns = map-append (λ (m : Missing). m.offset) ms ns

row_offsets : (r : Range LastReport) (ns : List ℕ) → offsets_in (map (missing_at r) ns) ≡ ns
row_offsets r [] = refl
row_offsets r (n ∷ ns) = ap (λ ks. n ∷ ks) (row_offsets r ns)

pub offsets_in-range : (r : Range LastReport) → offsets_in (missing_in_range r) ≡ offsets_between r.first r.last
offsets_in-range r = row_offsets r (offsets_between r.first r.last)

packet_offsets : (is : List (Item LastReport)) → offsets_in (map packet_of is) ≡ offsets_of_items is
packet_offsets [] = refl
packet_offsets (i ∷ is) = ap (λ ks. i.offset ∷ ks) (packet_offsets is)

pub offsets_in-missing : (rs : List (Range LastReport)) → offsets_of_items (items_of rs) ≡ offsets_in (missing_in rs)
offsets_in-missing rs = sym (packet_offsets (items_of rs)) ∙ ap offsets_in (packets_are rs)

-- rising ranges have rising packets
pub Rising-missing : (low high : ℕ) (rs : List (Range LastReport)) → Rises low high rs → Rising low high (offsets_in (missing_in rs))
Rising-missing low high rs h = rw (← offsets_in-missing rs) (Rising-items low high rs h)

-- a range pushed after others, in place of one with its offsets
pub missing_in-pushed : (w : ℕ) (front : List (Range LastReport)) (r x : Range LastReport) (back : List (Range LastReport)) → x.first ≡ r.first → x.last ≡ r.last → IsWithin w (front ++ r ∷ back) → missing_in (pushed same_report front x) ≡ missing_in front ++ missing_in_range x
missing_in-pushed w front r x back first last within =
    let b = bounds w (front ++ r ∷ back) within in
    let middle = Rises-middle b.low b.high front r back b.rises in
    let low_part = Rises-below r.first b.low b.high front (EndsBelow-front r.first b.low b.high front r back (omega arith) b.rises) (Rises-front b.low b.high front (r ∷ back) b.rises) in
    sym (packets_are (pushed same_report front x))
    ∙ ap (map packet_of) (items_of-pushed same_report same_report_only b.low front x (rw first low_part) (omega (arith, first, last, middle.1)))
    ∙ map-append packet_of (items_of front) (items_of_range x)
    ∙ rw (packets_are front, range_packets x) refl
