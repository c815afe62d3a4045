use Rattle.std.proofs.Common.{◌≡◌, ◌+◌, length, take, drop, true, refl, sym, ◌∙◌, ap, arith}
use Rattle.std.specs.Cmp.Lexicographic.{pointwise}
use Rattle.std.specs.Prelude.{nat_eq}
use Rattle.std.proofs.lemmas.Slice.Eq.{slice_eq-Decides}
use Rattle.std.proofs.lemmas.Bool.Decides.{Decides-eqb}
use Rattle.udt_framing.specs.Framing.{header_of, mark}
use Rattle.udt_framing.proofs.Headers.{mark-from_header, header-from_mark}
use Rattle.udt_framing.proofs.frame.length_with.Goals as goal

-- the bytes with the mark are a header, and begin with what was asked for
pub returns-clause-some : goal.returns-clause-some
returns-clause-some c =
    let tested : pointwise nat_eq c.split_at.result.0.now c.as_slice.result.now ≡ true = grind arith in
    let same : c.split_at.result.0.now ≡ c.as_slice.result.now = (slice_eq-Decides Decides-eqb _ _ _ refl).0 tested in
    let four : take 4 c.header_with-head.result ≡ mark = sym c.split_at.ensures.front ∙ same ∙ c.as_slice.ensures in
    let is : header_of c.number_of.result ≡ c.header_with-head.result =
    header-from_mark c.number_of.result c.header_with-head.result c.split_at.result.1.now four c.split_at.ensures.back c.number_of.ensures in
    (drop (c.args.at + length c.args.bytes.now) (header_of c.args.len), is ∙ c.header_with-head.ensures)

-- without the mark no header begins so
pub returns-then-ne-clause-none : goal.returns-then-ne-clause-none
returns-then-ne-clause-none c =
    λ l begins.
    let four : take 4 c.header_with-head.result ≡ mark = ap (take 4) c.header_with-head.ensures ∙ mark-from_header c.args.len l c.args.at c.args.bytes.now c.requires begins in
    let same : c.split_at.result.0.now ≡ c.as_slice.result.now = c.split_at.ensures.front ∙ four ∙ sym c.as_slice.ensures in
    let tested : pointwise nat_eq c.split_at.result.0.now c.as_slice.result.now ≡ true = (slice_eq-Decides Decides-eqb _ _ _ refl).1 same in
    let h = c.if-ne.true in
    let e = rw tested at c.ne.ensures in
    cc
