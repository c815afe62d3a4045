use Rattle.std.proofs.Common.{◌≡◌, ℕ, take, true, false, subst, arith}
use Rattle.udt_framing.specs.Framing.{header_of}
use Rattle.udt_framing.specs.Readers.{WasFed}
use Rattle.udt_framing.proofs.Pieces.{was_good, frame-whole, whole-frame, no_frame-bad}
use Rattle.udt_framing.proofs.reader.FrameReader.whole.Goals as goal
use Rattle.udt_framing.proofs.reader.FrameReader.whole.Goals.{then-not-self, else-not-self}

-- a whole header of a reader that isn't bad: the frame is whole where its bytes are
pub returns-then-self-eq-HEADER_LEN : goal.returns-then-self-eq-HEADER_LEN
returns-then-self-eq-HEADER_LEN c =
    λ fed was.
    elim c.if-not-self.branch [
      | then-not-self w ↦
          let fine : c.self.inside.bad ≡ false = grind arith in
          let twelve : c.self.inside.seen ≡ 12 = grind arith in
          let good = was_good _ (take c.self.inside.seen (header_of c.self.inside.len)) c.self.inside.got _ fed c.self.view_is fine was in
          let P : ℕ → Type 0 = λ n. WasFed (record { head = take n (header_of c.self.inside.len); got = c.self.inside.got; bad = false }) fed in (
            λ all. frame-whole c.self.inside.len c.self.inside.got fed (omega arith) (grind arith) (subst P twelve good),
            λ frame.
                let found = whole-frame c.self.inside.len c.self.inside.seen c.self.inside.got fed (omega arith) c.self.invariant.0 good frame in
                grind arith,
          )
      | else-not-self w ↦ absurd (grind arith)
    ]

-- else none is: the header isn't whole, or the frame is bad
pub returns-else-self-eq-HEADER_LEN : goal.returns-else-self-eq-HEADER_LEN
returns-else-self-eq-HEADER_LEN c =
    λ fed was. (
      λ all. absurd (grind arith),
      λ frame.
          elim c.if-not-self.branch [
            | then-not-self w ↦
                let fine : c.self.inside.bad ≡ false = grind arith in
                let good = was_good _ (take c.self.inside.seen (header_of c.self.inside.len)) c.self.inside.got _ fed c.self.view_is fine was in
                let found = whole-frame c.self.inside.len c.self.inside.seen c.self.inside.got fed (omega arith) c.self.invariant.0 good frame in
                grind arith
            | else-not-self w ↦
                let bad : c.self.inside.bad ≡ true = grind arith in
                absurd (no_frame-bad c.args.self.now fed (rw (← c.self.view_is) bad) was frame)
          ],
    )
