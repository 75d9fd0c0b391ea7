-- The word's first h bits are tested as the definition tests them.
-- Assumes nothing.
use Rattle.std.proofs.Common.{arith}
use Rattle.item_reader.proofs.WordParts.{one_shl, length-zeros, length-ones, length_whole}
use Rattle.item_reader.proofs.reading.word_length.Goals as goal
use Rattle.item_reader.proofs.reading.word_length.Goals.{then-first-eq0-via-then-first-eq0, then-first-eq0-via-else-first-eq0+then-first-h}

pub returns-then-first-eq0 : goal.returns-then-first-eq0
returns-then-first-eq0 c =
    let a = c.args in
    elim c.then-first-eq0.branch [
      | then-first-eq0-via-then-first-eq0 w ↦ length-zeros a.h a.word (omega (arith, w.if-first-eq0.true, c.from-first.ensures))
      | then-first-eq0-via-else-first-eq0+then-first-h w ↦
          length-ones a.h a.word (λ e. w.if-first-eq0.false (omega (arith, c.from-first.ensures, e)))
          (omega (arith, one_shl a.h (omega arith), w.if-first-h.true, c.from-first.ensures))
    ]

pub returns : goal.returns
returns c =
    let a = c.args in
    length_whole a.h a.word (λ e. c.if-first-eq0.false (omega (arith, c.from-first.ensures, e)))
    (λ e. c.if-first-h.false (omega (arith, one_shl a.h (omega arith), c.from-first.ensures, e)))
