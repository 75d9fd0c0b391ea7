-- The numbers 1 and 2 in their order, then the search.
-- Assumes nothing.
use Rattle.std.proofs.Common.{eq-eqb, ne_eqb, lt-ltb, le-ltb}
use Rattle.encoder.specs.Plan.{plan_of}
use Rattle.encoder.proofs.planning.choose.Goals as goal
use Rattle.encoder.proofs.planning.choose.Goals.{then-percent-lt5-via-then-percent-lt5, then-percent-lt5-via-else-percent-lt5+then-percent-gt95}

pub returns-then-message-eq0 : goal.returns-then-message-eq0
unfolding plan_of
returns-then-message-eq0 c = simp (eq-eqb _ _ c.if-message-eq0.true)

pub returns-then-percent-lt5 : goal.returns-then-percent-lt5
unfolding plan_of
returns-then-percent-lt5 c =
    elim c.then-percent-lt5.branch [
      | then-percent-lt5-via-then-percent-lt5 w ↦ simp (ne_eqb _ _ c.if-message-eq0.false, lt-ltb _ _ w.if-percent-lt5.true)
      | then-percent-lt5-via-else-percent-lt5+then-percent-gt95 w ↦
          simp (ne_eqb _ _ c.if-message-eq0.false, le-ltb _ _ w.if-percent-lt5.false, lt-ltb _ _ w.if-percent-gt95.true)
    ]

pub returns : goal.returns
unfolding plan_of
returns c =
    simp (ne_eqb _ _ c.if-message-eq0.false, le-ltb _ _ c.if-percent-lt5.false, le-ltb _ _ c.if-percent-gt95.false) c.first_fit.ensures
