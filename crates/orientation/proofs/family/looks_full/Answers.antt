-- By the side, and between 15 and 28 by the count.
-- Assumes nothing.
use Rattle.std.proofs.Common.{ap, sym, arith, ltb, eq-eqb, ne_eqb, le-ltb}
use Rattle.orientation.specs.Family.{looks_full, looks-full}
use Rattle.orientation.proofs.family.looks_full.Goals as goal

pub returns-then-n-eq15 : goal.returns-then-n-eq15
unfolding looks_full
returns-then-n-eq15 c = rw (eq-eqb c.args.n 15 c.if-n-eq15.true)

pub returns-then-n-gt27 : goal.returns-then-n-gt27
returns-then-n-gt27 c = sym (looks-full c.args.n c.args.grid.now c.if-n-gt27.true)

pub returns : goal.returns
unfolding looks_full
returns c =
    let n = c.args.n in
    rw (ne_eqb n 15 c.if-n-eq15.false, le-ltb 27 n (omega arith)) (ap (λ m. ltb m 4) c.dark_ring.ensures)
