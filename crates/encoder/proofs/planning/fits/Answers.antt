-- The tests of `fits`, and that nothing runs over.
-- Assumes nothing.
use Rattle.std.proofs.Common.{sym, ap, ◌*◌, ◌≤◌, arith}
use Rattle.symbol.specs.Shapes.{most_words}
use Rattle.symbol.specs.DataPlaces.{most-layers}
use Rattle.encoder.specs.Plan.{least_check}
use Rattle.encoder.specs.PlanLaws.{words-most, check-most, too_few, enough}
use Rattle.encoder.proofs.planning.fits.Goals as goal
use Rattle.encoder.proofs.planning.fits.Goals.{After-words-n}

small : (c : After-words-n) → c.args.percent * c.words-n.result ≤ 316160
small c =
    let s = c.args.shape in
    check-most c.args.percent c.words-n.result c.requires
    (omega (arith, c.words-n.ensures, words-most s.full s.layers (most-layers s.full s.layers s.shaped)))

pub overflow_mul-check : goal.overflow_mul-check
overflow_mul-check c = omega (arith, small c)

pub overflow_add-check : goal.overflow_add-check
overflow_add-check c = omega (arith, small c)

pub overflow_add-check-2 : goal.overflow_add-check-2
overflow_add-check-2 c = omega (arith, small c)

pub returns-then-n-data_words : goal.returns-then-n-data_words
unfolding least_check
returns-then-n-data_words c =
    let s = c.args.shape in too_few c.args.percent s.full s.layers c.args.data_words c.words-n.ensures (omega arith)

pub returns-then-n-data_words-2 : goal.returns-then-n-data_words-2
unfolding least_check
returns-then-n-data_words-2 c =
    let s = c.args.shape in too_few c.args.percent s.full s.layers c.args.data_words c.words-n.ensures (omega arith)

pub returns-then-shape : goal.returns-then-shape
unfolding least_check most_words
returns-then-shape c =
    let s = c.args.shape in
    enough c.args.percent s.full s.layers c.args.data_words c.words-n.ensures 2048 (sym (ap most_words c.if-shape.true)) (omega arith)

pub returns : goal.returns
unfolding least_check most_words
returns c =
    let s = c.args.shape in
    enough c.args.percent s.full s.layers c.args.data_words c.words-n.ensures 64 (sym (ap most_words c.if-shape.false)) (omega arith)
