-- All fields are small.
-- Assumes nothing.
use Rattle.std.proofs.Common.{◌≤◌, arith}
use Rattle.symbol.specs.DataPlaces.{most-layers}
use Rattle.encoder.specs.PlanLaws.{number-most, words-most, sides-most}
use Rattle.encoder.proofs.EncodedFromChoice.from.Goals as goal
use Rattle.encoder.proofs.EncodedFromChoice.from.Goals.{Start}

few : (c : Start) → c.args.choice.shape.layers ≤ 32
few c = let s = c.args.choice.shape in most-layers s.full s.layers s.shaped

pub overflow_cast-result : goal.overflow_cast-result
overflow_cast-result c =
    let s = c.args.choice.shape in omega (arith, c.number.ensures, number-most s.full s.layers (few (goal.at.overflow_cast-result c).Start))

pub overflow_cast-result-2 : goal.overflow_cast-result-2
overflow_cast-result-2 c =
    let s = c.args.choice.shape in omega (arith, c.side.ensures, sides-most s.full s.layers (few (goal.at.overflow_cast-result-2 c).Start))

pub overflow_cast-result-3 : goal.overflow_cast-result-3
overflow_cast-result-3 c =
    let s = c.args.choice.shape in omega (arith, c.args.choice.held, words-most s.full s.layers (few (goal.at.overflow_cast-result-3 c).Start))

pub overflow_cast-result-4 : goal.overflow_cast-result-4
overflow_cast-result-4 c =
    let s = c.args.choice.shape in omega (arith, c.words.ensures, words-most s.full s.layers (few (goal.at.overflow_cast-result-4 c).Start))
