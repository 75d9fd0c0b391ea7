-- The corrected mode words are those that the definition reads L and D from.
-- Assumes nothing.
use Rattle.std.proofs.Common.{◌≡◌, Option, Some, sym, ap, ap₂, ◌∙◌, Bool, true, false, List, ℕ, ◌≤◌, arith, length}
use Rattle.std.proofs.Math.Option.{some}
use Rattle.symbol.specs.Places.{mode_run}
use Rattle.recovery.specs.Said.{Nibbles}
use Rattle.recovery.specs.LawfulWords.{found-nibbles}
use Rattle.walk.specs.declared.mode.Said.{Said}
use Rattle.walk.specs.Upright.{mode_of, said_of}
use Rattle.walk.proofs.mode.said_in.Goals as goal
use Rattle.walk.proofs.mode.said_in.Goals.{After-correct_mode, Start, Then-correct_mode}

abbrev start : After-correct_mode → Start
start c = (goal.at.After-correct_mode c).Start

abbrev words : After-correct_mode → List ℕ
words c = c.correct_mode.new.corrected

run_long : (f : Bool) → 4 ≤ mode_run f
unfolding mode_run
run_long false = omega arith
run_long true = omega arith

long : (c : After-correct_mode) → 4 ≤ length (words c)
long c = omega (arith, c.correct_mode.auto.corrected, (start c).requires.1, run_long (start c).args.frame.full)

-- the words were found
found : (c : Then-correct_mode) → mode_of c.args.upright.now c.args.frame.full c.args.frame.side ≡ some c.correct_mode.new.corrected
found c = c.correct_mode.ensures.yes c.if-correct_mode.true

nibbles : (c : Then-correct_mode) → Nibbles c.correct_mode.new.corrected
nibbles c = found-nibbles _ _ _ _ (found c)

pub said_layers-requires : goal.said_layers-requires
said_layers-requires c = record {
  fact_1 = long (goal.at.said_layers-requires c).After-correct_mode;
  fact_2 = nibbles (goal.at.said_layers-requires c).Then-correct_mode;
}

pub said_words-requires : goal.said_words-requires
said_words-requires c = record {
  fact_1 = long (goal.at.said_words-requires c).After-correct_mode;
  fact_2 = nibbles (goal.at.said_words-requires c).Then-correct_mode;
}

abbrev told : ℕ → ℕ → Option Said
told L D = Some (record { layers = L; data_words = D })

pub returns-then-correct_mode : goal.returns-then-correct_mode
returns-then-correct_mode c =
    ap₂ told c.said_layers.ensures c.said_words.ensures
    ∙ sym (ap (said_of c.args.frame.full) (found (goal.at.returns-then-correct_mode c).Then-correct_mode))

pub returns : goal.returns
returns c =
    sym (ap (said_of c.args.frame.full) (c.correct_mode.ensures.no c.if-correct_mode.false))
