-- As in push_rows, with one character.
-- Assumes nothing.
use Rattle.std.proofs.Common.{◌≡◌, ℕ, ◌++◌}
use Rattle.picture.specs.Picture.{joined, upper}
use Rattle.picture.proofs.push_upper.Given as goal

abbrev pub invariant-loop : goal.invariant-loop
invariant-loop l = l.line ≡ l.initial.line ++ joined (λ (_ : ℕ). upper) l.counter
