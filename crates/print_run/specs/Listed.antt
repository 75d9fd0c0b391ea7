-- The lines of how many bytes were made, whether or not something went wrong.
-- Assumes nothing.
use Rattle.std.specs.Prelude.{ℕ, Result, Ok, Err}
use Rattle.print_run.specs.declared.Failure.{Failure}
use Rattle.print_run.specs.declared.Failure.TheVariants.{Reading, Writing}

abbrev pub listed : Result ℕ Failure → ℕ
listed (Ok n) = n
listed (Err (Reading error)) = 0
listed (Err (Writing n error)) = n
