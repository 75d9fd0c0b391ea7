-- How many bytes of a buffer are filled, whether or not a read failed.
-- Assumes nothing.
use Rattle.std.specs.Prelude.{ℕ, Result, Ok, Err}
use Rattle.input.specs.declared.Failed.{Failed}

abbrev pub filled : Result ℕ Failed → ℕ
filled (Ok n) = n
filled (Err e) = e.length
