-- A verdict as two numbers, for C.
-- Assumes nothing.
use Rattle.std.specs.Prelude.{ℕ, Result, Ok, Err}
use Rattle.stream.specs.declared.items.Refusal.{Refusal}
use Rattle.stream.specs.Items.{number_of}
use Rattle.stream_c.specs.declared.Judged.{Judged}

abbrev pub judged_of : Result ℕ Refusal → Judged
judged_of (Ok n) = record { number = 0; value = n }
judged_of (Err r) = record { number = number_of r.fault; value = r.bit }
