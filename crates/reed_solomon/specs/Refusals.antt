-- The number of each refusal, and of an answer: 0 where there is none.
-- Assumes nothing.
use Rattle.std.specs.Prelude.{Result, Ok, Err, ℕ}
use Rattle.reed_solomon.specs.declared.refusal.Refusal.{Refusal}
use Rattle.reed_solomon.specs.declared.refusal.Refusal.TheVariants.{Lengths, Counts, Words, Far}

abbrev pub refusal_number : Refusal → ℕ
refusal_number Lengths = 31
refusal_number Counts = 32
refusal_number Words = 33
refusal_number Far = 34

abbrev pub answer_number : Result Unit Refusal → ℕ
answer_number (Ok u) = 0
answer_number (Err refusal) = refusal_number refusal
