-- What is left of the text, read on from the value so far, gives what the whole gives.
use Rattle.std.proofs.Common.{drop, ◌≡◌}
use Rattle.show_tag.specs.Reading.{read_from, read_decimal}
use Rattle.show_tag.proofs.decimal.read.Given as goal

abbrev pub invariant-loop-byte : goal.invariant-loop-byte
invariant-loop-byte l = read_from l.value (drop l.byte-index l.text) ≡ read_decimal l.text
