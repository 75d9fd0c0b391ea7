-- The sum of two exponents is below twice the number of words: its lower bits and its carry are all of it.
-- Assumes nothing.
use Rattle.std.proofs.Common.{◌≡◌, ◌+◌, ◌-◌, arith, bit_and, leb}
use mir.Val.{bool_byte}
use Rattle.finite_field.specs.Field.{size_of}
use Rattle.finite_field.specs.FieldLaws.{most-words}
use Rattle.field.specs.Turned as turning
use Rattle.field.proofs.ByTables.{masked-sum}
use Rattle.field.proofs.turned.Goals as goal
use Rattle.field.proofs.turned.Goals.{Start}

is_turned : (c : Start)
    → bit_and (c.args.e + c.args.k) (c.args.words - 1) + bool_byte (leb c.args.words (c.args.e + c.args.k))
    ≡ turning.turned (size_of c.args.size) c.args.e c.args.k
is_turned c = masked-sum (size_of c.args.size) c.requires.fact_1 c.requires.fact_2 c.requires.fact_3

pub returns : goal.returns
returns c = is_turned c

pub overflow_add-sum : goal.overflow_add-sum
overflow_add-sum c = omega (arith, most-words (size_of c.args.size))

pub overflow_add-result : goal.overflow_add-result
overflow_add-result c =
    let size = size_of c.args.size in
    omega (arith, is_turned c, turning.turned_lt size {e = c.args.e} {k = c.args.k} (omega arith) (omega arith), most-words size)
