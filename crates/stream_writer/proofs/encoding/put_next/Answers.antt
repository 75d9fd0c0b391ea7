-- Either turn.
-- Assumes nothing.
use Rattle.std.proofs.Common.{◌+◌, ◌≤◌, arith, length}
use Rattle.stream_writer.proofs.Turns.{turned-char, part-bounds, turned-part}
use Rattle.stream_writer.proofs.encoding.put_next.Goals as goal
use Rattle.stream_writer.proofs.encoding.put_next.Goals.{After-part_length-count}

pub returns-in-Some : goal.returns-in-Some
returns-in-Some c =
    let a = c.args in
    let e = c.in-Some.ensures in
    turned-char a.message.now a.from a.set c.requires.fact_2 _ _ e.0 e.1 e.2 c.put_char-after.ensures

bounds : (c : After-part_length-count)
    → (1 ≤ c.part_length-count.result) × (c.part_length-count.result ≤ 31)
    × (c.args.from + c.part_length-count.result ≤ length c.args.message.now)
bounds c = part-bounds c.args.message.now c.args.from c.args.set c.requires.fact_2 _ c.in_default.ensures c.part_length-count.ensures

pub put_part-after-requires : goal.put_part-after-requires
put_part-after-requires c =
    let few = bounds (goal.at.put_part-after-requires c).After-part_length-count in record {
      fact_1 = (c.requires.fact_1.0, c.requires.fact_1.1, omega arith, c.requires.fact_1.3);
      fact_2 = (few.2, few.1);
    }

pub overflow_add-result-2 : goal.overflow_add-result-2
overflow_add-result-2 c = let few = bounds (goal.at.overflow_add-result-2 c).After-part_length-count in omega arith

pub returns : goal.returns
returns c =
    let a = c.args in
    turned-part a.message.now a.from a.set c.requires.fact_2 _ c.in_default.ensures c.part_length-count.ensures _
    c.run_set_of.ensures
    c.put_part-after.ensures
