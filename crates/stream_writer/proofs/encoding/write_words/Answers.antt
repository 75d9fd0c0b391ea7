-- The message is written as far as byte i.
-- Assumes nothing.
use Rattle.std.proofs.Common.{rules, ◌≡◌, refl, ◌+◌, ◌-◌, ◌≤◌, arith}
use Rattle.stream.specs.Below.{below_of}
use Rattle.stream_writer.specs.Writing.{all_words}
use Rattle.stream_writer.specs.Encoding.{written_none, written-more, written_count, written_all}
use Rattle.stream_writer.proofs.encoding.write_words.Goals as goal
use Rattle.stream_writer.proofs.encoding.write_words.Goals.{At-loop-i, Start}

abbrev start : At-loop-i → Start
start c = (goal.at.At-loop-i c).Start

few : (c : At-loop-i) → c.loop-i.out.count ≤ 1000000
few c =
    let m = (start c).args.message.now in
    let bytes = below_of 256 m (λ i h. omega (arith, c.type_inv.message i)) in
    omega (arith, written_count (omega (arith, (start c).requires)) bytes c.loop-i.invariant.1)

pub loop-i-init : goal.loop-i-init
loop-i-init c = (refl, written_none (omega arith))

pub put_next-turn-requires : goal.put_next-turn-requires
put_next-turn-requires c =
    let l = (goal.at.put_next-turn-requires c).At-loop-i in
    let w = l.loop-i.invariant.1 in record {
      fact_1 = (omega arith, omega arith, few l, w.written.state);
      fact_2 = omega arith;
    }

pub loop-i-smaller : goal.loop-i-smaller
loop-i-smaller c = let t = c.put_next-turn.ensures in omega (arith, t.more, t.inside)

pub loop-i-preserved : goal.loop-i-preserved
loop-i-preserved c =
    (search rules, written-more c.loop-i.invariant.1 c.put_next-turn.ensures)

pub finish-requires : goal.finish-requires
finish-requires c = let l = (goal.at.finish-requires c).At-loop-i in (omega arith, omega arith, omega (arith, few l), l.loop-i.invariant.1.written.state)

pub returns : goal.returns
returns c =
    let all = let l = (goal.at.returns c).At-loop-i in
    let size = (start l).args.word_size in
    let e : size - 1 + 1 ≡ size = omega arith in
    rw e at (all_words (omega arith) (written_all (omega arith) l.loop-i.invariant.1) c.finish.ensures) in record {
      value = all.0;
      words_after = all.1;
    }
