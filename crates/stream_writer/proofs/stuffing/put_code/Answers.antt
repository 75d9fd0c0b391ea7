-- The bits of the code above the lowest i are written.
-- Assumes nothing.
use Rattle.std.proofs.Common.{◌≡◌, refl, sym, ap, ◌∙◌, suc, ◌-◌, ◌/◌, ◌%◌, ◌^◌, arith, length, length-set, pow_mono}
use Rattle.stream.specs.PutLaws.{word_below}
use Rattle.stream_writer.specs.Writing.{sent-none, sent-more, sent-all, coded-part, coded-word}
use Rattle.stream_writer.proofs.stuffing.put_code.Goals as goal
use Rattle.stream_writer.proofs.stuffing.put_code.Goals.{At-loop-i}

pub loop-i-init : goal.loop-i-init
loop-i-init c =
    let a = c.args in
    let o = a.out in
    (omega arith, omega arith, refl, sent-none a.h a.width a.code o.count o.bits o.value a.words.now c.requires.fact_1.3)

pub put_bit-requires : goal.put_bit-requires
put_bit-requires c =
    record {
      fact_1 = (c.requires.fact_1.0, c.requires.fact_1.1);
      fact_2 = c.loop-i.invariant.3.state;
      fact_3 = omega arith;
    }

pub loop-i-preserved-in-Part : goal.loop-i-preserved-in-Part
loop-i-preserved-in-Part c =
    let l = (goal.at.loop-i-preserved-in-Part c).At-loop-i in
    let s = l in
    let i = l.loop-i.invariant in (
      omega arith,
      omega arith,
      i.2,
      sent-more _ _ _ _ _ _ _ l.loop-i.i (omega arith) i.0 i.3 (coded-part s.requires.fact_1.0 i.3.state (omega arith) (sym c.in-Part.ensures)),
    )

pub store-requires : goal.store-requires
store-requires c =
    let l = (goal.at.store-requires c).At-loop-i in
    let s = l in
    let bit = s.args.code / 2 ^ (l.loop-i.i - 1) % 2 in
    let x = c.in-Word.x in
    omega (
      arith,
      word_below s.args.h l.loop-i.k l.loop-i.v bit x s.requires.fact_1.0 l.loop-i.invariant.3.state (omega arith) (sym c.in-Word.ensures),
      pow_mono {i = suc s.args.h} {j = 12} (omega arith),
    )

pub loop-i-preserved : goal.loop-i-preserved
loop-i-preserved c =
    let l = (goal.at.loop-i-preserved c).At-loop-i in
    let s = l in
    let i = l.loop-i.invariant in
    let stored = c.store.ensures in (
      omega arith,
      omega arith,
      ap length stored ∙ simp length-set i.2,
      sent-more _ _ _ _ _ _ _ l.loop-i.i (omega arith) i.0 i.3 (coded-word s.requires.fact_1.0 i.3.state (omega arith) (sym c.in-Word.ensures) stored),
    )

pub returns : goal.returns
returns c =
    let a = c.args in
    let z = c.loop-i in
    let e : z.i ≡ 0 = omega arith in
    sent-all a.h a.width a.code _ _ _ _ (rw e at z.invariant.3)
