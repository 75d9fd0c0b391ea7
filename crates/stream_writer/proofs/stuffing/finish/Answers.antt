-- The last word has some 1s; what is left to fill falls.
-- Assumes nothing.
use Rattle.std.proofs.Common.{◌≡◌, refl, sym, ap, ◌∙◌, subst, [], ◌∷◌, ◌++◌, ℕ, suc, ◌+◌, ◌^◌, ◌≤◌, arith, length, length-set, pow_mono}
use Rattle.stream.specs.declared.stuffing.Put.TheVariants.{Part}
use Rattle.stream.specs.Bits.{bits}
use Rattle.stream.specs.Stuffing.{put}
use Rattle.stream.specs.PutLaws.{State, Fits, put-fits, part-grows, word_below}
use Rattle.stream_writer.specs.Writing.{ending-none, ending-part, ending-word}
use Rattle.stream_writer.proofs.stuffing.finish.Goals as goal
use Rattle.stream_writer.proofs.stuffing.finish.Goals.{At-loop-k}

one_more : (h k v k' v' : ℕ) → 1 ≤ h → State h k v → put h k v 1 ≡ Part k' v' → k' ≡ k + 1
one_more h k v k' v' l s e =
    let f = subst (Fits h (bits k v ++ 1 ∷ [])) e (put-fits h k v 1 l s (omega arith)) in
    part-grows k v 1 k' v' f.1

pub loop-k-init : goal.loop-k-init
loop-k-init c = (omega arith, refl, ending-none c.requires.3)

pub put_bit-requires : goal.put_bit-requires
put_bit-requires c =
    record {
      fact_1 = (c.requires.0, c.requires.1);
      fact_2 = c.loop-k.invariant.2.state;
      fact_3 = omega arith;
    }

pub loop-k-smaller-in-Part : goal.loop-k-smaller-in-Part
loop-k-smaller-in-Part c =
    let l = (goal.at.loop-k-smaller-in-Part c).At-loop-k in
    let s = l in
    let i = l.loop-k.invariant in
    let p = c.in-Part in
    omega (arith, i.2.state.few, one_more s.args.h l.loop-k.k l.loop-k.v p.bits p.value s.requires.0 i.2.state (sym c.in-Part.ensures))

pub loop-k-preserved-in-Part : goal.loop-k-preserved-in-Part
loop-k-preserved-in-Part c =
    let l = (goal.at.loop-k-preserved-in-Part c).At-loop-k in
    let s = l in
    let i = l.loop-k.invariant in
    let p = c.in-Part in (
      omega (arith, one_more s.args.h l.loop-k.k l.loop-k.v p.bits p.value s.requires.0 i.2.state (sym c.in-Part.ensures)),
      i.1,
      ending-part s.requires.0 i.2 (omega arith) (sym c.in-Part.ensures),
    )

pub store-requires : goal.store-requires
store-requires c =
    let l = (goal.at.store-requires c).At-loop-k in
    let s = l in
    let x = c.in-Word.x in
    omega (
      arith,
      word_below s.args.h l.loop-k.k l.loop-k.v 1 x s.requires.0 l.loop-k.invariant.2.state (omega arith) (sym c.in-Word.ensures),
      pow_mono {i = suc s.args.h} {j = 12} (omega arith),
    )

pub loop-k-smaller : goal.loop-k-smaller
loop-k-smaller c =
    omega (arith, c.loop-k.invariant.2.state.few)

pub loop-k-preserved : goal.loop-k-preserved
loop-k-preserved c =
    let l = (goal.at.loop-k-preserved c).At-loop-k in
    let s = l in
    let i = l.loop-k.invariant in
    let stored = c.store.ensures in (
      omega arith,
      ap length stored ∙ simp length-set i.1,
      ending-word s.requires.0 i.2 (omega arith) (sym c.in-Word.ensures) stored,
    )

pub returns : goal.returns
returns c =
    let z = c.loop-k in
    let e : z.k ≡ 0 = omega arith in
    let f : z.v ≡ 0 = omega (arith, z.invariant.2.state.fits, ap (λ k. 2 ^ k) e) in
    rw (e, f) at z.invariant.2
