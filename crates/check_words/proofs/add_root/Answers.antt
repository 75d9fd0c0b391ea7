-- The words before i are those of the product; the others are as they were, and `above` is the one before place i.
-- Assumes nothing.
use Rattle.std.proofs.Common.{rules, ◌≡◌, refl, ap, ◌∙◌, ◌<◌, arith, length-set, take}
use Rattle.list_laws.specs.Filled.{filled, filled_none}
use Rattle.finite_field.specs.Field.{size_of}
use Rattle.check_words.proofs.Generating.{rooting, carried, carried-word, carried-next, rooting-next, rooted-last}
use Rattle.check_words.proofs.add_root.Goals as goal

pub loop-i-init : goal.loop-i-init
loop-i-init c = (search rules, refl, filled_none _ _)

pub times_power-requires : goal.times_power-requires
times_power-requires c =
    let l = c.loop-i in record {
      word = carried-word (size_of c.args.field.now.size) c.args.k c.args.m c.args.g.now l.i c.requires.words l.invariant.1;
      k_bound = c.requires.k_bound_1;
    }

pub loop-i-preserved : goal.loop-i-preserved
loop-i-preserved c =
    let l = c.loop-i in
    let h : l.i < c.args.m = search rules in (
      simp length-set (search rules),
      carried-next (size_of c.args.field.now.size) c.args.k c.args.m c.args.g.now l.invariant.2 h,
      rooting-next (size_of c.args.field.now.size) c.args.k c.args.m c.args.g.now l.invariant.2 l.invariant.1 c.times_power.ensures h c.requires.k_bound_2,
    )

pub times_power-requires-2 : goal.times_power-requires-2
times_power-requires-2 c =
    let l = c.loop-i in record {
      word = carried-word (size_of c.args.field.now.size) c.args.k c.args.m c.args.g.now l.i c.requires.words l.invariant.1;
      k_bound = c.requires.k_bound_1;
    }

pub returns : goal.returns
returns c =
    let l = c.loop-i in
    let size = size_of c.args.field.now.size in
    let done : l.i ≡ c.args.m = omega arith in
    rooted-last size c.args.k c.args.m c.args.g.now
    (l.invariant.2 ∙ ap (λ n. filled (rooting size c.args.k (take c.args.m c.args.g.now)) n c.args.g.now) done)
    (l.invariant.1 ∙ ap (carried size c.args.k c.args.m c.args.g.now) done) c.times_power-2.ensures c.requires.k_bound_2
