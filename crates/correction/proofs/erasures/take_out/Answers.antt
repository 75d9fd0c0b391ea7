-- The places before j have the locator taken out; the others are as they were.
-- Assumes nothing.
use Rattle.std.proofs.Common.{rules, ◌≡◌, ap, ◌∙◌, ◌<◌, le_refl, arith, length, length-set}
use Rattle.list_laws.specs.Filled.{filled, filled_none}
use Rattle.finite_field.specs.Field.{size_of}
use Rattle.evaluation.proofs.Elements.{not-yet-filled}
use Rattle.correction.proofs.Sequences.{taking_out, taking-out-next}
use Rattle.correction.proofs.erasures.take_out.Goals as goal

pub loop-j-init : goal.loop-j-init
loop-j-init c = (search rules, filled_none _ _)

pub times_power-requires : goal.times_power-requires
times_power-requires c =
    let l = c.loop-j in record {
      word = rw (not-yet-filled _ l.j l.j c.args.u.now l.invariant.1 (le_refl l.j)) (c.requires.words l.j);
      k_bound = c.requires.k_bound_1;
    }

pub loop-j-preserved : goal.loop-j-preserved
loop-j-preserved c =
    let l = c.loop-j in
    let h : l.j < length c.args.u.now = omega arith in (
      simp length-set (search rules),
      taking-out-next (size_of c.args.field.now.size) c.args.k l.j c.args.u.now l.invariant.1 c.times_power.ensures h,
    )

pub returns : goal.returns
returns c =
    let all : c.loop-j.j ≡ c.args.count = omega arith in
    c.loop-j.invariant.1 ∙ ap (λ n. filled (taking_out (size_of c.args.field.now.size) c.args.k c.args.u.now) n c.args.u.now) all
