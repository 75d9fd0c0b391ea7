-- The places before i have the multiple added; the others are as they were.
-- Assumes nothing.
use Rattle.std.proofs.Common.{rules, ◌≡◌, ap, ap₂, ◌∙◌, ◌<◌, le_refl, arith, length, length-set}
use Rattle.list_laws.specs.Filled.{filled, filled_none, filled-step, filled-all}
use Rattle.finite_field.specs.Xor.{◌⊕◌}
use Rattle.finite_field.specs.Field.{size_of}
use Rattle.evaluation.proofs.Elements.{not-yet-filled}
use Rattle.check_words.proofs.Remaindering.{adding}
use Rattle.check_words.proofs.add_multiple.Goals as goal

pub loop-i-init : goal.loop-i-init
loop-i-init c = (search rules, filled_none _ _)

pub times_power-requires : goal.times_power-requires
times_power-requires c =
    record {
      word = c.requires.words c.loop-i.i;
      k_bound = c.requires.k_bound;
    }

pub loop-i-preserved : goal.loop-i-preserved
loop-i-preserved c =
    let l = c.loop-i in
    let h : l.i < length c.args.tail.now = omega arith in (
      simp length-set (search rules),
      filled-step _ l.i c.args.tail.now l.invariant.1
          (ap₂ ◌⊕◌ (not-yet-filled _ l.i l.i c.args.tail.now l.invariant.1 (le_refl l.i)) c.times_power.ensures) h,
    )

pub returns : goal.returns
returns c =
    let a = c.args in
    let tail = a.tail.now in
    let f = adding (size_of a.field.now.size) a.g.now a.k tail in
    let done : c.loop-i.i ≡ length tail = omega arith in
    c.loop-i.invariant.1 ∙ ap (λ n. filled f n tail) done ∙ filled-all f tail
