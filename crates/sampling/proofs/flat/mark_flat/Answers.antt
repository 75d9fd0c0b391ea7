-- The first w words' marks are written.
-- Assumes nothing.
use Rattle.std.proofs.Common.{◌≡◌, refl, ap, ap₂, ◌∙◌, cond, ◌||◌, le_refl, arith, eqb, get_or, length-set}
use Rattle.list_laws.specs.Filled.{filled, filled_none, filled-step, get_or-unfilled}
use Rattle.stream.specs.Stuffing.{flat}
use Rattle.sampling.specs.Flat.{flat_mark, flat-filled}
use Rattle.sampling.proofs.flat.mark_flat.Goals as goal
use Rattle.sampling.proofs.flat.mark_flat.Goals.{At-loop-w, Start}

abbrev start : At-loop-w → Start
start c = (goal.at.At-loop-w c).Start

pub loop-w-init : goal.loop-w-init
loop-w-init c = (refl, filled_none _ _)

pub loop-w-preserved : goal.loop-w-preserved
unfolding flat
loop-w-preserved c =
    let l = (goal.at.loop-w-preserved c).At-loop-w in
    let a = (start l).args in
    let f = flat_mark a.size a.words.now a.marks.now in
    let x = get_or a.words.now l.loop-w.w 0 in
    let kept = ap (λ m. get_or m l.loop-w.w 0) l.loop-w.invariant.1 ∙ get_or-unfilled f 0 l.loop-w.w l.loop-w.w a.marks.now (le_refl _) in (
      simp length-set l.loop-w.invariant.0,
      filled-step f l.loop-w.w _ l.loop-w.invariant.1
          (c.flat_mark.ensures ∙ ap₂ (λ ones m. cond (eqb x 0 || eqb x ones) 1 m) l.ones_of-ones.ensures kept) (omega arith),
    )

pub returns : goal.returns
returns c =
    let l = c.loop-w in
    let s = start (goal.at.returns c).At-loop-w in
    let a = s.args in
    let e : l.w ≡ a.count = omega arith in
    l.invariant.1
    ∙ ap (λ n. filled (flat_mark a.size a.words.now a.marks.now) n a.marks.now) e
    ∙ flat-filled a.size a.count a.words.now a.marks.now (omega (arith, s.requires))
