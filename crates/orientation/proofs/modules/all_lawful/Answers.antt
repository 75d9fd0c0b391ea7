-- The greatest of the modules so far.
-- Assumes nothing.
use Rattle.std.proofs.Common.{◌≡◌, ap, ◌∙◌, arith, leb, length, get_or}
use Rattle.orientation.specs.Greatest.{most, most-none, most-next, most-leb}
use Rattle.orientation.specs.Modules.{lawful_modules}
use Rattle.orientation.proofs.modules.all_lawful.Goals as goal

pub loop-module-init : goal.loop-module-init
loop-module-init c = most-none _

pub loop-module-preserved : goal.loop-module-preserved
loop-module-preserved c = c.max-most.ensures ∙ most-next (λ i. get_or c.args.grid.now i 0) c.loop-module.module-index c.loop-module.invariant

pub returns : goal.returns
unfolding lawful_modules
returns c =
    let l = c.loop-module in
    let g = c.args.grid.now in
    let end : l.module-index ≡ length g = omega arith in
    ap (λ m. leb m _) (l.invariant ∙ ap (most (λ i. get_or g i 0)) end) ∙ most-leb (λ i. get_or g i 0) (length g) _
