-- As in push_rows, with one character.
-- Assumes nothing.
use Rattle.std.proofs.Common.{◌≡◌, refl, ap, ◌∙◌, ℕ, ◌+◌, ◌++◌, arith, length, length-append}
use Rattle.picture.specs.Picture.{joined, upper}
use Rattle.picture.specs.PictureLaws.{grown_next, grown-start, upper-length}
use Rattle.picture.proofs.push_upper.Goals as goal

pub loop-init : goal.loop-init
loop-init c = grown-start (λ (_ : ℕ). upper) c.args.line.now

pub push_all-requires : goal.push_all-requires
push_all-requires c = omega (arith, ap length c.loop.invariant, length-append {A = ℕ}, upper-length c.loop.counter)

pub loop-preserved : goal.loop-preserved
loop-preserved c = grown_next (λ (_ : ℕ). upper) c.loop.counter c.args.line.now c.loop.invariant c.push_all.ensures.put refl

pub returns : goal.returns
returns c =
    let k : c.loop.counter ≡ c.args.side + 4 = omega arith in
    c.loop.invariant ∙ ap (λ n. c.args.line.now ++ joined (λ (_ : ℕ). upper) n) k
