-- The sum so far is the dot product of the terms passed.
-- Assumes nothing.
use Rattle.std.proofs.Common.{◌≡◌, ap, ◌∙◌, ℕ, ◌+◌, arith}
use Rattle.algebra.specs.KeyEquation as key
use Rattle.finite_field.specs.Field.{size_of}
use Rattle.finite_field.specs.Instance.{word_field, entry, number}
use Rattle.correction.proofs.Combining.{dot-none, dot-more}
use Rattle.correction.proofs.locator.dot.Goals as goal

pub loop-j-init : goal.loop-j-init
loop-j-init c = let a = c.args in dot-none (size_of a.field.now.size) a.p.now a.u.now a.at

pub product-sum-requires : goal.product-sum-requires
product-sum-requires c =
    let j = c.loop-j.j in record {
      a_word = c.requires.p_words j;
      b_word = c.requires.u_words (c.args.at + j);
    }

pub loop-j-preserved : goal.loop-j-preserved
loop-j-preserved c =
    let l = c.loop-j in
    dot-more (size_of c.args.field.now.size) c.args.p.now c.args.u.now c.args.at l.j c.requires.p_words c.requires.u_words l.invariant c.product-sum.ensures

pub returns : goal.returns
returns c =
    let a = c.args in
    let size = size_of a.field.now.size in
    let e : c.loop-j.j ≡ a.count = omega arith in
    c.loop-j.invariant
    ∙ ap (λ (n : ℕ). number size (key.dot (word_field size) n (entry size a.p.now) (entry size a.u.now) a.at)) e
