-- The places from j on hold their new coefficients, the others are as they were.
-- Assumes nothing.
use Rattle.std.proofs.Common.{◌≡◌, refl, sym, ap, ap₂, ◌∙◌, subst, ◌-◌, ◌<◌, arith, get_or}
use Rattle.finite_field.specs.Xor.{◌⊕◌}
use Rattle.finite_field.specs.Field.{size_of, Word, product}
use Rattle.list_laws.specs.Downward.{between_none, between-down}
use Rattle.correction.proofs.Combining.{both-terms, first-term, lengthened}
use Rattle.correction.proofs.locator.lengthen.Goals as goal
use Rattle.correction.proofs.locator.lengthen.Goals.{At-loop-j, Start, else-shift-j, then-shift-j}

abbrev start : At-loop-j → Start
start c = (goal.at.At-loop-j c).Start

pub loop-j-init : goal.loop-j-init
loop-j-init c = (between_none _ _ _, between_none _ _ _)

pub product-kept-requires : goal.product-kept-requires
product-kept-requires c =
    let l = (goal.at.product-kept-requires c).At-loop-j in
    let s = start l in record {
      a_word = s.requires.d_word;
      b_word = subst (Word (size_of s.args.field.now.size)) (sym (l.loop-j.invariant.1.below (l.loop-j.j - 1) (omega arith)))
          (s.requires.words_2 (l.loop-j.j - 1));
    }

pub product-requires : goal.product-requires
product-requires c =
    let l = (goal.at.product-requires c).At-loop-j in
    let s = start l in
    let i = l.loop-j.j - 1 - s.args.shift in record {
      a_word = s.requires.b_word;
      b_word = subst (Word (size_of s.args.field.now.size)) (sym (l.loop-j.invariant.0.below i (omega arith))) (s.requires.words_1 i);
    }

pub loop-j-preserved : goal.loop-j-preserved
loop-j-preserved c =
    let l = (goal.at.loop-j-preserved c).At-loop-j in
    let j = l.loop-j.j - 1 in
    let s = start l in
    let size = size_of s.args.field.now.size in
    let p = s.args.p.now in
    let q = s.args.q.now in
    let pre = s.requires in
    let p-loop = l.loop-j.invariant.0 in
    let q-loop = l.loop-j.invariant.1 in
    let less : j < l.loop-j.j = omega arith in
    let first : c.product-kept.result ≡ product size s.args.d (get_or q j 0)
    = c.product-kept.ensures ∙ ap (product size s.args.d) (q-loop.below j less) in (
      elim c.if-shift-j.branch [
        | then-shift-j w ↦ between-down (omega arith) (omega arith) pre.words_3 p-loop w.p-is
            (ap₂ ◌⊕◌ first (w.product.ensures ∙ ap (product size s.args.b) (p-loop.below (j - s.args.shift) (omega arith)))
            ∙ both-terms size q p pre.d_word pre.b_word pre.words_2 pre.words_1 s.args.shift j w.if-shift-j.true)
        | else-shift-j w ↦ between-down (omega arith) (omega arith) pre.words_3 p-loop w.p-is
            (first ∙ first-term size q p pre.d_word pre.b_word pre.words_2 pre.words_1 s.args.shift j w.if-shift-j.false)
      ],
      between-down (omega arith) (omega arith) pre.words_4 q-loop refl (p-loop.below j less),
    )

pub returns : goal.returns
returns c =
    let l = (goal.at.returns c).At-loop-j in
    let s = start l in
    lengthened (size_of s.args.field.now.size) s.args.p.now s.args.q.now s.requires.words_1 (omega arith)
    l.loop-j.invariant.0 l.loop-j.invariant.1
