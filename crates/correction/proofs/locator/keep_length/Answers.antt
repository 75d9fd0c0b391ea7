-- The places passed hold their new coefficients, the others are as they were.
-- Assumes nothing.
use Rattle.std.proofs.Common.{rules, ◌≡◌, sym, ap, ap₂, ◌∙◌, subst, ◌+◌, ◌-◌, ◌<◌, le_refl, arith, length, get_or}
use Rattle.list_laws.specs.Filled.{filled, filled_none, filled-step, length-filled, get_or-unfilled}
use Rattle.finite_field.specs.Xor.{◌⊕◌}
use Rattle.finite_field.specs.Field.{size_of, Word, product}
use Rattle.correction.proofs.Combining.{combined, both-terms, first-term, kept}
use Rattle.correction.proofs.locator.keep_length.Goals as goal
use Rattle.correction.proofs.locator.keep_length.Goals.{At-loop-j, Start, else-shift-j, then-shift-j}

abbrev start : At-loop-j → Start
start c = (goal.at.At-loop-j c).Start

-- the coefficient at j is not changed yet
unchanged : (c : At-loop-j) → get_or c.loop-j.p c.loop-j.j 0 ≡ get_or (start c).args.p.now c.loop-j.j 0
unchanged c = ap (λ l. get_or l c.loop-j.j 0) c.loop-j.invariant.1 ∙ get_or-unfilled _ 0 c.loop-j.j _ _ (le_refl _)

pub loop-j-init : goal.loop-j-init
loop-j-init c = (search rules, filled_none _ _)

pub product-kept-requires : goal.product-kept-requires
product-kept-requires c =
    let l = (goal.at.product-kept-requires c).At-loop-j in
    let pre = (start l).requires in record {
      a_word = pre.b_word;
      b_word = subst (Word (size_of (start l).args.field.now.size)) (sym (unchanged l)) (pre.words_1 l.loop-j.j);
    }

pub product-requires : goal.product-requires
product-requires c =
    let l = (goal.at.product-requires c).At-loop-j in
    let s = start l in record {
      a_word = s.requires.d_word;
      b_word = s.requires.words_2 (l.loop-j.j - s.args.shift);
    }

pub loop-j-preserved : goal.loop-j-preserved
loop-j-preserved c =
    let l = (goal.at.loop-j-preserved c).At-loop-j in
    let j = l.loop-j.j in
    let s = start l in
    let size = size_of s.args.field.now.size in
    let p = s.args.p.now in
    let q = s.args.q.now in
    let pre = s.requires in
    let value = combined size s.args.b p s.args.d s.args.shift q in
    let first : c.product-kept.result ≡ product size s.args.b (get_or p j 0)
    = c.product-kept.ensures ∙ ap (product size s.args.b) (unchanged l) in
    let within : j < length p = omega arith in
    let e : c.if-shift-j.p ≡ filled value (j + 1) p
    = elim c.if-shift-j.branch [
      | then-shift-j w ↦ w.p-is
          ∙ filled-step value j p l.loop-j.invariant.1
          (ap₂ ◌⊕◌ first w.product.ensures
          ∙ both-terms size p q pre.b_word pre.d_word pre.words_1 pre.words_2 s.args.shift j w.if-shift-j.true) within
      | else-shift-j w ↦ w.p-is
          ∙ filled-step value j p l.loop-j.invariant.1
          (first ∙ first-term size p q pre.b_word pre.d_word pre.words_1 pre.words_2 s.args.shift j w.if-shift-j.false) within
    ] in
    (ap length e ∙ length-filled value (j + 1) p (omega arith), e)

pub returns : goal.returns
returns c =
    let l = (goal.at.returns c).At-loop-j in
    let s = start l in
    kept (size_of s.args.field.now.size) s.args.p.now s.args.q.now s.requires.words_1 (omega arith) l.loop-j.invariant.1
