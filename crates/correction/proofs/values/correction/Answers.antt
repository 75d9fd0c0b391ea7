-- The loop is Dividing's.
-- Assumes nothing.
use Rattle.std.proofs.Common.{rules, ◌≡◌, sym, subst, ◌+◌, ◌-◌, arith}
use Rattle.finite_field.specs.Field.{size_of, Word, power}
use Rattle.finite_field.specs.FieldLaws.{product-word, inverse-word}
use Rattle.correction.proofs.Dividing.{dividing-start, next-quotient, dividing-turn, dividing-end}
use Rattle.correction.proofs.values.correction.Goals as goal

pub loop-j-init : goal.loop-j-init
loop-j-init c =
    let a = c.args in
    dividing-start (size_of a.field.now.size) a.g.now a.syndromes.now a.m a.k

pub times_power-requires : goal.times_power-requires
times_power-requires c =
    record {
      word = c.loop-j.invariant.quotient-word;
      k_bound = c.requires.m_in_bounds_3;
    }

pub product-numerator-requires : goal.product-numerator-requires
product-numerator-requires c =
    let l = c.loop-j in
    let back : l.j - 1 + 1 ≡ l.j = omega arith in record {
      a_word = rw back (next-quotient (size_of c.args.field.now.size) c.args.g.now c.args.syndromes.now c.args.m c.args.k
          c.requires.g_words c.requires.syndrome_words l.invariant (search rules) c.times_power.ensures).0;
      b_word = c.requires.syndrome_words (l.j - 1);
    }

pub times_power-requires-in-loop-j : goal.times_power-requires-in-loop-j
times_power-requires-in-loop-j c =
    record {
      word = c.loop-j.invariant.slope-word;
      k_bound = c.requires.m_in_bounds_3;
    }

pub loop-j-preserved : goal.loop-j-preserved
loop-j-preserved c =
    let a = c.args in
    let l = c.loop-j in
    let back : l.j - 1 + 1 ≡ l.j = omega arith in
    rw back
    (dividing-turn (size_of a.field.now.size) a.g.now a.syndromes.now a.m a.k c.requires.g_words c.requires.syndrome_words
    l.invariant (search rules) c.times_power.ensures (rw back at c.product-numerator.ensures) c.times_power-in-loop-j.ensures)

pub times_power-denominator-requires : goal.times_power-denominator-requires
times_power-denominator-requires c =
    record {
      word = c.loop-j.invariant.slope-word;
      k_bound = c.requires.m_in_bounds_3;
    }

pub inverse-requires : goal.inverse-requires
inverse-requires c =
    let l = c.loop-j in
    let size = size_of c.args.field.now.size in
    subst (Word size) (sym c.times_power-denominator.ensures) (product-word size l.slope (power size c.args.k) l.invariant.slope-word)

pub product-requires : goal.product-requires
product-requires c =
    let l = c.loop-j in
    let size = size_of c.args.field.now.size in record {
      a_word = l.invariant.numerator-word;
      b_word = subst (Word size) (sym c.inverse.ensures)
          (inverse-word size _
          (subst (Word size) (sym c.times_power-denominator.ensures)
          (product-word size l.slope (power size c.args.k) l.invariant.slope-word)));
    }

pub returns : goal.returns
returns c =
    let a = c.args in
    dividing-end (size_of a.field.now.size) a.g.now a.syndromes.now a.m a.k c.loop-j.invariant (search rules)
    c.times_power-denominator.ensures c.inverse.ensures c.product.ensures
