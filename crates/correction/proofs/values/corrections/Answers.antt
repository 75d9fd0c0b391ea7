-- The loop is Correcting's.
-- Assumes nothing.
use Rattle.std.proofs.Common.{rules, arith}
use Rattle.finite_field.specs.Field.{size_of}
use Rattle.correction.proofs.Correcting.{correcting-none, correcting-skip, correcting-take, correcting-all}
use Rattle.correction.proofs.values.corrections.Goals as goal
use Rattle.correction.proofs.values.corrections.Goals.{else-places-i-eq1, then-places-i-eq1}

pub loop-i-init : goal.loop-i-init
loop-i-init c =
    let a = c.args in
    correcting-none (size_of a.field.now.size) a.n a.m a.g.now a.syndromes.now a.places.now

pub correction-requires : goal.correction-requires
correction-requires c =
    record {
      g_words = c.requires.g_words;
      syndrome_words = c.requires.syndrome_words;
      m_in_bounds_1 = search rules;
      m_in_bounds_2 = search rules;
      m_in_bounds_3 = omega (arith, c.requires.m_in_bounds_4);
    }

pub loop-i-preserved : goal.loop-i-preserved
loop-i-preserved c =
    let a = c.args in
    let l = c.loop-i in
    let size = size_of a.field.now.size in
    elim c.if-places-i-eq1.branch [
      | then-places-i-eq1 w ↦ (
          rw w.places-is (correcting-take size a.n a.m a.g.now a.syndromes.now a.places.now l.invariant w.if-places-i-eq1.true (search rules) w.correction.ensures)
          )
      | else-places-i-eq1 w ↦ (
          rw w.places-is
          (correcting-skip size a.n a.m a.g.now a.syndromes.now a.places.now l.invariant
          (c.requires.zero_from_2 l.i (search rules)) w.if-places-i-eq1.false)
          )
    ]

pub returns : goal.returns
returns c =
    let a = c.args in
    correcting-all (size_of a.field.now.size) a.n a.m a.g.now a.syndromes.now a.places.now c.loop-i.invariant (search rules)
    c.requires.zero_from_1
