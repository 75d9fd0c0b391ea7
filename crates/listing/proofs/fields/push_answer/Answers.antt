-- Field after field.
-- Assumes nothing.
use Rattle.std.proofs.Common.{eq-eqb, ne_eqb, append_assoc}
use Rattle.listing.specs.Line.{refused_word, answer_fields}
use Rattle.listing.proofs.fields.push_answer.Goals as goal

pub returns-then-answer-ne0-clause-put : goal.returns-then-answer-ne0-clause-put
unfolding refused_word answer_fields
returns-then-answer-ne0-clause-put c =
    simp (ne_eqb _ _ c.if-answer-ne0.true, c.push_value.ensures.put, c.push_word.ensures.put, append_assoc)

pub returns-clause-put : goal.returns-clause-put
unfolding answer_fields
returns-clause-put c =
    simp (
      eq-eqb _ _ c.if-answer-ne0.false,
      c.push_value-4.ensures.put,
      c.push_value-3.ensures.put,
      c.push_value-2.ensures.put,
      c.push_shape.ensures.put,
      append_assoc,
    )
