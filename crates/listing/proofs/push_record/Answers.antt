-- A record that is not sound is bad; the plan of any other goes into the line.
-- Assumes nothing.
use Rattle.std.proofs.Common.{◌≡◌, sym, ap, ap₂, ◌∙◌, subst, false, ◌≤◌, ◌+◌, ◌-◌, ◌++◌, arith, take, drop}
use Rattle.encoder.specs.Plan.{plan_of}
use Rattle.listing.specs.Line.{message_length, percentage, message, sound, bad_word, answer_fields, record_fields}
use Rattle.listing.specs.LineLaws.{sound-parts, shape-most}
use Rattle.listing.proofs.push_record.Goals as goal

pub returns-then-not-is_sound-clause-put : goal.returns-then-not-is_sound-clause-put
unfolding record_fields bad_word
returns-then-not-is_sound-clause-put c =
    let bad : sound c.args.«record».now ≡ false = sym c.is_sound.ensures ∙ c.if-not-is_sound.true in
    rw bad c.push_word.ensures.put

pub bounds-record-0 : goal.bounds-record-0
bounds-record-0 c = omega (arith, (sound-parts c.args.«record».now (sym c.is_sound.ensures ∙ c.if-not-is_sound.false)).0)

pub slice_bounds-plan-end : goal.slice_bounds-plan-end
unfolding message_length
slice_bounds-plan-end c = omega (arith, sound-parts c.args.«record».now (sym c.is_sound.ensures ∙ c.if-not-is_sound.false))

pub bounds-record-1 : goal.bounds-record-1
bounds-record-1 c = omega (arith, (sound-parts c.args.«record».now (sym c.is_sound.ensures ∙ c.if-not-is_sound.false)).0)

pub push_answer-requires-clause-fact_1 : goal.push_answer-requires-clause-fact_1
push_answer-requires-clause-fact_1 c = subst (λ e. e.shape ≤ 36) (sym c.plan-answer.ensures) (shape-most _ _)

pub returns-clause-put : goal.returns-clause-put
unfolding record_fields message_length percentage message
returns-clause-put c =
    let bytes = c.args.«record».now in
    let sounds = sym c.is_sound.ensures ∙ c.if-not-is_sound.false in
    let plan =
    c.plan-answer.ensures
    ∙ ap₂ (λ k p. plan_of (take k (drop 2 bytes)) p) (let z : 2 + c.from-end.result - 2 ≡ message_length bytes = omega arith in z) c.from.ensures in
    rw sounds (c.push_answer.ensures.put ∙ ap (λ e. c.args.line.now ++ answer_fields e) plan)
