-- Number, fields and line feed, one after the other: at most 20 digits, and 37 bytes for the fields.
-- Assumes nothing.
use Rattle.std.proofs.Common.{◌≡◌, ap, ◌∙◌, arith, length, append_assoc}
use Rattle.listing.specs.Line.{line_of}
use Rattle.list_laws.specs.Putting.{at_front}
use Rattle.listing.specs.DecimalLaws.{digits-most}
use Rattle.listing.proofs.write_line.Goals as goal

pub push_number-requires : goal.push_number-requires
push_number-requires c = omega (arith, ap length c.new-text.ensures, digits-most 19 c.args.number (omega arith))

pub push_record-requires : goal.push_record-requires
push_record-requires c = omega (arith, ap length c.new-text.ensures, digits-most 19 c.args.number (omega arith))

pub push-requires : goal.push-requires
push-requires c = omega (arith, ap length c.new-text.ensures, digits-most 19 c.args.number (omega arith))

pub put_front-requires : goal.put_front-requires
put_front-requires c = omega (arith, ap length c.new-text.ensures, digits-most 19 c.args.number (omega arith))

pub returns-clause-value : goal.returns-clause-value
unfolding line_of
returns-clause-value c =
    let whole : c.push.new.self ≡ line_of c.args.number c.args.«record».now =
    simp (c.push.ensures.put, c.push_record.ensures.put, c.push_number.ensures.put, c.new-text.ensures, append_assoc) in
    c.put_front.ensures.value ∙ ap length whole

pub returns-clause-line_after : goal.returns-clause-line_after
unfolding line_of
returns-clause-line_after c =
    let whole : c.push.new.self ≡ line_of c.args.number c.args.«record».now =
    simp (c.push.ensures.put, c.push_record.ensures.put, c.push_number.ensures.put, c.new-text.ensures, append_assoc) in
    c.put_front.ensures.buffer_after ∙ ap (λ t. at_front t c.args.line.now) whole

pub returns-clause-upper_bound : goal.returns-clause-upper_bound
returns-clause-upper_bound c = omega (arith, ap length c.new-text.ensures, digits-most 19 c.args.number (omega arith))
