-- Each byte either ends the reading with nothing, or is read into the value.
use Rattle.std.proofs.Common.{◌∙◌, ap, sym, arith, ◌+◌, option_and_then, drop}
use borrow.Author.Tests.{eqb-false}
use Rattle.show_tag.specs.Reading.{read_from}
use Rattle.show_tag.specs.ReadingLaws.{read-empty, read-start, read_step, read-end}
use Rattle.show_tag.proofs.decimal.read.Goals as goal

pub returns-then-is_empty : goal.returns-then-is_empty
returns-then-is_empty c = read-empty c.args.text.now (search (arith, c.if-is_empty.ensures))

pub loop-byte-init : goal.loop-byte-init
loop-byte-init c = read-start c.args.text.now (omega (arith, eqb-false _ _ (sym c.if-is_empty.ensures)))

pub loop-byte-preserved : goal.loop-byte-preserved
loop-byte-preserved c =
    let l = c.loop-byte in
    let text = c.args.text.now in
    ap (option_and_then (λ v. read_from v (drop (l.byte-index + 1) text))) c.in_ok-value.ensures ∙ read_step l.value l.byte-index text (omega arith) ∙ l.invariant

pub returns-in_err-value : goal.returns-in_err-value
returns-in_err-value c =
    let l = c.loop-byte in
    let text = c.args.text.now in
    c.from_residual.ensures
    ∙ ap (option_and_then (λ v. read_from v (drop (l.byte-index + 1) text))) c.in_err-value.ensures
    ∙ read_step l.value l.byte-index text (omega arith)
    ∙ l.invariant

pub returns : goal.returns
returns c = read-end c.loop-byte.value c.loop-byte.byte-index c.args.text.now (omega arith) ∙ c.loop-byte.invariant
