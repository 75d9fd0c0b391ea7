-- 18 comes first, and then the items are read.
-- Assumes nothing.
use Rattle.std.proofs.Common.{sym, ap, ◌∙◌, cond}
use Rattle.stream.specs.declared.items.Fault.TheVariants.{FlatWord}
use Rattle.stream.specs.Items.{judge, read_items, refused, verdict_of}
use Rattle.stream.specs.Stuffing.{unstuff}
use Rattle.stream_reader.proofs.message.judge.Goals as goal

pub returns-then-none_flat : goal.returns-then-none_flat
unfolding judge
returns-then-none_flat c =
    let a = c.args in
    let B = a.word_size in
    c.read_items.ensures
    ∙ ap (λ t. verdict_of (cond t (read_items B (unstuff B a.words.now)) (refused FlatWord 0)))
    (sym c.if-none_flat.true ∙ c.none_flat.ensures)

pub returns : goal.returns
unfolding judge
returns c =
    let a = c.args in
    let B = a.word_size in
    ap (λ t. verdict_of (cond t (read_items B (unstuff B a.words.now)) (refused FlatWord 0))) (sym c.if-none_flat.false ∙ c.none_flat.ensures)
