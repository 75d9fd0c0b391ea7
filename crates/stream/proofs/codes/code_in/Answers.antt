-- The search's test is that of the definition.
-- Assumes nothing.
use Rattle.std.proofs.Common.{rules, tests, ap, ◌∙◌, [], get_or}
use Rattle.std.proofs.lemmas.Iterator.{YieldsList-from_slice}
use Rattle.std.proofs.lemmas.Iterator.Search.{position_from_yields_List}
use Rattle.stream.specs.Codes.{set_number, set-number-below, chars, table, row, is_char}
use Rattle.stream.proofs.CodeTables.{char-test, code-found}
use Rattle.stream.proofs.codes.code_in.Goals as goal

pub returns : goal.returns
unfolding chars table row
returns c =
    let a = c.args in
    let codes = c.iter.ensures.rest ∙ ap (λ s. get_or table s []) c.from.ensures in
    let found = position_from_yields_List (is_char a.b) _ _ c.position.result c.position.ensures.ran
    (YieldsList-from_slice (row (set_number a.set)) codes) (λ x b q k. (search (rules, tests), char-test a.b x.now b (search (rules, tests)))) in
    code-found (set_number a.set) a.b (set-number-below a.set) c.position.result found
