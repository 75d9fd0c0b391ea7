-- The factors divide the order that the number of words gives.
-- Assumes nothing.
use Rattle.std.proofs.Common.{rules, ◌≡◌, ◌^◌, sym, refl, ◌∙◌, lit<}
use Rattle.finite_field.specs.Field.{size_of, bits}
use Rattle.evaluation.specs.Evaluation.{Divides}
use Rattle.evaluation.proofs.folded.folded_whole.Goals as goal

pub folded-requires-clause-factors_2 : goal.folded-requires-clause-factors_2
unfolding Divides
folded-requires-clause-factors_2 c =
    let whole = sym (sym c.args.field.now.tables.exp-length ∙ c.in-4096.is) in
    (record { whole = whole; m-pos = lit< tt; per_pos = lit< tt; part-pos = lit< tt }, refl, (record { whole = whole; m-pos = lit< tt; per_pos = lit< tt; part-pos = lit< tt }, refl, (record { whole = whole; m-pos = lit< tt; per_pos = lit< tt; part-pos = lit< tt }, refl, (record { whole = whole; m-pos = lit< tt; per_pos = lit< tt; part-pos = lit< tt }, lit< tt))))

pub folded-requires-in-1024-clause-factors_2 : goal.folded-requires-in-1024-clause-factors_2
unfolding Divides
folded-requires-in-1024-clause-factors_2 c =
    let whole = sym (sym c.args.field.now.tables.exp-length ∙ c.in-1024.is) in
    (record { whole = whole; m-pos = lit< tt; per_pos = lit< tt; part-pos = lit< tt }, refl, (record { whole = whole; m-pos = lit< tt; per_pos = lit< tt; part-pos = lit< tt }, lit< tt))

pub folded-requires-in_default-clause-factors_2 : goal.folded-requires-in_default-clause-factors_2
unfolding Divides
folded-requires-in_default-clause-factors_2 c =
    let words : 2 ^ bits (size_of c.args.field.now.size) ≡ 256 = search rules in
    let whole = sym words in
    (record { whole = whole; m-pos = lit< tt; per_pos = lit< tt; part-pos = lit< tt }, refl, (record { whole = whole; m-pos = lit< tt; per_pos = lit< tt; part-pos = lit< tt }, lit< tt))
