-- The table is the definition's.
-- Assumes nothing.
use Rattle.std.proofs.Common.{ap, ◌∙◌, [], get_or}
use Rattle.stream.specs.declared.codes.Entry.TheVariants.{Char}
use Rattle.stream.specs.Codes.{set_number, set-number-below, chars, table}
use Rattle.stream.proofs.CodeTables.{entry-in}
use Rattle.stream.proofs.codes.entry_at.Goals as goal

pub returns : goal.returns
unfolding chars table
returns c =
    let a = c.args in
    ap (λ s. get_or (get_or table s []) a.code (Char 0)) c.from.ensures ∙ entry-in (set_number a.set) a.code (set-number-below a.set) c.requires
