-- The table has the first sets, computed for all bytes.
-- Assumes nothing.
use Rattle.std.proofs.Common.{◌≡◌, rules, subst, sym, MatchOption, None, get_or}
use Rattle.stream.specs.declared.codes.TheConstants.{HOMES}
use Rattle.stream.specs.Codes.{set_number, code_of, home}
use Rattle.stream.proofs.CodeTables.{home_at}
use Rattle.stream.proofs.codes.home_of.Goals as goal

pub returns : goal.returns
returns c =
    let b = c.args.b in
    subst (λ i. MatchOption (get_or HOMES i None) (home b ≡ 5) (λ h. (set_number h.0 ≡ home b) × (h.1 ≡ code_of (home b) b)))
    (sym c.from.ensures) (home_at b (search rules))
