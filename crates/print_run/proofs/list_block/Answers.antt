-- Where a read fails, the lines of no bytes are written: none.
use Rattle.std.proofs.Common.{sym, ap}
use Rattle.std.proofs.lemmas.Result.{err_from_is_err_and}
use Rattle.list_laws.specs.Putting.{at_front}
use Rattle.listing.specs.LineLaws.{no_bytes}
use Rattle.print_run.proofs.list_block.Goals as goal

pub returns-in_err-length-clause-lines_after : goal.returns-in_err-length-clause-lines_after
returns-in_err-length-clause-lines_after g c =
    let p = err_from_is_err_and c.from_residual.result c.from_residual.ensures.1 in
    rw (p.1, p.2) (sym (ap (λ t. at_front t c.args.lines.now) (no_bytes c.args.first)))
