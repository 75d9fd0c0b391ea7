-- What is left of the search is the whole search's answer.
-- Assumes nothing.
use Rattle.std.proofs.Common.{◌≡◌, ◌-◌}
use Rattle.list_laws.specs.Search.{first_from}
use Rattle.stream_writer.specs.Encoding.{words_needed}
use Rattle.encoder.specs.Plan.{fits_listed}
use Rattle.encoder.proofs.planning.first_fit.Given as goal

abbrev pub invariant-loop-i : goal.invariant-loop-i
invariant-loop-i l =
    record {
      counted : l.words ≡ words_needed l.size l.message;
      searched : first_from (fits_listed l.message l.percent) l.i (33 - l.i) ≡ first_from (fits_listed l.message l.percent) 0 33;
    }
