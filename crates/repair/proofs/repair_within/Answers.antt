-- The work arrays are zeros, and longer than the block.
-- Assumes nothing.
use Rattle.repair.proofs.Solving.{work-zeros}
use Rattle.repair.proofs.repair_within.Goals as goal

pub repair_in-requires : goal.repair_in-requires
repair_in-requires g c =
    record {
      damaged = c.requires.damaged;
      same_length = c.requires.same_length;
      work = work-zeros g.row.N c.zeros-u.ensures c.zeros-p.ensures c.zeros-q.ensures c.zeros-corrections.ensures c.requires.fits;
    }
