-- The work arrays are zeros, and longer than a lawful block.
-- Assumes nothing.
use Rattle.repair.proofs.Solving.{blank-zeros}
use Rattle.reed_solomon.proofs.corrector.judge_within.Goals as goal

pub examine-requires : goal.examine-requires
examine-requires g c =
    record {
      lengths_1 = c.requires.lengths_1;
      lengths_2 = c.requires.lengths_2;
      blank_1 = λ h. blank-zeros g.row.N c.zeros-work.ensures (c.requires.fits h);
      blank_2 = λ h. blank-zeros g.row.N c.zeros-s.ensures (c.requires.fits h);
    }
