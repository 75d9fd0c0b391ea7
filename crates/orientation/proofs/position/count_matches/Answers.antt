-- The positions before p are counted.
-- Assumes nothing.
use Rattle.orientation.specs.Counting.{upright}
use Rattle.orientation.proofs.position.count_matches.Goals as goal

pub matches_of-requires : goal.matches_of-requires
matches_of-requires c =
    record {
      fact_1 = c.requires;
      fact_2 = upright c.args.frame.full c.args.frame.side c.orientation_places.ensures;
    }
