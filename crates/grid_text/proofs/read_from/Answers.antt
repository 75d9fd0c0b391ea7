-- After some bytes the reading stands where the definition says, and the modules met are stored.
-- Assumes nothing.
use Rattle.std.proofs.Common.{ap, ap₂, ◌∙◌, arith}
use Rattle.grid_text.specs.Scanning.{step, shown}
use Rattle.list_laws.specs.Putting.{put_same, put_then, put-none}
use Rattle.grid_text.specs.Grid.{one_module}
use Rattle.grid_text.specs.GridLaws.{one-length, after_none, modules-none, after_next, modules-next}
use Rattle.grid_text.proofs.read_from.Goals as goal

pub loop-byte-init : goal.loop-byte-init
loop-byte-init c =
    let a = c.args in record {
      in_range = omega arith;
      stands = after_none a.first a.bytes.now;
      stored = put_same (modules-none a.first a.bytes.now) (put-none a.grid.now 0);
    }

pub loop-byte-preserved : goal.loop-byte-preserved
loop-byte-preserved c =
    let a = c.args in
    let l = c.loop-byte in
    let kind = c.from-kind.ensures in
    let shows = c.module_of.ensures ∙ ap₂ shown l.invariant.stands kind in
    let seen = put_same (ap one_module shows) c.put_module-at.ensures in record {
      in_range = omega (arith, one-length c.module_of.result);
      stands = c.step-scan.ensures ∙ ap₂ step l.invariant.stands kind ∙ after_next a.first a.bytes.now l.byte-index (omega arith);
      stored = put_same (modules-next a.first a.bytes.now l.byte-index (omega arith)) (put_then l.invariant.stored seen);
    }
