-- The position is below 8, and the message's bytes are bytes: the theorem is trip-reads-back, the corollary trip-unchanged.
-- Assumes nothing.
use Rattle.std.proofs.Common.{◌∙◌, ◌%◌, arith}
use Rattle.stream.specs.Below.{below_of}
use Rattle.round_trip.specs.RoundTrip.{trip-reads-back}
use Rattle.round_trip.specs.Unchanged.{trip-unchanged}
use Rattle.round_trip.proofs.round_trip.Goals as goal

pub returns : goal.returns
returns c =
    let a = c.args in
    let x = below_of 256 a.message.now (λ i h. omega (arith, c.type_inv.message i)) in
    let p = a.position % 8 in
    let back = trip-reads-back a.message.now a.percent p a.changes.now a.read.now x in
    let whole = trip-unchanged a.message.now a.percent p x (omega arith) a.changes.now a.read.now in
    let e = c.trip_in.ensures in record {
      value = e.value;
      read_after = e.read_after;
      reads_back = λ s room. (e.value ∙ (back s room).0, e.read_after ∙ (back s room).1);
      reads_unchanged = λ made none room. (e.value ∙ (whole made none room).0, e.read_after ∙ (whole made none room).1);
    }
