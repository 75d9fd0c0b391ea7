-- The first i bytes are stored.
-- Assumes nothing.
use Rattle.std.proofs.Common.{◌≡◌, refl, ap, ◌∙◌, arith}
use lib.Seq.{sets}
use Rattle.stream.specs.Items.{bytes_of}
use Rattle.item_reader.specs.Places.{rest}
use Rattle.item_reader.proofs.WordParts.{rest-is-bits, taken-below}
use Rattle.stream_reader.proofs.Storing.{stored-length, stored-left, stored_more}
use Rattle.stream_reader.proofs.message.write_raw.Goals as goal

pub loop-i-init : goal.loop-i-init
unfolding bytes_of
loop-i-init c = (record { buffer = refl; ahead = refl }, omega arith)

pub take_bits-byte-requires : goal.take_bits-byte-requires
take_bits-byte-requires c =
    record {
      h_bound_1 = c.requires.h_bound_1;
      h_bound_2 = omega arith;
      n_in_bounds = stored-left c.loop-i.invariant.0 (omega arith);
    }

pub overflow_cast-message : goal.overflow_cast-message
overflow_cast-message c =
    let a = c.args in
    let p = c.loop-i.next in
    omega (arith, taken-below (rest-is-bits a.h a.words.now p.word p.bit) c.take_bits-byte.ensures)

pub bounds-message-from : goal.bounds-message-from
bounds-message-from c = omega (arith, stored-length c.loop-i.invariant.0)

pub loop-i-preserved : goal.loop-i-preserved
loop-i-preserved c = (stored_more c.loop-i.invariant.0 _ _ c.take_bits-byte.ensures, omega arith)

pub returns : goal.returns
returns c =
    let a = c.args in
    let z = c.loop-i in
    let done : z.i ≡ a.n = omega arith in
    z.invariant.0.buffer ∙ ap (λ i. sets a.message.now a.from (bytes_of i (rest a.h a.words.now a.place.word a.place.bit))) done
