-- Line after line: each stands after the ones before it, and the rest of the bytes is still to be cut.
-- Assumes nothing.
use Rattle.std.proofs.Common.{◌≡◌, ◌*◌, ◌≤◌, length, drop}
use Rattle.std.specs.Iterator.Adapters.{enumerate_source, enumerate_count}
use Rattle.std.specs.Slice.Iter.{chunks_rest, chunks_size}
use Rattle.listing.specs.Line.{records, first_lines}
use Rattle.list_laws.specs.Putting.{Put}
use Rattle.listing.proofs.write_lines.Given as goal

abbrev pub invariant-loop-k : goal.invariant-loop-k
invariant-loop-k l =
    let cut = enumerate_count l.k-iterator in
    record {
      size : chunks_size (enumerate_source l.k-iterator) ≡ 32;
      rest : chunks_rest (enumerate_source l.k-iterator) ≡ drop (32 * cut) l.bytes;
      in_range : cut ≤ records (length l.bytes);
      room : l.at ≤ 64 * cut;
      kept : length l.lines ≡ length l.initial.lines;
      lines : Put (first_lines l.first l.bytes cut) l.initial.lines 0 l.lines l.at;
    }
