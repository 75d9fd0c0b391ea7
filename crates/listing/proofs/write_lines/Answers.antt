-- Line after line: what is cut off next is the next record, and nothing is left once every record has its line.
-- Assumes nothing.
use Rattle.std.proofs.Common.{◌≡◌, refl, sym, ap, ap₂, ◌∙◌, arith, ℕ, ◌+◌, ◌*◌, ◌<◌, min, length, drop, length-take, length-drop}
use Rattle.std.specs.Iterator.Adapters.{enumerate_count, enumerate_source}
use Rattle.std.specs.Slice.Iter.{chunks_rest, chunks_size}
use Rattle.listing.specs.Line.{line_of, first_lines, lines_from, records}
use Rattle.listing.specs.LineLaws.{record-next, no_lines, lines_more}
use Rattle.list_laws.specs.Putting.{put-length, put_same, put_then, put-part, put-none, put_front}
use Rattle.listing.proofs.write_lines.Goals as goal

pub loop-k-init : goal.loop-k-init
loop-k-init c =
    let a = c.args in
    let it = c.into_iter-k-iterator.result in
    let e = c.into_iter-k-iterator.ensures.into_iter_gives in
    let source = ap enumerate_source e ∙ c.enumerate-k-items.ensures.source in
    let none : enumerate_count it ≡ 0 = ap enumerate_count e ∙ c.enumerate-k-items.ensures.count in record {
      size = ap chunks_size source ∙ c.chunks.ensures.size;
      rest = ap chunks_rest source ∙ c.chunks.ensures.rest ∙ ap (λ n. drop (32 * n) a.bytes.now) (sym none);
      in_range = omega arith;
      room = omega arith;
      kept = refl;
      lines = put_same (sym (ap (first_lines a.first a.bytes.now) none ∙ no_lines a.first a.bytes.now)) (put-none a.lines.now 0);
    }

pub slice_bounds-write_line-count : goal.slice_bounds-write_line-count
slice_bounds-write_line-count c = omega (arith, c.loop-k.invariant.room, c.loop-k.invariant.in_range, c.loop-k.invariant.kept)

-- something is left, so there is a record more
pub write_line-at-requires : goal.write_line-at-requires
write_line-at-requires c =
    let n = enumerate_count c.loop-k.k-iterator in
    let more : 32 * n < length c.args.bytes.now =
    omega (arith, c.in-Some.ensures.steps.0.1.2, ap length c.loop-k.invariant.rest, length-drop (32 * n) c.args.bytes.now) in
    simp (length-take, length-drop) (omega arith)

pub loop-k-preserved : goal.loop-k-preserved
loop-k-preserved c =
    let a = c.args in
    let l = c.loop-k in
    let w = c.write_line-at in
    let step = c.in-Some.ensures.steps in
    let n = enumerate_count l.k-iterator in
    let more : 32 * n < length a.bytes.now = omega (arith, step.0.1.2, ap length l.invariant.rest, length-drop (32 * n) a.bytes.now) in
    let next = record-next a.bytes.now n l.invariant.rest step.0.1.0 (step.0.1.1 ∙ ap (λ m. min m (length (chunks_rest (enumerate_source l.k-iterator)))) l.invariant.size) in
    let count = step.2 in
    let line =
    put_same (ap₂ (λ k r. line_of (a.first + k) r) step.1 next.0)
    (put-part l.lines _ w.new.line l.at w.result (omega (arith, w.ensures.upper_bound)) w.ensures.value w.ensures.line_after) in record {
      size = step.0.0 ∙ l.invariant.size;
      rest = next.1 ∙ ap (λ m. drop (32 * m) a.bytes.now) (sym count);
      in_range = omega (arith, more, count, l.invariant.in_range);
      room = omega (arith, w.ensures.upper_bound, count);
      kept = put-length line ∙ l.invariant.kept;
      lines =
          put_same (sym (ap (first_lines a.first a.bytes.now) count ∙ lines_more a.first a.bytes.now n)) (put_then l.invariant.lines line);
    }

pub returns : goal.returns
unfolding lines_from
returns c =
    let a = c.args in
    let l = c.loop-k in
    let left = ap length (sym l.invariant.rest) in
    let done = c.in-None.ensures.steps.0.1.0 in
    let all : enumerate_count l.k-iterator ≡ records (length a.bytes.now) = omega (arith, done, left, length-drop {A = ℕ}) in
    let front = put_front (put_same (ap (first_lines a.first a.bytes.now) all) l.invariant.lines) (omega (arith, all, l.invariant.room)) in record {
      value = front.0;
      lines_after = front.1;
    }
