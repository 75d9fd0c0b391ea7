-- The latch, B/S, the count and the bytes, one after the other.
-- Assumes nothing.
use Rattle.std.proofs.Common.{◌≡◌, sym, ap, ◌∙◌, ◌++◌, ◌≤◌, arith, length, take, drop, length-drop, length-take-le}
use Rattle.stream.specs.Bits.{bits}
use Rattle.stream.specs.Stream.{bytes_bits}
use Rattle.stream.specs.Codes.{set_number}
use Rattle.stream_writer.specs.Writing.{coded-then}
use Rattle.stream_writer.proofs.Turns.{part_by, bits-count, coded-as}
use Rattle.stream_writer.proofs.encoding.put_part.Goals as goal
use Rattle.stream_writer.proofs.encoding.put_part.Goals.{After-latch-path, After-put_bytes, After-put_code-counted, After-put_code-latched, After-put_code-shifted, Start}

abbrev start : After-latch-path → Start
start c = (goal.at.After-latch-path c).Start

abbrev latched : After-put_code-latched → After-latch-path
latched c = (goal.at.After-put_code-latched c).After-latch-path

abbrev first : After-put_code-shifted → After-put_code-latched
first c = (goal.at.After-put_code-shifted c).After-put_code-latched

abbrev second : After-put_code-counted → After-put_code-shifted
second c = (goal.at.After-put_code-counted c).After-put_code-shifted

few : (c : After-put_code-latched) → c.put_code-latched.result.count ≤ 2000016
few c =
    let l = latched c in
    let s = start l in
    omega (arith, bits-count l.latch-path.result.bits l.latch-path.result.code s.requires.fact_1.0 c.put_code-latched.ensures, l.latch-path.ensures.bits_bound)

few2 : (c : After-put_code-shifted) → c.put_code-shifted.result.count ≤ 2000022
few2 c = omega (arith, few (first c), bits-count 5 31 (start (latched (first c))).requires.fact_1.0 c.put_code-shifted.ensures)

pub put_code-shifted-requires : goal.put_code-shifted-requires
put_code-shifted-requires c =
    let p = (goal.at.put_code-shifted-requires c).After-put_code-latched in
    let s = start (latched p) in record {
      fact_1 = (s.requires.fact_1.0, s.requires.fact_1.1, omega (arith, few p), p.put_code-latched.ensures.state);
      fact_2 = omega arith;
    }

pub put_code-counted-requires : goal.put_code-counted-requires
put_code-counted-requires c =
    let p = (goal.at.put_code-counted-requires c).After-put_code-shifted in
    let s = start (latched (first p)) in record {
      fact_1 = (s.requires.fact_1.0, s.requires.fact_1.1, omega (arith, few2 p), p.put_code-shifted.ensures.state);
      fact_2 = omega arith;
    }

pub put_bytes-requires : goal.put_bytes-requires
put_bytes-requires c =
    let p = (goal.at.put_bytes-requires c).After-put_code-counted in
    let s = start (latched (first (second p))) in
    let most = bits-count 5 s.args.count s.requires.fact_1.0 p.put_code-counted.ensures in record {
      fact_1 = (s.requires.fact_1.0, s.requires.fact_1.1, omega (arith, few2 (second p)), p.put_code-counted.ensures.state);
      fact_2 = (s.requires.fact_2.0, s.requires.fact_2.1);
    }

pub returns : goal.returns
returns c =
    let r = (goal.at.returns c).After-put_bytes in
    let p = (goal.at.After-put_bytes r).After-put_code-counted in
    let l = latched (first (second p)) in
    let s = start l in
    let a = s.args in
    let bytes = take a.count (drop a.from a.message.now) in
    let size : length bytes ≡ a.count = length-take-le a.count _ (omega (arith, length-drop a.from a.message.now)) in
    let front = bits l.latch-path.result.bits l.latch-path.result.code in
    coded-as
    (ap (λ n. front ++ (bits 5 31 ++ (bits 5 n ++ bytes_bits bytes))) (sym size)
    ∙ part_by (set_number a.set) _ _ _ bytes l.run_set_of.ensures l.latch-path.ensures.to_value (omega arith))
    (coded-then (first (second p)).put_code-latched.ensures
    (coded-then (second p).put_code-shifted.ensures (coded-then p.put_code-counted.ensures r.put_bytes.ensures)))
