-- The bytes before the loop's index are written.
-- Assumes nothing.
use Rattle.std.proofs.Common.{rules, ◌≡◌, List, ℕ, ◌+◌, ◌-◌, ◌≤◌, arith, refl, ap, ◌∙◌, length, take, drop, length-take, ◌++◌, take_all}
use Rattle.stream.specs.Bits.{bits}
use Rattle.stream.specs.Stream.{bytes_bits}
use Rattle.stream_writer.specs.Writing.{coded_none, coded-then}
use Rattle.stream_writer.proofs.Turns.{bytes-more, bytes_count, coded-as}
use Rattle.stream_writer.proofs.encoding.put_bytes.Goals as goal
use Rattle.stream_writer.proofs.encoding.put_bytes.Goals.{At-loop-byte}

-- the part's bytes, as the slice has them
abbrev part : At-loop-byte → List ℕ
part c = take (c.args.from + c.args.count - c.args.from) (drop c.args.from c.args.message.now)

few : (c : At-loop-byte) → length (part c) ≤ 31
few c = omega (arith, c.requires.fact_2, length-take (c.args.from + c.args.count - c.args.from) (drop c.args.from c.args.message.now))

pub loop-byte-init : goal.loop-byte-init
unfolding bytes_bits
loop-byte-init c = (refl, coded_none c.requires.fact_1.3)

pub put_code-last-requires-clause-fact_1 : goal.put_code-last-requires-clause-fact_1
put_code-last-requires-clause-fact_1 c =
    let l = (goal.at.put_code-last-requires-clause-fact_1 c).At-loop-byte in
    let i = c.loop-byte.invariant in
    let most = bytes_count (part l) c.loop-byte.byte-index c.requires.fact_1.0 (omega arith) (omega (arith, few l)) i.1 in
    (c.requires.fact_1.0, c.requires.fact_1.1, omega arith, i.1.state)

pub loop-byte-preserved : goal.loop-byte-preserved
loop-byte-preserved c =
    let l = (goal.at.loop-byte-preserved c).At-loop-byte in
    let i = c.loop-byte.invariant in
    let more = ap (λ b. bytes_bits (take c.loop-byte.byte-index (part l)) ++ bits 8 b) c.from.ensures ∙ bytes-more (part l) c.loop-byte.byte-index (omega arith) in
    (search rules, coded-as more (coded-then i.1 c.put_code-last.ensures))

pub returns : goal.returns
returns c =
    let a = c.args in
    let l = (goal.at.returns c).At-loop-byte in
    let whole : take c.loop-byte.byte-index (part l) ≡ part l = take_all _ (part l) (omega arith) in
    let same = ap (λ n. take n (drop a.from a.message.now)) (let e : a.from + a.count - a.from ≡ a.count = omega arith in e) in
    coded-as (ap bytes_bits (whole ∙ same)) c.loop-byte.invariant.1
