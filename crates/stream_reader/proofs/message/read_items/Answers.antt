-- The bits before `at` are read to as many bytes.
-- Assumes nothing.
use Rattle.std.proofs.Common.{◌≡◌, refl, ap, ◌∙◌, Err, [], ℕ, ◌+◌, ◌-◌, ◌≤◌, arith, length}
use Rattle.stream.specs.Codes.{set_number}
use Rattle.stream.specs.Items.{yields}
use Rattle.stream.specs.Stuffing.{unstuff, unstuff_from}
use Rattle.stream.specs.StuffingLaws.{unstuff-is-bits}
use Rattle.stream_reader.specs.Scan.{Counted, scan-start}
use Rattle.stream_reader.proofs.Passes.{counted-item, counted-fault, counted_stop}
use Rattle.stream_reader.proofs.message.read_items.Goals as goal
use Rattle.stream_reader.proofs.message.read_items.Goals.{In-Ok-Some}

pub loop-item-init : goal.loop-item-init
loop-item-init c =
    let a = c.args in
    let e = c.new-reader.ensures in
    let l = unstuff_from (a.word_size - 1) a.words.now in
    let start = scan-start a.word_size (omega arith) c.requires.fact_2 l (unstuff-is-bits (a.word_size - 1) a.words.now) in
    (rw (e.2, e.3) record { done = []; size = refl; read = start }, ap (λ w. w.now) e.0, e.1)

-- an item more
turn : (c : In-Ok-Some) (m : ℕ) → m ≡ yields c.in-Ok-Some.item
    → (let l = unstuff_from (c.args.word_size - 1) c.args.words.now in
    let z = c.loop-item in (c.next.new.self.at ≤ length l) × (z.reader.at + 1 ≤ c.next.new.self.at) × (z.length + m ≤ length l)
    × Counted c.args.word_size l c.next.new.self.at (set_number c.next.new.self.set) (z.length + m))
turn c m e =
    let a = c.args in
    let z = c.loop-item in
    let step = rw (z.invariant.1, z.invariant.2, c.in-Ok-Some.field-0-is) at c.in-Ok-Some.ensures.step in
    let p = step.1 in
    let more = counted-item a.word_size (omega arith) c.requires.fact_2 (unstuff_from (a.word_size - 1) a.words.now) (unstuff-is-bits (a.word_size - 1) a.words.now)
    z.reader.at (set_number z.reader.set) z.length z.invariant.0 c.in-Ok-Some.item p.used _ _ m step.0 p.says p.passed p.set e in
    (more.1, omega (arith, more.0, p.passed), more.2, more.3)

pub loop-item-smaller : goal.loop-item-smaller
loop-item-smaller c =
    let t = turn (goal.at.loop-item-smaller c).In-Ok-Some (yields c.in-Ok-Some.item) refl in
    let words = c.in-Ok-Some.ensures.words in
    omega (arith, t.1, words.2, c.next.new.self.within)

pub loop-item-preserved : goal.loop-item-preserved
loop-item-preserved c =
    let t = turn (goal.at.loop-item-preserved c).In-Ok-Some c.bytes_of-length.result c.bytes_of-length.ensures in
    let words = c.in-Ok-Some.ensures.words in
    (t.3, ap (λ w. w.now) words.0 ∙ c.loop-item.invariant.1, words.1 ∙ c.loop-item.invariant.2)

pub returns-in-Ok-None : goal.returns-in-Ok-None
unfolding unstuff
returns-in-Ok-None c =
    let a = c.args in
    let z = c.loop-item in
    let step = rw (z.invariant.1, z.invariant.2, c.in-Ok-None.field-0-is) at c.in-Ok-None.ensures.step in
    counted_stop a.word_size (omega arith) c.requires.fact_2 (unstuff_from (a.word_size - 1) a.words.now) (unstuff-is-bits (a.word_size - 1) a.words.now)
    z.reader.at (set_number z.reader.set) z.length z.invariant.0 step.0

pub returns-in-Err : goal.returns-in-Err
unfolding unstuff
returns-in-Err c =
    let a = c.args in
    let z = c.loop-item in
    let step = rw (z.invariant.1, z.invariant.2) at c.in-Err.ensures.step in
    ap (λ bit. Err (record { fault = c.in-Err.fault; bit = bit })) step.2
    ∙ counted-fault a.word_size (omega arith) c.requires.fact_2 (unstuff_from (a.word_size - 1) a.words.now) (unstuff-is-bits (a.word_size - 1) a.words.now)
    z.reader.at (set_number z.reader.set) z.length z.invariant.0 c.in-Err.fault step.0 step.1
