-- The bytes read so far stand at the front of the buffer.
-- Assumes nothing.
use Rattle.std.proofs.Common.{◌+◌, ◌≤◌, ℕ, List, refl, ap, subst, subst₂, ◌∙◌, [], ◌-◌, arith, length, drop, length-drop}
use Rattle.stream.specs.Codes.{set_number}
use Rattle.stream.specs.Items.{adds, yields, extra, read_items}
use Rattle.stream.specs.ReadingLaws.{Live}
use Rattle.stream.specs.Stuffing.{unstuff_from}
use Rattle.stream.specs.StuffingLaws.{unstuff-is-bits}
use Rattle.item_reader.specs.Places.{rest}
use Rattle.stream_reader.specs.Scan.{scan-start}
use Rattle.stream_reader.specs.Steps.{Passed, Stepped}
use Rattle.stream_reader.specs.Written.{Room}
use Rattle.stream_reader.proofs.Filling.{read-room, written_all, item-bounds, filled-item, filled-found, filled-stop}
use Rattle.stream_reader.proofs.message.write_message.Goals as goal
use Rattle.stream_reader.proofs.message.write_message.Goals.{After-next, In-Some}

pub loop-item-init : goal.loop-item-init
loop-item-init c =
    let a = c.args in
    let e = c.new-reader.ensures in
    let l = unstuff_from (a.word_size - 1) a.words.now in
    let start = scan-start a.word_size (omega arith) c.requires.le_word_size_2 l (unstuff-is-bits (a.word_size - 1) a.words.now) in
    (rw (e.2, e.3) record { done = []; size = refl; read = start; buffer = refl }, ap (λ w. w.now) e.0, e.1)

-- what the step found, of the words that the call was given
said : (c : After-next) → Stepped c.args.word_size c.args.words.now c.loop-item.reader.at (set_number c.loop-item.reader.set) c.next.result
    c.next.new.self.at (set_number c.next.new.self.set)
said c =
    let z = c.loop-item in
    subst₂ (λ B words. Stepped B words z.reader.at (set_number z.reader.set) c.next.result c.next.new.self.at (set_number c.next.new.self.set))
    z.invariant.2 z.invariant.1 c.next.ensures.step

pub unwrap-requires : goal.unwrap-requires
unwrap-requires c =
    let a = c.args in
    let z = c.loop-item in
    filled-found a.word_size (omega arith) c.requires.le_word_size_2 a.words.now z.reader.at (set_number z.reader.set) z.length a.message.now
    z.message z.invariant.0 (read-room a.word_size a.words.now a.message.now c.requires.room) _ _ c.next.result (said c)

-- an item is passed
module _ (c : In-Some) where
  abbrev B : ℕ
  B = c.args.word_size

  abbrev words : List ℕ
  words = c.args.words.now

  abbrev stream : List ℕ
  stream = unstuff_from (B - 1) words

  room : Room (read_items B stream) c.args.message.now
  room = read-room B words c.args.message.now c.requires.room

  step : Live B (drop c.loop-item.reader.at stream)
      × Passed (B - 1) words (drop c.loop-item.reader.at stream) c.loop-item.reader.at (set_number c.loop-item.reader.set) c.in-Some.item
      c.in-Some.bytes c.next.new.self.at (set_number c.next.new.self.set)
  step =
      let z = c.loop-item in
      subst (λ f. Stepped B words z.reader.at (set_number z.reader.set) f c.next.new.self.at (set_number c.next.new.self.set)) c.in-Some.ensures
      (said (goal.at.In-Some c).After-next)

  bounds : (1 ≤ step.1.used) × (c.loop-item.reader.at + (step.1.used + extra c.in-Some.item) ≤ length stream)
      × (c.loop-item.length + yields c.in-Some.item ≤ length c.args.message.now)
      × (c.loop-item.length + yields c.in-Some.item ≤ length stream)
  bounds =
      let z = c.loop-item in
      item-bounds B (omega arith) c.requires.le_word_size_2 stream (unstuff-is-bits (B - 1) words) z.reader.at (set_number z.reader.set) z.length
      c.args.message.now z.message z.invariant.0 room c.in-Some.item step.1.used step.0 step.1.says

pub write_item-requires : goal.write_item-requires
write_item-requires c =
    let i = (goal.at.write_item-requires c).In-Some in
    let s = step i in
    let z = c.loop-item in
    record {
      h_bound_1 = omega (arith, c.requires.le_word_size_2);
      h_bound_2 = omega (
        arith,
        bounds i,
        ap length s.1.follows,
        length-drop s.1.used (drop z.reader.at (stream i)),
        length-drop z.reader.at (stream i),
      );
      item_in_bounds = omega (arith, bounds i, z.auto.message);
    }

pub loop-item-smaller : goal.loop-item-smaller
loop-item-smaller c =
    let i = (goal.at.loop-item-smaller c).In-Some in
    omega (arith, bounds i, (step i).1.passed, c.next.ensures.words.2, c.next.new.self.within)

pub loop-item-preserved : goal.loop-item-preserved
loop-item-preserved c =
    let i = (goal.at.loop-item-preserved c).In-Some in
    let s = step i in
    let z = c.loop-item in
    let r = rest (B i - 1) (words i) c.in-Some.bytes.word c.in-Some.bytes.bit in
    let same = c.next.ensures.words in
    let full =
    filled-item (B i) (omega arith) c.requires.le_word_size_2 (stream i) (unstuff-is-bits (B i - 1) (words i)) z.reader.at (set_number z.reader.set)
    z.length c.args.message.now z.message z.invariant.0 (room i) c.in-Some.item s.1.used s.0 s.1.says _ _ c.bytes_of-length.result r
    (adds c.in-Some.item r) s.1.follows refl s.1.passed s.1.set c.bytes_of-length.ensures
    in
    (rw c.write_item.ensures full, ap (λ w. w.now) same.0 ∙ z.invariant.1, same.1 ∙ z.invariant.2)

pub returns : goal.returns
returns c =
    let a = c.args in
    let z = c.loop-item in
    let B = a.word_size in
    let step = subst (λ f. Stepped B a.words.now z.reader.at (set_number z.reader.set) f c.next.new.self.at (set_number c.next.new.self.set)) c.in_default.ensures
    (said (goal.at.returns c).After-next) in
    written_all B a.words.now a.message.now z.message c.requires.room
    (filled-stop B (omega arith) c.requires.le_word_size_2 (unstuff_from (B - 1) a.words.now) (unstuff-is-bits (B - 1) a.words.now) z.reader.at
    (set_number z.reader.set) z.length a.message.now z.message z.invariant.0 (read-room B a.words.now a.message.now c.requires.room) step.0)
