-- An item takes no more bits than are left, and what follows it stands at the new place.
-- Assumes nothing.
use Rattle.std.proofs.Common.{◌≡◌, sym, ap, ◌∙◌, subst, List, ℕ, ◌+◌, ◌-◌, ◌≤◌, arith, length, drop, length-drop, drop-drop, add_assoc}
use Rattle.stream.specs.Codes.{set_number, set-number-below}
use Rattle.stream.specs.Items.{found_item, item_at, extra}
use Rattle.stream.specs.Stuffing.{unstuff_from}
use Rattle.item_reader.specs.Places.{rest}
use Rattle.item_reader.proofs.WordParts.{rest-is-bits}
use Rattle.stream_reader.specs.Scan.{Sound, item-sound}
use Rattle.stream_reader.proofs.reader.Reader.next.Goals as goal
use Rattle.stream_reader.proofs.reader.Reader.next.Goals.{In_ok-item}

module _ (c : In_ok-item) where
  abbrev h : ℕ
  h = c.args.self.now.word_size - 1

  abbrev r : List ℕ
  r = rest h c.args.self.now.words.now c.args.self.now.place.word c.args.self.now.place.bit

  here : item_at (set_number c.args.self.now.set) r ≡ found_item c.in_ok-item.field-0.item c.in_ok-item.field-0.used
  here = sym c.read_item.ensures ∙ c.in_ok-item.was

  bounds : (1 ≤ c.in_ok-item.field-0.used)
      × (c.in_ok-item.field-0.used + extra c.in_ok-item.field-0.item ≤ c.args.self.now.total - c.args.self.now.at)
  bounds =
      let s = c.args.self.now in
      let n = set_number s.set in
      let sound = subst (Sound (length r) n) here (item-sound n (set-number-below s.set) r (rest-is-bits h s.words.now s.place.word s.place.bit)) in
      (sound.0, omega (arith, sound.1, s.counted, ap length s.here, length-drop s.at (unstuff_from h s.words.now)))

pub extra_of-more-requires : goal.extra_of-more-requires
extra_of-more-requires c = omega (arith, bounds c, c.args.self.now.few)

pub forward-bytes-requires-clause-fact_3 : goal.forward-bytes-requires-clause-fact_3
forward-bytes-requires-clause-fact_3 c = omega (arith, bounds (goal.at.forward-bytes-requires-clause-fact_3 c).In_ok-item, c.args.self.now.few)

pub forward-self-requires-clause-fact_3 : goal.forward-self-requires-clause-fact_3
forward-self-requires-clause-fact_3 c =
    omega (arith, bounds (goal.at.forward-self-requires-clause-fact_3 c).In_ok-item, c.extra_of-more.ensures, c.args.self.now.few)

pub overflow_add-self : goal.overflow_add-self
overflow_add-self c = omega (arith, bounds (goal.at.overflow_add-self c).In_ok-item, c.extra_of-more.ensures, c.args.self.now.few)

pub overflow_add-self-2 : goal.overflow_add-self-2
overflow_add-self-2 c =
    omega (
      arith,
      bounds (goal.at.overflow_add-self-2 c).In_ok-item,
      c.extra_of-more.ensures,
      c.args.self.now.few,
      c.args.self.now.within,
    )

pub invariant_of-self : goal.invariant_of-self
invariant_of-self c =
    let s = c.args.self.now in
    let found = c.in_ok-item.field-0 in
    let x = c.extra_of-more.result in
    let stream = unstuff_from (s.word_size - 1) s.words.now in
    record {
      least = s.least;
      most = s.most;
      few = s.few;
      counted = s.counted;
      within = omega (arith, bounds (goal.at.invariant_of-self c).In_ok-item, c.extra_of-more.ensures, s.within);
      here = c.forward-self.ensures.bit_value
          ∙ ap (drop x) (c.forward-bytes.ensures.bit_value ∙ ap (drop found.used) s.here ∙ drop-drop found.used s.at stream)
          ∙ drop-drop x (s.at + found.used) stream
          ∙ ap (λ n. drop n stream) (add_assoc s.at found.used x);
      near = c.forward-self.ensures.bit_bound;
    }
