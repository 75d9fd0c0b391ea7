-- All but `left` of the n bits are taken; a turn takes what a word has left of them, or passes to the next word.
-- Assumes nothing.
use Rattle.std.proofs.Common.{◌≡◌, subst, suc, ◌+◌, ◌-◌, ◌/◌, ◌^◌, mod-lt, arith, get_or, pow_pos, pow_mono}
use Rattle.item_reader.specs.Places.{rest, Taken, taken_none, word-length-most}
use Rattle.item_reader.proofs.WordParts.{rest-is-bits, rest-past, more_left, value-fits, take_more}
use Rattle.item_reader.proofs.reading.take_bits.Goals as goal

pub loop-left-init : goal.loop-left-init
loop-left-init c =
    let a = c.args in
    let l = rest a.h a.words.now a.place.word a.place.bit in
    let none : 0 ≡ a.n - a.n = omega arith in
    (subst (λ n. Taken l n 0 l) none (taken_none l), omega arith)

pub offset_bounds-words-word : goal.offset_bounds-words-word
offset_bounds-words-word c =
    let a = c.args in
    let z = c.loop-left in
    let l = rest a.h a.words.now a.place.word a.place.bit in
    omega (arith, more_left a.h a.words.now z.word z.bit a.n z.value z.left l z.invariant.0 z.invariant.1 c.requires.n_in_bounds (omega arith))

pub bounds-words-word : goal.bounds-words-word
bounds-words-word c =
    let a = c.args in
    let z = c.loop-left in
    let l = rest a.h a.words.now a.place.word a.place.bit in
    omega (arith, more_left a.h a.words.now z.word z.bit a.n z.value z.left l z.invariant.0 z.invariant.1 c.requires.n_in_bounds (omega arith))

pub overflow_add-word : goal.overflow_add-word
overflow_add-word c =
    let a = c.args in
    let z = c.loop-left in
    let l = rest a.h a.words.now a.place.word a.place.bit in
    omega (arith, more_left a.h a.words.now z.word z.bit a.n z.value z.left l z.invariant.0 z.invariant.1 c.requires.n_in_bounds (omega arith))

pub loop-left-smaller-then-size-bit : goal.loop-left-smaller-then-size-bit
loop-left-smaller-then-size-bit c =
    let a = c.args in
    let z = c.loop-left in
    let l = rest a.h a.words.now a.place.word a.place.bit in
    omega (arith, more_left a.h a.words.now z.word z.bit a.n z.value z.left l z.invariant.0 z.invariant.1 c.requires.n_in_bounds (omega arith))

pub loop-left-preserved-then-size-bit : goal.loop-left-preserved-then-size-bit
loop-left-preserved-then-size-bit c =
    let a = c.args in
    let z = c.loop-left in
    let l = rest a.h a.words.now a.place.word a.place.bit in
    let size = c.word_length-size in
    let near = more_left a.h a.words.now z.word z.bit a.n z.value z.left l z.invariant.0 z.invariant.1 c.requires.n_in_bounds
    (omega arith) in
    let past = rest-past a.h a.words.now z.word z.bit size.result size.ensures near (omega arith) in
    (subst (λ l'. Taken l (a.n - z.left) z.value l') past z.invariant.0, z.invariant.1)

pub overflow_shl-value : goal.overflow_shl-value
overflow_shl-value c =
    let a = c.args in
    let z = c.loop-left in
    let l = rest a.h a.words.now a.place.word a.place.bit in
    omega arith

pub word_part-requires : goal.word_part-requires
word_part-requires c =
    let a = c.args in
    let z = c.loop-left in
    let l = rest a.h a.words.now a.place.word a.place.bit in record {
      fact_1 = c.requires.h_bound_1;
      fact_2 = omega (arith, c.word_length-size.ensures, word-length-most a.h (get_or a.words.now z.word 0));
    }

pub overflow_add-value : goal.overflow_add-value
overflow_add-value c =
    let a = c.args in
    let z = c.loop-left in
    let l = rest a.h a.words.now a.place.word a.place.bit in
    let k = c.min-k.result in
    omega (arith, value-fits a.h a.words.now z.word z.bit a.n z.value z.left l z.invariant.0 z.invariant.1 k (rest-is-bits a.h a.words.now a.place.word a.place.bit) (omega arith) (omega arith), c.word_part.ensures, mod-lt (get_or a.words.now z.word 0 / 2 ^ (suc a.h - (z.bit + k))) (pow_pos k), pow_mono {i = k} {j = 16} (omega arith))

pub overflow_add-bit : goal.overflow_add-bit
overflow_add-bit c =
    let a = c.args in
    let z = c.loop-left in
    let l = rest a.h a.words.now a.place.word a.place.bit in
    omega (arith, c.word_length-size.ensures, word-length-most a.h (get_or a.words.now z.word 0))

pub loop-left-preserved : goal.loop-left-preserved
loop-left-preserved c =
    let a = c.args in
    let z = c.loop-left in
    let l = rest a.h a.words.now a.place.word a.place.bit in
    let k = c.min-k.result in
    let near = more_left a.h a.words.now z.word z.bit a.n z.value z.left l z.invariant.0 z.invariant.1 c.requires.n_in_bounds
    (omega arith) in
    let more = take_more a.h a.words.now z.word z.bit a.n z.value z.left l z.invariant.0 z.invariant.1 k in (
      more _ (omega arith) near (omega (arith, c.word_length-size.ensures)) (omega (arith, value-fits a.h a.words.now z.word z.bit a.n z.value z.left l z.invariant.0 z.invariant.1 k (rest-is-bits a.h a.words.now a.place.word a.place.bit) (omega arith) (omega arith), c.word_part.ensures)),
      omega arith,
    )

pub returns : goal.returns
returns c =
    let a = c.args in
    let z = c.loop-left in
    let l = rest a.h a.words.now a.place.word a.place.bit in
    let all : a.n - z.left ≡ a.n = omega arith in
    subst (λ n. Taken l n z.value (rest a.h a.words.now z.word z.bit)) all z.invariant.0
