-- A word that is passed whole takes its stream bits from the bits to go.
-- Assumes nothing.
use Rattle.std.proofs.Common.{rules, sym, ◌∙◌, arith, length, get_or}
use Rattle.item_reader.specs.Places.{rest_end, word-length-most}
use Rattle.item_reader.proofs.WordParts.{rest-on, rest-past}
use Rattle.item_reader.proofs.reading.forward.Goals as goal

pub returns-then-bit-size : goal.returns-then-bit-size
returns-then-bit-size c =
    let a = c.args in
    let z = c.loop-word in record {
      bit_value = z.invariant.0 ∙ rest-on a.h a.words.now a.place.word a.place.bit a.n;
      bit_bound = omega (arith, c.word_length-size.ensures, word-length-most a.h (get_or a.words.now z.word 0));
    }

pub loop-word-preserved : goal.loop-word-preserved
loop-word-preserved c =
    let a = c.args in
    let z = c.loop-word in
    let size = c.word_length-size in
    let past = rest-past a.h a.words.now z.word z.bit size.result size.ensures (omega arith) (omega arith) in
    (sym past ∙ z.invariant.0, omega arith)

pub returns : goal.returns
returns c =
    let a = c.args in
    let z = c.loop-word in
    let gone = rest_end a.h a.words.now in record {
      bit_value = gone (length a.words.now) 0 (omega arith) ∙ sym (gone z.word z.bit (omega arith)) ∙ z.invariant.0 ∙ rest-on a.h a.words.now a.place.word a.place.bit a.n;
      bit_bound = search rules;
    }
