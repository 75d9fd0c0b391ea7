-- The words' lengths are added up.
-- Assumes nothing.
use Rattle.std.proofs.Common.{rules, tests, ◌∙◌, arith}
use Rattle.std.proofs.lemmas.Iterator.{YieldsList-from_slice, YieldsList-from_map}
use Rattle.std.proofs.lemmas.Iterator.Consumers.{YieldsList-at, sum_by_from_yields_List, fits_by_from_yields_list}
use Rattle.item_reader.specs.Places.{word_length}
use Rattle.item_reader.proofs.WordParts.{sum-is_length, sum-most}
use Rattle.item_reader.proofs.reading.stream_length.Goals as goal

pub sum-requires-clause-fits : goal.sum-requires-clause-fits
sum-requires-clause-fits c =
    let a = c.args in
    fits_by_from_yields_list (word_length a.h) a.words.now c.map.result _
    (YieldsList-from_map _ (word_length a.h) (YieldsList-at c.map.ensures.source (YieldsList-from_slice a.words.now c.iter.ensures.rest)) c.map.ensures.closure
    (λ x r q k. search (rules, tests)))
    (omega (arith, sum-most a.h c.requires.fact_1 a.words.now))

pub returns : goal.returns
returns c =
    let a = c.args in
    let total =
    sum_by_from_yields_List (word_length a.h) a.words.now c.map.result _ c.sum.ensures.ran
    (YieldsList-from_map _ (word_length a.h) (YieldsList-at c.map.ensures.source (YieldsList-from_slice a.words.now c.iter.ensures.rest)) c.map.ensures.closure
    (λ x r q k. search (rules, tests))) in
    record { value = total ∙ sum-is_length a.h a.words.now; upper_bound = omega (arith, total, sum-most a.h c.requires.fact_1 a.words.now) }
