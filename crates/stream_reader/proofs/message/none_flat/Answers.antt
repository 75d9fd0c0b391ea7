-- Each word passes the test.
-- Assumes nothing.
use Rattle.std.proofs.Common.{rules, tests, ◌∙◌, not}
use Rattle.std.proofs.lemmas.Iterator.{YieldsList-from_slice}
use Rattle.std.proofs.lemmas.Iterator.Search.{all_from_yields_List}
use Rattle.stream.specs.Stuffing.{flat}
use Rattle.stream_reader.proofs.Passes.{all-words}
use Rattle.stream_reader.proofs.message.none_flat.Goals as goal

pub returns : goal.returns
returns c =
    let a = c.args in
    all_from_yields_List (λ w. not (flat a.word_size w)) _ _ c.all.result c.all.ensures.ran (YieldsList-from_slice a.words.now c.iter.ensures.rest)
    (λ x b q k. search (rules, tests))
    ∙ all-words (λ w. not (flat a.word_size w)) a.words.now
