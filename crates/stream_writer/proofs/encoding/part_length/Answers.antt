-- The bytes counted are a run's, at most 31.
-- Assumes nothing.
use Rattle.std.proofs.Common.{rules, tests, arith, sym, ap, ◌∙◌, ◌≡◌, ◌-◌, not, length, take, drop, min, length-take, length-drop, take_all}
use Rattle.std.specs.Slice.Iter.{iter_rest}
use Rattle.std.specs.Iterator.Adapters.{take_source, take_while_source, take_while_callee, take_while_done}
use Rattle.std.proofs.lemmas.Iterator.{YieldsList-from_slice, YieldsList-from_take}
use Rattle.std.proofs.lemmas.Iterator.Consumers.{count_from_yields_List}
use Rattle.std.proofs.lemmas.Iterator.Search.{YieldsList-from_take_while}
use Rattle.std.proofs.lemmas.List.Folds.{length-prefix_len}
use Rattle.stream.specs.Codes.{coded}
use Rattle.stream.specs.Stream.{next_part}
use Rattle.stream_writer.proofs.Turns.{run-prefix}
use Rattle.stream_writer.proofs.encoding.part_length.Goals as goal

pub returns : goal.returns
unfolding next_part
returns c =
    let a = c.args in
    let after = drop a.from a.message.now in
    let whole : take (length a.message.now - a.from) after ≡ after = take_all _ after (omega (arith, length-drop a.from a.message.now)) in
    let source = c.take.ensures.source in
    let rest = ap (λ t. iter_rest (take_while_source t)) source ∙ ap iter_rest c.take_while.ensures.source ∙ c.iter.ensures.rest ∙ whole in
    let closure = ap take_while_callee source ∙ c.take_while.ensures.closure in
    let done = ap take_while_done source ∙ c.take_while.ensures.done in
    count_from_yields_List c.take.result _ c.count.ensures.ran
    (YieldsList-from_take 31
    (YieldsList-from_take_while _ (λ b. not (coded b)) (YieldsList-from_slice {s = take_while_source (take_source c.take.result)} after rest) closure
    done (λ x b q k. search (rules, tests)))
    c.take.ensures.count)
    ∙ length-take 31 _
    ∙ ap (min 31) (length-prefix_len (λ b. not (coded b)) after ∙ sym (run-prefix after))
