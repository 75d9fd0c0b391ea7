-- Each word but the last is the one after it.
-- Assumes nothing.
use Rattle.std.proofs.Common.{rules}
use Rattle.check_words.proofs.Remaindering.{moved-up}
use Rattle.check_words.proofs.move_up.Goals as goal

pub returns : goal.returns
returns c =
    let tail = c.args.tail.now in
    moved-up tail c.copy_within.new.self c.copy_within.ensures.len c.requires (λ i h. search rules)
