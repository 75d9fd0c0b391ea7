-- A message that is too long is answered at once.
-- Assumes nothing.
use Rattle.std.proofs.Common.{le-leb}
use borrow.Author.Tests.{lt-leb}
use Rattle.stream_writer.specs.Encoding.{words_needed}
use Rattle.stream_writer.proofs.encoding.count_words.Goals as goal

pub returns-then-message-gt4992 : goal.returns-then-message-gt4992
unfolding words_needed
returns-then-message-gt4992 c = simp (lt-leb _ _ c.if-message-gt4992.true)

pub returns : goal.returns
unfolding words_needed
returns c = simp (le-leb _ _ c.if-message-gt4992.false) c.write_words.ensures.value
