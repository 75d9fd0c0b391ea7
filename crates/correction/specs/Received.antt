-- Lists of words, and marks beside them (document 01, "Words and checks"): a mark is 0 for a word that was read, 1 for one unread.
-- Assumes nothing.
use Rattle.std.specs.Prelude.{Bool, List, ℕ, eqb, length, get_or}
use Rattle.list_laws.specs.Range.{count}
pub use Rattle.evaluation.specs.Words.{Words}

-- word i is marked unread
abbrev pub marked : List ℕ → ℕ → Bool
marked marks i = eqb (get_or marks i 0) 1

-- e: the words marked unread
abbrev pub unread : List ℕ → ℕ
unread marks = count (length marks) (marked marks)
