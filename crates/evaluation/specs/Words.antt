-- Lists of words as buffers hold them; words past a list's end are 0.
-- Assumes nothing.
use Rattle.std.specs.Prelude.{◌≡◌, List, ℕ, ◌≤◌, get_or}
use Rattle.finite_field.specs.Field.{WordSize, Word}

-- every entry is a word of the size
abbrev pub Words : WordSize → List ℕ → Type 0
Words s l = (i : ℕ) → Word s (get_or l i 0)

-- words from place n on are 0
abbrev pub ZeroFrom : ℕ → List ℕ → Type 0
ZeroFrom n l = (j : ℕ) → n ≤ j → get_or l j 0 ≡ 0

-- from place n on two lists are alike
abbrev pub SameFrom : ℕ → List ℕ → List ℕ → Type 0
SameFrom n l m = (j : ℕ) → n ≤ j → get_or m j 0 ≡ get_or l j 0
