-- Blocks of words and when one is valid (document 01, "Words and checks"): its polynomial, first word the highest coefficient, is zero
-- at 2^1 to 2^K.
-- Assumes nothing.
use Rattle.std.specs.Prelude.{◌≡◌, List, [], ◌∷◌, ℕ, ◌+◌, ◌<◌}
pub use Rattle.correction.specs.Received.{Words}
use Rattle.finite_field.specs.Xor.{◌⊕◌}
use Rattle.finite_field.specs.Field.{WordSize, product, power}

-- Horner's rule: the value so far, v, times a and a word more
unfoldable pub value_from : WordSize → ℕ → ℕ → List ℕ → ℕ
value_from s a v [] = v
value_from s a v (w ∷ block) = value_from s a (product s v a ⊕ w) block

-- the block's polynomial at a
abbrev pub value : WordSize → List ℕ → ℕ → ℕ
value s block a = value_from s a 0 block

pub record Valid (s : WordSize) (check : ℕ) (block : List ℕ) : Type 0 where
  pub words : Words s block
  pub zeros : (j : ℕ) → j < check → value s block (power s (j + 1)) ≡ 0
