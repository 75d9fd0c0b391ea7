-- The last arm of a match on the number of a word size.
-- Assumes nothing.
use mathlib.Core.Path.{◌≡◌}
use mathlib.Core.Logic.{◌≢◌}
use Prim.Native.Nat.{ℕ}
use borrow.Author.Tests.{ne_eqb}
use Rattle.finite_field.specs.Field.{w12, size_of}

pub last-size : (n : ℕ) → n ≢ 4 → n ≢ 6 → n ≢ 8 → n ≢ 10 → size_of n ≡ w12
last-size n a b c d = simp (ne_eqb n 4 a, ne_eqb n 6 b, ne_eqb n 8 c, ne_eqb n 10 d)
