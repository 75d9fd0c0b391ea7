-- The 36 shapes (document 01, "Modules and shapes"): a family, full or compact, and a number of layers L.
-- Assumes nothing.
use Rattle.std.specs.Prelude.{Bool, true, false, cond, ℕ, ◌+◌, ◌*◌, ◌-◌, ◌/◌, ◌%◌, ◌≤◌, ltb, leb}
use Rattle.std.proofs.Common.{mul-le-mul, le_trans, arith}

-- "Side: compact 11 + 4L; full 15 + 4L + 2·floor((6 + 2L)/15)"
unfoldable pub side : Bool → ℕ → ℕ
side false L = 11 + 4 * L
side true L = 15 + 4 * L + 2 * ((6 + 2 * L) / 15)

-- "take away the reference rows and columns (full). What is left has side S = 11 + 4L or 14 + 4L"
unfoldable pub square : Bool → ℕ → ℕ
square false L = 11 + 4 * L
square true L = 14 + 4 * L

-- "Bits Cb: compact (88 + 16L)·L, full (112 + 16L)·L"
unfoldable pub bits : Bool → ℕ → ℕ
bits false L = (88 + 16 * L) * L
bits true L = (112 + 16 * L) * L

-- "Word size B: 6 for L 1 to 2, 8 for 3 to 8, 10 for 9 to 22, 12 for 23 to 32"
unfoldable pub word_size : ℕ → ℕ
word_size L = cond (leb L 2) 6 (cond (leb L 8) 8 (cond (leb L 22) 10 12))

-- "Words n = floor(Cb/B)"
unfoldable pub words : Bool → ℕ → ℕ
words f L = bits f L / word_size L

-- "The first Cb mod B bits are 0 and are skipped in reading"
unfoldable pub skipped : Bool → ℕ → ℕ
skipped f L = bits f L % word_size L

-- the distance of the core ring: "distance 5 or 7"
unfoldable pub core : Bool → ℕ
core false = 5
core true = 7

-- the row and column of the centre module
unfoldable pub centre : Bool → ℕ → ℕ
centre f L = side f L / 2

-- "Compact D is at most 64"; 11 bits of the full mode message say D − 1
unfoldable pub most_words : Bool → ℕ
most_words false = 64
most_words true = 2048

-- "Shapes are numbered 1 to 4 for C1 to C4, 5 to 36 for F1 to F32"
unfoldable pub number_of : Bool → ℕ → ℕ
number_of false L = L
number_of true L = L + 4

unfoldable pub is_full : ℕ → Bool
is_full s = ltb 4 s

unfoldable pub layers : ℕ → ℕ
layers s = cond (ltb 4 s) (s - 4) s

-- the layers that a family has
unfoldable pub most_layers : Bool → ℕ
most_layers false = 4
most_layers true = 32

pub record Shaped (f : Bool) (L : ℕ) : Type 0 where
  pub some : 1 ≤ L
  pub most : L ≤ most_layers f

pub core-range : (f : Bool) → (5 ≤ core f) × (core f ≤ 7)
unfolding core
core-range false = omega arith
core-range true = omega arith

-- the largest symbol has the most bits
pub bits_below : (a L : ℕ) → a ≤ 112 → L ≤ 32 → (a + 16 * L) * L ≤ 19968
bits_below a L h k = le_trans (mul-le-mul {n₁ = a + 16 * L} {m₁ = L} {n₂ = 624} {m₂ = 32} (omega arith) k) (omega arith)

pub bits_most : (f : Bool) (L : ℕ) → L ≤ 32 → bits f L ≤ 19968
unfolding bits
bits_most false L h = bits_below 88 L (omega arith) h
bits_most true L h = bits_below 112 L (omega arith) h

-- four layers have few
pub few_bits : (f : Bool) (L : ℕ) → L ≤ 4 → bits f L ≤ 704
unfolding bits
few_bits f L h = go f
  where
    below : (a : ℕ) → a ≤ 112 → (a + 16 * L) * L ≤ 704
    below a k = le_trans (mul-le-mul {n₁ = a + 16 * L} {m₁ = L} {n₂ = 176} {m₂ = 4} (omega arith) h) (omega arith)

    go : (f : Bool) → bits f L ≤ 704
    go false = below 88 (omega arith)
    go true = below 112 (omega arith)

pub word-size-range : (L : ℕ) → (6 ≤ word_size L) × (word_size L ≤ 12)
unfolding word_size
word-size-range L = go (leb L 2) (leb L 8) (leb L 22)
  where
    go : (a b c : Bool) → (6 ≤ cond a 6 (cond b 8 (cond c 10 12))) × (cond a 6 (cond b 8 (cond c 10 12)) ≤ 12)
    go true b c = omega arith
    go false true c = omega arith
    go false false true = omega arith
    go false false false = omega arith
