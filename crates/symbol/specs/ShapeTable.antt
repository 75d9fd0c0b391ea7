-- The 36 shapes as the standard lists them (source 000, table 1: sizes and codewords; its message capacities don't follow the rule), and
-- a way to have a fact of every shape by one computed test.
-- Assumes nothing.
use Rattle.std.specs.Prelude.{◌≡◌, Bool, true, false, ◌&&◌, List, [], ◌∷◌, ℕ, zero, suc, ◌+◌, ◌-◌, ◌^◌, ◌<◌, T, eqb, ltb, get_or}
use Rattle.std.proofs.Common.{arith, ltb→lt, le-ltb, lt-ltb}
use Rattle.list_laws.specs.Tests.{both-parts}
use Rattle.list_laws.specs.Range.{all, all-at}
use Rattle.symbol.specs.Shapes.{side, bits, words, word_size, is_full, layers, number_of, most_layers, Shaped}

-- a row of the table: side, words, word size
pub record Row : Type 0 where
  pub side : ℕ
  pub words : ℕ
  pub size : ℕ

abbrev pub row : ℕ → ℕ → ℕ → Row
row n w b = record { side = n; words = w; size = b }

-- C1 to C4, F1 to F32
unfoldable pub table : List Row
table =
    row 15 17 6 ∷ row 19 40 6 ∷ row 23 51 8 ∷ row 27 76 8
    ∷ row 19 21 6 ∷ row 23 48 6 ∷ row 27 60 8 ∷ row 31 88 8 ∷ row 37 120 8 ∷ row 41 156 8 ∷ row 45 196 8 ∷ row 49 240 8
    ∷ row 53 230 10 ∷ row 57 272 10 ∷ row 61 316 10 ∷ row 67 364 10 ∷ row 71 416 10 ∷ row 75 470 10 ∷ row 79 528 10 ∷ row 83 588 10
    ∷ row 87 652 10 ∷ row 91 720 10 ∷ row 95 790 10 ∷ row 101 864 10 ∷ row 105 940 10 ∷ row 109 1020 10
    ∷ row 113 920 12 ∷ row 117 992 12 ∷ row 121 1066 12 ∷ row 125 1144 12 ∷ row 131 1224 12 ∷ row 135 1306 12 ∷ row 139 1392 12
    ∷ row 143 1480 12 ∷ row 147 1570 12 ∷ row 151 1664 12
    ∷ []

unfoldable pub agrees : ℕ → Bool
agrees s =
    let r = get_or table (s - 1) (row 0 0 0) in
    eqb (side (is_full s) (layers s)) r.side && (eqb (words (is_full s) (layers s)) r.words && eqb (word_size (layers s)) r.size)

-- the formulas give the table, at each shape's number s + 1
pub formulas-right : T (all 36 (λ s. agrees (s + 1)))
unfolding all agrees table side words bits word_size is_full layers
formulas-right = tt

-- a shape's number says its family and layers
pub shape_of : (f : Bool) (L : ℕ) → Shaped f L → (is_full (number_of f L) ≡ f) × (layers (number_of f L) ≡ L)
unfolding most_layers is_full layers number_of
shape_of false L s = (le-ltb 4 L s.most, rw (le-ltb 4 L s.most))
shape_of true L s = (lt-ltb 4 (L + 4) (omega (arith, s.some)), rw (lt-ltb 4 (L + 4) (omega (arith, s.some))) (omega arith))

-- a test of every shape
unfoldable pub every_shape : (Bool → ℕ → Bool) → Bool
every_shape q = all 4 (λ a. q false (suc a)) && all 32 (λ a. q true (suc a))

pub at-shape : (q : Bool → ℕ → Bool) → T (every_shape q) → (f : Bool) (L : ℕ) → Shaped f L → T (q f L)
unfolding every_shape most_layers
at-shape q t false zero s = absurd (omega (arith, s.some))
at-shape q t false (suc a) s =
    all-at 4 (λ a. q false (suc a)) (both-parts (all 4 (λ a. q false (suc a))) (all 32 (λ a. q true (suc a))) t).0 a (omega (arith, s.most))
at-shape q t true zero s = absurd (omega (arith, s.some))
at-shape q t true (suc a) s =
    all-at 32 (λ a. q true (suc a)) (both-parts (all 4 (λ a. q false (suc a))) (all 32 (λ a. q true (suc a))) t).1 a (omega (arith, s.most))

-- a block is no longer than its field allows
pub words-fit : (f : Bool) (L : ℕ) → Shaped f L → words f L < 2 ^ word_size L
words-fit f L s = ltb→lt _ _ (at-shape (λ f L. ltb (words f L) (2 ^ word_size L)) test f L s)
  where
    test : T (every_shape (λ f L. ltb (words f L) (2 ^ word_size L)))
    test = unfold every_shape all words bits word_size in tt
