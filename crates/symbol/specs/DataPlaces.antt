-- The data places of a shape: distinct, inside the symbol, outside of its core, off the reference lines.
-- Assumes nothing.
use Rattle.std.specs.Prelude.{◌≡◌, ◌≢◌, Bool, true, false, ℕ, ◌+◌, ◌*◌, ◌-◌, ◌/◌, ◌%◌, ◌≤◌, ◌<◌}
use Rattle.std.proofs.Common.{sym, ap, ap₂, ◌∙◌, subst, div-add-mod', mod-eq_of_lt, add-zero, mul-le-mul, mul-le-mul_right, lt_of_lt_of_le, arith}
use Rattle.std.proofs.Math.Nat.{mul-add-div_right, mul-add-mod_self_right, div-eq_of_lt}
use Rattle.symbol.specs.Shapes.{side, square, bits, core, centre, most_layers, Shaped}
use Rattle.symbol.specs.Places.{Cell, cell, spread, gap, data_place}
use Rattle.symbol.specs.Layers.{Inside, total, total-is, cell-inside, cell-one}

-- rows and columns from a place, and back
pub index-row : (n r c : ℕ) → c < n → (r * n + c) / n ≡ r
index-row n r c h = mul-add-div_right (let z : 0 < n = omega arith in z) r c ∙ ap (λ x. r + x) (div-eq_of_lt h) ∙ add-zero r

pub index-col : (n r c : ℕ) → c < n → (r * n + c) % n ≡ c
index-col n r c h = mul-add-mod_self_right r n c ∙ mod-eq_of_lt h

pub rows-lt : (k n r c : ℕ) → r < k → c < n → r * n + c < k * n
rows-lt k n r c h l = omega (arith, mul-le-mul_right n h)

pub index-lt : (n r c : ℕ) → r < n → c < n → r * n + c < n * n
index-lt n = rows-lt n n

-- a place of the largest symbol
pub index-small : (n r c : ℕ) → n ≤ 151 → r < n → c < n → r * n + c < 22801
index-small n r c m h k = lt_of_lt_of_le (index-lt n r c h k) (mul-le-mul {n₁ = n} {m₁ = n} {n₂ = 151} {m₂ = 151} m m)

pub index_back : (n k : ℕ) → k / n * n + k % n ≡ k
index_back n k = div-add-mod' k n

pub most-layers : (f : Bool) (L : ℕ) → Shaped f L → L ≤ 32
unfolding most_layers
most-layers false L s = omega (arith, s.most)
most-layers true L s = s.most

pub side-most : (f : Bool) (L : ℕ) → Shaped f L → side f L ≤ 151
unfolding most_layers side
side-most false L s = omega (arith, s.most)
side-most true L s = omega (arith, s.most)

pub square-most : (f : Bool) (L : ℕ) → Shaped f L → square f L ≤ 142
unfolding most_layers square
square-most false L s = omega (arith, s.most)
square-most true L s = omega (arith, s.most)

pub bits-total : (f : Bool) (L : ℕ) → bits f L ≡ total L (square f L)
unfolding bits square
bits-total false L = sym (total-is L 11)
bits-total true L = sym (total-is L 14)

pub square-large : (f : Bool) (L : ℕ) → 11 + 4 * L ≤ square f L
unfolding square
square-large false L = omega arith
square-large true L = omega arith

pub spread-lt : (f : Bool) (L a : ℕ) → Shaped f L → a < square f L → spread f L a < side f L
unfolding most_layers square side spread
spread-lt false L a s h = h
spread-lt true L a s h = omega (arith, s.most)

spread-one : (f : Bool) (L a b : ℕ) → Shaped f L → spread f L a ≡ spread f L b → a ≡ b
unfolding most_layers spread
spread-one false L a b s e = e
spread-one true L a b s e = omega (arith, s.most)

-- 15 rows or columns between two lines: the one before is 16 back
off : (x y k m : ℕ) → x + 79 ≡ y + 16 * k + m → m < 15 → gap x y % 16 ≢ 0
off x y k m e h z = let d : gap x y ≡ 16 * (gap x y / 16) = omega arith in go (gap x y / 16) d
  where
    go : (w : ℕ) → gap x y ≡ 16 * w → ⊥
    go w d = omega arith

centre-is : (L : ℕ) → centre true L ≡ 7 + 2 * L + (6 + 2 * L) / 15
unfolding centre side
centre-is L = omega arith

spread-from : (L a : ℕ) → L ≤ 32 → spread true L a + 79 ≡ centre true L + 16 * ((a + 68 - 2 * L) / 15) + (a + 68 - 2 * L) % 15
unfolding spread
spread-from L a h = omega (arith, centre-is L)

-- a row or column that is kept is off the reference lines
pub spread-off : (L a : ℕ) → L ≤ 32 → gap (spread true L a) (centre true L) % 16 ≢ 0
spread-off L a h =
    off (spread true L a) (centre true L) ((a + 68 - 2 * L) / 15) ((a + 68 - 2 * L) % 15) (spread-from L a h) (omega arith)

spread-core : (f : Bool) (L a : ℕ) → Shaped f L → centre f L ≤ spread f L a + core f → spread f L a ≤ centre f L + core f
    → (2 * L ≤ a) × (a + 2 * L < square f L)
unfolding most_layers square side spread centre core
spread-core false L a s h k = (omega arith, omega arith)
spread-core true L a s h k = (omega (arith, s.most), omega (arith, s.most))

module _ (f : Bool) (L : ℕ) (sh : Shaped f L) where
  module _ (i : ℕ) (h : i < bits f L) where
    abbrev here : Cell
    here = cell L (square f L) 0 i

    pub data-inside : Inside L (square f L) 0 here
    data-inside = cell-inside L (square f L) 0 i (omega (arith, square-large f L)) (subst (λ x. i < x) (bits-total f L) h)

    pub data-row-lt : spread f L here.0 < side f L
    data-row-lt = spread-lt f L _ sh (omega (arith, data-inside))

    pub data-col-lt : spread f L here.1 < side f L
    data-col-lt = spread-lt f L _ sh (omega (arith, data-inside))

    pub data-lt : data_place f L i < side f L * side f L
    unfolding data_place
    data-lt = index-lt (side f L) _ _ data-row-lt data-col-lt

    pub data-row : data_place f L i / side f L ≡ spread f L here.0
    unfolding data_place
    data-row = index-row (side f L) _ _ data-col-lt

    pub data-col : data_place f L i % side f L ≡ spread f L here.1
    unfolding data_place
    data-col = index-col (side f L) _ _ data-col-lt

    -- not in the core square
    pub data-far : (k : ℕ) → centre f L ≤ k / side f L + core f → k / side f L ≤ centre f L + core f
        → centre f L ≤ k % side f L + core f → k % side f L ≤ centre f L + core f → data_place f L i ≢ k
    data-far k a b c d e =
        let x : spread f L here.0 ≡ k / side f L = sym data-row ∙ ap (λ z. z / side f L) e in
        let y : spread f L here.1 ≡ k % side f L = sym data-col ∙ ap (λ z. z % side f L) e in
        let u = spread-core f L _ sh (subst (λ z. centre f L ≤ z + core f) (sym x) a) (subst (λ z. z ≤ centre f L + core f) (sym x) b) in
        let v = spread-core f L _ sh (subst (λ z. centre f L ≤ z + core f) (sym y) c) (subst (λ z. z ≤ centre f L + core f) (sym y) d) in
        data-inside.outer (omega (arith, u)) (omega (arith, u)) (omega (arith, v)) (omega (arith, v))

  pub data-one : (i j : ℕ) → i < bits f L → j < bits f L → data_place f L i ≡ data_place f L j → i ≡ j
  data-one i j h k e =
      cell-one L (square f L) 0 i j (omega (arith, square-large f L)) (subst (λ x. i < x) (bits-total f L) h)
      (subst (λ x. j < x) (bits-total f L) k)
      (ap₂ (λ (x y : ℕ). (x, y))
      (spread-one f L _ _ sh (sym (data-row i h) ∙ ap (λ z. z / side f L) e ∙ data-row j k))
      (spread-one f L _ _ sh (sym (data-col i h) ∙ ap (λ z. z % side f L) e ∙ data-col j k)))
