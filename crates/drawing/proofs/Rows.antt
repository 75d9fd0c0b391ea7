-- The fixed pattern, drawn row by row.
-- Assumes nothing.
use mathlib.Core.Path.{◌≡◌, sym, ap, ap₂, ◌∙◌}
use mathlib.Core.Bool.{Bool}
use mathlib.Core.List.{List}
use Prim.Native.Nat.{ℕ, ◌+◌, ◌*◌, ◌/◌, ◌%◌, ◌≤◌, ◌<◌}
use native.Mathlib.Omega.{arith}
use Rattle.list_laws.specs.Writes.{writes, writes-none, writes-join}
use Rattle.symbol.specs.Shapes.{side, centre}
use Rattle.symbol.specs.Places.{gap, fixed_at, fixed_place}
use Rattle.symbol.specs.DataPlaces.{index-row, index-col, index-lt}

module _ (f : Bool) (L : ℕ) {n : ℕ} (is : n ≡ side f L) (row : ℕ) where
  pub in_area : {room : ℕ} (c : ℕ) → row < n → c < n → side f L * side f L ≤ room → row * n + c < room
  in_area c h k l = omega (arith, index-lt n row c h k, ap (λ m. m * m) is)

  -- the module at a column, by its distances from the centre
  pub row-module : (c : ℕ) {x y r : ℕ} → c < n → x ≡ gap c (n / 2) → y ≡ gap row (n / 2) → r ≡ fixed_at f x y
      → r ≡ fixed_place f L (row * side f L + c)
  unfolding fixed_place centre
  row-module c {x} {y} {r} h a b e =
      e
      ∙ ap₂ (fixed_at f) (a ∙ sym (ap (λ k. gap k (n / 2)) (index-col n row c h))) (b ∙ sym (ap (λ k. gap k (n / 2)) (index-row n row c h)))
      ∙ ap (λ m. fixed_at f (gap ((row * m + c) % m) (m / 2)) (gap ((row * m + c) / m) (m / 2))) is

module _ (f : Bool) (L : ℕ) (l : List ℕ) where
  pub no_rows : l ≡ writes l (λ k. k) (fixed_place f L) (0 * side f L)
  no_rows = writes-none l _ _ ∙ ap (writes l (λ k. k) (fixed_place f L)) (let z : 0 ≡ 0 * side f L = omega arith in z)

  pub row-drawn : (row : ℕ) {g h : List ℕ} → g ≡ writes l (λ k. k) (fixed_place f L) (row * side f L)
      → h ≡ writes g (λ c. row * side f L + c) (λ c. fixed_place f L (row * side f L + c)) (side f L)
      → h ≡ writes l (λ k. k) (fixed_place f L) ((row + 1) * side f L)
  row-drawn row e d =
      d
      ∙ ap (λ x. writes x (λ c. row * side f L + c) (λ c. fixed_place f L (row * side f L + c)) (side f L)) e
      ∙ writes-join l (λ k. k) (fixed_place f L) (row * side f L) (side f L)
      ∙ ap (writes l (λ k. k) (fixed_place f L)) (let z : row * side f L + side f L ≡ (row + 1) * side f L = omega arith in z)
