-- Where a row of the upright grid stands in a position: a line of places in equal steps.
-- Assumes nothing.
use Rattle.std.specs.Prelude.{◌≡◌, refl, ◌⊎◌, List, ℕ, zero, suc, ◌+◌, ◌*◌, ◌-◌, ◌≤◌, ◌<◌}
use Rattle.std.proofs.Common.{sym, ◌∙◌, subst, inl, inr, mul-le-mul, arith}
use Rattle.std.proofs.Math.Path.{ap, ap₂}
use Rattle.std.proofs.Math.ListN.{get_or}
use Rattle.symbol.specs.Places.{index, turned}
use Rattle.symbol.specs.DataPlaces.{index-row, index-col, index-lt}
use Rattle.symbol.specs.Positions.{turned_lt, place_in, place_in-lt}
use Rattle.symbol.specs.GridWords.{module_at}
use Rattle.sampling.specs.declared.upright.Line.{Line}

-- column c of row r, in position p of a grid of side n
pub record Along (n p r : ℕ) (x : Line) : Type 0 where
  pub start-lt : x.start < n * n
  pub ahead-le : x.ahead ≤ n
  pub back-le : x.back ≤ n
  pub place : (c : ℕ) → c < n → x.start + c * x.ahead ≡ index n (turned p n r c) + c * x.back

-- the way along a row, in each position
module _ (n r c : ℕ) (h : c < n) where
  rows-up : (n - 1 - 0) * n ≡ (n - 1 - c) * n + c * n
  rows-up = ap (λ k. k * n) (let z : n - 1 - 0 ≡ n - 1 - c + c = omega arith in z) ∙ omega arith

  pub rightward : (p : ℕ) → (p ≡ 0) ⊎ (p ≡ 6) → index n (turned p n r 0) + c * 1 ≡ index n (turned p n r c) + c * 0
  unfolding turned
  rightward p (inl e) = rw e (omega arith)
  rightward p (inr e) = rw e (omega arith)

  pub downward : (p : ℕ) → (p ≡ 1) ⊎ (p ≡ 7) → index n (turned p n r 0) + c * n ≡ index n (turned p n r c) + c * 0
  unfolding turned
  downward p (inl e) = rw e (omega arith)
  downward p (inr e) = rw e (omega arith)

  pub leftward : (p : ℕ) → (p ≡ 2) ⊎ (p ≡ 4) → index n (turned p n r 0) + c * 0 ≡ index n (turned p n r c) + c * 1
  unfolding turned
  leftward p (inl e) = rw e (omega arith)
  leftward p (inr e) = rw e (omega arith)

  pub upward : (p : ℕ) → (p ≡ 3) ⊎ (p ≡ 5) → index n (turned p n r 0) + c * 0 ≡ index n (turned p n r c) + c * n
  unfolding turned
  upward p (inl e) = rw e (omega (arith, rows-up))
  upward p (inr e) = rw e (omega (arith, rows-up))

-- the positions that are left
pub three-or-five : (p : ℕ) → p < 8 → ((p ≡ 0) ⊎ (p ≡ 6) → ⊥) → ((p ≡ 1) ⊎ (p ≡ 7) → ⊥) → ((p ≡ 2) ⊎ (p ≡ 4) → ⊥) → (p ≡ 3) ⊎ (p ≡ 5)
three-or-five zero h a b c = absurd (a (inl refl))
three-or-five (suc zero) h a b c = absurd (b (inl refl))
three-or-five (suc (suc zero)) h a b c = absurd (c (inl refl))
three-or-five (suc (suc (suc zero))) h a b c = inl refl
three-or-five (suc (suc (suc (suc zero)))) h a b c = absurd (c (inr refl))
three-or-five (suc (suc (suc (suc (suc zero))))) h a b c = inr refl
three-or-five (suc (suc (suc (suc (suc (suc zero)))))) h a b c = absurd (a (inr refl))
three-or-five (suc (suc (suc (suc (suc (suc (suc p))))))) h a b c = absurd (b (inr (let z : suc (suc (suc (suc (suc (suc (suc p)))))) ≡ 7 = omega arith in z)))

module _ (n p r : ℕ) (h : r < n) where
  -- where the row's first module stands
  module _ {row col : ℕ} (e : row ≡ (turned p n r 0).0) (f : col ≡ (turned p n r 0).1) where
    first : row * n + col ≡ index n (turned p n r 0)
    first = ap₂ (λ (x y : ℕ). x * n + y) e f

    pub first-lt : row * n + col < n * n
    first-lt = let x = turned_lt p n r 0 h (omega arith) in subst (λ k. k < n * n) (sym first) (index-lt n _ _ x.0 x.1)

    pub along : (a b : ℕ) → a ≤ n → b ≤ n → ((c : ℕ) → c < n → index n (turned p n r 0) + c * a ≡ index n (turned p n r c) + c * b)
        → Along n p r (record { start = row * n + col; ahead = a; back = b })
    along a b k l step =
        record { start-lt = first-lt; ahead-le = k; back-le = l; place = λ c m. ap (λ s. s + c * a) first ∙ step c m }

  module _ {x : Line} (l : Along n p r x) (c : ℕ) (k : c < n) where
    -- where column c stands, and that the sums fit
    pub steps-le : (most : n ≤ 151) → (c * x.ahead ≤ 22801) × (c * x.back ≤ 22801) × (x.start ≤ 22801)
    steps-le most = (
      mul-le-mul {n₁ = c} {m₁ = x.ahead} {n₂ = 151} {m₂ = 151} (omega arith) (omega (arith, l.ahead-le)),
      mul-le-mul {n₁ = c} {m₁ = x.back} {n₂ = 151} {m₂ = 151} (omega arith) (omega (arith, l.back-le)),
      omega (arith, l.start-lt, mul-le-mul {n₁ = n} {m₁ = n} {n₂ = 151} {m₂ = 151} most most),
    )

    pub back-stays : c * x.back ≤ x.start + c * x.ahead
    back-stays = omega (arith, l.place c k)

    pub line-place : x.start + c * x.ahead - c * x.back ≡ place_in n p (r * n + c)
    unfolding place_in
    line-place =
        (let z : x.start + c * x.ahead - c * x.back ≡ index n (turned p n r c) = omega (arith, l.place c k) in z)
        ∙ ap₂ (λ (r c : ℕ). index n (turned p n r c)) (sym (index-row n r c k)) (sym (index-col n r c k))

    pub line-lt : x.start + c * x.ahead - c * x.back < n * n
    line-lt = subst (λ k. k < n * n) (sym line-place) (place_in-lt n p (r * n + c) (index-lt n r c h k))

    pub line-module : (g : List ℕ) → get_or g (x.start + c * x.ahead - c * x.back) 0 ≡ module_at n p g (r * n + c)
    unfolding module_at
    line-module g = ap (λ k. get_or g k 0) line-place
