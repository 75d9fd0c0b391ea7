-- The eight positions of a grid of side n (document 01, "How a grid is read": "Position is the number of clockwise quarter turns, 0 to 3,
-- plus 4 if the made tag was mirrored left to right before them").
-- Assumes nothing.
use Rattle.std.specs.Prelude.{◌≡◌, refl, List, ℕ, zero, suc, ◌*◌, ◌/◌, ◌%◌, ◌<◌, length, replicate}
use Rattle.std.proofs.Common.{sym, ◌∙◌, mod-lt, div-lt_iff_lt-mul, arith}
use Rattle.std.proofs.Math.Path.{ap, ap₂, subst}
use Rattle.std.proofs.Math.ListN.{get_or, length-replicate}
use Rattle.list_laws.specs.Writes.{writes, length-writes, writes-same}
use Rattle.symbol.specs.Places.{Cell, index, turned}
use Rattle.symbol.specs.DataPlaces.{index-row, index-col, index-lt, index_back}

-- where module k of the upright grid stands in position p
unfoldable pub place_in : ℕ → ℕ → ℕ → ℕ
place_in n p k = index n (turned p n (k / n) (k % n))

-- the upright grid g in position p
unfoldable pub placed : ℕ → ℕ → List ℕ → List ℕ
placed n p g = writes (replicate (n * n) 0) (place_in n p) (λ k. get_or g k 0) (n * n)

-- the position that takes position p back
unfoldable pub back : ℕ → ℕ
back zero = 0
back (suc zero) = 3
back (suc (suc zero)) = 2
back (suc (suc (suc zero))) = 1
back (suc (suc (suc (suc p)))) = suc (suc (suc (suc p)))

pub back-back : (p : ℕ) → back (back p) ≡ p
unfolding back
back-back zero = refl
back-back (suc zero) = refl
back-back (suc (suc zero)) = refl
back-back (suc (suc (suc zero))) = refl
back-back (suc (suc (suc (suc p)))) = refl

both : {a b c d : ℕ} → a ≡ c → b ≡ d → ◌≡◌ {A = Cell} (a, b) (c, d)
both e h = ap₂ (λ (x y : ℕ). (x, y)) e h

pub turned-back : (p n r c : ℕ) → r < n → c < n → (let x = turned p n r c in turned (back p) n x.0 x.1) ≡ (r, c)
unfolding turned back
turned-back zero n r c h k = refl
turned-back (suc zero) n r c h k = both (omega arith) refl
turned-back (suc (suc zero)) n r c h k = both (omega arith) (omega arith)
turned-back (suc (suc (suc zero))) n r c h k = both refl (omega arith)
turned-back (suc (suc (suc (suc zero)))) n r c h k = both refl (omega arith)
turned-back (suc (suc (suc (suc (suc zero))))) n r c h k = both (omega arith) (omega arith)
turned-back (suc (suc (suc (suc (suc (suc zero)))))) n r c h k = both (omega arith) refl
turned-back (suc (suc (suc (suc (suc (suc (suc p))))))) n r c h k = refl

pub turned_lt : (p n r c : ℕ) → r < n → c < n → ((turned p n r c).0 < n) × ((turned p n r c).1 < n)
unfolding turned
turned_lt zero n r c h k = (h, k)
turned_lt (suc zero) n r c h k = omega arith
turned_lt (suc (suc zero)) n r c h k = omega arith
turned_lt (suc (suc (suc zero))) n r c h k = omega arith
turned_lt (suc (suc (suc (suc zero)))) n r c h k = omega arith
turned_lt (suc (suc (suc (suc (suc zero))))) n r c h k = omega arith
turned_lt (suc (suc (suc (suc (suc (suc zero)))))) n r c h k = omega arith
turned_lt (suc (suc (suc (suc (suc (suc (suc p))))))) n r c h k = (k, h)

module _ (n : ℕ) where
  module _ (k : ℕ) (h : k < n * n) where
    pub col-lt : k % n < n
    col-lt = mod-lt k (go n h)
      where
        go : (n : ℕ) → k < n * n → 0 < n
        go zero l = absurd (omega arith)
        go (suc n) l = omega arith

    pub row_lt : k / n < n
    row_lt = (div-lt_iff_lt-mul (let z : 0 < n = omega (arith, col-lt) in z)).1 h

  module _ (p : ℕ) where
    module _ (k : ℕ) (h : k < n * n) where
      stays : ((turned p n (k / n) (k % n)).0 < n) × ((turned p n (k / n) (k % n)).1 < n)
      stays = turned_lt p n (k / n) (k % n) (row_lt k h) (col-lt k h)

      pub place_in-lt : place_in n p k < n * n
      unfolding place_in
      place_in-lt = index-lt n _ _ stays.0 stays.1

      -- the inverse: position `back p` brings the module back
      pub place_in-back : place_in n (back p) (place_in n p k) ≡ k
      unfolding place_in
      place_in-back =
          ap₂ (λ (x y : ℕ). index n (turned (back p) n x y)) (index-row n _ _ stays.1) (index-col n _ _ stays.1)
          ∙ ap (index n) (turned-back p n (k / n) (k % n) (row_lt k h) (col-lt k h))
          ∙ index_back n k

    pub place_in-one : (i j : ℕ) → i < n * n → j < n * n → place_in n p i ≡ place_in n p j → i ≡ j
    place_in-one i j h k e = sym (place_in-back i h) ∙ ap (place_in n (back p)) e ∙ place_in-back j k

    pub length-placed : (g : List ℕ) → length (placed n p g) ≡ n * n
    unfolding placed
    length-placed g = length-writes _ _ _ _ ∙ length-replicate (n * n) 0

    -- a module stands at its place
    pub placed_at : (g : List ℕ) (k : ℕ) → k < n * n → get_or (placed n p g) (place_in n p k) 0 ≡ get_or g k 0
    unfolding placed
    placed_at g k h =
        writes-same 0 (replicate (n * n) 0) (place_in n p) (λ k. get_or g k 0) (n * n) place_in-one
        (λ i l. subst (λ x. place_in n p i < x) (sym (length-replicate (n * n) 0)) (place_in-lt i l)) k h

  -- and every place below n² is one module's
  pub place_in-onto : (p k : ℕ) → k < n * n → place_in n p (place_in n (back p) k) ≡ k
  place_in-onto p k h = ap (λ x. place_in n x (place_in n (back p) k)) (sym (back-back p)) ∙ place_in-back (back p) k h
