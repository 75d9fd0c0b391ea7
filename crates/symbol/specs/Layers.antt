-- The layers of data modules: their cells are distinct, inside the square, and outside of what the layers enclose.
-- Assumes nothing.
use Rattle.std.specs.Prelude.{◌≡◌, refl, ◌⊎◌, Bool, true, false, ℕ, zero, suc, ◌+◌, ◌*◌, ◌-◌, ◌/◌, ◌%◌, ◌≤◌, ◌<◌, ltb}
use Rattle.std.proofs.Common.{sym, ap, ◌∙◌, subst, inl, inr, mod-lt, div-add-mod', div-lt_iff_lt-mul, arith, ltb-true, ltb-false, lt-ltb, le-ltb}
use Rattle.symbol.specs.Places.{Cell, domino, layer_cell, shifted, cell}

-- bit i of the outermost layer of a square of side q + 2 stands at row r and column c: q dominoes, 2q bits a side
pub data Ring (q i r c : ℕ) : Type 0 where
  left : i < 2 * q → r ≡ i / 2 → c ≡ i % 2 → Ring q i r c
  bottom : 2 * q ≤ i → i < 4 * q → r + i % 2 ≡ q + 1 → c + q ≡ i / 2 → Ring q i r c
  right : 4 * q ≤ i → i < 6 * q → r + i / 2 ≡ 3 * q + 1 → c + i % 2 ≡ q + 1 → Ring q i r c
  top : 6 * q ≤ i → i < 8 * q → r ≡ i % 2 → c + i / 2 ≡ 4 * q + 1 → Ring q i r c

on-side : (s S m i : ℕ) → 4 ≤ S → i ≡ s * (2 * (S - 2)) + m → m < 2 * (S - 2) → s < 4
    → Ring (S - 2) i (domino s S (m / 2) (m % 2)).0 (domino s S (m / 2) (m % 2)).1
unfolding domino
on-side zero S m i w e l h = left (omega arith) (omega arith) (omega arith)
on-side (suc zero) S m i w e l h = bottom (omega arith) (omega arith) (omega arith) (omega arith)
on-side (suc (suc zero)) S m i w e l h = right (omega arith) (omega arith) (omega arith) (omega arith)
on-side (suc (suc (suc zero))) S m i w e l h = top (omega arith) (omega arith) (omega arith) (omega arith)
on-side (suc (suc (suc (suc s)))) S m i w e l h = absurd (omega arith)

pub in-ring : (S i : ℕ) → 4 ≤ S → i < 8 * (S - 2) → Ring (S - 2) i (layer_cell S i).0 (layer_cell S i).1
unfolding layer_cell
in-ring S i w h =
    let q = 2 * (S - 2) in
    on-side (i / q) S (i % q) i w (sym (div-add-mod' i q)) (mod-lt i (omega arith))
    ((div-lt_iff_lt-mul (let z : 0 < q = omega arith in z)).1 (omega arith))

ring-one : (q i j r c : ℕ) → 2 ≤ q → Ring q i r c → Ring q j r c → i ≡ j
ring-one q i j r c h (left a b d) (left x y z) = omega arith
ring-one q i j r c h (left a b d) (bottom w x y z) = omega arith
ring-one q i j r c h (left a b d) (right w x y z) = omega arith
ring-one q i j r c h (left a b d) (top w x y z) = omega arith
ring-one q i j r c h (bottom k a b d) (left x y z) = omega arith
ring-one q i j r c h (bottom k a b d) (bottom w x y z) = omega arith
ring-one q i j r c h (bottom k a b d) (right w x y z) = omega arith
ring-one q i j r c h (bottom k a b d) (top w x y z) = omega arith
ring-one q i j r c h (right k a b d) (left x y z) = omega arith
ring-one q i j r c h (right k a b d) (bottom w x y z) = omega arith
ring-one q i j r c h (right k a b d) (right w x y z) = omega arith
ring-one q i j r c h (right k a b d) (top w x y z) = omega arith
ring-one q i j r c h (top k a b d) (left x y z) = omega arith
ring-one q i j r c h (top k a b d) (bottom w x y z) = omega arith
ring-one q i j r c h (top k a b d) (right w x y z) = omega arith
ring-one q i j r c h (top k a b d) (top w x y z) = omega arith

ring-fits : (q i r c : ℕ) → 2 ≤ q → Ring q i r c → (r < q + 2) × (c < q + 2)
ring-fits q i r c h (left a b d) = (omega arith, omega arith)
ring-fits q i r c h (bottom k a b d) = (omega arith, omega arith)
ring-fits q i r c h (right k a b d) = (omega arith, omega arith)
ring-fits q i r c h (top k a b d) = (omega arith, omega arith)

ring-edge : (q i r c : ℕ) → Ring q i r c → 2 ≤ r → r < q → 2 ≤ c → c < q → ⊥
ring-edge q i r c (left a b d) h k l m = omega arith
ring-edge q i r c (bottom w a b d) h k l m = omega arith
ring-edge q i r c (right w a b d) h k l m = omega arith
ring-edge q i r c (top w a b d) h k l m = omega arith

-- the bits of L layers in a square of side S
unfoldable pub total : ℕ → ℕ → ℕ
total zero S = 0
total (suc L) S = 8 * (S - 2) + total L (S - 4)

pub total-is : (L k : ℕ) → total L (k + 4 * L) ≡ (8 * k + 16 * L) * L
unfolding total
total-is zero k = omega arith
total-is (suc L) k =
    ap (λ x. 8 * (k + 4 * suc L - 2) + total L x) (let e : k + 4 * suc L - 4 ≡ k + 4 * L = omega arith in e)
    ∙ ap (λ x. 8 * (k + 4 * suc L - 2) + x) (total-is L k)
    ∙ (let e : 8 * (k + 4 * suc L - 2) + (8 * k + 16 * L) * L ≡ (8 * k + 16 * suc L) * suc L = omega arith in e)

-- a bit stands in the outermost layer, or in those inside
pub cell-outer : (L S o i : ℕ) → i < 8 * (S - 2) → cell (suc L) S o i ≡ shifted o (layer_cell S i)
unfolding cell
cell-outer L S o i h = rw (lt-ltb i (8 * (S - 2)) h) refl

pub cell-inner : (L S o i : ℕ) → 8 * (S - 2) ≤ i → cell (suc L) S o i ≡ cell L (S - 4) (o + 2) (i - 8 * (S - 2))
unfolding cell
cell-inner L S o i h = rw (le-ltb i (8 * (S - 2)) h) refl

abbrev Case : ℕ → ℕ → Type 0
Case S i = (i < 8 * (S - 2)) ⊎ (8 * (S - 2) ≤ i)

case : (S i : ℕ) → Case S i
case S i = go (ltb i (8 * (S - 2))) refl
  where
    go : (b : Bool) → ltb i (8 * (S - 2)) ≡ b → Case S i
    go true e = inl (ltb-true _ _ e)
    go false e = inr (ltb-false _ _ e)

-- rows and columns from o to o + S − 1, outside of the square that L layers enclose
pub record Inside (L S o : ℕ) (x : Cell) : Type 0 where
  pub row_ge : o ≤ x.0
  pub row_lt : x.0 < o + S
  pub col-ge : o ≤ x.1
  pub col-lt : x.1 < o + S
  pub outer : o + 2 * L ≤ x.0 → x.0 + 2 * L < o + S → o + 2 * L ≤ x.1 → x.1 + 2 * L < o + S → ⊥

inside-ring : (L S o r c i : ℕ) → 4 ≤ S → Ring (S - 2) i r c → Inside (suc L) S o (o + r, o + c)
inside-ring L S o r c i h p =
    let a = ring-fits (S - 2) i r c (omega arith) p in
    record {
      row_ge = omega arith;
      row_lt = omega arith;
      col-ge = omega arith;
      col-lt = omega arith;
      outer = λ x y z w. ring-edge (S - 2) i r c p (omega arith) (omega arith) (omega arith) (omega arith);
    }

inside-next : (L S o : ℕ) (x : Cell) → 4 ≤ S → Inside L (S - 4) (o + 2) x → Inside (suc L) S o x
inside-next L S o x h p =
    record {
      row_ge = omega arith;
      row_lt = omega arith;
      col-ge = omega arith;
      col-lt = omega arith;
      outer = λ a b c d. p.outer (omega arith) (omega arith) (omega arith) (omega arith);
    }

pub cell-inside : (L S o i : ℕ) → 4 * L ≤ S → i < total L S → Inside L S o (cell L S o i)
unfolding total
cell-inside zero S o i h l = absurd (omega arith)
cell-inside (suc L) S o i h l = go (case S i) (λ p. cell-inside L (S - 4) (o + 2) (i - 8 * (S - 2)) (omega arith) (omega arith))
  where
    go : Case S i → (8 * (S - 2) ≤ i → Inside L (S - 4) (o + 2) (cell L (S - 4) (o + 2) (i - 8 * (S - 2))))
        → Inside (suc L) S o (cell (suc L) S o i)
    go (inl p) rec =
        subst (Inside (suc L) S o) (sym (cell-outer L S o i p)) (inside-ring L S o _ _ i (omega arith) (in-ring S i (omega arith) p))
    go (inr p) rec = subst (Inside (suc L) S o) (sym (cell-inner L S o i p)) (inside-next L S o _ (omega arith) (rec p))

-- a layer doesn't meet those inside
apart : (L S o r c i : ℕ) (x : Cell) → 4 ≤ S → Ring (S - 2) i r c → Inside L (S - 4) (o + 2) x → o + r ≡ x.0 → o + c ≡ x.1 → ⊥
apart L S o r c i x h p n e d = ring-edge (S - 2) i r c p (omega arith) (omega arith) (omega arith) (omega arith)

pub cell-one : (L S o i j : ℕ) → 4 * L ≤ S → i < total L S → j < total L S → cell L S o i ≡ cell L S o j → i ≡ j
unfolding total
cell-one zero S o i j h l m e = absurd (omega arith)
cell-one (suc L) S o i j h l m e =
    go (case S i) (case S j)
    (λ p q. cell-one L (S - 4) (o + 2) (i - 8 * (S - 2)) (j - 8 * (S - 2)) (omega arith) (omega arith) (omega arith))
  where
    row : {p q : Cell} → p ≡ q → p.0 ≡ q.0
    row d = ap (λ x. x.0) d

    col : {p q : Cell} → p ≡ q → p.1 ≡ q.1
    col d = ap (λ x. x.1) d

    inner : (k : ℕ) → k < total (suc L) S → 8 * (S - 2) ≤ k → Inside L (S - 4) (o + 2) (cell L (S - 4) (o + 2) (k - 8 * (S - 2)))
    inner k x y = cell-inside L (S - 4) (o + 2) (k - 8 * (S - 2)) (omega arith) (omega arith)

    same-ring : shifted o (layer_cell S i) ≡ shifted o (layer_cell S j) → i < 8 * (S - 2) → j < 8 * (S - 2) → i ≡ j
    same-ring d p q =
        let x : (layer_cell S j).0 ≡ (layer_cell S i).0 = omega (arith, row d) in
        let y : (layer_cell S j).1 ≡ (layer_cell S i).1 = omega (arith, col d) in
        ring-one (S - 2) i j _ _ (omega arith) (in-ring S i (omega arith) p)
        (subst (λ k. Ring (S - 2) j k (layer_cell S i).1) x
        (subst (Ring (S - 2) j (layer_cell S j).0) y (in-ring S j (omega arith) q)))

    clash : (a b : ℕ) → a < 8 * (S - 2) → b < total (suc L) S → 8 * (S - 2) ≤ b → cell (suc L) S o a ≡ cell (suc L) S o b → ⊥
    clash a b p u q f =
        let d = sym (cell-outer L S o a p) ∙ f ∙ cell-inner L S o b q in
        apart L S o _ _ a _ (omega arith) (in-ring S a (omega arith) p) (inner b u q) (row d) (col d)

    go : Case S i → Case S j
        → (8 * (S - 2) ≤ i → 8 * (S - 2) ≤ j → cell L (S - 4) (o + 2) (i - 8 * (S - 2)) ≡ cell L (S - 4) (o + 2) (j - 8 * (S - 2))
        → i - 8 * (S - 2) ≡ j - 8 * (S - 2))
        → i ≡ j
    go (inl p) (inl q) rec = same-ring (sym (cell-outer L S o i p) ∙ e ∙ cell-outer L S o j q) p q
    go (inl p) (inr q) rec = absurd (clash i j p m q e)
    go (inr p) (inl q) rec = absurd (clash j i q l p (sym e))
    go (inr p) (inr q) rec = omega (arith, rec p q (sym (cell-inner L S o i p) ∙ e ∙ cell-inner L S o j q))
