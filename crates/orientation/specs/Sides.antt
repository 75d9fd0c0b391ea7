-- The sides that shapes have (document 01, number 11: "side is not a shape's").
-- Assumes nothing.
use Rattle.std.specs.Prelude.{◌≡◌, refl, Bool, cond, ℕ, ◌-◌, ◌%◌, ◌≤◌, ◌<◌, eqb, ltb}
use Rattle.std.proofs.Common.{ap₂}
use Rattle.std.proofs.Math.Bool.{true, false}
use Rattle.std.proofs.Math.Option.{Option, none, some}
use native.Mathlib.Omega.{arith}
use borrow.Author.Tests.{eqb-true, eq-eqb, ltb-true, ltb-false}
use Rattle.list_laws.specs.Search.{first_from, first_found, first-from, found, found_at}
use Rattle.symbol.specs.Shapes.{side, is_full, layers, number_of, most_layers, Shaped}
use Rattle.symbol.specs.ShapeTable.{shape_of}

-- shape number s has side n
unfoldable pub has_side : ℕ → ℕ → Bool
has_side n s = eqb (side (is_full s) (layers s)) n

-- "Shapes are numbered 1 to 4 for C1 to C4, 5 to 36 for F1 to F32": one of them has side n
unfoldable pub is_side : ℕ → Bool
is_side n = found (first_from (has_side n) 1 36)

pub shaped-at : (s : ℕ) → 1 ≤ s → s < 37 → Shaped (is_full s) (layers s)
unfolding is_full layers
shaped-at s h l = go (ltb 4 s) refl
  where
    go : (b : Bool) → ltb 4 s ≡ b → Shaped b (cond b (s - 4) s)
    go true e = record { some = omega (arith, ltb-true 4 s e); most = unfold most_layers in omega arith }
    go false e = record { some = h; most = unfold most_layers in ltb-false 4 s e }

number-range : (f : Bool) (L : ℕ) → Shaped f L → (1 ≤ number_of f L) × (number_of f L < 37)
unfolding number_of most_layers
number-range false L s = omega (arith, s.some, s.most)
number-range true L s = omega (arith, s.some, s.most)

-- a shape whose side is n
pub record OfSide (n : ℕ) : Type 0 where
  pub full : Bool
  pub layers : ℕ
  pub shaped : Shaped full layers
  pub side-is : side full layers ≡ n

pub shape-of-side : (n : ℕ) → is_side n ≡ true → OfSide n
unfolding is_side
shape-of-side n t = go (first_from (has_side n) 1 36) refl t
  where
    go : (o : Option ℕ) → first_from (has_side n) 1 36 ≡ o → found o ≡ true → OfSide n
    go none e t = let z : ◌≡◌ {A = ℕ} 0 1 = cc in absurd (omega arith)
    go (some s) e t =
        let at = first_found (has_side n) 36 1 s e in
        record {
          full = is_full s;
          layers = layers s;
          shaped = shaped-at s (first-from (has_side n) 36 1 s e) at.1;
          side-is = unfold has_side in eqb-true (side (is_full s) (layers s)) n at.0;
        }

pub side-of-shape : (f : Bool) (L : ℕ) → Shaped f L → is_side (side f L) ≡ true
unfolding is_side
side-of-shape f L s =
    let range = number-range f L s in
    found_at (has_side (side f L)) 36 1 (number_of f L) range.0 range.1
    (unfold has_side in eq-eqb _ _ (ap₂ side (shape_of f L s).0 (shape_of f L s).1))

pub is-side : {n : ℕ} → OfSide n → is_side n ≡ true
is-side x = rw x.side-is at (side-of-shape x.full x.layers x.shaped)

-- from C1's to F32's, and odd
pub side-range : (n : ℕ) → is_side n ≡ true → (15 ≤ n) × (n ≤ 151) × (n % 2 ≡ 1)
side-range n t = let x = shape-of-side n t in rw x.side-is at (go x.full x.layers x.shaped)
  where
    go : (f : Bool) (L : ℕ) → Shaped f L → (15 ≤ side f L) × (side f L ≤ 151) × (side f L % 2 ≡ 1)
    go false L s = unfold side most_layers in omega (arith, s.some, s.most)
    go true L s = unfold side most_layers in omega (arith, s.some, s.most)
