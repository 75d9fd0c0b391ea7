-- The orientation and mode places: distinct, on the core ring, away from each other and from the data places.
-- Assumes nothing.
use Rattle.std.specs.Prelude.{◌≡◌, ◌≢◌, ◌⊎◌, Bool, not, ◌||◌, ◌&&◌, ℕ, ◌+◌, ◌*◌, ◌-◌, ◌/◌, ◌%◌, ◌≤◌, ◌<◌, T, eqb, leb}
use Rattle.std.proofs.Common.{sym, ap, ap₂, subst, inl, inr, arith, leb→le, eqb→eq, T_not}
use Rattle.std.proofs.Math.Bool.{true, false}
use Rattle.std.proofs.Math.Dec.{eqb_refl}
use Rattle.list_laws.specs.Tests.{both-parts, either}
use Rattle.list_laws.specs.Range.{all, all-at}
use Rattle.symbol.specs.Shapes.{side, bits, core, centre, most_layers, Shaped}
use Rattle.symbol.specs.Places.{Cell, index, turned, core_place, orientation_cell, orientation_place, mode_run, mode_column, mode_cell, mode_place, data_place}
use Rattle.symbol.specs.DataPlaces.{index-row, index-col, index-lt, data-far}

-- a number for each cell of the core square
abbrev no : Bool → Cell → ℕ
no f x = index (2 * core f + 1) x

-- in the core square, and on its edge
unfoldable fits : Bool → Cell → Bool
fits f x = leb x.0 (2 * core f) && leb x.1 (2 * core f)

unfoldable on_edge : Bool → Cell → Bool
on_edge f x = (eqb x.0 0 || eqb x.0 (2 * core f)) || (eqb x.1 0 || eqb x.1 (2 * core f))

-- one computed test for each sequence of cells, and one for the two
unfoldable distinct : Bool → ℕ → (ℕ → Cell) → Bool
distinct f n u = all n (λ a. all n (λ b. eqb a b || not (eqb (no f (u a)) (no f (u b)))))

unfoldable apart : Bool → ℕ → (ℕ → Cell) → ℕ → (ℕ → Cell) → Bool
apart f n u m v = all n (λ a. all m (λ b. not (eqb (no f (u a)) (no f (v b)))))

unfoldable tests : Bool → ℕ → (ℕ → Cell) → Bool
tests f n u = all n (λ k. fits f (u k) && on_edge f (u k)) && distinct f n u

orientation-test : (f : Bool) → T (tests f 12 (orientation_cell f))
unfolding tests fits on_edge distinct all orientation_cell turned core
orientation-test false = tt
orientation-test true = tt

mode-test : (f : Bool) → T (tests f (4 * mode_run f) (mode_cell f))
unfolding tests fits on_edge distinct all mode_cell mode_run mode_column turned core
mode-test false = tt
mode-test true = tt

apart-test : (f : Bool) → T (apart f 12 (orientation_cell f) (4 * mode_run f) (mode_cell f))
unfolding apart all orientation_cell mode_cell mode_run mode_column turned core
apart-test false = tt
apart-test true = tt

apart-is : (f : Bool) (n : ℕ) (u : ℕ → Cell) (m : ℕ) (v : ℕ → Cell) → T (apart f n u m v) → (a b : ℕ) → a < n → b < m → u a ≡ v b → ⊥
unfolding apart
apart-is f n u m v t a b h k e =
    T_not (eqb (no f (u a)) (no f (v b))) (all-at m _ (all-at n _ t a h) b k)
    (subst (λ x. T (eqb (no f (u a)) (no f x))) e (eqb_refl (no f (u a))))

distinct-is : (f : Bool) (n : ℕ) (u : ℕ → Cell) → T (distinct f n u) → (a b : ℕ) → a < n → b < n → u a ≡ u b → a ≡ b
unfolding distinct
distinct-is f n u t a b h k e = go (either (eqb a b) (not (eqb (no f (u a)) (no f (u b)))) (all-at n _ (all-at n _ t a h) b k))
  where
    go : T (eqb a b) ⊎ T (not (eqb (no f (u a)) (no f (u b)))) → a ≡ b
    go (inl x) = eqb→eq a b x
    go (inr x) =
        absurd (T_not (eqb (no f (u a)) (no f (u b))) x (subst (λ z. T (eqb (no f (u a)) (no f z))) e (eqb_refl (no f (u a)))))

-- a cell of the core ring
pub record OnRing (f : Bool) (x : Cell) : Type 0 where
  pub row : x.0 ≤ 2 * core f
  pub col : x.1 ≤ 2 * core f
  pub edge : 0 < x.0 → x.0 < 2 * core f → 0 < x.1 → x.1 < 2 * core f → ⊥

on-ring : (f : Bool) (x : Cell) → T (fits f x && on_edge f x) → OnRing f x
unfolding fits on_edge
on-ring f x t =
    let parts = both-parts (leb x.0 (2 * core f) && leb x.1 (2 * core f)) _ t in
    let inside = both-parts (leb x.0 (2 * core f)) (leb x.1 (2 * core f)) parts.0 in
    record {
      row = leb→le _ _ inside.0;
      col = leb→le _ _ inside.1;
      edge =
          λ a b c d. go a b c d
          (either (eqb x.0 0 || eqb x.0 (2 * core f)) (eqb x.1 0 || eqb x.1 (2 * core f)) parts.1);
    }
  where
    ends : (a : ℕ) → T (eqb a 0 || eqb a (2 * core f)) → 0 < a → a < 2 * core f → ⊥
    ends a t h k = by (either (eqb a 0) (eqb a (2 * core f)) t)
      where
        by : T (eqb a 0) ⊎ T (eqb a (2 * core f)) → ⊥
        by (inl e) = omega (arith, eqb→eq a 0 e)
        by (inr e) = omega (arith, eqb→eq a (2 * core f) e)

    go : 0 < x.0 → x.0 < 2 * core f → 0 < x.1 → x.1 < 2 * core f
        → T (eqb x.0 0 || eqb x.0 (2 * core f)) ⊎ T (eqb x.1 0 || eqb x.1 (2 * core f)) → ⊥
    go a b c d (inl e) = ends x.0 e a b
    go a b c d (inr e) = ends x.1 e c d

pub orientation-on-ring : (f : Bool) (k : ℕ) → k < 12 → OnRing f (orientation_cell f k)
unfolding tests
orientation-on-ring f k h = on-ring f _ (all-at 12 _ (both-parts (all 12 _) _ (orientation-test f)).0 k h)

pub mode-on-ring : (f : Bool) (k : ℕ) → k < 4 * mode_run f → OnRing f (mode_cell f k)
unfolding tests
mode-on-ring f k h = on-ring f _ (all-at (4 * mode_run f) _ (both-parts (all (4 * mode_run f) _) _ (mode-test f)).0 k h)

module _ (f : Bool) (n : ℕ) (room : 2 * core f < n) where
  module _ (x : Cell) (w : OnRing f x) where
    pub core-row : core_place f n x / n ≡ n / 2 - core f + x.0
    unfolding core_place
    core-row = index-row n _ _ (omega (arith, w.col))

    pub core-col : core_place f n x % n ≡ n / 2 - core f + x.1
    unfolding core_place
    core-col = index-col n _ _ (omega (arith, w.col))

    pub core-lt : core_place f n x < n * n
    unfolding core_place
    core-lt = index-lt n _ _ (omega (arith, w.row)) (omega (arith, w.col))

  core-one : (x y : Cell) → OnRing f x → OnRing f y → core_place f n x ≡ core_place f n y → x ≡ y
  core-one x y v w e =
      let a : x.0 ≡ y.0 = omega (arith, core-row x v, core-row y w, ap (λ z. z / n) e) in
      let b : x.1 ≡ y.1 = omega (arith, core-col x v, core-col y w, ap (λ z. z % n) e) in
      ap₂ (λ (a b : ℕ). (a, b)) a b

  pub orientation-lt : (k : ℕ) → k < 12 → orientation_place f n k < n * n
  unfolding orientation_place
  orientation-lt k h = core-lt _ (orientation-on-ring f k h)

  pub mode-lt : (k : ℕ) → k < 4 * mode_run f → mode_place f n k < n * n
  unfolding mode_place
  mode-lt k h = core-lt _ (mode-on-ring f k h)

  pub orientation-one : (a b : ℕ) → a < 12 → b < 12 → orientation_place f n a ≡ orientation_place f n b → a ≡ b
  unfolding orientation_place tests
  orientation-one a b h k e =
      distinct-is f 12 (orientation_cell f) (both-parts (all 12 _) _ (orientation-test f)).1 a b h k
      (core-one _ _ (orientation-on-ring f a h) (orientation-on-ring f b k) e)

  pub mode-one : (a b : ℕ) → a < 4 * mode_run f → b < 4 * mode_run f → mode_place f n a ≡ mode_place f n b → a ≡ b
  unfolding mode_place tests
  mode-one a b h k e =
      distinct-is f (4 * mode_run f) (mode_cell f) (both-parts (all (4 * mode_run f) _) _ (mode-test f)).1 a b h k
      (core-one _ _ (mode-on-ring f a h) (mode-on-ring f b k) e)

  pub mode-orientation : (a b : ℕ) → a < 4 * mode_run f → b < 12 → mode_place f n a ≢ orientation_place f n b
  unfolding mode_place orientation_place
  mode-orientation a b h k e =
      apart-is f 12 (orientation_cell f) (4 * mode_run f) (mode_cell f) (apart-test f) b a k h
      (core-one _ _ (orientation-on-ring f b k) (mode-on-ring f a h) (sym e))

module _ (f : Bool) (L : ℕ) (sh : Shaped f L) where
  pub core-room : 2 * core f < side f L
  unfolding most_layers core side
  core-room = go f sh
    where
      go : (f : Bool) → Shaped f L → 2 * core f < side f L
      go false s = omega (arith, s.some)
      go true s = omega (arith, s.some)

  core-data : (x : Cell) → OnRing f x → (i : ℕ) → i < bits f L → data_place f L i ≢ core_place f (side f L) x
  unfolding centre
  core-data x w i h =
      let a = core-row f (side f L) core-room x w in
      let b = core-col f (side f L) core-room x w in
      data-far f L sh i h (core_place f (side f L) x) (omega (arith, core-room)) (omega (arith, core-room, w.row))
      (omega (arith, core-room)) (omega (arith, core-room, w.col))

  pub data-orientation : (i k : ℕ) → i < bits f L → k < 12 → data_place f L i ≢ orientation_place f (side f L) k
  unfolding orientation_place
  data-orientation i k h l = core-data _ (orientation-on-ring f k l) i h

  pub data-mode : (i k : ℕ) → i < bits f L → k < 4 * mode_run f → data_place f L i ≢ mode_place f (side f L) k
  unfolding mode_place
  data-mode i k h l = core-data _ (mode-on-ring f k l) i h
