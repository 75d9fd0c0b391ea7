-- The walk over the layers of data bits, from the outermost inward, with a table of lines: what is known of a layer on the way, and where
-- its bits stand.
-- Assumes nothing.
use Rattle.std.specs.Prelude.{◌≡◌, Bool, List, ℕ, zero, suc, ◌+◌, ◌*◌, ◌-◌, ◌/◌, ◌%◌, ◌≤◌, ◌<◌, length, get_or}
use Rattle.std.proofs.Math.Path.{sym, ap, ap₂}
use Rattle.std.proofs.Common.{◌∙◌}
use native.Mathlib.Omega.{arith}
use Rattle.list_laws.specs.Writes.{writes, writes-same}
use Rattle.symbol.specs.declared.places.Layer.{Layer}
use Rattle.symbol.specs.Shapes.{side, square, bits, bits_most, Shaped}
use Rattle.symbol.specs.Places.{Cell, index, domino, layer_cell, shifted, cell, spread, data_place}
use Rattle.symbol.specs.Layers.{total, cell-outer, cell-inner}
use Rattle.symbol.specs.DataPlaces.{index-row, index-col, rows-lt, most-layers, side-most, square-most, bits-total, square-large, spread-lt, data-inside}

-- a table of where the rows or columns of the square stand among all
abbrev pub Lined : Bool → ℕ → List ℕ → Type 0
Lined f L lines = (a : ℕ) → a < square f L → get_or lines a 0 ≡ spread f L a

-- a cell of the square whose row and column the table has, in a symbol of side n
pub record InTable (lines : List ℕ) (n : ℕ) (x : Cell) : Type 0 where
  pub row : x.0 < 142
  pub col : x.1 < 142
  pub most : n ≤ 151
  pub row_lt : get_or lines x.0 0 < n
  pub col-lt : get_or lines x.1 0 < n

abbrev pub table_place : List ℕ → ℕ → Cell → ℕ
table_place lines n x = index n (get_or lines x.0 0, get_or lines x.1 0)

pub lined : (f : Bool) (L : ℕ) (l : List ℕ) {lines : List ℕ} → square f L ≤ length l → lines ≡ writes l (λ a. a) (spread f L) (square f L)
    → Lined f L lines
lined f L l h e a k =
    ap (λ l. get_or l a 0) e ∙ writes-same 0 l (λ a. a) (spread f L) (square f L) (λ i j x y z. z) (λ i x. omega arith) a k

-- the bits on one side of a layer
abbrev pub run : Layer → ℕ
run x = 2 * (x.square - 2)

-- the layer inside of one
abbrev pub within : Layer → Layer
within x = record { left = x.left - 1; square = x.square - 4; outer = x.outer + 2; first = x.first + 8 * (x.square - 2) }

-- the bits from `first` on are those of the layers that are left
pub record Walked (f : Bool) (L : ℕ) (x : Layer) : Type 0 where
  pub same : (i : ℕ) → cell x.left x.square x.outer i ≡ cell L (square f L) 0 (x.first + i)
  pub large : 11 + 4 * x.left ≤ x.square
  pub around : x.square + 2 * x.outer ≡ square f L
  pub count : x.first + total x.left x.square ≡ bits f L

pub walked-first : (f : Bool) (L S : ℕ) → S ≡ square f L → Walked f L (record { left = L; square = S; outer = 0; first = 0 })
walked-first f L S e =
    record {
      same = λ i. ap₂ (λ (S i : ℕ). cell L S 0 i) e (let z : i ≡ 0 + i = omega arith in z);
      large = omega (arith, square-large f L);
      around = omega arith;
      count = ap (λ S. 0 + total L S) e ∙ (let z : 0 + total L (square f L) ≡ bits f L = omega (arith, bits-total f L) in z);
    }

pub walked-last : {f : Bool} {L : ℕ} {x : Layer} → Walked f L x → x.left ≡ 0 → x.first ≡ bits f L
unfolding total
walked-last {x = x} w e = omega (arith, w.count, ap (λ l. total l x.square) e)

next-cell : (l S o i : ℕ) → 0 < l → cell (l - 1) (S - 4) (o + 2) i ≡ cell l S o (8 * (S - 2) + i)
next-cell zero S o i h = absurd (omega arith)
next-cell (suc l) S o i h =
    ap₂ (λ (l i : ℕ). cell l (S - 4) (o + 2) i) (let z : suc l - 1 ≡ l = omega arith in z)
    (let z : i ≡ 8 * (S - 2) + i - 8 * (S - 2) = omega arith in z)
    ∙ sym (cell-inner l S o (8 * (S - 2) + i) (omega arith))

next-total : (l S : ℕ) → 0 < l → total l S ≡ 8 * (S - 2) + total (l - 1) (S - 4)
unfolding total
next-total zero S h = absurd (omega arith)
next-total (suc l) S h = ap (λ l. 8 * (S - 2) + total l (S - 4)) (let z : l ≡ suc l - 1 = omega arith in z)

first_cell : (l S o i : ℕ) → 0 < l → i < 8 * (S - 2) → cell l S o i ≡ shifted o (layer_cell S i)
first_cell zero S o i h k = absurd (omega arith)
first_cell (suc l) S o i h k = cell-outer l S o i k

-- what the writing of a layer takes: the table of lines, and room for all bits
pub record Ready (f : Bool) (L : ℕ) (lines : List ℕ) (x : Layer) (room : ℕ) : Type 0 where
  pub shaped : Shaped f L
  pub lined : Lined f L lines
  pub walked : Walked f L x
  pub some : 0 < x.left
  pub fits : bits f L ≤ room

module _ {f : Bool} {L : ℕ} {lines : List ℕ} {x : Layer} {room : ℕ} (r : Ready f L lines x room) where
  abbrev w : Walked f L x
  w = r.walked

  pub walked_next : Walked f L (within x)
  walked_next =
      record {
        same =
            λ i. next-cell x.left x.square x.outer i r.some
            ∙ w.same (8 * (x.square - 2) + i)
            ∙ ap (cell L (square f L) 0)
            (let z : x.first + (8 * (x.square - 2) + i) ≡ x.first + 8 * (x.square - 2) + i = omega arith in z);
        large = omega (arith, w.large, r.some);
        around = omega (arith, w.large, w.around, r.some);
        count = omega (arith, w.count, next-total x.left x.square r.some);
      }

  -- the layer's bits are among all
  pub walked-bits : x.first + 4 * run x ≤ bits f L
  walked-bits = omega (arith, w.count, next-total x.left x.square r.some)

  pub walked-fits : (x.first + 4 * run x ≤ room) × (x.first + 4 * run x ≤ 19968)
  walked-fits = (omega (arith, walked-bits, r.fits), omega (arith, walked-bits, bits_most f L (most-layers f L r.shaped)))

  -- bit b of domino j on side s, its bit m
  module _ (s j b m : ℕ) (h : s < 4) (k : j < x.square - 2) (l : b < 2) (d : m ≡ 2 * j + b) where
    abbrev i : ℕ
    i = s * run x + m

    abbrev here : Cell
    here = shifted x.outer (domino s x.square j b)

    below : i < 4 * run x
    below = rows-lt 4 (run x) s m h (omega arith)

    walked-cell : cell L (square f L) 0 (x.first + i) ≡ here
    unfolding layer_cell
    walked-cell =
        let m-lt : m < run x = omega arith in
        let half : i % run x / 2 ≡ j = omega (arith, index-col (run x) s m m-lt) in
        let bit : i % run x % 2 ≡ b = omega (arith, index-col (run x) s m m-lt) in
        sym (w.same i)
        ∙ first_cell x.left x.square x.outer i r.some (omega (arith, below))
        ∙ ap₂ (λ (s j : ℕ). shifted x.outer (domino s x.square j (i % run x % 2))) (index-row (run x) s m m-lt) half
        ∙ ap (λ b. shifted x.outer (domino s x.square j b)) bit

    pub walked-index : (x.first + i < room) × (x.first + i < 19968)
    walked-index = (omega (arith, walked-fits, below), omega (arith, walked-fits, below))

    inside : (here.0 < square f L) × (here.1 < square f L)
    inside =
        let c = data-inside f L r.shaped (x.first + i) (omega (arith, walked-bits, below)) in
        (omega (arith, c.row_lt, ap (λ (y : Cell). y.0) walked-cell), omega (arith, c.col-lt, ap (λ (y : Cell). y.1) walked-cell))

    pub walked-in-table : {n : ℕ} → n ≡ side f L → InTable lines n here
    walked-in-table e =
        record {
          row = omega (arith, inside, square-most f L r.shaped);
          col = omega (arith, inside, square-most f L r.shaped);
          most = omega (arith, side-most f L r.shaped);
          row_lt = omega (arith, spread-lt f L here.0 r.shaped inside.0, r.lined here.0 inside.0);
          col-lt = omega (arith, spread-lt f L here.1 r.shaped inside.1, r.lined here.1 inside.1);
        }

    pub walked-place : {n v : ℕ} → n ≡ side f L → v ≡ table_place lines n here → v ≡ data_place f L (x.first + i)
    unfolding data_place
    walked-place {n} e d =
        d
        ∙ ap₂ (λ (a b : ℕ). a * n + b) (r.lined here.0 inside.0) (r.lined here.1 inside.1)
        ∙ ap (λ n. index n (spread f L here.0, spread f L here.1)) e
        ∙ ap (λ (y : Cell). index (side f L) (spread f L y.0, spread f L y.1)) (sym walked-cell)
