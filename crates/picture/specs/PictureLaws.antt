-- How the lines grow, column by column, and how long they get.
-- Assumes nothing.
use Rattle.std.specs.Prelude.{◌≡◌, refl, Bool, true, false, ◌&&◌, List, ◌++◌, ℕ, zero, suc, ◌+◌, ◌*◌, ◌-◌, ◌≤◌, ◌<◌, length, leb, ltb}
use Rattle.std.proofs.Common.{sym, ap, ap₂, ◌∙◌, append_assoc, append-nil, mul-le-mul_right, arith, add-one, length-append, leb-true, ltb-true}
use Rattle.picture.specs.Picture.{extent, inside, dark, joined, glyph, upper, two_rows, black_on_white, white, reset, pair_line, half_line}
use Rattle.list_laws.specs.Putting.{Put, put_same, put-none, put_then}

-- a row or column of the symbol
pub inside-true : (side k : ℕ) → inside side k ≡ true → (2 ≤ k) × (k - 2 < side)
inside-true side k e = go (leb 2 k) refl e
  where
    go : (b : Bool) → leb 2 k ≡ b → b && ltb (k - 2) side ≡ true → (2 ≤ k) × (k - 2 < side)
    go true l e = (leb-true 2 k l, ltb-true (k - 2) side e)
    go false l e = absurd (let z : ◌≡◌ {A = ℕ} 0 1 = cc in omega arith)

pub in-grid : (y x side : ℕ) → y < side → x < side → y * side + x < side * side
in-grid y x side h k = omega (arith, mul-le-mul_right side h)

pub joined-suc : (f : ℕ → List ℕ) (n : ℕ) → joined f (n + 1) ≡ joined f n ++ f n
unfolding joined
joined-suc f n = rw add-one

pub length-joined : (f : ℕ → List ℕ) (m : ℕ) → ((i : ℕ) → length (f i) ≤ m) → (n : ℕ) → length (joined f n) ≤ m * n
unfolding joined
length-joined f m h zero = omega arith
length-joined f m h (suc n) = omega (arith, length-append (joined f n) (f n), length-joined f m h n, h n)

pub glyph-length : (top bottom : Bool) → length (glyph top bottom) ≤ 3
unfolding glyph
glyph-length true true = omega arith
glyph-length true false = omega arith
glyph-length false true = omega arith
glyph-length false false = omega arith

-- one turn of a loop that puts a text for each column
pub put_next : (f : ℕ → List ℕ) (n : ℕ) {l m k : List ℕ} {from at next : ℕ}
    → Put (joined f n) l from m at → Put (f n) m at k next → Put (joined f (n + 1)) l from k next
put_next f n p q = put_same (sym (joined-suc f n)) (put_then p q)

pub put-start : (f : ℕ → List ℕ) (l : List ℕ) (from : ℕ) → Put (joined f 0) l from l from
unfolding joined
put-start f l from = put-none l from

-- the same of a line that grows at its end
pub grown_next : (f : ℕ → List ℕ) (n : ℕ) (a : List ℕ) {l m t : List ℕ} → l ≡ a ++ joined f n → m ≡ l ++ t → t ≡ f n → m ≡ a ++ joined f (n + 1)
grown_next f n a p q e = q ∙ ap₂ (λ x y. x ++ y) p e ∙ append_assoc a (joined f n) (f n) ∙ ap (λ x. a ++ x) (sym (joined-suc f n))

pub grown-start : (f : ℕ → List ℕ) (l : List ℕ) → l ≡ l ++ joined f 0
unfolding joined
grown-start f l = sym (append-nil l)

-- no column takes more than three bytes
pub rows-length : (grid : List ℕ) (side row n : ℕ) → length (joined (two_rows grid side row) n) ≤ 3 * n
rows-length grid side row =
    length-joined (two_rows grid side row) 3 (λ column. glyph-length (dark grid side row column) (dark grid side (row + 1) column))

pub upper-length : (n : ℕ) → length (joined (λ column. upper) n) ≤ 3 * n
upper-length = length-joined (λ column. upper) 3 (λ column. omega arith)

-- a line has room in 512 bytes
pub pair-length : (grid : List ℕ) (side row : ℕ) → side ≤ 151 → length (pair_line grid side row) ≤ 512
unfolding pair_line
pair-length grid side row h =
    let cells = joined (two_rows grid side row) (extent side) in
    omega (arith, length-append (black_on_white ++ cells) reset, length-append black_on_white cells, rows-length grid side row (extent side))

pub half_length : (side : ℕ) → side ≤ 151 → length (half_line side) ≤ 512
unfolding half_line
half_length side h =
    let cells = joined (λ column. upper) (extent side) in
    omega (arith, length-append (white ++ cells) reset, length-append white cells, upper-length (extent side))
