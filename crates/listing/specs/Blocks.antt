-- A run may be listed block by block: no record reaches over the end of a block of whole records.
-- Assumes nothing.
use Rattle.std.specs.Prelude.{◌≡◌, drop}
use Rattle.std.proofs.Math.Path.{refl, sym, ap, ap₂}
use Rattle.std.proofs.Common.{◌∙◌, add-zero, add-suc, add_assoc}
use mathlib.Core.List.{List, [], ◌∷◌, ◌++◌, append_assoc, append-nil}
use Prim.Native.Nat.{ℕ, zero, suc, ◌+◌, ◌*◌, ◌≤◌, ◌<◌}
use native.Mathlib.Omega.{arith}
use Rattle.std.proofs.Math.ListN.{length, take, length-append, length-drop}
use Rattle.std.proofs.Math.Seq.{take-append-le, drop-append-add}
use Rattle.std.proofs.lemmas.List.{drop-append-le}
use Rattle.listing.specs.Line.{line_of, records, record_at, first_lines, lines_from}

module _ (a b : List ℕ) (m : ℕ) (whole : length a ≡ 32 * m) where
  record-before : (k : ℕ) → k < m → record_at (a ++ b) k ≡ record_at a k
  unfolding record_at
  record-before k h =
      ap (take 32) (drop-append-le (32 * k) a b (omega arith))
      ∙ take-append-le 32 (drop (32 * k) a) b (omega (arith, length-drop (32 * k) a))

  record-after : (k : ℕ) → record_at (a ++ b) (m + k) ≡ record_at b k
  unfolding record_at
  record-after k =
      ap (λ n. take 32 (drop n (a ++ b))) (let z : 32 * (m + k) ≡ length a + 32 * k = omega arith in z)
      ∙ ap (take 32) (drop-append-add a b (32 * k))

  lines-before : (first k : ℕ) → k ≤ m → first_lines first (a ++ b) k ≡ first_lines first a k
  unfolding first_lines
  lines-before first zero h = refl
  lines-before first (suc k) h =
      ap₂ (λ l r. l ++ line_of (first + k) r) (lines-before first k (omega arith)) (record-before k h)

  lines_after : (first k : ℕ) → first_lines first (a ++ b) (m + k) ≡ first_lines first a m ++ first_lines (first + m) b k
  unfolding first_lines
  lines_after first zero =
      ap (first_lines first (a ++ b)) (add-zero m) ∙ lines-before first m (omega arith) ∙ sym (append-nil (first_lines first a m))
  lines_after first (suc k) =
      ap (first_lines first (a ++ b)) (add-suc m k)
      ∙ ap₂ (λ l r. l ++ r) (lines_after first k)
      (ap₂ line_of (sym (add_assoc first m k)) (record-after k))
      ∙ append_assoc (first_lines first a m) (first_lines (first + m) b k) (line_of (first + m + k) (record_at b k))

  pub lines-append : (first : ℕ) → lines_from first (a ++ b) ≡ lines_from first a ++ lines_from (first + m) b
  unfolding lines_from
  lines-append first =
      ap (first_lines first (a ++ b)) (let z : records (length (a ++ b)) ≡ m + records (length b) = omega (arith, length-append a b) in z)
      ∙ lines_after first (records (length b))
      ∙ ap (λ n. first_lines first a n ++ first_lines (first + m) b (records (length b))) (let z : m ≡ records (length a) = omega arith in z)

-- all blocks but the last hold m records
abbrev pub Full : ℕ → List (List ℕ) → Type 0
Full m [] = Unit {0}
Full m (b ∷ []) = Unit {0}
Full m (b ∷ c ∷ bs) = (length b ≡ 32 * m) × Full m (c ∷ bs)

abbrev pub joined : List (List ℕ) → List ℕ
joined [] = []
joined (b ∷ bs) = b ++ joined bs

-- the lines of one block after the other, with m numbers for each
abbrev pub block_lines : ℕ → ℕ → List (List ℕ) → List ℕ
block_lines m first [] = []
block_lines m first (b ∷ bs) = lines_from first b ++ block_lines m (first + m) bs

-- are those of the whole: with `first` 1, `listing` of all the bytes that were read
pub blocks-listed : (m first : ℕ) (bs : List (List ℕ)) → Full m bs → block_lines m first bs ≡ lines_from first (joined bs)
unfolding lines_from first_lines
blocks-listed m first [] f = refl
blocks-listed m first (b ∷ []) f = append-nil (lines_from first b) ∙ ap (lines_from first) (sym (append-nil b))
blocks-listed m first (b ∷ c ∷ bs) f =
    ap (λ l. lines_from first b ++ l) (blocks-listed m (first + m) (c ∷ bs) f.1) ∙ sym (lines-append b (joined (c ∷ bs)) m f.0 first)
