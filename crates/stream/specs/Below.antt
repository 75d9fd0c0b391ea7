-- Lists of bits and of bytes: every entry of a list of numbers is below a bound.
-- Assumes nothing.
use Rattle.std.specs.Prelude.{List, [], ◌∷◌, ◌++◌, ℕ, zero, suc, ◌<◌, length, get_or, take, drop}
use Rattle.std.proofs.Common.{suc-le-suc, zero-lt-suc, le_of_suc-le-suc, not-suc-le-zero}

abbrev pub Below : ℕ → List ℕ → Type 0
Below n [] = Unit {0}
Below n (x ∷ l) = (x < n) × Below n l

abbrev pub Bits : List ℕ → Type 0
Bits = Below 2

abbrev pub Bytes : List ℕ → Type 0
Bytes = Below 256

module _ (n : ℕ) where
  pub below-append : (p q : List ℕ) → Below n p → Below n q → Below n (p ++ q)
  below-append [] q x y = y
  below-append (a ∷ p) q x y = (x.0, below-append p q x.1 y)

  pub below-take : (i : ℕ) (l : List ℕ) → Below n l → Below n (take i l)
  below-take zero l x = tt
  below-take (suc i) [] x = tt
  below-take (suc i) (a ∷ l) x = (x.0, below-take i l x.1)

  pub below-drop : (i : ℕ) (l : List ℕ) → Below n l → Below n (drop i l)
  below-drop zero l x = x
  below-drop (suc i) [] x = tt
  below-drop (suc i) (a ∷ l) x = below-drop i l x.1

  -- from the bound of each entry, as a slice gives it, and back
  pub below_of : (l : List ℕ) → ((i : ℕ) → i < length l → get_or l i 0 < n) → Below n l
  below_of [] f = tt
  below_of (a ∷ l) f = (f zero (zero-lt-suc (length l)), below_of l (λ i h. f (suc i) (suc-le-suc h)))

  pub below_at : (l : List ℕ) → Below n l → (i : ℕ) → i < length l → get_or l i 0 < n
  below_at [] x i h = absurd (not-suc-le-zero h)
  below_at (a ∷ l) x zero h = x.0
  below_at (a ∷ l) x (suc i) h = below_at l x.1 i (le_of_suc-le-suc h)
