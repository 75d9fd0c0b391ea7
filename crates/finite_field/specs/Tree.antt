-- A binary tree of 2 ^ d numbers, so that a computed test over a table looks an entry up in d steps and not in 2 ^ d.
-- Assumes nothing.
use Rattle.std.specs.Prelude.{Bool, true, false, List, ◌∷◌, ℕ, zero, suc, ◌-◌, ◌^◌, ltb}

-- a node has the count of its left leaves
pub data Tree : Type 0 where
  leaf : ℕ → Tree
  node : ℕ → Tree → Tree → Tree

-- a choice that computes only the side it takes
abbrev pub branch : {A : Type 0} → Bool → (Unit {0} → A) → (Unit {0} → A) → A
branch true f g = f tt
branch false f g = g tt

abbrev pub look : Tree → ℕ → ℕ
look (leaf x) i = x
look (node n l r) i = branch (ltb i n) (λ u. look l i) (λ u. look r (i - n))

abbrev pub put : Tree → ℕ → ℕ → Tree
put (leaf y) i x = leaf x
put (node n l r) i x = branch (ltb i n) (λ u. node n (put l i x) r) (λ u. node n l (put r (i - n) x))

abbrev pub blank : ℕ → Tree
blank zero = leaf 0
blank (suc d) = node (2 ^ d) (blank d) (blank d)

-- the leaves from left to right, before a list
abbrev pub leaves : Tree → List ℕ → List ℕ
leaves (leaf x) xs = x ∷ xs
leaves (node n l r) xs = leaves l (leaves r xs)
