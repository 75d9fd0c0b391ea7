-- The loops of folding: a chunk added to a class, a row added to the values.
-- Assumes nothing.
use mathlib.Core.Path.{◌≡◌, ap, ap₂, ◌∙◌}
use mathlib.Core.List.{List}
use Prim.Native.Nat.{ℕ, ◌+◌, ◌*◌, ◌%◌, ◌<◌}
use native.Mathlib.Nat.{le_refl, mod-lt, mod-add-mod}
use native.Mathlib.Omega.{arith}
use lib.Arith.{digits_lt}
use lib.ListN.{length, get_or, set}
use Rattle.list_laws.specs.Filled.{filled, filled-step}
use Rattle.finite_field.specs.Xor.{◌⊕◌}
use Rattle.finite_field.specs.Field.{WordSize, product, power}
use Rattle.evaluation.specs.Evaluation.{Placed}
use Rattle.evaluation.proofs.Placing.{not-yet-placed, placed-next}
use Rattle.evaluation.proofs.Elements.{not-yet-filled}

-- the class of j + 1 is the one after that of j
pub class-next : (m j : ℕ) {class next : ℕ} → class ≡ j % m → next ≡ (class + 1) % m → next ≡ (j + 1) % m
class-next m j e n = n ∙ ap (λ c. (c + 1) % m) e ∙ mod-add-mod j m 1

pub class-lt : {m : ℕ} (j : ℕ) {class : ℕ} → 0 < m → class ≡ j % m → class < m
class-lt j pos e = omega (arith, mod-lt j pos)

-- word r of a class is one of the m classes' words
pub at-class : (j m stride : ℕ) {class r : ℕ} → class ≡ j % m → 0 < m → r < stride → class * stride + r < m * stride
at-class j m stride e pos l = digits_lt (class-lt j pos e) l

module _ (s : WordSize) where
  -- word r of a chunk: that of the class times 2^e, and the one added
  abbrev pub adding : ℕ → List ℕ → ℕ → List ℕ → ℕ → ℕ → ℕ
  adding e from at to into r = product s (get_or to (into + r) 0) (power s e) ⊕ get_or from (at + r) 0

  pub adding-next : (e : ℕ) (from : List ℕ) (at into r : ℕ) {before now : List ℕ} {v : ℕ}
      → Placed (adding e from at before into) into r before now
      → v ≡ product s (get_or now (into + r) 0) (power s e) → into + r < length before
      → Placed (adding e from at before into) into (r + 1) before (set now (into + r) (v ⊕ get_or from (at + r) 0))
  adding-next e from at into r h ev l =
      placed-next h (ap (λ a. a ⊕ get_or from (at + r) 0) (ev ∙ ap (λ a. product s a (power s e)) (not-yet-placed h))) l

  -- value j, with coefficient r of its class added
  abbrev pub rowing : ℕ → ℕ → ℕ → ℕ → List ℕ → List ℕ → ℕ → ℕ
  rowing first m stride r from out j =
      product s (get_or out j 0) (power s (first + j)) ⊕ get_or from ((first + j) % m * stride + r) 0

  pub rowing-next : (first m stride r j : ℕ) (from l : List ℕ) {b : List ℕ} {class v : ℕ} → b ≡ filled (rowing first m stride r from l) j l
      → class ≡ (first + j) % m → v ≡ product s (get_or b j 0) (power s (first + j)) → j < length l
      → set b j (v ⊕ get_or from (class * stride + r) 0) ≡ filled (rowing first m stride r from l) (j + 1) l
  rowing-next first m stride r j from l e ec ev h =
      filled-step (rowing first m stride r from l) j l e
      (ap₂ ◌⊕◌
      (ev ∙ ap (λ a. product s a (power s (first + j))) (not-yet-filled (rowing first m stride r from l) j j l e (le_refl j)))
      (ap (λ c. get_or from (c * stride + r) 0) ec)) h
