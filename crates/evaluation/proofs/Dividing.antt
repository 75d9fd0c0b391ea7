-- Factors that divide what the classes hold, one by one.
-- Assumes nothing.
use mathlib.Core.Path.{◌≡◌, subst}
use mathlib.Core.List.{List, [], ◌∷◌}
use Prim.Native.Nat.{ℕ, ◌*◌, ◌/◌, ◌<◌}
use native.Mathlib.Omega.{arith}
use lib.ListN.{length}
use Rattle.finite_field.specs.Field.{WordSize}
use Rattle.evaluation.specs.Evaluation.{Divided, Divides}

module _ (s : WordSize) (m per part : ℕ) where
  pub divides-now : (factors : List ℕ) → Divides s m per part factors → Divided s m per part
  unfolding Divides
  divides-now [] d = d.0
  divides-now (next ∷ factors) d = d.0

  pub divides-none : (factors : List ℕ) → length factors ≡ 0 → Divides s m per part factors → 1 < m
  unfolding Divides
  divides-none [] e d = d.1
  divides-none (next ∷ factors) e d = absurd (omega (arith, e))

  module _ {next : ℕ} {l factors : List ℕ} (e : l ≡ next ∷ factors) (d : Divides s m per part l) where
    pub divides-same : next * (part / next) ≡ part
    unfolding Divides
    divides-same = (subst (Divides s m per part) e d).1

    pub divides-next : Divides s (m * per) next (part / next) factors
    unfolding Divides
    divides-next = (subst (Divides s m per part) e d).2
