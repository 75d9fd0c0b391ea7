-- What `let .. else` knows of a byte that is not of the kind asked for.
-- Assumes nothing.
use mathlib.Core.Path.{◌≡◌}
use mathlib.Core.List.{[], ◌∷◌}
use Prim.Native.Nat.{ℕ}
use denote.Enum.Declared.{tag_of}
use types.Run.{OneOf, miss}
use Rattle.grid_text.specs.declared.kinds.Kind.{Kind}
use Rattle.grid_text.specs.declared.kinds.Kind.TheVariants.{Line, Digit}
use Rattle.grid_text.specs.contracts.kinds.Kind.{the_type}

pub no_line : (k : Kind) → OneOf (1 ∷ 2 ∷ 3 ∷ 4 ∷ 5 ∷ []) (tag_of the_type k) → k ≡ Line → ⊥
no_line k o e = miss (1 ∷ 2 ∷ 3 ∷ 4 ∷ 5 ∷ []) (tag_of the_type k) (rw e tt) o

pub no_digit : (k : Kind) → OneOf (0 ∷ 1 ∷ 3 ∷ 4 ∷ 5 ∷ []) (tag_of the_type k) → (d : ℕ) → k ≡ Digit d → ⊥
no_digit k o d e = miss (0 ∷ 1 ∷ 3 ∷ 4 ∷ 5 ∷ []) (tag_of the_type k) (rw e tt) o
