-- The modules of a sampled grid (document 01, "Modules and shapes"): 0 light, 1 dark, 2 unread.
-- Assumes nothing.
use Rattle.std.specs.Prelude.{Bool, List, ℕ, leb, length, get_or}
use Rattle.list_laws.specs.Range.{all}

-- not 13: no module is above 2
unfoldable pub lawful_modules : List ℕ → Bool
lawful_modules g = all (length g) (λ k. leb (get_or g k 0) 2)
