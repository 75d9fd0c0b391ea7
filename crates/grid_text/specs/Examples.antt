-- Small grids, right and wrong: what the definitions give for them.
-- Assumes nothing.
use Rattle.std.specs.Prelude.{◌≡◌, refl, List, [], ◌∷◌, ℕ, Some, None}
use Rattle.grid_text.specs.Kinds.{kind_of}
use Rattle.grid_text.specs.Scanning.{step, shown}
use Rattle.grid_text.specs.Grid.{after, modules, side_in, judged, is_bitmap, side_of, modules_of}

-- "01\n\n? 2": two rows, a blank line between them, no line feed at the end
abbrev rows : List ℕ
rows = 48 ∷ 49 ∷ 10 ∷ 10 ∷ 63 ∷ 32 ∷ 50 ∷ []

pub rows-side : side_of rows 4 ≡ Some 2
unfolding side_of is_bitmap after modules side_in judged step shown kind_of
rows-side = refl

pub rows-modules : modules_of rows ≡ 0 ∷ 1 ∷ 2 ∷ 2 ∷ []
unfolding modules_of is_bitmap modules step shown kind_of
rows-modules = refl

-- no room for four modules
pub rows-no-room : side_of rows 3 ≡ None
unfolding side_of is_bitmap after modules side_in judged step shown kind_of
rows-no-room = refl

-- "01\n0": a short row; "01": one row of two; "0x": no module
pub short_row : side_of (48 ∷ 49 ∷ 10 ∷ 48 ∷ []) 9 ≡ None
unfolding side_of is_bitmap after modules side_in judged step shown kind_of
short_row = refl

pub one-row : side_of (48 ∷ 49 ∷ []) 9 ≡ None
unfolding side_of is_bitmap after modules side_in judged step shown kind_of
one-row = refl

pub no-module : side_of (48 ∷ 120 ∷ []) 9 ≡ None
unfolding side_of is_bitmap after modules side_in judged step shown kind_of
no-module = refl

pub nothing : side_of [] 9 ≡ None
unfolding side_of is_bitmap after modules side_in judged step shown kind_of
nothing = refl

-- "P1#2\n 2 2\n101\n1\n": a comment that counts for nothing, and rows broken anywhere
abbrev bitmap : List ℕ
bitmap = 80 ∷ 49 ∷ 35 ∷ 50 ∷ 10 ∷ 32 ∷ 50 ∷ 32 ∷ 50 ∷ 10 ∷ 49 ∷ 48 ∷ 49 ∷ 10 ∷ 49 ∷ 10 ∷ []

pub bitmap-side : side_of bitmap 4 ≡ Some 2
unfolding side_of is_bitmap after modules side_in judged step shown kind_of
bitmap-side = refl

pub bitmap-modules : modules_of bitmap ≡ 1 ∷ 0 ∷ 1 ∷ 1 ∷ []
unfolding modules_of is_bitmap modules step shown kind_of
bitmap-modules = refl

-- "P1 1 2\n11": not square; "P1 1 1\n11": a module too many; "P1 1 1\n2": no module of a bitmap; "P1 256 256 ": a side above 255
pub not-square : side_of (80 ∷ 49 ∷ 32 ∷ 49 ∷ 32 ∷ 50 ∷ 10 ∷ 49 ∷ 49 ∷ []) 9 ≡ None
unfolding side_of is_bitmap after modules side_in judged step shown kind_of
not-square = refl

pub too_many : side_of (80 ∷ 49 ∷ 32 ∷ 49 ∷ 32 ∷ 49 ∷ 10 ∷ 49 ∷ 49 ∷ []) 9 ≡ None
unfolding side_of is_bitmap after modules side_in judged step shown kind_of
too_many = refl

pub unread-in-bitmap : side_of (80 ∷ 49 ∷ 32 ∷ 49 ∷ 32 ∷ 49 ∷ 10 ∷ 50 ∷ []) 9 ≡ None
unfolding side_of is_bitmap after modules side_in judged step shown kind_of
unread-in-bitmap = refl

pub too_wide : side_of (80 ∷ 49 ∷ 32 ∷ 50 ∷ 53 ∷ 54 ∷ 32 ∷ 50 ∷ 53 ∷ 54 ∷ 32 ∷ []) 9 ≡ None
unfolding side_of is_bitmap after modules side_in judged step shown kind_of
too_wide = refl
