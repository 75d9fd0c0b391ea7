-- Computed examples of the text of a grid and of light borders (crate grid_text): what each byte is, both sides of each limit, texts that
-- are grids and texts that are none. The values were reckoned by hand.
-- Assumes nothing.
use Rattle.std.specs.Prelude.{◌≡◌, refl, Bool, true, false, List, [], ◌∷◌, map, ℕ, Option, Some, None, set, replicate}
use Rattle.list_laws.specs.Filled.{tabulate}
use Rattle.list_laws.specs.Range.{all}
use Rattle.grid_text.specs.declared.kinds.Kind.TheVariants.{Line, Blank, Digit, Unread, Hash, Other}
use Rattle.grid_text.specs.declared.scanning.Scan.TheVariants.{Number, Rows, Bad}
use Rattle.grid_text.specs.Kinds.{kind_of}
use Rattle.grid_text.specs.Scanning.{number, more_modules, step, shown}
use Rattle.grid_text.specs.Grid.{after, modules, side_in, judged, is_bitmap, side_of, modules_of}
use Rattle.grid_text.specs.Border.{light_ring, inner_module, inner}

-- "10 a line feed; 32, 9 and 13 blank; 63 `?`; 35 `#`; 48 to 57 digits"
pub kinds : map kind_of (9 ∷ 10 ∷ 11 ∷ 12 ∷ 13 ∷ 32 ∷ 35 ∷ 47 ∷ 48 ∷ 57 ∷ 58 ∷ 63 ∷ 80 ∷ 0 ∷ 255 ∷ [])
    ≡ Blank ∷ Line ∷ Other ∷ Other ∷ Blank ∷ Blank ∷ Hash ∷ Other ∷ Digit 0 ∷ Digit 9 ∷ Other ∷ Unread ∷ Other ∷ Other ∷ Other ∷ []
unfolding kind_of
kinds = refl

-- "up to 255": the number 25 and one digit more, 255 modules of a row and one more
pub most : (number None 25 (Digit 5) ∷ number None 25 (Digit 6) ∷ more_modules None 254 ∷ more_modules None 255 ∷ [])
    ≡ Number None 255 ∷ Bad ∷ Rows None 255 ∷ Bad ∷ []
most = refl

-- a text and its side in a buffer of nine modules, if it is a grid
pub record Sided : Type 0 where
  pub text : List ℕ
  pub side : Option ℕ

abbrev sided : Option ℕ → List ℕ → Sided
sided n l = record { text = l; side = n }

-- the grids are "2", "1\r\n", "0 1\r\n1\t?\r\n", "P1 1 1 1", "P1 2#c\n2\n1011", "\n\n1" and "P1 1 1\n 1". Those that are none have a module
-- 3, a longer row, a comment among rows, no P1, no numbers, a width of 0, in a bitmap an unread module and a comment, a module too few, a
-- letter in the header, a letter alone, a 2 in a bitmap behind its module, and a 3 in rows that have four modules without it
unfoldable pub texts : List Sided
texts =
    sided (Some 1) (50 ∷ [])
    ∷ sided (Some 1) (49 ∷ 13 ∷ 10 ∷ [])
    ∷ sided (Some 2) (48 ∷ 32 ∷ 49 ∷ 13 ∷ 10 ∷ 49 ∷ 9 ∷ 63 ∷ 13 ∷ 10 ∷ [])
    ∷ sided (Some 1) (80 ∷ 49 ∷ 32 ∷ 49 ∷ 32 ∷ 49 ∷ 32 ∷ 49 ∷ [])
    ∷ sided (Some 2) (80 ∷ 49 ∷ 32 ∷ 50 ∷ 35 ∷ 99 ∷ 10 ∷ 50 ∷ 10 ∷ 49 ∷ 48 ∷ 49 ∷ 49 ∷ [])
    ∷ sided (Some 1) (10 ∷ 10 ∷ 49 ∷ [])
    ∷ sided (Some 1) (80 ∷ 49 ∷ 32 ∷ 49 ∷ 32 ∷ 49 ∷ 10 ∷ 32 ∷ 49 ∷ [])
    ∷ sided None (51 ∷ [])
    ∷ sided None (48 ∷ 10 ∷ 48 ∷ 49 ∷ [])
    ∷ sided None (35 ∷ 10 ∷ 49 ∷ [])
    ∷ sided None (80 ∷ 50 ∷ 32 ∷ 49 ∷ 32 ∷ 49 ∷ 10 ∷ 49 ∷ [])
    ∷ sided None (80 ∷ 49 ∷ [])
    ∷ sided None (80 ∷ 49 ∷ 32 ∷ 48 ∷ 32 ∷ 49 ∷ 32 ∷ 49 ∷ 10 ∷ 49 ∷ [])
    ∷ sided None (80 ∷ 49 ∷ 32 ∷ 49 ∷ 32 ∷ 49 ∷ 10 ∷ 63 ∷ [])
    ∷ sided None (80 ∷ 49 ∷ 32 ∷ 49 ∷ 32 ∷ 49 ∷ 10 ∷ 49 ∷ 35 ∷ 10 ∷ 49 ∷ [])
    ∷ sided None (80 ∷ 49 ∷ 32 ∷ 50 ∷ 32 ∷ 50 ∷ 10 ∷ 49 ∷ 48 ∷ 49 ∷ [])
    ∷ sided None (80 ∷ 49 ∷ 32 ∷ 49 ∷ 120 ∷ 49 ∷ 32 ∷ 49 ∷ [])
    ∷ sided None (120 ∷ [])
    ∷ sided None (80 ∷ 49 ∷ 32 ∷ 49 ∷ 32 ∷ 49 ∷ 10 ∷ 49 ∷ 50 ∷ [])
    ∷ sided None (51 ∷ 49 ∷ 10 ∷ 49 ∷ 49 ∷ 10 ∷ 49 ∷ 51 ∷ [])
    ∷ []

pub sides-right : map (λ (t : Sided). side_of t.text 9) texts ≡ map (λ (t : Sided). t.side) texts
unfolding texts side_of is_bitmap after modules side_in judged step shown kind_of
sides-right = refl

-- the modules of the third text, and of the fifth
pub modules-right :
    map modules_of
    ((48 ∷ 32 ∷ 49 ∷ 13 ∷ 10 ∷ 49 ∷ 9 ∷ 63 ∷ 13 ∷ 10 ∷ [])
    ∷ (80 ∷ 49 ∷ 32 ∷ 50 ∷ 35 ∷ 99 ∷ 10 ∷ 50 ∷ 10 ∷ 49 ∷ 48 ∷ 49 ∷ 49 ∷ [])
    ∷ [])
    ≡ (0 ∷ 1 ∷ 1 ∷ 2 ∷ []) ∷ (1 ∷ 0 ∷ 1 ∷ 1 ∷ []) ∷ []
unfolding modules_of is_bitmap modules step shown kind_of
modules-right = refl

-- the modules met of texts that are no grids: three rows of one; nothing from the first wrong byte on, in rows and in a bitmap
pub modules-met :
    map modules_of
    ((49 ∷ 10 ∷ 49 ∷ 10 ∷ 49 ∷ [])
    ∷ (49 ∷ 51 ∷ 49 ∷ [])
    ∷ (35 ∷ 49 ∷ [])
    ∷ (120 ∷ 49 ∷ [])
    ∷ (80 ∷ 49 ∷ 32 ∷ 49 ∷ 32 ∷ 49 ∷ 10 ∷ 48 ∷ 50 ∷ [])
    ∷ (80 ∷ 49 ∷ 32 ∷ 49 ∷ 32 ∷ 49 ∷ 10 ∷ 63 ∷ [])
    ∷ (80 ∷ 49 ∷ 32 ∷ 49 ∷ 32 ∷ 49 ∷ 10 ∷ 35 ∷ [])
    ∷ (80 ∷ 49 ∷ 32 ∷ 49 ∷ 32 ∷ 49 ∷ 10 ∷ 120 ∷ 49 ∷ [])
    ∷ [])
    ≡ (1 ∷ 1 ∷ 1 ∷ []) ∷ (1 ∷ []) ∷ [] ∷ [] ∷ (0 ∷ []) ∷ [] ∷ [] ∷ [] ∷ []
unfolding modules_of is_bitmap modules step shown kind_of
modules-met = refl

-- side² modules and room for them: 9 of 9, 9 of 8, 8 in place of 9
pub judgements : judged 3 9 9 ∷ judged 3 9 8 ∷ judged 3 8 9 ∷ [] ≡ Some 3 ∷ None ∷ None ∷ []
unfolding judged
judgements = refl

-- a grid of side 3, light but for one module, dark or unread: the outermost ring is light if that is the one in the middle
abbrev ring_with : ℕ → ℕ → Bool
ring_with m k = light_ring (set (replicate 9 0) k m) 3 0

pub rings : tabulate (ring_with 1) 9 ∷ tabulate (ring_with 2) 9 ∷ []
    ≡ (false ∷ false ∷ false ∷ false ∷ true ∷ false ∷ false ∷ false ∷ false ∷ [])
    ∷ (false ∷ false ∷ false ∷ false ∷ true ∷ false ∷ false ∷ false ∷ false ∷ [])
    ∷ []
unfolding tabulate all light_ring
rings = refl

-- modules 0 to 24 in a square of side 5: what is left inside of one ring, and of two; the middle is a ring by itself
pub inner-grids : map (λ r. inner (tabulate (λ k. k) 25) 5 r) (1 ∷ 2 ∷ []) ≡ (6 ∷ 7 ∷ 8 ∷ 11 ∷ 12 ∷ 13 ∷ 16 ∷ 17 ∷ 18 ∷ []) ∷ (12 ∷ []) ∷ []
unfolding tabulate inner_module
inner-grids = refl

pub inner-rings : map (λ r. light_ring (set (replicate 25 0) 12 1) 5 r) (0 ∷ 1 ∷ 2 ∷ []) ≡ true ∷ true ∷ false ∷ []
unfolding all light_ring
inner-rings = refl
