-- A side that a reading knows isn't 0: neither a number in a bitmap's header nor a row is empty.
-- Assumes nothing.
use Rattle.std.specs.Prelude.{◌≡◌, refl, Bool, true, false, cond, List, [], ◌∷◌, ℕ, ◌+◌, ◌*◌, ◌<◌, Option, Some, None, option_and_then, IfSome, eqb, leb, ltb, length, drop}
use Rattle.std.proofs.Common.{arith}
use borrow.Author.Tests.{eqb-false}
use Rattle.grid_text.specs.declared.kinds.Kind.{Kind}
use Rattle.grid_text.specs.declared.kinds.Kind.TheVariants.{Line, Blank, Digit, Unread, Hash, Other}
use Rattle.grid_text.specs.declared.scanning.Scan.{Scan}
use Rattle.grid_text.specs.declared.scanning.Scan.TheVariants.{Gap, Comment, Number, Raster, Rows, Bad}
use Rattle.grid_text.specs.Kinds.{kind_of}
use Rattle.grid_text.specs.Scanning.{gap, comment, raster, after_value, ended, number, more_modules, whole_row, row_end, rows, step}
use Rattle.grid_text.specs.Grid.{after, modules, side_in, judged, side_from, is_bitmap, side_of}

abbrev Positive : Option ℕ → Type 0
Positive side = IfSome side (λ n. 0 < n)

abbrev Sided : Scan → Type 0
Sided (Gap side) = Positive side
Sided (Comment side) = Positive side
Sided (Number side value) = Positive side
Sided (Raster side) = 0 < side
Sided (Rows side column) = Positive side
Sided Bad = Unit {0}

if_passed : (b : Bool) (s : Scan) → Sided s → Sided (cond b s Bad)
if_passed true s h = h
if_passed false s h = tt

if_failed : (b : Bool) (s : Scan) → Sided s → Sided (cond b Bad s)
if_failed true s h = tt
if_failed false s h = h

in_gap : (side : Option ℕ) (k : Kind) → Positive side → Sided (gap side k)
in_gap side Line h = h
in_gap side Blank h = h
in_gap side (Digit d) h = h
in_gap side Unread h = tt
in_gap side Hash h = h
in_gap side Other h = tt

in_comment : (side : Option ℕ) (k : Kind) → Positive side → Sided (comment side k)
in_comment side Line h = h
in_comment side Blank h = h
in_comment side (Digit d) h = h
in_comment side Unread h = h
in_comment side Hash h = h
in_comment side Other h = h

in_raster : (side : ℕ) (k : Kind) → 0 < side → Sided (raster side k)
in_raster side Line h = h
in_raster side Blank h = h
in_raster side (Digit d) h = if_failed (ltb 1 d) (Raster side) h
in_raster side Unread h = tt
in_raster side Hash h = tt
in_raster side Other h = tt

behind : (side : Option ℕ) (value : ℕ) (k : Kind) → Positive side → 0 < value → Sided (after_value side value k)
behind None value k h l = in_gap (Some value) k l
behind (Some side) value k h l = if_passed (eqb side value) (raster side k) (in_raster side k h)

in_ended : (side : Option ℕ) (value : ℕ) (k : Kind) → Positive side → Sided (ended side value k)
in_ended side value k h = go (eqb value 0) refl
  where
    go : (b : Bool) → eqb value 0 ≡ b → Sided (cond b Bad (after_value side value k))
    go true e = tt
    go false e = behind side value k h (let n = eqb-false value 0 e in omega arith)

in_number : (side : Option ℕ) (value : ℕ) (k : Kind) → Positive side → Sided (number side value k)
in_number side value Line h = in_ended side value Line h
in_number side value Blank h = in_ended side value Blank h
in_number side value (Digit d) h = if_failed (ltb 255 (10 * value + d)) (Number side (10 * value + d)) h
in_number side value Unread h = in_ended side value Unread h
in_number side value Hash h = in_ended side value Hash h
in_number side value Other h = in_ended side value Other h

in_row : (side : Option ℕ) (column : ℕ) → Positive side → Sided (more_modules side column)
in_row side column h = if_passed (ltb column 255) (Rows side (column + 1)) h

at_whole : (side : Option ℕ) (column : ℕ) → Positive side → 0 < column → Sided (whole_row side column)
at_whole None column h l = l
at_whole (Some side) column h l = if_passed (eqb side column) (Rows (Some side) 0) h

at_end : (side : Option ℕ) (column : ℕ) → Positive side → Sided (row_end side column)
at_end side column h = go (eqb column 0) refl
  where
    go : (b : Bool) → eqb column 0 ≡ b → Sided (cond b (Rows side 0) (whole_row side column))
    go true e = h
    go false e = at_whole side column h (let n = eqb-false column 0 e in omega arith)

in_rows : (side : Option ℕ) (column : ℕ) (k : Kind) → Positive side → Sided (rows side column k)
in_rows side column Line h = at_end side column h
in_rows side column Blank h = h
in_rows side column (Digit d) h = if_failed (ltb 2 d) (more_modules side column) (in_row side column h)
in_rows side column Unread h = in_row side column h
in_rows side column Hash h = tt
in_rows side column Other h = tt

sided-step : (s : Scan) (k : Kind) → Sided s → Sided (step s k)
unfolding step
sided-step (Gap side) k h = in_gap side k h
sided-step (Comment side) k h = in_comment side k h
sided-step (Number side value) k h = in_number side value k h
sided-step (Raster side) k h = in_raster side k h
sided-step (Rows side column) k h = in_rows side column k h
sided-step Bad k h = tt

sided-after : (s : Scan) (bytes : List ℕ) → Sided s → Sided (after s bytes)
unfolding after
sided-after s [] h = h
sided-after s (b ∷ bytes) h = sided-after (step s (kind_of b)) bytes (sided-step s (kind_of b) h)

positive-in : (s : Scan) → Sided s → Positive (side_in s)
unfolding side_in
positive-in (Gap side) h = tt
positive-in (Comment side) h = tt
positive-in (Number side value) h = tt
positive-in (Raster side) h = h
positive-in (Rows side column) h = h
positive-in Bad h = tt

positive-judged : (o : Option ℕ) (count room : ℕ) → Positive o → Positive (option_and_then (λ side. judged side count room) o)
unfolding judged
positive-judged None count room h = tt
positive-judged (Some side) count room h = go (eqb (side * side) count) (leb count room)
  where
    go : (b l : Bool) → Positive (cond b (cond l (Some side) None) None)
    go true true = h
    go true false = tt
    go false l = tt

pub side-positive : (bytes : List ℕ) (room : ℕ) → IfSome (side_of bytes room) (λ side. 0 < side)
unfolding side_of
side-positive bytes room = go (is_bitmap bytes)
  where
    from : (s : Scan) (rest : List ℕ) → Sided s → Positive (side_from s rest room)
    from s rest h =
        positive-judged (side_in (step (after s rest) Line)) (length (modules s rest)) room
        (positive-in (step (after s rest) Line) (sided-step (after s rest) Line (sided-after s rest h)))

    go : (b : Bool) → Positive (cond b (side_from (Gap None) (drop 2 bytes) room) (side_from (Rows None 0) bytes room))
    go true = from (Gap None) (drop 2 bytes) tt
    go false = from (Rows None 0) bytes tt
