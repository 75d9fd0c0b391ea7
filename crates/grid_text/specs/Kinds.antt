-- What a byte is, wherever it stands: 10 a line feed; 32, 9 and 13 blank; 63 `?`; 35 `#`; 48 to 57 digits.
-- Assumes nothing.
use Rattle.std.specs.Prelude.{cond, ℕ, ◌-◌, eqb, ltb}
use Rattle.grid_text.specs.declared.kinds.Kind.{Kind}
use Rattle.grid_text.specs.declared.kinds.Kind.TheVariants.{Line, Blank, Digit, Unread, Hash, Other}

unfoldable pub kind_of : ℕ → Kind
kind_of byte =
    cond (eqb byte 10) Line
    (cond (eqb byte 32) Blank
    (cond (eqb byte 9) Blank
    (cond (eqb byte 13) Blank
    (cond (eqb byte 63) Unread
    (cond (eqb byte 35) Hash (cond (ltb byte 48) Other (cond (ltb 57 byte) Other (Digit (byte - 48)))))))))
