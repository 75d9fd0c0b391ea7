-- What a byte does that is no line feed in a comment, or no digit in a number.
-- Assumes nothing.
use Rattle.std.specs.Prelude.{◌≡◌, refl, ℕ, Option, None}
use Rattle.grid_text.specs.declared.kinds.Kind.{Kind}
use Rattle.grid_text.specs.declared.kinds.Kind.TheVariants.{Line, Blank, Digit, Unread, Hash, Other}
use Rattle.grid_text.specs.declared.scanning.Scan.TheVariants.{Comment}
use Rattle.grid_text.specs.Scanning.{comment, ended, number, raster_module}

pub comment-on : (side : Option ℕ) (k : Kind) → (k ≡ Line → ⊥) → Comment side ≡ comment side k
comment-on side Line h = absurd (h refl)
comment-on side Blank h = refl
comment-on side (Digit d) h = refl
comment-on side Unread h = refl
comment-on side Hash h = refl
comment-on side Other h = refl

pub number-ended : (side : Option ℕ) (value : ℕ) (k : Kind) → ((d : ℕ) → k ≡ Digit d → ⊥) → ended side value k ≡ number side value k
number-ended side value Line h = refl
number-ended side value Blank h = refl
number-ended side value (Digit d) h = absurd (h d refl)
number-ended side value Unread h = refl
number-ended side value Hash h = refl
number-ended side value Other h = refl

pub no-module : (k : Kind) → ((d : ℕ) → k ≡ Digit d → ⊥) → None ≡ raster_module k
no-module Line h = refl
no-module Blank h = refl
no-module (Digit d) h = absurd (h d refl)
no-module Unread h = refl
no-module Hash h = refl
no-module Other h = refl
