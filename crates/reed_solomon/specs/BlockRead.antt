-- What `read_block` leaves.
-- Assumes nothing.
use Rattle.std.specs.Prelude.{◌≡◌, true, false, List, ℕ, Option, Some, None}
use Rattle.finite_field.specs.Field.{WordSize}
use Rattle.block_code.specs.Nearest.{unread}
use Rattle.correction.specs.Steps.{Coefficients}
use Rattle.reed_solomon.specs.Correct.{lawful_words}

-- of lawful words their coefficients, and how many are marked; of others nothing
pub record BlockRead (s : WordSize) (received marks : List ℕ) (e : Option ℕ) (to : List ℕ) : Type 0 where
  pub marks-counted : lawful_words s received marks ≡ true → e ≡ Some (unread marks)
  pub coefficients : lawful_words s received marks ≡ true → Coefficients received marks to
  pub unlawful : lawful_words s received marks ≡ false → e ≡ None
