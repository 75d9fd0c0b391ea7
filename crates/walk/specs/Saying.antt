-- What a verdict says of the reading that it is of.
-- Assumes nothing.
use Rattle.std.specs.Prelude.{◌≡◌, Result, Ok, Err, refl, List, ℕ, length}
use Rattle.std.proofs.Common.{subst}
use Rattle.stream.specs.declared.items.Fault.{Fault}
use Rattle.stream.specs.declared.items.Refusal.{Refusal}
use Rattle.stream.specs.Items.{Reading, message, refused, verdict_of}

-- a reading with a message of n bytes
pub record SaysMessage (r : Reading) (n : ℕ) : Type 0 where
  pub text : List ℕ
  pub is : r ≡ message text
  pub size : length text ≡ n

abbrev SaidBy : Reading → Result ℕ Refusal → Type 0
SaidBy r (Ok n) = SaysMessage r n
SaidBy r (Err cause) = r ≡ refused cause.fault cause.bit

said-by : (r : Reading) → SaidBy r (verdict_of r)
said-by (message text) = record { text = text; is = refl; size = refl }
said-by (refused x bit) = refl

pub says-refused : (r : Reading) (x : Fault) (bit : ℕ) → verdict_of r ≡ Err (record { fault = x; bit = bit }) → r ≡ refused x bit
says-refused r x bit e = subst (SaidBy r) e (said-by r)
