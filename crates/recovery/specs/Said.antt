-- Mode words of 4 bits name a shape of their family, and a number of words that its mode message can say.
-- Assumes nothing.
use Rattle.std.specs.Prelude.{Bool, true, false, List, ℕ, ◌≤◌, ◌<◌, get_or}
use Rattle.std.proofs.Common.{arith}
use Rattle.symbol.specs.Shapes.{most_words, most_layers, Shaped}
use Rattle.recovery.specs.Stages.{said_layers, said_words}

-- the words that say L and D are of 4 bits
abbrev pub Nibbles : List ℕ → Type 0
Nibbles ms = (i : ℕ) → i < 4 → get_or ms i 0 < 16

pub said-some : (f : Bool) (ms : List ℕ) → 1 ≤ said_words f ms
unfolding said_words
said-some false ms = omega arith
said-some true ms = omega arith

pub said-shaped : (f : Bool) (ms : List ℕ) → Nibbles ms → Shaped f (said_layers f ms)
unfolding said_layers most_layers
said-shaped false ms h = record { some = omega arith; most = omega (arith, h 0 (omega arith)) }
said-shaped true ms h = record { some = omega arith; most = omega (arith, h 0 (omega arith), h 1 (omega arith)) }

pub said-most : (f : Bool) (ms : List ℕ) → Nibbles ms → said_words f ms ≤ most_words f
unfolding said_words most_words
said-most false ms h = omega (arith, h 1 (omega arith))
said-most true ms h = omega (arith, h 2 (omega arith), h 3 (omega arith))
