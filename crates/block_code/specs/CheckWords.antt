-- Check words by long division (source 000, 7.2.3 and 7.3.2): the remainder of the data polynomial times x^K, divided by the generator
-- (x + 2^1) .. (x + 2^K). Minus is plus here. A polynomial is the list of its coefficients, the highest first.
-- Assumes nothing.
use Rattle.std.specs.Prelude.{List, [], ◌∷◌, ◌++◌, ℕ, zero, suc, ◌+◌, ◌-◌, length, get_or, take, replicate}
use Rattle.list_laws.specs.Filled.{tabulate}
use Rattle.finite_field.specs.Xor.{◌⊕◌}
use Rattle.finite_field.specs.Field.{WordSize, product, power}

-- the polynomial g times x + c; g is written without its leading 1, and so is the product
unfoldable pub times_root : WordSize → ℕ → List ℕ → List ℕ
times_root s c g = tabulate (λ i. get_or g i 0 ⊕ product s (get_or (1 ∷ g) i 0) c) (length g + 1)

-- the generator without its leading 1: K words
unfoldable pub generator : WordSize → ℕ → List ℕ
generator s zero = []
generator s (suc k) = times_root s (power s (k + 1)) (generator s k)

-- what leaves the remainder, as its highest coefficient, when the word w comes in
abbrev pub factor : List ℕ → ℕ → ℕ
factor r w = w ⊕ get_or r 0 0

-- one step of the division by g: the remainder r moves up by one place, and takes g times what leaves
unfoldable pub divide_step : WordSize → List ℕ → List ℕ → ℕ → List ℕ
divide_step s g r w = tabulate (λ i. get_or r (i + 1) 0 ⊕ product s (factor r w) (get_or g i 0)) (length g)

-- the remainder r after all the data words
unfoldable pub remainder : WordSize → List ℕ → List ℕ → List ℕ → List ℕ
remainder s g r [] = r
remainder s g r (w ∷ ws) = remainder s g (divide_step s g r w) ws

unfoldable pub check_words_of : WordSize → ℕ → List ℕ → List ℕ
check_words_of s check words = remainder s (generator s check) (replicate check 0) words

-- the block with the check words of its first d words in place of its tail, the words from d on
abbrev pub with_check_words : WordSize → ℕ → List ℕ → List ℕ
with_check_words s d block = take d block ++ check_words_of s (length block - d) (take d block)
