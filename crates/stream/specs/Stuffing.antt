-- Bit stuffing (document 01, "From bytes to words": "Stuffing"). In words of B bits, h is B − 1, the bits before the last.
-- Assumes nothing.
use Rattle.std.specs.Prelude.{Bool, cond, ◌&&◌, ◌||◌, List, [], ◌∷◌, ◌++◌, ℕ, zero, suc, ◌+◌, ◌*◌, ◌-◌, ◌/◌, ◌^◌, eqb}
use Rattle.list_laws.specs.Range.{one}
use Rattle.stream.specs.declared.stuffing.Put.{Put}
use Rattle.stream.specs.declared.stuffing.Put.TheVariants.{Part, Word}
use Rattle.stream.specs.Bits.{bits}

-- the n bits of v are all 0s or all 1s
unfoldable pub flat : ℕ → ℕ → Bool
flat n v = eqb v 0 || eqb v (2 ^ n - 1)

-- one more bit b after the k bits that say v: "if the first B − 1 bits of a word are equal, the last is their opposite and takes no
-- stream bit"
unfoldable pub put : ℕ → ℕ → ℕ → ℕ → Put
put h k v b =
    let w = v * 2 + b in
    cond (eqb k h) (Word w) (cond (eqb (k + 1) h && flat h w) (Word (w * 2 + one (eqb w 0))) (Part (k + 1) w))

-- f goes on with the word so far, a new one after a whole word
abbrev pub after : Put → (ℕ → ℕ → List ℕ) → List ℕ
after (Part k v) f = f k v
after (Word w) f = w ∷ f 0 0

-- at most n 1s, until the word is whole
unfoldable pub fill : ℕ → ℕ → ℕ → ℕ → List ℕ
fill h zero k v = []
fill h (suc n) k v = cond (eqb k 0) [] (after (put h k v 1) (λ k v. fill h n k v))

-- "the last word is filled with 1s; if it would be all 1s its last bit is 0", since `put` keeps it from being all 1s
unfoldable pub finish : ℕ → ℕ → ℕ → List ℕ
finish h k v = fill h (suc h - k) k v

unfoldable pub stuff_from : ℕ → ℕ → ℕ → List ℕ → List ℕ
stuff_from h k v [] = finish h k v
stuff_from h k v (b ∷ l) = after (put h k v b) (λ k v. stuff_from h k v l)

-- the words of B bits that hold a stream
unfoldable pub stuff : ℕ → List ℕ → List ℕ
stuff B l = stuff_from (B - 1) 0 0 l

-- the stream bits of a word: h equal bits stand for themselves alone
unfoldable pub word_bits : ℕ → ℕ → List ℕ
word_bits h w = cond (flat h (w / 2)) (bits h (w / 2)) (bits (suc h) w)

unfoldable pub unstuff_from : ℕ → List ℕ → List ℕ
unstuff_from h [] = []
unstuff_from h (w ∷ ws) = word_bits h w ++ unstuff_from h ws

-- "drop the stuffed bits"
unfoldable pub unstuff : ℕ → List ℕ → List ℕ
unstuff B words = unstuff_from (B - 1) words
