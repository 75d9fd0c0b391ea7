-- A polynomial at many powers of 2, step by step: what each step of folding leaves, as equations over the word field.
-- Assumes nothing.
use Rattle.std.specs.Prelude.{◌≡◌, List, [], ◌∷◌, ℕ, ◌+◌, ◌*◌, ◌/◌, ◌^◌, ◌≤◌, ◌<◌, length, get_or}
use Rattle.algebra.specs.Sums.{pow}
use Rattle.algebra.specs.KeyEquation.{eval}
use Rattle.algebra.specs.Folding as folding
use Rattle.finite_field.specs.Field.{WordSize, bits, Word}
use Rattle.finite_field.specs.Instance.{word_field, entry, x}
use Rattle.evaluation.specs.Words.{Words, SameFrom}

-- the places from `into` on, `count` of them, hold f 0, f 1, ..; the others are as they were
pub record Placed (f : ℕ → ℕ) (into count : ℕ) (before after : List ℕ) : Type 0 where
  pub size : length after ≡ length before
  pub within : (r : ℕ) → r < count → get_or after (into + r) 0 ≡ f r
  pub below : (i : ℕ) → i < into → get_or after i 0 ≡ get_or before i 0
  pub above : SameFrom (into + count) before after

-- the first `count` values are 0, before anything is added to them
abbrev pub Cleared : ℕ → List ℕ → Type 0
Cleared count out = (j : ℕ) → j < count → get_or out j 0 ≡ 0

-- the first r of `most` parts hold the first n words
pub record Enough (n part most r : ℕ) : Type 0 where
  pub some : 0 < r
  pub few : r ≤ most
  pub enough : (i : ℕ) → r * part ≤ i → i < most * part → n ≤ i

module _ (s : WordSize) where
  -- the polynomial that an evaluation is given: the first n words
  pub record Given (n : ℕ) (from : List ℕ) : Type 0 where
    pub words : (i : ℕ) → i < n → Word s (get_or from i 0)
    pub n-lt : n < 2 ^ bits s
    pub n-le : n ≤ length from

  -- the values that it is asked for, at 2^first and on, and the slice they go to
  pub record Asked (first count : ℕ) (out : List ℕ) : Type 0 where
    pub first-le : first ≤ 1
    pub last-le : first + count ≤ 2 ^ bits s
    pub fits : count ≤ length out
    pub words : Words s out

  -- the order of 2, divided
  pub record Divided (m per part : ℕ) : Type 0 where
    pub whole : m * per * part + 1 ≡ 2 ^ bits s
    pub m-pos : 0 < m
    pub per_pos : 0 < per
    pub part-pos : 0 < part

  -- the order of 2, divided further by these factors in turn; in the end there is more than one class
  unfoldable pub Divides : ℕ → ℕ → ℕ → List ℕ → Type 0
  Divides m per part [] = Divided m per part × 1 < m
  Divides m per part (next ∷ factors) =
      Divided m per part × (next * (part / next) ≡ part) × Divides (m * per) next (part / next) factors

  -- coefficient r of a class: the polynomial of every part-th word from at + r on, `chunks` of them, at 2^e
  abbrev pub chunked : ℕ → ℕ → ℕ → List ℕ → ℕ → ℕ → (word_field s).C
  chunked e part chunks from at r =
      eval (word_field s) chunks (λ k. entry s from (at + (k * part + r))) (pow (word_field s) (x s) e)

  -- what fold_class leaves
  pub record FoldedClass (part chunks : ℕ) (from : List ℕ) (at into : ℕ) (before after : List ℕ) : Type 0 where
    pub words : Words s after
    pub size : length after ≡ length before
    pub values : (r : ℕ) → r < part → entry s after (into + r) ≡ chunked into part chunks from at r
    pub below : (i : ℕ) → i < into → get_or after i 0 ≡ get_or before i 0

  -- m classes of stride words each, of which the first n count: that of j mod m has the value v j at 2^j
  pub record Folded (m stride n : ℕ) (v : ℕ → (word_field s).C) (l : List ℕ) : Type 0 where
    pub words : Words s l
    pub values : folding.Folded (word_field s) (x s) m stride (entry s l) v
    pub narrow : folding.Narrow (word_field s) m stride n (entry s l)

  -- what an evaluation leaves: v first, v (first + 1), .., and the rest as it was
  pub record Valued (first : ℕ) (v : ℕ → (word_field s).C) (count : ℕ) (before after : List ℕ) : Type 0 where
    pub words : Words s after
    pub values : (j : ℕ) → j < count → entry s after j ≡ v (first + j)
    pub rest : SameFrom count before after

  -- what fold leaves: whatever the classes of from were worth, those of after are
  abbrev pub Refolded : ℕ → ℕ → ℕ → ℕ → List ℕ → List ℕ → Type 0
  Refolded m per part n from after = (v : ℕ → (word_field s).C) → Folded m (per * part) n v from → Folded (m * per) part n v after

  -- what finish leaves: what the classes of from were worth
  abbrev pub Finished : ℕ → ℕ → ℕ → ℕ → List ℕ → ℕ → List ℕ → List ℕ → Type 0
  Finished first m stride n from count before after =
      (v : ℕ → (word_field s).C) → Folded m stride n v from → Valued first v count before after

  -- what add_powers leaves: 2^(start + k · j) added to each
  pub record PowersAdded (start k count : ℕ) (before after : List ℕ) : Type 0 where
    pub words : Words s after
    pub sums : (j : ℕ) → j < count
        → entry s after j ≡ (word_field s).add (entry s before j) (pow (word_field s) (x s) (start + k * j))
    pub rest : SameFrom count before after

  -- the polynomial of the first n words at 2^j
  abbrev pub value_at : ℕ → List ℕ → ℕ → (word_field s).C
  value_at n from j = eval (word_field s) n (entry s from) (pow (word_field s) (x s) j)
