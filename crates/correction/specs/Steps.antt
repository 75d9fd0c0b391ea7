-- The corrector's steps in algebra's terms: what each leaves in the slices it was lent, as equations over the word field. A list stands
-- for the function of its entries; words past its end are 0.
-- Assumes nothing.
use Rattle.std.specs.Prelude.{◌≡◌, Bool, cond, not, List, ℕ, suc, ◌+◌, ◌-◌, ◌^◌, ◌≤◌, ◌<◌, T, length, get_or}
use Rattle.algebra.specs.Sums.{pow}
use Rattle.algebra.specs.Vandermonde.{power_sum}
use Rattle.algebra.specs.Distance as distance
use Rattle.algebra.specs.Erasures as erasures
use Rattle.algebra.specs.Locator as locator
use Rattle.algebra.specs.Values as values
use Rattle.algebra.specs.Exactness as exactness
use Rattle.algebra.specs.Horner as horner
use Rattle.list_laws.specs.Range.{one}
use Rattle.finite_field.specs.Xor.{◌⊕◌}
use Rattle.finite_field.specs.Field.{WordSize, bits, Word}
use Rattle.finite_field.specs.Instance.{word_field, word, entry, x}
pub use Rattle.evaluation.specs.Words.{ZeroFrom, SameFrom}
use Rattle.evaluation.specs.Evaluation.{value_at}
use Rattle.correction.specs.Received.{Words, marked}

-- a work slice as it comes: longer than a block of n words, and zeros
pub record Blank (n : ℕ) (l : List ℕ) : Type 0 where
  pub longer : n < length l
  pub zeros : ZeroFrom 0 l

-- the coefficient of 2^k: the last word is that of 2^0, and a marked word counts as 0
abbrev pub coefficient : List ℕ → List ℕ → ℕ → ℕ
coefficient received marks k = cond (marked marks (length received - 1 - k)) 0 (get_or received (length received - 1 - k) 0)

-- l begins with the block's coefficients
abbrev pub Coefficients : List ℕ → List ℕ → List ℕ → Type 0
Coefficients received marks l = (k : ℕ) → k < length received → get_or l k 0 ≡ coefficient received marks k

module _ (s : WordSize) where
  -- what is not marked is a word
  abbrev pub Readable : List ℕ → List ℕ → Type 0
  Readable received marks = (i : ℕ) → T (not (marked marks i)) → Word s (get_or received i 0)

  -- what a corrector for lawful words is given
  pub record Lawful (check limit : ℕ) (received marks : List ℕ) : Type 0 where
    pub readable : Readable received marks
    pub same_length : length marks ≡ length received
    pub limit-le : limit ≤ check
    pub check-lt : check < length received
    pub length-lt : length received < 2 ^ bits s

  -- the locator of word i of n: 2^(n - 1 - i)
  abbrev pub place : ℕ → ℕ → (word_field s).C
  place n i = horner.locator (word_field s) (x s) n i

  -- the received words, 0 where marked
  abbrev pub read_word : List ℕ → List ℕ → ℕ → (word_field s).C
  read_word received marks i = cond (marked marks i) (word_field s).zer (entry s received i)

  -- l begins with the syndromes of the n words y: their power sums 1 to check
  abbrev pub SyndromesOf : ℕ → ℕ → (ℕ → (word_field s).C) → List ℕ → Type 0
  SyndromesOf check n y l = (j : ℕ) → j < check → entry s l j ≡ power_sum (word_field s) n (place n) y (suc j)

  -- the syndromes of a received block, zeros after them
  pub record Syndromes (check : ℕ) (received marks after : List ℕ) : Type 0 where
    pub words : Words s after
    pub sums : SyndromesOf check (length received) (read_word received marks) after
    pub above : ZeroFrom check after

  -- what erase leaves: the sequence before, with every marked place taken out
  pub record Erased (check : ℕ) (marks before after : List ℕ) : Type 0 where
    pub words : Words s after
    pub taken_out : (j : ℕ)
        → entry s after j ≡ erasures.erase (word_field s) (length marks) (marked marks) (place (length marks)) (entry s before) j
    pub above : ZeroFrom check after

  -- what keep_length leaves: b · p + d · x^shift · q
  pub record Kept (b d shift count : ℕ) (p q after : List ℕ) : Type 0 where
    pub words : Words s after
    pub sums : (j : ℕ) → j < count
        → entry s after j
        ≡ locator.combine (word_field s) (word s b) (entry s p) (word s d) (locator.shift (word_field s) shift (entry s q)) j
    pub rest : SameFrom count p after

  -- what lengthen leaves: b · x^shift · p + d · q, and p in the place of q
  pub record Lengthened (b d shift count : ℕ) (p q p-after q-after : List ℕ) : Type 0 where
    pub words : Words s p-after
    pub sums : (j : ℕ) → j < count
        → entry s p-after j
        ≡ locator.combine (word_field s) (word s b) (locator.shift (word_field s) shift (entry s p)) (word s d) (entry s q) j
    pub rest : SameFrom count p p-after
    pub moved : (j : ℕ) → j < count → get_or q-after j 0 ≡ get_or p j 0
    pub q-rest : SameFrom count q q-after

  -- where the locator's loop stands: p of degree length, right at the places below place; q before it, with discrepancy scale
  pub record Locating (t : ℕ) (u p q : List ℕ) (length place scale : ℕ) : Type 0 where
    pub p-words : Words s p
    pub q-words : Words s q
    pub p-above : ZeroFrom (suc t) p
    pub q-above : ZeroFrom (suc t) q
    pub scale-word : Word s scale
    pub locating : locator.Locating (word_field s) t (entry s u) length place (entry s p) (entry s q) (word s scale)

  -- what locate leaves: a locator p of degree length that annihilates t places of u
  pub record Located (t : ℕ) (u : List ℕ) (length : ℕ) (p : List ℕ) : Type 0 where
    pub words : Words s p
    pub locates : locator.Located (word_field s) t (entry s u) (entry s p)
    pub length-le : length ≤ t
    pub above : ZeroFrom (suc length) p

  -- v has the values of the locator p, of this degree, at 2^0 to 2^(n - 1)
  pub record LocatorValues (degree : ℕ) (p : List ℕ) (n : ℕ) (v : List ℕ) : Type 0 where
    pub words : Words s v
    pub values : (j : ℕ) → j < n → entry s v j ≡ value_at s (degree + 1) p j

  -- what times_root leaves: (x + 2^k) · g, of degree m + 1
  pub record Rooted (k m : ℕ) (g after : List ℕ) : Type 0 where
    pub words : Words s after
    pub coefficients : (j : ℕ) → j < suc (suc m)
        → entry s after j ≡ values.times_root (word_field s) (pow (word_field s) (x s) k) (entry s g) j
    pub rest : SameFrom (suc (suc m)) g after

  -- the places that may be wrong: marked, or roots of the locator p of degree length
  abbrev pub taken_at : ℕ → List ℕ → List ℕ → ℕ → Bool
  taken_at degree p marks = exactness.taken (word_field s) degree (entry s p) (place (length marks)) (marked marks)

  -- what gather leaves: places notes the taken ones, and g of degree m vanishes at them
  pub record Gathered (degree : ℕ) (p marks : List ℕ) (m : ℕ) (places g : List ℕ) : Type 0 where
    pub words : Words s g
    pub noted : (i : ℕ) → i < length marks → get_or places i 0 ≡ one (taken_at degree p marks i)
    pub rest : ZeroFrom (length marks) places
    pub vanishing : values.Vanishing (word_field s) (place (length marks)) (taken_at degree p marks) (length marks) m (entry s g)

  -- what corrections leaves: what is missing at the noted places, 0 elsewhere
  pub record Corrections (n m : ℕ) (g syndromes noted after : List ℕ) : Type 0 where
    pub words : Words s after
    pub missing : (i : ℕ) → i < n
        → entry s after i
        ≡ cond (marked noted i) (exactness.correction (word_field s) m (entry s g) (entry s syndromes) (place n i)) (word_field s).zer

  -- what settle leaves: the correction at 2^k added to each syndrome
  pub record Settled (correction k count : ℕ) (before after : List ℕ) : Type 0 where
    pub words : Words s after
    pub sums : (j : ℕ) → j < count
        → entry s after j
        ≡ (word_field s).add (entry s before j)
        ((word_field s).mul (word s correction) (pow (word_field s) (pow (word_field s) (x s) k) (suc j)))

  -- what settle_all leaves: all corrections added
  pub record SettledAll (n count : ℕ) (corrections before after : List ℕ) : Type 0 where
    pub words : Words s after
    pub sums : (j : ℕ) → j < count
        → entry s after j
        ≡ (word_field s).add (entry s before j) (power_sum (word_field s) n (place n) (entry s corrections) (suc j))

  -- the n words y with corrections
  abbrev pub corrected : (ℕ → (word_field s).C) → List ℕ → ℕ → (word_field s).C
  corrected y corrections i = (word_field s).add (y i) (entry s corrections i)

  -- nearness in the field, of which the theory speaks
  abbrev pub NearTo : ℕ → ℕ → List ℕ → (ℕ → (word_field s).C) → (ℕ → (word_field s).C) → Type 0
  NearTo check limit marks y b =
      distance.Near (word_field s) (length marks) check limit (place (length marks)) (marked marks) y b

  -- what propose leaves: every block near to any y of these syndromes is y with the corrections
  pub record Proposed (check limit : ℕ) (marks syndromes corrections : List ℕ) : Type 0 where
    pub words : Words s corrections
    pub only : (y : ℕ → (word_field s).C) → SyndromesOf check (length marks) y syndromes
        → (b : ℕ → (word_field s).C) → NearTo check limit marks y b → (i : ℕ) → i < length marks → corrected y corrections i ≡ b i

-- what write leaves at place i: the correction alone where the word is marked
abbrev pub written_at : List ℕ → List ℕ → List ℕ → ℕ → ℕ
written_at received marks corrections i = cond (marked marks i) (get_or corrections i 0) (get_or received i 0 ⊕ get_or corrections i 0)
