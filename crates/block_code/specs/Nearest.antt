-- The nearest block (document 01, "Demand 3's words"): the valid block that differs from the words read in r places, with e words
-- marked unread, and 2r + e at most the limit. It is the first such block of an enumeration of all blocks; NearestLaws says that it is
-- the only one.
-- Assumes nothing.
use Rattle.std.specs.Prelude.{◌≡◌, Bool, not, cond, ◌&&◌, List, [], ◌∷◌, ℕ, zero, suc, ◌+◌, ◌*◌, ◌^◌, ◌≤◌, eqb, leb, length, get_or}
use Rattle.std.proofs.Math.Option.{Option, none, some, map}
use Rattle.list_laws.specs.Range.{count, all}
use Rattle.finite_field.specs.Field.{WordSize, bits, power}
pub use Rattle.correction.specs.Received.{marked, unread}
use Rattle.block_code.specs.Block.{value, Valid}

-- r: the words not marked that are unlike the block's
abbrev pub differ : List ℕ → List ℕ → List ℕ → ℕ
differ received marks block = count (length received) (λ i. not (marked marks i) && not (eqb (get_or block i 0) (get_or received i 0)))

pub record Near (s : WordSize) (check limit : ℕ) (received marks block : List ℕ) : Type 0 where
  pub size : length block ≡ length received
  pub valid : Valid s check block
  pub within : 2 * differ received marks block + unread marks ≤ limit

-- the same as a test of a block of words
unfoldable pub is_near : WordSize → ℕ → ℕ → List ℕ → List ℕ → List ℕ → Bool
is_near s check limit received marks block =
    all check (λ j. eqb (value s block (power s (j + 1))) 0) && leb (2 * differ received marks block + unread marks) limit

unfoldable pub or_else : {A : Type 0} → Option A → Option A → Option A
or_else (some a) other = some a
or_else none other = other

-- the first answer of f 0, f 1, .., f (n - 1)
unfoldable pub first_of : {A : Type 0} → (ℕ → Option A) → ℕ → Option A
unfolding or_else
first_of f zero = none
first_of f (suc n) = or_else (first_of f n) (f n)

-- the first list of n numbers below q that passes the test
unfoldable pub search : ℕ → ℕ → (List ℕ → Bool) → Option (List ℕ)
search q zero test = cond (test []) (some []) none
search q (suc n) test = first_of (λ w. map (λ l. w ∷ l) (search q n (λ l. test (w ∷ l)))) q

unfoldable pub nearest : WordSize → ℕ → ℕ → List ℕ → List ℕ → Option (List ℕ)
nearest s check limit received marks = search (2 ^ bits s) (length received) (is_near s check limit received marks)
