-- The block that `write` leaves, in the field: the received words with the corrections. With the nearest block's laws this is the
-- answer, where it is near.
-- Assumes nothing.
use mathlib.Core.Path.{◌≡◌, sym, ap, ◌∙◌, subst}
use mathlib.Core.Bool.{Bool, true, false, not, cond}
use mathlib.Core.List.{List}
use Prim.Native.Nat.{ℕ, ◌≤◌, ◌<◌}
use native.Mathlib.Omega.{arith}
use lib.Dec.{T}
use lib.ListN.{length, get_or, take, replicate, length-replicate}
use Rattle.std.proofs.lemmas.List.{get_or-take, length-take-le}
use Rattle.algebra.specs.Field.{zero-⊕}
use Rattle.list_laws.specs.Filled.{tabulate, get_or-tabulate}
use Rattle.finite_field.specs.Xor.{◌⊕◌}
use Rattle.finite_field.specs.Field.{WordSize, Word}
use Rattle.finite_field.specs.Instance.{word_field, word, entry, word-xor}
use Rattle.block_code.specs.Block.{Words}
use Rattle.block_code.specs.Nearest.{marked}
use Rattle.repair.specs.Work.{Work}
use Rattle.correction.specs.Steps.{Readable, Blank, SyndromesOf, read_word, corrected, written_at}
use Rattle.block_code.specs.WordLists.{words-tabulate}
use Rattle.evaluation.proofs.Elements.{xor-word, zeros-from}

pub not-both : true ≡ false → ⊥
not-both e = subst T e tt

pub blank-for : {m n : ℕ} {l : List ℕ} → m ≡ n → Blank n l → Blank m l
blank-for e b = record { longer = omega (arith, b.longer); zeros = b.zeros }

pub work-for : {m n : ℕ} {u p q corrections : List ℕ} → m ≡ n → Work n u p q corrections → Work m u p q corrections
work-for e w =
    record {
      erased = blank-for e w.erased;
      locator = blank-for e w.locator;
      shorter = blank-for e w.shorter;
      missing = blank-for e w.missing;
    }

-- an array of zeros serves as a work slice for a shorter block
pub blank-zeros : {n : ℕ} (k : ℕ) {l : List ℕ} → l ≡ replicate k 0 → n < k → Blank n l
blank-zeros k e h = record {
  longer = omega (arith, ap length e, length-replicate {A = ℕ} k 0);
  zeros = zeros-from k e;
}

pub work-zeros : {n : ℕ} (k : ℕ) {u p q corrections : List ℕ} → u ≡ replicate k 0 → p ≡ replicate k 0 → q ≡ replicate k 0
    → corrections ≡ replicate k 0 → n < k → Work n u p q corrections
work-zeros k a b c d h =
    record { erased = blank-zeros k a h; locator = blank-zeros k b h; shorter = blank-zeros k c h; missing = blank-zeros k d h }

module _ (s : WordSize) where
  written-case : (b : Bool) (r c : ℕ) → (T (not b) → Word s r) → Word s c
      → Word s (cond b c (r ⊕ c)) × (word s (cond b c (r ⊕ c)) ≡ (word_field s).add (cond b (word_field s).zer (word s r)) (word s c))
  written-case true r c hr hc = (hc, sym (zero-⊕ (word_field s) (word s c)))
  written-case false r c hr hc = (xor-word s (hr tt) hc, word-xor s (hr tt) hc)

  module _ (received marks corrections : List ℕ) (reads : Readable s received marks) (words : Words s corrections) where
    pub written-words : Words s (tabulate (written_at received marks corrections) (length received))
    written-words =
        words-tabulate s (written_at received marks corrections) (length received)
        (λ i. (written-case (marked marks i) (get_or received i 0) (get_or corrections i 0) (reads i) (words i)).0)

    pub written_entry : (i : ℕ) → i < length received
        → entry s (tabulate (written_at received marks corrections) (length received)) i ≡ corrected s (read_word s received marks) corrections i
    written_entry i l =
        ap (word s) (get_or-tabulate (written_at received marks corrections) 0 (length received) i l)
        ∙ (written-case (marked marks i) (get_or received i 0) (get_or corrections i 0) (reads i) (words i)).1

-- the syndromes as a slice of their own
pub syndromes-front : (s : WordSize) (check n : ℕ) (y : ℕ → (word_field s).C) (l : List ℕ) → check ≤ length l → SyndromesOf s check n y l
    → SyndromesOf s (length (take check l)) n y (take check l)
syndromes-front s check n y l fits h j k =
    let below : j < check = rw (length-take-le check l fits) at k in ap (word s) (get_or-take check l j 0 below) ∙ h j below
