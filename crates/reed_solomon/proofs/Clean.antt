-- A block whose syndromes are all 0 is the nearest one, as it was read.
-- Assumes nothing.
use mathlib.Core.Path.{◌≡◌, refl, sym, ap, ◌∙◌, subst}
use mathlib.Core.Bool.{true}
use mathlib.Core.List.{List, []}
use mathlib.Core.Option.{some}
use Prim.Native.Nat.{ℕ, ◌-◌, ◌≤◌, ◌<◌}
use native.Mathlib.Omega.{arith}
use lib.Dec.{T, eqb}
use lib.ListN.{length, get_or, take}
use Rattle.std.proofs.lemmas.List.{get_or-take, length-take-le}
use Rattle.list_laws.specs.Range.{all-at, all_of}
use Rattle.list_laws.specs.Tests.{same_test}
use Rattle.list_laws.specs.Filled.{tabulate, length-tabulate, get_or-tabulate}
use Rattle.algebra.specs.Field.{⊕-zero}
use Rattle.finite_field.specs.Field.{WordSize}
use Rattle.finite_field.specs.Instance.{word_field, word, entry, word-zero}
use Rattle.block_code.specs.Nearest.{unread, nearest}
use Rattle.block_code.specs.NearestLaws.{answer-found}
use Rattle.block_code.specs.WordLists.{words-tabulate}
use Rattle.correction.specs.Steps.{Lawful, Coefficients, Syndromes, SyndromesOf, read_word, corrected}
use Rattle.correction.proofs.Acceptance.{zeros, clean-near}
use Rattle.correction.proofs.Coefficients.{coefficient-word, coefficient-is}

-- n coefficients as a block: the last is the first word
abbrev pub restored : List ℕ → ℕ → List ℕ
restored work n = tabulate (λ i. get_or work (n - 1 - i) 0) n

module _ (s : WordSize) {check limit : ℕ} {received marks : List ℕ} (work : List ℕ)
    (lawful : Lawful s check limit received marks) (read : Coefficients received marks work) where
  -- nothing is corrected
  restored-entry : (i : ℕ) → i < length received
      → entry s (restored work (length received)) i ≡ corrected s (read_word s received marks) [] i
  restored-entry i h =
      let n = length received in
      let last : n - 1 - i < n = omega arith in
      let back : n - 1 - (n - 1 - i) ≡ i = omega arith in
      ap (word s) (get_or-tabulate (λ j. get_or work (n - 1 - j) 0) 0 n i h)
      ∙ coefficient-is s work lawful read (n - 1 - i) last
      ∙ ap (read_word s received marks) back
      ∙ sym (ap ((word_field s).add (read_word s received marks i)) (word-zero s) ∙ ⊕-zero (word_field s) _)

  pub clean-block : {syndromes : List ℕ} → Syndromes s check received marks syndromes → zeros check syndromes ≡ true → unread marks ≤ limit
      → nearest s check limit received marks ≡ some (restored work (length received))
  clean-block {syndromes} are none few =
      let n = length received in
      let y = read_word s received marks in
      answer-found s check limit received marks lawful.same_length lawful.readable lawful.limit-le lawful.length-lt
      (restored work n) [] (length-tabulate (λ i. get_or work (n - 1 - i) 0) n)
      (words-tabulate s (λ i. get_or work (n - 1 - i) 0) n (λ i. coefficient-word s work lawful read (n - 1 - i) (omega (arith, lawful.check-lt))))
      restored-entry
      (clean-near s check limit marks [] syndromes y (λ j _. refl) are.words
      (subst (λ (m : ℕ). SyndromesOf s check m y syndromes) (sym lawful.same_length) are.sums) none few)

-- the syndromes as a slice of their own
pub zeros-front : (n : ℕ) (l : List ℕ) → n ≤ length l → zeros (length (take n l)) (take n l) ≡ zeros n l
zeros-front n l fits =
    ap (λ m. zeros m (take n l)) (length-take-le n l fits)
    ∙ same_test _ _
    (λ t. all_of n (λ j. eqb (get_or l j 0) 0) (λ j k. subst (λ x. T (eqb x 0)) (get_or-take n l j 0 k) (all-at n (λ j. eqb (get_or (take n l) j 0) 0) t j k)))
    (λ t.
    all_of n (λ j. eqb (get_or (take n l) j 0) 0)
    (λ j k. subst (λ x. T (eqb x 0)) (sym (get_or-take n l j 0 k)) (all-at n (λ j. eqb (get_or l j 0) 0) t j k)))
