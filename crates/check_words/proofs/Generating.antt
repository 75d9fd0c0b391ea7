-- The generator made in place, root by root: the loop over its words carries the one before as it was.
-- Assumes nothing.
use mathlib.Core.Path.{◌≡◌, refl, sym, ap, ap₂, ◌∙◌}
use mathlib.Core.List.{List, ◌∷◌, ◌++◌, append-nil}
use Prim.Native.Nat.{ℕ, ◌+◌, ◌<◌}
use native.Mathlib.Nat.{le_refl}
use native.Mathlib.Numerals.{add-one}
use native.Mathlib.Omega.{arith}
use lib.Bits.{xor_zero_l}
use lib.ListN.{length, get_or, take, drop, set, get_or-eq_default}
use lib.Seq.{length-take-le, take_at, drop-append-add, drop-drop, drop-length, get_or-take}
use Rattle.list_laws.specs.Filled.{tabulate, filled, filled-step}
use Rattle.finite_field.specs.Xor.{◌⊕◌}
use Rattle.finite_field.specs.Field.{WordSize, Word, product, power}
use Rattle.finite_field.specs.FieldLaws.{one_word}
use Rattle.block_code.specs.Block.{Words}
use Rattle.block_code.specs.WordLists.{words-cons}
use Rattle.block_code.specs.CheckWords.{times_root, generator}
use Rattle.block_code.specs.CheckWordsLaws.{length-generator, generator-words}
use Rattle.evaluation.proofs.Elements.{not-yet-filled}

module _ (s : WordSize) (k : ℕ) where
  -- word i of l times x + 2^k
  abbrev pub rooting : List ℕ → ℕ → ℕ
  rooting l i = get_or l i 0 ⊕ product s (get_or (1 ∷ l) i 0) (power s k)

  module _ (m : ℕ) (l : List ℕ) where
    -- the word that is carried to place i
    abbrev pub carried : ℕ → ℕ
    carried i = get_or (1 ∷ take m l) i 0

    pub carried-word : (i : ℕ) {a : ℕ} → Words s (take m l) → a ≡ carried i → Word s a
    carried-word i h e = rw e (words-cons s 1 (take m l) (one_word s) h i)

    not-yet-rooted : {i : ℕ} {b : List ℕ} → b ≡ filled (rooting (take m l)) i l → i < m → get_or b i 0 ≡ get_or (take m l) i 0
    not-yet-rooted {i} e h = not-yet-filled (rooting (take m l)) i i l e (le_refl i) ∙ sym (get_or-take m l i 0 h)

    -- a turn at place i, where the product is r

    pub carried-next : {i : ℕ} {b : List ℕ} → b ≡ filled (rooting (take m l)) i l → i < m → get_or b i 0 ≡ carried (i + 1)
    carried-next {i} e h = not-yet-rooted e h ∙ ap carried (sym (add-one i))

    pub rooting-next : {i a r : ℕ} {b : List ℕ} → b ≡ filled (rooting (take m l)) i l → a ≡ carried i → r ≡ product s a (power s k)
        → i < m → m < length l → set b i (get_or b i 0 ⊕ r) ≡ filled (rooting (take m l)) (i + 1) l
    rooting-next {i} e ea er h fits =
        filled-step (rooting (take m l)) i l e
        (ap₂ ◌⊕◌ (not-yet-rooted e h) (er ∙ ap (λ z. product s z (power s k)) ea)) (omega arith)

    -- the new word at the end
    pub rooted-last : {a r : ℕ} {b : List ℕ} → b ≡ filled (rooting (take m l)) m l → a ≡ carried m → r ≡ product s a (power s k)
        → m < length l → set b m r ≡ times_root s (power s k) (take m l) ++ drop (m + 1) l
    unfolding times_root
    rooted-last {a} {r} e ea er fits =
        let size : length (take m l) ≡ m = length-take-le m l (omega arith) in
        let none : get_or (take m l) m 0 ≡ 0 = get_or-eq_default (take m l) 0 {n = m} (omega arith) in
        filled-step (rooting (take m l)) m l e
        (sym
        (ap (λ z. z ⊕ product s (carried m) (power s k)) none
        ∙ xor_zero_l (product s (carried m) (power s k))
        ∙ sym (er ∙ ap (λ z. product s z (power s k)) ea)))
        fits
        ∙ ap (λ n. tabulate (rooting (take m l)) (n + 1) ++ drop (m + 1) l) (sym size)

module _ (s : WordSize) (l : List ℕ) where
  -- the buffer l with the generator of k roots in front
  abbrev pub generating : ℕ → List ℕ
  generating k = generator s k ++ drop k l

  pub generating-none : l ≡ generating 0
  unfolding generator
  generating-none = refl

  generating-front : (k : ℕ) {b : List ℕ} → b ≡ generating k → take k b ≡ generator s k
  generating-front k e = ap (take k) e ∙ take_at (generator s k) (drop k l) k (length-generator s k)

  pub generating-words : (k : ℕ) {b : List ℕ} → b ≡ generating k → Words s (take k b)
  generating-words k e = rw (generating-front k e) (generator-words s k)

  pub generating-next : (k : ℕ) {b c : List ℕ} → b ≡ generating k
      → c ≡ times_root s (power s (k + 1)) (take k b) ++ drop (k + 1) b → c ≡ generating (k + 1)
  unfolding generator
  generating-next k {b} e f =
      f
      ∙ ap₂ ◌++◌
      (ap (times_root s (power s (k + 1))) (generating-front k e) ∙ ap (generator s) (sym (add-one k)))
      (ap (drop (k + 1)) e
      ∙ ap (λ n. drop (n + 1) (generating k)) (sym (length-generator s k))
      ∙ drop-append-add (generator s k) (drop k l) 1
      ∙ drop-drop 1 k l)

  pub generating-all : generating (length l) ≡ generator s (length l)
  generating-all = ap (λ z. generator s (length l) ++ z) (drop-length l) ∙ append-nil (generator s (length l))
