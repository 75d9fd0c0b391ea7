-- Powers of 2 added by their exponents, one turn of the loop.
-- Assumes nothing.
use borrow.Author.Count.{below_none, below_more}
use mathlib.Core.Path.{◌≡◌, refl, sym, ap, ap₂, ◌∙◌}
use mathlib.Core.List.{List}
use Prim.Native.Nat.{ℕ, ◌+◌, ◌*◌, ◌^◌, ◌<◌}
use native.Mathlib.Nat.{add-zero, mul-zero, mul-suc, le_refl}
use native.Mathlib.Numerals.{add-one}
use native.Mathlib.Omega.{arith}
use lib.ListN.{length, get_or, set, length-set}
use lib.Seq.{get_or-set_same, get_or-set_other}
use Rattle.algebra.specs.Sums.{pow}
use Rattle.finite_field.specs.Xor.{◌⊕◌}
use Rattle.finite_field.specs.Field.{WordSize, bits, Word, product, power}
use Rattle.finite_field.specs.FieldLaws.{power-word, power-product}
use Rattle.finite_field.specs.Tables.{Tables}
use Rattle.finite_field.specs.Instance.{word_field, word, entry, x, word-xor, word-power}
use Rattle.field.specs.Turned.{turned, turned_lt, power-turned}
use Rattle.evaluation.specs.Words.{Words, SameFrom}
use Rattle.evaluation.proofs.Elements.{xor-word, set_words}

module _ (s : WordSize) where
  -- add_powers before place j: those below have their power of 2, and e is the exponent of the next
  pub record AddingPowers (start k : ℕ) (before now : List ℕ) (e j : ℕ) : Type 0 where
    pub e-lt : e < 2 ^ bits s
    pub e-is : power s e ≡ power s (start + k * j)
    pub words : Words s now
    pub size : length now ≡ length before
    pub sums : (i : ℕ) → i < j → entry s now i ≡ (word_field s).add (entry s before i) (pow (word_field s) (x s) (start + k * i))
    pub rest : SameFrom j before now

  module _ (start k : ℕ) (before : List ℕ) where
    pub adding-none : start < 2 ^ bits s → Words s before → AddingPowers start k before before start 0
    adding-none h hb = record {
      e-lt = h;
      e-is = ap (power s) (sym (ap (λ n. start + n) (mul-zero k) ∙ add-zero start));
      words = hb;
      size = refl;
      sums = below_none _;
      rest = λ i l. refl;
    }

    pub adding-next : {powers logs now : List ℕ} {e j next : ℕ} → Tables s powers logs → k < 2 ^ bits s
        → AddingPowers start k before now e j → j < length before → next ≡ turned s e k
        → AddingPowers start k before (set now j (get_or now j 0 ⊕ get_or powers e 0)) next (j + 1)
    adding-next {powers} {now = now} {e} {j} {next} t hk h l en =
        let F = word_field s in
        let v = get_or now j 0 ⊕ get_or powers e 0 in
        let inside : j < length now = omega (arith, h.size) in
        let power-is : get_or powers e 0 ≡ power s (start + k * j) = t.exp-at e h.e-lt ∙ h.e-is in
        let is_word : Word s (get_or powers e 0) = rw power-is (power-word s (start + k * j)) in
        let further : start + k * (j + 1) ≡ start + k * j + k = (let m : k * (j + 1) ≡ k * j + k = ap (λ n. k * n) (add-one j) ∙ mul-suc k j in omega arith) in
        record {
          e-lt = rw en (turned_lt s h.e-lt hk);
          e-is =
              ap (power s) en
              ∙ power-turned s e k
              ∙ sym (power-product s e k)
              ∙ ap (λ a. product s a (power s k)) h.e-is
              ∙ power-product s (start + k * j) k
              ∙ ap (power s) (sym further);
          words = set_words s now j v h.words (xor-word s (h.words j) is_word) inside;
          size = length-set now j v ∙ h.size;
          sums =
              below_more _ j
              (λ i m. ap (word s) (get_or-set_other now j i v 0 (omega arith)) ∙ h.sums i m)
              (ap (word s) (get_or-set_same now j v 0 inside)
              ∙ word-xor s (h.words j) is_word
              ∙ ap₂ F.add (ap (word s) (h.rest j (le_refl j))) (ap (word s) power-is ∙ word-power s (start + k * j)));
          rest = λ i m. get_or-set_other now j i v 0 (omega arith) ∙ h.rest i (omega arith);
        }
