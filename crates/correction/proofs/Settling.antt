-- The syndromes while corrections go into them: where the loops over the syndromes and over the corrections stand.
-- Assumes nothing.
use mathlib.Core.Path.{◌≡◌, refl, sym, ap, ◌∙◌}
use mathlib.Core.List.{List}
use Prim.Native.Nat.{ℕ, suc, ◌+◌, ◌-◌, ◌*◌, ◌<◌}
use native.Mathlib.Nat.{add_comm, mul-suc}
use native.Mathlib.Numerals.{add-one}
use lib.ListN.{length, get_or}
use Rattle.algebra.specs.Field.{⊕-assoc, ⊕-zero, ⊗-left-zero}
use Rattle.algebra.specs.Sums.{sum-none, sum-last, pow, pow-mul}
use Rattle.algebra.specs.Vandermonde.{power_sum}
use Rattle.finite_field.specs.Field.{WordSize, Word, product, power}
use Rattle.finite_field.specs.Instance.{word_field, word, entry, x, word-zero}
use Rattle.correction.specs.Received.{Words}
use Rattle.correction.specs.Steps.{place, Settled}
use Rattle.evaluation.specs.Evaluation as evaluation
use Rattle.evaluation.proofs.Direct.{start-power}

module _ (s : WordSize) where
  -- the correction at 2^k, times the locator's power i
  abbrev pub share : ℕ → ℕ → ℕ → (word_field s).C
  share correction k i = (word_field s).mul (word s correction) (pow (word_field s) (pow (word_field s) (x s) k) i)

  -- the share of each syndrome is a power of 2, by its exponent
  pub settled-by : (correction k count start : ℕ) (before after : List ℕ) → Word s correction
      → power s start ≡ product s correction (power s k) → evaluation.PowersAdded s start k count before after
      → Settled s correction k count before after
  settled-by correction k count start before after hw e h =
      let F = word_field s in
      record {
        words = h.words;
        sums =
            λ j l.
            h.sums j l
            ∙ ap (F.add (entry s before j))
            (start-power s start k (k * j) hw e
            ∙ ap (F.mul (word s correction))
            (ap (pow F (x s)) (add_comm k (k * j) ∙ sym (mul-suc k j)) ∙ pow-mul F (x s) k (suc j)));
      }

  -- settle_all before correction i: those below i are in the syndromes
  pub record SettlingAll (n count : ℕ) (corrections before now : List ℕ) (i : ℕ) : Type 0 where
    pub words : Words s now
    pub size : length now ≡ length before
    pub sums : (j : ℕ) → j < count
        → entry s now j ≡ (word_field s).add (entry s before j) (power_sum (word_field s) i (place s n) (entry s corrections) (suc j))

  module _ (n count : ℕ) (corrections before : List ℕ) where
    -- one term more of a power sum of the corrections
    sum-next : (i j : ℕ) (a : (word_field s).C)
        → (word_field s).add a (power_sum (word_field s) (i + 1) (place s n) (entry s corrections) (suc j))
        ≡ (word_field s).add ((word_field s).add a (power_sum (word_field s) i (place s n) (entry s corrections) (suc j)))
        (share (get_or corrections i 0) (n - 1 - i) (suc j))
    sum-next i j a =
        let F = word_field s in
        ap (λ m. F.add a (power_sum F m (place s n) (entry s corrections) (suc j))) (add-one i)
        ∙ ap (F.add a) (sum-last F i _)
        ∙ sym (⊕-assoc F _ _ _)

    pub settling-all-none : Words s before → SettlingAll n count corrections before before 0
    settling-all-none hb = record {
      words = hb;
      size = refl;
      sums = λ j l. sym (ap ((word_field s).add (entry s before j)) (sum-none (word_field s) _) ∙ ⊕-zero (word_field s) _);
    }

    -- a correction of 0 adds nothing
    pub settling-all-same : {now : List ℕ} {i : ℕ} → SettlingAll n count corrections before now i → get_or corrections i 0 ≡ 0
        → SettlingAll n count corrections before now (i + 1)
    settling-all-same {now} {i} h e =
        let F = word_field s in
        record {
          words = h.words;
          size = h.size;
          sums =
              λ j l.
              h.sums j l
              ∙ sym
              (sum-next i j (entry s before j)
              ∙ ap (F.add _) (⊗-left-zero F _ (ap (word s) e ∙ word-zero s))
              ∙ ⊕-zero F _);
        }

    pub settling-all-next : {now after : List ℕ} {i : ℕ} → SettlingAll n count corrections before now i
        → Settled s (get_or corrections i 0) (n - 1 - i) count now after → length after ≡ length now
        → SettlingAll n count corrections before after (i + 1)
    settling-all-next {now} {after} {i} h settled e = record {
      words = settled.words;
      size = e ∙ h.size;
      sums =
          λ j l.
          settled.sums j l
          ∙ ap (λ z. (word_field s).add z (share (get_or corrections i 0) (n - 1 - i) (suc j))) (h.sums j l)
          ∙ sym (sum-next i j (entry s before j));
    }
