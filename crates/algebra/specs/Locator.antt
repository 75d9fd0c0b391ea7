-- The loop that finds a locator, Berlekamp and Massey's in forward form: what it keeps, how it starts, and its three steps.
-- L + g grows at each turn and stays below 2t, so the loop ends; then P annihilates t places of U, as the key equation asks.
-- Assumes nothing.
use Rattle.std.specs.Prelude.{◌≡◌, ◌≢◌, ◌⊎◌}
use Rattle.std.proofs.Math.Path.{refl, sym, fun_ext}
use Rattle.std.proofs.Common.{ap, ap₂, ◌∙◌, subst₂, inl, inr, add-zero, add-suc, not-suc-le-zero, le_refl, eq-or-lt_of_le, arith}
use Prim.Native.Nat.{ℕ, zero, suc, ◌+◌, ◌-◌, ◌≤◌, ◌<◌}
use Rattle.std.proofs.Math.Nat.{zero-add, suc-add}
use Rattle.std.proofs.Math.Decide.{dec_lt}
use Rattle.list_laws.specs.Range.{up_to}
use Rattle.algebra.specs.Field.{Field, ring, zero-⊕, ⊗-ne, zero-⊗}
use Rattle.algebra.specs.Sums.{sum-none, sum_first, sum-last, sum-cong, sum-add, sum-mul}
use Rattle.algebra.specs.KeyEquation.{dot}

module _ (F : Field) where
  open F use {C, zer as 𝟘, one as 𝟙, add as ◌⊕◌, mul as ◌⊗◌, dec}

  infixl 65 ◌⊕◌
  infixl 70 ◌⊗◌
  -- the polynomial 1
  unfoldable pub unit : ℕ → C
  unit zero = 𝟙
  unit (suc j) = 𝟘

  pub unit-above : (j : ℕ) → 0 < j → unit j ≡ 𝟘
  unfolding unit
  unit-above zero l = absurd (omega arith)
  unit-above (suc j) l = refl

  -- the polynomial times x, and times x^s
  unfoldable pub times_x : (ℕ → C) → ℕ → C
  times_x P zero = 𝟘
  times_x P (suc j) = P j

  unfoldable pub shift : ℕ → (ℕ → C) → ℕ → C
  shift zero P = P
  shift (suc s) P = times_x (shift s P)

  pub shift-below : (s : ℕ) (P : ℕ → C) (j : ℕ) → j < s → shift s P j ≡ 𝟘
  unfolding shift times_x
  shift-below zero P j l = absurd (not-suc-le-zero l)
  shift-below (suc s) P zero l = refl
  shift-below (suc s) P (suc j) l = shift-below s P j (omega arith)

  pub shift-at : (s : ℕ) (P : ℕ → C) (j : ℕ) → shift s P (s + j) ≡ P j
  unfolding shift times_x
  shift-at zero P j = rw zero-add
  shift-at (suc s) P j = rw suc-add (shift-at s P j)

  pub shift-above : (s N : ℕ) (P : ℕ → C) → ((j : ℕ) → N ≤ j + s → P j ≡ 𝟘) → (j : ℕ) → N ≤ j → shift s P j ≡ 𝟘
  unfolding shift times_x
  shift-above zero N P h j l = h j (omega arith)
  shift-above (suc s) N P h zero l = refl
  shift-above (suc s) N P h (suc j) l = shift-above s j P (λ k p. h k (omega arith)) j (le_refl j)

  dot-times_x : (N : ℕ) (P U : ℕ → C) (i : ℕ) → ((j : ℕ) → N ≤ suc j → P j ≡ 𝟘) → dot F N (times_x P) U i ≡ dot F N P U (suc i)
  unfolding times_x
  dot-times_x zero P U i h = sum-none F _ ∙ sym (sum-none F _)
  dot-times_x (suc N) P U i h =
      sum_first F N _
      ∙ rw (zero-⊗, zero-⊕)
      (sum-cong F N _ (λ j. P j ⊗ U (suc i + j)) (λ j l. rw (add-suc, suc-add))
      ∙ sym (sum-last F N (λ j. P j ⊗ U (suc i + j)) ∙ rw (h N (le_refl _)) (simp ring)))

  pub dot-shift : (s N : ℕ) (P U : ℕ → C) (i : ℕ) → ((j : ℕ) → N ≤ j + s → P j ≡ 𝟘) → dot F N (shift s P) U i ≡ dot F N P U (i + s)
  unfolding shift
  dot-shift zero N P U i h = rw (add-zero i)
  dot-shift (suc s) N P U i h =
      dot-times_x N (shift s P) U i (λ j l. shift-above s j P (λ k p. h k (omega arith)) j (le_refl j))
      ∙ dot-shift s N P U (suc i) (λ j l. h j (omega arith))
      ∙ rw (add-suc, suc-add)

  -- b·P + d·Q
  abbrev pub combine : C → (ℕ → C) → C → (ℕ → C) → ℕ → C
  combine b P d Q j = b ⊗ P j ⊕ d ⊗ Q j

  pub dot-combine : (N : ℕ) (b : C) (P : ℕ → C) (d : C) (Q U : ℕ → C) (i : ℕ)
      → dot F N (combine b P d Q) U i ≡ b ⊗ dot F N P U i ⊕ d ⊗ dot F N Q U i
  dot-combine N b P d Q U i =
      sum-cong F N _ (λ j. b ⊗ (P j ⊗ U (i + j)) ⊕ d ⊗ (Q j ⊗ U (i + j))) (λ j l. simp ring)
      ∙ sum-add F N (λ j. b ⊗ (P j ⊗ U (i + j))) (λ j. d ⊗ (Q j ⊗ U (i + j)))
      ∙ ap₂ ◌⊕◌ (sum-mul F N b (λ j. P j ⊗ U (i + j))) (sum-mul F N d (λ j. Q j ⊗ U (i + j)))

  both_zero : (b d : C) {x y : C} → x ≡ 𝟘 → y ≡ 𝟘 → b ⊗ x ⊕ d ⊗ y ≡ 𝟘
  both_zero b d p q = rw (p, q) (simp ring)

  second-zero : (b d x : C) {y : C} → y ≡ 𝟘 → b ⊗ x ⊕ d ⊗ y ≡ b ⊗ x
  second-zero b d x q = rw q (simp ring)

  cancel : (b d : C) {x y : C} → x ≡ d → y ≡ b → b ⊗ x ⊕ d ⊗ y ≡ 𝟘
  cancel b d p q = rw (p, q) (simp ring)

  -- P is the candidate, of degree L, and annihilates the first g places of U. Q is the one before the last change of degree:
  -- it annihilates the places below L − 1, and leaves b there.
  pub record Locating (t : ℕ) (U : ℕ → C) (L g : ℕ) (P Q : ℕ → C) (b : C) : Type 0 where
    pub L-le : L ≤ t
    pub P-above : (j : ℕ) → L < j → P j ≡ 𝟘
    pub P-lead : P L ≢ 𝟘
    pub P-annihilates : (i : ℕ) → i < g → dot F (suc t) P U i ≡ 𝟘
    pub Q-above : (j : ℕ) → g < j → Q j ≡ 𝟘
    pub Q-annihilates : (i : ℕ) → suc i < L → dot F (suc t) Q U i ≡ 𝟘
    pub Q-leaves : (i : ℕ) → suc i ≡ L → dot F (suc t) Q U i ≡ b
    pub b-ne : b ≢ 𝟘

  module _ (t : ℕ) (U : ℕ → C) where
    pub start : Locating t U 0 0 unit (λ j. 𝟘) 𝟙
    unfolding unit
    start = record {
      L-le = omega arith;
      P-above = unit-above;
      P-lead = F.one-ne;
      P-annihilates = λ i l. absurd (not-suc-le-zero l);
      Q-above = λ j l. refl;
      Q-annihilates = λ i l. absurd (not-suc-le-zero l);
      Q-leaves = λ i e. absurd (omega arith);
      b-ne = F.one-ne;
    }

    -- the candidates may be read from elsewhere
    pub locating-cong : {L g : ℕ} {P P' Q Q' : ℕ → C} {b : C} → ((j : ℕ) → P j ≡ P' j) → ((j : ℕ) → Q j ≡ Q' j)
        → Locating t U L g P Q b → Locating t U L g P' Q' b
    locating-cong {L} {g} {b} p q v = subst₂ (λ P Q. Locating t U L g P Q b) (fun_ext p) (fun_ext q) v

    module _ {L g : ℕ} {P Q : ℕ → C} {b : C} (v : Locating t U L g P Q b) where
      -- the discrepancy at g, what P leaves there, is zero
      pub step-annihilates : dot F (suc t) P U g ≡ 𝟘 → Locating t U L (suc g) P Q b
      step-annihilates z = record {
        L-le = v.L-le;
        P-above = v.P-above;
        P-lead = v.P-lead;
        P-annihilates = up_to (λ i. dot F (suc t) P U i ≡ 𝟘) g v.P-annihilates z;
        Q-above = λ j l. v.Q-above j (omega arith);
        Q-annihilates = v.Q-annihilates;
        Q-leaves = v.Q-leaves;
        b-ne = v.b-ne;
      }

      -- it is d, and the degree stays: s = L − 1 − g
      pub step-same-length : (s : ℕ) (d : C) → suc (g + s) ≡ L → dot F (suc t) P U g ≡ d
          → Locating t U L (suc g) (combine b P d (shift s Q)) Q b
      step-same-length s d q z = record {
        L-le = v.L-le;
        P-above = λ j l. both_zero b d (v.P-above j l) (Q-shifted j (omega arith));
        P-lead = λ e. ⊗-ne F b (P L) v.b-ne v.P-lead (sym (second-zero b d _ (Q-shifted L (le_refl L))) ∙ e);
        P-annihilates =
            up_to (λ i. dot F (suc t) (combine b P d (shift s Q)) U i ≡ 𝟘) g
            (λ i l. at i ∙ both_zero b d (v.P-annihilates i l) (v.Q-annihilates (i + s) (omega arith)))
            (at g ∙ cancel b d z (v.Q-leaves (g + s) q));
        Q-above = λ j l. v.Q-above j (omega arith);
        Q-annihilates = v.Q-annihilates;
        Q-leaves = v.Q-leaves;
        b-ne = v.b-ne;
      }
        where
          Q-shifted : (j : ℕ) → L ≤ j → shift s Q j ≡ 𝟘
          Q-shifted = shift-above s L Q (λ j l. v.Q-above j (omega arith))

          at : (i : ℕ) → dot F (suc t) (combine b P d (shift s Q)) U i ≡ b ⊗ dot F (suc t) P U i ⊕ d ⊗ dot F (suc t) Q U (i + s)
          at i =
              dot-combine (suc t) b P d (shift s Q) U i
              ∙ ap (λ x. b ⊗ dot F (suc t) P U i ⊕ d ⊗ x) (dot-shift s (suc t) Q U i (λ j l. v.Q-above j (omega (arith, v.L-le))))

      -- it is d, and the degree becomes g + 1: s = g + 1 − L
      pub step-longer : (s : ℕ) (d : C) → L + s ≡ suc g → g < t → d ≢ 𝟘 → dot F (suc t) P U g ≡ d
          → Locating t U (suc g) L (combine b (shift s P) d Q) P d
      step-longer s d q gt d-ne z = record {
        L-le = gt;
        P-above = λ j l. both_zero b d (shift-above s j P (λ k p. v.P-above k (omega arith)) j (le_refl j)) (v.Q-above j (omega arith));
        P-lead = λ e.
            ⊗-ne F b (P L) v.b-ne v.P-lead
            (ap (λ x. b ⊗ x) (sym (ap (shift s P) (let k : suc g ≡ s + L = omega arith in k) ∙ shift-at s P L))
            ∙ sym (second-zero b d _ (v.Q-above (suc g) (le_refl _)))
            ∙ e);
        P-annihilates = λ i l. annihilates i (eq-or-lt_of_le l);
        Q-above = v.P-above;
        Q-annihilates = λ i l. v.P-annihilates i (omega arith);
        Q-leaves = λ i e. ap (dot F (suc t) P U) (let k : i ≡ g = omega arith in k) ∙ z;
        b-ne = d-ne;
      }
        where
          at : (i : ℕ) → dot F (suc t) (combine b (shift s P) d Q) U i ≡ b ⊗ dot F (suc t) P U (i + s) ⊕ d ⊗ dot F (suc t) Q U i
          at i =
              dot-combine (suc t) b (shift s P) d Q U i
              ∙ ap (λ x. b ⊗ x ⊕ d ⊗ dot F (suc t) Q U i) (dot-shift s (suc t) P U i (λ j l. v.P-above j (omega arith)))

          annihilates : (i : ℕ) → (suc i ≡ L) ⊎ (suc i < L) → dot F (suc t) (combine b (shift s P) d Q) U i ≡ 𝟘
          annihilates i (inl e) =
              at i ∙ cancel b d (ap (dot F (suc t) P U) (let k : i + s ≡ g = omega arith in k) ∙ z) (v.Q-leaves i e)
          annihilates i (inr l) = at i ∙ both_zero b d (v.P-annihilates (i + s) (omega arith)) (v.Q-annihilates i l)

  -- coefficients up to t, not all zero, that annihilate t places of U
  pub record Located (t : ℕ) (U : ℕ → C) (P : ℕ → C) : Type 0 where
    pub top : ℕ
    pub top-le : top ≤ t
    pub lead : P top ≢ 𝟘
    pub annihilates : (i : ℕ) → i < t → dot F (suc t) P U i ≡ 𝟘

  module _ (t : ℕ) (U : ℕ → C) where
    -- the loop's end
    pub located : {L g : ℕ} {P Q : ℕ → C} {b : C} → Locating t U L g P Q b → t ≤ g → Located t U P
    located {L} v h = record { top = L; top-le = v.L-le; lead = v.P-lead; annihilates = λ i l. v.P-annihilates i (omega arith) }

    turns : (fuel L g : ℕ) (P Q : ℕ → C) (b : C) → Locating t U L g P Q b → t + t ≤ fuel + (g + L)
        → Dec (g < t) → Dec (dot F (suc t) P U g ≡ 𝟘) → Dec (g < L) → (P : ℕ → C) × Located t U P
    turns zero L g P Q b v h c d s = (P, located v (omega (arith, v.L-le)))
    turns (suc fuel) L g P Q b v h (no c) d s = (P, located v (omega arith))
    turns (suc fuel) L g P Q b v h (yes c) (yes z) s =
        turns fuel L (suc g) P Q b (step-annihilates t U v z) (omega arith) (dec_lt _ _) (dec _ _) (dec_lt _ _)
    turns (suc fuel) L g P Q b v h (yes c) (no z) (yes s) =
        turns fuel L (suc g) _ Q b (step-same-length t U v (L - suc g) _ (omega arith) refl) (omega arith) (dec_lt _ _) (dec _ _) (dec_lt _ _)
    turns (suc fuel) L g P Q b v h (yes c) (no z) (no s) =
        turns fuel (suc g) L _ P _ (step-longer t U v (suc g - L) _ (omega arith) c z refl) (omega arith) (dec_lt _ _) (dec _ _) (dec_lt _ _)

    -- there is always a locator
    pub locator-exists : (P : ℕ → C) × Located t U P
    locator-exists = turns (t + t) 0 0 unit (λ j. 𝟘) 𝟙 (start t U) (omega arith) (dec_lt _ _) (dec _ _) (dec_lt _ _)
