-- A polynomial at all powers of α by folding, where α^(m·M) is 1: at α^j the power x^M depends on the class j mod m alone, so each class
-- has a polynomial of M coefficients with the same value there. A step folds these into m·per classes of p coefficients, for M = per · p.
-- Assumes nothing.
use Rattle.std.specs.Prelude.{◌≡◌, ℕ, zero, suc, ◌+◌, ◌-◌, ◌*◌, ◌/◌, ◌%◌, ◌≤◌, ◌<◌}
use Rattle.std.proofs.Common.{sym, ap, ap₂, ◌∙◌, add-zero, add-suc, zero-add, zero-mul, suc-mul, mul_assoc, mul_comm, add-mul, div-add-mod', mod-lt, mul-le-mul_right, arith}
use Rattle.std.proofs.Math.Nat.{mod-one, mod-mod_of_dvd, dvd-mul_right}
use Rattle.std.proofs.Math.Arith.{digits_lt}
use Rattle.algebra.specs.Field.{Field, ring, ⊕-assoc, ⊕-comm, ⊕-zero, ⊗-comm, one-⊗, ⊗-left-zero}
use Rattle.algebra.specs.Sums.{
  sum,
  pow,
  sum-none,
  sum_first,
  sum-last,
  sum-cong,
  sum-zero,
  sum-mul,
  sum-swap,
  sum-short,
  pow-zero,
  pow-suc,
  pow-add,
  pow-mul,
}
use Rattle.algebra.specs.KeyEquation.{eval}

module _ (F : Field) where
  open F use {C, zer as 𝟘, one as 𝟙, add as ◌⊕◌, mul as ◌⊗◌}

  infixl 65 ◌⊕◌
  infixl 70 ◌⊗◌
  pub sum-join : (a b : ℕ) (f : ℕ → C) → sum F (a + b) f ≡ sum F a f ⊕ sum F b (λ r. f (a + r))
  sum-join a zero f = ap (λ n. sum F n f) (add-zero a) ∙ sym (ap (λ y. sum F a f ⊕ y) (sum-none F _) ∙ ⊕-zero F _)
  sum-join a (suc b) f =
      ap (λ n. sum F n f) (add-suc a b)
      ∙ sum-last F (a + b) f
      ∙ ap (λ y. y ⊕ f (a + b)) (sum-join a b f)
      ∙ ⊕-assoc F _ _ _
      ∙ ap (λ y. sum F a f ⊕ y) (sym (sum-last F b (λ r. f (a + r))))

  -- k parts of p terms
  pub sum-parts : (k p : ℕ) (f : ℕ → C) → sum F (k * p) f ≡ sum F k (λ i. sum F p (λ r. f (i * p + r)))
  sum-parts zero p f = ap (λ n. sum F n f) (zero-mul p) ∙ sum-none F f ∙ sym (sum-none F _)
  sum-parts (suc k) p f =
      ap (λ n. sum F n f) (suc-mul k p)
      ∙ sum-join (k * p) p f
      ∙ ap (λ y. y ⊕ sum F p (λ r. f (k * p + r))) (sum-parts k p f)
      ∙ sym (sum-last F k (λ i. sum F p (λ r. f (i * p + r))))

  -- the terms from the last to the first
  pub sum-reverse : (n : ℕ) (f : ℕ → C) → sum F n f ≡ sum F n (λ i. f (n - 1 - i))
  sum-reverse zero f = sum-none F f ∙ sym (sum-none F _)
  sum-reverse (suc n) f =
      sum_first F n f
      ∙ ⊕-comm F _ _
      ∙ ap₂ ◌⊕◌
      (sum-reverse n (λ i. f (suc i))
      ∙ sum-cong F n _ (λ i. f (suc n - 1 - i)) (λ i l. ap f (let e : suc (n - 1 - i) ≡ suc n - 1 - i = omega arith in e)))
      (ap f (let e : 0 ≡ suc n - 1 - n = omega arith in e))
      ∙ sym (sum-last F n (λ i. f (suc n - 1 - i)))

  pub pow-one : (n : ℕ) → pow F 𝟙 n ≡ 𝟙
  pow-one zero = pow-zero F 𝟙
  pow-one (suc n) = pow-suc F 𝟙 n ∙ one-⊗ F _ ∙ pow-one n

  -- where α^N is 1 exponents turn over at N
  pub pow-turn : (α : C) (N q r : ℕ) → pow F α N ≡ 𝟙 → pow F α (q * N + r) ≡ pow F α r
  pow-turn α N q r e =
      pow-add F α (q * N) r
      ∙ ap (λ y. y ⊗ pow F α r) (ap (pow F α) (mul_comm q N) ∙ pow-mul F α N q ∙ ap (λ y. pow F y q) e ∙ pow-one q)
      ∙ one-⊗ F _

  -- m classes of M coefficients each, one after another: that of j mod m has the value v j at α^j
  abbrev pub Folded : C → ℕ → ℕ → (ℕ → C) → (ℕ → C) → Type 0
  Folded α m M A v = (j : ℕ) → eval F M (λ r. A (j % m * M + r)) (pow F α j) ≡ v j

  -- coefficients from w on are zero in each class
  abbrev pub Narrow : ℕ → ℕ → ℕ → (ℕ → C) → Type 0
  Narrow m M w A = (c r : ℕ) → c < m → w ≤ r → r < M → A (c * M + r) ≡ 𝟘

  -- one class is the polynomial itself
  pub folded_start : (α : C) (N n : ℕ) (A : ℕ → C) → n ≤ N → ((j : ℕ) → n ≤ j → A j ≡ 𝟘)
      → Folded α 1 N A (λ j. eval F n A (pow F α j))
  folded_start α N n A l zeros j =
      sum-cong F N _ (λ r. A r ⊗ pow F (pow F α j) r)
      (λ r _. ap (λ i. A i ⊗ pow F (pow F α j) r) (ap (λ c. c * N + r) (mod-one j) ∙ ap (λ i. i + r) (zero-mul N) ∙ zero-add r))
      ∙ sum-short F n N _ l (λ i k _. ⊗-left-zero F _ (zeros i k))

  pub narrow_start : (N n : ℕ) (A : ℕ → C) → ((j : ℕ) → n ≤ j → A j ≡ 𝟘) → Narrow 1 N n A
  narrow_start N n A zeros c r h l k = zeros (c * N + r) (omega arith)

  -- the first coefficients of each class are enough
  pub folded-end : (α : C) (m M w rounds : ℕ) (A v : ℕ → C) → 0 < m → rounds ≤ M → ((i : ℕ) → rounds ≤ i → i < M → w ≤ i)
      → Narrow m M w A → Folded α m M A v → (j : ℕ) → eval F rounds (λ r. A (j % m * M + r)) (pow F α j) ≡ v j
  folded-end α m M w rounds A v pos few enough narrow folded j =
      sym (sum-short F rounds M _ few (λ i k l. ⊗-left-zero F _ (narrow (j % m) i (mod-lt j pos) (enough i k l) l))) ∙ folded j

  module _ (α : C) (m per p chunks w : ℕ) (A B v : ℕ → C)
      (order : pow F α (m * per * p) ≡ 𝟙)
      (pos : 0 < m)
      (per_pos : 0 < m * per)
      (few : chunks ≤ per)
      (enough : (i : ℕ) → chunks * p ≤ i → i < per * p → w ≤ i)
      (narrow : Narrow m (per * p) w A)
      (folded : Folded α m (per * p) A v)
      (made : (c r : ℕ) → c < m * per → r < p
      → B (c * p + r) ≡ eval F chunks (λ k. A (c % m * (per * p) + (k * p + r))) (pow F α (c * p))) where
    -- α^(jp) is that of the class
    class-power : (j : ℕ) → pow F α (j % (m * per) * p) ≡ pow F (pow F α j) p
    class-power j =
        let c = j % (m * per) in
        let q = j / (m * per) in
        sym (pow-turn α (m * per * p) q (c * p) order)
        ∙ ap (pow F α)
        (ap (λ i. i + c * p) (sym (mul_assoc q (m * per) p))
        ∙ sym (add-mul (q * (m * per)) c p)
        ∙ ap (λ i. i * p) (div-add-mod' j (m * per)))
        ∙ pow-mul F α j p

    -- coefficient r of the class of j, at its power
    term : (j r : ℕ) → r < p
        → B (j % (m * per) * p + r) ⊗ pow F (pow F α j) r
        ≡ sum F chunks (λ k. A (j % m * (per * p) + (k * p + r)) ⊗ pow F (pow F α j) (k * p + r))
    term j r l =
        let c = j % (m * per) in
        let X = pow F α j in
        let P : ℕ → C = λ k. A (j % m * (per * p) + (k * p + r)) in
        ap (λ y. y ⊗ pow F X r)
        (made c r (mod-lt j per_pos) l
        ∙ ap₂ (λ d y. eval F chunks (λ k. A (d * (per * p) + (k * p + r))) y) (mod-mod_of_dvd m j (dvd-mul_right m per)) (class-power j))
        ∙ ⊗-comm F _ _
        ∙ sym (sum-mul F chunks (pow F X r) (λ k. P k ⊗ pow F (pow F X p) k))
        ∙ sum-cong F chunks _ _
        (λ k _.
        sym
        (ap (λ y. P k ⊗ y) (pow-add F X (k * p) r ∙ ap (λ y. y ⊗ pow F X r) (ap (pow F X) (mul_comm k p) ∙ pow-mul F X p k)) ∙ simp ring))

    pub fold-folded : Folded α (m * per) p B v
    fold-folded j =
        let T : ℕ → C = λ i. A (j % m * (per * p) + i) ⊗ pow F (pow F α j) i in
        sum-cong F p _ _ (λ r l. term j r l)
        ∙ sum-swap F p chunks (λ r k. T (k * p + r))
        ∙ sym (sum-parts chunks p T)
        ∙ sym
        (sum-short F (chunks * p) (per * p) T (mul-le-mul_right p few)
        (λ i k l. ⊗-left-zero F _ (narrow (j % m) i (mod-lt j pos) (enough i k l) l)))
        ∙ folded j

    pub fold-narrow : Narrow (m * per) p w B
    fold-narrow c r h k l =
        made c r h l
        ∙ sum-zero F chunks _
        (λ i n.
        let below : i < per = omega arith in
        ⊗-left-zero F _ (narrow (c % m) (i * p + r) (mod-lt c pos) (omega arith) (digits_lt below l)))
