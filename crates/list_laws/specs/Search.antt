-- The first number from i on, of n numbers, that passes a test.
-- Assumes nothing.
use Rattle.std.proofs.Math.Path.{◌≡◌, refl, sym, ap}
use Rattle.std.proofs.Common.{◌∙◌}
use Rattle.std.specs.Prelude.{Bool}
use Rattle.std.proofs.Math.Bool.{true, false, cond}
use Rattle.std.proofs.Math.Option.{Option, none, some, some-injective, none-ne-some}
use Prim.Native.Nat.{ℕ, zero, suc, ◌+◌, ◌-◌, ◌≤◌, ◌<◌}
use native.Mathlib.Omega.{arith}

unfoldable pub first_from : (ℕ → Bool) → ℕ → ℕ → Option ℕ
first_from test i zero = none
first_from test i (suc n) = cond (test i) (some i) (first_from test (i + 1) n)

-- whether one was found
abbrev pub found : Option ℕ → Bool
found none = false
found (some k) = true

module _ (test : ℕ → Bool) where
  -- it is here, or it is searched for further on
  pub first-here : (i n : ℕ) → 0 < n → test i ≡ true → first_from test i n ≡ some i
  unfolding first_from
  first-here i zero h e = absurd (omega arith)
  first-here i (suc n) h e = rw e refl

  pub first_next : (i n : ℕ) → 0 < n → test i ≡ false → first_from test i n ≡ first_from test (i + 1) (n - 1)
  unfolding first_from
  first_next i zero h e = absurd (omega arith)
  first_next i (suc n) h e = rw e (ap (first_from test (i + 1)) (let z : n ≡ suc n - 1 = omega arith in z))

  pub first-none : (i : ℕ) → first_from test i 0 ≡ none
  unfolding first_from
  first-none i = refl

  -- what is found passes
  pub first_found : (n i k : ℕ) → first_from test i n ≡ some k → (test k ≡ true) × (k < i + n)
  unfolding first_from
  first_found zero i k e = absurd (none-ne-some k e)
  first_found (suc n) i k e = go (test i) refl e (first_found n (i + 1) k)
    where
      go : (b : Bool) → test i ≡ b → cond b (some i) (first_from test (i + 1) n) ≡ some k
          → (first_from test (i + 1) n ≡ some k → (test k ≡ true) × (k < i + 1 + n)) → (test k ≡ true) × (k < i + suc n)
      go true t p rec = (sym (ap test (some-injective i k p)) ∙ t, omega (arith, some-injective i k p))
      go false t p rec = ((rec p).0, omega (arith, (rec p).1))

  pub first-from : (n i k : ℕ) → first_from test i n ≡ some k → i ≤ k
  unfolding first_from
  first-from zero i k e = absurd (none-ne-some k e)
  first-from (suc n) i k e = go (test i) e (first-from n (i + 1) k)
    where
      go : (b : Bool) → cond b (some i) (first_from test (i + 1) n) ≡ some k → (first_from test (i + 1) n ≡ some k → i + 1 ≤ k) → i ≤ k
      go true p rec = omega (arith, some-injective i k p)
      go false p rec = omega (arith, rec p)

  -- where one passes, one is found
  pub found_at : (n i k : ℕ) → i ≤ k → k < i + n → test k ≡ true → found (first_from test i n) ≡ true
  unfolding first_from
  found_at zero i k h l t = absurd (omega arith)
  found_at (suc n) i k h l t = go (test i) refl (λ d. found_at n (i + 1) k (omega (arith, d)) (omega arith) t)
    where
      go : (b : Bool) → test i ≡ b → ((i ≡ k → ⊥) → found (first_from test (i + 1) n) ≡ true)
          → found (cond b (some i) (first_from test (i + 1) n)) ≡ true
      go true e rec = refl
      go false e rec = rec (λ p. let same = ap test p in let z : ◌≡◌ {A = Bool} false true = cc in let y : ◌≡◌ {A = ℕ} 0 1 = cc in omega arith)

  -- the only one that passes is found
  pub first-only : (n i k : ℕ) → i ≤ k → k < i + n → test k ≡ true → ((j : ℕ) → i ≤ j → j < i + n → test j ≡ true → j ≡ k) → first_from test i n ≡ some k
  unfolding first_from
  first-only zero i k h l t one = absurd (omega arith)
  first-only (suc n) i k h l t one = go (test i) refl (λ d. first-only n (i + 1) k (omega (arith, d)) (omega arith) t (λ j x y. one j (omega arith) (omega arith)))
    where
      go : (b : Bool) → test i ≡ b → ((i ≡ k → ⊥) → first_from test (i + 1) n ≡ some k) → cond b (some i) (first_from test (i + 1) n) ≡ some k
      go true e rec = ap some (one i (omega arith) (omega arith) e)
      go false e rec = rec (λ p. let z = sym e ∙ ap test p ∙ t in true-is-not-false z)
        where
          true-is-not-false : false ≡ true → ⊥
          true-is-not-false q = let z : ◌≡◌ {A = ℕ} 0 1 = ap (λ (b : Bool). cond b 1 0) q in omega arith
