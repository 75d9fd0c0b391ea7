-- The greatest of the numbers s 0, .., s (n - 1).
-- Assumes nothing.
use Rattle.std.specs.Prelude.{◌≡◌, ◌&&◌, T}
use Rattle.std.proofs.Math.Path.{refl, sym, ap}
use Rattle.std.proofs.Common.{ap₂, ◌∙◌, le_refl, leb→le}
use Prim.Native.Nat.{ℕ, zero, suc, ◌+◌, ◌≤◌, ◌<◌, max}
use Rattle.std.proofs.Math.Numerals.{add-one}
use native.Mathlib.Omega.{arith, max_cases}
use Rattle.std.proofs.Math.Dec.{leb}
use borrow.Author.Tests.{le-leb}
use Rattle.list_laws.specs.Tests.{both, both-parts, same_test, holds}
use Rattle.list_laws.specs.Range.{all, all-at}

-- 0 of none
unfoldable pub most : (ℕ → ℕ) → ℕ → ℕ
most s zero = 0
most s (suc n) = max (most s n) (s n)

max-leb : (x y b : ℕ) → leb (max x y) b ≡ leb x b && leb y b
max-leb x y b = same_test _ _ parts whole
  where
    parts : T (leb (max x y) b) → T (leb x b && leb y b)
    parts t = let h = leb→le (max x y) b t in both (leb x b) (leb y b) (holds (le-leb x b (omega arith))) (holds (le-leb y b (omega arith)))

    whole : T (leb x b && leb y b) → T (leb (max x y) b)
    whole t = let (u, v) = both-parts (leb x b) (leb y b) t in holds (le-leb (max x y) b (omega (arith, leb→le x b u, leb→le y b v)))

module _ (s : ℕ → ℕ) where
  -- it is at most b exactly if all are
  pub most-leb : (n b : ℕ) → leb (most s n) b ≡ all n (λ k. leb (s k) b)
  unfolding most all
  most-leb zero b = le-leb 0 b (omega arith)
  most-leb (suc n) b = max-leb (most s n) (s n) b ∙ ap (λ t. t && leb (s n) b) (most-leb n b)

  pub most-at : (n k : ℕ) → k < n → s k ≤ most s n
  most-at n k h = leb→le _ _ (all-at n _ (holds (sym (most-leb n (most s n)) ∙ le-leb (most s n) (most s n) (le_refl _))) k h)

  -- one of them is the greatest
  pub most-some : (n : ℕ) → 0 < n → (k : ℕ) × (k < n) × (s k ≡ most s n)
  unfolding most
  most-some zero h = absurd (omega arith)
  most-some (suc zero) h = (0, omega arith, omega arith)
  most-some (suc (suc n)) h =
      let (k, l, e) = most-some (suc n) (omega arith) in
      max_cases (most s (suc n)) (s (suc n)) ((k : ℕ) × (k < suc (suc n)) × (s k ≡ most s (suc (suc n))))
      (λ x is. (suc n, omega arith, sym is)) (λ x is. (k, omega arith, e ∙ sym is))

  -- what a loop meets
  pub most-none : 0 ≡ most s 0
  unfolding most
  most-none = refl

  pub most-next : (n : ℕ) {m : ℕ} → m ≡ most s n → max m (s n) ≡ most s (n + 1)
  unfolding most
  most-next n e = rw add-one (ap (λ m. max m (s n)) e)

  pub most-more : (n : ℕ) {m : ℕ} → m ≡ most s n → m < s n → s n ≡ most s (n + 1)
  unfolding most
  most-more n e h = rw add-one (omega arith)

  pub most-kept : (n : ℕ) {m : ℕ} → m ≡ most s n → s n ≤ m → m ≡ most s (n + 1)
  unfolding most
  most-kept n e h = rw add-one (omega arith)

pub most-same : (s t : ℕ → ℕ) (n : ℕ) → ((k : ℕ) → k < n → s k ≡ t k) → most s n ≡ most t n
unfolding most
most-same s t zero h = refl
most-same s t (suc n) h = ap₂ max (most-same s t n (λ k l. h k (omega arith))) (h n (omega arith))
