-- Which of the numbers i, .., i + n - 1 pass a test, as the bits of one number: bit k says it of number i + k.
-- Assumes nothing.
use Rattle.std.specs.Prelude.{◌≡◌, Bool}
use Rattle.std.proofs.Math.Path.{refl, ap}
use Rattle.std.proofs.Common.{ap₂, ◌∙◌}
use Prim.Native.Nat.{ℕ, zero, suc, ◌+◌, ◌*◌, ◌-◌, ◌/◌, ◌%◌, ◌^◌, ◌≤◌, ◌<◌}
use Rattle.std.proofs.Math.Nat.{pow-suc}
use native.Mathlib.Omega.{arith}
use Rattle.list_laws.specs.Range.{one, one-most}

unfoldable pub mask_from : (ℕ → Bool) → ℕ → ℕ → ℕ
mask_from test i zero = 0
mask_from test i (suc n) = one (test i) + 2 * mask_from test (i + 1) n

-- bit k of m, the lowest is bit 0
unfoldable pub bit_at : ℕ → ℕ → ℕ
bit_at m zero = m % 2
bit_at m (suc k) = bit_at (m / 2) k

module _ (test : ℕ → Bool) where
  pub mask-bit : (n i k : ℕ) → k < n → bit_at (mask_from test i n) k ≡ one (test (i + k))
  unfolding mask_from bit_at
  mask-bit zero i k h = absurd (omega arith)
  mask-bit (suc n) i zero h =
      let few = one-most (test i) in
      let low : (one (test i) + 2 * mask_from test (i + 1) n) % 2 ≡ one (test i) = omega arith in
      low ∙ ap (λ j. one (test j)) (let z : i ≡ i + 0 = omega arith in z)
  mask-bit (suc n) i (suc k) h =
      let few = one-most (test i) in
      let high : (one (test i) + 2 * mask_from test (i + 1) n) / 2 ≡ mask_from test (i + 1) n = omega arith in
      ap (λ m. bit_at m k) high
      ∙ mask-bit n (i + 1) k (omega arith)
      ∙ ap (λ j. one (test j)) (let z : i + 1 + k ≡ i + suc k = omega arith in z)

  pub mask_below : (n i : ℕ) → mask_from test i n < 2 ^ n
  unfolding mask_from
  mask_below zero i = omega arith
  mask_below (suc n) i = omega (arith, one-most (test i), mask_below n (i + 1), pow-suc 2 n)

  -- what a loop meets that goes down
  pub mask-none : (i : ℕ) → 0 ≡ mask_from test i 0
  unfolding mask_from
  mask-none i = refl

  mask_next : (i n : ℕ) → 0 < n → mask_from test i n ≡ one (test i) + 2 * mask_from test (i + 1) (n - 1)
  unfolding mask_from
  mask_next i zero h = absurd (omega arith)
  mask_next i (suc n) h = let z : n ≡ suc n - 1 = omega arith in omega (arith, ap (mask_from test (i + 1)) z)

  pub mask-down : (i n : ℕ) {m : ℕ} → 0 < i → i ≤ n → m ≡ mask_from test i (n - i)
      → m * 2 + one (test (i - 1)) ≡ mask_from test (i - 1) (n - (i - 1))
  mask-down i n h l e =
      let a : i - 1 + 1 ≡ i = omega arith in
      let b : n - (i - 1) - 1 ≡ n - i = omega arith in
      omega (arith, mask_next (i - 1) (n - (i - 1)) (omega arith), ap₂ (mask_from test) a b)

pub mask-same : (s t : ℕ → Bool) (n i : ℕ) → ((k : ℕ) → k < i + n → s k ≡ t k) → mask_from s i n ≡ mask_from t i n
unfolding mask_from
mask-same s t zero i h = refl
mask-same s t (suc n) i h =
    ap₂ (λ (b : Bool) (m : ℕ). one b + 2 * m) (h i (omega arith)) (mask-same s t n (i + 1) (λ k l. h k (omega arith)))
