-- A sum of two exponents, turned over at the order of x: what is above 2^B is added to what is below it. Since x ^ (2^B - 1) is 1 the
-- power is the same, and of two exponents that a table of powers has it makes one that it has.
-- Assumes nothing.
use Rattle.std.specs.Prelude.{◌≡◌, ℕ, ◌+◌, ◌-◌, ◌*◌, ◌/◌, ◌%◌, ◌^◌, ◌≤◌, ◌<◌}
use Rattle.std.proofs.Math.Path.{sym, ap}
use Rattle.std.proofs.Common.{◌∙◌}
use Rattle.std.proofs.Math.Nat.{div-add-mod', div-eq_of_lt, mod-eq_of_lt, div-eq_of_lt-le, add-mul-mod_self_right, mul-suc}
use native.Mathlib.Omega.{arith}
use Rattle.std.proofs.Math.Decide.{dec_lt}
use Rattle.std.proofs.Math.Pow.{suc_ones}
use Rattle.finite_field.specs.Field.{WordSize, bits, product, power}
use Rattle.finite_field.specs.FieldLaws.{power-product, power-mod}

unfoldable pub turned : WordSize → ℕ → ℕ → ℕ
turned s e k = (e + k) % 2 ^ bits s + (e + k) / 2 ^ bits s

module _ (s : WordSize) where
  -- one turn at most
  pub record Sum (e k : ℕ) : Type 0 where
    pub below : e + k < 2 ^ bits s → turned s e k ≡ e + k
    pub above : 2 ^ bits s ≤ e + k → turned s e k ≡ e + k + 1 - 2 ^ bits s

  pub turned-sum : {e k : ℕ} → e < 2 ^ bits s → k < 2 ^ bits s → Sum e k
  unfolding turned
  turned-sum {e} {k} he hk = record {
    below = λ h. omega (arith, div-eq_of_lt h, mod-eq_of_lt h);
    above =
        λ h.
        let one : (e + k) / 2 ^ bits s ≡ 1 = div-eq_of_lt-le (2 ^ bits s) {m = e + k} (omega arith) (omega arith) in
        let whole : (e + k) / 2 ^ bits s * 2 ^ bits s + (e + k) % 2 ^ bits s ≡ e + k = div-add-mod' (e + k) (2 ^ bits s) in
        let same : 1 * 2 ^ bits s + (e + k) % 2 ^ bits s ≡ e + k = rw one at whole in
        omega arith;
  }

  pub turned_lt : {e k : ℕ} → e < 2 ^ bits s → k < 2 ^ bits s → turned s e k < 2 ^ bits s
  turned_lt {e} {k} he hk = go (dec_lt (e + k) (2 ^ bits s))
    where
      go : Dec (e + k < 2 ^ bits s) → turned s e k < 2 ^ bits s
      go (yes h) = omega (arith, (turned-sum he hk).below h)
      go (no h) = let l : 2 ^ bits s ≤ e + k = omega arith in omega (arith, (turned-sum he hk).above l)

  pub power-turned : (e k : ℕ) → power s (turned s e k) ≡ power s (e + k)
  unfolding turned
  power-turned e k =
      let N = 2 ^ bits s - 1 in
      let q = (e + k) / 2 ^ bits s in
      let r = (e + k) % 2 ^ bits s in
      let whole : q * 2 ^ bits s + r ≡ e + k = div-add-mod' (e + k) (2 ^ bits s) in
      let words : q * 2 ^ bits s ≡ q * N + q = ap (λ m. q * m) (sym (suc_ones (bits s))) ∙ mul-suc q N in
      let sum : e + k ≡ r + q + q * N = omega arith in
      sym (power-mod s (r + q))
      ∙ ap (power s) (sym (add-mul-mod_self_right (r + q) q N) ∙ ap (λ m. m % N) (sym sum))
      ∙ power-mod s (e + k)

  pub product_turned : (e k : ℕ) → power s (turned s e k) ≡ product s (power s e) (power s k)
  product_turned e k = power-turned e k ∙ sym (power-product s e k)
