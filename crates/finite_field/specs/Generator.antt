-- x generates the field: every word but 0 is a power of x. From that alone, which one computed test shows for each word size
-- (Tables.antt), products commute and associate, words have inverses, and no product of two words is 0 unless one of them is.
-- Assumes nothing.
use Rattle.std.specs.Prelude.{◌≡◌, ◌≢◌}
use Rattle.std.proofs.Math.Path.{refl, sym, ap}
use Rattle.std.proofs.Common.{ap₂, ◌∙◌, subst, zero-mul, suc-mul, mul-suc, mul-zero, add_comm, add_assoc, add-sub_of_le, sub-add_cancel, le-mul_of_pos_right, arith}
use Prim.Native.Nat.{ℕ, zero, suc, ◌+◌, ◌-◌, ◌*◌, ◌^◌, ◌≤◌, ◌<◌}
use Rattle.std.proofs.Math.Decide.{dec_le}
use Rattle.finite_field.specs.Field as field
use Rattle.finite_field.specs.ProductLaws.{times-zero-left, times-zero-right, times-one, times_power, shift-add, shift_zero, shift-lt, times-lt}

pub record Generated (b p : ℕ) : Type 0 where
  pub one-lt : 1 < 2 ^ b
  pub poly-lt : p < 2 ^ b
  pub order : field.shift b p (2 ^ b - 1) 1 ≡ 1
  pub order_least : (k : ℕ) → k < 2 ^ b - 1 → field.shift b p k 1 ≡ 1 → k ≡ 0
  pub log : ℕ → ℕ
  pub log-lt : (a : ℕ) → 0 < a → a < 2 ^ b → log a < 2 ^ b - 1
  pub power-log : (a : ℕ) → 0 < a → a < 2 ^ b → field.shift b p (log a) 1 ≡ a

pub positive : (n : ℕ) → n ≢ 0 → 0 < n
positive zero f = absurd (f refl)
positive (suc n) f = omega arith

-- 0, or a power of x
data Elem (b p : ℕ) : ℕ → Type 0 where
  none : Elem b p 0
  some : (k : ℕ) → Elem b p (field.shift b p k 1)

module _ (b p : ℕ) (G : Generated b p) where
  abbrev power : ℕ → ℕ
  power n = field.shift b p n 1

  abbrev product : ℕ → ℕ → ℕ
  product = field.times b p b

  -- how many powers there are
  abbrev order : ℕ
  order = 2 ^ b - 1

  pub power-lt : (n : ℕ) → power n < 2 ^ b
  power-lt n = shift-lt b p G.poly-lt n 1 G.one-lt

  pub product_lt : (a c : ℕ) → a < 2 ^ b → product a c < 2 ^ b
  product_lt a c h = times-lt b p G.poly-lt b a c h

  -- powers

  pub power-product : (i j : ℕ) → product (power i) (power j) ≡ power (i + j)
  power-product i j = times_power b p i (power j) (power-lt j) ∙ sym (shift-add b p i j 1)

  power_zero : power 0 ≡ 1
  unfolding field.shift
  power_zero = refl

  pub power-turn : (k : ℕ) → power (k + order) ≡ power k
  power-turn k = shift-add b p k order 1 ∙ ap (field.shift b p k) G.order

  pub power-turns : (n : ℕ) → power (n * order) ≡ 1
  power-turns zero = ap power (zero-mul order) ∙ power_zero
  power-turns (suc n) = ap power (suc-mul n order) ∙ power-turn (n * order) ∙ power-turns n

  pub power-nonzero : (k : ℕ) → power k ≢ 0
  power-nonzero k e =
      let pos : 0 < order = omega (arith, G.one-lt) in
      let more : k ≤ k * order = le-mul_of_pos_right k pos in
      let whole : power (k * order - k + k) ≡ 1 = ap power (sub-add_cancel more) ∙ power-turns k in
      let gone : power (k * order - k + k) ≡ 0
      = shift-add b p (k * order - k) k 1 ∙ ap (field.shift b p (k * order - k)) e ∙ shift_zero b p (k * order - k) in
      let z : ◌≡◌ {A = ℕ} 0 1 = sym gone ∙ whole in
      omega arith

  -- the powers below the order are apart

  apart : (i m : ℕ) → i + m < order → power (i + m) ≡ power i → m ≡ 0
  apart i m h e =
      let turned : m + order ≡ order - i + (i + m) = omega arith in
      let back : order - i + i ≡ order = omega arith in
      G.order_least m (omega arith)
      (sym (power-turn m)
      ∙ ap power turned
      ∙ shift-add b p (order - i) (i + m) 1
      ∙ ap (field.shift b p (order - i)) e
      ∙ sym (shift-add b p (order - i) i 1)
      ∙ ap power back
      ∙ G.order)

  pub power-injective : (i j : ℕ) → i < order → j < order → power i ≡ power j → i ≡ j
  power-injective i j hi hj e = go (dec_le i j)
    where
      go : Dec (i ≤ j) → i ≡ j
      go (yes k) =
          let z : j - i ≡ 0 = apart i (j - i) (omega arith) (ap power (add-sub_of_le k) ∙ sym e) in
          omega arith
      go (no k) =
          let l : j ≤ i = omega arith in
          let z : i - j ≡ 0 = apart j (i - j) (omega arith) (ap power (add-sub_of_le l) ∙ e) in
          omega arith

  -- products of any words, each 0 or a power

  elem : (a : ℕ) → a < 2 ^ b → Elem b p a
  elem zero h = none
  elem (suc a) h = subst (Elem b p) (G.power-log (suc a) (omega arith) h) (some (G.log (suc a)))

  comm : {a c : ℕ} → Elem b p a → Elem b p c → product a c ≡ product c a
  comm {c = c} none y = times-zero-left b p b c ∙ sym (times-zero-right b p b c)
  comm (some i) none = times-zero-right b p b (power i) ∙ sym (times-zero-left b p b (power i))
  comm (some i) (some j) = power-product i j ∙ ap power (add_comm i j) ∙ sym (power-product j i)

  pub product-comm : (a c : ℕ) → a < 2 ^ b → c < 2 ^ b → product a c ≡ product c a
  product-comm a c ha hc = comm (elem a ha) (elem c hc)

  assoc : {a c d : ℕ} → Elem b p a → Elem b p c → Elem b p d → product (product a c) d ≡ product a (product c d)
  assoc none y z = simp (times-zero-left b p)
  assoc (some i) none z = simp (times-zero-left b p, times-zero-right b p)
  assoc (some i) (some j) none = simp (times-zero-right b p)
  assoc (some i) (some j) (some k) = simp (power-product, add_assoc)

  pub product-assoc : (a c d : ℕ) → a < 2 ^ b → c < 2 ^ b → d < 2 ^ b → product (product a c) d ≡ product a (product c d)
  product-assoc a c d ha hc hd = assoc (elem a ha) (elem c hc) (elem d hd)

  -- the product rule of the tables
  pub product-logs : (a c i j : ℕ) → power i ≡ a → power j ≡ c → product a c ≡ power (i + j)
  product-logs a c i j e f = ap₂ product (sym e) (sym f) ∙ power-product i j

  -- inverses

  raise-power : (k n : ℕ) → field.raise b p (power k) n ≡ power (k * n)
  unfolding field.raise
  raise-power k zero = sym power_zero ∙ ap power (sym (mul-zero k))
  raise-power k (suc n) =
      ap (product (power k)) (raise-power k n)
      ∙ power-product k (k * n)
      ∙ ap power (add_comm k (k * n) ∙ sym (mul-suc k n))

  pub raise-lt : (a n : ℕ) → a < 2 ^ b → field.raise b p a n < 2 ^ b
  unfolding field.raise
  raise-lt a zero h = G.one-lt
  raise-lt a (suc n) h = product_lt a (field.raise b p a n) h

  -- Fermat's rule
  pub product-raise : (a : ℕ) → 0 < a → a < 2 ^ b → product a (field.raise b p a (2 ^ b - 2)) ≡ 1
  product-raise a pos h =
      let next : suc (2 ^ b - 2) ≡ order = omega (arith, G.one-lt) in
      ap₂ product (sym (G.power-log a pos h))
      (ap (λ x. field.raise b p x (2 ^ b - 2)) (sym (G.power-log a pos h)) ∙ raise-power (G.log a) (2 ^ b - 2))
      ∙ power-product (G.log a) (G.log a * (2 ^ b - 2))
      ∙ ap power (add_comm (G.log a) (G.log a * (2 ^ b - 2)) ∙ sym (mul-suc (G.log a) (2 ^ b - 2)) ∙ ap (λ n. G.log a * n) next)
      ∙ power-turns (G.log a)

  -- two words that times a give 1 are the same
  pub inverse-unique : (a c d : ℕ) → a < 2 ^ b → c < 2 ^ b → d < 2 ^ b → product a c ≡ 1 → product a d ≡ 1 → c ≡ d
  inverse-unique a c d ha hc hd e f =
      sym (unit c hc)
      ∙ ap (product c) (sym f)
      ∙ sym (product-assoc c a d hc ha hd)
      ∙ ap (λ x. product x d) (product-comm c a hc ha ∙ e)
      ∙ product-comm 1 d G.one-lt hd
      ∙ unit d hd
    where
      unit : (x : ℕ) → x < 2 ^ b → product x 1 ≡ x
      unit x h = product-comm x 1 h G.one-lt ∙ times-one b p x h
