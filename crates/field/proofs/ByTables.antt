-- Products, powers and inverses as the code reads them off the tables: exponents are added, and turn over at the order of x, which is
-- one less than a table's length.
-- Assumes nothing.
use mathlib.Core.Path.{◌≡◌, sym, ap, ◌∙◌}
use mathlib.Core.Logic.{◌≢◌}
use mathlib.Core.List.{List}
use Prim.Native.Nat.{ℕ, ◌+◌, ◌-◌, ◌%◌, ◌^◌, ◌≤◌, ◌<◌}
use native.Mathlib.Nat.{add-sub_of_le, le_of_lt, mod-lt, mod-eq_of_lt, mod-eq-sub-mod}
use native.Mathlib.Omega.{arith}
use native.Mathlib.Decide.{dec_lt}
use lib.Bits.{bit_and, and_mask}
use lib.Dec.{leb}
use lib.ListN.{length, get_or}
use mir.Val.{bool_byte}
use borrow.Author.Tests.{le-leb, lt-leb}
use Rattle.finite_field.specs.Field.{WordSize, bits, Word, product, power, inverse}
use Rattle.finite_field.specs.Tables.{Tables}
use Rattle.finite_field.specs.Generator.{positive}
use Rattle.finite_field.specs.FieldLaws.{one_word, power-word, power-product, power-order, power-mod, inverse-is}
use Rattle.field.specs.Turned.{turned, Sum, turned-sum, turned_lt, product_turned}

-- the sum's lower bits and its carry: the sum, turned over
pub masked-sum : (s : WordSize) {words e k : ℕ} → words ≡ 2 ^ bits s → e < words → k < words
    → bit_and (e + k) (words - 1) + bool_byte (leb words (e + k)) ≡ turned s e k
masked-sum s {words} {e} {k} size he hk = by (dec_lt (e + k) words)
  where
    sum : Sum s e k
    sum = turned-sum s (omega (arith, size)) (omega (arith, size))

    low : bit_and (e + k) (words - 1) ≡ (e + k) % 2 ^ bits s
    low = ap (λ m. bit_and (e + k) (m - 1)) size ∙ and_mask (e + k) (bits s)

    by : Dec (e + k < words) → bit_and (e + k) (words - 1) + bool_byte (leb words (e + k)) ≡ turned s e k
    by (yes h) =
        let inside : e + k < 2 ^ bits s = omega (arith, size) in
        rw (lt-leb words (e + k) h) (omega (arith, low, mod-eq_of_lt inside, sum.below inside))
    by (no h) =
        let past : words ≤ e + k = omega arith in
        let outside : 2 ^ bits s ≤ e + k = omega (arith, size) in
        let less : e + k - 2 ^ bits s < 2 ^ bits s = omega (arith, size) in
        rw (le-leb words (e + k) past)
        (omega (arith, low, mod-eq-sub-mod outside, mod-eq_of_lt less, sum.above outside))

module _ {s : WordSize} {exp log : List ℕ} (t : Tables s exp log) where
  order_is : length exp - 1 ≡ 2 ^ bits s - 1
  order_is = ap (λ m. m - 1) t.exp-length

  pub order-pos : 0 < length exp - 1
  order-pos = omega (arith, one_word s, t.exp-length)

  pub log-word : {a x : ℕ} → Word s a → a ≢ 0 → x ≡ get_or log a 0 → x < length exp - 1
  log-word {a} ha ne ex = omega (arith, t.log-lt a (positive a ne) ha, t.exp-length)

  -- a word is the power of x at its logarithm
  pub power-of-log : {a x : ℕ} → Word s a → a ≢ 0 → x ≡ get_or log a 0 → power s x ≡ a
  power-of-log {a} ha ne ex = ap (power s) ex ∙ t.power-log a (positive a ne) ha

  -- a word of logarithm e times 2^k: what stands at the sum of the exponents, turned over
  pub within : {a e k r : ℕ} → Word s a → k < 2 ^ bits s → a ≢ 0 → e ≡ get_or log a 0 → r ≡ turned s e k → r < length exp
  within {e = e} ha hk ne ee er =
      let he : e < 2 ^ bits s = omega (arith, log-word ha ne ee, t.exp-length) in
      omega (arith, er, turned_lt s he hk, t.exp-length)

  pub at_sum : {a e k r : ℕ} → Word s a → k < 2 ^ bits s → a ≢ 0 → e ≡ get_or log a 0 → r ≡ turned s e k
      → get_or exp r 0 ≡ product s a (power s k)
  at_sum {a} {e} {k} {r} ha hk ne ee er =
      t.exp-at r (omega (arith, within ha hk ne ee er, t.exp-length))
      ∙ ap (power s) er
      ∙ product_turned s e k
      ∙ ap (λ z. product s z (power s k)) (power-of-log ha ne ee)

  pub power_at : (k : ℕ) → get_or exp (k % (length exp - 1)) 0 ≡ power s k
  power_at k =
      let l : k % (length exp - 1) < length exp - 1 = mod-lt k order-pos in
      t.exp-at (k % (length exp - 1)) (omega (arith, t.exp-length)) ∙ ap (λ m. power s (k % m)) order_is ∙ power-mod s k

  pub inverse-at : {a x : ℕ} → Word s a → a ≢ 0 → x ≡ get_or log a 0 → get_or exp (length exp - 1 - x) 0 ≡ inverse s a
  inverse-at {a} {x} ha ne ex =
      let c = length exp - 1 - x in
      t.exp-at c (omega (arith, t.exp-length, one_word s))
      ∙ inverse-is s a (power s c) ne ha (power-word s c)
      (ap (λ z. product s z (power s c)) (sym (power-of-log ha ne ex))
      ∙ power-product s x c
      ∙ ap (power s) (add-sub_of_le (le_of_lt (log-word ha ne ex)) ∙ order_is)
      ∙ power-order s)
