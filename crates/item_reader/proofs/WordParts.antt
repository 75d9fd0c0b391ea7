-- The words that the reader takes apart: a word's stream bits by the code's tests, and steps of its place.
-- Assumes nothing.
use Rattle.std.specs.List.{sum_by}
use Rattle.std.proofs.lemmas.List.Sums.{sum_by-cons}
use Rattle.std.proofs.Common.{length-append}
use mathlib.Core.Path.{◌≡◌, refl, sym, ap, ap₂, ◌∙◌}
use mathlib.Core.Bool.{cond, ◌||◌}
use mathlib.Core.List.{List, [], ◌∷◌}
use Prim.Native.Nat.{ℕ, suc, ◌+◌, ◌*◌, ◌-◌, ◌/◌, ◌%◌, ◌^◌, ◌≤◌, ◌<◌}
use native.Mathlib.Numerals.{add-one}
use native.Mathlib.Omega.{arith}
use lib.Dec.{eqb}
use lib.ListN.{length, get_or, take, drop, length-take, length-drop}
use lib.Pow.{pow_mono, shl_lt}
use lib.Seq.{drop-drop}
use borrow.Author.Tests.{eq-eqb, ne_eqb}
use Rattle.stream.specs.Below.{Bits, below-take, below-drop}
use Rattle.stream.specs.Bits.{value-below}
use Rattle.stream.specs.Stuffing.{flat, word_bits, unstuff_from}
use Rattle.stream.specs.StuffingLaws.{unstuff-is-bits}
use Rattle.item_reader.specs.Places.{word_length, word-length-most, length-word, rest, rest-next, rest-field, some_left, Taken, taken_more}

pub one_shl : (k : ℕ) → k < 64 → 1 * 2 ^ k % 18446744073709551616 ≡ 2 ^ k
one_shl k h = omega (arith, pow_mono {i = k} {j = 63} (omega arith))

module _ (h x : ℕ) where
  pub length-zeros : x / 2 ≡ 0 → h ≡ word_length h x
  unfolding word_length flat
  length-zeros e = sym (ap (λ t. cond (t || eqb (x / 2) (2 ^ h - 1)) h (suc h)) (eq-eqb (x / 2) 0 e))

  pub length-ones : (x / 2 ≡ 0 → ⊥) → x / 2 ≡ 2 ^ h - 1 → h ≡ word_length h x
  unfolding word_length flat
  length-ones z e = sym (ap₂ (λ s t. cond (s || t) h (suc h)) (ne_eqb (x / 2) 0 z) (eq-eqb (x / 2) (2 ^ h - 1) e))

  pub length_whole : (x / 2 ≡ 0 → ⊥) → (x / 2 ≡ 2 ^ h - 1 → ⊥) → h + 1 ≡ word_length h x
  unfolding word_length flat
  length_whole z e =
      add-one h ∙ sym (ap₂ (λ s t. cond (s || t) h (suc h)) (ne_eqb (x / 2) 0 z) (ne_eqb (x / 2) (2 ^ h - 1) e))

module _ (h : ℕ) where
  pub rest-is-bits : (words : List ℕ) (w j : ℕ) → Bits (rest h words w j)
  unfolding rest
  rest-is-bits words w j = below-drop 2 j (unstuff_from h (drop w words)) (unstuff-is-bits h (drop w words))

  module _ (words : List ℕ) (w j : ℕ) where
    -- n bits on
    pub rest-on : (n : ℕ) → rest h words w (j + n) ≡ drop n (rest h words w j)
    unfolding rest
    rest-on n = sym (drop-drop n j (unstuff_from h (drop w words)))

    -- past a whole word
    pub rest-past : (s : ℕ) → s ≡ word_length h (get_or words w 0) → w < length words → s ≤ j → rest h words w j ≡ rest h words (w + 1) (j - s)
    unfolding rest
    rest-past s e g f =
        let all = unstuff_from h (drop w words) in
        let k = j - s in
        ap (λ n. drop n all) (let q : j ≡ s + k = omega arith in q)
        ∙ sym (drop-drop k s all)
        ∙ ap (drop k) (ap (λ n. drop n all) e ∙ rest-next h words w g)

pub taken-below : {l l' : List ℕ} {n v : ℕ} → Bits l → Taken l n v l' → v < 2 ^ n
taken-below {l} {l'} {n} {v} x t =
    let short : length (take n l) ≤ n = rw length-take (omega arith) in
    omega (arith, t.says, value-below (take n l) (below-take 2 n l x), pow_mono {i = length (take n l)} {j = n} short)

pub taken-left : {l l' : List ℕ} {n v : ℕ} → Taken l n v l' → length l ≡ n + length l'
taken-left {l} {l'} {n} t = omega (arith, t.enough, ap length t.left, length-drop n l)

-- in word w, where v says all but `left` of n bits
module _ (h : ℕ) (words : List ℕ) (w j n v left : ℕ) (l : List ℕ) (t : Taken l (n - left) v (rest h words w j)) (least : left ≤ n) where
  pub more_left : n ≤ length l → 0 < left → w < length words
  more_left g a = some_left h words w j (omega (arith, taken-left t))

  pub value-fits : (k : ℕ) → Bits l → n ≤ 16 → k ≤ left → v * 2 ^ k < 65536
  value-fits k x m a =
      omega (arith, shl_lt {a = v} (n - left) k (taken-below x t), pow_mono {i = n - left + k} {j = 16} (omega arith))

  -- k bits more
  pub take_more : (k u : ℕ) → k ≤ left → w < length words → j + k ≤ word_length h (get_or words w 0)
      → u ≡ v * 2 ^ k + get_or words w 0 / 2 ^ (suc h - (j + k)) % 2 ^ k → Taken l (n - (left - k)) u (rest h words w (j + k))
  take_more k u a g f q =
      let y = get_or words w 0 / 2 ^ (suc h - (j + k)) in
      let e : n - left + k ≡ n - (left - k) = omega arith in
      rw (q, ← e) (taken_more k y t (rest-field h words w j k g f))

-- the words' lengths added up
pub sum-is_length : (h : ℕ) (words : List ℕ) → sum_by (word_length h) words ≡ length (unstuff_from h words)
unfolding unstuff_from
sum-is_length h [] = refl
sum-is_length h (w ∷ ws) =
    sum_by-cons (word_length h) w ws
    ∙ ap₂ ◌+◌ (sym (length-word h w)) (sum-is_length h ws)
    ∙ sym (length-append (word_bits h w) (unstuff_from h ws))

pub sum-most : (h : ℕ) → h < 16 → (words : List ℕ) → sum_by (word_length h) words ≤ 16 * length words
sum-most h low [] = omega arith
sum-most h low (w ∷ ws) = omega (arith, sum_by-cons (word_length h) w ws, word-length-most h w, sum-most h low ws)
