-- Numbers as bits, the higher bit first (document 01, "Data places": "each higher bit first").
-- Assumes nothing.
use Rattle.std.specs.Prelude.{◌≡◌, refl, Bool, true, ◌&&◌, List, [], ◌∷◌, ◌++◌, ℕ, zero, suc, ◌+◌, ◌*◌, ◌/◌, ◌%◌, ◌^◌, ◌≤◌, ◌<◌, eqb, length}
use Rattle.std.proofs.Common.{sym, ap, ap₂, ◌∙◌, append_assoc, append-nil, mul_assoc, add-mul, add_comm, zero-add, add-zero, suc-add, add-suc, mod-eq_of_lt, mul-le-mul_right, arith, one-add, shr-shr}
use Rattle.std.proofs.Math.Nat.{pow-succ', div-div-eq-div-mul}
use Rattle.std.proofs.lemmas.Nat.{mod-pow-add}
use Rattle.stream.specs.Below.{Bits}

-- the n bits of v
unfoldable pub bits : ℕ → ℕ → List ℕ
bits zero v = []
bits (suc n) v = (v / 2 ^ n % 2) ∷ bits n v

-- the number that bits say, after those that say v
unfoldable pub value : ℕ → List ℕ → ℕ
value v [] = v
value v (b ∷ l) = value (v * 2 + b) l

-- all bits are 1s
unfoldable pub all_ones : List ℕ → Bool
all_ones [] = true
all_ones (b ∷ l) = eqb b 1 && all_ones l

pub bits-are-bits : (n v : ℕ) → Bits (bits n v)
unfolding bits
bits-are-bits zero v = tt
bits-are-bits (suc n) v = (omega arith, bits-are-bits n v)

pub length-bits : (n v : ℕ) → length (bits n v) ≡ n
unfolding bits
length-bits zero v = refl
length-bits (suc n) v = ap suc (length-bits n v)

-- one bit more at the end
pub bits-snoc : (n v b : ℕ) → b < 2 → bits (suc n) (v * 2 + b) ≡ bits n v ++ b ∷ []
unfolding bits
bits-snoc zero v b h = ap (λ x. x ∷ []) (let e : (v * 2 + b) / 2 ^ 0 % 2 ≡ b = omega arith in e)
bits-snoc (suc n) v b h =
    let half : (v * 2 + b) / 2 ≡ v = omega arith in
    let high = ap (λ x. (v * 2 + b) / x) (pow-succ' 2 n) ∙ sym (div-div-eq-div-mul (v * 2 + b) 2 (2 ^ n)) ∙ ap (λ x. x / 2 ^ n) half in
    ap₂ (λ x l. x % 2 ∷ l) high (bits-snoc n v b h)

pub value-append : (v : ℕ) (p q : List ℕ) → value v (p ++ q) ≡ value (value v p) q
unfolding value
value-append v [] q = refl
value-append v (b ∷ p) q = value-append (v * 2 + b) p q

-- n bits of x read after the number v
pub value-bits : (n v x : ℕ) → value v (bits n x) ≡ v * 2 ^ n + x % 2 ^ n
unfolding bits value
value-bits zero v x = omega arith
value-bits (suc n) v x =
    value-bits n (v * 2 + x / 2 ^ n % 2) x
    ∙ omega (
      arith,
      add-mul (v * 2) (x / 2 ^ n % 2) (2 ^ n),
      mul_assoc v 2 (2 ^ n),
      ap (λ p. v * p) (pow-succ' 2 n),
      ap (λ m. x % 2 ^ m) (one-add n),
      mod-pow-add x 1 n,
    )

pub value-of-bits : (n x : ℕ) → x < 2 ^ n → value 0 (bits n x) ≡ x
value-of-bits n x h = value-bits n 0 x ∙ omega (arith, mod-eq_of_lt h)

-- the bits of the higher part of a number, then those of the lower
pub bits-split : (m n x : ℕ) → bits (m + n) x ≡ bits m (x / 2 ^ n) ++ bits n x
unfolding bits
bits-split zero n x = ap (λ k. bits k x) (zero-add n)
bits-split (suc m) n x =
    ap (λ k. bits k x) (suc-add m n)
    ∙ ap₂ (λ y l. y % 2 ∷ l) (ap (λ k. x / 2 ^ k) (add_comm m n) ∙ sym (shr-shr x n m)) (bits-split m n x)

-- the bits l, after the k bits of v, are those of the number that they say
bits-on : (l : List ℕ) (k v : ℕ) → Bits l → bits (k + length l) (value v l) ≡ bits k v ++ l
unfolding value
bits-on [] k v x = ap (λ n. bits n v) (add-zero k) ∙ sym (append-nil (bits k v))
bits-on (b ∷ l) k v x =
    ap (λ n. bits n (value (v * 2 + b) l)) (add-suc k (length l) ∙ sym (suc-add k (length l)))
    ∙ bits-on l (suc k) (v * 2 + b) x.1
    ∙ ap (λ p. p ++ l) (bits-snoc k v b x.0)
    ∙ append_assoc (bits k v) (b ∷ []) l

pub bits_of_value : (l : List ℕ) → Bits l → bits (length l) (value 0 l) ≡ l
unfolding bits
bits_of_value l x = ap (λ n. bits n (value 0 l)) (sym (zero-add (length l))) ∙ bits-on l 0 0 x

value-most : (l : List ℕ) (v : ℕ) → Bits l → value v l < suc v * 2 ^ length l
unfolding value
value-most [] v x = omega arith
value-most (b ∷ l) v x =
    omega (
      arith,
      value-most l (v * 2 + b) x.1,
      mul-le-mul_right (2 ^ length l) (let h : suc (v * 2 + b) ≤ suc v * 2 = omega arith in h),
      mul_assoc (suc v) 2 (2 ^ length l),
      ap (λ p. suc v * p) (pow-succ' 2 (length l)),
    )

pub value-below : (l : List ℕ) → Bits l → value 0 l < 2 ^ length l
value-below l x = omega (arith, value-most l 0 x)
