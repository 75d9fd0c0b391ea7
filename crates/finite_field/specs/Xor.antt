-- The sum of words, bit by bit: an abelian group in which every word is its own opposite. A bit times a word passes through it, and
-- so does doubling. What lib.Bits lacks, for the field.
-- Assumes nothing.
use Rattle.std.specs.Prelude.{◌≡◌, refl, ◌⊎◌, ℕ, zero, suc, ◌+◌, ◌*◌, ◌/◌, ◌%◌, ◌<◌}
use Rattle.std.proofs.Common.{sym, ap, ap₂, ◌∙◌, inl, inr, not-suc-le-zero, le_of_suc-le-suc, one-mul, zero-mul, mod-lt, zero-lt-suc, add-zero, arith}
use Rattle.std.proofs.Math.Arith.{bin_ind}
use Rattle.std.specs.Int.Bits.{bit_xor, differ, xor_step, xor_zero_r, xor_self}
use Rattle.std.proofs.lemmas.Nat.{xor_comm, xor_shr, xor_mod, xor_block}

infixl 60 ◌⊕◌
-- the sum of two words
abbrev pub ◌⊕◌ : ℕ → ℕ → ℕ
a ⊕ b = bit_xor a b

pub bit-cases : (c : ℕ) → c < 2 → (c ≡ 0) ⊎ (c ≡ 1)
bit-cases zero h = inl refl
bit-cases (suc zero) h = inr refl
bit-cases (suc (suc c)) h = absurd (not-suc-le-zero (le_of_suc-le-suc (le_of_suc-le-suc h)))

pub bit-lt : (a : ℕ) → a % 2 < 2
bit-lt a = mod-lt a (zero-lt-suc 1)

-- associativity, first of single bits

differ-assoc : (x y z : ℕ) → (x ≡ 0) ⊎ (x ≡ 1) → (y ≡ 0) ⊎ (y ≡ 1) → (z ≡ 0) ⊎ (z ≡ 1) → differ (x ⊕ y) z ≡ differ x (y ⊕ z)
differ-assoc x y z (inl a) (inl b) (inl c) = rw (a, b, c)
differ-assoc x y z (inl a) (inl b) (inr c) = rw (a, b, c)
differ-assoc x y z (inl a) (inr b) (inl c) = rw (a, b, c)
differ-assoc x y z (inl a) (inr b) (inr c) = rw (a, b, c)
differ-assoc x y z (inr a) (inl b) (inl c) = rw (a, b, c)
differ-assoc x y z (inr a) (inl b) (inr c) = rw (a, b, c)
differ-assoc x y z (inr a) (inr b) (inl c) = rw (a, b, c)
differ-assoc x y z (inr a) (inr b) (inr c) = rw (a, b, c)

pub xor-half : (a b : ℕ) → (a ⊕ b) / 2 ≡ a / 2 ⊕ b / 2
xor-half a b = xor_shr a b 1

pub xor-odd : (a b : ℕ) → (a ⊕ b) % 2 ≡ a % 2 ⊕ b % 2
xor-odd a b = xor_mod a b 1

pub xor_assoc : (a b c : ℕ) → a ⊕ b ⊕ c ≡ a ⊕ (b ⊕ c)
xor_assoc =
    bin_ind (λ (a : ℕ). (b c : ℕ) → a ⊕ b ⊕ c ≡ a ⊕ (b ⊕ c)) (λ b c. refl)
    (λ a ih b c.
    xor_step (a ⊕ b) c
    ∙ ap₂ (λ (x y : ℕ). (x ⊕ c / 2) * 2 + differ y (c % 2)) (xor-half a b) (xor-odd a b)
    ∙ ap₂ (λ (x y : ℕ). x * 2 + y) (ih (b / 2) (c / 2))
    (differ-assoc (a % 2) (b % 2) (c % 2) (bit-cases _ (bit-lt a)) (bit-cases _ (bit-lt b)) (bit-cases _ (bit-lt c)))
    ∙ ap₂ (λ (x y : ℕ). (a / 2 ⊕ x) * 2 + differ (a % 2) y) (sym (xor-half b c)) (sym (xor-odd b c))
    ∙ sym (xor_step a (b ⊕ c)))

-- the middle two change places
pub xor-mid : (a b c d : ℕ) → (a ⊕ b) ⊕ (c ⊕ d) ≡ (a ⊕ c) ⊕ (b ⊕ d)
xor-mid a b c d =
    xor_assoc a b (c ⊕ d)
    ∙ ap (λ (x : ℕ). a ⊕ x) (sym (xor_assoc b c d) ∙ ap (λ (x : ℕ). x ⊕ d) (xor_comm b c) ∙ xor_assoc c b d)
    ∙ sym (xor_assoc a c (b ⊕ d))

-- a bit times a word, linear in the word and in the bit

pub bit-xor : (c : ℕ) → c < 2 → (a b : ℕ) → c * (a ⊕ b) ≡ c * a ⊕ c * b
bit-xor c h a b = go (bit-cases c h)
  where
    go : (c ≡ 0) ⊎ (c ≡ 1) → c * (a ⊕ b) ≡ c * a ⊕ c * b
    go (inl e) = rw (e, zero-mul (a ⊕ b), zero-mul a, zero-mul b)
    go (inr e) = rw (e, one-mul (a ⊕ b), one-mul a, one-mul b)

pub xor-bit : (c d : ℕ) → c < 2 → d < 2 → (a : ℕ) → (c ⊕ d) * a ≡ c * a ⊕ d * a
xor-bit c d hc hd a = go (bit-cases c hc) (bit-cases d hd)
  where
    go : (c ≡ 0) ⊎ (c ≡ 1) → (d ≡ 0) ⊎ (d ≡ 1) → (c ⊕ d) * a ≡ c * a ⊕ d * a
    go (inl e) (inl f) = rw (e, f, zero-mul a)
    go (inl e) (inr f) = rw (e, f, zero-mul a)
    go (inr e) (inl f) = rw (e, f, zero-mul a, one-mul a) (sym (xor_zero_r a))
    go (inr e) (inr f) = rw (e, f, zero-mul a, one-mul a) (sym (xor_self a))

pub bit-times-lt : (c a : ℕ) {m : ℕ} → c < 2 → a < m → c * a < m
bit-times-lt c a {m} h k = go (bit-cases c h)
  where
    go : (c ≡ 0) ⊎ (c ≡ 1) → c * a < m
    go (inl e) = rw (e, zero-mul a) (omega arith)
    go (inr e) = rw (e, one-mul a) k

pub xor-double : (a b : ℕ) → (a ⊕ b) * 2 ≡ a * 2 ⊕ b * 2
xor-double a b =
    sym (add-zero ((a ⊕ b) * 2))
    ∙ sym (xor_block 1 a b 0 0 (omega arith) (omega arith))
    ∙ ap₂ bit_xor (add-zero (a * 2)) (add-zero (b * 2))
