-- A field of characteristic 2 whose equality is decided, the laws that follow, and `ring`, the rules by which `simp` proves an identity.
-- Here every element is its own opposite, as words are under exclusive or: nothing below needs a minus.
-- Assumes nothing.
use Rattle.std.specs.Prelude.{◌≡◌, ◌≢◌, Bool, not}
use Rattle.std.proofs.Common.{sym, ap, ◌∙◌, T_not}
use Rattle.std.proofs.Math.Bool.{decide}
use Rattle.std.proofs.Math.Dec.{T, not_T}

pub record Field : Type 1 where
  pub C : Type 0
  pub zer : C
  pub one : C
  pub add : C → C → C
  pub mul : C → C → C
  pub inv : C → C
  pub dec : (a b : C) → Dec (a ≡ b)
  pub add_assoc : (a b c : C) → add (add a b) c ≡ add a (add b c)
  pub add_comm : (a b : C) → add a b ≡ add b a
  pub add-zero : (a : C) → add a zer ≡ a
  pub add-self : (a : C) → add a a ≡ zer
  pub mul_assoc : (a b c : C) → mul (mul a b) c ≡ mul a (mul b c)
  pub mul_comm : (a b : C) → mul a b ≡ mul b a
  pub mul-one : (a : C) → mul a one ≡ a
  pub mul-add : (a b c : C) → mul a (add b c) ≡ add (mul a b) (mul a c)
  pub mul-inv : (a : C) → a ≢ zer → mul a (inv a) ≡ one
  pub one-ne : one ≢ zer

module _ (F : Field) where
  open F use {C, zer as 𝟘, one as 𝟙, add as ◌⊕◌, mul as ◌⊗◌, inv, dec}

  infixl 65 ◌⊕◌
  infixl 70 ◌⊗◌
  pub ⊕-assoc : (a b c : C) → (a ⊕ b) ⊕ c ≡ a ⊕ (b ⊕ c)
  ⊕-assoc = F.add_assoc

  pub ⊕-comm : (a b : C) → a ⊕ b ≡ b ⊕ a
  ⊕-comm = F.add_comm

  pub ⊕-left-comm : (a b c : C) → a ⊕ (b ⊕ c) ≡ b ⊕ (a ⊕ c)
  ⊕-left-comm a b c = sym (⊕-assoc a b c) ∙ ap (λ x. x ⊕ c) (⊕-comm a b) ∙ ⊕-assoc b a c

  pub ⊕-zero : (a : C) → a ⊕ 𝟘 ≡ a
  ⊕-zero = F.add-zero

  pub zero-⊕ : (a : C) → 𝟘 ⊕ a ≡ a
  zero-⊕ a = ⊕-comm 𝟘 a ∙ ⊕-zero a

  pub ⊕-self : (a : C) → a ⊕ a ≡ 𝟘
  ⊕-self = F.add-self

  pub ⊕-self-left : (a b : C) → a ⊕ (a ⊕ b) ≡ b
  ⊕-self-left a b = sym (⊕-assoc a a b) ∙ ap (λ x. x ⊕ b) (⊕-self a) ∙ zero-⊕ b

  pub ⊗-assoc : (a b c : C) → (a ⊗ b) ⊗ c ≡ a ⊗ (b ⊗ c)
  ⊗-assoc = F.mul_assoc

  pub ⊗-comm : (a b : C) → a ⊗ b ≡ b ⊗ a
  ⊗-comm = F.mul_comm

  pub ⊗-left-comm : (a b c : C) → a ⊗ (b ⊗ c) ≡ b ⊗ (a ⊗ c)
  ⊗-left-comm a b c = sym (⊗-assoc a b c) ∙ ap (λ x. x ⊗ c) (⊗-comm a b) ∙ ⊗-assoc b a c

  pub ⊗-one : (a : C) → a ⊗ 𝟙 ≡ a
  ⊗-one = F.mul-one

  pub one-⊗ : (a : C) → 𝟙 ⊗ a ≡ a
  one-⊗ a = ⊗-comm 𝟙 a ∙ ⊗-one a

  pub ⊗-⊕ : (a b c : C) → a ⊗ (b ⊕ c) ≡ a ⊗ b ⊕ a ⊗ c
  ⊗-⊕ = F.mul-add

  pub ⊕-⊗ : (a b c : C) → (a ⊕ b) ⊗ c ≡ a ⊗ c ⊕ b ⊗ c
  ⊕-⊗ a b c = ⊗-comm (a ⊕ b) c ∙ ⊗-⊕ c a b ∙ ap (λ x. x ⊕ c ⊗ b) (⊗-comm c a) ∙ ap (λ x. a ⊗ c ⊕ x) (⊗-comm c b)

  pub ⊗-zero : (a : C) → a ⊗ 𝟘 ≡ 𝟘
  ⊗-zero a = ap (λ x. a ⊗ x) (sym (⊕-self 𝟘)) ∙ ⊗-⊕ a 𝟘 𝟘 ∙ ⊕-self (a ⊗ 𝟘)

  pub zero-⊗ : (a : C) → 𝟘 ⊗ a ≡ 𝟘
  zero-⊗ a = ⊗-comm 𝟘 a ∙ ⊗-zero a

  pub ruleset ring = (
    ⊕-assoc,
    ⊕-comm,
    ⊕-left-comm,
    ⊕-zero,
    zero-⊕,
    ⊕-self,
    ⊕-self-left,
    ⊗-assoc,
    ⊗-comm,
    ⊗-left-comm,
    ⊗-one,
    one-⊗,
    ⊗-zero,
    zero-⊗,
    ⊗-⊕,
    ⊕-⊗,
  )

  pub ⊗-left-zero : {a : C} (b : C) → a ≡ 𝟘 → a ⊗ b ≡ 𝟘
  ⊗-left-zero b e = rw e (zero-⊗ b)

  pub ⊗-right-zero : (a : C) {b : C} → b ≡ 𝟘 → a ⊗ b ≡ 𝟘
  ⊗-right-zero a e = rw e (⊗-zero a)

  pub equal-of-zero : (a b : C) → a ⊕ b ≡ 𝟘 → a ≡ b
  equal-of-zero a b e = sym (⊕-zero a) ∙ rw (← ⊕-self b, ← ⊕-assoc a b b, e) (zero-⊕ b)

  pub zero-of-equal : {a b : C} → a ≡ b → a ⊕ b ≡ 𝟘
  zero-of-equal {b} e = rw e (⊕-self b)

  -- no divisors of zero
  pub zero-of-product : (a b : C) → b ≢ 𝟘 → a ⊗ b ≡ 𝟘 → a ≡ 𝟘
  zero-of-product a b ne e = sym (⊗-one a) ∙ rw (← F.mul-inv b ne, ← ⊗-assoc a b (inv b)) (⊗-left-zero (inv b) e)

  pub ⊗-ne : (a b : C) → a ≢ 𝟘 → b ≢ 𝟘 → a ⊗ b ≢ 𝟘
  ⊗-ne a b ha hb e = ha (zero-of-product a b hb e)

  -- the tests that code makes, so that places can be counted by them
  unfoldable pub is_zero : C → Bool
  is_zero a = decide (dec a 𝟘)

  abbrev pub nonzero : C → Bool
  nonzero a = not (is_zero a)

  pub is_zero→zero : (a : C) → T (is_zero a) → a ≡ 𝟘
  unfolding is_zero decide
  is_zero→zero a = go (dec a 𝟘)
    where
      go : (d : Dec (a ≡ 𝟘)) → T (decide d) → a ≡ 𝟘
      go (yes e) t = e
      go (no ne) t = absurd t

  pub zero→is_zero : (a : C) → a ≡ 𝟘 → T (is_zero a)
  unfolding is_zero decide
  zero→is_zero a e = go (dec a 𝟘)
    where
      go : (d : Dec (a ≡ 𝟘)) → T (decide d)
      go (yes z) = tt
      go (no ne) = ne e

  pub nonzero→ne : (a : C) → T (nonzero a) → a ≢ 𝟘
  nonzero→ne a t e = T_not (is_zero a) t (zero→is_zero a e)

  pub ne→nonzero : (a : C) → a ≢ 𝟘 → T (nonzero a)
  ne→nonzero a ne = not_T (is_zero a) (λ t. ne (is_zero→zero a t))

  -- two words differ where their sum is not zero
  pub differ→ne : (a b : C) → T (nonzero (a ⊕ b)) → a ≢ b
  differ→ne a b t e = nonzero→ne (a ⊕ b) t (zero-of-equal e)

  pub ne→differ : (a b : C) → a ≢ b → T (nonzero (a ⊕ b))
  ne→differ a b ne = ne→nonzero (a ⊕ b) (λ e. ne (equal-of-zero a b e))
