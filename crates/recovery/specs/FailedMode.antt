-- What it means that a condition on the mode message fails (number 16): 1 and 3 name the side's, 2 and 3 name D's.
-- Assumes nothing.
use Rattle.std.specs.Prelude.{◌≡◌, Option, Some, None, Bool, ◌&&◌, ℕ, ◌+◌, ◌≤◌, ◌<◌}
use Rattle.std.proofs.Math.Path.{refl}
use Rattle.std.proofs.Common.{sym, ◌∙◌, eq-eqb, ne_eqb, eqb-true, leb-true, leb-false}
use Rattle.std.proofs.Math.Bool.{true, false, cond}
use Rattle.std.proofs.Math.Dec.{eqb, leb}
use Rattle.std.proofs.lemmas.Bool.{eqb-false}
use Rattle.symbol.specs.Shapes.{side, words}
use Rattle.recovery.specs.declared.said.Failed.{Failed}
use Rattle.recovery.specs.declared.said.Failed.TheVariants.{Side, Words, Both}
use Rattle.recovery.specs.Stages.{lawful_mode, side_failed, words_failed, failed_mode}

-- the number that goes with 16, and 0 where no condition fails
abbrev pub failed_number : Option Failed → ℕ
failed_number None = 0
failed_number (Some Side) = 1
failed_number (Some Words) = 2
failed_number (Some Both) = 3

-- by whether the side's condition holds, and D's
abbrev pub conditions_of : Bool → Bool → Option Failed
conditions_of true true = None
conditions_of false true = Some Side
conditions_of true false = Some Words
conditions_of false false = Some Both

-- the conditions that fail
unfoldable pub failed_conditions : Bool → ℕ → ℕ → ℕ → Option Failed
failed_conditions f n L D = conditions_of (eqb (side f L) n) (leb (D + 3) (words f L))

-- the two conditions, and which of them fails
pub data Failing (f : Bool) (n L D : ℕ) : ℕ → Type 0 where
  neither : side f L ≡ n → D + 3 ≤ words f L → Failing f n L D 0
  side-alone : (side f L ≡ n → ⊥) → D + 3 ≤ words f L → Failing f n L D 1
  words-alone : side f L ≡ n → words f L < D + 3 → Failing f n L D 2
  both-fail : (side f L ≡ n → ⊥) → words f L < D + 3 → Failing f n L D 3

module _ (f : Bool) (n L D : ℕ) where
  pub failing : Failing f n L D (failed_mode f n L D)
  unfolding failed_mode side_failed words_failed
  failing = go (eqb (side f L) n) (leb (D + 3) (words f L)) refl refl
    where
      go : (a b : Bool) → eqb (side f L) n ≡ a → leb (D + 3) (words f L) ≡ b → Failing f n L D (cond a 0 1 + cond b 0 2)
      go true true p q = neither (eqb-true _ _ p) (leb-true _ _ q)
      go false true p q = side-alone (eqb-false _ _ p) (leb-true _ _ q)
      go true false p q = words-alone (eqb-true _ _ p) (leb-false _ _ q)
      go false false p q = both-fail (eqb-false _ _ p) (leb-false _ _ q)

  -- which they are is what the number says
  pub conditions-number : failed_number (failed_conditions f n L D) ≡ failed_mode f n L D
  unfolding failed_conditions failed_mode side_failed words_failed
  conditions-number = go (eqb (side f L) n) (leb (D + 3) (words f L))
    where
      go : (a b : Bool) → failed_number (conditions_of a b) ≡ cond a 0 1 + cond b 0 2
      go true true = refl
      go false true = refl
      go true false = refl
      go false false = refl

  -- no condition fails exactly where the mode message is lawful
  lawful-is : lawful_mode f n L D ≡ eqb (failed_mode f n L D) 0
  unfolding lawful_mode failed_mode side_failed words_failed
  lawful-is = go (eqb (side f L) n) (leb (D + 3) (words f L))
    where
      go : (a b : Bool) → a && b ≡ eqb (cond a 0 1 + cond b 0 2) 0
      go true true = refl
      go false true = refl
      go true false = refl
      go false false = refl

  pub failed-none : {k : ℕ} → k ≡ failed_mode f n L D → k ≡ 0 → lawful_mode f n L D ≡ true
  failed-none e z = lawful-is ∙ eq-eqb (failed_mode f n L D) 0 (sym e ∙ z)

  pub failed-some : {k : ℕ} → k ≡ failed_mode f n L D → (k ≡ 0 → ⊥) → lawful_mode f n L D ≡ false
  failed-some e z = lawful-is ∙ ne_eqb (failed_mode f n L D) 0 (λ h. z (e ∙ h))

  pub lawful-none : lawful_mode f n L D ≡ true → failed_conditions f n L D ≡ None
  unfolding lawful_mode failed_conditions
  lawful-none e = go (eqb (side f L) n) (leb (D + 3) (words f L)) e
    where
      go : (a b : Bool) → a && b ≡ true → conditions_of a b ≡ None
      go true true e = refl
      go true false e = cc
      go false true e = cc
      go false false e = cc

  pub none-lawful : failed_conditions f n L D ≡ None → lawful_mode f n L D ≡ true
  unfolding lawful_mode failed_conditions
  none-lawful e = go (eqb (side f L) n) (leb (D + 3) (words f L)) e
    where
      go : (a b : Bool) → conditions_of a b ≡ None → a && b ≡ true
      go true true e = refl
      go true false e = cc
      go false true e = cc
      go false false e = cc

  pub some-unlawful : {x : Failed} → failed_conditions f n L D ≡ Some x → lawful_mode f n L D ≡ false
  unfolding lawful_mode failed_conditions
  some-unlawful {x} e = go (eqb (side f L) n) (leb (D + 3) (words f L)) e
    where
      go : (a b : Bool) → conditions_of a b ≡ Some x → a && b ≡ false
      go true true e = cc
      go true false e = refl
      go false true e = refl
      go false false e = refl

  pub unlawful-some : lawful_mode f n L D ≡ false → (x : Failed) × (failed_conditions f n L D ≡ Some x)
  unfolding lawful_mode failed_conditions
  unlawful-some e = go (eqb (side f L) n) (leb (D + 3) (words f L)) e
    where
      go : (a b : Bool) → a && b ≡ false → (x : Failed) × (conditions_of a b ≡ Some x)
      go true true e = cc
      go true false e = (Words, refl)
      go false true e = (Side, refl)
      go false false e = (Both, refl)
