-- The two tests, each as the definition has it.
-- Assumes nothing.
use Rattle.std.proofs.Common.{◌≡◌, sym, ap, ap₂, ◌∙◌, Bool, ℕ, ◌+◌, eqb, leb, Option, refl, true, false}
use Rattle.symbol.specs.Shapes.{side, words}
use Rattle.recovery.specs.declared.said.Failed.{Failed}
use Rattle.recovery.specs.Stages.{failed_mode}
use Rattle.recovery.specs.FailedMode.{failed_number, conditions_of, failed_conditions, conditions-number}
use Rattle.recovery.proofs.said.failed_of.Goals as goal

module _ (f : Bool) (n L D : ℕ) {s w : ℕ} {a b : Bool} (p : s ≡ side f L) (q : w ≡ words f L) (x : eqb s n ≡ a) (y : leb (D + 3) w ≡ b) where
  tested : conditions_of a b ≡ failed_conditions f n L D
  unfolding failed_conditions
  tested = ap₂ conditions_of (sym x ∙ ap (λ s. eqb s n) p) (sym y ∙ ap (leb (D + 3)) q)

  both : {r : Option Failed} → r ≡ conditions_of a b → (r ≡ failed_conditions f n L D) × (failed_number r ≡ failed_mode f n L D)
  both e = let same = e ∙ tested in (same, ap failed_number same ∙ conditions-number f n L D)

pub returns-in-true-true : goal.returns-in-true-true
returns-in-true-true c =
    let a = c.args in
    let p = both a.full a.n a.layers a.data_words c.side_of.ensures c.words_of.ensures c.in-true-true.is-0 c.in-true-true.is-1 refl in record {
      value = p.0;
      number = p.1;
    }

pub returns-in-true-false : goal.returns-in-true-false
returns-in-true-false c =
    let a = c.args in
    let p = both a.full a.n a.layers a.data_words c.side_of.ensures c.words_of.ensures c.in-true-false.is-0 c.in-true-false.is-1 refl in record {
      value = p.0;
      number = p.1;
    }

pub returns-in-false-true : goal.returns-in-false-true
returns-in-false-true c =
    let a = c.args in
    let p = both a.full a.n a.layers a.data_words c.side_of.ensures c.words_of.ensures c.in-false-true.is-0 c.in-false-true.is-1 refl in record {
      value = p.0;
      number = p.1;
    }

pub returns-in-false-false : goal.returns-in-false-false
returns-in-false-false c =
    let a = c.args in
    let p = both a.full a.n a.layers a.data_words c.side_of.ensures c.words_of.ensures c.in-false-false.is-0 c.in-false-false.is-1 refl in record {
      value = p.0;
      number = p.1;
    }
