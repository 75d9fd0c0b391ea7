-- What the corrector's contract says to a caller whose arguments are lawful: the nearest block, or none.
-- Assumes nothing.
use Rattle.std.specs.Prelude.{◌≡◌, refl, Bool, true, false, cond, ◌||◌, List, ℕ, ◌^◌, ◌≤◌, ◌<◌, T, eqb, ltb, leb, length, get_or}
use Rattle.std.proofs.Common.{sym, ap, ◌∙◌, subst, arith, le→leb, lt→ltb, eq-eqb, lt-ltb}
use Rattle.std.proofs.Math.Option.{Option, none, some}
use Rattle.list_laws.specs.Range.{all_of}
use Rattle.list_laws.specs.Tests.{both, true_of}
use Rattle.finite_field.specs.Field.{bits, size_of}
use Rattle.block_code.specs.Nearest.{nearest, marked}
use Rattle.reed_solomon.specs.Correct.{answer, lawful_words, correct_of}

-- whether a block was found, and the block
pub record Corrected (found : Bool) (block : List ℕ) (o : Option (List ℕ)) : Type 0 where
  pub yes : found ≡ true → o ≡ some block
  pub no : found ≡ false → o ≡ none

-- words and marks that no number but 34 refuses
pub record Lawful (B K : ℕ) (received marks : List ℕ) : Type 0 where
  pub size : bits (size_of B) ≡ B
  pub same : length marks ≡ length received
  pub few : length received < 2 ^ B
  pub some-checks : 0 < K
  pub some-data : K < length received
  pub mark : (i : ℕ) → get_or marks i 0 ≤ 1
  pub word : (i : ℕ) → get_or received i 0 < 2 ^ B

either-right : (a b : Bool) → T b → T (a || b)
either-right true b t = tt
either-right false b t = t

module _ (B K : ℕ) (received marks : List ℕ) (l : Lawful B K received marks) where
  words-lawful : lawful_words (size_of B) received marks ≡ true
  words-lawful =
      true_of (lawful_words (size_of B) received marks)
      (all_of (length received) _ (λ i h.
      both (leb (get_or marks i 0) 1) (marked marks i || ltb (get_or received i 0) (2 ^ bits (size_of B)))
      (le→leb (get_or marks i 0) 1 (l.mark i))
      (either-right (marked marks i) (ltb (get_or received i 0) (2 ^ bits (size_of B)))
      (lt→ltb (get_or received i 0) (2 ^ bits (size_of B)) (subst (λ b. get_or received i 0 < 2 ^ b) (sym l.size) (l.word i))))))

  pub correct-lawful : (buffer : List ℕ) → length buffer ≡ length received
      → correct_of B K received marks buffer ≡ answer (nearest (size_of B) K K received marks) buffer
  correct-lawful buffer e =
      rw (
        eq-eqb (length marks) (length received) l.same,
        eq-eqb (length buffer) (length received) e,
        eq-eqb (bits (size_of B)) B l.size,
        lt-ltb (length received) (2 ^ bits (size_of B)) (subst (λ b. length received < 2 ^ b) (sym l.size) l.few),
        lt-ltb 0 K l.some-checks,
        lt-ltb K (length received) l.some-data,
        words-lawful,
      ) refl

  -- the number says which
  pub corrected-by : (buffer words : List ℕ) (number : ℕ) → length buffer ≡ length received
      → number ≡ (correct_of B K received marks buffer).number → words ≡ (correct_of B K received marks buffer).words
      → Corrected (eqb number 0) words (nearest (size_of B) K K received marks)
  corrected-by buffer words number e p q =
      go (nearest (size_of B) K K received marks) (p ∙ ap (λ a. a.number) (correct-lawful buffer e))
      (q ∙ ap (λ a. a.words) (correct-lawful buffer e))
    where
      differ : false ≡ true → ⊥
      differ z = let w : ◌≡◌ {A = ℕ} 0 1 = ap (λ (b : Bool). cond b 1 0) z in omega arith

      go : (o : Option (List ℕ)) → number ≡ (answer o buffer).number → words ≡ (answer o buffer).words → Corrected (eqb number 0) words o
      go (some c) p q =
          record { yes = λ z. ap some (sym q); no = λ z. absurd (differ (sym z ∙ eq-eqb number 0 p)) }
      go none p q =
          record { yes = λ z. absurd (differ (sym (ap (λ k. eqb k 0) p) ∙ z)); no = λ z. refl }
