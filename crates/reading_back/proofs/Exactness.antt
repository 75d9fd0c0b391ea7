-- Demand 3's first half: for lawful arguments the corrector is exact, by the laws of the nearest block.
-- Assumes nothing.
use Rattle.std.specs.Prelude.{◌≡◌, refl, ◌≢◌, Bool, true, false, not, ◌&&◌, ◌||◌, List, ℕ, ◌^◌, ◌<◌, T, eqb, ltb, leb, length, get_or}
use Rattle.std.proofs.Common.{sym, ap, ◌∙◌, subst, le_refl, arith, eqb→eq, ltb→lt, pow_pos}
use Rattle.std.proofs.Math.Option.{Option, none, some}
use Rattle.std.proofs.Math.Decide.{dec_lt}
use Rattle.std.proofs.Math.ListN.{get_or-eq_default}
use Rattle.list_laws.specs.Range.{all-at}
use Rattle.list_laws.specs.Tests.{both-parts, holds}
use Rattle.finite_field.specs.Field.{bits, size_of}
use Rattle.block_code.specs.Nearest.{marked, Near}
use Rattle.block_code.specs.NearestLaws.{nearest-some, some_near, none-near, nearest-none, near-unique}
use Rattle.reed_solomon.specs.Correct.{Answer, answer}
use Rattle.reading_back.specs.Exactness as exactness

-- B bits a word, K check words; `before` is what the written slice held
module _ (B K : ℕ) (received marks before : List ℕ) where
  abbrev corrected : Answer
  corrected = exactness.corrected B K received marks before

  abbrev LawfulArguments : Type 0
  LawfulArguments = exactness.LawfulArguments B K received marks before

  abbrev LawfulTests : Type 0
  LawfulTests = exactness.LawfulTests B K received marks before

  abbrev CorrectChecks : List ℕ → Type 0
  CorrectChecks = exactness.CorrectChecks B K received marks before

  abbrev distance : List ℕ → ℕ
  distance = exactness.distance B K received marks before

  abbrev WithinLimit : List ℕ → Type 0
  WithinLimit = exactness.WithinLimit B K received marks before

  abbrev Exact : Type 0
  Exact = exactness.Exact B K received marks before

  abbrev found : Option (List ℕ)
  found = exactness.found B K received marks before

  pub to-near : {block : List ℕ} → WithinLimit block → Near (size_of B) K K received marks block
  to-near w = record { size = w.0.size; valid = w.0.valid; within = omega (arith, w.1) }

  pub of-near : {block : List ℕ} → Near (size_of B) K K received marks block → WithinLimit block
  of-near near = (record { size = near.size; valid = near.valid }, omega (arith, near.within))

  module _ (t : LawfulTests) where
    marks-length : length marks ≡ length received
    marks-length =
        eqb→eq _ _ (both-parts (eqb (length marks) (length received)) (eqb (length before) (length received)) (holds t.lengths)).0

    fits : length received < 2 ^ bits (size_of B)
    fits = ltb→lt _ _ (both-parts (ltb (length received) (2 ^ bits (size_of B))) (ltb 0 K && ltb K (length received)) (holds t.counts)).0

    -- a word that isn't marked is below 2^B
    readable : (i : ℕ) → T (not (marked marks i)) → get_or received i 0 < 2 ^ bits (size_of B)
    readable i clear = go (dec_lt i (length received))
      where
        small : ℕ → Bool
        small i = ltb (get_or received i 0) (2 ^ bits (size_of B))

        unmarked : (b c : Bool) → T (not b) → T (b || c) → T c
        unmarked true c n t = absurd n
        unmarked false c n t = t

        go : Dec (i < length received) → get_or received i 0 < 2 ^ bits (size_of B)
        go (yes h) =
            let test = all-at (length received) (λ i. leb (get_or marks i 0) 1 && (marked marks i || small i)) (holds t.words) i h in
            ltb→lt _ _ (unmarked (marked marks i) (small i) clear (both-parts (leb (get_or marks i 0) 1) (marked marks i || small i) test).1)
        go (no h) = rw (get_or-eq_default received 0 {n = i} (omega arith)) (pow_pos (bits (size_of B)))

    pub within-is : (block : List ℕ) → WithinLimit block → corrected ≡ record { number = 0; words = block }
    within-is block w =
        exactness.judged B K received marks before t
        ∙ ap (λ o. answer o before) (nearest-some (size_of B) K K received marks marks-length readable (le_refl K) fits (to-near w))

    pub one : (a b : List ℕ) → WithinLimit a → WithinLimit b → a ≡ b
    one a b x y = near-unique (size_of B) K K received marks marks-length readable (le_refl K) fits a b (to-near x) (to-near y)

    -- the number says whether a block was found
    pub of_zero : corrected.number ≡ 0 → WithinLimit corrected.words
    of_zero e = go found refl (sym (ap (λ a. a.number) (exactness.judged B K received marks before t)) ∙ e)
      where
        go : (o : Option (List ℕ)) → found ≡ o → (answer o before).number ≡ 0 → WithinLimit corrected.words
        go (some block) f z =
            subst (λ (a : Answer). WithinLimit a.words) (sym (exactness.judged B K received marks before t ∙ ap (λ o. answer o before) f))
            (of-near (some_near (size_of B) K K received marks f))
        go none f z = absurd (omega arith)

    pub of-34 : corrected.number ≡ 34 → ((block : List ℕ) → ¬ WithinLimit block) × (corrected.words ≡ before)
    of-34 e = go found refl (sym (ap (λ a. a.number) (exactness.judged B K received marks before t)) ∙ e)
      where
        go : (o : Option (List ℕ)) → found ≡ o → (answer o before).number ≡ 34
            → ((block : List ℕ) → ¬ WithinLimit block) × (corrected.words ≡ before)
        go (some block) f z = absurd (omega arith)
        go none f z = (
          λ block w. none-near (size_of B) K K received marks f block (to-near w),
          ap (λ a. a.words) (exactness.judged B K received marks before t ∙ ap (λ o. answer o before) f),
        )

    pub tests-exact : Exact
    tests-exact =
        record {
          answers-exactly = (λ e. (corrected.words, of_zero e), λ w. ap (λ a. a.number) (within-is w.0 w.1));
          answer-within = of_zero;
          within-answered = within-is;
          others-beyond = λ e block c other. beyond e block c other (dec_lt K (distance block));
          one-within = one;
          refuses-exactly = (
            λ e. (of-34 e).0,
            λ none_within.
                ap (λ a. a.number)
                (exactness.judged B K received marks before t ∙ ap (λ o. answer o before)
                (nearest-none (size_of B) K K received marks (λ block near. none_within block (of-near near)))),
          );
          refused-untouched = λ e. (of-34 e).1;
          answers-or-refuses = exactness.number_is B K received marks before t;
        }
      where
        beyond : corrected.number ≡ 0 → (block : List ℕ) → CorrectChecks block → block ≢ corrected.words → Dec (K < distance block)
            → K < distance block
        beyond e block c other (yes h) = h
        beyond e block c other (no h) = absurd (other (one block corrected.words (c, omega arith) (of_zero e)))

  -- THE THEOREM
  pub corrects-exactly : LawfulArguments → Exact
  corrects-exactly l = tests-exact ((exactness.lawful-tests B K received marks before).0 l)
