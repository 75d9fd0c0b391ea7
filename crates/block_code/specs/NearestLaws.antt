-- `nearest` is the near block: at most one block is near (algebra's distance of the code), the search finds it if there is one, and
-- answers none only if there is none. Last, what the corrector's own answers are worth.
-- Assumes nothing.
use Rattle.std.specs.Prelude.{◌≡◌, refl, ◌↔◌, List, T, leb, length}
use Rattle.std.proofs.Common.{sym, ap, ◌∙◌, arith, le→leb, ext_get_or}
use Rattle.std.proofs.Math.Bool.{Bool}
use Rattle.std.proofs.Math.Option.{Option, none, some}
use Prim.Native.Nat.{ℕ, ◌+◌, ◌*◌, ◌-◌, ◌^◌, ◌≤◌, ◌<◌}
use Rattle.std.proofs.Math.Dec.{eqb, eqb→eq, eqb_refl, leb→le}
use Rattle.list_laws.specs.Range.{all, all-at, all_of}
use Rattle.list_laws.specs.Tests.{both, both-parts}
use Rattle.algebra.specs.Vandermonde.{Distinct}
use Rattle.algebra.specs.Horner.{locators-distinct, locators-nonzero}
use Rattle.algebra.specs.Distance as distance
use Rattle.algebra.specs.Exactness.{near-cong}
use Rattle.finite_field.specs.Field.{WordSize, bits, power}
use Rattle.finite_field.specs.Instance.{word_field, entry, x, word-injective, powers-distinct, x-nonzero}
use Rattle.block_code.specs.Block.{Words, value}
use Rattle.block_code.specs.Nearest.{marked, unread, differ, Near, is_near, nearest}
use Rattle.correction.specs.Steps.{Readable, place, read_word, SyndromesOf, NearTo, Proposed, corrected}
use Rattle.block_code.specs.SearchLaws.{Passing, search-some, search-none}
use Rattle.block_code.specs.WordLists.{words-below}
use Rattle.block_code.specs.FieldView.{near-field, field-near}

module _ (s : WordSize) where
  -- the locators of n places: distinct, and none is zero

  pub places-distinct : (n : ℕ) → n < 2 ^ bits s → Distinct (word_field s) n (place s n)
  places-distinct n h = locators-distinct (word_field s) (x s) (2 ^ bits s - 1) n (omega arith) (powers-distinct s)

  pub places-nonzero : (n i : ℕ) → ¬ (place s n i ≡ (word_field s).zer)
  places-nonzero n i = locators-nonzero (word_field s) (x s) n (x-nonzero s) i

  module _ (check limit : ℕ) (received marks : List ℕ) where
    -- the test says what the record says

    pub near-test : (block : List ℕ) → length block ≡ length received → Words s block
        → T (is_near s check limit received marks block) ↔ Near s check limit received marks block
    unfolding is_near
    near-test block e h = (
      λ t.
          let parts = both-parts (all check zeros) (leb (2 * differ received marks block + unread marks) limit) t in
          record {
            size = e;
            valid = record { words = h; zeros = λ j l. eqb→eq _ _ (all-at check zeros parts.0 j l) };
            within = leb→le _ _ parts.1;
          },
      λ near.
          both (all check zeros) (leb (2 * differ received marks block + unread marks) limit)
          (all_of check zeros (λ j l. rw (near.valid.zeros j l) (eqb_refl 0)))
          (le→leb _ _ near.within),
    )
      where
        zeros : ℕ → Bool
        zeros j = eqb (value s block (power s (j + 1))) 0

    near-passing : {block : List ℕ} → Near s check limit received marks block
        → Passing (2 ^ bits s) (length received) (is_near s check limit received marks) block
    near-passing {block} near = record {
      size = near.size;
      below = λ i l. near.valid.words i;
      passes = (near-test block near.size near.valid.words).1 near;
    }

    passing-near : {block : List ℕ} → Passing (2 ^ bits s) (length received) (is_near s check limit received marks) block
        → Near s check limit received marks block
    passing-near {block} p =
        (near-test block p.size (words-below s block (length received) p.size p.below)).0 p.passes

    pub some_near : {block : List ℕ} → nearest s check limit received marks ≡ some block → Near s check limit received marks block
    unfolding nearest
    some_near e = passing-near (search-some (2 ^ bits s) (length received) (is_near s check limit received marks) e)

    pub none-near : nearest s check limit received marks ≡ none → (block : List ℕ) → ¬ Near s check limit received marks block
    unfolding nearest
    none-near e block near =
        search-none (2 ^ bits s) (length received) (is_near s check limit received marks) e block (near-passing near)

    pub nearest-none : ((block : List ℕ) → ¬ Near s check limit received marks block) → nearest s check limit received marks ≡ none
    nearest-none h = go (nearest s check limit received marks) refl
      where
        go : (o : Option (List ℕ)) → nearest s check limit received marks ≡ o → nearest s check limit received marks ≡ none
        go none e = e
        go (some block) e = absurd (h block (some_near e))

    pub too-many-marks : limit < unread marks → nearest s check limit received marks ≡ none
    too-many-marks h = nearest-none (λ block near. omega (arith, near.within))

    module _ (marks-length : length marks ≡ length received) (readable : Readable s received marks) where
      pub near-unique : limit ≤ check → length received < 2 ^ bits s → (a b : List ℕ)
          → Near s check limit received marks a → Near s check limit received marks b → a ≡ b
      near-unique limit-le fits a b na nb =
          ext_get_or 0 a b (na.size ∙ sym nb.size)
          (λ i l.
          word-injective s (na.valid.words i) (nb.valid.words i)
          (distance.unique (word_field s) (length received) check (place s (length received))
          (places-distinct (length received) fits) (λ k m. places-nonzero (length received) k)
          limit (marked marks) (read_word s received marks) (entry s a) (entry s b) limit-le (in_field a na) (in_field b nb)
          i (rw na.size at l)))
        where
          in_field : (c : List ℕ) → Near s check limit received marks c
              → distance.Near (word_field s) (length received) check limit (place s (length received)) (marked marks)
              (read_word s received marks) (entry s c)
          in_field = near-field s check limit (length received) received marks refl marks-length readable

      pub nearest-some : limit ≤ check → length received < 2 ^ bits s → {block : List ℕ}
          → Near s check limit received marks block → nearest s check limit received marks ≡ some block
      nearest-some limit-le fits {block} near = go (nearest s check limit received marks) refl
        where
          go : (o : Option (List ℕ)) → nearest s check limit received marks ≡ o → nearest s check limit received marks ≡ some block
          go none e = absurd (none-near e block near)
          go (some c) e = e ∙ ap some (near-unique limit-le fits c block (some_near e) near)

      -- the corrector's answers: c holds the words read with the corrections

      pub answer-found : limit ≤ check → length received < 2 ^ bits s → (c corrections : List ℕ)
          → length c ≡ length received → Words s c
          → ((i : ℕ) → i < length received → entry s c i ≡ corrected s (read_word s received marks) corrections i)
          → NearTo s check limit marks (read_word s received marks) (corrected s (read_word s received marks) corrections)
          → nearest s check limit received marks ≡ some c
      answer-found limit-le fits c corrections e h same near =
          nearest-some limit-le fits
          (field-near s check limit (length marks) received marks (sym marks-length) refl readable c (e ∙ sym marks-length) h
          (near-cong (word_field s) (λ i l m. refl) (λ i l. sym (same i (rw marks-length at l))) near))

      pub answer-none : (syndromes corrections : List ℕ) → Proposed s check limit marks syndromes corrections
          → SyndromesOf s check (length received) (read_word s received marks) syndromes
          → ¬ NearTo s check limit marks (read_word s received marks) (corrected s (read_word s received marks) corrections)
          → nearest s check limit received marks ≡ none
      answer-none syndromes corrections proposed sums far =
          nearest-none
          (λ block near.
          let close = near-field s check limit (length marks) received marks (sym marks-length) refl readable block near in
          far
          (near-cong (word_field s) (λ i l m. refl)
          (λ i l. sym (proposed.only (read_word s received marks) (rw marks-length sums) (entry s block) close i l)) close))
