-- The corrector's answer by its tests: the counts, the marks and the words.
-- Assumes nothing.
use borrow.Author.Tests.{lt-ltb}
use mathlib.Core.Path.{◌≡◌}
use mathlib.Core.Bool.{true, false}
use mathlib.Core.List.{List}
use mathlib.Core.Logic.{◌⊎◌, inl, inr}
use Prim.Native.Nat.{ℕ, ◌^◌, ◌<◌}
use native.Mathlib.Nat.{le_refl}
use native.Mathlib.Decide.{dec_lt}
use native.Mathlib.Omega.{arith}
use lib.Dec.{T, T_not, leb, ltb, ltb→lt}
use lib.Pow.{pow_pos}
use lib.ListN.{length, get_or, get_or-eq_default}
use Rattle.list_laws.specs.Tests.{both-parts, either, false_of, holds}
use Rattle.list_laws.specs.Range.{all-at}
use Rattle.finite_field.specs.Field.{WordSize, bits, Word}
use Rattle.block_code.specs.Nearest.{marked, nearest}
use Rattle.reed_solomon.specs.Correct.{Answer, refused, lawful_counts, lawful_words, answer, judge_of}
use Rattle.correction.specs.Steps.{Readable, Lawful}

-- a number and words that are one answer's are those of its equal
pub as-answer : {a b : Answer} {n : ℕ} {l : List ℕ} → a ≡ b → (n ≡ b.number) × (l ≡ b.words) → (n ≡ a.number) × (l ≡ a.words)
as-answer e h = rw e h

module _ (s : WordSize) (check n : ℕ) where
  abbrev pub Counts : Type 0
  Counts = (n < 2 ^ bits s) × (0 < check) × (check < n)

  counts : T (lawful_counts s check n) → Counts
  counts t =
      let l = both-parts (ltb n (2 ^ bits s)) _ t in
      let k = both-parts (ltb 0 check) _ l.1 in
      (ltb→lt _ _ l.0, ltb→lt _ _ k.0, ltb→lt _ _ k.1)

  counts-lawful : Counts → lawful_counts s check n ≡ true
  counts-lawful (l, k, m) = rw (lt-ltb _ _ l, lt-ltb _ _ k, lt-ltb _ _ m)

module _ (s : WordSize) (check : ℕ) (received marks corrected : List ℕ) where
  pub judge-32 : (Counts s check (length received) → ⊥) → judge_of s check received marks corrected ≡ refused 32 corrected
  judge-32 n = rw (false_of (lawful_counts s check (length received)) (λ t. n (counts s check (length received) t)))

  pub judge-33 : Counts s check (length received) → lawful_words s received marks ≡ false → judge_of s check received marks corrected ≡ refused 33 corrected
  judge-33 c e = rw (counts-lawful s check (length received) c, e)

  pub judge-answer : Counts s check (length received) → lawful_words s received marks ≡ true
      → judge_of s check received marks corrected ≡ answer (nearest s check check received marks) corrected
  judge-answer c e = rw (counts-lawful s check (length received) c, e)

  readable : T (lawful_words s received marks) → Readable s received marks
  readable t i n = go (dec_lt i (length received))
    where
      word_of : T (marked marks i) ⊎ T (ltb (get_or received i 0) (2 ^ bits s)) → Word s (get_or received i 0)
      word_of (inl m) = absurd (T_not (marked marks i) n m)
      word_of (inr l) = ltb→lt (get_or received i 0) (2 ^ bits s) l

      go : Dec (i < length received) → Word s (get_or received i 0)
      go (yes l) = word_of (either (marked marks i) (ltb (get_or received i 0) (2 ^ bits s)) (both-parts (leb (get_or marks i 0) 1) _ (all-at (length received) _ t i l)).1)
      go (no l) = rw (get_or-eq_default received 0 {n = i} (omega arith)) (pow_pos (bits s))

  pub lawful : Counts s check (length received) → lawful_words s received marks ≡ true → length marks ≡ length received → Lawful s check check received marks
  lawful (l, k, m) e h =
      record { readable = readable (holds e); same_length = h; limit-le = le_refl check; check-lt = m; length-lt = l }
