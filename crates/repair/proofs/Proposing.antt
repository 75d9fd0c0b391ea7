-- The steps put together: whatever locator was found and whatever vanishes at the taken places, every near block is the received one
-- with the corrections. This is algebra's `candidate-is`, with the lists in the place of its functions.
-- Assumes nothing.
use borrow.Author.Tests.{eq-eqb, ne_eqb}
use mathlib.Core.Path.{◌≡◌, sym, ap, ◌∙◌, subst, fun_ext}
use mathlib.Core.Bool.{Bool, true, false, cond, ◌||◌}
use mathlib.Core.List.{List, ◌++◌}
use Prim.Native.Nat.{ℕ, suc, ◌+◌, ◌^◌, ◌≤◌, ◌<◌}
use native.Mathlib.Nat.{suc-ne-zero}
use Prim.Native.Nat.{suc-le-suc}
use native.Mathlib.Omega.{arith}
use native.Mathlib.Decide.{dec_lt}
use lib.Dec.{T, eqb}
use lib.ListN.{length, get_or, take, drop}
use Rattle.std.proofs.lemmas.List.{get_or-take, length-take-le}
use Rattle.algebra.specs.Field.{is_zero}
use Rattle.algebra.specs.KeyEquation.{eval-short, dot}
use Rattle.algebra.specs.Erasures as erasures
use Rattle.algebra.specs.Exactness as exactness
use Rattle.algebra.proofs.Candidates as candidates
use Rattle.list_laws.specs.Range.{one, count_same}
use Rattle.finite_field.specs.Field.{WordSize, bits}
use Rattle.finite_field.specs.Instance.{word_field, word, entry, word-zero}
use Rattle.evaluation.proofs.Parts.{front-at, rest-at}
use Rattle.block_code.specs.Nearest.{marked, unread}
use Rattle.block_code.specs.NearestLaws.{places-distinct, places-nonzero}
use Rattle.correction.specs.Steps.{
  ZeroFrom,
  SyndromesOf,
  NearTo,
  corrected,
  place,
  taken_at,
  Erased,
  Located,
  Gathered,
  Corrections,
  Proposed,
}

-- a copy of the first words of a list that is 0 from there on, over zeros, has the list's entries
pub copied : (n : ℕ) (l u part : List ℕ) → part ≡ take n l → n ≤ length l → ZeroFrom n l → ZeroFrom 0 u
    → (j : ℕ) → get_or (part ++ drop n u) j 0 ≡ get_or l j 0
copied n l u part e fits zl zu j = by (dec_lt j n)
  where
    long : length part ≡ n
    long = ap length e ∙ length-take-le n l fits

    by : Dec (j < n) → get_or (part ++ drop n u) j 0 ≡ get_or l j 0
    by (yes h) = front-at n u part long j h ∙ ap (λ x. get_or x j 0) e ∙ get_or-take n l j 0 h
    by (no h) =
        let k : n ≤ j = omega arith in
        rest-at n u part long j k ∙ zu j (omega arith) ∙ sym (zl j k)

-- a note of a test is 1 where it holds
noted-test : (b : Bool) {a : ℕ} → a ≡ one b → eqb a 1 ≡ b
noted-test true {a} e = eq-eqb a 1 e
noted-test false {a} e = ne_eqb a 1 (λ o. suc-ne-zero 0 (sym o ∙ e))

module _ (s : WordSize) (check limit t : ℕ) (marks syndromes : List ℕ)
    (limit-le : limit ≤ check)
    (length-lt : length marks < 2 ^ bits s)
    (t-fits : unread marks + (t + t) ≤ limit)
    (t-most : limit < unread marks + (t + t) + 2)
    {u₀ u p g places corrections : List ℕ} {degree m : ℕ}
    (copy : (j : ℕ) → get_or u₀ j 0 ≡ get_or syndromes j 0)
    (erased : Erased s check marks u₀ u)
    (located : Located s t u degree p)
    (gathered : Gathered s degree p marks m places g)
    (made : Corrections s (length marks) m g syndromes places corrections) where
  -- u is the syndromes with the marked places taken out
  u-is : entry s u ≡ erasures.erase (word_field s) (length marks) (marked marks) (place s (length marks)) (entry s syndromes)
  u-is =
      fun_ext (λ j.
      erased.taken_out j
      ∙ ap (λ f. erasures.erase (word_field s) (length marks) (marked marks) (place s (length marks)) f j) (fun_ext (λ i. ap (word s) (copy i))))

  -- the locator's degree may be taken for t
  taken_is : (i : ℕ) → taken_at s degree p marks i ≡ taken_at s t p marks i
  taken_is i =
      ap (λ v. marked marks i || is_zero (word_field s) v)
      (sym (eval-short (word_field s) (suc degree) (suc t) (entry s p) (place s (length marks) i) (suc-le-suc located.length-le)
      (λ j l. ap (word s) (located.above j l) ∙ word-zero s)))

  only : (y : ℕ → (word_field s).C) → SyndromesOf s check (length marks) y syndromes → (b : ℕ → (word_field s).C)
      → NearTo s check limit marks y b → (i : ℕ) → i < length marks → corrected s y corrections i ≡ b i
  only y is b near i l =
      ap ((word_field s).add (y i))
      (made.missing i l
      ∙ ap (λ c. cond c (exactness.correction (word_field s) m (entry s g) (entry s syndromes) (place s (length marks) i)) (word_field s).zer)
      (noted-test (taken_at s degree p marks i) (gathered.noted i l) ∙ taken_is i))
      ∙ sym (exactness.candidate-corrects (word_field s) (taken_at s t p marks) m (entry s g) (entry s syndromes) (place s (length marks)) y i)
      ∙ candidates.candidate-is (word_field s) (length marks) check limit (place s (length marks)) (marked marks) y
      (places-distinct s (length marks) length-lt)
      (λ k _. places-nonzero s (length marks) k)
      limit-le t t-fits t-most (entry s syndromes) is
      (entry s p) located.locates.top located.locates.top-le located.locates.lead
      (λ k h. ap (λ f. dot (word_field s) (suc t) (entry s p) f k) (sym u-is) ∙ located.locates.annihilates k h)
      m (entry s g)
      (gathered.vanishing.degree ∙ count_same (length marks) (taken_at s degree p marks) (taken_at s t p marks) (λ k _. taken_is k))
      gathered.vanishing.lead
      (λ k h v. gathered.vanishing.root k h (subst T (sym (taken_is k)) v))
      b near i l

  pub proposed : Proposed s check limit marks syndromes corrections
  proposed = record { words = made.words; only = only }
