-- The loop of `gather`: the places below i are noted, and g vanishes at the taken ones among them.
-- Assumes nothing.
use mathlib.Core.Path.{◌≡◌, sym, ap, ap₂, ◌∙◌}
use mathlib.Core.Bool.{not}
use mathlib.Core.List.{List}
use Prim.Native.Nat.{ℕ, zero, suc, ◌+◌, ◌-◌, ◌≤◌, ◌<◌}
use native.Mathlib.Nat.{not-suc-le-zero, zero-lt-suc}
use native.Mathlib.Numerals.{add-one}
use native.Mathlib.Decide.{dec_lt}
use native.Mathlib.Omega.{arith}
use lib.Dec.{T}
use lib.ListN.{length, get_or, set}
use lib.Seq.{get_or-set_same, get_or-set_other}
use Rattle.algebra.specs.Field.{ring}
use Rattle.algebra.specs.Sums.{pow}
use Rattle.algebra.specs.Locator.{unit, times_x}
use Rattle.algebra.specs.Values.{Vanishing, times_root, vanishing-none, vanishing-skip, vanishing-take, vanishing-cong}
use Rattle.list_laws.specs.Range.{one, one-yes, one-no, count_most, up_to}
use Rattle.finite_field.specs.Field.{WordSize}
use Rattle.finite_field.specs.FieldLaws.{one_word}
use Rattle.finite_field.specs.Instance.{word_field, word, entry, x, word-zero, word-one}
use Rattle.correction.specs.Received.{Words}
use Rattle.correction.specs.Steps.{ZeroFrom, place, taken_at, Rooted, Gathered}

module _ (s : WordSize) (degree : ℕ) (p marks : List ℕ) where
  pub record Gathering (i m : ℕ) (places g : List ℕ) : Type 0 where
    pub words : Words s g
    pub noted : (j : ℕ) → j < i → get_or places j 0 ≡ one (taken_at s degree p marks j)
    pub rest : ZeroFrom i places
    pub vanishing : Vanishing (word_field s) (place s (length marks)) (taken_at s degree p marks) i m (entry s g)

  -- g is the polynomial 1
  unit-entries : (g : List ℕ) → ZeroFrom 0 g → 0 < length g → (j : ℕ) → unit (word_field s) j ≡ entry s (set g 0 1) j
  unfolding unit
  unit-entries g z l zero = sym (ap (word s) (get_or-set_same g 0 1 0 l) ∙ word-one s)
  unit-entries g z l (suc j) =
      sym (ap (word s) (get_or-set_other g 0 (suc j) 1 0 (λ e. absurd (omega arith)) ∙ z (suc j) (omega arith)) ∙ word-zero s)

  unit-words : (g : List ℕ) → ZeroFrom 0 g → 0 < length g → Words s (set g 0 1)
  unit-words g z l zero = rw (get_or-set_same g 0 1 0 l) (one_word s)
  unit-words g z l (suc j) =
      rw (get_or-set_other g 0 (suc j) 1 0 (λ e. absurd (omega arith)), z (suc j) (omega arith)) (omega (arith, one_word s))

  pub gathering-none : {places : List ℕ} (g : List ℕ) → ZeroFrom 0 places → ZeroFrom 0 g → 0 < length g → Gathering 0 0 places (set g 0 1)
  gathering-none g zp zg l = record {
    words = unit-words g zg l;
    noted = λ j h. absurd (not-suc-le-zero h);
    rest = zp;
    vanishing = vanishing-cong (word_field s) (unit-entries g zg l) (vanishing-none (word_field s) _ _);
  }

  pub degree-le : {i m : ℕ} {places g : List ℕ} → Gathering i m places g → m ≤ i
  degree-le {i} h = omega (arith, h.vanishing.degree, count_most i (taken_at s degree p marks))

  -- the place is not taken
  pub gathering-skip : {i m : ℕ} {places g : List ℕ} → Gathering i m places g → T (not (taken_at s degree p marks i))
      → Gathering (i + 1) m places g
  gathering-skip {i} {m} {places} {g} h t =
      rw add-one
      (record {
        words = h.words;
        noted = up_to (λ j. get_or places j 0 ≡ one (taken_at s degree p marks j)) i h.noted (h.rest i (omega arith) ∙ sym (one-no (taken_at s degree p marks i) t));
        rest = λ j l. h.rest j (omega arith);
        vanishing = vanishing-skip (word_field s) _ _ h.vanishing t;
      })

  -- every coefficient of the product by x + 2^k
  rooted-entries : (k m : ℕ) (g : List ℕ) {after : List ℕ} → ((j : ℕ) → m < j → entry s g j ≡ (word_field s).zer) → Rooted s k m g after
      → (j : ℕ) → times_root (word_field s) (pow (word_field s) (x s) k) (entry s g) j ≡ entry s after j
  unfolding times_x
  rooted-entries k m g {after} above r j = by j (dec_lt j (suc (suc m)))
    where
      none : (word_field s).add (word_field s).zer ((word_field s).mul (pow (word_field s) (x s) k) (word_field s).zer) ≡ (word_field s).zer
      none = simp ring

      by : (j : ℕ) → Dec (j < suc (suc m)) → times_root (word_field s) (pow (word_field s) (x s) k) (entry s g) j ≡ entry s after j
      by j (yes l) = sym (r.coefficients j l)
      by zero (no l) = absurd (l (zero-lt-suc (suc m)))
      by (suc j) (no l) =
          ap₂ (λ a b. (word_field s).add a ((word_field s).mul (pow (word_field s) (x s) k) b)) (above j (omega arith)) (above (suc j) (omega arith))
          ∙ none
          ∙ sym (ap (word s) (r.rest (suc j) (omega arith)) ∙ above (suc j) (omega arith))

  -- the place is taken: noted, and made a root
  pub gathering-take : {i m : ℕ} {places g after : List ℕ} → Gathering i m places g → T (taken_at s degree p marks i) → i < length places
      → Rooted s (length marks - 1 - i) m g after → Gathering (i + 1) (m + 1) (set places i 1) after
  gathering-take {i} {m} {places} {g} {after} h t l r =
      rw (add-one, add-one)
      (record {
        words = r.words;
        noted =
            up_to (λ j. get_or (set places i 1) j 0 ≡ one (taken_at s degree p marks j)) i
            (λ j k. get_or-set_other places i j 1 0 (λ e. absurd (omega arith)) ∙ h.noted j k)
            (get_or-set_same places i 1 0 l ∙ sym (one-yes (taken_at s degree p marks i) t));
        rest = λ j k. get_or-set_other places i j 1 0 (λ e. absurd (omega arith)) ∙ h.rest j (omega arith);
        vanishing =
            vanishing-cong (word_field s) (rooted-entries (length marks - 1 - i) m g h.vanishing.above r) (vanishing-take (word_field s) _ _ h.vanishing t);
      })

  pub gathering-all : {i m : ℕ} {places g : List ℕ} → Gathering i m places g → i ≡ length marks → Gathered s degree p marks m places g
  gathering-all {i} {m} {places} {g} h e =
      record {
        words = h.words;
        noted = λ j l. h.noted j (omega arith);
        rest = λ j l. h.rest j (omega arith);
        vanishing = rw e at h.vanishing;
      }
