-- What the search for the position keeps: the table of the twelve upright places, and the matches of each position.
-- Assumes nothing.
use Rattle.std.specs.Prelude.{◌≡◌, refl, Bool, true, false, cond, ◌&&◌, ◌||◌, List, ℕ, zero, suc, ◌+◌, ◌≤◌, ◌<◌, length, get_or, set, replicate}
use Rattle.std.proofs.Math.Path.{sym}
use Rattle.std.proofs.Common.{ap, ap₂, ◌∙◌, arith, get_or-set_same, get_or-set_other, eq-eqb, ne_eqb, lt-ltb, le-ltb}
use Rattle.std.proofs.Math.Option.{Option, some}
use Rattle.std.proofs.Math.Decide.{ℕ_discrete}
use Rattle.std.proofs.Math.Dec.{T, eqb, ltb, leb}
use Rattle.list_laws.specs.Tests.{true_of, holds}
use Rattle.list_laws.specs.Range.{all, all_of, all_but}
use Rattle.list_laws.specs.Search.{first_from}
use Rattle.list_laws.specs.Writes.{writes, writes-same}
use Rattle.symbol.specs.Places.{orientation_place}
use Rattle.orientation.specs.Position.{matches, single, position}

-- the twelve upright places
abbrev pub Upright : Bool → ℕ → List ℕ → Type 0
Upright f n places = (k : ℕ) → k < 12 → get_or places k 0 ≡ orientation_place f n k

pub upright : (f : Bool) (n : ℕ) {places : List ℕ} → places ≡ writes (replicate 12 0) (λ k. k) (orientation_place f n) 12 → Upright f n places
upright f n {places} e k h =
    ap (λ l. get_or l k 0) e ∙ writes-same 0 (replicate 12 0) (λ k. k) (orientation_place f n) 12 (λ i j a b e. e) (λ i l. l) k h

-- the matches of the positions below m
abbrev pub Counted : Bool → ℕ → List ℕ → List ℕ → ℕ → Type 0
Counted f n g counts m = (p : ℕ) → p < m → get_or counts p 0 ≡ matches f n g p

pub counted_step : (f : Bool) (n : ℕ) (g : List ℕ) (counts : List ℕ) (m x : ℕ) → m < length counts → Counted f n g counts m → x ≡ matches f n g m
    → Counted f n g (set counts m x) (m + 1)
counted_step f n g counts m x r h e p l = go (ℕ_discrete p m)
  where
    go : Dec (p ≡ m) → get_or (set counts m x) p 0 ≡ matches f n g p
    go (yes d) = rw d (get_or-set_same counts m x 0 r ∙ e)
    go (no d) = get_or-set_other counts m p x 0 d ∙ h p (omega arith)

-- only the eight are looked at
all_same : (n : ℕ) (s t : ℕ → Bool) → ((q : ℕ) → q < n → s q ≡ t q) → all n s ≡ all n t
unfolding all
all_same zero s t h = refl
all_same (suc n) s t h = ap₂ (λ (a b : Bool). a && b) (all_same n s t (λ q l. h q (omega arith))) (h n (omega arith))

single-same : (s t : ℕ → ℕ) → ((q : ℕ) → q < 8 → s q ≡ t q) → (p : ℕ) → p < 8 → single s p ≡ single t p
unfolding single
single-same s t h p l =
    ap₂ (λ (a b : Bool). a && b) (ap (leb 9) (h p l))
    (all_same 8 _ _ (λ q k. ap₂ (λ (a b : ℕ). eqb q p || ltb a b) (h q k) (h p l)))

first-same : (s t : ℕ → Bool) (n i : ℕ) → ((k : ℕ) → k < i + n → s k ≡ t k) → first_from s i n ≡ first_from t i n
unfolding first_from
first-same s t zero i h = refl
first-same s t (suc n) i h =
    ap₂ (λ (b : Bool) (o : Option ℕ). cond b (some i) o) (h i (omega arith)) (first-same s t n (i + 1) (λ k l. h k (omega arith)))

pub position-same : (f : Bool) (n : ℕ) (g counts : List ℕ) → Counted f n g counts 8
    → first_from (single (λ q. get_or counts q 0)) 0 8 ≡ position f n g
unfolding position
position-same f n g counts h = first-same _ _ 8 0 (λ p l. single-same _ _ h p (omega arith))

-- a position is lost where another has as many, and else its own matches decide
and-false : (b : Bool) → b && false ≡ false
and-false true = refl
and-false false = refl

and-true : (b : Bool) → b && true ≡ b
and-true true = refl
and-true false = refl

module _ (s : ℕ → ℕ) (p : ℕ) where
  pub single-lost : (q : ℕ) → q < 8 → (q ≡ p → ⊥) → s p ≤ s q → false ≡ single s p
  unfolding single
  single-lost q h d l =
      sym (ap (λ b. leb 9 (s p) && b) (all_but 8 (λ q. eqb q p || ltb (s q) (s p)) q h (rw (ne_eqb q p d) (le-ltb (s q) (s p) l)))
      ∙ and-false (leb 9 (s p)))

  pub single-kept : ((q : ℕ) → q < 8 → (q ≡ p → ⊥) → s q < s p) → leb 9 (s p) ≡ single s p
  unfolding single
  single-kept h =
      sym (ap (λ b. leb 9 (s p) && b) (true_of _ (all_of 8 (λ q. eqb q p || ltb (s q) (s p)) (λ q l. less q l (ℕ_discrete q p))))
      ∙ and-true (leb 9 (s p)))
    where
      less : (q : ℕ) → q < 8 → Dec (q ≡ p) → T (eqb q p || ltb (s q) (s p))
      less q l (yes e) = rw (eq-eqb q p e) tt
      less q l (no d) = rw (ne_eqb q p d) (holds (lt-ltb (s q) (s p) (h q l d)))
