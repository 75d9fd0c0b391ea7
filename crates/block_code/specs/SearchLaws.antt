-- What a search says: a list found has the length, lies below the bound and passes the test; where none is found, no such list passes.
-- With this `nearest`, the first block of an enumeration, is a near block where there is one.
-- Assumes nothing.
use Rattle.std.specs.Prelude.{◌≡◌, refl, ◌⊎◌, Bool, true, false, cond, List, [], ◌∷◌, ℕ, zero, suc, ◌<◌, T, length, get_or}
use Rattle.std.proofs.Common.{ap, inl, inr, suc-le-suc, le_of_suc-le-suc, not-suc-le-zero, le_refl, zero-lt-suc, arith}
use Rattle.std.proofs.Math.Option.{Option, none, some, map}
use Rattle.list_laws.specs.Range.{up_to}
use Rattle.block_code.specs.Nearest.{or_else, first_of, search}

-- one of two answers

or_some : {A : Type 0} (o p : Option A) {a : A} → or_else o p ≡ some a → (o ≡ some a) ⊎ (p ≡ some a)
unfolding or_else
or_some (some b) p e = inl e
or_some none p e = inr e

or-none : {A : Type 0} (o p : Option A) → or_else o p ≡ none → (o ≡ none) × (p ≡ none)
unfolding or_else
or-none (some b) p e = absurd (let z : ◌≡◌ {A = ℕ} 0 1 = cc in omega arith)
or-none none p e = (refl, e)

-- the first of n answers

first_some : {A : Type 0} (f : ℕ → Option A) (n : ℕ) {a : A} → first_of f n ≡ some a → (i : ℕ) × (i < n) × (f i ≡ some a)
unfolding first_of
first_some f zero e = absurd (let z : ◌≡◌ {A = ℕ} 0 1 = cc in omega arith)
first_some f (suc n) {a} e = go (first_some f n) (or_some (first_of f n) (f n) e)
  where
    go : (first_of f n ≡ some a → (i : ℕ) × (i < n) × (f i ≡ some a)) → (first_of f n ≡ some a) ⊎ (f n ≡ some a)
        → (i : ℕ) × (i < suc n) × (f i ≡ some a)
    go earlier (inl h) = let r = earlier h in (r.0, (let k : r.0 < n = r.1 in omega arith), r.2)
    go earlier (inr h) = (n, le_refl (suc n), h)

first-none : {A : Type 0} (f : ℕ → Option A) (n : ℕ) → first_of f n ≡ none → (i : ℕ) → i < n → f i ≡ none
unfolding first_of
first-none f zero e i l = absurd (not-suc-le-zero l)
first-none f (suc n) e i l =
    let parts = or-none (first_of f n) (f n) e in
    up_to (λ k. f k ≡ none) n (first-none f n parts.0) parts.1 i l

-- a list with w in front

with-some : (w : ℕ) (o : Option (List ℕ)) {l : List ℕ} → map (λ t. w ∷ t) o ≡ some l
    → (t : List ℕ) × (o ≡ some t) × (l ≡ w ∷ t)
with-some w (some t) e = (t, refl, cc)
with-some w none e = absurd (let z : ◌≡◌ {A = ℕ} 0 1 = cc in omega arith)

with_none : (w : ℕ) (o : Option (List ℕ)) → map (λ t. w ∷ t) o ≡ none → o ≡ none
with_none w (some t) e = absurd (let z : ◌≡◌ {A = ℕ} 0 1 = cc in omega arith)
with_none w none e = refl

-- l is a list of n numbers below q that passes the test
pub record Passing (q n : ℕ) (test : List ℕ → Bool) (l : List ℕ) : Type 0 where
  pub size : length l ≡ n
  pub below : (i : ℕ) → i < n → get_or l i 0 < q
  pub passes : T (test l)

found-empty : (b : Bool) {l : List ℕ} → cond b (some []) none ≡ some l → T b × (l ≡ [])
found-empty true e = (tt, cc)
found-empty false e = absurd (let z : ◌≡◌ {A = ℕ} 0 1 = cc in omega arith)

passed-empty : (b : Bool) → T b → ¬ (◌≡◌ {A = Option (List ℕ)} (cond b (some []) none) none)
passed-empty true t e = let z : ◌≡◌ {A = ℕ} 0 1 = cc in omega arith
passed-empty false t e = t

pub search-some : (q n : ℕ) (test : List ℕ → Bool) {l : List ℕ} → search q n test ≡ some l → Passing q n test l
unfolding search
search-some q zero test {l} e =
    let r = found-empty (test []) e in
    record { size = ap length r.1; below = λ i k. absurd (not-suc-le-zero k); passes = rw r.1 r.0 }
search-some q (suc n) test {l} e =
    let f = first_some (λ w. map (λ t. w ∷ t) (search q n (λ t. test (w ∷ t)))) q e in
    let g = with-some f.0 (search q n (λ t. test (f.0 ∷ t))) f.2 in
    cons-passing f.0 f.1 (search-some q n (λ t. test (f.0 ∷ t)) g.1) g.2
  where
    cons-passing : (w : ℕ) {t : List ℕ} → w < q → Passing q n (λ k. test (w ∷ k)) t → l ≡ w ∷ t → Passing q (suc n) test l
    cons-passing w {t} lt p eq =
        rw eq (record { size = ap suc p.size; below = at; passes = p.passes })
      where
        at : (i : ℕ) → i < suc n → get_or (w ∷ t) i 0 < q
        at zero k = lt
        at (suc i) k = p.below i (le_of_suc-le-suc k)

pub search-none : (q n : ℕ) (test : List ℕ → Bool) → search q n test ≡ none → (l : List ℕ) → ¬ Passing q n test l
unfolding search
search-none q zero test e [] p = passed-empty (test []) p.passes e
search-none q zero test e (w ∷ l) p = let h : suc (length l) ≡ 0 = p.size in omega arith
search-none q (suc n) test e [] p = let h : 0 ≡ suc n = p.size in omega arith
search-none q (suc n) test e (w ∷ l) p =
    search-none q n (λ t. test (w ∷ t))
    (with_none w (search q n (λ t. test (w ∷ t)))
    (first-none (λ v. map (λ t. v ∷ t) (search q n (λ t. test (v ∷ t)))) q e w (p.below 0 (zero-lt-suc n))))
    l
    (record {
      size = (let h : suc (length l) ≡ suc n = p.size in omega arith);
      below = λ i k. p.below (suc i) (suc-le-suc k);
      passes = p.passes;
    })
