-- Values stored one after the other at places of a list: what a loop of stores leaves, and what stands at each place afterwards.
-- Assumes nothing.
use Rattle.std.specs.Prelude.{◌≡◌, ◌≢◌}
use Rattle.std.proofs.Math.Path.{refl, ap, ap₂}
use Rattle.std.proofs.Common.{sym, ◌∙◌, subst, not-suc-le-zero, add-zero, add-suc, add-one, arith, get_or-set_same}
use mathlib.Core.List.{List}
use Prim.Native.Nat.{ℕ, zero, suc, ◌+◌, ◌≤◌, ◌<◌}
use Rattle.std.proofs.Math.Decide.{ℕ_discrete}
use Rattle.std.proofs.Math.ListN.{length, get_or, set, length-set}
use Rattle.std.proofs.Math.Seq.{get_or-set_other}

module _ {A : Type 0} where
  -- the values v 0, .., v (n - 1) stored at the places p 0, .., p (n - 1), in this order
  unfoldable pub writes : List A → (ℕ → ℕ) → (ℕ → A) → ℕ → List A
  writes l p v zero = l
  writes l p v (suc n) = set (writes l p v n) (p n) (v n)

  pub writes-none : (l : List A) (p : ℕ → ℕ) (v : ℕ → A) → l ≡ writes l p v 0
  unfolding writes
  writes-none l p v = refl

  pub length-writes : (l : List A) (p : ℕ → ℕ) (v : ℕ → A) (n : ℕ) → length (writes l p v n) ≡ length l
  unfolding writes
  length-writes l p v zero = refl
  length-writes l p v (suc n) = length-set (writes l p v n) (p n) (v n) ∙ length-writes l p v n

  -- one turn of a loop: the list b, written up to n, with one value more
  pub writes-step : (l : List A) (p : ℕ → ℕ) (v : ℕ → A) (n : ℕ) {b : List A} {i : ℕ} {x : A}
      → b ≡ writes l p v n → i ≡ p n → x ≡ v n → set b i x ≡ writes l p v (n + 1)
  unfolding writes
  writes-step l p v n {b} {i} {x} e f g =
      ap (λ c. set c i x) e ∙ ap₂ (set (writes l p v n)) f g ∙ ap (writes l p v) (sym (add-one n))

  -- a loop of loops: n stores, and then m more
  pub writes-join : (l : List A) (p : ℕ → ℕ) (v : ℕ → A) (n m : ℕ)
      → writes (writes l p v n) (λ k. p (n + k)) (λ k. v (n + k)) m ≡ writes l p v (n + m)
  unfolding writes
  writes-join l p v n zero = ap (writes l p v) (sym (add-zero n))
  writes-join l p v n (suc m) =
      ap (λ b. set b (p (n + m)) (v (n + m))) (writes-join l p v n m) ∙ ap (writes l p v) (sym (add-suc n m))

  -- one turn of such a loop: the list b, written up to n, with m values more
  pub writes_more : (l : List A) (p : ℕ → ℕ) (v : ℕ → A) (n m k : ℕ) {b c : List A}
      → b ≡ writes l p v n → c ≡ writes b (λ k. p (n + k)) (λ k. v (n + k)) m → n + m ≡ k → c ≡ writes l p v k
  writes_more l p v n m k e f g =
      f ∙ ap (λ b. writes b (λ k. p (n + k)) (λ k. v (n + k)) m) e ∙ writes-join l p v n m ∙ ap (writes l p v) g

  pub writes-cong : (l : List A) (p q : ℕ → ℕ) (v w : ℕ → A) (n : ℕ) → ((i : ℕ) → i < n → p i ≡ q i) → ((i : ℕ) → i < n → v i ≡ w i)
      → writes l p v n ≡ writes l q w n
  unfolding writes
  writes-cong l p q v w zero e f = refl
  writes-cong l p q v w (suc n) e f =
      ap (λ b. set b (p n) (v n)) (writes-cong l p q v w n (λ i h. e i (omega arith)) (λ i h. f i (omega arith)))
      ∙ ap₂ (set (writes l q w n)) (e n (omega arith)) (f n (omega arith))

  -- a place that is not written keeps its value
  pub writes-other : (d : A) (l : List A) (p : ℕ → ℕ) (v : ℕ → A) (n k : ℕ) → ((i : ℕ) → i < n → p i ≢ k)
      → get_or (writes l p v n) k d ≡ get_or l k d
  unfolding writes
  writes-other d l p v zero k h = refl
  writes-other d l p v (suc n) k h =
      get_or-set_other (writes l p v n) (p n) k (v n) d (λ e. h n (omega arith) (sym e))
      ∙ writes-other d l p v n k (λ i b. h i (omega arith))

  -- distinct places keep what is written there
  pub writes-same : (d : A) (l : List A) (p : ℕ → ℕ) (v : ℕ → A) (n : ℕ)
      → ((i j : ℕ) → i < n → j < n → p i ≡ p j → i ≡ j) → ((i : ℕ) → i < n → p i < length l)
      → (i : ℕ) → i < n → get_or (writes l p v n) (p i) d ≡ v i
  unfolding writes
  writes-same d l p v zero one in_List i h = absurd (not-suc-le-zero h)
  writes-same d l p v (suc n) one in_List i h =
      go (ℕ_discrete i n) (writes-same d l p v n (λ a b x y. one a b (omega arith) (omega arith)) (λ a x. in_List a (omega arith)) i)
    where
      go : Dec (i ≡ n) → (i < n → get_or (writes l p v n) (p i) d ≡ v i) → get_or (set (writes l p v n) (p n) (v n)) (p i) d ≡ v i
      go (yes e) rec =
          rw e (get_or-set_same (writes l p v n) (p n) (v n) d
          (subst (λ x. p n < x) (sym (length-writes l p v n)) (in_List n (omega arith))))
      go (no e) rec = get_or-set_other (writes l p v n) (p n) (p i) (v n) d (λ f. e (one i n h (omega arith) f)) ∙ rec (omega arith)

  -- the first N places don't depend on what stood beyond, or there, if they agreed before
  pub writes-agree : (d : A) (a b : List A) (p : ℕ → ℕ) (v : ℕ → A) (N n : ℕ) → N ≤ length a → N ≤ length b
      → ((i : ℕ) → i < n → p i < N) → ((k : ℕ) → k < N → get_or a k d ≡ get_or b k d)
      → (k : ℕ) → k < N → get_or (writes a p v n) k d ≡ get_or (writes b p v n) k d
  unfolding writes
  writes-agree d a b p v N zero la lb lt e k h = e k h
  writes-agree d a b p v N (suc n) la lb lt e k h =
      go (ℕ_discrete k (p n)) (writes-agree d a b p v N n la lb (λ i l. lt i (omega arith)) e k h)
    where
      room : (c : List A) → N ≤ length c → p n < length (writes c p v n)
      room c l = omega (arith, length-writes c p v n, lt n (omega arith))

      go : Dec (k ≡ p n) → get_or (writes a p v n) k d ≡ get_or (writes b p v n) k d
          → get_or (set (writes a p v n) (p n) (v n)) k d ≡ get_or (set (writes b p v n) (p n) (v n)) k d
      go (yes f) r =
          rw f (get_or-set_same (writes a p v n) (p n) (v n) d (room a la)
          ∙ sym (get_or-set_same (writes b p v n) (p n) (v n) d (room b lb)))
      go (no f) r =
          get_or-set_other (writes a p v n) (p n) k (v n) d f ∙ r ∙ sym (get_or-set_other (writes b p v n) (p n) k (v n) d f)
