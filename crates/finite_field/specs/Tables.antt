-- The tables of powers and logarithms of each word size. One computed test over the whole table of logarithms, with no two powers
-- below the order alike, gives that x generates the field, and so the product rule at every entry.
-- Assumes nothing.
use Rattle.std.specs.Prelude.{◌≡◌, Bool, not, ◌&&◌, List, [], ◌∷◌, T, ltb, eqb, length, drop}
use Rattle.std.proofs.Math.Path.{refl, sym, ap}
use Rattle.std.proofs.Common.{◌∙◌, subst, not-suc-le-zero, le_of_suc-le-suc, sub-add_cancel, pow-suc, T_not, lt-ltb, le-ltb}
use Prim.Native.Nat.{ℕ, zero, suc, ◌+◌, ◌-◌, ◌*◌, ◌^◌, ◌≤◌, ◌<◌}
use Rattle.std.proofs.Math.Numerals.{one-add}
use native.Mathlib.Omega.{arith}
use Rattle.std.proofs.Math.Decide.{dec_lt}
use Rattle.std.proofs.Math.Dec.{eqb→eq, ltb→lt}
use Rattle.std.proofs.Math.Arith.{lt-one}
use Rattle.std.proofs.Math.Pow.{ones_lt}
use Rattle.std.proofs.Math.ListN.{get_or}
use Rattle.list_laws.specs.Tests.{both-parts}
use Rattle.list_laws.specs.Table.{every, every-from}
use Rattle.finite_field.specs.Tree.{Tree, leaf, node, look, put, blank, leaves}
use Rattle.finite_field.specs.Field.{WordSize, w4, w6, w8, w10, w12, bits, poly, power, times_x, shift}
use Rattle.finite_field.specs.ProductLaws.{shift-add}
use Rattle.finite_field.specs.Generator.{Generated}

-- two lists are the tables of a word size: what a function that is lent them is told
pub record Tables (s : WordSize) (exp log : List ℕ) : Type 0 where
  pub exp-length : length exp ≡ 2 ^ bits s
  pub log-length : length log ≡ 2 ^ bits s
  pub exp-at : (k : ℕ) → k < 2 ^ bits s → get_or exp k 0 ≡ power s k
  pub log-lt : (a : ℕ) → 0 < a → a < 2 ^ bits s → get_or log a 0 < 2 ^ bits s - 1
  pub power-log : (a : ℕ) → 0 < a → a < 2 ^ bits s → power s (get_or log a 0) ≡ a

twice : (d : ℕ) → 2 ^ suc d ≡ 2 ^ d + 2 ^ d
twice d = let e : 2 ^ suc d ≡ 2 ^ d * 2 = pow-suc 2 d in omega arith

module _ (b p : ℕ) where
  -- a, x a, x x a, ..: n of them
  abbrev pub powers_from : ℕ → ℕ → List ℕ
  powers_from zero a = []
  powers_from (suc n) a = a ∷ powers_from n (times_x b p a)

  shift-times_x : (k a : ℕ) → shift b p k (times_x b p a) ≡ shift b p (suc k) a
  unfolding shift
  shift-times_x zero a = refl
  shift-times_x (suc k) a = ap (times_x b p) (shift-times_x k a)

  powers_from-at : (n a k : ℕ) → k < n → get_or (powers_from n a) k 0 ≡ shift b p k a
  unfolding shift
  powers_from-at zero a k h = absurd (not-suc-le-zero h)
  powers_from-at (suc n) a zero h = refl
  powers_from-at (suc n) a (suc k) h = powers_from-at n (times_x b p a) k (le_of_suc-le-suc h) ∙ shift-times_x k a

  powers_from-length : (n a : ℕ) → length (powers_from n a) ≡ n
  powers_from-length zero a = refl
  powers_from-length (suc n) a = ap suc (powers_from-length n (times_x b p a))

  -- the tree of 2 ^ d of them, and the one after
  abbrev grow : ℕ → ℕ → Tree × ℕ
  grow zero a = (leaf a, times_x b p a)
  grow (suc d) a =
      let (l, c) = grow d a in
      let (r, e) = grow d c in
      (node (2 ^ d) l r, e)

  grow-end : (d a : ℕ) → (grow d a).1 ≡ shift b p (2 ^ d) a
  unfolding shift
  grow-end zero a = refl
  grow-end (suc d) a =
      grow-end d (grow d a).1
      ∙ ap (shift b p (2 ^ d)) (grow-end d a)
      ∙ sym (shift-add b p (2 ^ d) (2 ^ d) a)
      ∙ ap (λ (n : ℕ). shift b p n a) (sym (twice d))

  -- one level of the tree, from the level below
  grow-step : (d a i : ℕ) → ((c k : ℕ) → k < 2 ^ d → look (grow d c).0 k ≡ shift b p k c) → i < 2 ^ suc d → Dec (i < 2 ^ d)
      → look (grow (suc d) a).0 i ≡ shift b p i a
  grow-step d a i ih h (yes k) = rw (lt-ltb i (2 ^ d) k) (ih a i k)
  grow-step d a i ih h (no k) =
      let m : 2 ^ d ≤ i = omega arith in
      let t : 2 ^ suc d ≡ 2 ^ d + 2 ^ d = twice d in
      rw (le-ltb i (2 ^ d) m)
      (ih (grow d a).1 (i - 2 ^ d) (omega arith)
      ∙ ap (shift b p (i - 2 ^ d)) (grow-end d a)
      ∙ sym (shift-add b p (i - 2 ^ d) (2 ^ d) a)
      ∙ ap (λ (n : ℕ). shift b p n a) (sub-add_cancel m))

  grow-look : (d a i : ℕ) → i < 2 ^ d → look (grow d a).0 i ≡ shift b p i a
  unfolding shift
  grow-look zero a i h = rw (lt-one h)
  grow-look (suc d) a i h = grow-step d a i (λ c k. grow-look d c k) h (dec_lt i (2 ^ d))

  -- the logarithms: each exponent is put at its power. How they come about is not proved: the test below is enough
  abbrev fill_logs : ℕ → ℕ → ℕ → Tree → Tree
  fill_logs zero k a t = t
  fill_logs (suc n) k a t = fill_logs n (suc k) (times_x b p a) (put t a k)

  abbrev pub logs_from_one : List ℕ
  logs_from_one = drop 1 (leaves (fill_logs (2 ^ b - 1) 0 1 (blank b)) [])

  -- entry a is below the order, and that power of x is a
  unfoldable log_right : Tree → ℕ → ℕ → Bool
  log_right t a x = ltb x (2 ^ b - 1) && eqb (look t x) a

unfoldable not_one : ℕ → ℕ → Bool
not_one k a = not (eqb a 1)

-- the test of a table of logarithms from that of 1 on
module _ (b p : ℕ) (log : List ℕ) where
  abbrev test : Bool
  test =
      ltb 1 (2 ^ b)
      && (ltb p (2 ^ b)
      && (eqb (suc (length log)) (2 ^ b)
      && (eqb (look (grow b p b 1).0 (2 ^ b - 1)) 1
      && (every (log_right b p (grow b p b 1).0) 1 log && every not_one 1 (powers_from b p (2 ^ b - 2) (times_x b p 1))))))

  record Tested : Type 0 where
    one : T (ltb 1 (2 ^ b))
    poly : T (ltb p (2 ^ b))
    size : T (eqb (suc (length log)) (2 ^ b))
    order : T (eqb (look (grow b p b 1).0 (2 ^ b - 1)) 1)
    logs : T (every (log_right b p (grow b p b 1).0) 1 log)
    others : T (every not_one 1 (powers_from b p (2 ^ b - 2) (times_x b p 1)))

  passed : T test → Tested
  passed t =
      let r1 = both-parts (ltb 1 (2 ^ b)) _ t in
      let r2 = both-parts (ltb p (2 ^ b)) _ r1.1 in
      let r3 = both-parts (eqb (suc (length log)) (2 ^ b)) _ r2.1 in
      let r4 = both-parts (eqb (look (grow b p b 1).0 (2 ^ b - 1)) 1) _ r3.1 in
      let r5 = both-parts (every (log_right b p (grow b p b 1).0) 1 log) _ r4.1 in
      record { one = r1.0; poly = r2.0; size = r3.0; order = r4.0; logs = r5.0; others = r5.1 }

module _ (b p : ℕ) (log : List ℕ) (t : Tested b p log) where
  size_is : suc (length log) ≡ 2 ^ b
  size_is = eqb→eq (suc (length log)) (2 ^ b) t.size

  tree-at : (i : ℕ) → i < 2 ^ b → look (grow b p b 1).0 i ≡ shift b p i 1
  tree-at i h = grow-look b p b 1 i h

  logs-right : (a : ℕ) → a < length log → (get_or log a 0 < 2 ^ b - 1) × (shift b p (get_or log a 0) 1 ≡ suc a)
  unfolding log_right
  logs-right a h =
      let parts =
      both-parts (ltb (get_or log a 0) (2 ^ b - 1)) (eqb (look (grow b p b 1).0 (get_or log a 0)) (1 + a))
      (every-from (log_right b p (grow b p b 1).0) 0 log 1 t.logs a h) in
      let l : get_or log a 0 < 2 ^ b - 1 = ltb→lt (get_or log a 0) (2 ^ b - 1) parts.0 in (
        l,
        sym (tree-at (get_or log a 0) (omega arith))
            ∙ eqb→eq (look (grow b p b 1).0 (get_or log a 0)) (1 + a) parts.1
            ∙ one-add a,
      )

  log-of : (a : ℕ) → 0 < a → a < 2 ^ b → (get_or (0 ∷ log) a 0 < 2 ^ b - 1) × (shift b p (get_or (0 ∷ log) a 0) 1 ≡ a)
  log-of zero h k = absurd (not-suc-le-zero h)
  log-of (suc a) h k = logs-right a (le_of_suc-le-suc (subst (λ (n : ℕ). suc a < n) (sym size_is) k))

  least : (k : ℕ) → k < 2 ^ b - 1 → shift b p k 1 ≡ 1 → k ≡ 0
  unfolding not_one
  least zero h e = refl
  least (suc k) h e =
      let below : k < 2 ^ b - 2 = omega arith in
      let others = powers_from b p (2 ^ b - 2) (times_x b p 1) in
      let is : get_or others k 0 ≡ 1 = powers_from-at b p (2 ^ b - 2) (times_x b p 1) k below ∙ shift-times_x b p k 1 ∙ e in
      absurd
      (T_not (eqb (get_or others k 0) 1)
      (every-from not_one 0 others 1 t.others k (subst (λ (n : ℕ). k < n) (sym (powers_from-length b p (2 ^ b - 2) (times_x b p 1))) below))
      (rw is tt))

  generated-by : Generated b p
  generated-by =
      record {
        one-lt = ltb→lt 1 (2 ^ b) t.one;
        poly-lt = ltb→lt p (2 ^ b) t.poly;
        order = sym (tree-at (2 ^ b - 1) (ones_lt b)) ∙ eqb→eq (look (grow b p b 1).0 (2 ^ b - 1)) 1 t.order;
        order_least = least;
        log = λ a. get_or (0 ∷ log) a 0;
        log-lt = λ a h k. (log-of a h k).0;
        power-log = λ a h k. (log-of a h k).1;
      }

-- the test, computed for each size
tests : (s : WordSize) → T (test (bits s) (poly s) (logs_from_one (bits s) (poly s)))
unfolding times_x log_right not_one
tests w4 = tt
tests w6 = tt
tests w8 = tt
tests w10 = tt
tests w12 = tt

tested : (s : WordSize) → Tested (bits s) (poly s) (logs_from_one (bits s) (poly s))
tested s = passed (bits s) (poly s) (logs_from_one (bits s) (poly s)) (tests s)

-- x generates the field of each size
pub generated : (s : WordSize) → Generated (bits s) (poly s)
generated s = generated-by (bits s) (poly s) (logs_from_one (bits s) (poly s)) (tested s)

unfoldable pub powers : WordSize → List ℕ
powers s = powers_from (bits s) (poly s) (2 ^ bits s) 1

-- 0 has no logarithm; its entry is 0
unfoldable pub logs : WordSize → List ℕ
logs s = 0 ∷ logs_from_one (bits s) (poly s)

pub tables : (s : WordSize) → Tables s (powers s) (logs s)
unfolding powers logs
tables s =
    record {
      exp-length = powers_from-length (bits s) (poly s) (2 ^ bits s) 1;
      log-length = eqb→eq _ _ (tested s).size;
      exp-at = powers_from-at (bits s) (poly s) (2 ^ bits s) 1;
      log-lt = λ a h k. (log-of (bits s) (poly s) (logs_from_one (bits s) (poly s)) (tested s) a h k).0;
      power-log = λ a h k. (log-of (bits s) (poly s) (logs_from_one (bits s) (poly s)) (tested s) a h k).1;
    }

-- what is a copy of the tables serves as them
pub tables-of : (s : WordSize) {exp log : List ℕ} → exp ≡ powers s → log ≡ logs s → Tables s exp log
tables-of s {exp} {log} e l = subst (λ (x : List ℕ). Tables s x log) (sym e) (subst (Tables s (powers s)) (sym l) (tables s))
