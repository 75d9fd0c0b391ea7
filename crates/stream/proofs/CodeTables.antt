-- The tables that the code keeps are the definitions': entries and a search of a row for a byte, first sets, and latch paths.
-- Assumes nothing.
use Rattle.std.specs.Prelude.{Option, Some, None, MatchOption, nat_lt, IsTrue, ◌↔◌}
use Rattle.std.specs.List as list
use Rattle.std.proofs.lemmas.List.{get_or_default}
use Rattle.std.proofs.lemmas.List.Recursion.{is_position_or_len}
use Rattle.std.proofs.Common.{one-add}
use mathlib.Core.Path.{◌≡◌, refl, sym, ap, ◌∙◌, subst}
use mathlib.Core.Bool.{Bool, true, false, cond, ◌&&◌}
use mathlib.Core.List.{List, [], ◌∷◌}
use Prim.Native.Nat.{ℕ, suc, ◌≤◌, ◌<◌}
use native.Mathlib.Omega.{arith}
use lib.Dec.{T, eqb, ltb, eqb→eq, ltb→lt}
use lib.ListN.{length, get_or}
use borrow.Author.Tests.{ltb-true, ltb-false, eq-eqb, ne_eqb}
use Rattle.list_laws.specs.Range.{all, all-at}
use Rattle.list_laws.specs.Tests.{both-parts}
use Rattle.stream.specs.declared.codes.CodeSet.{CodeSet}
use Rattle.stream.specs.declared.codes.Entry.{Entry}
use Rattle.stream.specs.declared.codes.Entry.TheVariants.{Char, Pair, Latch, Shift, Binary, Flag, Missing}
use Rattle.stream.specs.declared.codes.TheConstants.{HOMES, LATCHES}
use Rattle.stream.specs.Bits.{bits, value}
use Rattle.stream.specs.Codes.{set_number, chars, table, row, entry, width, position, is_char, code_of, home}
use Rattle.stream.specs.Latches.{paths, path, latch_code, path_bits, latch_bits}
use Rattle.stream.specs.StreamLength.{latch-number}

rows_right : T (all 5 (λ s. eqb (length (row s)) 32))
unfolding all chars table row
rows_right = tt

row-length : (s : ℕ) → s < 5 → length (row s) ≡ 32
row-length s h = eqb→eq (length (row s)) 32 (all-at 5 (λ s. eqb (length (row s)) 32) rows_right s h)

pub entry-in : (s c : ℕ) → s < 5 → c < 32 → get_or (get_or table s []) c (Char 0) ≡ entry s c
unfolding entry row
entry-in s c h g = get_or_default (row s) c (Char 0) Missing (omega (arith, row-length s h))

-- a search of a row from the front
module _ (p : Entry → Bool) where
  position-is : (xs : List Entry) → position p xs ≡ list.position_or_len p xs
  unfolding position
  position-is = is_position_or_len (position p) p refl (λ x xs. ap (cond (p x) 0) (sym (one-add (position p xs))))

  position-most : (xs : List Entry) → position p xs ≤ length xs
  unfolding position
  position-most [] = omega arith
  position-most (x ∷ xs) = go (p x) (position p xs) (position-most xs)
    where
      go : (t : Bool) (n : ℕ) → n ≤ length xs → cond t 0 (suc n) ≤ suc (length xs)
      go true n h = omega arith
      go false n h = omega arith

-- b's place among the characters' tests
pub char-test : (b : ℕ) (e : Entry) (t : Bool) → (IsTrue t ↔ (e ≡ Char b)) → t ≡ is_char b e
char-test b e true h = sym (ap (is_char b) (h.0 refl) ∙ eq-eqb b b refl)
char-test b e false h = go e h.1
  where
    go : (e : Entry) → (e ≡ Char b → IsTrue false) → false ≡ is_char b e
    go (Char x) f = sym (ne_eqb x b (λ p. let e : false ≡ true = f (ap Char p) in cc))
    go (Pair x y) f = refl
    go (Latch t) f = refl
    go (Shift t) f = refl
    go Binary f = refl
    go Flag f = refl
    go Missing f = refl

-- finds b's code, or none
pub code-found : (s b : ℕ) → s < 5 → (r : Option ℕ) → r ≡ list.position (is_char b) (row s)
    → MatchOption r (code_of s b ≡ 32) (λ c. (c ≡ code_of s b) × (c < 32))
unfolding code_of
code-found s b h r e =
    subst (λ r. MatchOption r (n ≡ 32) (λ c. (c ≡ n) × (c < 32))) (sym (e ∙ shown)) (go (nat_lt n 32) refl)
  where
    n : ℕ
    n = position (is_char b) (row s)

    shown : list.position (is_char b) (row s) ≡ cond (nat_lt n 32) (Some n) None
    shown = rw (sym (position-is (is_char b) (row s)), row-length s h) refl

    go : (t : Bool) → nat_lt n 32 ≡ t → MatchOption (cond t (Some n) None) (n ≡ 32) (λ c. (c ≡ n) × (c < 32))
    go true f = (refl, ltb-true n 32 f)
    go false f = omega (arith, ltb-false n 32 f, position-most (is_char b) (row s), row-length s h)

-- the first set of b and its code there, or none
abbrev homed : Option (CodeSet × ℕ) → ℕ → Bool
homed (Some h) b = eqb (set_number h.0) (home b) && eqb h.1 (code_of (home b) b)
homed None b = eqb (home b) 5

homes-right : T (all 256 (λ b. homed (get_or HOMES b None) b))
unfolding all chars table row position code_of home
homes-right = tt

pub home_at : (b : ℕ) → b < 256
    → MatchOption (get_or HOMES b None) (home b ≡ 5) (λ h. (set_number h.0 ≡ home b) × (h.1 ≡ code_of (home b) b))
home_at b h = go (get_or HOMES b None) (all-at 256 (λ b. homed (get_or HOMES b None) b) homes-right b h)
  where
    go : (o : Option (CodeSet × ℕ)) → T (homed o b) → MatchOption o (home b ≡ 5) (λ h. (set_number h.0 ≡ home b) × (h.1 ≡ code_of (home b) b))
    go (Some h) t =
        let p = both-parts (eqb (set_number h.0) (home b)) (eqb h.1 (code_of (home b) b)) t in
        (eqb→eq (set_number h.0) (home b) p.0, eqb→eq h.1 (code_of (home b) b) p.1)
    go None t = eqb→eq (home b) 5 t

-- a path's number and how many bits it is
abbrev path_right : ℕ → ℕ → ℕ × ℕ → Bool
path_right s t p = eqb p.1 (length (latch_bits s t)) && eqb p.0 (value 0 (latch_bits s t)) && ltb p.1 15

latches-right : T (all 5 (λ s. all 5 (λ t. path_right s t (get_or (get_or LATCHES s []) t (0, 0)))))
unfolding all chars table row width position paths path latch_code path_bits latch_bits bits value
latches-right = tt

pub latch_at : (s t : ℕ) → s < 5 → t < 5 → (let p = get_or (get_or LATCHES s []) t (0, 0) in (latch_bits s t ≡ bits p.1 p.0) × (p.1 < 15))
latch_at s t h g =
    let p = get_or (get_or LATCHES s []) t (0, 0) in
    let from = all-at 5 (λ s. all 5 (λ t. path_right s t (get_or (get_or LATCHES s []) t (0, 0)))) latches-right s h in
    let right = all-at 5 (λ t. path_right s t (get_or (get_or LATCHES s []) t (0, 0))) from t g in
    let size = eqb p.1 (length (latch_bits s t)) in
    let said = eqb p.0 (value 0 (latch_bits s t)) in
    let x = both-parts (size && said) (ltb p.1 15) right in
    let y = both-parts size said x.0 in (
      latch-number s t p.1 p.0 (sym (eqb→eq p.1 (length (latch_bits s t)) y.0)) (sym (eqb→eq p.0 (value 0 (latch_bits s t)) y.1)),
      ltb→lt p.1 15 x.1,
    )
