-- The tables of codes and latch paths are right, by one computed test over the five sets and all bytes: what the encoder writes for a
-- byte is an entry that says this byte, after latches that lead to its set.
-- Assumes nothing.
use Rattle.std.specs.Prelude.{◌≡◌, Bool, true, false, not, ◌&&◌, ◌||◌, T, eqb, ltb, leb, length, get_or}
use Rattle.std.proofs.Math.Path.{refl, ap}
use Rattle.std.proofs.Common.{◌∙◌, subst, ⊎_elim, zero-lt-suc, le_of_suc-le-suc, not-suc-le-zero, arith, eqb→eq, ltb→lt, leb→le, T_not}
use Rattle.std.proofs.Math.Bool.{cond}
use mathlib.Core.List.{List, [], ◌∷◌}
use Prim.Native.Nat.{ℕ, zero, suc, ◌-◌, ◌^◌, ◌≤◌, ◌<◌, suc-le-suc}
use Rattle.list_laws.specs.Range.{all, all-at}
use Rattle.list_laws.specs.Tests.{both-parts, either}
use borrow.Author.Tests.{lt-ltb, ltb-true}
use Rattle.stream.specs.declared.codes.CodeSet.{CodeSet}
use Rattle.stream.specs.declared.codes.Entry.{Entry}
use Rattle.stream.specs.declared.codes.Entry.TheVariants.{Char, Pair, Latch, Shift, Binary, Flag, Missing}
use Rattle.stream.specs.Bits.{bits}
use Rattle.stream.specs.Codes.{set_number, chars, table, row, entry, width, position, is_char, code_of, has, home, coded}
use Rattle.stream.specs.Latches.{paths, path, is_latch, latch_code, path_bits, latch_bits}
use Rattle.stream.specs.Stream.{target, run_set}

-- the latches of a path lead from set s to set t
abbrev pub leads : ℕ → List ℕ → ℕ → Bool
leads s [] t = eqb s t
leads s (u ∷ us) t = is_latch u (entry s (latch_code s u)) && ltb (latch_code s u) (2 ^ width s) && leads u us t

abbrev pub is_binary : Entry → Bool
is_binary (Char b) = false
is_binary (Pair b c) = false
is_binary (Latch t) = false
is_binary (Shift t) = false
is_binary Binary = true
is_binary Flag = false
is_binary Missing = false

-- a run from set s: at most 5 bits of latches lead to a set of 5 bits a code with B/S at 31
pub run_right : ℕ → Bool
run_right s =
    let t = run_set s in
    ltb t 5 && leads s (path s t) t && leb (length (latch_bits s t)) 5 && eqb (width t) 5 && is_binary (entry t 31)

-- a byte b from set s: at most 14 bits of latches lead to a set with b at a code that has a 0
pub char_right : ℕ → ℕ → Bool
char_right s b =
    let t = target s b in
    let c = code_of t b in
    not (coded b) || (ltb t 5 && leads s (path s t) t && leb (length (latch_bits s t)) 14 && is_char b (entry t c) && ltb c (2 ^ width t - 1))

pub codes-right : T (all 5 (λ s. run_right s && all 256 (λ b. char_right s b)))
unfolding all run_right char_right target run_set chars table row entry width position code_of has home coded
    paths path latch_code path_bits latch_bits bits
codes-right = tt

-- the path ts leads from set s to set t, a latch at a time
abbrev pub Leads : ℕ → List ℕ → ℕ → Type 0
Leads s [] t = s ≡ t
Leads s (u ∷ us) t = ((v : CodeSet) × (set_number v ≡ u) × (entry s (latch_code s u) ≡ Latch v)) × (latch_code s u < 2 ^ width s) × Leads u us t

is-char : (b : ℕ) (e : Entry) → T (is_char b e) → e ≡ Char b
is-char b (Char x) h = ap Char (eqb→eq x b h)
is-char b (Pair x y) h = absurd h
is-char b (Latch t) h = absurd h
is-char b (Shift t) h = absurd h
is-char b Binary h = absurd h
is-char b Flag h = absurd h
is-char b Missing h = absurd h

-- latches and shifts lead to sets
abbrev turn_right : Entry → Bool
turn_right (Char b) = true
turn_right (Pair b c) = true
turn_right (Latch t) = ltb (set_number t) 5
turn_right (Shift t) = ltb (set_number t) 5
turn_right Binary = true
turn_right Flag = true
turn_right Missing = true

turns-right : T (all 5 (λ s. all 32 (λ c. turn_right (entry s c))))
unfolding all chars table row entry
turns-right = tt

turn-right : (s c : ℕ) → s < 5 → c < 32 → T (turn_right (entry s c))
turn-right s c h g = all-at 32 (λ c. turn_right (entry s c)) (all-at 5 (λ s. all 32 (λ c. turn_right (entry s c))) turns-right s h) c g

pub latch-set : (s c : ℕ) (t : CodeSet) → s < 5 → c < 32 → entry s c ≡ Latch t → set_number t < 5
latch-set s c t h g e = ltb→lt (set_number t) 5 (subst (λ x. T (turn_right x)) e (turn-right s c h g))

pub shift-set : (s c : ℕ) (t : CodeSet) → s < 5 → c < 32 → entry s c ≡ Shift t → set_number t < 5
shift-set s c t h g e = ltb→lt (set_number t) 5 (subst (λ x. T (turn_right x)) e (turn-right s c h g))

is-latch : (t : ℕ) (e : Entry) → T (is_latch t e) → (v : CodeSet) × (set_number v ≡ t) × (e ≡ Latch v)
is-latch t (Char x) h = absurd h
is-latch t (Pair x y) h = absurd h
is-latch t (Latch u) h = (u, eqb→eq (set_number u) t h, refl)
is-latch t (Shift u) h = absurd h
is-latch t Binary h = absurd h
is-latch t Flag h = absurd h
is-latch t Missing h = absurd h

is-binary : (e : Entry) → T (is_binary e) → e ≡ Binary
is-binary (Char b) h = absurd h
is-binary (Pair b c) h = absurd h
is-binary (Latch t) h = absurd h
is-binary (Shift t) h = absurd h
is-binary Binary h = refl
is-binary Flag h = absurd h
is-binary Missing h = absurd h

it-leads : (us : List ℕ) (s t : ℕ) → T (leads s us t) → Leads s us t
it-leads [] s t h = eqb→eq s t h
it-leads (u ∷ us) s t h =
    let p = both-parts (is_latch u (entry s (latch_code s u)) && ltb (latch_code s u) (2 ^ width s)) (leads u us t) h in
    let q = both-parts (is_latch u (entry s (latch_code s u))) (ltb (latch_code s u) (2 ^ width s)) p.0 in
    (is-latch u (entry s (latch_code s u)) q.0, ltb→lt (latch_code s u) (2 ^ width s) q.1, it-leads us u t p.1)

five-parts : (a b c d e : Bool) → T (a && b && c && d && e) → T a × T b × T c × T d × T e
five-parts true b c d e t =
    let x = both-parts (b && c && d) e t in
    let y = both-parts (b && c) d x.0 in
    let z = both-parts b c y.0 in
    (tt, z.0, z.1, y.1, x.1)
five-parts false b c d e t = absurd t

set-right : (s : ℕ) → s < 5 → T (run_right s) × T (all 256 (λ b. char_right s b))
set-right s h =
    both-parts (run_right s) (all 256 (λ b. char_right s b)) (all-at 5 (λ s. run_right s && all 256 (λ b. char_right s b)) codes-right s h)

-- what the encoder relies on for a part of a run, written from set s in set t
pub record RunFacts (s t : ℕ) : Type 0 where
  pub set : t < 5
  pub leads : Leads s (path s t) t
  pub near : length (latch_bits s t) ≤ 5
  pub wide : width t ≡ 5
  pub says : entry t 31 ≡ Binary

pub run-facts : (s : ℕ) → s < 5 → RunFacts s (run_set s)
unfolding run_right
run-facts s h =
    let t = run_set s in
    let near = leb (length (latch_bits s t)) 5 in
    let p = five-parts (ltb t 5) (leads s (path s t) t) near (eqb (width t) 5) (is_binary (entry t 31)) (set-right s h).0 in
    record {
      set = ltb→lt t 5 p.0;
      leads = it-leads (path s t) s t p.1;
      near = leb→le (length (latch_bits s t)) 5 p.2;
      wide = eqb→eq (width t) 5 p.3;
      says = is-binary (entry t 31) p.4;
    }

-- what it relies on for a byte b, written from set s in set t by code c
pub record CharFacts (s b t c : ℕ) : Type 0 where
  pub set : t < 5
  pub leads : Leads s (path s t) t
  pub near : length (latch_bits s t) ≤ 14
  pub says : entry t c ≡ Char b
  pub uneven : c < 2 ^ width t - 1

pub char-facts : (s b : ℕ) → s < 5 → b < 256 → T (coded b) → CharFacts s b (target s b) (code_of (target s b) b)
unfolding char_right
char-facts s b h g k =
    let t = target s b in
    let c = code_of t b in
    let near = leb (length (latch_bits s t)) 14 in
    let right : Bool = ltb t 5 && leads s (path s t) t && near && is_char b (entry t c) && ltb c (2 ^ width t - 1) in
    let test = either (not (coded b)) right (all-at 256 (λ b. char_right s b) (set-right s h).1 b g) in
    let passed : T right = ⊎_elim (λ n. absurd (T_not (coded b) n k)) (λ y. y) test in
    let p = five-parts (ltb t 5) (leads s (path s t) t) near (is_char b (entry t c)) (ltb c (2 ^ width t - 1)) passed in
    record {
      set = ltb→lt t 5 p.0;
      leads = it-leads (path s t) s t p.1;
      near = leb→le (length (latch_bits s t)) 14 p.2;
      says = is-char b (entry t c) p.3;
      uneven = ltb→lt c (2 ^ width t - 1) p.4;
    }

pub width-bounds : (s : ℕ) → (4 ≤ width s) × (width s ≤ 5)
unfolding width
width-bounds s = go (eqb s 4)
  where
    go : (t : Bool) → (4 ≤ cond t 4 5) × (cond t 4 5 ≤ 5)
    go true = omega arith
    go false = omega arith

-- a search of a list from the front
module _ {A : Type 0} (p : A → Bool) (d : A) where
  pub position_at : (xs : List A) (i : ℕ) → i < length xs → p (get_or xs i d) ≡ true
      → ((j : ℕ) → j < i → p (get_or xs j d) ≡ false) → position p xs ≡ i
  unfolding position
  position_at [] i h e f = absurd (not-suc-le-zero h)
  position_at (x ∷ xs) zero h e f = ap (λ t. cond t 0 (suc (position p xs))) e
  position_at (x ∷ xs) (suc i) h e f =
      ap (λ t. cond t 0 (suc (position p xs))) (f zero (zero-lt-suc i))
      ∙ ap suc (position_at xs i (le_of_suc-le-suc h) e (λ j g. f (suc j) (suc-le-suc g)))

  pub position-none : (xs : List A) → ((j : ℕ) → j < length xs → p (get_or xs j d) ≡ false) → position p xs ≡ length xs
  unfolding position
  position-none [] f = refl
  position-none (x ∷ xs) f =
      ap (λ t. cond t 0 (suc (position p xs))) (f zero (zero-lt-suc (length xs)))
      ∙ ap suc (position-none xs (λ j g. f (suc j) (suc-le-suc g)))

  pub position-passes : (xs : List A) → position p xs < length xs → p (get_or xs (position p xs) d) ≡ true
  unfolding position
  position-passes [] h = absurd (not-suc-le-zero h)
  position-passes (x ∷ xs) h = go (p x) refl h (position-passes xs)
    where
      go : (t : Bool) → p x ≡ t → cond t 0 (suc (position p xs)) < suc (length xs)
          → (position p xs < length xs → p (get_or xs (position p xs) d) ≡ true)
          → p (get_or (x ∷ xs) (cond t 0 (suc (position p xs))) d) ≡ true
      go true e g f = e
      go false e g f = f (omega arith)

  pub position-first : (xs : List A) (i : ℕ) → i < length xs → p (get_or xs i d) ≡ true → position p xs ≤ i
  unfolding position
  position-first [] i h e = absurd (not-suc-le-zero h)
  position-first (x ∷ xs) zero h e = omega (arith, ap (λ t. cond t 0 (suc (position p xs))) e)
  position-first (x ∷ xs) (suc i) h e = go (p x) (position-first xs i (le_of_suc-le-suc h) e)
    where
      go : (t : Bool) → position p xs ≤ i → cond t 0 (suc (position p xs)) ≤ suc i
      go true f = omega arith
      go false f = omega arith

-- a byte with a code in a set is coded, and its first set has it
pub coded-in : (s b : ℕ) → s < 5 → code_of s b < 32 → coded b ≡ true
unfolding coded home code_of row table
coded-in s b h c =
    lt-ltb (home b) 5
    (omega (arith, position-first (λ r. ltb (position (is_char b) r) 32) [] table s h (lt-ltb (code_of s b) 32 c)))

pub home-code : (b : ℕ) → home b < 5 → code_of (home b) b < 32
unfolding home code_of row table
home-code b h = ltb-true (code_of (home b) b) 32 (position-passes (λ r. ltb (position (is_char b) r) 32) [] table h)
