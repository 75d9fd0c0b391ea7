-- What the encoder's functions find of a byte, and the bits that their calls write one after the other.
-- Assumes nothing.
use Rattle.std.specs.Prelude.{Option, Some, None, MatchOption, is_some, not}
use Rattle.std.specs.List.{prefix_len}
use borrow.Author.Tests.{lt-ltb, le-ltb, le-leb}
use mathlib.Core.Path.{◌≡◌, refl, sym, ap, ap₂, ◌∙◌, subst}
use mathlib.Core.Bool.{Bool, true, false, cond}
use mathlib.Core.List.{List, [], ◌∷◌, ◌++◌, append_assoc, append-nil}
use Prim.Native.Nat.{ℕ, suc, ◌+◌, ◌-◌, ◌≤◌, ◌<◌}
use native.Mathlib.Omega.{arith}
use native.Mathlib.Numerals.{add-one}
use lib.ListN.{length, get_or, take, drop, length-drop}
use lib.Seq.{take-suc, length-take-le}
use Rattle.stream.specs.declared.codes.CodeSet.{CodeSet}
use Rattle.stream.specs.Bits.{bits, length-bits}
use Rattle.stream.specs.Codes.{set_number, set-number-below, width, code_of, has, home, coded}
use Rattle.stream.specs.Latches.{latch_bits}
use Rattle.stream.specs.Stream.{target, char_bits, run_length, run_set, count_bits, bytes_bits, binary_bits, part_bits, stream_from, next_part}
use Rattle.stream.specs.StreamLaws.{run-most, run-more-at, stream-char-at, stream-part-at}
use Rattle.stream.specs.StreamLength.{length-bytes}
use Rattle.stream_writer.specs.declared.stuffing.Out.{Out}
use Rattle.stream_writer.specs.Writing.{Coded, Wrote}
use Rattle.stream_writer.specs.Encoding.{coded-count, Turned}

-- by the first set that has it
pub coded-no : (b : ℕ) → home b ≡ 5 → coded b ≡ false
unfolding coded
coded-no b e = le-ltb (home b) 5 (omega (arith, e))

pub coded-by : (b : ℕ) (o : Option (CodeSet × ℕ)) → MatchOption o (home b ≡ 5) (λ h. (set_number h.0 ≡ home b) × (h.1 ≡ code_of (home b) b))
    → coded b ≡ is_some o
unfolding coded
coded-by b (Some h) e = lt-ltb (home b) 5 (omega (arith, e.0, set-number-below h.0))
coded-by b None e = coded-no b e

-- a run's bytes are those before the first that some set has
pub run-prefix : (m : List ℕ) → run_length m ≡ prefix_len (λ b. not (coded b)) m
unfolding run_length
run-prefix [] = refl
run-prefix (b ∷ m) = go (coded b) (run-prefix m)
  where
    go : (t : Bool) → run_length m ≡ prefix_len (λ b. not (coded b)) m
        → cond t 0 (suc (run_length m)) ≡ cond (not t) (1 + prefix_len (λ b. not (coded b)) m) 0
    go true e = refl
    go false e = omega (arith, e)

pub target-here : (s b : ℕ) → code_of s b < 32 → s ≡ target s b
unfolding target has
target-here s b h = sym (ap (λ t. cond t s (home b)) (lt-ltb (code_of s b) 32 h))

pub target-home : (s b : ℕ) → code_of s b ≡ 32 → home b ≡ target s b
unfolding target has
target-home s b h = sym (ap (λ t. cond t s (home b)) (le-ltb (code_of s b) 32 (omega (arith, h))))

pub char-by : (s b t c : ℕ) → t ≡ target s b → c ≡ code_of t b → latch_bits s t ++ bits (width t) c ≡ char_bits s b
unfolding char_bits
char-by s b t c e f = ap (λ c. latch_bits s t ++ bits (width t) c) f ∙ ap (λ t. latch_bits s t ++ bits (width t) (code_of t b)) e

bytes-append : (p q : List ℕ) → bytes_bits (p ++ q) ≡ bytes_bits p ++ bytes_bits q
unfolding bytes_bits
bytes-append [] q = refl
bytes-append (b ∷ p) q = ap (λ l. bits 8 b ++ l) (bytes-append p q) ∙ sym (append_assoc (bits 8 b) (bytes_bits p) (bytes_bits q))

-- one byte more
module _ (l : List ℕ) where
  pub bytes-more : (j : ℕ) → j < length l → bytes_bits (take j l) ++ bits 8 (get_or l j 0) ≡ bytes_bits (take (j + 1) l)
  unfolding bytes_bits
  bytes-more j inside =
      ap (λ b. bytes_bits (take j l) ++ b) (sym (append-nil (bits 8 (get_or l j 0))))
      ∙ sym (bytes-append (take j l) (get_or l j 0 ∷ []))
      ∙ ap bytes_bits (sym (take-suc l j 0 inside) ∙ ap (λ n. take n l) (sym (add-one j)))

  pub bytes_count : (j : ℕ) {h n k v n' k' v' : ℕ} {a a' : List ℕ} → 1 ≤ h → j ≤ length l → j ≤ 31
      → Coded h (bytes_bits (take j l)) n k v a n' k' v' a' → n' ≤ n + 249
  bytes_count j g s e c = omega (arith, coded-count g c, length-bytes (take j l), length-take-le j l s)

-- a part of at most 31 bytes
pub part_by : (s t n x : ℕ) (l : List ℕ) → t ≡ run_set s → latch_bits s t ≡ bits n x → length l ≤ 31
    → bits n x ++ (bits 5 31 ++ (bits 5 (length l) ++ bytes_bits l)) ≡ part_bits s l
unfolding part_bits binary_bits count_bits
part_by s t n x l e f h =
    ap₂ (λ p c. p ++ (bits 5 31 ++ (c ++ bytes_bits l))) (sym f ∙ ap (latch_bits s) e)
    (sym (ap (λ t. cond t (bits 5 (length l)) (bits 5 0 ++ bits 11 (length l - 31))) (le-leb (length l) 31 h)))

-- the bits of one code
pub bits-count : (w x : ℕ) {h n k v n' k' v' : ℕ} {a a' : List ℕ} → 1 ≤ h → Coded h (bits w x) n k v a n' k' v' a' → n' ≤ n + w + 1
bits-count w x l c = omega (arith, coded-count l c, length-bits w x)

pub coded-as : {h n k v n' k' v' : ℕ} {t t' a a' : List ℕ} → t ≡ t' → Coded h t n k v a n' k' v' a' → Coded h t' n k v a n' k' v' a'
coded-as {h} {n} {k} {v} {n'} {k'} {v'} {a = a} {a'} e c = subst (λ t. Coded h t n k v a n' k' v' a') e c

module _ (m : List ℕ) (i : ℕ) (s : CodeSet) (inside : i < length m) where
  pub turned-char : {h : ℕ} {o o' : Out} {a a' : List ℕ} (t : CodeSet) (c : ℕ) → coded (get_or m i 0) ≡ true
      → set_number t ≡ target (set_number s) (get_or m i 0) → c ≡ code_of (set_number t) (get_or m i 0)
      → Wrote h (latch_bits (set_number s) (set_number t) ++ bits (width (set_number t)) c) o a o' a'
      → Turned h m i (set_number s) o a (record { out = o'; set = t; next = i + 1 }) a'
  turned-char t c e f g w =
      let n = set_number s in
      let b = get_or m i 0 in
      record {
        more = omega arith;
        inside = omega arith;
        bits = char_bits n b;
        written = coded-as (char-by n b (set_number t) c f g) w;
        says = stream-char-at next_part m i n inside e ∙ ap (λ t. char_bits n b ++ stream_from next_part 0 t (drop (i + 1) m)) (sym f);
      }

  module _ (n : ℕ) (e : coded (get_or m i 0) ≡ false) (f : n ≡ next_part (run_length (drop i m))) where
    pub part-bounds : (1 ≤ n) × (n ≤ 31) × (i + n ≤ length m)
    unfolding next_part
    part-bounds = omega (arith, f, run-more-at m i inside e, run-most (drop i m), length-drop i m)

    pub turned-part : {h : ℕ} {o o' : Out} {a a' : List ℕ} (t : CodeSet) → set_number t ≡ run_set (set_number s)
        → Wrote h (part_bits (set_number s) (take n (drop i m))) o a o' a'
        → Turned h m i (set_number s) o a (record { out = o'; set = t; next = i + n }) a'
    turned-part t g c =
        let r = set_number s in
        record {
          more = omega (arith, part-bounds);
          inside = part-bounds.2;
          bits = part_bits r (take n (drop i m));
          written = c;
          says = stream-part-at next_part m i r n inside e (sym f) part-bounds.0
              ∙ ap (λ t. part_bits r (take n (drop i m)) ++ stream_from next_part 0 t (drop (i + n) m)) (sym g);
        }
