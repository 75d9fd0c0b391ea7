-- What the encoder writes are bits, at least 4 and at most 23 for each byte of the message.
-- Assumes nothing.
use Rattle.std.specs.Prelude.{◌≡◌, refl, Bool, true, false, cond, List, [], ◌∷◌, ◌++◌, ℕ, ◌+◌, ◌*◌, ◌-◌, ◌≤◌, ◌<◌, leb, drop}
use Rattle.std.proofs.Common.{sym, ap₂, ◌∙◌, leb-false}
use Rattle.std.proofs.Math.Path.{ap, subst}
use native.Mathlib.Omega.{arith}
use Rattle.std.proofs.Math.ListN.{length, take, length-append, length-drop}
use Rattle.std.proofs.Math.Seq.{length-take-le}
use Rattle.list_laws.specs.Tests.{holds}
use Rattle.stream.specs.Below.{Bits, Bytes, below-append, below-drop}
use Rattle.stream.specs.Bits.{bits, value, bits-are-bits, length-bits, bits_of_value}
use Rattle.stream.specs.Codes.{width, code_of}
use Rattle.stream.specs.Latches.{path, latch_code, path_bits, latch_bits}
use Rattle.stream.specs.Stream.{target, char_bits, run_set, count_bits, bytes_bits, binary_bits, part_bits, stream_from}
use Rattle.stream.specs.CodeLaws.{char-facts, run-facts, width-bounds}
use Rattle.stream.specs.StreamLaws.{Lawful, stream-char, stream-part, by-turns}

path-bits : (s : ℕ) (ts : List ℕ) → Bits (path_bits s ts)
unfolding path_bits
path-bits s [] = tt
path-bits s (t ∷ ts) =
    let c = latch_code s t in
    below-append 2 (bits (width s) c) (path_bits t ts) (bits-are-bits (width s) c) (path-bits t ts)

-- the latches from a set to a set as one number of n bits, the way a table keeps them
pub latch-number : (s t n x : ℕ) → length (latch_bits s t) ≡ n → value 0 (latch_bits s t) ≡ x → latch_bits s t ≡ bits n x
unfolding latch_bits
latch-number s t n x e f = sym (ap₂ bits (sym e) (sym f) ∙ bits_of_value (latch_bits s t) (path-bits s (path s t)))

char-bits : (s b : ℕ) → Bits (char_bits s b)
unfolding char_bits latch_bits
char-bits s b =
    let t = target s b in
    below-append 2 (latch_bits s t) (bits (width t) (code_of t b)) (path-bits s (path s t)) (bits-are-bits (width t) (code_of t b))

count_bits_lem : (n : ℕ) → Bits (count_bits n)
unfolding count_bits
count_bits_lem n = go (leb n 31)
  where
    go : (t : Bool) → Bits (cond t (bits 5 n) (bits 5 0 ++ bits 11 (n - 31)))
    go true = bits-are-bits 5 n
    go false = below-append 2 (bits 5 0) (bits 11 (n - 31)) (bits-are-bits 5 0) (bits-are-bits 11 (n - 31))

bytes_bits_lem : (l : List ℕ) → Bits (bytes_bits l)
unfolding bytes_bits
bytes_bits_lem [] = tt
bytes_bits_lem (b ∷ l) = below-append 2 (bits 8 b) (bytes_bits l) (bits-are-bits 8 b) (bytes_bits_lem l)

part-bits : (s : ℕ) (l : List ℕ) → Bits (part_bits s l)
unfolding part_bits binary_bits latch_bits
part-bits s l =
    let n = count_bits (length l) in
    below-append 2 (latch_bits s (run_set s)) (bits 5 31 ++ (n ++ bytes_bits l)) (path-bits s (path s (run_set s)))
    (below-append 2 (bits 5 31) (n ++ bytes_bits l) (bits-are-bits 5 31)
    (below-append 2 n (bytes_bits l) (count_bits_lem (length l)) (bytes_bits_lem l)))

pub length-bytes : (l : List ℕ) → length (bytes_bits l) ≡ 8 * length l
unfolding bytes_bits
length-bytes [] = refl
length-bytes (b ∷ l) = length-append (bits 8 b) (bytes_bits l) ∙ omega (arith, length-bits 8 b, length-bytes l)

-- a short count has 5 bits, a long one 16
pub length-count : (n : ℕ) → length (count_bits n) ≡ cond (leb n 31) 5 16
unfolding count_bits
length-count n = go (leb n 31)
  where
    go : (t : Bool) → length (cond t (bits 5 n) (bits 5 0 ++ bits 11 (n - 31))) ≡ cond t 5 16
    go true = length-bits 5 n
    go false = simp (length-append, length-bits)

pub length-binary : (l : List ℕ) → length (binary_bits l) ≡ 5 + length (count_bits (length l)) + 8 * length l
unfolding binary_bits
length-binary l = simp (length-append, length-bits, length-bytes) (omega arith)

-- from 8 to 18 bits a byte
binary-bounds : (l : List ℕ) → 1 ≤ length l → (8 * length l ≤ length (binary_bits l)) × (length (binary_bits l) ≤ 18 * length l)
binary-bounds l h = go (leb (length l) 31) refl
  where
    go : (t : Bool) → leb (length l) 31 ≡ t → (8 * length l ≤ length (binary_bits l)) × (length (binary_bits l) ≤ 18 * length l)
    go true e = omega (arith, length-binary l, length-count (length l) ∙ ap (λ t. cond t 5 16) e)
    go false e = omega (arith, length-binary l, length-count (length l) ∙ ap (λ t. cond t 5 16) e, leb-false (length l) 31 e)

module _ (cut : ℕ → ℕ) (lawful : Lawful cut) where
  pub stream_bits : (s : ℕ) (m : List ℕ) → Bits (stream_from cut 0 s m)
  unfolding stream_from
  stream_bits =
      by-turns cut lawful (λ s m. Bits (stream_from cut 0 s m)) (λ s. tt)
      (λ s b m e ih.
      subst Bits (sym (stream-char cut s b m e)) (below-append 2 (char_bits s b) (stream_from cut 0 (target s b) m) (char-bits s b) ih))
      (λ s b m n e f h k g ih. subst Bits (sym (stream-part cut s b m n e f h))
      (below-append 2 (part_bits s (take n (b ∷ m))) (stream_from cut 0 (run_set s) (drop n (b ∷ m))) (part-bits s (take n (b ∷ m))) ih))

  -- the length of a stream, by turns
  pub stream-length : (s : ℕ) (m : List ℕ) → s < 5 → Bytes m
      → (4 * length m ≤ length (stream_from cut 0 s m)) × (length (stream_from cut 0 s m) ≤ 23 * length m)
  unfolding stream_from char_bits part_bits
  stream-length =
      by-turns cut lawful
      (λ s m. s < 5 → Bytes m → (4 * length m ≤ length (stream_from cut 0 s m)) × (length (stream_from cut 0 s m) ≤ 23 * length m))
      (λ s h x. omega arith)
      (λ s b m e ih h x.
      let t = target s b in
      let f = char-facts s b h x.0 (holds e) in
      omega (
        arith,
        ih f.set x.1,
        ap length (stream-char cut s b m e) ∙ length-append (char_bits s b) (stream_from cut 0 t m),
        length-append (latch_bits s t) (bits (width t) (code_of t b)),
        length-bits (width t) (code_of t b),
        width-bounds t,
      ))
      (λ s b m n e f h k g ih i x.
      let t = run_set s in
      let r = run-facts s i in
      let l = take n (b ∷ m) in
      let size = length-take-le n (b ∷ m) g in
      omega (
        arith,
        ih r.set (below-drop 256 n (b ∷ m) x),
        length-drop n (b ∷ m),
        binary-bounds l (rw size h),
        ap length (stream-part cut s b m n e f h) ∙ length-append (part_bits s l) (stream_from cut 0 t (drop n (b ∷ m))),
        length-append (latch_bits s t) (binary_bits l),
      ))
