-- The turns of the encoder's loop over a message: a character, or a part of a run; and induction by turns.
-- Assumes nothing.
use Rattle.std.specs.Prelude.{◌≡◌, Bool, true, false, length, get_or, take, drop}
use Rattle.std.proofs.Math.Path.{refl, ap}
use Rattle.std.proofs.Common.{sym, ◌∙◌, subst, arith, add-one, drop_of_length-le, drop-cons, drop-drop}
use Rattle.std.proofs.Math.Bool.{cond}
use mathlib.Core.List.{List, [], ◌∷◌, ◌++◌}
use Prim.Native.Nat.{ℕ, zero, suc, ◌+◌, ◌-◌, ◌≤◌, ◌<◌}
use Rattle.std.proofs.Math.Seq.{drop-nil}
use Rattle.stream.specs.Codes.{coded}
use Rattle.stream.specs.Stream.{target, char_bits, run_length, run_set, part_bits, stream_from}

-- a part has at least one byte and no more than B/S can count or the run has
abbrev pub Lawful : (ℕ → ℕ) → Type 0
Lawful cut = (n : ℕ) → 1 ≤ n → (1 ≤ cut n) × (cut n ≤ n) × (cut n ≤ 2078)

pub run-most : (m : List ℕ) → run_length m ≤ length m
unfolding run_length
run-most [] = omega arith
run-most (b ∷ m) = go (coded b) (run-most m)
  where
    go : (t : Bool) → run_length m ≤ length m → cond t 0 (suc (run_length m)) ≤ suc (length m)
    go true h = omega arith
    go false h = omega arith

pub run_more : (b : ℕ) (m : List ℕ) → coded b ≡ false → run_length (b ∷ m) ≡ suc (run_length m)
unfolding run_length
run_more b m e = ap (λ t. cond t 0 (suc (run_length m))) e

pub run_ends : (b : ℕ) (m : List ℕ) → coded b ≡ true → run_length (b ∷ m) ≡ 0
unfolding run_length
run_ends b m e = ap (λ t. cond t 0 (suc (run_length m))) e

-- past the first byte
tail : (b : ℕ) (m : List ℕ) (n : ℕ) → 1 ≤ n → drop (n - 1) m ≡ drop n (b ∷ m)
tail b m zero h = absurd (omega arith)
tail b m (suc n) h = ap (λ k. drop k m) (let e : suc n - 1 ≡ n = omega arith in e)

module _ (cut : ℕ → ℕ) where
  -- bytes that are written already are passed over
  stream-skip : (m : List ℕ) (k s : ℕ) → stream_from cut k s m ≡ stream_from cut 0 s (drop k m)
  unfolding stream_from
  stream-skip [] zero s = refl
  stream-skip [] (suc k) s = refl
  stream-skip (b ∷ m) zero s = refl
  stream-skip (b ∷ m) (suc k) s = stream-skip m k s

  module _ (s b : ℕ) (m : List ℕ) where
    -- a turn, by whether some set has the byte
    turn : (t : Bool) → coded b ≡ t
        → stream_from cut 0 s (b ∷ m)
        ≡ cond t (char_bits s b ++ stream_from cut 0 (target s b) m)
        (part_bits s (take (cut (run_length (b ∷ m))) (b ∷ m)) ++ stream_from cut (cut (run_length (b ∷ m)) - 1) (run_set s) m)
    unfolding stream_from
    turn t e =
        ap (λ t. cond t (char_bits s b ++ stream_from cut 0 (target s b) m)
        (part_bits s (take (cut (run_length (b ∷ m))) (b ∷ m)) ++ stream_from cut (cut (run_length (b ∷ m)) - 1) (run_set s) m)) e

    pub stream-char : coded b ≡ true → stream_from cut 0 s (b ∷ m) ≡ char_bits s b ++ stream_from cut 0 (target s b) m
    stream-char e = turn true e

    pub stream-part : (n : ℕ) → coded b ≡ false → cut (run_length (b ∷ m)) ≡ n → 1 ≤ n
        → stream_from cut 0 s (b ∷ m) ≡ part_bits s (take n (b ∷ m)) ++ stream_from cut 0 (run_set s) (drop n (b ∷ m))
    stream-part n e f h =
        turn false e
        ∙ ap (λ n. part_bits s (take n (b ∷ m)) ++ stream_from cut (n - 1) (run_set s) m) f
        ∙ ap (λ l. part_bits s (take n (b ∷ m)) ++ l) (stream-skip m (n - 1) (run_set s) ∙ ap (stream_from cut 0 (run_set s)) (tail b m n h))

  module _ (m : List ℕ) (i : ℕ) where
    -- the loop at byte i
    pub stream-char-at : (s : ℕ) → i < length m → coded (get_or m i 0) ≡ true
        → stream_from cut 0 s (drop i m) ≡ char_bits s (get_or m i 0) ++ stream_from cut 0 (target s (get_or m i 0)) (drop (i + 1) m)
    stream-char-at s h e = rw (add-one i, drop-cons m i 0 h) (stream-char s (get_or m i 0) (drop (suc i) m) e)

    pub stream-part-at : (s n : ℕ) → i < length m → coded (get_or m i 0) ≡ false → cut (run_length (drop i m)) ≡ n → 1 ≤ n
        → stream_from cut 0 s (drop i m) ≡ part_bits s (take n (drop i m)) ++ stream_from cut 0 (run_set s) (drop (i + n) m)
    stream-part-at s n h e f g =
        subst (λ l. cut (run_length l) ≡ n → stream_from cut 0 s l ≡ part_bits s (take n l) ++ stream_from cut 0 (run_set s) (drop n l))
        (sym (drop-cons m i 0 h)) (λ f. stream-part s (get_or m i 0) (drop (suc i) m) n e f g) f
        ∙ ap (λ l. part_bits s (take n (drop i m)) ++ stream_from cut 0 (run_set s) l) (drop-drop n i m)

    pub stream_end : (s : ℕ) → length m ≤ i → stream_from cut 0 s (drop i m) ≡ []
    unfolding stream_from
    stream_end s h = ap (stream_from cut 0 s) (drop_of_length-le m h)

  -- what holds of the empty message, and before each turn if after it, holds of every message
  pub by-turns : Lawful cut → (P : ℕ → List ℕ → Type 0) → ((s : ℕ) → P s [])
      → ((s b : ℕ) (m : List ℕ) → coded b ≡ true → P (target s b) m → P s (b ∷ m))
      → ((s b : ℕ) (m : List ℕ) (n : ℕ) → coded b ≡ false → cut (run_length (b ∷ m)) ≡ n → 1 ≤ n → n ≤ 2078 → n ≤ length (b ∷ m)
      → P (run_set s) (drop n (b ∷ m)) → P s (b ∷ m))
      → (s : ℕ) (m : List ℕ) → P s m
  by-turns lawful P none char part s m = go m 0 s
    where
      go : (m : List ℕ) (k s : ℕ) → P s (drop k m)
      go [] k s = subst (P s) (sym (drop-nil k)) (none s)
      go (b ∷ m) (suc k) s = go m k s
      go (b ∷ m) zero s = turns (coded b) refl (go m)
        where
          turns : (t : Bool) → coded b ≡ t → ((k s : ℕ) → P s (drop k m)) → P s (b ∷ m)
          turns true e ih = char s b m e (ih 0 (target s b))
          turns false e ih =
              let n = cut (run_length (b ∷ m)) in
              let law = lawful (run_length (b ∷ m)) (omega (arith, run_more b m e)) in
              let later = subst (P (run_set s)) (tail b m n law.0) (ih (n - 1) (run_set s)) in
              part s b m n e refl law.0 law.2 (omega (arith, run-most (b ∷ m))) later

module _ (m : List ℕ) (i : ℕ) where
  pub run-more-at : i < length m → coded (get_or m i 0) ≡ false → i + run_length (drop i m) ≡ i + 1 + run_length (drop (i + 1) m)
  run-more-at h e = rw (add-one i, drop-cons m i 0 h) (omega (arith, run_more (get_or m i 0) (drop (suc i) m) e))

  pub run-ends-at : i < length m → coded (get_or m i 0) ≡ true → run_length (drop i m) ≡ 0
  run-ends-at h e = rw (drop-cons m i 0 h) (run_ends (get_or m i 0) (drop (suc i) m) e)

  pub run-ends-last : length m ≤ i → run_length (drop i m) ≡ 0
  unfolding run_length
  run-ends-last h = ap run_length (drop_of_length-le m h)
