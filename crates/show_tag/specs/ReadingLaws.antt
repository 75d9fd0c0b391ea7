-- One byte after the other: what the reading of a text does at place i.
-- Assumes nothing.
use Rattle.std.specs.Prelude.{◌≡◌, refl, Bool, true, false, cond, List, [], ◌∷◌, ℕ, ◌+◌, ◌<◌, ◌≤◌, Option, Some, None, option_and_then, ltb, length, get_or, drop}
use Rattle.std.proofs.Math.Path.{sym}
use Rattle.std.proofs.Common.{ap, ◌∙◌, add-one, arith, drop_of_length-le, drop-cons}
use borrow.Author.Tests.{lt-ltb, le-ltb}
use Rattle.show_tag.specs.Reading.{more, extended, read_from, read_decimal}

pub read-empty : (text : List ℕ) → length text ≡ 0 → None ≡ read_decimal text
unfolding read_decimal
read-empty [] e = refl
read-empty (byte ∷ rest) e = absurd (omega arith)

pub read-start : (text : List ℕ) → 0 < length text → read_from 0 text ≡ read_decimal text
unfolding read_decimal
read-start [] h = absurd (omega arith)
read-start (byte ∷ rest) h = refl

module _ (value i : ℕ) (text : List ℕ) (h : i < length text) where
  here : read_from value (drop i text) ≡ read_from value (get_or text i 0 ∷ drop (i + 1) text)
  here = ap (read_from value) (rw add-one (drop-cons text i 0 h))

  -- the byte at place i, and then the rest
  pub read_step : option_and_then (λ v. read_from v (drop (i + 1) text)) (extended value (get_or text i 0)) ≡ read_from value (drop i text)
  unfolding read_from
  read_step = go (ltb byte 48) (ltb 57 byte) (ltb 4294967295 (more value byte)) ∙ sym here
    where
      byte : ℕ
      byte = get_or text i 0

      after : ℕ → Option ℕ
      after v = read_from v (drop (i + 1) text)

      go : (a b d : Bool) → option_and_then after (cond a None (cond b None (cond d None (Some (more value byte)))))
          ≡ cond a None (cond b None (cond d None (after (more value byte))))
      go true b d = refl
      go false true d = refl
      go false false true = refl
      go false false false = refl

  pub read_low : get_or text i 0 < 48 → None ≡ read_from value (drop i text)
  unfolding read_from
  read_low l = sym (here ∙ rw (lt-ltb (get_or text i 0) 48 l) refl)

  pub read-high : 48 ≤ get_or text i 0 → 57 < get_or text i 0 → None ≡ read_from value (drop i text)
  unfolding read_from
  read-high l m = sym (here ∙ rw (le-ltb (get_or text i 0) 48 l, lt-ltb 57 (get_or text i 0) m) refl)

  pub read-over : 48 ≤ get_or text i 0 → get_or text i 0 ≤ 57 → 4294967295 < more value (get_or text i 0) → None ≡ read_from value (drop i text)
  unfolding read_from
  read-over l m n =
      sym (here ∙ rw (le-ltb (get_or text i 0) 48 l, le-ltb 57 (get_or text i 0) m, lt-ltb 4294967295 (more value (get_or text i 0)) n) refl)

  pub read_next : 48 ≤ get_or text i 0 → get_or text i 0 ≤ 57 → more value (get_or text i 0) ≤ 4294967295
      → read_from (more value (get_or text i 0)) (drop (i + 1) text) ≡ read_from value (drop i text)
  unfolding read_from
  read_next l m n =
      sym (here ∙ rw (le-ltb (get_or text i 0) 48 l, le-ltb 57 (get_or text i 0) m, le-ltb 4294967295 (more value (get_or text i 0)) n) refl)

pub read-end : (value i : ℕ) (text : List ℕ) → length text ≤ i → Some value ≡ read_from value (drop i text)
unfolding read_from
read-end value i text h = sym (ap (read_from value) (drop_of_length-le text h))
