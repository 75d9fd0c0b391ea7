-- Words from a grid in one of the eight positions, and that a drawn symbol gives its words back (document 01, "How a grid is read",
-- step 3). A module is 0, 1 or 2, unread.
-- Assumes nothing.
use Rattle.std.specs.Prelude.{◌≡◌, refl, Bool, cond, List, ℕ, zero, suc, ◌+◌, ◌*◌, ◌-◌, ◌/◌, ◌%◌, ◌^◌, ◌≤◌, ◌<◌, eqb, length, get_or, replicate}
use Rattle.std.proofs.Common.{sym, ap₂, ◌∙◌, subst, mod-lt, div-one, pow-suc, le_refl, mul-le-mul_right, div-add-mod', ne_eqb, le-ltb}
use Rattle.std.proofs.Math.Path.{ap}
use Rattle.std.proofs.Math.Nat.{mod-mod, div-eq_of_lt, div-div-eq-div-mul}
use native.Mathlib.Omega.{arith}
use Rattle.std.proofs.lemmas.List.{length-replicate}
use Rattle.symbol.specs.Shapes.{side, bits, words, word_size, skipped, Shaped}
use Rattle.symbol.specs.Places.{mode_run, mode_place, data_place}
use Rattle.symbol.specs.DataPlaces.{index-row, index-col, data-lt}
use Rattle.symbol.specs.CorePlaces.{core-room, mode-lt}
use Rattle.symbol.specs.Drawing.{bit_of, words_bit, symbol, drawn-data, drawn-mode}
use Rattle.symbol.specs.Positions.{place_in, placed, placed_at}

-- b modules as a number, higher bit first; an unread module counts as 0
unfoldable pub value : ℕ → (ℕ → ℕ) → ℕ
value zero u = 0
value (suc b) u = 2 * value b u + u b % 2

-- 1 if one of b modules is unread, else 0
unfoldable pub unread : ℕ → (ℕ → ℕ) → ℕ
unread zero u = 0
unread (suc b) u = cond (eqb (u b) 2) 1 (unread b u)

-- module k of the upright symbol, in a grid of side n in position p
unfoldable pub module_at : ℕ → ℕ → List ℕ → ℕ → ℕ
module_at n p g k = get_or g (place_in n p k) 0

-- bit b of mode word w, and of word w of the block
unfoldable pub mode_module : Bool → ℕ → ℕ → List ℕ → ℕ → ℕ → ℕ
mode_module f n p g w b = module_at n p g (mode_place f n (w * 4 + b))

unfoldable pub block_module : Bool → ℕ → ℕ → List ℕ → ℕ → ℕ → ℕ
block_module f L p g w b = module_at (side f L) p g (data_place f L (skipped f L + (w * word_size L + b)))

unfoldable pub mode_word : Bool → ℕ → ℕ → List ℕ → ℕ → ℕ
mode_word f n p g w = value 4 (mode_module f n p g w)

unfoldable pub block_word : Bool → ℕ → ℕ → List ℕ → ℕ → ℕ
block_word f L p g w = value (word_size L) (block_module f L p g w)

pub value_same : (b : ℕ) (u v : ℕ → ℕ) → ((j : ℕ) → j < b → u j ≡ v j) → value b u ≡ value b v
unfolding value
value_same zero u v e = refl
value_same (suc b) u v e = ap₂ (λ (x y : ℕ). 2 * x + y % 2) (value_same b u v (λ j l. e j (omega arith))) (e b (omega arith))

value-part : (B x b : ℕ) → x < 2 ^ B → b ≤ B → value b (bit_of B x) ≡ x / 2 ^ (B - b)
unfolding value bit_of
value-part B x zero h l =
    sym (div-eq_of_lt (let z : x < 2 ^ (B - 0) = subst (λ k. x < 2 ^ k) (let e : B ≡ B - 0 = omega arith in e) h in z))
value-part B x (suc b) h l =
    ap₂ (λ (p q : ℕ). 2 * p + q)
    (value-part B x b h (omega arith)
    ∙ ap (λ k. x / 2 ^ k) (let e : B - b ≡ suc (B - (b + 1)) = omega arith in e)
    ∙ ap (λ k. x / k) (pow-suc 2 (B - (b + 1)))
    ∙ sym (div-div-eq-div-mul x (2 ^ (B - (b + 1))) 2))
    (mod-mod (x / 2 ^ (B - (b + 1))) 2)
    ∙ (let z : 2 * (x / 2 ^ (B - (b + 1)) / 2) + x / 2 ^ (B - (b + 1)) % 2 ≡ x / 2 ^ (B - (b + 1)) = omega arith in z)
    ∙ ap (λ k. x / 2 ^ (B - k)) (let e : b + 1 ≡ suc b = omega arith in e)

-- a word is the value of its bits
pub value-bits : (B x : ℕ) → x < 2 ^ B → value B (bit_of B x) ≡ x
value-bits B x h = value-part B x B h (le_refl B) ∙ ap (λ k. x / 2 ^ k) (let e : B - B ≡ 0 = omega arith in e) ∙ div-one x

pub value-lt : (b : ℕ) (u : ℕ → ℕ) → value b u < 2 ^ b
unfolding value
value-lt zero u = omega arith
value-lt (suc b) u = omega (arith, value-lt b u, pow-suc 2 b, mod-lt (u b) (let z : 0 < 2 = omega arith in z))

pub bit-lt : (B x j : ℕ) → bit_of B x j < 2
unfolding bit_of
bit-lt B x j = omega arith

pub unread-none : (b : ℕ) (u : ℕ → ℕ) → ((j : ℕ) → j < b → u j < 2) → unread b u ≡ 0
unfolding unread
unread-none zero u h = refl
unread-none (suc b) u h = rw (ne_eqb (u b) 2 (λ e. omega (arith, h b (omega arith)))) (unread-none b u (λ j l. h j (omega arith)))

-- bit b of word w, among the bits of all words
pub word-bit : (B skip : ℕ) (ws : List ℕ) (w b : ℕ) → b < B → words_bit B skip ws (skip + (w * B + b)) ≡ bit_of B (get_or ws w 0) b
unfolding words_bit
word-bit B skip ws w b h =
    rw (le-ltb (skip + (w * B + b)) skip (omega arith))
    (ap₂ (λ (x y : ℕ). bit_of B (get_or ws x 0) y) (ap (λ x. x / B) rest ∙ index-row B w b h) (ap (λ x. x % B) rest ∙ index-col B w b h))
  where
    rest : skip + (w * B + b) - skip ≡ w * B + b
    rest = omega arith

-- the skipped bits and the words are all bits
pub block-bits : (f : Bool) (L : ℕ) {skip n B : ℕ} → skip ≡ skipped f L → n ≡ words f L → B ≡ word_size L → skip + n * B ≡ bits f L
unfolding words skipped
block-bits f L {skip} {n} {B} s e b =
    ap₂ (λ (x y : ℕ). x + y) s (ap₂ (λ (x y : ℕ). x * y) e b) ∙ omega (arith, div-add-mod' (bits f L) (word_size L))

pub block-index : (f : Bool) (L w b : ℕ) → w < words f L → b < word_size L → skipped f L + (w * word_size L + b) < bits f L
unfolding words skipped
block-index f L w b h k = omega (arith, div-add-mod' (bits f L) (word_size L), mul-le-mul_right (word_size L) h)

-- The drawn symbol, in any position, gives its words back, and none is unread
module _ (f : Bool) (L : ℕ) (sh : Shaped f L) (ms ws : List ℕ) (p : ℕ) where
  abbrev shown : List ℕ
  shown = placed (side f L) p (symbol f L ms ws)

  room : side f L * side f L ≤ length {A = ℕ} (replicate (side f L * side f L) 0)
  room = subst (λ x. side f L * side f L ≤ x) (sym (length-replicate {A = ℕ} (side f L * side f L) 0)) (le_refl _)

  pub shown-block-module : (w b : ℕ) → w < words f L → b < word_size L → block_module f L p shown w b ≡ bit_of (word_size L) (get_or ws w 0) b
  unfolding block_module module_at symbol
  shown-block-module w b h k =
      let l = block-index f L w b h k in
      placed_at (side f L) p (symbol f L ms ws) _ (data-lt f L sh _ l)
      ∙ drawn-data f L ms ws _ sh room _ l
      ∙ word-bit (word_size L) (skipped f L) ws w b k

  pub shown-mode-module : (w b : ℕ) → w < mode_run f → b < 4 → mode_module f (side f L) p shown w b ≡ bit_of 4 (get_or ms w 0) b
  unfolding mode_module module_at symbol
  shown-mode-module w b h k =
      let l : w * 4 + b < 4 * mode_run f = omega arith in
      placed_at (side f L) p (symbol f L ms ws) _ (mode-lt f (side f L) (core-room f L sh) _ l)
      ∙ drawn-mode f L ms ws _ sh room _ l
      ∙ ap (words_bit 4 0 ms) (let e : w * 4 + b ≡ 0 + (w * 4 + b) = omega arith in e)
      ∙ word-bit 4 0 ms w b k

  pub shown-block-word : (w : ℕ) → w < words f L → get_or ws w 0 < 2 ^ word_size L → block_word f L p shown w ≡ get_or ws w 0
  unfolding block_word
  shown-block-word w h l = value_same (word_size L) _ _ (λ b k. shown-block-module w b h k) ∙ value-bits (word_size L) (get_or ws w 0) l

  pub shown-mode-word : (w : ℕ) → w < mode_run f → get_or ms w 0 < 16 → mode_word f (side f L) p shown w ≡ get_or ms w 0
  unfolding mode_word
  shown-mode-word w h l = value_same 4 _ _ (λ b k. shown-mode-module w b h k) ∙ value-bits 4 (get_or ms w 0) l

  pub shown-block-read : (w : ℕ) → w < words f L → unread (word_size L) (block_module f L p shown w) ≡ 0
  shown-block-read w h =
      unread-none (word_size L) _ (λ b k. subst (λ x. x < 2) (sym (shown-block-module w b h k)) (bit-lt (word_size L) (get_or ws w 0) b))

  pub shown-mode-read : (w : ℕ) → w < mode_run f → unread 4 (mode_module f (side f L) p shown w) ≡ 0
  shown-mode-read w h =
      unread-none 4 _ (λ b k. subst (λ x. x < 2) (sym (shown-mode-module w b h k)) (bit-lt 4 (get_or ms w 0) b))
