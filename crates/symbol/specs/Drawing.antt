-- The symbol of given mode words and a given block (document 01, "Modules and shapes"): a buffer in which the fixed pattern, the
-- orientation modules, the mode message and the data bits have been written at their places.
-- Assumes nothing.
use Rattle.std.specs.Prelude.{◌≡◌, ◌≢◌, Bool, cond, ℕ, ◌+◌, ◌*◌, ◌-◌, ◌/◌, ◌%◌, ◌^◌, ◌≤◌, ◌<◌, ltb, drop, replicate}
use Rattle.std.proofs.Math.Path.{sym}
use Rattle.std.proofs.Common.{ap, ◌∙◌, subst, le_refl, length-append, length-drop, ext_get_or, get_or-append-add, get_or-drop}
use mathlib.Core.List.{List, [], ◌∷◌, ◌++◌}
use native.Mathlib.Omega.{arith}
use Rattle.std.proofs.Math.Decide.{dec_lt}
use Rattle.std.proofs.Math.ListN.{length, get_or, length-replicate, get_or-append}
use Rattle.list_laws.specs.Writes.{writes, length-writes, writes-same, writes-other, writes-agree}
use Rattle.symbol.specs.Shapes.{side, bits, word_size, skipped, Shaped}
use Rattle.symbol.specs.Places.{orientation_place, mode_run, mode_place, data_place, fixed_place}
use Rattle.symbol.specs.DataPlaces.{data-lt, data-one}
use Rattle.symbol.specs.CorePlaces.{orientation-lt, mode-lt, orientation-one, mode-one, mode-orientation, core-room, data-orientation, data-mode}

-- the places of a table from one on lie inside a buffer of so many modules
abbrev pub PlacesFit : List ℕ → ℕ → ℕ → ℕ → Type 0
PlacesFit places from n room = (i : ℕ) → i < n → get_or places (from + i) 0 < room

-- bit j of a word of b bits, "each higher bit first"
unfoldable pub bit_of : ℕ → ℕ → ℕ → ℕ
bit_of b x j = x / 2 ^ (b - (j + 1)) % 2

-- bit i of words of b bits, after a number of 0s that are skipped in reading
unfoldable pub words_bit : ℕ → ℕ → List ℕ → ℕ → ℕ
words_bit b skip ws i = cond (ltb i skip) 0 (bit_of b (get_or ws ((i - skip) / b) 0) ((i - skip) % b))

-- "Clockwise from the one below the top left corner: 111 011 100 000"
unfoldable pub orientation_bits : List ℕ
orientation_bits = 1 ∷ 1 ∷ 1 ∷ 0 ∷ 1 ∷ 1 ∷ 1 ∷ 0 ∷ 0 ∷ 0 ∷ 0 ∷ 0 ∷ []

module _ (f : Bool) (L : ℕ) where
  abbrev pub area : ℕ
  area = side f L * side f L

  unfoldable pub with_fixed : List ℕ → List ℕ
  with_fixed g = writes g (λ k. k) (fixed_place f L) area

  unfoldable pub with_orientation : List ℕ → List ℕ
  with_orientation g = writes g (orientation_place f (side f L)) (λ k. get_or orientation_bits k 0) 12

  unfoldable pub with_mode : List ℕ → List ℕ → List ℕ
  with_mode mode_codewords g = writes g (mode_place f (side f L)) (words_bit 4 0 mode_codewords) (4 * mode_run f)

  unfoldable pub with_block : List ℕ → List ℕ → List ℕ
  with_block block g = writes g (data_place f L) (words_bit (word_size L) (skipped f L) block) (bits f L)

  -- what the encoder leaves in a buffer g of at least side² modules
  unfoldable pub drawn : List ℕ → List ℕ → List ℕ → List ℕ
  drawn mode_codewords block g = with_block block (with_mode mode_codewords (with_orientation (with_fixed g)))

  -- the symbol alone
  unfoldable pub symbol : List ℕ → List ℕ → List ℕ
  symbol mode_codewords block = drawn mode_codewords block (replicate area 0)

  module _ (ms ws g : List ℕ) where
    pub length-drawn : length (drawn ms ws g) ≡ length g
    unfolding drawn with_block with_mode with_orientation with_fixed
    length-drawn = length-writes _ _ _ _ ∙ length-writes _ _ _ _ ∙ length-writes _ _ _ _ ∙ length-writes _ _ _ _

    module _ (sh : Shaped f L) where
      -- modules beyond the symbol's are as they were
      pub drawn-rest : (k : ℕ) → area ≤ k → get_or (drawn ms ws g) k 0 ≡ get_or g k 0
      unfolding drawn with_block with_mode with_orientation with_fixed
      drawn-rest k h =
          writes-other 0 _ _ _ _ k (λ i l e. omega (arith, data-lt f L sh i l))
          ∙ writes-other 0 _ _ _ _ k (λ i l e. omega (arith, mode-lt f (side f L) (core-room f L sh) i l))
          ∙ writes-other 0 _ _ _ _ k (λ i l e. omega (arith, orientation-lt f (side f L) (core-room f L sh) i l))
          ∙ writes-other 0 _ _ _ _ k (λ i l e. omega arith)

      module _ (room : area ≤ length g) where
        room-fixed : area ≤ length (with_fixed g)
        unfolding with_fixed
        room-fixed = omega (arith, length-writes g (λ k. k) (fixed_place f L) area)

        room-orientation : area ≤ length (with_orientation (with_fixed g))
        unfolding with_orientation
        room-orientation =
            omega (
              arith,
              room-fixed,
              length-writes (with_fixed g) (orientation_place f (side f L)) (λ k. get_or orientation_bits k 0) 12,
            )

        room-mode : area ≤ length (with_mode ms (with_orientation (with_fixed g)))
        unfolding with_mode
        room-mode =
            omega (
              arith,
              room-orientation,
              length-writes (with_orientation (with_fixed g)) (mode_place f (side f L)) (words_bit 4 0 ms) (4 * mode_run f),
            )

        -- each bit stands at its place
        pub drawn-data : (i : ℕ) → i < bits f L → get_or (drawn ms ws g) (data_place f L i) 0 ≡ words_bit (word_size L) (skipped f L) ws i
        unfolding drawn with_block
        drawn-data i h =
            writes-same 0 _ (data_place f L) _ (bits f L) (data-one f L sh) (λ k l. omega (arith, room-mode, data-lt f L sh k l)) i h

        pub drawn-mode : (k : ℕ) → k < 4 * mode_run f → get_or (drawn ms ws g) (mode_place f (side f L) k) 0 ≡ words_bit 4 0 ms k
        unfolding drawn with_block with_mode
        drawn-mode k h =
            writes-other 0 _ (data_place f L) _ (bits f L) (mode_place f (side f L) k) (λ i l. data-mode f L sh i k l h)
            ∙ writes-same 0 _ (mode_place f (side f L)) _ (4 * mode_run f) (mode-one f (side f L) (core-room f L sh))
            (λ k l. omega (arith, room-orientation, mode-lt f (side f L) (core-room f L sh) k l)) k h

        pub drawn-orientation : (k : ℕ) → k < 12 → get_or (drawn ms ws g) (orientation_place f (side f L) k) 0 ≡ get_or orientation_bits k 0
        unfolding drawn with_block with_mode with_orientation
        drawn-orientation k h =
            writes-other 0 _ (data_place f L) _ (bits f L) (orientation_place f (side f L) k) (λ i l. data-orientation f L sh i k l h)
            ∙ writes-other 0 _ (mode_place f (side f L)) _ (4 * mode_run f) (orientation_place f (side f L) k)
            (λ i l. mode-orientation f (side f L) (core-room f L sh) i k l h)
            ∙ writes-same 0 _ (orientation_place f (side f L)) _ 12 (orientation-one f (side f L) (core-room f L sh))
            (λ k l. omega (arith, room-fixed, orientation-lt f (side f L) (core-room f L sh) k l)) k h

        -- every other module has the fixed pattern
        pub drawn-fixed : (k : ℕ) → k < area → ((i : ℕ) → i < 12 → orientation_place f (side f L) i ≢ k)
            → ((i : ℕ) → i < 4 * mode_run f → mode_place f (side f L) i ≢ k) → ((i : ℕ) → i < bits f L → data_place f L i ≢ k)
            → get_or (drawn ms ws g) k 0 ≡ fixed_place f L k
        unfolding drawn with_block with_mode with_orientation with_fixed
        drawn-fixed k h a b c =
            writes-other 0 _ (data_place f L) _ (bits f L) k c
            ∙ writes-other 0 _ (mode_place f (side f L)) _ (4 * mode_run f) k b
            ∙ writes-other 0 _ (orientation_place f (side f L)) _ 12 k a
            ∙ writes-same 0 g (λ k. k) (fixed_place f L) area (λ i j x y e. e) (λ i x. omega arith) k h

  module _ (sh : Shaped f L) (ms ws : List ℕ) where
    -- the symbol doesn't depend on what the buffer held
    drawn-agree : (g h : List ℕ) → area ≤ length g → area ≤ length h → (k : ℕ) → k < area → get_or (drawn ms ws g) k 0 ≡ get_or (drawn ms ws h) k 0
    unfolding drawn with_block with_mode with_orientation
    drawn-agree g h a b =
        writes-agree 0 _ _ _ _ area (bits f L) (room-mode ms ws g sh a) (room-mode ms ws h sh b) (data-lt f L sh)
        (writes-agree 0 _ _ _ _ area (4 * mode_run f) (room-orientation ms ws g sh a) (room-orientation ms ws h sh b)
        (mode-lt f (side f L) (core-room f L sh))
        (writes-agree 0 _ _ _ _ area 12 (room-fixed ms ws g sh a) (room-fixed ms ws h sh b)
        (orientation-lt f (side f L) (core-room f L sh)) (λ k l. fixed-at g a k l ∙ sym (fixed-at h b k l))))
      where
        fixed-at : (g : List ℕ) → area ≤ length g → (k : ℕ) → k < area → get_or (with_fixed g) k 0 ≡ fixed_place f L k
        fixed-at g h k l =
            unfold with_fixed in writes-same 0 g (λ k. k) (fixed_place f L) area (λ i j x y e. e) (λ i x. omega arith) k l

    pub length-symbol : length (symbol ms ws) ≡ area
    unfolding symbol
    length-symbol = length-drawn ms ws (replicate area 0) ∙ length-replicate area 0

    -- the symbol stands at the front of the buffer, and the rest is as it was
    pub drawn-is : (g : List ℕ) → area ≤ length g → drawn ms ws g ≡ symbol ms ws ++ drop area g
    drawn-is g h = ext_get_or 0 _ _ (length-drawn ms ws g ∙ sym len) (λ k l. go k (dec_lt k area))
      where
        len : length (symbol ms ws ++ drop area g) ≡ length g
        len = omega (arith, length-append (symbol ms ws) (drop area g), length-drop area g, length-symbol)

        front : (k : ℕ) → k < area → get_or (drawn ms ws g) k 0 ≡ get_or (symbol ms ws) k 0
        front k b =
            unfold symbol in drawn-agree g (replicate area 0) h
            (subst (λ x. area ≤ x) (sym (length-replicate {A = ℕ} area 0)) (le_refl area)) k b

        rest : (k : ℕ) → area ≤ k → get_or (symbol ms ws ++ drop area g) k 0 ≡ get_or g k 0
        rest k b =
            ap (λ x. get_or (symbol ms ws ++ drop area g) x 0)
            (let e : k ≡ length (symbol ms ws) + (k - area) = omega (arith, length-symbol) in e)
            ∙ get_or-append-add (symbol ms ws) (drop area g) (k - area) 0
            ∙ get_or-drop area g (k - area) 0
            ∙ ap (λ x. get_or g x 0) (let e : area + (k - area) ≡ k = omega arith in e)

        go : (k : ℕ) → Dec (k < area) → get_or (drawn ms ws g) k 0 ≡ get_or (symbol ms ws ++ drop area g) k 0
        go k (yes b) = front k b ∙ sym (get_or-append (symbol ms ws) (drop area g) 0 k (subst (λ x. k < x) (sym length-symbol) b))
        go k (no b) = drawn-rest ms ws g sh k (omega arith) ∙ sym (rest k (omega arith))
