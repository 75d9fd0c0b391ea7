-- Computed examples of how a grid is read (document 01, "How a grid is read", and numbers 11 to 21), on grids of C1, side 15.
-- Assumes nothing.
use Rattle.std.specs.Prelude.{◌≡◌, Err, true, false, List, [], ◌∷◌, ◌++◌, map, ℕ, get_or, replicate}
use Rattle.std.proofs.Math.Path.{refl}
use Rattle.list_laws.specs.Filled.{tabulate}
use Rattle.list_laws.specs.Range.{one, count, all}
use Rattle.list_laws.specs.Search.{first_from}
use Rattle.stream.specs.Stuffing.{flat}
use Rattle.symbol.specs.Shapes.{side, square, bits, word_size, words, skipped, core, is_full, layers}
use Rattle.symbol.specs.Shapes as shape
use Rattle.symbol.specs.Places.{turned, domino, layer_cell, cell, spread, data_place, core_place, orientation_cell, orientation_place}
use Rattle.symbol.specs.Drawing.{orientation_bits}
use Rattle.symbol.specs.Positions.{place_in}
use Rattle.symbol.specs.Places.{mode_run, mode_column, mode_cell, mode_place}
use Rattle.symbol.specs.GridWords.{value, unread, module_at, mode_module, mode_word, block_module, block_word}
use Rattle.sampling.specs.Flat.{flat_marked}
use Rattle.orientation.specs.Modules.{lawful_modules}
use Rattle.orientation.specs.Sides.{has_side, is_side}
use Rattle.orientation.specs.Family.{looks_full}
use Rattle.orientation.specs.Position.{matches, single, position}
use Rattle.orientation.specs.Greatest.{most}
use Rattle.orientation.specs.Masks.{mask_from}
use Rattle.orientation.specs.Placement.{best_matches, best_positions}
use Rattle.recovery.specs.Stages.{mode_words_in, mode_marks_in}
use Rattle.recovery.specs.Stages.{lawful_mode, side_failed, words_failed, failed_mode, block_mark, block_marks_in, unread_words, wrong_words}
use Rattle.recovery.specs.declared.said.Failed.{Failed}
use Rattle.stream.specs.declared.items.Fault.TheVariants.{FlatWord, WrongItem, CutShort}
use Rattle.walk.specs.declared.Refusal.TheVariants.{Side, Length, Module, Unplaced, Mode, Unlawful, Uncorrected, Faulty}
use Rattle.walk.specs.Walk.{Layout, says, Walk, number_of, layout_of, grid_walk, walk_of}
use Rattle.decoder.specs.Decode.{refused, answer_of, decode_of}

-- "A data word (never a check word, and never a mode word) of all 0s or all 1s is marked too": of four words, two are data words
pub flat-marks : flat_marked 6 2 (0 ∷ 63 ∷ 0 ∷ 63 ∷ []) (replicate 4 0) ≡ 1 ∷ 1 ∷ 0 ∷ 0 ∷ []
unfolding tabulate flat flat_marked
flat-marks = refl

-- "The position with most matches is taken if it has at least 9 and no other has as many": the matches of the eight positions, and which
-- is taken
abbrev taken : List ℕ → List ℕ
taken counts = map (λ p. one (single (λ q. get_or counts q 0) p)) (0 ∷ 1 ∷ 2 ∷ 3 ∷ 4 ∷ 5 ∷ 6 ∷ 7 ∷ [])

pub singles :
    map taken
    ((9 ∷ 8 ∷ 8 ∷ 8 ∷ 8 ∷ 8 ∷ 8 ∷ 8 ∷ [])
    ∷ (8 ∷ 4 ∷ 4 ∷ 4 ∷ 4 ∷ 4 ∷ 4 ∷ 4 ∷ [])
    ∷ (9 ∷ 0 ∷ 0 ∷ 0 ∷ 0 ∷ 0 ∷ 0 ∷ 9 ∷ [])
    ∷ (9 ∷ 9 ∷ 9 ∷ 9 ∷ 9 ∷ 9 ∷ 9 ∷ 10 ∷ [])
    ∷ (12 ∷ 12 ∷ 0 ∷ 0 ∷ 0 ∷ 0 ∷ 0 ∷ 11 ∷ [])
    ∷ [])
    ≡ (1 ∷ 0 ∷ 0 ∷ 0 ∷ 0 ∷ 0 ∷ 0 ∷ 0 ∷ [])
    ∷ replicate 8 0
    ∷ replicate 8 0
    ∷ (0 ∷ 0 ∷ 0 ∷ 0 ∷ 0 ∷ 0 ∷ 0 ∷ 1 ∷ [])
    ∷ replicate 8 0
    ∷ []
unfolding all single
singles = refl

-- light but for places 0 and 15, unread, and 17, dark: bit 0, which is skipped, the first bit of word 0, and the last of word 16
unfoldable pub grid : List ℕ
grid = 2 ∷ replicate 14 0 ++ (2 ∷ 0 ∷ 1 ∷ replicate 207 0)

-- "words with an unread module, and fully read words that differ from the block found"; the marks with three data words
pub counts :
    (unread_words false 1 0 grid ≡ 1)
    × (wrong_words false 1 0 grid (replicate 17 0) ≡ 1)
    × (block_marks_in false 1 3 0 grid ≡ 1 ∷ 1 ∷ 1 ∷ replicate 14 0)
unfolding grid tabulate count flat side square bits word_size words skipped turned domino layer_cell cell spread data_place place_in
    value unread module_at block_module block_word block_mark block_marks_in unread_words wrong_words
counts = (refl, refl, refl)

-- and where the block found has 1 for word 0, which is unread
pub unread-not-wrong : wrong_words false 1 0 grid (1 ∷ replicate 16 0) ≡ 1
unfolding grid tabulate count side square bits word_size words skipped turned domino layer_cell cell spread data_place place_in
    value unread module_at block_module block_word wrong_words
unread-not-wrong = refl

-- mode words of 4 bits: light but for the last bit of word 0, unread, and the first of word 1, dark. These stand at places 37 and 38 in
-- side 15, at 45 and 46 in side 19
pub mode-words :
    (mode_words_in false 15 0 (replicate 37 0 ++ (2 ∷ 1 ∷ replicate 186 0)) ≡ 0 ∷ 8 ∷ 0 ∷ 0 ∷ 0 ∷ 0 ∷ 0 ∷ [])
    × (mode_marks_in false 15 0 (replicate 37 0 ++ (2 ∷ 1 ∷ replicate 186 0)) ≡ 1 ∷ 0 ∷ 0 ∷ 0 ∷ 0 ∷ 0 ∷ 0 ∷ [])
    × (mode_words_in true 19 0 (replicate 45 0 ++ (2 ∷ 1 ∷ replicate 314 0)) ≡ 0 ∷ 8 ∷ replicate 8 0)
    × (mode_marks_in true 19 0 (replicate 45 0 ++ (2 ∷ 1 ∷ replicate 314 0)) ≡ 1 ∷ replicate 9 0)
unfolding tabulate core turned core_place mode_run mode_column mode_cell mode_place place_in value unread module_at mode_module mode_word
    mode_words_in mode_marks_in
mode-words = (refl, refl, refl, refl)

-- 16 "L doesn't give this side, or D above n − 3": n is 17 in C1 and 88 in F4
pub modes :
    lawful_mode false 15 1 14
    ∷ lawful_mode false 15 1 15
    ∷ lawful_mode false 19 1 3
    ∷ lawful_mode true 31 4 85
    ∷ lawful_mode true 31 4 86
    ∷ []
    ≡ true ∷ false ∷ false ∷ true ∷ false ∷ []
unfolding side bits word_size words lawful_mode
modes = refl

-- "1 if the side's condition fails, 2 if D's, 3 if both" (document 02, 6/12)
pub failures :
    failed_mode false 15 1 14
    ∷ failed_mode false 19 1 3
    ∷ failed_mode false 15 1 15
    ∷ failed_mode false 19 1 15
    ∷ []
    ≡ 0 ∷ 1 ∷ 2 ∷ 3 ∷ []
unfolding side bits word_size words side_failed words_failed failed_mode
failures = refl

-- 13 "a module above 2"
pub modules : map lawful_modules ((0 ∷ 1 ∷ 2 ∷ []) ∷ (3 ∷ []) ∷ []) ≡ true ∷ false ∷ []
unfolding all lawful_modules
modules = refl

-- in the last place too, and whatever the byte
pub last-module : lawful_modules (0 ∷ 0 ∷ 255 ∷ []) ≡ false
unfolding all lawful_modules
last-module = refl

module _ (b : List ℕ) where
  -- 11 "side is not a shape's", 12 "grid length isn't side²", 13, 14 "no single best position with 9 matches": "Lower numbers come first
  -- when several apply". Six of the twelve orientation modules are light, so a light grid matches six in each position
  pub refusals :
      decode_of [] 16 b
      ∷ decode_of [] 15 b
      ∷ decode_of (3 ∷ replicate 224 0) 15 b
      ∷ decode_of (replicate 224 0 ++ 3 ∷ []) 16 b
      ∷ decode_of (replicate 225 0) 15 b
      ∷ []
      ≡ refused 11 b ∷ refused 12 b ∷ refused 13 b ∷ refused 11 b ∷ refused 14 b ∷ []
  unfolding all count first_from side is_full layers core turned core_place orientation_cell orientation_place orientation_bits place_in
      has_side is_side looks_full matches single position lawful_modules grid_walk walk_of decode_of
  refusals = refl

  -- 12 before 13
  pub length-first : decode_of (3 ∷ []) 15 b ≡ refused 12 b
  unfolding all first_from side is_full layers has_side is_side lawful_modules walk_of decode_of
  length-first = refl

-- "Any other number comes with zeros in every other field and untouched buffers"
pub zeros : (k : ℕ) (b : List ℕ) → refused k b
    ≡ record { answer = record { number = k; length = 0; shape = 0; position = 0; unread = 0; wrong = 0 }; message = b }
zeros k b = refl

-- what is known of the last of these: six matches, in every position; and no words, since none were read
pub light-grid : walk_of (replicate 225 0) 15 ≡ record { outcome = Err (Unplaced (record { best = 6; positions = 255 })); received = []; unread = []; found = []; text = [] }
unfolding all count first_from side is_full layers core turned core_place orientation_cell orientation_place orientation_bits place_in
    has_side is_side looks_full matches single position most mask_from best_matches best_positions lawful_modules grid_walk walk_of
light-grid = refl

-- a number for each outcome, whatever else its stage knew
pub numbers : (x y : ℕ) (c : Failed) (l : Layout)
    → map number_of
    (Err Side ∷ Err Length ∷ Err Module ∷ Err (Unplaced (record { best = x; positions = y })) ∷ Err Mode ∷ Err (Unlawful c)
    ∷ Err (Uncorrected x y)
    ∷ Err (Faulty (record { fault = FlatWord; bit = x }))
    ∷ Err (Faulty (record { fault = WrongItem; bit = x }))
    ∷ Err (Faulty (record { fault = CutShort; bit = x }))
    ∷ says l x
    ∷ [])
    ≡ 11 ∷ 12 ∷ 13 ∷ 14 ∷ 15 ∷ 16 ∷ 17 ∷ 18 ∷ 19 ∷ 20 ∷ 0 ∷ []
numbers x y c l = refl

-- 21 "message buffer too short", whatever block was found; with room the message stands before what the buffer held
module _ (received unread found : List ℕ) where
  abbrev said : Walk
  said =
      record { outcome = says (layout_of true 4 6 9) 2; received = received; unread = unread; found = found; text = 65 ∷ 66 ∷ [] }

  pub no_room : answer_of (7 ∷ []) said ≡ refused 21 (7 ∷ [])
  no_room = refl

  pub just-room : (answer_of (7 ∷ 8 ∷ []) said).message ∷ (answer_of (7 ∷ 8 ∷ 9 ∷ []) said).message ∷ []
      ≡ (65 ∷ 66 ∷ []) ∷ (65 ∷ 66 ∷ 9 ∷ []) ∷ []
  just-room = refl

-- the fields of an answer: of four words the outer two are unread, and one of the others is wrong; F4 is shape 8
abbrev four : Walk
four =
    record {
      outcome = says (layout_of true 4 6 1) 0;
      received = 1 ∷ 2 ∷ 3 ∷ 4 ∷ [];
      unread = 1 ∷ 0 ∷ 0 ∷ 1 ∷ [];
      found = 5 ∷ 2 ∷ 7 ∷ 4 ∷ [];
      text = [];
    }

pub fields : (answer_of [] four).answer ≡ record { number = 0; length = 0; shape = 8; position = 6; unread = 2; wrong = 1 }
unfolding count shape.number_of
fields = refl
