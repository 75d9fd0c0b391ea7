-- What becomes of a grid (document 01, "How a grid is read" and numbers 11 to 20): the stages in order, to the first that fails, with what
-- it knew, or to the block found and what was read. The decoder's answer is a view of this.
-- Assumes nothing.
use Rattle.std.specs.Prelude.{◌≡◌, Result, Ok, Err, Some, None, refl, Bool, not, cond, List, [], ℕ, ◌*◌, ◌-◌, eqb, length, take}
use Rattle.std.specs.Prelude
use Rattle.std.proofs.Math.Option.{Option, none, some}
use Rattle.list_laws.specs.Filled.{tabulate}
use Rattle.finite_field.specs.Field.{size_of}
use Rattle.block_code.specs.Nearest.{nearest}
use Rattle.block_code.specs.Nearest as code
use Rattle.stream.specs.Items as items
use Rattle.symbol.specs.Shapes.{word_size, words}
use Rattle.symbol.specs.GridWords.{unread, block_module}
use Rattle.orientation.specs.Modules.{lawful_modules}
use Rattle.orientation.specs.Sides.{is_side}
use Rattle.orientation.specs.Family.{looks_full}
use Rattle.orientation.specs.Position.{position}
use Rattle.orientation.specs.Placement.{best_matches, best_positions}
use Rattle.sampling.specs.Flat.{flat_marked}
use Rattle.recovery.specs.Stages.{mode_in, said_layers, said_words, block_words_in}
use Rattle.recovery.specs.declared.said.Failed.{Failed}
use Rattle.recovery.specs.FailedMode.{failed_conditions}
use Rattle.walk.specs.declared.Refusal.{Refusal}
use Rattle.walk.specs.declared.Refusal.TheVariants.{Side, Length, Module, Unplaced, Mode, Unlawful, Uncorrected, Faulty}

-- what a grid was taken for, whatever its mode words say: its family, L, its position and D
pub record Layout : Type 0 where
  pub full : Bool
  pub layers : ℕ
  pub position : ℕ
  pub data_words : ℕ

-- a message of so many bytes in a layout
pub record Message : Type 0 where
  pub layout : Layout
  pub bytes : ℕ

-- where a walk ends
abbrev pub Outcome : Type 0
Outcome = Result Message Refusal

abbrev pub says : Layout → ℕ → Outcome
says l n = Ok (record { layout = l; bytes = n })

-- document 01's number for each outcome; a message may still lack room (21)
abbrev pub refusal_number : Refusal → ℕ
refusal_number Side = 11
refusal_number Length = 12
refusal_number Module = 13
refusal_number (Unplaced cause) = 14
refusal_number Mode = 15
refusal_number (Unlawful failed) = 16
refusal_number (Uncorrected e K) = 17
refusal_number (Faulty cause) = items.number_of cause.fault

abbrev pub number_of : Outcome → ℕ
number_of (Ok message) = 0
number_of (Err refusal) = refusal_number refusal

-- an outcome; and where it says a message the words received, in which an unread module counts as 0, a mark for each that has one, the block
-- found, and the message of its data words
pub record Walk : Type 0 where
  pub outcome : Outcome
  pub received : List ℕ
  pub unread : List ℕ
  pub found : List ℕ
  pub text : List ℕ

-- a refusal has no words beside it
abbrev pub ended : Refusal → Walk
ended r = record { outcome = Err r; received = []; unread = []; found = []; text = [] }

-- From the words of a block

-- 18, 19 and 20: what the data words of a block say
abbrev pub reading_of : Layout → List ℕ → items.Reading
reading_of l block = items.judge (word_size l.layers) (take l.data_words block)

-- K
abbrev pub checks : Layout → ℕ
checks l = words l.full l.layers - l.data_words

module _ (l : Layout) (received unread : List ℕ) where
  -- the marks that the corrector is given, and e
  abbrev pub marks_of : List ℕ
  marks_of = flat_marked (word_size l.layers) l.data_words received unread

  abbrev pub erasures : ℕ
  erasures = code.unread marks_of

  -- the corrected block
  abbrev pub nearest_block : Option (List ℕ)
  nearest_block = nearest (size_of (word_size l.layers)) (checks l) (checks l) received marks_of

  abbrev pub stream_walk : List ℕ → items.Reading → Walk
  stream_walk found (items.message text) =
      record { outcome = says l (length text); received = received; unread = unread; found = found; text = text }
  stream_walk found (items.refused x bit) = ended (Faulty (record { fault = x; bit = bit }))

  -- 17, with e and K
  abbrev pub found_walk : Option (List ℕ) → Walk
  found_walk none = ended (Uncorrected erasures (checks l))
  found_walk (some found) = stream_walk found (reading_of l found)

  unfoldable pub block_walk : Walk
  block_walk = found_walk nearest_block

  -- 16, with the conditions that fail in a grid of side n
  abbrev pub lawful_by : Prelude.Option Failed → Walk
  lawful_by None = block_walk
  lawful_by (Some failed) = ended (Unlawful failed)

  unfoldable pub lawful_walk : ℕ → Walk
  lawful_walk n = lawful_by (failed_conditions l.full n l.layers l.data_words)

-- From a grid

abbrev pub layout_of : Bool → ℕ → ℕ → ℕ → Layout
layout_of f L p D = record { full = f; layers = L; position = p; data_words = D }

-- a mark for each word of the block with an unread module
unfoldable pub unread_in : Bool → ℕ → ℕ → List ℕ → List ℕ
unread_in f L p g = tabulate (λ w. unread (word_size L) (block_module f L p g w)) (words f L)

module _ (g : List ℕ) where
  abbrev pub shape_walk : Bool → ℕ → ℕ → ℕ → ℕ → Walk
  shape_walk f n p L D = lawful_walk (layout_of f L p D) (block_words_in f L p g) (unread_in f L p g) n

  -- 15
  abbrev pub mode_walk : Bool → ℕ → ℕ → Option (List ℕ) → Walk
  mode_walk f n p none = ended Mode
  mode_walk f n p (some ms) = shape_walk f n p (said_layers f ms) (said_words f ms)

  -- 14, with the best match count and the positions that have it
  abbrev pub place_walk : Bool → ℕ → Option ℕ → Walk
  place_walk f n none = ended (Unplaced (record { best = best_matches f n g; positions = best_positions f n g }))
  place_walk f n (some p) = mode_walk f n p (mode_in f n p g)

  -- the family decides where the orientation modules are
  unfoldable pub grid_walk : ℕ → Walk
  grid_walk n = let f = looks_full n g in place_walk f n (position f n g)

-- 11 "side is not a shape's", 12 "grid length isn't side²", 13 "a module above 2"
unfoldable pub walk_of : List ℕ → ℕ → Walk
walk_of g n =
    cond (not (is_side n)) (ended Side)
    (cond (not (eqb (length g) (n * n))) (ended Length)
    (cond (not (lawful_modules g)) (ended Module) (grid_walk g n)))

-- What the walk leaves in its work buffers: its words stand at their fronts. Behind them, and after a refusal, the bytes are free.
pub record Left (w : Walk) (received unread found : List ℕ) : Type 0 where
  pub received-left : take (length w.received) received ≡ w.received
  pub unread-left : take (length w.unread) unread ≡ w.unread
  pub found_left : take (length w.found) found ≡ w.found

pub ended-left : (r : Refusal) (received unread found : List ℕ) → Left (ended r) received unread found
ended-left r received unread found = record { received-left = refl; unread-left = refl; found_left = refl }
