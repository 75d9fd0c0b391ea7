-- Worked examples, no part of what the crate promises: the standard's annex G, and the digit tail of "Easy errors to shut out". Document
-- 01's cases for words, marked P, are in the crate worked_cases.
-- Assumes nothing.
use Rattle.std.specs.Prelude.{◌≡◌, refl, List, [], ◌∷◌, ◌++◌, map, ℕ, replicate}
use Rattle.stream.specs.declared.items.Fault.TheVariants.{FlatWord, WrongItem, CutShort}
use Rattle.stream.specs.Bits.{bits, value, all_ones}
use Rattle.stream.specs.Codes.{chars, table, row, entry, width}
use Rattle.stream.specs.Stuffing.{flat, word_bits, unstuff_from, unstuff}
use Rattle.stream.specs.Items.{field, complete, bytes_at, count_at, item_by, item_at, bytes_of, stops}
use Rattle.stream.specs.Items.{number_of, Reading, message, refused, read_from, read_items}

-- the bits of words of a size, and what is read from them
pub record Read : Type 0 where
  pub size : ℕ
  pub bits : List ℕ
  pub says : Reading

-- annex G, "Code 2D!"; with B 12 a latch to Digit and eleven 1s, where the reading stops, or twelve: U/S and then B/S, no character
unfoldable pub reads : List Read
unfolding unstuff unstuff_from word_bits flat bits
reads =
    record {
      size = 6;
      bits = unstuff 6 (9 ∷ 50 ∷ 1 ∷ 41 ∷ 47 ∷ 2 ∷ 39 ∷ 37 ∷ 1 ∷ 27 ∷ []);
      says = message (67 ∷ 111 ∷ 100 ∷ 101 ∷ 32 ∷ 50 ∷ 68 ∷ 33 ∷ []);
    }
    ∷ record { size = 12; bits = bits 5 30 ++ replicate 11 1; says = message [] }
    ∷ record { size = 12; bits = bits 5 30 ++ replicate 12 1; says = refused WrongItem 5 }
    ∷ []

pub reads-right : map (λ (r : Read). read_items r.size r.bits) reads ≡ map (λ (r : Read). r.says) reads
unfolding reads bits value all_ones chars table row entry width field complete bytes_at count_at item_by item_at bytes_of stops read_from read_items
reads-right = refl

-- "18: a corrected data word of all 0s or all 1s", 19 no item, 20 an item cut short
pub numbers : map number_of (FlatWord ∷ WrongItem ∷ CutShort ∷ []) ≡ 18 ∷ 19 ∷ 20 ∷ []
numbers = refl
