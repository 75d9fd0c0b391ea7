-- Computed examples of the items that are read (document 01, "How a grid is read", step 4, and numbers 18 to 20).
-- Assumes nothing.
use Rattle.std.specs.Prelude.{◌≡◌, refl, List, [], ◌∷◌, ◌++◌, map, ℕ, replicate}
use Rattle.list_laws.specs.Range.{all}
use Rattle.stream.specs.declared.items.Fault.TheVariants.{FlatWord, WrongItem, CutShort}
use Rattle.stream.specs.Bits.{bits, value, all_ones}
use Rattle.stream.specs.Codes.{chars, table, row, entry, width}
use Rattle.stream.specs.Stuffing.{flat, word_bits, unstuff_from, unstuff}
use Rattle.stream.specs.Items.{field, complete, bytes_at, count_at, item_by, item_at, bytes_of, stops}
use Rattle.stream.specs.Items.{Reading, message, refused, read_from, read_items, judge}
use Rattle.stream_reader.specs.Written.{written}

-- bits, with B 6, and what is read from them
abbrev Read : Type 0
Read = List ℕ × Reading

unfoldable pub reads : List Read
reads =
    -- 20 "an item cut short": a shift without a code, with 4 bits of one; a character and 3 bits, at the second item's place
    (bits 5 0, refused CutShort 0)
    ∷ (bits 5 0 ++ bits 4 0, refused CutShort 0)
    ∷ (bits 5 2 ++ bits 3 0, refused CutShort 5)
    -- 19 "FLG, whatever follows it; or a shift followed by a whole code that is no character or pair": P/S FLG, P/S U/L, FLG in Punct
    ∷ (bits 5 0 ++ bits 5 0, refused WrongItem 0)
    ∷ (bits 5 0 ++ bits 5 31, refused WrongItem 0)
    ∷ (bits 5 29 ++ bits 5 30 ++ bits 5 0, refused WrongItem 10)
    -- "a shift with its character or pair": P/S CR LF; after U/S the set is Lower again, "Ba"
    ∷ (bits 5 0 ++ bits 5 2, message (13 ∷ 10 ∷ []))
    ∷ (bits 5 28 ++ bits 5 28 ++ bits 5 3 ++ bits 5 2, message (66 ∷ 97 ∷ []))
    -- the other three pairs; the set after a pair is the one before it, by P/S and in Punct itself; after P/S it is again Upper, Lower,
    -- Mixed or Digit, and after U/S Digit
    ∷ (bits 5 0 ++ bits 5 3, message (46 ∷ 32 ∷ []))
    ∷ (bits 5 0 ++ bits 5 4, message (44 ∷ 32 ∷ []))
    ∷ (bits 5 0 ++ bits 5 5, message (58 ∷ 32 ∷ []))
    ∷ (bits 5 0 ++ bits 5 5 ++ bits 5 2, message (58 ∷ 32 ∷ 65 ∷ []))
    ∷ (bits 5 29 ++ bits 5 30 ++ bits 5 3 ++ bits 5 6, message (46 ∷ 32 ∷ 33 ∷ []))
    ∷ (bits 5 0 ++ bits 5 6 ++ bits 5 2, message (33 ∷ 65 ∷ []))
    ∷ (bits 5 28 ++ bits 5 0 ++ bits 5 6 ++ bits 5 2, message (33 ∷ 97 ∷ []))
    ∷ (bits 5 29 ++ bits 5 0 ++ bits 5 6 ++ bits 5 2, message (33 ∷ 1 ∷ []))
    ∷ (bits 5 30 ++ bits 4 0 ++ bits 5 6 ++ bits 4 3, message (33 ∷ 49 ∷ []))
    ∷ (bits 5 30 ++ bits 4 15 ++ bits 5 2 ++ bits 4 3, message (65 ∷ 49 ∷ []))
    -- 19: a shift after a shift, from Lower and from Digit, a latch and B/S after one; and "by the first item at fault"
    ∷ (bits 5 28 ++ bits 5 28 ++ bits 5 0, refused WrongItem 5)
    ∷ (bits 5 30 ++ bits 4 15 ++ bits 5 0, refused WrongItem 5)
    ∷ (bits 5 28 ++ bits 5 28 ++ bits 5 28, refused WrongItem 5)
    ∷ (bits 5 28 ++ bits 5 28 ++ bits 5 31, refused WrongItem 5)
    ∷ (bits 5 0 ++ bits 5 0 ++ bits 3 0, refused WrongItem 0)
    -- 20: after Digit's P/S 4 bits of a code of 5; B/S with 4 bits of its count, with 10 bits of a long one, with 7 bits of a byte, and
    -- with none of 1055 bytes
    ∷ (bits 5 30 ++ bits 4 0 ++ bits 4 0, refused CutShort 5)
    ∷ (bits 5 31 ++ bits 4 1, refused CutShort 0)
    ∷ (bits 5 31 ++ bits 5 0 ++ bits 10 0, refused CutShort 0)
    ∷ (bits 5 31 ++ bits 5 1 ++ bits 7 0, refused CutShort 0)
    ∷ (bits 5 31 ++ bits 5 0 ++ bits 11 1024, refused CutShort 0)
    -- two bytes; the longest short count and the second long one; after B/S the set is Lower again
    ∷ (bits 5 31 ++ bits 5 2 ++ bits 8 7 ++ bits 8 200, message (7 ∷ 200 ∷ []))
    ∷ (bits 5 31 ++ bits 5 31 ++ replicate 248 0, message (replicate 31 0))
    ∷ (bits 5 31 ++ bits 5 0 ++ bits 11 1 ++ replicate 256 0, message (replicate 32 0))
    ∷ (bits 5 28 ++ bits 5 31 ++ bits 5 1 ++ bits 8 7 ++ bits 5 2, message (7 ∷ 97 ∷ []))
    -- "B/S with count and bytes": two bytes, of which one is there; "0 and then 11 bits of count minus 31", 31 zero bytes
    ∷ (bits 5 31 ++ bits 5 2 ++ bits 8 7, refused CutShort 0)
    ∷ (bits 5 31 ++ bits 5 0 ++ bits 11 0 ++ replicate 248 0, message (replicate 31 0))
    -- the item after B/S with one byte starts at bit 5 + 5 + 8, and is cut short
    ∷ (bits 5 31 ++ bits 5 1 ++ bits 8 7 ++ bits 3 0, refused CutShort 18)
    -- "if all remaining bits are 1s and fewer than B, stop": five, and six
    ∷ (replicate 5 1, message [])
    ∷ (replicate 6 1, refused CutShort 0)
    ∷ []

pub items-right : map (λ (r : Read). read_items 6 r.0) reads ≡ map (λ (r : Read). r.1) reads
unfolding reads bits value all_ones chars table row entry width field complete bytes_at count_at item_by item_at bytes_of stops read_from read_items
items-right = refl

-- with B 12, to Punct by M/L P/L, back to Upper by U/L, and ten 1s are left: "Before each item"
pub ones-left : read_items 12 (bits 5 29 ++ bits 5 30 ++ replicate 15 1) ≡ message []
unfolding bits value all_ones chars table row entry width field complete bytes_at count_at item_by item_at bytes_of stops read_from read_items
ones-left = refl

-- 18 "a corrected data word all 0s or all 1s", wherever it stands; "A" is 5
pub judged : map (judge 6) ((5 ∷ 0 ∷ []) ∷ (5 ∷ 63 ∷ []) ∷ (5 ∷ []) ∷ []) ≡ refused FlatWord 0 ∷ refused FlatWord 0 ∷ message (65 ∷ []) ∷ []
unfolding bits value all_ones chars table row entry width field complete bytes_at count_at item_by item_at bytes_of stops read_from read_items
    all flat word_bits unstuff_from unstuff judge
judged = refl

-- and in the first word, and before 19, which alone it is of ten 0s, stuffed, P/S FLG
pub judged-first :
    map (judge 6) ((63 ∷ 5 ∷ []) ∷ (1 ∷ 1 ∷ 63 ∷ []) ∷ (1 ∷ 1 ∷ []) ∷ []) ≡ refused FlatWord 0 ∷ refused FlatWord 0 ∷ refused WrongItem 0 ∷ []
unfolding bits value all_ones chars table row entry width field complete bytes_at count_at item_by item_at bytes_of stops read_from read_items
    all flat word_bits unstuff_from unstuff judge
judged-first = refl

-- "the bit at which the item at fault starts, counted from 0 after the stuffed bits are dropped" (document 02, 6/12). Of 000001 the last
-- bit is stuffed: P/S and 00110, "!", are bits 0 to 9, and the last 0 of 001100 is an item cut short
pub place-unstuffed : judge 6 (1 ∷ 12 ∷ []) ≡ refused CutShort 10
unfolding bits value all_ones chars table row entry width field complete bytes_at count_at item_by item_at bytes_of stops read_from read_items
    all flat word_bits unstuff_from unstuff judge
place-unstuffed = refl

-- "The first bytes of the message buffer are the message; the rest keep their bytes"
pub buffer-after : written (message (65 ∷ [])) (1 ∷ 2 ∷ []) ≡ 65 ∷ 2 ∷ []
buffer-after = refl
