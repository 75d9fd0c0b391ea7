-- The reader's items (document 01, "How a grid is read", step 4, and numbers 18 to 20).
-- Assumes nothing.
use Rattle.std.specs.Prelude.{Bool, cond, Result, Ok, Err, not, ◌&&◌, List, [], ◌∷◌, ◌++◌, ℕ, zero, suc, ◌+◌, ◌*◌, ◌-◌, eqb, ltb, leb, length, take, drop, get_or}
use Rattle.list_laws.specs.Range.{all}
use Rattle.stream.specs.declared.codes.Entry.{Entry}
use Rattle.stream.specs.declared.codes.Entry.TheVariants.{Char, Pair, Latch, Shift, Binary, Flag, Missing}
use Rattle.stream.specs.declared.items.Item.{Item}
use Rattle.stream.specs.declared.items.Item.TheVariants.{Single, Double, Turn, Raw}
use Rattle.stream.specs.declared.items.Found.{Found}
use Rattle.stream.specs.declared.items.Fault.{Fault}
use Rattle.stream.specs.declared.items.Fault.TheVariants.{FlatWord, WrongItem, CutShort}
use Rattle.stream.specs.declared.items.Refusal.{Refusal}
use Rattle.stream.specs.Bits.{value, all_ones}
use Rattle.stream.specs.Codes.{set_number, entry, width}
use Rattle.stream.specs.Stuffing.{flat, unstuff}

-- the number of a fault
abbrev pub number_of : Fault → ℕ
number_of FlatWord = 18
number_of WrongItem = 19
number_of CutShort = 20

-- an item is found, whose codes take u bits
abbrev pub found_item : Item → ℕ → Result Found Fault
found_item i u = Ok (record { item = i; used = u })

-- the number in the w bits from bit o on
unfoldable pub field : List ℕ → ℕ → ℕ → ℕ
field l o w = value 0 (take w (drop o l))

-- "it must be complete": cut short, number 20, if it takes n bits and fewer are left
unfoldable pub complete : ℕ → ℕ → Result Found Fault → Result Found Fault
complete left n f = cond (leb n left) f (Err CutShort)

-- after a shift, u bits in all: a character or a pair, else a wrong item, number 19
abbrev pub shifted : Entry → ℕ → Result Found Fault
shifted (Char b) u = found_item (Single b) u
shifted (Pair b c) u = found_item (Double b c) u
shifted (Latch t) u = Err WrongItem
shifted (Shift t) u = Err WrongItem
shifted Binary u = Err WrongItem
shifted Flag u = Err WrongItem
shifted Missing u = Err WrongItem

-- B/S: n bytes from bit o on
unfoldable pub bytes_at : List ℕ → ℕ → ℕ → Result Found Fault
bytes_at l o n = complete (length l) (o + 8 * n) (found_item (Raw n) o)

-- B/S, with its count from bit o on: "5 bits of count 1 to 31, or 0 and then 11 bits of count minus 31"
unfoldable pub count_at : List ℕ → ℕ → Result Found Fault
count_at l o =
    complete (length l) (o + 5)
    (cond (eqb (field l o 5) 0)
    (complete (length l) (o + 16) (bytes_at l (o + 16) (field l (o + 5) 11 + 31)))
    (bytes_at l (o + 5) (field l o 5)))

-- the item that starts with a code of w bits, by the code's entry; FLG is 19, whatever follows it
unfoldable pub item_by : List ℕ → ℕ → Entry → Result Found Fault
item_by l w (Char b) = found_item (Single b) w
item_by l w (Pair b c) = found_item (Double b c) w
item_by l w (Latch t) = found_item (Turn t) w
item_by l w (Shift t) =
    let n = set_number t in
    complete (length l) (w + width n) (shifted (entry n (field l w (width n))) (w + width n))
item_by l w Binary = count_at l w
item_by l w Flag = Err WrongItem
item_by l w Missing = Err WrongItem

-- what stands at the front of the bits l, read in set s
unfoldable pub item_at : ℕ → List ℕ → Result Found Fault
item_at s l = complete (length l) (width s) (item_by l (width s) (entry s (field l 0 (width s))))

unfoldable pub bytes_of : ℕ → List ℕ → List ℕ
bytes_of zero l = []
bytes_of (suc n) l = value 0 (take 8 l) ∷ bytes_of n (drop 8 l)

-- the bytes that an item adds to the message, where l follows its codes
abbrev pub adds : Item → List ℕ → List ℕ
adds (Single b) l = b ∷ []
adds (Double b c) l = b ∷ c ∷ []
adds (Turn t) l = []
adds (Raw n) l = bytes_of n l

-- how many they are
abbrev pub yields : Item → ℕ
yields (Single b) = 1
yields (Double b c) = 2
yields (Turn t) = 0
yields (Raw n) = n

-- the bits after an item's codes that are still the item's
abbrev pub extra : Item → ℕ
extra (Single b) = 0
extra (Double b c) = 0
extra (Turn t) = 0
extra (Raw n) = 8 * n

-- the set after an item: a shift and B/S go back to the set before
abbrev pub set_after : ℕ → Item → ℕ
set_after s (Single b) = s
set_after s (Double b c) = s
set_after s (Turn t) = set_number t
set_after s (Raw n) = s

-- "if all remaining bits are 1s and fewer than B, stop"
unfoldable pub stops : ℕ → List ℕ → Bool
stops B l = all_ones l && ltb (length l) B

-- a message, or the fault and the bit place of the item at fault, counted from 0 after the stuffed bits are dropped
pub data Reading : Type 0 where
  message : List ℕ → Reading
  refused : (fault : Fault) (place : ℕ) → Reading

abbrev pub prepend : List ℕ → Reading → Reading
prepend o (message m) = message (o ++ m)
prepend o (refused x at) = refused x at

-- what is found at bit `at` is read in set s, and f goes on, so many bits further and in a set
abbrev pub proceed : Result Found Fault → ℕ → ℕ → List ℕ → (ℕ → ℕ → Reading) → Reading
proceed (Ok x) at s l f = prepend (adds x.item (drop x.used l)) (f (x.used + extra x.item) (set_after s x.item))
proceed (Err x) at s l f = refused x at

-- the bits from bit `at` on, the first k of which are still of the item before
unfoldable pub read_from : ℕ → ℕ → ℕ → ℕ → List ℕ → Reading
read_from B k at s [] = message []
read_from B (suc k) at s (b ∷ l) = read_from B k (at + 1) s l
read_from B zero at s (b ∷ l) =
    let on = proceed (item_at s (b ∷ l)) at s (b ∷ l) (λ u t. read_from B (u - 1) (at + 1) t l) in
    cond (stops B (b ∷ l)) (message []) on

-- "drop the stuffed bits and read items": the items of the bits l
unfoldable pub read_items : ℕ → List ℕ → Reading
read_items B l = read_from B 0 0 0 l

-- what corrected data words say: number 18 if a word is all 0s or all 1s, else the reading of their items
unfoldable pub judge : ℕ → List ℕ → Reading
judge B words = cond (all (length words) (λ i. not (flat B (get_or words i 0)))) (read_items B (unstuff B words)) (refused FlatWord 0)

-- what a reader answers of a reading: the message's length, or the refusal
abbrev pub verdict_of : Reading → Result ℕ Refusal
verdict_of (message m) = Ok (length m)
verdict_of (refused x at) = Err (record { fault = x; bit = at })
