-- Items by the reader's branches: what stands at the front of the bits l, as the code finds it out, field by field.
-- Assumes nothing.
use Rattle.std.specs.Prelude.{◌≡◌, ◌≢◌, Result, Err, List, ℕ, ◌+◌, ◌*◌, ◌^◌, ◌≤◌, ◌<◌, eqb, length, take, drop}
use Rattle.std.proofs.Math.Path.{ap}
use Rattle.std.proofs.Common.{◌∙◌, arith, length-take, pow_mono, le-leb, ne_eqb}
use Rattle.std.proofs.Math.Bool.{cond}
use Rattle.std.proofs.lemmas.Bool.{lt-leb}
use Rattle.stream.specs.declared.codes.CodeSet.{CodeSet}
use Rattle.stream.specs.declared.codes.Entry.TheVariants.{Shift}
use Rattle.stream.specs.declared.items.Item.TheVariants.{Raw}
use Rattle.stream.specs.declared.items.Found.{Found}
use Rattle.stream.specs.declared.items.Fault.{Fault}
use Rattle.stream.specs.declared.items.Fault.TheVariants.{CutShort}
use Rattle.stream.specs.Below.{Bits, below-take, below-drop}
use Rattle.stream.specs.Bits.{value-below}
use Rattle.stream.specs.Codes.{set_number, entry, width}
use Rattle.stream.specs.Items.{found_item, field, complete, shifted, bytes_at, count_at, item_by, item_at}

pub field_below : (l : List ℕ) (o w : ℕ) → Bits l → field l o w < 2 ^ w
unfolding field
field_below l o w x =
    let f = take w (drop o l) in
    let short : length f ≤ w = rw length-take (omega arith) in
    omega (arith, value-below f (below-take 2 w (drop o l) (below-drop 2 o l x)), pow_mono {i = length f} {j = w} short)

pub whole : (left n : ℕ) (f : Result Found Fault) → n ≤ left → complete left n f ≡ f
unfolding complete
whole left n f h = ap (λ t. cond t f (Err CutShort)) (le-leb n left h)

pub cut_short : (left n : ℕ) (f : Result Found Fault) → left < n → complete left n f ≡ Err CutShort
unfolding complete
cut_short left n f h = ap (λ t. cond t f (Err CutShort)) (lt-leb n left h)

module _ (l : List ℕ) where
  pub item-cut : (s : ℕ) → length l < width s → item_at s l ≡ Err CutShort
  unfolding item_at
  item-cut s h = cut_short (length l) (width s) _ h

  pub item_by_lem : (s c : ℕ) → width s ≤ length l → field l 0 (width s) ≡ c → item_at s l ≡ item_by l (width s) (entry s c)
  unfolding item_at
  item_by_lem s c h e = whole (length l) (width s) _ h ∙ ap (λ c. item_by l (width s) (entry s c)) e

  pub shift-cut : (w : ℕ) (t : CodeSet) → length l < w + width (set_number t) → item_by l w (Shift t) ≡ Err CutShort
  unfolding item_by
  shift-cut w t h = cut_short (length l) (w + width (set_number t)) _ h

  pub shift_by : (w : ℕ) (t : CodeSet) (c : ℕ) → (let n = set_number t in w + width n ≤ length l → field l w (width n) ≡ c
      → item_by l w (Shift t) ≡ shifted (entry n c) (w + width n))
  unfolding item_by
  shift_by w t c h e = let n = set_number t in whole (length l) (w + width n) _ h ∙ ap (λ c. shifted (entry n c) (w + width n)) e

  pub bytes_cut : (o n : ℕ) → length l < o + 8 * n → bytes_at l o n ≡ Err CutShort
  unfolding bytes_at
  bytes_cut o n h = cut_short (length l) (o + 8 * n) _ h

  pub bytes-by : (o n : ℕ) → o + 8 * n ≤ length l → bytes_at l o n ≡ found_item (Raw n) o
  unfolding bytes_at
  bytes-by o n h = whole (length l) (o + 8 * n) _ h

  module _ (o : ℕ) where
    pub count_cut : length l < o + 5 → count_at l o ≡ Err CutShort
    unfolding count_at
    count_cut h = cut_short (length l) (o + 5) _ h

    long : Result Found Fault
    long = complete (length l) (o + 16) (bytes_at l (o + 16) (field l (o + 5) 11 + 31))

    -- by the test whether the short count is 0
    count-is : (n : ℕ) → o + 5 ≤ length l → field l o 5 ≡ n → count_at l o ≡ cond (eqb n 0) long (bytes_at l (o + 5) n)
    unfolding count_at long
    count-is n h e = whole (length l) (o + 5) _ h ∙ ap (λ n. cond (eqb n 0) long (bytes_at l (o + 5) n)) e

    pub short-by : (n : ℕ) → o + 5 ≤ length l → field l o 5 ≡ n → n ≢ 0 → count_at l o ≡ bytes_at l (o + 5) n
    short-by n h e z = count-is n h e ∙ ap (λ t. cond t long (bytes_at l (o + 5) n)) (ne_eqb n 0 z)

    pub long-cut : o + 5 ≤ length l → field l o 5 ≡ 0 → length l < o + 16 → count_at l o ≡ Err CutShort
    unfolding long
    long-cut h e g = count-is 0 h e ∙ cut_short (length l) (o + 16) _ g

    pub long-by : (n : ℕ) → o + 16 ≤ length l → field l o 5 ≡ 0 → field l (o + 5) 11 ≡ n → count_at l o ≡ bytes_at l (o + 16) (n + 31)
    unfolding long
    long-by n h e d = count-is 0 (omega arith) e ∙ whole (length l) (o + 16) _ h ∙ ap (λ n. bytes_at l (o + 16) (n + 31)) d
