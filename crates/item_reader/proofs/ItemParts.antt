-- Items from the bits that the reader takes: a field of the bits l from bit o on, where r is what follows bit o.
-- Assumes nothing.
use mathlib.Core.Path.{◌≡◌, sym, ap, ap₂, ◌∙◌}
use mathlib.Core.List.{List}
use Prim.Native.Nat.{ℕ, ◌+◌, ◌*◌, ◌≤◌, ◌<◌}
use native.Mathlib.Omega.{arith}
use lib.ListN.{length, take, drop}
use lib.Pow.{pow_mono}
use lib.Seq.{drop-drop}
use Rattle.stream.specs.declared.codes.CodeSet.{CodeSet}
use Rattle.stream.specs.declared.codes.Entry.{Entry}
use Rattle.stream.specs.declared.codes.CodeSet.{CodeSet}
use Rattle.stream.specs.declared.codes.Entry.TheVariants.{Shift}
use Rattle.stream.specs.declared.items.Item.TheVariants.{Raw}
use Rattle.stream.specs.Below.{Bits}
use Rattle.stream.specs.Bits.{value}
use Rattle.stream.specs.Codes.{set_number, entry, width}
use Rattle.stream.specs.CodeLaws.{width-bounds}
use Rattle.stream.specs.Items.{found_item, field, complete, shifted, bytes_at, item_by, item_at}
use Rattle.stream.specs.ItemLaws.{item_by_lem, shift_by}
use Rattle.item_reader.specs.Places.{Taken}
use Rattle.item_reader.proofs.WordParts.{taken-below}

module _ {r r' : List ℕ} {n v : ℕ} (l : List ℕ) (o : ℕ) (e : r ≡ drop o l) (t : Taken r n v r') where
  pub field-says : field l o n ≡ v
  unfolding field
  field-says = ap (λ q. value 0 (take n q)) (sym e) ∙ sym t.says

  pub further : r' ≡ drop (o + n) l
  further = t.left ∙ ap (drop n) e ∙ drop-drop n o l

-- a code of a set is below 32
pub code_below : {r r' : List ℕ} {v : ℕ} (s w : ℕ) → w ≡ width s → Bits r → Taken r w v r' → v < 32
code_below s w e x t = omega (arith, taken-below x t, pow_mono {i = w} {j = 5} (omega (arith, width-bounds s)))

pub raw-by : (l : List ℕ) (o n left : ℕ) → length l ≡ o + left → complete (o + left) (o + 8 * n) (found_item (Raw n) o) ≡ bytes_at l o n
unfolding bytes_at
raw-by l o n left e = ap (λ m. complete m (o + 8 * n) (found_item (Raw n) o)) (sym e)

pub item-found : (l : List ℕ) (s w c : ℕ) (e : Entry) → w ≡ width s → w ≤ length l → field l 0 w ≡ c → entry s c ≡ e → item_by l w e ≡ item_at s l
item-found l s w c e p h f q =
    sym (item_by_lem l s c (omega arith) (ap (field l 0) (sym p) ∙ f) ∙ ap₂ (item_by l) (sym p) q)

pub shift-found : (l : List ℕ) (o w c : ℕ) (t : CodeSet) → w ≡ width (set_number t) → o + w ≤ length l → field l o w ≡ c
    → shifted (entry (set_number t) c) (o + w) ≡ item_by l o (Shift t)
shift-found l o w c t p h f =
    sym (shift_by l o t c (omega arith) (ap (field l o) (sym p) ∙ f) ∙ ap (λ w. shifted (entry (set_number t) c) (o + w)) (sym p))
