-- The reader's loop over items: what each item leaves to read, and what has been read so far.
-- Assumes nothing.
use Rattle.std.specs.Prelude.{◌≡◌, Result, Ok, Err, Bool, cond, List, [], ◌∷◌, ◌++◌, ℕ, zero, suc, ◌+◌, ◌*◌, ◌≤◌, ◌<◌, eqb, leb, length, take, drop}
use Rattle.std.proofs.Math.Path.{refl}
use Rattle.std.proofs.Common.{sym, ap, ap₂, ◌∙◌, subst, append_assoc, append-nil, add-zero, add_assoc, add-one, length-append, length-drop, drop-drop, leb-true}
use Rattle.std.proofs.Math.Bool.{true, false}
use native.Mathlib.Omega.{arith}
use Rattle.std.proofs.Math.Pow.{pow_mono}
use Rattle.stream.specs.declared.codes.CodeSet.{CodeSet}
use Rattle.stream.specs.declared.codes.Entry.{Entry}
use Rattle.stream.specs.declared.codes.Entry.TheVariants.{Char, Pair, Latch, Shift, Binary, Flag, Missing}
use Rattle.stream.specs.declared.items.Item.{Item}
use Rattle.stream.specs.declared.items.Item.TheVariants.{Single, Double, Turn, Raw}
use Rattle.stream.specs.declared.items.Found.{Found}
use Rattle.stream.specs.declared.items.Fault.{Fault}
use Rattle.stream.specs.declared.items.Fault.TheVariants.{CutShort}
use Rattle.stream.specs.Below.{Bits, below-drop}
use Rattle.stream.specs.Bits.{value}
use Rattle.stream.specs.Codes.{set_number, set-number-below, entry, width}
use Rattle.stream.specs.Items.{found_item, Reading, message, refused, prepend, stops, read_from, read_items}
use Rattle.stream.specs.Items.{field, complete, shifted, bytes_at, count_at, item_by, item_at, bytes_of, adds, yields, extra, set_after}
use Rattle.stream.specs.CodeLaws.{width-bounds}
use Rattle.stream.specs.ItemLaws.{field_below}
use Rattle.stream.specs.ReadingLaws.{Live, read-item, read-fault, read-stop}

-- an item in set s, where `left` bits are left: it takes bits, no more than there are and no fewer than its bytes, and leads to a set
abbrev pub Sound : ℕ → ℕ → Result Found Fault → Type 0
Sound left s (Ok f) =
    (1 ≤ f.used) × (f.used + extra f.item ≤ left) × (yields f.item ≤ f.used + extra f.item) × (set_after s f.item < 5)
Sound left s (Err x) = Unit {0}

complete-sound : (left s n : ℕ) (f : Result Found Fault) → (n ≤ left → Sound left s f) → Sound left s (complete left n f)
unfolding complete
complete-sound left s n f g = go (leb n left) refl
  where
    go : (t : Bool) → leb n left ≡ t → Sound left s (cond t f (Err CutShort))
    go true e = g (leb-true n left e)
    go false e = tt

module _ (s : ℕ) (five : s < 5) where
  shifted-sound : (left u : ℕ) (e : Entry) → 2 ≤ u → u ≤ left → Sound left s (shifted e u)
  shifted-sound left u (Char b) h g = omega arith
  shifted-sound left u (Pair b c) h g = omega arith
  shifted-sound left u (Latch t) h g = tt
  shifted-sound left u (Shift t) h g = tt
  shifted-sound left u Binary h g = tt
  shifted-sound left u Flag h g = tt
  shifted-sound left u Missing h g = tt

  bytes-sound : (l : List ℕ) (o n : ℕ) → 1 ≤ o → Sound (length l) s (bytes_at l o n)
  unfolding bytes_at
  bytes-sound l o n h = complete-sound (length l) s (o + 8 * n) (found_item (Raw n) o) (λ g. omega arith)

  count-sound : (l : List ℕ) (o : ℕ) → Sound (length l) s (count_at l o)
  unfolding count_at
  count-sound l o = complete-sound (length l) s (o + 5) _ (λ h. go (eqb (field l o 5) 0))
    where
      go : (t : Bool) → Sound (length l) s
          (cond t (complete (length l) (o + 16) (bytes_at l (o + 16) (field l (o + 5) 11 + 31))) (bytes_at l (o + 5) (field l o 5)))
      go true = complete-sound (length l) s (o + 16) _ (λ h. bytes-sound l (o + 16) (field l (o + 5) 11 + 31) (omega arith))
      go false = bytes-sound l (o + 5) (field l o 5) (omega arith)

  entry-sound : (l : List ℕ) (w c : ℕ) (e : Entry) → entry s c ≡ e → c < 32 → 2 ≤ w → w ≤ length l → Sound (length l) s (item_by l w e)
  unfolding item_by
  entry-sound l w c (Char b) q k h g = omega arith
  entry-sound l w c (Pair x y) q k h g = omega arith
  entry-sound l w c (Latch t) q k h g = let known = set-number-below t in omega arith
  entry-sound l w c (Shift t) q k h g =
      let n = set_number t in
      let u = w + width n in
      complete-sound (length l) s u _ (λ f. shifted-sound (length l) u (entry n (field l w (width n))) (omega arith) f)
  entry-sound l w c Binary q k h g = count-sound l w
  entry-sound l w c Flag q k h g = tt
  entry-sound l w c Missing q k h g = tt

  pub item-sound : (l : List ℕ) → Bits l → Sound (length l) s (item_at s l)
  unfolding item_at
  item-sound l x =
      complete-sound (length l) s (width s) _ λ g.
      let c = field l 0 (width s) in
      let below : c < 32 = omega (arith, field_below l 0 (width s) x, pow_mono {i = width s} {j = 5} (width-bounds s).1) in
      entry-sound l (width s) c (entry s c) refl below (omega (arith, width-bounds s)) g

pub length-bytes_of : (n : ℕ) (l : List ℕ) → length (bytes_of n l) ≡ n
unfolding bytes_of
length-bytes_of zero l = refl
length-bytes_of (suc n) l = ap suc (length-bytes_of n (drop 8 l))

pub length-adds : (i : Item) (l : List ℕ) → length (adds i l) ≡ yields i
length-adds (Single b) l = refl
length-adds (Double b c) l = refl
length-adds (Turn t) l = refl
length-adds (Raw n) l = length-bytes_of n l

-- one byte more of a part
pub bytes-more : (i : ℕ) (l : List ℕ) → bytes_of (i + 1) l ≡ bytes_of i l ++ value 0 (take 8 (drop (8 * i) l)) ∷ []
unfolding bytes_of
bytes-more i l = ap (λ n. bytes_of n l) (add-one i) ∙ go i l
  where
    go : (i : ℕ) (l : List ℕ) → bytes_of (suc i) l ≡ bytes_of i l ++ value 0 (take 8 (drop (8 * i) l)) ∷ []
    go zero l = refl
    go (suc i) l =
        let far = drop-drop (8 * i) 8 l ∙ ap (λ n. drop n l) (let e : 8 + 8 * i ≡ 8 * suc i = omega arith in e) in
        ap (λ q. value 0 (take 8 l) ∷ q) (go i (drop 8 l) ∙ ap (λ q. bytes_of i (drop 8 l) ++ value 0 (take 8 q) ∷ []) far)

prepend-twice : (a b : List ℕ) (r : Reading) → prepend a (prepend b r) ≡ prepend (a ++ b) r
prepend-twice a b (message m) = ap message (sym (append_assoc a b m))
prepend-twice a b (refused n at) = refl

prepend-none : (r : Reading) → r ≡ prepend [] r
prepend-none (message m) = refl
prepend-none (refused n at) = refl

-- the bytes `done` are read, and the rest is to be read from bit `at` in set s
pub record Scanned (B : ℕ) (l : List ℕ) (at s : ℕ) (done : List ℕ) : Type 0 where
  pub within : at ≤ length l
  pub set : s < 5
  pub few : length done ≤ at
  pub says : read_items B l ≡ prepend done (read_from B 0 at s (drop at l))

module _ (B : ℕ) (some : 0 < B) (small : B ≤ 12) (l : List ℕ) (x : Bits l) where
  pub scan-start : Scanned B l 0 0 []
  unfolding read_items
  scan-start = record { within = omega arith; set = omega arith; few = omega arith; says = prepend-none (read_from B 0 0 0 l) }

  module _ (at s : ℕ) (done : List ℕ) (k : Scanned B l at s done) where
    -- an item more
    pub scan-item : (i : Item) (u : ℕ) → Live B (drop at l) → item_at s (drop at l) ≡ found_item i u
        → (1 ≤ u) × Scanned B l (at + (u + extra i)) (set_after s i) (done ++ adds i (drop u (drop at l)))
    scan-item i u v e =
        let left = length (drop at l) in
        let sound : Sound left s (found_item i u) = subst (Sound left s) e (item-sound s k.set (drop at l) (below-drop 2 at l x)) in
        let n = u + extra i in (
          sound.0,
          record {
            within = omega (arith, k.within, length-drop at l);
            set = sound.3;
            few = rw length-append (omega (arith, k.few, length-adds i (drop u (drop at l))));
            says = k.says
                ∙ ap (prepend done) (read-item B some small (drop at l) at s u i v e sound.0)
                ∙ prepend-twice done (adds i (drop u (drop at l))) (read_from B 0 (at + n) (set_after s i) (drop n (drop at l)))
                ∙ ap (λ q. prepend (done ++ adds i (drop u (drop at l))) (read_from B 0 (at + n) (set_after s i) q)) (drop-drop n at l);
          },
        )

    -- by the kind of item
    pub scan-single : (b u : ℕ) → Live B (drop at l) → item_at s (drop at l) ≡ found_item (Single b) u
        → (1 ≤ u) × Scanned B l (at + u) s (done ++ b ∷ [])
    scan-single b u v e = let r = scan-item (Single b) u v e in (r.0, rw add-zero at r.1)

    pub scan-double : (b c u : ℕ) → Live B (drop at l) → item_at s (drop at l) ≡ found_item (Double b c) u
        → (1 ≤ u) × Scanned B l (at + u) s (done ++ b ∷ c ∷ [])
    scan-double b c u v e = let r = scan-item (Double b c) u v e in (r.0, rw add-zero at r.1)

    pub scan-turn : (t : CodeSet) (u : ℕ) → Live B (drop at l) → item_at s (drop at l) ≡ found_item (Turn t) u → (1 ≤ u) × Scanned B l (at + u) (set_number t) done
    scan-turn t u v e = let r = scan-item (Turn t) u v e in (r.0, rw (add-zero, append-nil) at r.1)

    pub scan-raw : (n u : ℕ) → Live B (drop at l) → item_at s (drop at l) ≡ found_item (Raw n) u
        → (1 ≤ u) × Scanned B l (at + u + 8 * n) s (done ++ bytes_of n (drop (at + u) l))
    scan-raw n u v e = let r = scan-item (Raw n) u v e in (r.0, rw (← add_assoc, drop-drop) at r.1)

    pub scan-fault : (n : Fault) → Live B (drop at l) → item_at s (drop at l) ≡ Err n → read_items B l ≡ refused n at
    scan-fault n v e = k.says ∙ ap (prepend done) (read-fault B some small (drop at l) at s n v e)

    pub scan-stop : stops B (drop at l) ≡ true → read_items B l ≡ message done
    scan-stop e = k.says ∙ ap (prepend done) (read-stop B some small (drop at l) at s e) ∙ ap message (append-nil done)

-- as many bytes are read: for a loop that counts the message's length
pub record Counted (B : ℕ) (l : List ℕ) (at s n : ℕ) : Type 0 where
  pub done : List ℕ
  pub size : length done ≡ n
  pub read : Scanned B l at s done

pub counted-more : {B at s n at' s' : ℕ} {l : List ℕ} (m : ℕ) (o : List ℕ) (k : Counted B l at s n) → length o ≡ m
    → Scanned B l at' s' (k.done ++ o) → Counted B l at' s' (n + m)
counted-more m o k e r = record { done = k.done ++ o; size = length-append k.done o ∙ ap₂ ◌+◌ k.size e; read = r }
