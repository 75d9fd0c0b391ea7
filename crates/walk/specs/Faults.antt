-- The number and the bit of data words that say no message: 18 and bit 0, or 19 or 20 and a bit that they reach.
-- Assumes nothing.
use Rattle.std.specs.Prelude.{◌≡◌, Result, Ok, Err, refl, ◌⊎◌, Bool, cond, List, [], ◌∷◌, eqb, leb, get_or, drop}
use Rattle.std.proofs.Common.{subst, inr}
use Rattle.std.proofs.Math.Logic.{inl, ⊎_elim}
use Rattle.std.proofs.Math.Bool.{true, false, not}
use Prim.Native.Nat.{ℕ, zero, suc, ◌+◌, ◌-◌, ◌≤◌}
use Rattle.std.proofs.Math.Nat.{mul-le-mul}
use native.Mathlib.Omega.{arith}
use Rattle.std.proofs.Math.ListN.{length}
use Rattle.list_laws.specs.Range.{all}
use Rattle.stream.specs.declared.codes.Entry.{Entry}
use Rattle.stream.specs.declared.codes.Entry.TheVariants.{Char, Pair, Latch, Shift, Binary, Flag, Missing}
use Rattle.stream.specs.declared.items.Item.TheVariants.{Raw}
use Rattle.stream.specs.declared.items.Found.{Found}
use Rattle.stream.specs.declared.items.Fault.{Fault}
use Rattle.stream.specs.declared.items.Fault.TheVariants.{FlatWord, CutShort}
use Rattle.stream.specs.Codes.{set_number, entry, width}
use Rattle.stream.specs.Stuffing.{flat, unstuff_from, unstuff}
use Rattle.stream.specs.StuffingLaws.{unstuff-length}
use Rattle.stream.specs.Items as items
use Rattle.stream.specs.Items.{number_of, found_item, field, complete, shifted, bytes_at, count_at, item_by, item_at}
use Rattle.stream.specs.Items.{Reading, adds, extra, set_after, prepend, proceed, stops, read_from, read_items, judge}

-- an item's fault has number 19 or 20

abbrev Numbered : Result Found Fault → Type 0
Numbered (Ok f) = Unit {0}
Numbered (Err x) = (number_of x ≡ 19) ⊎ (number_of x ≡ 20)

pick : (b : Bool) (f g : Result Found Fault) → Numbered f → Numbered g → Numbered (cond b f g)
pick true f g p q = p
pick false f g p q = q

complete-numbered : (left n : ℕ) (f : Result Found Fault) → Numbered f → Numbered (complete left n f)
unfolding complete
complete-numbered left n f h = pick (leb n left) f (Err CutShort) h (inr refl)

shifted-numbered : (e : Entry) (u : ℕ) → Numbered (shifted e u)
shifted-numbered (Char b) u = tt
shifted-numbered (Pair b c) u = tt
shifted-numbered (Latch t) u = inl refl
shifted-numbered (Shift t) u = inl refl
shifted-numbered Binary u = inl refl
shifted-numbered Flag u = inl refl
shifted-numbered Missing u = inl refl

count-numbered : (l : List ℕ) (o : ℕ) → Numbered (count_at l o)
unfolding count_at bytes_at
count-numbered l o =
    complete-numbered (length l) (o + 5) _ (pick (eqb (field l o 5) 0) _ _
    (complete-numbered (length l) (o + 16) _ (complete-numbered (length l) _ (found_item (Raw (field l (o + 5) 11 + 31)) (o + 16)) tt))
    (complete-numbered (length l) _ (found_item (Raw (field l o 5)) (o + 5)) tt))

item-by-numbered : (l : List ℕ) (w : ℕ) (e : Entry) → Numbered (item_by l w e)
unfolding item_by
item-by-numbered l w (Char b) = tt
item-by-numbered l w (Pair b c) = tt
item-by-numbered l w (Latch t) = tt
item-by-numbered l w (Shift t) = complete-numbered (length l) _ _ (let n = set_number t in shifted-numbered (entry n (field l w (width n))) (w + width n))
item-by-numbered l w Binary = count-numbered l w
item-by-numbered l w Flag = inl refl
item-by-numbered l w Missing = inl refl

item-numbered : (s : ℕ) (l : List ℕ) → Numbered (item_at s l)
unfolding item_at
item-numbered s l = complete-numbered (length l) (width s) _ (item-by-numbered l (width s) (entry s (field l 0 (width s))))

-- and its bit is no further than the bits reach

abbrev Faulted : ℕ → Reading → Type 0
Faulted n (items.message m) = Unit {0}
Faulted n (items.refused x bit) = ((number_of x ≡ 19) ⊎ (number_of x ≡ 20)) × (bit ≤ n)

prepend-faulted : (n : ℕ) (o : List ℕ) (r : Reading) → Faulted n r → Faulted n (prepend o r)
prepend-faulted n o (items.message m) h = tt
prepend-faulted n o (items.refused k bit) h = h

read-faulted : (B : ℕ) (l : List ℕ) (k at s : ℕ) → Faulted (at + length l) (read_from B k at s l)
unfolding read_from
read-faulted B [] k at s = tt
read-faulted B (b ∷ l) (suc k) at s =
    subst (λ n. Faulted n (read_from B k (at + 1) s l)) (let e : at + 1 + length l ≡ at + suc (length l) = omega arith in e)
    (read-faulted B l k (at + 1) s)
read-faulted B (b ∷ l) zero at s = stop (stops B (b ∷ l)) (λ k t. read-faulted B l k (at + 1) t)
  where
    on : (f : Result Found Fault) → Numbered f → ((k s : ℕ) → Faulted (at + 1 + length l) (read_from B k (at + 1) s l))
        → Faulted (at + length (b ∷ l)) (proceed f at s (b ∷ l) (λ u t. read_from B (u - 1) (at + 1) t l))
    on (Ok f) h ih =
        let k = f.used + extra f.item - 1 in
        let t = set_after s f.item in
        prepend-faulted (at + length (b ∷ l)) (adds f.item (drop f.used (b ∷ l))) (read_from B k (at + 1) t l)
        (subst (λ n. Faulted n (read_from B k (at + 1) t l))
        (let e : at + 1 + length l ≡ at + suc (length l) = omega arith in e) (ih k t))
    on (Err x) h ih = (h, omega arith)

    stop : (t : Bool) → ((k s : ℕ) → Faulted (at + 1 + length l) (read_from B k (at + 1) s l))
        → Faulted (at + length (b ∷ l))
        (cond t (items.message []) (proceed (item_at s (b ∷ l)) at s (b ∷ l) (λ u t. read_from B (u - 1) (at + 1) t l)))
    stop true ih = tt
    stop false ih = on (item_at s (b ∷ l)) (item-numbered s (b ∷ l)) ih

-- so data words are refused by one of three numbers

abbrev pub Refusal : ℕ → ℕ → ℕ → Type 0
Refusal n k bit = ((k ≡ 18) × (bit ≡ 0)) ⊎ (((k ≡ 19) ⊎ (k ≡ 20)) × (bit ≤ n))

abbrev RefusedBy : ℕ → Reading → Type 0
RefusedBy n (items.message m) = Unit {0}
RefusedBy n (items.refused x bit) = Refusal n (number_of x) bit

faulted-refused : (n : ℕ) (r : Reading) → Faulted (0 + n) r → RefusedBy n r
faulted-refused n (items.message m) h = tt
faulted-refused n (items.refused k bit) h = inr (h.0, omega (arith, h.1))

module _ (B : ℕ) (words : List ℕ) {x : Fault} {bit : ℕ} (e : judge B words ≡ items.refused x bit) where
  pub refusal : Refusal (length (unstuff B words)) (number_of x) bit
  refusal = subst (RefusedBy (length (unstuff B words))) e judged
    where
      judged : RefusedBy (length (unstuff B words)) (judge B words)
      judged = unfold judge read_items in go (all (length words) (λ i. not (flat B (get_or words i 0))))
        where
          go : (t : Bool) → RefusedBy (length (unstuff B words)) (cond t (read_from B 0 0 0 (unstuff B words)) (items.refused FlatWord 0))
          go true = faulted-refused _ (read_from B 0 0 0 (unstuff B words)) (read-faulted B (unstuff B words) 0 0 0)
          go false = inl (refl, refl)

  -- the most words of the largest size
  pub bit-most : length words ≤ 1664 → B ≤ 12 → bit ≤ 19968
  unfolding unstuff
  bit-most h b = ⊎_elim (λ x. omega (arith, x.1)) (λ x. omega (arith, x.1, few)) refusal
    where
      few : length (unstuff_from (B - 1) words) ≤ 19968
      few =
          omega (
            arith,
            (unstuff-length (B - 1) words).1,
            mul-le-mul {n₁ = length words} {m₁ = suc (B - 1)} {n₂ = 1664} {m₂ = 12} h (omega arith),
          )
