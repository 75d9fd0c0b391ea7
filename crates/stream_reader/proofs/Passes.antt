-- The reader's loop over items: what a step of it reads, at bit `at` of the stream l, and a test of all words.
-- Assumes nothing.
use Rattle.std.specs.Prelude.{Ok, Err}
use Rattle.std.specs.List.{list_all}
use Rattle.std.proofs.Math.Bool.{and-true}
use mathlib.Core.Path.{◌≡◌, refl, sym, ap, ◌∙◌}
use mathlib.Core.Bool.{Bool, true, false, ◌&&◌}
use mathlib.Core.List.{List, [], ◌∷◌}
use Prim.Native.Nat.{ℕ, zero, suc, ◌+◌, ◌-◌, ◌≤◌, ◌<◌}
use native.Mathlib.Omega.{arith}
use lib.ListN.{length, get_or, drop, length-drop}
use Rattle.list_laws.specs.Range.{all}
use Rattle.stream.specs.declared.items.Item.{Item}
use Rattle.stream.specs.declared.items.Fault.{Fault}
use Rattle.stream.specs.Below.{Bits}
use Rattle.stream.specs.Stuffing.{unstuff_from}
use Rattle.stream.specs.Ones.{and_assoc}
use Rattle.stream.specs.Items.{found_item, adds, yields, extra, set_after, stops, item_at, read_items, verdict_of}
use Rattle.item_reader.specs.Places.{rest, Stands}
use Rattle.stream_reader.specs.Scan.{Counted, counted-more, length-adds, scan-item, scan-fault, scan-stop}

all-first : (n : ℕ) (p : ℕ → Bool) → p zero && all n (λ i. p (suc i)) ≡ all (suc n) p
unfolding all
all-first zero p = and-true (p zero)
all-first (suc n) p =
    sym (and_assoc (p zero) (all n (λ i. p (suc i))) (p (suc n))) ∙ ap (λ t. t && p (suc n)) (all-first n p)

-- a test of each word, by its index
pub all-words : (p : ℕ → Bool) (xs : List ℕ) → list_all p xs ≡ all (length xs) (λ i. p (get_or xs i 0))
unfolding all
all-words p [] = refl
all-words p (x ∷ xs) = ap (λ t. p x && t) (all-words p xs) ∙ all-first (length xs) (λ i. p (get_or (x ∷ xs) i 0))

-- at bit `at`, which is bit j of word w, what is left of all bits are those of the words from there on
pub bits_left : (h : ℕ) (words : List ℕ) (at w j : ℕ) → Stands h words at w j → (total : ℕ) → total ≡ length (unstuff_from h words)
    → total - at ≡ length (rest h words w j)
bits_left h words at w j s total e = omega (arith, s.within, ap length s.here, length-drop at (unstuff_from h words))

module _ (B : ℕ) (some : 0 < B) (small : B ≤ 12) (l : List ℕ) (x : Bits l) (at s n : ℕ) (k : Counted B l at s n) where
  -- an item more
  pub counted-item : (i : Item) (u at' s' m : ℕ) → stops B (drop at l) ≡ false → item_at s (drop at l) ≡ found_item i u
      → at' ≡ at + (u + extra i) → s' ≡ set_after s i → m ≡ yields i
      → (1 ≤ u) × (at' ≤ length l) × (n + m ≤ length l) × Counted B l at' s' (n + m)
  counted-item i u at' s' m v e a q o =
      let r = scan-item B some small l x at s k.done k.read i u v e in
      let next = counted-more (yields i) (adds i (drop u (drop at l))) k (length-adds i (drop u (drop at l))) r.1 in
      rw (a, q, o) (r.0, next.read.within, omega (arith, next.read.within, next.read.few, next.size), next)

  pub counted-fault : (f : Fault) → stops B (drop at l) ≡ false → item_at s (drop at l) ≡ Err f
      → Err (record { fault = f; bit = at }) ≡ verdict_of (read_items B l)
  counted-fault f v e = sym (ap verdict_of (scan-fault B some small l x at s k.done k.read f v e))

  pub counted_stop : stops B (drop at l) ≡ true → Ok n ≡ verdict_of (read_items B l)
  counted_stop e = ap Ok (sym k.size) ∙ sym (ap verdict_of (scan-stop B some small l x at s k.done k.read e))
