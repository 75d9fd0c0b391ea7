-- A message has no more bytes than its stream has bits, and so a buffer of 19,968 bytes holds every message.
-- Assumes nothing.
use Rattle.std.proofs.Math.Path.{◌≡◌, subst}
use Rattle.std.specs.Prelude.{Result, Ok, Err, Bool, List, [], ◌∷◌, get_or, drop}
use Rattle.std.proofs.Math.Bool.{true, false, not, cond}
use Prim.Native.Nat.{ℕ, zero, suc, ◌+◌, ◌-◌, ◌≤◌, ◌<◌}
use Rattle.std.proofs.Math.Nat.{mul-le-mul}
use native.Mathlib.Omega.{arith}
use Rattle.std.proofs.Math.ListN.{length}
use Rattle.std.proofs.Common.{length-append}
use Rattle.list_laws.specs.Range.{all}
use Rattle.stream.specs.declared.items.Found.{Found}
use Rattle.stream.specs.declared.items.Fault.{Fault}
use Rattle.stream.specs.declared.items.Fault.TheVariants.{FlatWord}
use Rattle.stream.specs.Below.{Bits}
use Rattle.stream.specs.Stuffing.{flat, unstuff_from, unstuff}
use Rattle.stream.specs.StuffingLaws.{unstuff-is-bits, unstuff-length}
use Rattle.stream.specs.Items as items
use Rattle.stream.specs.Items.{Reading, adds, extra, set_after, prepend, proceed, item_at, stops, read_from, read_items, judge}
use Rattle.stream_reader.specs.Scan.{Sound, item-sound, length-adds}

-- a message of at most n bytes, or a refusal
abbrev Most : ℕ → Reading → Type 0
Most n (items.message m) = length m ≤ n
Most n (items.refused k at) = Unit {0}

prepend-most : (n k : ℕ) (o : List ℕ) (r : Reading) → length o + n ≤ k → Most n r → Most k (prepend o r)
prepend-most n k o (items.message m) h l = rw length-append (omega arith)
prepend-most n k o (items.refused x at) h l = tt

-- an item takes at least as many bits as it adds bytes
read-most : (B : ℕ) (l : List ℕ) → Bits l → (k at s : ℕ) → s < 5 → Most (length l - k) (read_from B k at s l)
unfolding read_from
read-most B [] x k at s five = omega arith
read-most B (b ∷ l) x (suc k) at s five =
    subst (λ n. Most n (read_from B k (at + 1) s l)) (let e : length l - k ≡ suc (length l) - suc k = omega arith in e)
    (read-most B l x.1 k (at + 1) s five)
read-most B (b ∷ l) x zero at s five = stop (stops B (b ∷ l)) (read-most B l x.1)
  where
    on : (f : Result Found Fault) → Sound (length (b ∷ l)) s f → ((k at s : ℕ) → s < 5 → Most (length l - k) (read_from B k at s l))
        → Most (length (b ∷ l) - 0) (proceed f at s (b ∷ l) (λ u t. read_from B (u - 1) (at + 1) t l))
    on (Ok f) q ih =
        let k = f.used + extra f.item - 1 in
        prepend-most (length l - k) (length (b ∷ l) - 0) (adds f.item (drop f.used (b ∷ l)))
        (read_from B k (at + 1) (set_after s f.item) l)
        (omega (arith, length-adds f.item (drop f.used (b ∷ l)))) (ih k (at + 1) (set_after s f.item) q.3)
    on (Err x) q ih = tt

    stop : (t : Bool) → ((k at s : ℕ) → s < 5 → Most (length l - k) (read_from B k at s l))
        → Most (length (b ∷ l) - 0)
        (cond t (items.message []) (proceed (item_at s (b ∷ l)) at s (b ∷ l) (λ u t. read_from B (u - 1) (at + 1) t l)))
    stop true ih = omega arith
    stop false ih = on (item_at s (b ∷ l)) (item-sound s five (b ∷ l) x) ih

module _ (B : ℕ) (words text : List ℕ) where
  pub message-length : judge B words ≡ items.message text → length text ≤ length (unstuff B words)
  unfolding judge read_items unstuff
  message-length e = go (all (length words) (λ i. not (flat B (get_or words i 0)))) e
    where
      go : (t : Bool) → cond t (read_from B 0 0 0 (unstuff_from (B - 1) words)) (items.refused FlatWord 0) ≡ items.message text
          → length text ≤ length (unstuff_from (B - 1) words)
      go true e =
          let l = unstuff_from (B - 1) words in
          let m : Most (length l - 0) (items.message text) = subst (Most (length l - 0)) e (read-most B l (unstuff-is-bits (B - 1) words) 0 0 0 (omega arith)) in
          omega arith
      go false e = let z : ◌≡◌ {A = ℕ} 0 1 = cc in absurd (omega arith)

  -- the most words of the largest size
  pub message-most : judge B words ≡ items.message text → length words ≤ 1664 → B ≤ 12 → length text ≤ 19968
  unfolding unstuff
  message-most e h k =
      omega (
        arith,
        message-length e,
        (unstuff-length (B - 1) words).1,
        mul-le-mul {n₁ = length words} {m₁ = suc (B - 1)} {n₂ = 1664} {m₂ = 12} h (omega arith),
      )
