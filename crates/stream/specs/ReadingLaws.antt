-- The reader's steps: where it goes on and where it stops, and what one item adds to the message. In words of B bits, B at most 12.
-- Assumes nothing.
use Rattle.std.specs.Prelude.{◌≡◌, Err, Bool, drop, replicate}
use Rattle.std.proofs.Math.Path.{refl, ap, ap₂}
use Rattle.std.proofs.Common.{sym, ◌∙◌, add-zero, arith, drop_at}
use Rattle.std.proofs.Math.Bool.{true, false, cond, ◌&&◌}
use mathlib.Core.List.{List, [], ◌∷◌, ◌++◌}
use Prim.Native.Nat.{ℕ, zero, suc, ◌+◌, ◌-◌, ◌^◌, ◌≤◌, ◌<◌}
use Rattle.std.proofs.Math.Dec.{ltb}
use Rattle.std.proofs.Math.ListN.{length, length-append, length-replicate}
use borrow.Author.Tests.{le-ltb, lt-ltb, ltb-false}
use Rattle.stream.specs.declared.items.Item.{Item}
use Rattle.stream.specs.declared.items.Fault.{Fault}
use Rattle.stream.specs.Bits.{bits, all_ones}
use Rattle.stream.specs.Ones.{and-false, ones-append, ones-are, bits-have-zero}
use Rattle.stream.specs.Items.{found_item, message, refused, item_at, adds, extra, set_after, stops, prepend, proceed, read_from}

-- the reader does not stop before these bits
abbrev pub Live : ℕ → List ℕ → Type 0
Live B l = stops B l ≡ false

-- from set s the bits l are read to the message m, wherever they stand
abbrev pub Reads : ℕ → ℕ → List ℕ → List ℕ → Type 0
Reads B s l m = (at : ℕ) → read_from B 0 at s l ≡ message m

module _ (B : ℕ) (some : 0 < B) (small : B ≤ 12) where
  pub live-zero : (l : List ℕ) → all_ones l ≡ false → Live B l
  unfolding stops
  live-zero l e = ap (λ t. t && ltb (length l) B) e

  pub live-long : (l : List ℕ) → 12 ≤ length l → Live B l
  unfolding stops
  live-long l h = ap (λ t. all_ones l && t) (le-ltb (length l) B (omega arith)) ∙ and-false (all_ones l)

  pub live-append : (p l : List ℕ) → Live B l → Live B (p ++ l)
  unfolding stops
  live-append p l h = go (all_ones l) refl
    where
      go : (t : Bool) → all_ones l ≡ t → Live B (p ++ l)
      go false e = live-zero (p ++ l) (ones-append p l ∙ ap (λ t. all_ones p && t) e ∙ and-false (all_ones p))
      go true e =
          let long : B ≤ length l = ltb-false (length l) B (ap (λ t. t && ltb (length l) B) (sym e) ∙ h) in
          ap (λ t. all_ones (p ++ l) && t) (le-ltb (length (p ++ l)) B (omega (arith, length-append p l))) ∙ and-false (all_ones (p ++ l))

  -- before a code that has a 0
  pub live-code : (w c : ℕ) (q : List ℕ) → c < 2 ^ w - 1 → Live B (bits w c ++ q)
  live-code w c q h = live-zero (bits w c ++ q) (ones-append (bits w c) q ∙ ap (λ t. t && all_ones q) (bits-have-zero w c h))

  -- bits of the item before are passed over
  skip : (l : List ℕ) (n at s : ℕ) → read_from B n at s l ≡ read_from B 0 (at + n) s (drop n l)
  unfolding read_from
  skip [] zero at s = refl
  skip [] (suc n) at s = refl
  skip (b ∷ l) zero at s = ap (λ x. read_from B 0 x s (b ∷ l)) (sym (add-zero at))
  skip (b ∷ l) (suc n) at s = skip l n (at + 1) s ∙ ap (λ x. read_from B 0 x s (drop n l)) (omega arith)

  jump : (b : ℕ) (l : List ℕ) (n at s : ℕ) → 1 ≤ n → read_from B (n - 1) (at + 1) s l ≡ read_from B 0 (at + n) s (drop n (b ∷ l))
  jump b l zero at s h = absurd (omega arith)
  jump b l (suc n) at s h =
      ap (λ x. read_from B x (at + 1) s l) (let e : suc n - 1 ≡ n = omega arith in e)
      ∙ skip l n (at + 1) s
      ∙ ap (λ x. read_from B 0 x s (drop n l)) (let e : at + 1 + n ≡ at + suc n = omega arith in e)

  pub read-stop : (l : List ℕ) (at s : ℕ) → stops B l ≡ true → read_from B 0 at s l ≡ message []
  unfolding read_from
  read-stop [] at s e = refl
  read-stop (b ∷ l) at s e =
      ap (λ t. cond t (message []) (proceed (item_at s (b ∷ l)) at s (b ∷ l) (λ u t. read_from B (u - 1) (at + 1) t l))) e

  pub read-item : (l : List ℕ) (at s u : ℕ) (i : Item) → Live B l → item_at s l ≡ found_item i u → 1 ≤ u
      → read_from B 0 at s l ≡ prepend (adds i (drop u l)) (read_from B 0 (at + (u + extra i)) (set_after s i) (drop (u + extra i) l))
  unfolding read_from stops all_ones
  read-item [] at s u i h e g = absurd (omega (arith, ltb-false 0 B h))
  read-item (b ∷ l) at s u i h e g =
      ap₂ (λ t f. cond t (message []) (proceed f at s (b ∷ l) (λ u t. read_from B (u - 1) (at + 1) t l))) h e
      ∙ ap (prepend (adds i (drop u (b ∷ l)))) (jump b l (u + extra i) at (set_after s i) (omega arith))

  pub read-fault : (l : List ℕ) (at s : ℕ) (x : Fault) → Live B l → item_at s l ≡ Err x → read_from B 0 at s l ≡ refused x at
  unfolding read_from stops all_ones
  read-fault [] at s x h e = absurd (omega (arith, ltb-false 0 B h))
  read-fault (b ∷ l) at s x h e = ap₂ (λ t f. cond t (message []) (proceed f at s (b ∷ l) (λ u t. read_from B (u - 1) (at + 1) t l))) h e

  -- an item in front: its bits p, the bytes o that it adds
  pub reads-item : (s u : ℕ) (i : Item) (p q o m : List ℕ) → Live B (p ++ q) → item_at s (p ++ q) ≡ found_item i u → 1 ≤ u
      → length p ≡ u + extra i → adds i (drop u (p ++ q)) ≡ o → Reads B (set_after s i) q m → Reads B s (p ++ q) (o ++ m)
  reads-item s u i p q o m h e g k a r at =
      read-item (p ++ q) at s u i h e g
      ∙ ap₂ prepend a (ap (read_from B 0 (at + (u + extra i)) (set_after s i)) (drop_at p q (u + extra i) k) ∙ r (at + (u + extra i)))

  -- the fill of the last word
  pub reads-ones : (j s : ℕ) → j < B → Reads B s (replicate j 1) []
  unfolding stops
  reads-ones j s h at =
      read-stop (replicate j 1) at s (ap₂ ◌&&◌ (ones-are j) (lt-ltb (length (replicate j 1)) B (simp length-replicate h)))
