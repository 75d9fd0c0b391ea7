-- Why eleven matches decide the position: the patterns of two positions differ in at least 4 of the twelve modules, so one spoilt module
-- leaves the true position 11 matches and every other at most 9.
-- Assumes nothing.
use Rattle.std.specs.Prelude.{◌≡◌, refl, ◌≢◌, ◌⊎◌, Bool, false, not, cond, ◌||◌, ◌&&◌, List, T, leb, get_or, replicate}
use Rattle.std.proofs.Common.{sym, ◌∙◌, inl, inr, eqb→eq}
use Rattle.std.proofs.Math.Path.{ap, ap₂}
use Rattle.std.proofs.Math.Bool.{true}
use Rattle.std.proofs.Math.Option.{Option, none, some}
use Prim.Native.Nat.{ℕ, zero, suc, ◌+◌, ◌*◌, ◌-◌, ◌/◌, ◌%◌, ◌≤◌, ◌<◌}
use native.Mathlib.Omega.{arith}
use Rattle.std.proofs.Math.Decide.{ℕ_discrete}
use Rattle.std.proofs.Math.Dec.{eqb, ltb, ltb→lt, leb→le}
use Rattle.std.proofs.Math.ListN.{length-replicate}
use borrow.Author.Tests.{eq-eqb, ne_eqb, le-leb}
use Rattle.list_laws.specs.Tests.{both-parts, decided, true_of, holds}
use Rattle.list_laws.specs.Range.{count, count_same, count-sum, count-not, all, all-at}
use Rattle.list_laws.specs.Search.{first_found, first-only}
use Rattle.symbol.specs.Shapes.{side, core, Shaped}
use Rattle.symbol.specs.Places.{Cell, index, turned, core_place, orientation_cell, orientation_place}
use Rattle.symbol.specs.CorePlaces.{orientation-on-ring, orientation-lt, core-row, core-col, core-room}
use Rattle.symbol.specs.Drawing.{orientation_bits, area, symbol, drawn-orientation}
use Rattle.symbol.specs.Positions.{place_in, placed, placed_at, back}
use Rattle.orientation.specs.Position.{matches, single, position}
use Rattle.orientation.specs.Counting.{single-kept}

-- What number 14 means

-- the single best position, with 9 matches
pub record Best (s : ℕ → ℕ) (p : ℕ) : Type 0 where
  pub lawful : p < 8
  pub enough : 9 ≤ s p
  pub most : (q : ℕ) → q < 8 → q ≢ p → s q < s p

module _ (s : ℕ → ℕ) (p : ℕ) where
  best-single : Best s p → T (single s p)
  best-single b = holds (sym (single-kept s p b.most) ∙ le-leb 9 (s p) b.enough)

  single-best : p < 8 → T (single s p) → Best s p
  unfolding single
  single-best h t =
      let parts = both-parts (leb 9 (s p)) (all 8 (λ q. eqb q p || ltb (s q) (s p))) t in
      record {
        lawful = h;
        enough = leb→le 9 (s p) parts.0;
        most = λ q l d. ltb→lt (s q) (s p) (rw (ne_eqb q p d) at (all-at 8 _ parts.1 q l));
      }

-- there is at most one
best-one : (s : ℕ → ℕ) (p q : ℕ) → Best s p → Best s q → q ≡ p
best-one s p q a b = go (ℕ_discrete q p)
  where
    go : Dec (q ≡ p) → q ≡ p
    go (yes e) = e
    go (no d) = absurd (omega (arith, a.most q b.lawful d, b.most p a.lawful (λ e. d (sym e))))

module _ (f : Bool) (n : ℕ) (g : List ℕ) where
  pub best-found : {p : ℕ} → Best (matches f n g) p → position f n g ≡ some p
  unfolding position
  best-found {p} b =
      first-only (single (matches f n g)) 8 0 p (omega arith) b.lawful (true_of _ (best-single (matches f n g) p b))
      (λ q h l e. best-one (matches f n g) p q b (single-best (matches f n g) q l (holds e)))

  pub found-best : {p : ℕ} → position f n g ≡ some p → Best (matches f n g) p
  unfolding position
  found-best {p} e = let found = first_found (single (matches f n g)) 8 0 p e in single-best (matches f n g) p found.1 (holds found.0)

  pub none-best : position f n g ≡ none → (p : ℕ) → Best (matches f n g) p → ⊥
  none-best e p b = let h = best-found b in let z : ◌≡◌ {A = ℕ} 0 1 = cc in omega arith

  pub best_none : ((p : ℕ) → Best (matches f n g) p → ⊥) → position f n g ≡ none
  best_none h = go (position f n g) refl
    where
      go : (o : Option ℕ) → position f n g ≡ o → o ≡ none
      go none e = refl
      go (some p) e = absurd (h p (found-best e))

-- How the twelve modules move

-- a shape's side is odd and has room for the core
pub record Sided (f : Bool) (n : ℕ) : Type 0 where
  pub odd : n % 2 ≡ 1
  pub room : 2 * core f < n

pub sided : (f : Bool) (L : ℕ) → Shaped f L → Sided f (side f L)
sided f L s = record { odd = go f; room = core-room f L s }
  where
    go : (f : Bool) → side f L % 2 ≡ 1
    go false = unfold side in omega arith
    go true = unfold side in omega arith

-- in position p, module k of the twelve stands where module `moved p k` stands upright
unfoldable pub moved : ℕ → ℕ → ℕ
moved p k = cond (ltb p 4) ((k + 3 * p) % 12) ((5 + 3 * p - k) % 12)

pair : {a b c d : ℕ} → a ≡ c → b ≡ d → ◌≡◌ {A = Cell} (a, b) (c, d)
pair e h = ap₂ (λ (x y : ℕ). (x, y)) e h

same_cell : Cell → Cell → Bool
same_cell x y = eqb x.0 y.0 && eqb x.1 y.1

same-cell : (x y : Cell) → T (same_cell x y) → x ≡ y
unfolding same_cell
same-cell x y t = let parts = both-parts (eqb x.0 y.0) (eqb x.1 y.1) t in pair (eqb→eq _ _ parts.0) (eqb→eq _ _ parts.1)

-- so it is in the core square, by one computed test a family
turned_cell : Bool → ℕ → ℕ → Cell
turned_cell f p k = let x = orientation_cell f k in turned p (2 * core f + 1) x.0 x.1

moved-test : (f : Bool) → T (all 8 (λ p. all 12 (λ k. same_cell (turned_cell f p k) (orientation_cell f (moved p k)))))
unfolding all core orientation_cell turned moved turned_cell same_cell
moved-test false = tt
moved-test true = tt

cell-moved : (f : Bool) (p k : ℕ) → p < 8 → k < 12 → turned_cell f p k ≡ orientation_cell f (moved p k)
cell-moved f p k h l = same-cell _ _ (all-at 12 _ (all-at 8 _ (moved-test f) p h) k l)

-- to turn the symbol is to turn its core
turned-core : (p n d r c : ℕ) → n % 2 ≡ 1 → d ≤ n / 2 → r ≤ 2 * d → c ≤ 2 * d
    → turned p n (n / 2 - d + r) (n / 2 - d + c) ≡ (let x = turned p (2 * d + 1) r c in (n / 2 - d + x.0, n / 2 - d + x.1))
unfolding turned
turned-core zero n d r c o h a b = refl
turned-core (suc zero) n d r c o h a b = pair refl (omega arith)
turned-core (suc (suc zero)) n d r c o h a b = pair (omega arith) (omega arith)
turned-core (suc (suc (suc zero))) n d r c o h a b = pair (omega arith) refl
turned-core (suc (suc (suc (suc zero)))) n d r c o h a b = pair refl (omega arith)
turned-core (suc (suc (suc (suc (suc zero))))) n d r c o h a b = pair (omega arith) (omega arith)
turned-core (suc (suc (suc (suc (suc (suc zero)))))) n d r c o h a b = pair (omega arith) refl
turned-core (suc (suc (suc (suc (suc (suc (suc p))))))) n d r c o h a b = refl

-- what position p shows where module j stands upright
unfoldable pub shows : ℕ → ℕ → ℕ
shows p j = get_or orientation_bits (moved (back p) j) 0

-- two positions show the same in at most 8 of the twelve
shows-test : T (all 8 (λ p. all 8 (λ q. eqb q p || leb (count 12 (λ j. eqb (shows p j) (shows q j))) 8)))
unfolding all count shows moved back orientation_bits
shows-test = tt

shows-apart : (p q : ℕ) → p < 8 → q < 8 → q ≢ p → count 12 (λ j. eqb (shows p j) (shows q j)) ≤ 8
shows-apart p q h k d = leb→le _ _ (rw (ne_eqb q p d) at (all-at 8 _ (all-at 8 _ shows-test p h) q k))

module _ (f : Bool) (n : ℕ) (sd : Sided f n) where
  orientation-moved : (p k : ℕ) → p < 8 → k < 12 → place_in n p (orientation_place f n k) ≡ orientation_place f n (moved p k)
  unfolding place_in orientation_place
  orientation-moved p k h l =
      let w = orientation-on-ring f k l in
      let x = orientation_cell f k in
      ap₂ (λ (r c : ℕ). index n (turned p n r c)) (core-row f n sd.room x w) (core-col f n sd.room x w)
      ∙ ap (index n) (turned-core p n (core f) _ _ sd.odd (omega arith) w.row w.col)
      ∙ (unfold core_place turned_cell in ap (core_place f n) (cell-moved f p k h l))

  module _ (g : List ℕ) where
    abbrev pub seen : ℕ → ℕ
    seen j = get_or g (orientation_place f n j) 0

    -- the twelve in another order
    matches-moved : (p : ℕ) → p < 8
        → count 12 (λ k. eqb (seen (moved p k)) (get_or orientation_bits k 0)) ≡ count 12 (λ j. eqb (seen j) (shows p j))
    unfolding count moved back shows orientation_bits
    matches-moved zero h = omega arith
    matches-moved (suc zero) h = omega arith
    matches-moved (suc (suc zero)) h = omega arith
    matches-moved (suc (suc (suc zero))) h = omega arith
    matches-moved (suc (suc (suc (suc zero)))) h = omega arith
    matches-moved (suc (suc (suc (suc (suc zero))))) h = omega arith
    matches-moved (suc (suc (suc (suc (suc (suc zero)))))) h = omega arith
    matches-moved (suc (suc (suc (suc (suc (suc (suc zero))))))) h = omega arith
    matches-moved (suc (suc (suc (suc (suc (suc (suc (suc p)))))))) h = absurd (omega arith)

    pub matches-shown : (p : ℕ) → p < 8 → matches f n g p ≡ count 12 (λ j. eqb (seen j) (shows p j))
    unfolding matches
    matches-shown p h =
        count_same 12 _ _ (λ k l. ap (λ x. eqb (get_or g x 0) (get_or orientation_bits k 0)) (orientation-moved p k h l)) ∙ matches-moved p h

    -- a module that matches two positions is one that both show alike
    matches-two : (p q : ℕ) → p < 8 → q < 8 → q ≢ p → matches f n g p + matches f n g q ≤ 20
    matches-two p q h k d =
        omega (
          arith,
          matches-shown p h,
          matches-shown q k,
          shows-apart p q h k d,
          count-not 12 (λ j. eqb (seen j) (shows q j)),
          count-sum 12 (λ j. eqb (seen j) (shows p j)) (λ j. not (eqb (seen j) (shows q j))) (λ j. eqb (shows p j) (shows q j))
              (λ j l t. alike j t (decided (eqb (seen j) (shows q j)))),
        )
      where
        alike : (j : ℕ) → T (eqb (seen j) (shows p j)) → T (eqb (seen j) (shows q j)) ⊎ T (not (eqb (seen j) (shows q j)))
            → T (not (eqb (seen j) (shows q j))) ⊎ T (eqb (shows p j) (shows q j))
        alike j t (inl u) =
            inr (holds (eq-eqb (shows p j) (shows q j) (sym (eqb→eq (seen j) (shows p j) t) ∙ eqb→eq (seen j) (shows q j) u)))
        alike j t (inr u) = inl u

-- THE THEOREM: eleven matches decide the position
pub position-is : (f : Bool) (n : ℕ) → Sided f n → (g : List ℕ) (p : ℕ) → p < 8 → 11 ≤ matches f n g p → position f n g ≡ some p
position-is f n sd g p h e =
    best-found f n g (record { lawful = h; enough = omega arith; most = λ q k d. omega (arith, matches-two f n sd g p q h k d) })

-- The undamaged symbol

module _ (f : Bool) (L : ℕ) (sh : Shaped f L) (ms ws : List ℕ) (p : ℕ) where
  abbrev grid : List ℕ
  grid = placed (side f L) p (symbol f L ms ws)

  pub orientation-shown : (k : ℕ) → k < 12 → get_or grid (place_in (side f L) p (orientation_place f (side f L) k)) 0 ≡ get_or orientation_bits k 0
  unfolding symbol
  orientation-shown k l =
      placed_at (side f L) p (symbol f L ms ws) _ (orientation-lt f (side f L) (core-room f L sh) k l)
      ∙ drawn-orientation f L ms ws (replicate (area f L) 0) sh (omega (arith, length-replicate {A = ℕ} (area f L) 0)) k l

  pub symbol-matches : matches f (side f L) grid p ≡ 12
  unfolding matches
  symbol-matches = count_same 12 _ (λ k. true) (λ k l. eq-eqb _ _ (orientation-shown k l)) ∙ (unfold count in refl)
