-- Where the twelve orientation modules put a grid, and if nowhere, why (document 02, 6/12, "Why did it say that?").
-- Assumes nothing.
use Rattle.std.specs.Prelude.{◌≡◌, refl, ◌≢◌, ◌⊎◌, Bool, true, false, List, ℕ, zero, suc, ◌≤◌, ◌<◌, eqb, ltb, leb, Result, Ok, Err}
use Rattle.std.proofs.Math.Path.{ap}
use Rattle.std.proofs.Common.{◌∙◌, inl, inr, arith, zero-add, ltb-true, ltb-false, leb-true, leb-false}
use Rattle.std.proofs.Math.Option.{Option, none, some}
use Rattle.std.proofs.Math.Decide.{ℕ_discrete}
use Rattle.list_laws.specs.Range.{one, count_most, up_to}
use Rattle.orientation.specs.declared.position.Unplaced.{Unplaced}
use Rattle.orientation.specs.Position.{matches, position}
use Rattle.orientation.specs.PositionLaws.{none-best}
use Rattle.orientation.specs.Greatest.{most, most-at, most-some}
use Rattle.orientation.specs.Masks.{mask_from, bit_at, mask-bit, mask_below}

-- "For 14: the best match count"
unfoldable pub best_matches : Bool → ℕ → List ℕ → ℕ
best_matches f n g = most (matches f n g) 8

-- "and every position that has it, position p as bit p"
unfoldable pub best_positions : Bool → ℕ → List ℕ → ℕ
best_positions f n g = mask_from (λ p. eqb (matches f n g p) (best_matches f n g)) 0 8

-- by the position that is taken
abbrev pub placement_for : Bool → ℕ → List ℕ → Option ℕ → Result ℕ Unplaced
placement_for f n g (some p) = Ok p
placement_for f n g none = Err (record { best = best_matches f n g; positions = best_positions f n g })

abbrev pub placement_of : Bool → ℕ → List ℕ → Result ℕ Unplaced
placement_of f n g = placement_for f n g (position f n g)

-- What they say of a grid

-- two positions have the best match count
pub record Tie (f : Bool) (n : ℕ) (g : List ℕ) : Type 0 where
  pub p : ℕ
  pub q : ℕ
  pub positions : (p < 8) × (q < 8) × (q ≢ p)
  pub best : (matches f n g p ≡ best_matches f n g) × (matches f n g q ≡ best_matches f n g)

-- every other of the first m positions has fewer matches than p, or one has at least as many
abbrev Rivals : (ℕ → ℕ) → ℕ → ℕ → Type 0
Rivals s p m = ((q : ℕ) → q < m → q ≢ p → s q < s p) ⊎ ((q : ℕ) × (q < m) × (q ≢ p) × (s p ≤ s q))

rivals : (s : ℕ → ℕ) (p m : ℕ) → Rivals s p m
rivals s p zero = inl (λ q l. absurd (omega arith))
rivals s p (suc m) = go (rivals s p m) (ℕ_discrete m p) (ltb (s m) (s p)) refl
  where
    go : Rivals s p m → Dec (m ≡ p) → (b : Bool) → ltb (s m) (s p) ≡ b → Rivals s p (suc m)
    go (inr (q, l, d, h)) same b e = inr (q, omega arith, d, h)
    go (inl h) (yes same) b e = inl (up_to (λ q. q ≢ p → s q < s p) m h (λ d. absurd (d same)))
    go (inl h) (no d) true e = inl (up_to (λ q. q ≢ p → s q < s p) m h (λ x. ltb-true (s m) (s p) e))
    go (inl h) (no d) false e = inr (m, omega arith, d, ltb-false (s m) (s p) e)

module _ (f : Bool) (n : ℕ) (g : List ℕ) where
  -- no position has more matches, and one has as many
  pub best-greatest : (p : ℕ) → p < 8 → matches f n g p ≤ best_matches f n g
  unfolding best_matches
  best-greatest = most-at (matches f n g) 8

  pub best-some : (p : ℕ) × (p < 8) × (matches f n g p ≡ best_matches f n g)
  unfolding best_matches
  best-some = most-some (matches f n g) 8 (omega arith)

  matches-few : (p : ℕ) → matches f n g p ≤ 12
  unfolding matches
  matches-few p = count_most 12 _

  pub best-few : best_matches f n g ≤ 12
  best-few = let (p, h, e) = best-some in omega (arith, e, matches-few p)

  -- bit p is set exactly if position p has as many
  pub best-bits : (p : ℕ) → p < 8 → bit_at (best_positions f n g) p ≡ one (eqb (matches f n g p) (best_matches f n g))
  unfolding best_positions
  best-bits p h = mask-bit _ 8 0 p h ∙ ap (λ q. one (eqb (matches f n g q) (best_matches f n g))) (zero-add p)

  pub positions-few : best_positions f n g < 256
  unfolding best_positions
  positions-few = mask_below _ 8 0

  -- number 14: the best match count is below 9, or two positions have it
  pub nowhere : position f n g ≡ none → (best_matches f n g < 9) ⊎ Tie f n g
  nowhere e = let (p, l, b) = best-some in go p l b (leb 9 (best_matches f n g)) refl (rivals (matches f n g) p 8)
    where
      go : (p : ℕ) → p < 8 → matches f n g p ≡ best_matches f n g → (t : Bool) → leb 9 (best_matches f n g) ≡ t → Rivals (matches f n g) p 8
          → (best_matches f n g < 9) ⊎ Tie f n g
      go p l b false t r = inl (leb-false 9 (best_matches f n g) t)
      go p l b true t (inl h) =
          absurd (none-best f n g e p (record { lawful = l; enough = omega (arith, leb-true 9 (best_matches f n g) t); most = h }))
      go p l b true t (inr (q, k, d, h)) =
          inr (record { p = p; q = q; positions = (l, k, d); best = (b, omega (arith, best-greatest q k)) })
