-- Why a compact tag is judged compact: six of its twelve orientation modules, which stand at distance 5, are dark, so of eleven that match
-- at least five are.
-- Assumes nothing.
use Rattle.std.specs.Prelude.{◌≡◌, refl, ◌⊎◌, Bool, true, false, not, cond, List, ℕ, ◌≤◌, ◌<◌, T, eqb, ltb, get_or}
use Rattle.std.proofs.Common.{inl, inr, arith, eqb→eq, leb→le, le-ltb}
use Rattle.list_laws.specs.Tests.{decided}
use Rattle.list_laws.specs.Range.{count, count-sum, all-at}
use Rattle.symbol.specs.Shapes.{core}
use Rattle.symbol.specs.Places.{turned, orientation_cell, orientation_place}
use Rattle.orientation.specs.Position.{matches}
use Rattle.orientation.specs.PositionLaws.{Sided, shows, seen, matches-shown}
use Rattle.orientation.specs.Family.{ring_cell, dark_ring, looks_full, light-test}

-- the twelve are among the forty
pub orientation-dark : (n : ℕ) (g : List ℕ) → count 12 (λ j. eqb (get_or g (orientation_place false n j) 0) 1) ≤ dark_ring n g
unfolding dark_ring orientation_place orientation_cell ring_cell turned core count
orientation-dark n g = omega arith

pub dark-enough : (n : ℕ) → Sided false n → (g : List ℕ) (p : ℕ) → p < 8 → 11 ≤ matches false n g p → 5 ≤ dark_ring n g
dark-enough n sd g p h e =
    let light : count 12 (λ j. not (eqb (shows p j) 1)) ≤ 6 = leb→le _ _ (all-at 8 _ light-test p h) in
    omega (
      arith,
      matches-shown false n sd g p h,
      orientation-dark n g,
      count-sum 12 (λ j. eqb (look j) (shows p j)) (λ j. eqb (look j) 1) (λ j. not (eqb (shows p j) 1))
          (λ j l t. dark j t (decided (eqb (shows p j) 1))),
    )
  where
    look : ℕ → ℕ
    look = seen false n sd g

    dark : (j : ℕ) → T (eqb (look j) (shows p j)) → T (eqb (shows p j) 1) ⊎ T (not (eqb (shows p j) 1))
        → T (eqb (look j) 1) ⊎ T (not (eqb (shows p j) 1))
    dark j t (inl u) = inl (rw (eqb→eq (shows p j) 1 u) at t)
    dark j t (inr u) = inr u

-- THE THEOREM: a compact tag with eleven matches is judged compact
pub looks-compact : (n : ℕ) → Sided false n → (g : List ℕ) (p : ℕ) → n ≤ 27 → p < 8 → 11 ≤ matches false n g p → looks_full n g ≡ false
unfolding looks_full
looks-compact n sd g p l h e = go (eqb n 15)
  where
    go : (b : Bool) → cond b false (cond (ltb 27 n) true (ltb (dark_ring n g) 4)) ≡ false
    go true = refl
    go false = rw (le-ltb 27 n l, le-ltb (dark_ring n g) 4 (omega (arith, dark-enough n sd g p h e)))
