-- Where a module of an inner grid stands, and that an inner grid is no larger.
-- Assumes nothing.
use Rattle.std.specs.Prelude.{◌≡◌, Bool, true, false, List, ℕ, ◌+◌, ◌*◌, ◌/◌, ◌%◌, ◌≤◌, ◌<◌, length, MatchBool, T}
use Rattle.std.specs.List.{range_with_len, AllWithin, HoldsAt}
use Rattle.std.proofs.Math.Path.{refl, sym}
use Rattle.std.proofs.Common.{ap, ◌∙◌, zero-add, mul-le-mul, div-lt_iff_lt-mul, mod-lt, arith}
use Rattle.std.proofs.lemmas.List.FromFn.{length-range_with_len, get_or-range_with_len}
use Rattle.list_laws.specs.Range.{all, all_of, all_but}
use Rattle.list_laws.specs.Tests.{true_of, holds}
use Rattle.grid_text.specs.Border.{inner_side, inner_count, light_at, light_ring}

pub inner-least : (side rings : ℕ) → inner_count side rings ≤ side * side
inner-least side rings = let h : inner_side side rings ≤ side = omega arith in mul-le-mul h h

module _ (side rings k : ℕ) (h : 2 * rings < side) (l : k < inner_count side rings) where
  pub row_inside : rings + k / inner_side side rings < side
  row_inside = omega (arith, (div-lt_iff_lt-mul {k = inner_side side rings} {x = k} {y = inner_side side rings} (omega arith)).1 l)

  pub column-inside : rings + k % inner_side side rings < side
  column-inside = omega (arith, mod-lt k {m = inner_side side rings} (omega arith))

-- what a chain over the numbers below n says of a test is whether all pass it
pub all-says : (n : ℕ) (p : ℕ → Bool) (b : Bool) → let below = range_with_len 0 n in
    MatchBool b (AllWithin (λ k. p k ≡ true) below 0 (length below)) ((k : ℕ) × (k < length below) × HoldsAt (λ j. p j ≡ false) below k)
    → b ≡ all n p
all-says n p true h =
    sym (true_of (all n p) (all_of n p (λ i l. holds (ap p (sym (get_or-range_with_len 0 n i 0 l ∙ zero-add i)) ∙ h i 0 (omega arith) (simp length-range_with_len l)))))
all-says n p false h =
    let l : h.0 < n = rw length-range_with_len at h.1 in
    sym (all_but n p h.0 l (ap p (sym (get_or-range_with_len 0 n h.0 0 l ∙ zero-add h.0)) ∙ h.2 0))

module _ (g : List ℕ) (side ring : ℕ) where
  pub ring-dark : (k : ℕ) → k < inner_side side ring → light_at g side ring k ≡ false → false ≡ light_ring g side ring
  unfolding light_ring
  ring-dark k h e = sym (all_but (inner_side side ring) (light_at g side ring) k h e)

  pub ring-light : ((k : ℕ) → k < inner_side side ring → T (light_at g side ring k)) → true ≡ light_ring g side ring
  unfolding light_ring
  ring-light h = sym (true_of _ (all_of (inner_side side ring) (light_at g side ring) h))

  pub ring-all : all (inner_side side ring) (light_at g side ring) ≡ light_ring g side ring
  unfolding light_ring
  ring-all = refl
