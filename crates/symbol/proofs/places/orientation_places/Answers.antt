-- The first k places are written.
-- Assumes nothing.
use Rattle.std.proofs.Common.{◌≡◌, refl, ap₂, ◌∙◌, Bool, ℕ, ◌+◌, ◌*◌, ◌-◌, ◌/◌, ◌%◌, arith}
use Rattle.list_laws.specs.Writes.{writes-none, writes-step}
use Rattle.symbol.specs.Shapes.{core, core-range}
use Rattle.symbol.specs.Places.{turned, core_place, orientation_cell, orientation_place}
use Rattle.symbol.proofs.places.orientation_places.Goals as goal

-- module m of a corner stands at row 1, 0, 0 and column 0, 0, 1
corner : (f : Bool) (n k : ℕ) {x : ℕ} → x ≡ core_place f n (turned (k / 3) (2 * core f + 1) ((3 - k % 3) / 3) (k % 3 / 2)) → x ≡ orientation_place f n k
unfolding orientation_place orientation_cell
corner f n k e =
    let row : (3 - k % 3) / 3 ≡ 1 - k % 3 = omega arith in
    let col : k % 3 / 2 ≡ k % 3 - 1 = omega arith in
    e ∙ ap₂ (λ (r c : ℕ). core_place f n (turned (k / 3) (2 * core f + 1) r c)) row col

pub loop-k-init : goal.loop-k-init
loop-k-init c = writes-none _ _ _

pub core_place-requires : goal.core_place-requires
core_place-requires c =
    let r = core-range c.args.frame.full in
    (omega arith, omega arith, omega arith)

pub loop-k-preserved : goal.loop-k-preserved
loop-k-preserved c =
    let l = c.loop-k in
    writes-step _ _ _ l.k l.invariant refl (corner c.args.frame.full c.args.frame.side l.k c.core_place.ensures.place)
