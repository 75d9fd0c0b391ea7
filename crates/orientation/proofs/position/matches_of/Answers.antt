-- The matches of the first k.
-- Assumes nothing.
use Rattle.std.proofs.Common.{◌≡◌, sym, ap, ◌∙◌, ◌*◌, ◌<◌, arith, get_or, eq-eqb, ne_eqb}
use Rattle.list_laws.specs.Range.{count_none, count_yes, count_no, count_most}
use Rattle.symbol.specs.CorePlaces.{orientation-lt}
use Rattle.symbol.specs.Drawing.{orientation_bits}
use Rattle.symbol.specs.Positions.{place_in}
use Rattle.orientation.specs.Position.{matches}
use Rattle.orientation.proofs.position.matches_of.Invariants.{hit}
use Rattle.orientation.proofs.position.matches_of.Goals as goal
use Rattle.orientation.proofs.position.matches_of.Goals.{In-loop-k, else-from-k, then-from-k}

upright-lt : (c : In-loop-k)
    → (let a = c.args in get_or a.upright.now c.loop-k.k 0 < a.frame.side * a.frame.side)
upright-lt c =
    let k = c.loop-k.k in
    omega (arith, c.requires.fact_2 k (omega arith), orientation-lt c.args.frame.full c.args.frame.side c.args.frame.room k (omega arith))

pub loop-k-init : goal.loop-k-init
loop-k-init c = sym (count_none _)

pub place_in-at-requires : goal.place_in-at-requires
place_in-at-requires c = upright-lt (goal.at.place_in-at-requires c).In-loop-k

pub overflow_add-matched : goal.overflow_add-matched
overflow_add-matched c =
    let l = c.loop-k in
    let a = c.args in
    omega (arith, l.invariant, count_most l.k (hit a.frame.full a.frame.side a.grid.now a.position.number))

pub loop-k-preserved : goal.loop-k-preserved
unfolding orientation_bits
loop-k-preserved c =
    let l = c.loop-k in
    let a = c.args in
    let place = c.place_in-at.ensures.0 ∙ ap (place_in a.frame.side a.position.number) (c.requires.fact_2 l.k (omega arith)) in
    let at = ap (λ x. get_or a.grid.now x 0) place in
    let test = hit a.frame.full a.frame.side a.grid.now a.position.number in
    elim c.if-from-k.branch [ then-from-k w ↦ w.matched-is ∙ count_yes l.k test l.invariant (eq-eqb _ _ (sym at ∙ sym c.from.ensures ∙ w.if-from-k.true)) | else-from-k w ↦ w.matched-is ∙ count_no l.k test l.invariant (ne_eqb _ _ (λ e. w.if-from-k.false (c.from.ensures ∙ at ∙ e))) ]

pub returns : goal.returns
unfolding matches
returns c = let e : c.loop-k.k ≡ 12 = omega arith in rw e at c.loop-k.invariant
