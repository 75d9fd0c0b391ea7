-- The table's numbers are those of the latches' bits, computed for all pairs of sets.
-- Assumes nothing.
use Rattle.std.proofs.Common.{◌∙◌, sym, ap, ap₂, arith, [], get_or}
use Rattle.stream.specs.declared.codes.TheConstants.{LATCHES}
use Rattle.stream.specs.Bits.{bits}
use Rattle.stream.specs.Codes.{set_number, set-number-below}
use Rattle.stream.proofs.CodeTables.{latch_at}
use Rattle.stream.proofs.codes.latch.Goals as goal

pub returns : goal.returns
returns c =
    let a = c.args in
    let right = latch_at (set_number a.from) (set_number a.to) (set-number-below a.from) (set-number-below a.to) in
    let path = ap₂ (λ s t. get_or (get_or LATCHES s []) t (0, 0)) c.from.ensures c.from-2.ensures in
    let code = c.from-3.ensures ∙ ap (λ p. p.0) path in
    let size = c.from-4.ensures ∙ ap (λ p. p.1) path in
    record { to_value = right.0 ∙ sym (ap₂ bits size code); bits_bound = omega (arith, right.1, size) }
