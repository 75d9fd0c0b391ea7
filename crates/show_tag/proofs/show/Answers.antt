-- An answer of 0 has a side that the grid has room for.
use Rattle.std.proofs.Common.{◌≡◌, arith}
use Rattle.stream.specs.Below.{below_of}
use Rattle.show_tag.proofs.Answer.{side-fits}
use Rattle.show_tag.proofs.show.Goals as goal

pub invariant_of-square : goal.invariant_of-square
invariant_of-square g c =
    let e = c.encode-answer in
    let made : e.result.number ≡ 0 = omega arith in
    let bytes = below_of 256 c.args.message.now (λ i h. omega (arith, c.type_inv.message i)) in
    let f = side-fits c.args.message.now c.args.percent _ bytes e.result e.ensures.value made in
    record { fits = (f.0, omega (arith, f.1)) }
