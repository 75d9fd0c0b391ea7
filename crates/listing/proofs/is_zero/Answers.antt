-- The chain's test of each byte is the definition's.
-- Assumes nothing.
use Rattle.std.proofs.Common.{◌≡◌, eqb, true, false, rules}
use Rattle.std.proofs.lemmas.Iterator.{YieldsList-from_slice, cases_from_all}
use Rattle.listing.specs.LineLaws.{zero-says}
use Rattle.listing.proofs.is_zero.Goals as goal

pub returns : goal.returns
returns c =
    zero-says c.args.bytes.now c.all.result
    (cases_from_all _ _ _ (λ b. eqb b 0 ≡ true) (λ b. eqb b 0 ≡ false) c.all.ensures.ran (YieldsList-from_slice c.args.bytes.now cc) (λ x q k. search rules) (λ x q k. search rules))
