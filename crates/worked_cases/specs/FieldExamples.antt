-- Computed examples of the fields (document 01, "Words and checks": "8 x⁸+x⁵+x³+x²+1; 10 x¹⁰+x³+1; 12 x¹²+x⁶+x⁵+x³+1"). The values were
-- computed apart from the definitions, by a product without carries and a long division.
-- Assumes nothing.
use Rattle.std.specs.Prelude.{◌≡◌, refl, [], ◌∷◌}
use Rattle.finite_field.specs.Field.{w8, w10, w12, times_x, shift, times, product, power}

-- first the square that brings up x ^ B, so the polynomial itself, then two words with many bits
pub products : product w8 16 16 ∷ product w8 200 100
    ∷ product w10 32 32
    ∷ product w10 700 900
    ∷ product w12 64 64
    ∷ product w12 3000 2000
    ∷ []
    ≡ 45 ∷ 92 ∷ 9 ∷ 111 ∷ 105 ∷ 1616 ∷ []
unfolding times_x times
products = refl

-- 2 ^ n
pub powers : power w8 100 ∷ power w10 500 ∷ power w12 3000 ∷ [] ≡ 106 ∷ 1002 ∷ 2470 ∷ []
unfolding times_x shift
powers = refl
