-- The colours, the characters, and the colours back.
-- Assumes nothing.
use Rattle.std.proofs.Common.{ap, ◌∙◌, arith, ◌+◌, ◌++◌, ℕ, length, length-append}
use Rattle.picture.specs.Picture.{extent, joined, upper, white, reset, half_line}
use Rattle.picture.specs.PictureLaws.{upper-length}
use Rattle.picture.proofs.half_line.Goals as goal

pub push_all-requires-2 : goal.push_all-requires-2
push_all-requires-2 c =
    omega (arith, ap length c.new-line.ensures, ap length c.push_upper.ensures, length-append {A = ℕ}, upper-length (c.args.side + 4))

pub returns : goal.returns
unfolding half_line
returns c =
    c.push_all-2.ensures.put
    ∙ ap (λ l. l ++ reset)
    (c.push_upper.ensures ∙ ap (λ l. l ++ joined (λ (_ : ℕ). upper) (extent c.args.side)) (c.push_all.ensures.put ∙ ap (λ l. l ++ white) c.new-line.ensures))
