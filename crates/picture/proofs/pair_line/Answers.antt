-- The colours, the characters, and the colours back.
-- Assumes nothing.
use Rattle.std.proofs.Common.{ap, ◌∙◌, arith, ◌+◌, ◌++◌, ℕ, length, length-append}
use Rattle.picture.specs.Picture.{extent, joined, two_rows, black_on_white, reset, pair_line}
use Rattle.picture.specs.PictureLaws.{rows-length}
use Rattle.picture.proofs.pair_line.Goals as goal

pub push_all-requires-2 : goal.push_all-requires-2
push_all-requires-2 c =
    omega (arith, ap length c.new-line.ensures, ap length c.push_rows.ensures, length-append {A = ℕ}, rows-length c.args.square.now.grid.now c.args.square.now.side c.args.row (c.args.square.now.side + 4))

pub returns : goal.returns
unfolding pair_line
returns c =
    c.push_all-2.ensures.put
    ∙ ap (λ l. l ++ reset)
    (c.push_rows.ensures ∙ ap (λ l. l ++ joined (two_rows c.args.square.now.grid.now c.args.square.now.side c.args.row) (extent c.args.square.now.side)) (c.push_all.ensures.put ∙ ap (λ l. l ++ black_on_white) c.new-line.ensures))
