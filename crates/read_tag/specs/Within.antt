-- How a grid with a border is read: as it stands, and while it is refused and its outermost ring is light, without that ring.
-- Assumes nothing.
use Rattle.std.specs.Prelude.{cond, List, ℕ, zero, suc, ◌+◌, ◌/◌, eqb}
use Rattle.decoder.specs.Decode.{Result, refused, decode_of}
use Rattle.grid_text.specs.Border.{inner_side, inner, light_ring}

-- the refusal to tell: the last that isn't 11, "side is not a shape's"
abbrev pub told : ℕ → ℕ → ℕ
told before number = cond (eqb number 11) before number

module _ (g : List ℕ) (side : ℕ) (buffer : List ℕ) where
  -- what is read inside of some rings
  abbrev pub read_inside : ℕ → Result
  read_inside rings = decode_of (inner g side rings) (inner_side side rings) buffer

  abbrev pub told_at : ℕ → ℕ → ℕ
  told_at before rings = told before (read_inside rings).answer.number

  -- what comes of it from some ring on, with n rings left
  unfoldable pub read_from : ℕ → ℕ → ℕ → Result
  read_from zero rings before = refused before buffer
  read_from (suc n) rings before =
      cond (eqb (read_inside rings).answer.number 0) (read_inside rings)
      (cond (light_ring g side rings) (read_from n (rings + 1) (told_at before rings)) (refused (told_at before rings) buffer))

  -- from the whole grid on
  unfoldable pub read_within : Result
  read_within = read_from ((side + 1) / 2) 0 11
