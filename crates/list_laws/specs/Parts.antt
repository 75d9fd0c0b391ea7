-- A part of a slice that was lent as `&mut` and came back, said of the whole.
-- Assumes nothing.
use Rattle.std.specs.Prelude.{◌≡◌, List, ◌++◌, ℕ, ◌-◌, length, take, drop}
use Rattle.std.proofs.Common.{ap, ◌∙◌, append-nil, arith, length-take, length-drop, drop_of_length-le}
use borrow.Rule.Slice.PartMut.{put_mid, mid_of}

module _ {A : Type 0} where
  -- the part from a on, `&mut xs[a..]`, came back as ys
  pub put-tail : (a : ℕ) (xs ys : List A) → put_mid a (length xs - a) xs ys ≡ take a xs ++ ys
  put-tail a xs ys =
      ap (λ z. take a xs ++ (ys ++ z)) (drop_of_length-le (drop a xs) {i = length xs - a} (simp length-drop (omega arith)))
      ∙ ap (λ z. take a xs ++ z) (append-nil ys)

  pub length-tail : (a : ℕ) (xs : List A) → length (mid_of a (length xs - a) xs) ≡ length xs - a
  length-tail a xs = simp (length-take, length-drop) (omega arith)
