-- Marks for flat data words (document 01, "How a grid is read", step 3).
-- Assumes nothing.
use Rattle.std.specs.Prelude.{◌≡◌, ◌&&◌, List, ltb, length, get_or}
use Rattle.std.proofs.Math.Path.{sym}
use Rattle.std.proofs.Common.{ap, ◌∙◌, arith, lt-ltb, le-ltb}
use Rattle.std.proofs.Math.Bool.{cond}
use Prim.Native.Nat.{ℕ, ◌≤◌, ◌<◌}
use Rattle.std.proofs.Math.Decide.{dec_lt}
use Rattle.std.proofs.Math.Seq.{ext_get_or}
use Rattle.stream.specs.Stuffing.{flat}
use Rattle.list_laws.specs.Filled.{tabulate, filled, length-tabulate, get_or-tabulate, length-filled, get_or-filled, get_or-unfilled}

-- "A data word (never a check word, and never a mode word) of all 0s or all 1s is marked too": the first `count` words are the data words
unfoldable pub flat_marked : ℕ → ℕ → List ℕ → List ℕ → List ℕ
flat_marked size count words marks =
    tabulate (λ w. cond (ltb w count && flat size (get_or words w 0)) 1 (get_or marks w 0)) (length marks)

-- the mark of data word w
abbrev pub flat_mark : ℕ → List ℕ → List ℕ → ℕ → ℕ
flat_mark size words marks w = cond (flat size (get_or words w 0)) 1 (get_or marks w 0)

module _ (size count : ℕ) (words marks : List ℕ) where
  -- what a loop over the data words leaves
  pub flat-filled : count ≤ length marks → filled (flat_mark size words marks) count marks ≡ flat_marked size count words marks
  unfolding flat_marked
  flat-filled h =
      ext_get_or 0 _ _ (length-filled (flat_mark size words marks) count marks h ∙ sym (length-tabulate _ (length marks)))
      (λ w l. go w (dec_lt w count) (omega (arith, length-filled (flat_mark size words marks) count marks h)))
    where
      f : ℕ → ℕ
      f w = cond (ltb w count && flat size (get_or words w 0)) 1 (get_or marks w 0)

      go : (w : ℕ) → Dec (w < count) → w < length marks → get_or (filled (flat_mark size words marks) count marks) w 0 ≡ get_or (tabulate f (length marks)) w 0
      go w (yes b) l =
          get_or-filled (flat_mark size words marks) 0 count w marks b
          ∙ sym (get_or-tabulate f 0 (length marks) w l ∙ ap (λ t. cond (t && flat size (get_or words w 0)) 1 (get_or marks w 0)) (lt-ltb w count b))
      go w (no b) l =
          get_or-unfilled (flat_mark size words marks) 0 count w marks (omega arith)
          ∙ sym (get_or-tabulate f 0 (length marks) w l ∙ ap (λ t. cond (t && flat size (get_or words w 0)) 1 (get_or marks w 0)) (le-ltb w count (omega arith)))
