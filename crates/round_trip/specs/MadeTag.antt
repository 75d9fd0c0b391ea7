-- The tag that stands at the front of a buffer with room for any shape is the made one.
-- Assumes nothing.
use Rattle.std.specs.Prelude.{◌≡◌, refl, true, false, List, ℕ, ◌*◌, ◌≤◌, eqb, replicate}
use Rattle.std.proofs.Math.Path.{sym, ap}
use Rattle.std.proofs.Common.{◌∙◌, subst, arith, eqb-true}
use Rattle.std.proofs.Math.Bool.{Bool}
use Rattle.std.proofs.Math.ListN.{length, take}
use Rattle.std.proofs.Math.Seq.{take_at}
use Rattle.std.proofs.lemmas.Bool.{eqb-false}
use Rattle.stream.specs.Below.{Bytes}
use Rattle.symbol.specs.Drawing.{symbol, drawn-is, length-symbol}
use Rattle.encoder.specs.Plan.{data_words_of, plan_of}
use Rattle.encoder.specs.ModeMessage.{mode_codewords}
use Rattle.encoder.specs.Encode.{block, drawn_message, encode_of}
use Rattle.encoder.specs.EncodeLaws.{encode-refused, encode-made, Answered, square-small}
use Rattle.reading_back.specs.ReadsBack.{full, L, n, known, made-symbol}

module _ (message : List ℕ) (percent : ℕ) (x : Bytes message) (grid : List ℕ) (room : 22801 ≤ length grid) where
  -- with room for any shape the encoder answers as planned
  pub encode-planned : (encode_of message percent grid).answer ≡ plan_of message percent
  encode-planned = go (eqb (plan_of message percent).number 0) refl
    where
      go : (b : Bool) → eqb (plan_of message percent).number 0 ≡ b → (encode_of message percent grid).answer ≡ plan_of message percent
      go true e =
          let made = eqb-true _ _ e in
          ap (λ r. r.answer) (encode-made message percent grid made (omega (arith, square-small (known message percent x made))))
      go false e = ap (λ r. r.answer) (encode-refused message percent grid (eqb-false _ _ e))

  module _ (made : (plan_of message percent).number ≡ 0) where
    abbrev side : ℕ
    side = n message percent

    answer : Answered message (plan_of message percent)
    answer = known message percent x made

    -- the symbol at the front is the one that a buffer of its size gets
    pub made-front : take (side * side) (encode_of message percent grid).grid ≡ (encode_of message percent (replicate (side * side) 0)).grid
    unfolding drawn_message
    made-front =
        ap (λ r. take (side * side) r.grid) (encode-made message percent grid made small)
        ∙ ap (take (side * side))
        (drawn-is f l answer.fits.shaped ms ws grid (subst (λ m. m * m ≤ length grid) answer.side-is small))
        ∙ take_at (symbol f l ms ws) _ (side * side)
        (length-symbol f l answer.fits.shaped ms ws ∙ sym (ap (λ m. m * m) answer.side-is))
        ∙ ap (λ d. symbol f l (mode_codewords f l d) ws) (sym answer.fits.count)
        ∙ sym (made-symbol message percent x made)
      where
        f : Bool
        f = full message percent

        l : ℕ
        l = L message percent

        ms : List ℕ
        ms = mode_codewords f l (length (data_words_of message l))

        ws : List ℕ
        ws = block message f l

        small : side * side ≤ length grid
        small = omega (arith, square-small answer)
