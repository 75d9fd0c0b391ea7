-- What the encoder answers, and the grid buffer afterwards (document 01, "Numbers that come back", 1 to 4): the symbol of the message in
-- its shape, or a refusal and the buffer as it was.
-- Assumes nothing.
use Rattle.std.specs.Prelude.{Bool, cond, List, ◌++◌, ℕ, ◌*◌, ◌-◌, eqb, leb, length}
use Rattle.encoder.specs.declared.Encoded.{Encoded}
use Rattle.finite_field.specs.Field.{size_of}
use Rattle.block_code.specs.CheckWords.{check_words_of}
use Rattle.symbol.specs.Shapes.{word_size, words, is_full, layers}
use Rattle.symbol.specs.Drawing.{drawn}
use Rattle.encoder.specs.Plan.{refused, data_words_of, plan_of}
use Rattle.encoder.specs.ModeMessage.{mode_codewords}

-- the block: data words, then check words
unfoldable pub block : List ℕ → Bool → ℕ → List ℕ
block message f L =
    let ws = data_words_of message L in
    ws ++ check_words_of (size_of (word_size L)) (words f L - length ws) ws

-- the symbol of a message in a shape, drawn at the front of a buffer
unfoldable pub drawn_message : List ℕ → Bool → ℕ → List ℕ → List ℕ
drawn_message message f L grid = drawn f L (mode_codewords f L (length (data_words_of message L))) (block message f L) grid

pub record Result : Type 0 where
  pub answer : Encoded
  pub grid : List ℕ

abbrev pub result : Encoded → List ℕ → Result
result e g = record { answer = e; grid = g }

-- "grid buffer shorter than side² (longer is fine, the rest untouched)" is 4, after the others
unfoldable pub encode_of : List ℕ → ℕ → List ℕ → Result
encode_of message percent grid =
    let plan = plan_of message percent in
    cond (eqb plan.number 0)
    (cond (leb (plan.side * plan.side) (length grid))
    (result plan (drawn_message message (is_full plan.shape) (layers plan.shape) grid)) (result (refused 4) grid))
    (result plan grid)
