-- The table of the twelve places, and the twelve modules as words of one bit.
-- Assumes nothing.
use Rattle.std.proofs.Common.{rules, ◌≡◌, refl, ap₂, ◌∙◌, ℕ, ◌<◌, arith, eqb, eqb→eq, get_or, replicate}
use Rattle.list_laws.specs.Range.{all, all-at}
use Rattle.list_laws.specs.Writes.{writes, writes-cong}
use Rattle.symbol.specs.Shapes.{side}
use Rattle.symbol.specs.Places.{orientation_place}
use Rattle.symbol.specs.CorePlaces.{core-room, orientation-lt}
use Rattle.symbol.specs.Drawing.{bit_of, words_bit, orientation_bits, with_orientation}
use Rattle.symbol.specs.Tables.{table_fits, table-draws}
use Rattle.drawing.proofs.draw_orientation.Goals as goal
use Rattle.drawing.proofs.draw_orientation.Goals.{After-orientation_places}

one-bit-words : (i : ℕ) → i < 12 → words_bit 1 0 orientation_bits i ≡ get_or orientation_bits i 0
unfolding all words_bit bit_of orientation_bits
one-bit-words i h = eqb→eq _ _ (all-at 12 (λ i. eqb (words_bit 1 0 orientation_bits i) (get_or orientation_bits i 0)) tt i h)

made : (c : After-orientation_places)
    → let a = c.args in
    c.orientation_places.new.places ≡ writes (replicate 12 0) (λ k. k) (orientation_place a.shape.full (side a.shape.full a.shape.layers)) 12
made c =
    let a = c.args in
    c.orientation_places.ensures
    ∙ ap₂ (λ f n. writes (replicate 12 0) (λ k. k) (orientation_place f n) 12) c.frame.ensures.0 c.frame.ensures.1

pub draw_words-requires : goal.draw_words-requires
draw_words-requires c =
    let a = c.args in
    let n = side a.shape.full a.shape.layers in record {
      le_size = (search rules, search rules, search rules);
      places_fit = table_fits (replicate 12 0) (orientation_place a.shape.full n) 12 (omega arith) (made (goal.at.draw_words-requires c).After-orientation_places) refl _
          (λ i h. omega (arith, c.requires, orientation-lt a.shape.full n (core-room a.shape.full a.shape.layers a.shape.shaped) i h));
    }

pub returns : goal.returns
unfolding with_orientation orientation_bits
returns c =
    let e = (goal.at.returns c).After-orientation_places in
    let a = e.args in
    let n = side a.shape.full a.shape.layers in
    table-draws (replicate 12 0) (orientation_place a.shape.full n) 12 (omega arith) (made e) refl a.grid.now (words_bit 1 0 orientation_bits)
    c.draw_words.ensures
    ∙ writes-cong a.grid.now _ _ _ _ 12 (λ i k. refl) one-bit-words
