-- The code after the shift is taken and looked up.
-- Assumes nothing.
use Rattle.std.proofs.Common.{sym, ap, ◌∙◌, ◌+◌, arith}
use Rattle.stream.specs.Codes.{set_number}
use Rattle.stream.specs.CodeLaws.{width-bounds}
use Rattle.stream.specs.Items.{shifted}
use Rattle.stream.specs.ItemLaws.{shift-cut}
use Rattle.item_reader.specs.Places.{rest}
use Rattle.item_reader.proofs.WordParts.{rest-is-bits}
use Rattle.item_reader.proofs.ItemParts.{code_below, field-says, shift-found}
use Rattle.item_reader.proofs.items.shift_item.Goals as goal

pub returns-then-left-width : goal.returns-then-left-width
returns-then-left-width c =
    let a = c.args in
    let r = rest a.h a.words.now a.place.word a.place.bit in
    λ l e k. sym (shift-cut l a.used a.set (omega (arith, c.width_of-width.ensures)))

pub take_bits-code-requires : goal.take_bits-code-requires
take_bits-code-requires c =
    let a = c.args in
    let r = rest a.h a.words.now a.place.word a.place.bit in record {
      h_bound_1 = omega (arith, c.width_of-width.ensures, width-bounds (set_number a.set));
      h_bound_2 = omega (arith, c.width_of-width.ensures, width-bounds (set_number a.set));
      n_in_bounds = omega (arith, c.width_of-width.ensures, width-bounds (set_number a.set));
    }

pub entry_at-requires : goal.entry_at-requires
entry_at-requires c =
    let a = c.args in
    code_below (set_number a.set) c.width_of-width.result c.width_of-width.ensures (rest-is-bits a.h a.words.now a.place.word a.place.bit) c.take_bits-code.ensures

pub overflow_add-used : goal.overflow_add-used
overflow_add-used c =
    let a = c.args in
    let r = rest a.h a.words.now a.place.word a.place.bit in
    omega (arith, c.width_of-width.ensures, width-bounds (set_number a.set))

pub returns : goal.returns
returns c =
    let a = c.args in
    let r = rest a.h a.words.now a.place.word a.place.bit in
    let w = c.width_of-width in
    let t = c.take_bits-code in
    λ l e k.
    c.after_shift.ensures
    ∙ ap (λ e. shifted e (a.used + w.result)) c.entry_at.ensures
    ∙ shift-found l a.used w.result t.result.value a.set w.ensures (omega arith) (field-says l a.used e t.ensures)
