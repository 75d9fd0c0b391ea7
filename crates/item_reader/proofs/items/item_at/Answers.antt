-- The code is taken and looked up, and its entry tells the item.
-- Assumes nothing.
use Rattle.std.proofs.Common.{◌≡◌, inl, inr, refl, sym, ◌∙◌, ◌-◌, arith}
use Rattle.stream.specs.declared.codes.Entry.{Entry}
use Rattle.stream.specs.declared.codes.Entry.TheVariants.{Char, Pair, Latch, Shift, Binary, Flag, Missing}
use Rattle.stream.specs.CodeLaws.{width-bounds}
use Rattle.stream.specs.Codes.{set_number}
use Rattle.stream.specs.Items.{item_by, item_at}
use Rattle.stream.specs.ItemLaws.{item-cut}
use Rattle.item_reader.specs.Places.{rest}
use Rattle.item_reader.proofs.WordParts.{rest-is-bits, taken-left}
use Rattle.item_reader.proofs.ItemParts.{code_below, field-says, item-found}
use Rattle.item_reader.proofs.items.item_at.Goals as goal
use Rattle.item_reader.proofs.items.item_at.Goals.{After-entry_at}

pub overflow_sub-h : goal.overflow_sub-h
overflow_sub-h c = omega (arith, c.requires.least)

pub returns-then-left-width : goal.returns-then-left-width
returns-then-left-width c =
    let a = c.args in
    let r = rest (a.word_size - 1) a.words.now a.place.word a.place.bit in
    sym (item-cut r (set_number a.set) (omega (arith, c.requires.counted, c.width_of-width.ensures)))

pub take_bits-code-requires : goal.take_bits-code-requires
take_bits-code-requires c =
    let a = c.args in
    let r = rest (a.word_size - 1) a.words.now a.place.word a.place.bit in record {
      h_bound_1 = omega (arith, c.requires.most, c.requires.counted, c.width_of-width.ensures, width-bounds (set_number a.set));
      h_bound_2 = omega (arith, c.requires.most, c.requires.counted, c.width_of-width.ensures, width-bounds (set_number a.set));
      n_in_bounds = omega (arith, c.requires.most, c.requires.counted, c.width_of-width.ensures, width-bounds (set_number a.set));
    }

pub entry_at-requires : goal.entry_at-requires
entry_at-requires c =
    let a = c.args in
    code_below (set_number a.set) c.width_of-width.result c.width_of-width.ensures
    (rest-is-bits (a.word_size - 1) a.words.now a.place.word a.place.bit) c.take_bits-code.ensures

pub shift_item-requires : goal.shift_item-requires
shift_item-requires c =
    record {
      h_bound_1 = omega (arith, c.requires.most);
      h_bound_2 = omega (arith, c.width_of-width.ensures, width-bounds (set_number c.args.set));
      left_value = omega (arith, c.requires.counted, taken-left c.take_bits-code.ensures);
    }

pub count_item-requires : goal.count_item-requires
count_item-requires c =
    let a = c.args in
    let r = rest (a.word_size - 1) a.words.now a.place.word a.place.bit in
    let w = c.width_of-width in record {
      h_bound_1 = omega (arith, c.requires.most, c.requires.counted, w.ensures, width-bounds (set_number a.set), taken-left c.take_bits-code.ensures);
      h_bound_2 = omega (arith, c.requires.most, c.requires.counted, w.ensures, width-bounds (set_number a.set), taken-left c.take_bits-code.ensures);
      left_value = omega (arith, c.requires.most, c.requires.counted, w.ensures, width-bounds (set_number a.set), taken-left c.take_bits-code.ensures);
    }

-- the item is that of the code's entry e
shown : (c : After-entry_at) (e : Entry) → c.entry_at.result ≡ e
    → (let r = rest (c.args.word_size - 1) c.args.words.now c.args.place.word c.args.place.bit in
    item_by r c.width_of-width.result e ≡ item_at (set_number c.args.set) r)
shown c e is =
    let a = c.args in
    let r = rest (a.word_size - 1) a.words.now a.place.word a.place.bit in
    item-found r (set_number a.set) c.width_of-width.result c.take_bits-code.result.value e
    c.width_of-width.ensures (omega (arith, c.requires.counted))
    (field-says r 0 refl c.take_bits-code.ensures) (sym c.entry_at.ensures ∙ is)

pub returns-in-Char : goal.returns-in-Char
unfolding item_by
returns-in-Char c = shown (goal.at.returns-in-Char c).After-entry_at (Char c.in-Char.b) c.in-Char.is

pub returns-in-Pair : goal.returns-in-Pair
unfolding item_by
returns-in-Pair c = shown (goal.at.returns-in-Pair c).After-entry_at (Pair c.in-Pair.b c.in-Pair.c) c.in-Pair.is

pub returns-in-Latch : goal.returns-in-Latch
unfolding item_by
returns-in-Latch c = shown (goal.at.returns-in-Latch c).After-entry_at (Latch c.in-Latch.t) c.in-Latch.is

pub returns-in-Shift : goal.returns-in-Shift
returns-in-Shift c =
    let r = rest (c.args.word_size - 1) c.args.words.now c.args.place.word c.args.place.bit in
    c.shift_item.ensures r c.take_bits-code.ensures.left (omega (arith, c.requires.counted))
    ∙ shown (goal.at.returns-in-Shift c).After-entry_at (Shift c.in-Shift.t) c.in-Shift.is

pub returns-in-Binary : goal.returns-in-Binary
unfolding item_by
returns-in-Binary c =
    let r = rest (c.args.word_size - 1) c.args.words.now c.args.place.word c.args.place.bit in
    c.count_item.ensures r c.take_bits-code.ensures.left (omega (arith, c.requires.counted))
    ∙ shown (goal.at.returns-in-Binary c).After-entry_at Binary c.in-Binary.is

pub returns-in-Flag : goal.returns-in-Flag
unfolding item_by
returns-in-Flag c =
    let at = (goal.at.returns-in-Flag c).After-entry_at in
    elim c.in-Flag.is [ inl e ↦ shown at Flag e | inr e ↦ shown at Missing e ]
