-- The short count is taken, and the long one where it is 0.
-- Assumes nothing.
use Rattle.std.proofs.Common.{sym, ◌∙◌, ◌+◌, ◌-◌, arith}
use Rattle.stream.specs.ItemLaws.{count_cut, short-by, long-cut, long-by}
use Rattle.item_reader.specs.Places.{rest}
use Rattle.item_reader.proofs.WordParts.{rest-is-bits, taken-below, taken-left}
use Rattle.item_reader.proofs.ItemParts.{field-says, further, raw-by}
use Rattle.item_reader.proofs.items.count_item.Goals as goal

pub returns-then-left-lt5 : goal.returns-then-left-lt5
returns-then-left-lt5 c =
    let a = c.args in
    let r = rest a.h a.words.now a.place.word a.place.bit in
    λ l e k. sym (count_cut l a.used (omega arith))

pub raw_item-requires : goal.raw_item-requires
raw_item-requires c =
    let a = c.args in
    let r = rest a.h a.words.now a.place.word a.place.bit in
    omega (arith, taken-below (rest-is-bits a.h a.words.now a.place.word a.place.bit) c.take_bits-short.ensures)

pub returns-then-short-ne0 : goal.returns-then-short-ne0
returns-then-short-ne0 c =
    let a = c.args in
    let r = rest a.h a.words.now a.place.word a.place.bit in
    let t = c.take_bits-short in
    λ l e k.
    c.raw_item.ensures
    ∙ raw-by l (a.used + 5) t.result.value (a.left - 5) (omega arith)
    ∙ sym (short-by l a.used t.result.value (omega arith) (field-says l a.used e t.ensures) c.if-short-ne0.true)

pub returns-then-left-lt16 : goal.returns-then-left-lt16
returns-then-left-lt16 c =
    let a = c.args in
    let r = rest a.h a.words.now a.place.word a.place.bit in
    let t = c.take_bits-short in
    λ l e k. sym (long-cut l a.used (omega arith) (field-says l a.used e t.ensures ∙ c.if-short-ne0.false) (omega arith))

pub take_bits-long-requires : goal.take_bits-long-requires
take_bits-long-requires c =
    let a = c.args in
    let r = rest a.h a.words.now a.place.word a.place.bit in record {
      h_bound_1 = omega (arith, taken-left c.take_bits-short.ensures);
      h_bound_2 = omega (arith, taken-left c.take_bits-short.ensures);
      n_in_bounds = omega (arith, taken-left c.take_bits-short.ensures);
    }

pub overflow_add-long : goal.overflow_add-long
overflow_add-long c =
    let a = c.args in
    let r = rest a.h a.words.now a.place.word a.place.bit in
    let p = c.take_bits-short.result.next in
    omega (arith, taken-below (rest-is-bits a.h a.words.now p.word p.bit) c.take_bits-long.ensures)

pub raw_item-requires-2 : goal.raw_item-requires-2
raw_item-requires-2 c =
    let a = c.args in
    let r = rest a.h a.words.now a.place.word a.place.bit in
    let p = c.take_bits-short.result.next in
    omega (arith, taken-below (rest-is-bits a.h a.words.now p.word p.bit) c.take_bits-long.ensures)

pub returns : goal.returns
returns c =
    let a = c.args in
    let r = rest a.h a.words.now a.place.word a.place.bit in
    let t = c.take_bits-short in
    let v = c.take_bits-long in
    λ l e k.
    c.raw_item-2.ensures
    ∙ raw-by l (a.used + 16) (v.result.value + 31) (a.left - 16) (omega arith)
    ∙ sym
    (long-by l a.used v.result.value (omega arith) (field-says l a.used e t.ensures ∙ c.if-short-ne0.false)
    (field-says l (a.used + 5) (further l a.used e t.ensures) v.ensures))
