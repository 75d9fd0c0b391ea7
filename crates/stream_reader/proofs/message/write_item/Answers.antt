-- By the kinds of item, each byte is stored in its place.
-- Assumes nothing.
use Rattle.std.proofs.Common.{sym, ap, ◌∙◌, add-one, arith, set, length-set}
use lib.Seq.{sets}
use Rattle.stream.specs.Items.{adds, yields, extra}
use Rattle.item_reader.specs.Places.{rest}
use Rattle.stream_reader.proofs.message.write_item.Goals as goal

pub bounds-message-from : goal.bounds-message-from
bounds-message-from c = omega (arith, ap yields c.in-Single.is)

pub bounds-message-from-in-Double : goal.bounds-message-from-in-Double
bounds-message-from-in-Double c = omega (arith, ap yields c.in-Double.is)

pub bounds-message-from-in-Double-2 : goal.bounds-message-from-in-Double-2
bounds-message-from-in-Double-2 c = simp length-set (omega (arith, ap yields c.in-Double.is))

pub write_raw-requires : goal.write_raw-requires
write_raw-requires c = record {
  h_bound_1 = omega (arith, ap yields c.in-Raw.is, ap extra c.in-Raw.is);
  h_bound_2 = omega (arith, ap yields c.in-Raw.is, ap extra c.in-Raw.is);
  n_in_bounds = omega (arith, ap yields c.in-Raw.is, ap extra c.in-Raw.is);
}

pub returns-in-Single : goal.returns-in-Single
returns-in-Single c =
    let a = c.args in
    let r = rest a.h a.words.now a.place.word a.place.bit in
    sym (ap (λ i. sets a.message.now a.from (adds i r)) c.in-Single.is)

pub returns-in-Double : goal.returns-in-Double
returns-in-Double c =
    let a = c.args in
    let r = rest a.h a.words.now a.place.word a.place.bit in
    let g = c.in-Double in
    ap (λ k. set (set a.message.now a.from g.b) k g.c) (add-one a.from)
    ∙ sym (ap (λ i. sets a.message.now a.from (adds i r)) g.is)

pub returns-in-Raw : goal.returns-in-Raw
returns-in-Raw c =
    let a = c.args in
    let r = rest a.h a.words.now a.place.word a.place.bit in
    c.write_raw.ensures ∙ sym
    (ap (λ i. sets a.message.now a.from (adds i r)) c.in-Raw.is)
