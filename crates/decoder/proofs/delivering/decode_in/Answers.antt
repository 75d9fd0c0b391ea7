-- A refusal of the walk is passed on; else the words that are delivered are those of the walk.
-- Assumes nothing.
use Rattle.std.proofs.Common.{◌≡◌, sym, ap, ◌∙◌, subst, List, ℕ, ◌≤◌, arith, length, take, length-take-le}
use Rattle.std.proofs.lemmas.Result.{err_from_is_err_and}
use Rattle.encoder.specs.EncodeLaws.{words-all}
use Rattle.walk.specs.Walk.{Layout, walk_of}
use Rattle.walk.specs.Told.{plain_layout}
use Rattle.walk.specs.Ends.{EndsIn, Message, walk_ends, moded-position}
use Rattle.walk.specs.Fronts.{fronts, message-says, message-judged}
use Rattle.decoder.specs.Decode.{answer_by, answer_of, decode_of}
use Rattle.decoder.proofs.delivering.decode_in.Goals as goal
use Rattle.decoder.proofs.delivering.decode_in.Goals.{After-words-count}

pub returns-in_err-told : goal.returns-in_err-told
unfolding decode_of
returns-in_err-told c =
    let w = walk_of c.args.grid.now c.args.n in
    let p = err_from_is_err_and c.from_residual.result c.from_residual.ensures.1 in record {
      value = rw (p.1, p.2) (ap (λ o. (answer_by c.args.message.now w o).answer) c.in_err-told.ensures.value);
      message_after = ap (λ o. (answer_by c.args.message.now w o).message) c.in_err-told.ensures.value;
    }

module _ (c : After-words-count) where
  abbrev layout : Layout
  layout = plain_layout c.in_ok-told.told.layout

  abbrev front : List ℕ → List ℕ
  front l = take c.words-count.result l

  -- the block that says a message: its words, with their number from the code
  together : (let l = c.walk.new.buffers in
      Message c.args.grid.now c.args.n layout c.in_ok-told.told.bytes (front l.received.now) (front l.unread.now) (front l.found.now)
      (walk_of c.args.grid.now c.args.n).text)
  together =
      let l = c.walk.new.buffers in
      let w = walk_of c.args.grid.now c.args.n in
      fronts c.args.grid.now c.args.n layout w l.received.now l.unread.now l.found.now
      (subst (EndsIn c.args.grid.now c.args.n w) (sym c.in_ok-told.ensures.value) (walk_ends c.args.grid.now c.args.n))
      c.walk.ensures.left c.words-count.ensures

  few : c.words-count.result ≤ 1664
  few = let s = c.in_ok-told.told.layout.shape in omega (arith, c.words-count.ensures, words-all s.full s.layers s.shaped)

  long : (l : List ℕ) → 1664 ≤ length l → length (front l) ≡ c.words-count.result
  long l h = length-take-le c.words-count.result l (omega (arith, few))

pub slice_bounds-deliver-end : goal.slice_bounds-deliver-end
slice_bounds-deliver-end c =
    let b = c.walk.new.buffers in sym (long (goal.at.slice_bounds-deliver-end c).After-words-count b.received.now b.rooms.received-room)

pub slice_bounds-deliver-end-2 : goal.slice_bounds-deliver-end-2
slice_bounds-deliver-end-2 c =
    let b = c.walk.new.buffers in sym (long (goal.at.slice_bounds-deliver-end-2 c).After-words-count b.unread.now b.rooms.unread-room)

pub slice_bounds-deliver-end-3 : goal.slice_bounds-deliver-end-3
slice_bounds-deliver-end-3 c =
    let b = c.walk.new.buffers in sym (long (goal.at.slice_bounds-deliver-end-3 c).After-words-count b.found.now b.rooms.found-room)

pub deliver-requires : goal.deliver-requires
deliver-requires c =
    let w = (goal.at.deliver-requires c).After-words-count in
    let b = c.walk.new.buffers in
    let f = long w b.found.now b.rooms.found-room in record {
      position_below = moded-position c.args.grid.now c.args.n (together w).sampled.moded;
      found_len = f ∙ c.words-count.ensures;
      received_len = (long w b.received.now b.rooms.received-room ∙ sym f, long w b.unread.now b.rooms.unread-room ∙ sym f);
      says_message = message-says c.args.grid.now c.args.n (layout w) (together w);
    }

pub returns : goal.returns
unfolding decode_of
returns c =
    let w = (goal.at.returns c).After-words-count in
    let e = ap (answer_of c.args.message.now) (message-judged c.args.grid.now c.args.n (layout w) (together w)) in record {
      value = c.deliver.ensures.value ∙ ap (λ r. r.answer) e;
      message_after = c.deliver.ensures.message_after ∙ ap (λ r. r.message) e;
    }
