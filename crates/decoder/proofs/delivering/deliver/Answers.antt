-- A message that has room is written, and the counts are those of what was received.
-- Assumes nothing.
use Rattle.std.proofs.Common.{◌≡◌, ◌≤◌, sym, ap, ap₂, ◌∙◌, subst, List, ◌++◌, ℕ, arith, length, take, drop, length-take-le}
use Rattle.stream.specs.Items as items
use Rattle.stream_reader.specs.Written.{Room, written}
use Rattle.symbol.specs.Shapes.{word_size, number_of, word-size-range}
use Rattle.symbol.specs.DataPlaces.{most-layers}
use Rattle.encoder.specs.PlanLaws.{number-most}
use Rattle.encoder.specs.EncodeLaws.{words-all}
use Rattle.decoder.specs.declared.Decoded.{Decoded}
use Rattle.walk.specs.Counts.{marked_of, marked_all, wrong-all}
use Rattle.walk.specs.Saying.{SaysMessage}
use Rattle.walk.specs.Walk.{reading_of}
use Rattle.walk.specs.Told.{plain_layout}
use Rattle.walk.specs.MessageLength.{message-most}
use Rattle.decoder.specs.DecodeLaws.{deliver-short, deliver-made}
use Rattle.decoder.proofs.delivering.deliver.Goals as goal
use Rattle.decoder.proofs.delivering.deliver.Goals.{After-count_marked-unread_words, After-number, After-write_message, Start}

-- the data words, and that they say a message
abbrev words : Start → List ℕ
words a = take a.args.told.layout.data_words a.args.found.now

abbrev says : (a : Start) → SaysMessage (reading_of (plain_layout a.args.told.layout) a.args.found.now) a.args.told.bytes
says a = a.requires.says_message

few : (a : Start) → length a.args.found.now ≤ 1664
few a = let s = a.args.told.layout.shape in omega (arith, a.requires.found_len, words-all s.full s.layers s.shaped)

held : (a : Start) → a.args.told.layout.data_words ≤ length a.args.found.now
held a = omega (arith, a.requires.found_len, a.args.told.layout.checked)

length-words : (a : Start) → length (words a) ≡ a.args.told.layout.data_words
length-words a = length-take-le a.args.told.layout.data_words a.args.found.now (held a)

pub returns-then-message-told : goal.returns-then-message-told
returns-then-message-told c =
    let a = (goal.at.returns-then-message-told c).Start in
    let e =
    deliver-short a.args.message.now (plain_layout a.args.told.layout) a.args.received.now a.args.unread.now
    a.args.found.now (says a) c.if-message-told.true in record {
      value = sym (ap (λ r. r.answer) e);
      message_after = sym (ap (λ r. r.message) e);
    }

pub count_marked-unread_words-requires : goal.count_marked-unread_words-requires
count_marked-unread_words-requires c =
    let h = few (goal.at.count_marked-unread_words-requires c).Start in
    (omega (arith, h, c.requires.received_len), omega (arith, c.requires.received_len))

pub count_wrong-wrong_words-requires : goal.count_wrong-wrong_words-requires
count_wrong-wrong_words-requires c =
    let h = few (goal.at.count_wrong-wrong_words-requires c).Start in
    let e = c.requires.received_len in
    (omega (arith, h, e), omega arith, omega (arith, e), omega (arith, e))

pub overflow_cast-result-2 : goal.overflow_cast-result-2
overflow_cast-result-2 c =
    let s = c.args.told.layout.shape in
    omega (arith, c.number.ensures, number-most s.full s.layers (most-layers s.full s.layers s.shaped))

pub slice_bounds-write_message-end : goal.slice_bounds-write_message-end
slice_bounds-write_message-end c = sym (length-words (goal.at.slice_bounds-write_message-end c).Start)

pub write_message-requires : goal.write_message-requires
write_message-requires c =
    let a = (goal.at.write_message-requires c).Start in
    let e = c.word_size-size.ensures in
    let r = word-size-range a.args.told.layout.shape.layers in record {
      le_word_size_1 = omega (arith, e, r);
      le_word_size_2 = omega (arith, e, r);
      le_word_size_3 = omega (arith, length-words a, held a, few a);
      room = subst (λ q. Room q a.args.message.now) (sym (ap (λ b. items.judge b (words a)) e ∙ (says a).is))
          (omega (arith, (says a).size, c.if-message-told.false));
    }

pub overflow_cast-result : goal.overflow_cast-result
overflow_cast-result c =
    let a = (goal.at.overflow_cast-result c).Start in
    let r = word-size-range a.args.told.layout.shape.layers in
    omega (
      arith,
      (says a).size,
      message-most (word_size a.args.told.layout.shape.layers) (words a) (says a).text (says a).is (omega (arith, length-words a, held a, few a)) r.1,
    )

pub returns : goal.returns
returns c =
    let a = (goal.at.returns c).Start in
    let sizes = c.requires.received_len in
    let e =
    deliver-made c.args.message.now (plain_layout c.args.told.layout) c.args.received.now c.args.unread.now
    c.args.found.now (says a) c.if-message-told.false in record {
      value =
          ap (λ t. fields t c.count_marked-unread_words.result c.count_wrong-wrong_words.result) c.number.ensures
          ∙ ap₂ (fields (number_of c.args.told.layout.shape.full c.args.told.layout.shape.layers))
          (c.count_marked-unread_words.ensures
          ∙ ap (λ n. marked_of n c.args.unread.now) (sizes.0 ∙ sym sizes.1)
          ∙ marked_all c.args.unread.now)
          (c.count_wrong-wrong_words.ensures ∙ wrong-all c.args.received.now c.args.unread.now c.args.found.now)
          ∙ sym (ap (λ r. r.answer) e);
      message_after =
          c.write_message.ensures
          ∙ ap (λ q. written q c.args.message.now)
          (ap (λ b. items.judge b (words a)) c.word_size-size.ensures ∙ (says a).is)
          ∙ ap (λ k. (says a).text ++ drop k c.args.message.now) (says a).size
          ∙ sym (ap (λ r. r.message) e);
    }
  where
    fields : ℕ → ℕ → ℕ → Decoded
    fields t x y =
        record { number = 0; length = c.args.told.bytes; shape = t; position = c.args.told.layout.position; unread = x; wrong = y }
