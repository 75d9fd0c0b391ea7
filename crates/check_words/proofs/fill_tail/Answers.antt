-- The tail is cleared, and takes the remainder.
-- Assumes nothing.
use Rattle.std.proofs.Common.{rules, ◌≡◌, sym, ap, ◌∙◌, ◌++◌, ◌-◌, arith, length, take, replicate}
use borrow.Rule.Slice.PartMut.{put_mid, mid_of}
use Rattle.list_laws.specs.Parts.{put-tail, length-tail}
use Rattle.finite_field.specs.Field.{size_of}
use Rattle.block_code.specs.CheckWordsLaws.{length-generator, generator-words}
use Rattle.check_words.proofs.Remaindering.{cleared-length, cleared-words, check-words-left}
use Rattle.check_words.proofs.fill_tail.Goals as goal
use Rattle.check_words.proofs.fill_tail.Goals.{After-fill, Start}

abbrev start : After-fill → Start
start c = (goal.at.After-fill c).Start

cleared-block : (c : After-fill)
    → let a = (start c).args in
    put_mid a.data_words (length a.block.now - a.data_words) a.block.now c.fill.new.self
    ≡ take a.data_words a.block.now ++ replicate (length a.block.now - a.data_words) 0
cleared-block c =
    let a = (start c).args in
    let zeros : c.fill.new.self ≡ replicate (length (mid_of a.data_words (length a.block.now - a.data_words) a.block.now)) 0 = search rules in
    put-tail a.data_words a.block.now c.fill.new.self
    ∙ ap (λ z. take a.data_words a.block.now ++ z)
    (zeros ∙ ap (λ n. replicate n 0) (length-tail a.data_words a.block.now))

pub divide-requires : goal.divide-requires
divide-requires c =
    let e = (goal.at.divide-requires c).After-fill in
    let s = start e in
    let size = size_of s.args.field.now.size in
    let n = length s.args.block.now - s.args.data_words in
    let len = cleared-length size s.args.data_words s.args.block.now s.requires.data_words_in_bounds_1 (cleared-block e) in record {
      g_words = rw s.requires.is_generator (generator-words size n);
      block_words = cleared-words size s.args.data_words s.args.block.now s.requires.data_words_in_bounds_1 (cleared-block e) s.requires.data_words_in_bounds_2;
      data_words_in_bounds_1 = omega arith;
      data_words_in_bounds_2 = ap length s.requires.is_generator ∙ length-generator size n ∙ sym (ap (λ z. z - s.args.data_words) len);
    }

pub returns : goal.returns
returns c =
    let e = (goal.at.returns c).After-fill in
    let s = start e in
    check-words-left (size_of s.args.field.now.size) s.args.data_words s.args.block.now s.requires.data_words_in_bounds_1 (cleared-block e) s.requires.is_generator
    c.divide.ensures
