-- The words at the front are the message's, and the check words are theirs.
-- Assumes nothing.
use Rattle.std.proofs.Common.{◌≡◌, subst, sym, ap, ◌∙◌, List, ℕ, ◌^◌, ◌<◌, arith, length, take}
use lib.Seq.{sets, length-sets}
use Rattle.finite_field.specs.Field.{bits, size_of}
use Rattle.block_code.specs.Block.{Words}
use Rattle.block_code.specs.CheckWords.{with_check_words}
use Rattle.stream.specs.Stream.{bits_of}
use Rattle.stream.specs.Stuffing.{stuff}
use Rattle.symbol.specs.Shapes.{word_size, words, word-size-range}
use Rattle.symbol.specs.ShapeTable.{words-fit}
use Rattle.encoder.specs.Plan.{data_words_of}
use Rattle.encoder.specs.Fitting.{size_is, data-words, block-filled, front-written}
use Rattle.encoder.proofs.message_symbol.fill_block.Goals as goal
use Rattle.encoder.proofs.message_symbol.fill_block.Goals.{After-word_size-size, After-write_words, Start}

pub write_words-requires : goal.write_words-requires
write_words-requires c =
    let r = word-size-range c.args.shape.layers in
    let e = c.word_size-size.ensures in
    (omega (arith, e, r), omega (arith, e, r), c.requires.fact_1.short)

pub overflow_cast-size : goal.overflow_cast-size
overflow_cast-size c =
    omega (arith, c.word_size-size.ensures, word-size-range c.args.shape.layers)

abbrev sized : After-write_words → After-word_size-size
sized c = (goal.at.After-write_words c).After-word_size-size

abbrev start : After-write_words → Start
start c = (goal.at.After-write_words c).Start

abbrev message : After-write_words → List ℕ
message c = (start c).args.message.now

-- the block with the message's words, which are its first
abbrev last : After-write_words → List ℕ
last c = c.write_words.new.words

written : (c : After-write_words) → last c ≡ sets (start c).args.words.now 0 (data_words_of (message c) (start c).args.shape.layers)
unfolding data_words_of
written c =
    c.write_words.ensures.words_after
    ∙ ap (λ b. sets (start c).args.words.now 0 (stuff b (bits_of (message c)))) (sized c).word_size-size.ensures

length_last : (c : After-write_words) → length (last c) ≡ words (start c).args.shape.full (start c).args.shape.layers
length_last c = ap length (written c) ∙ length-sets (start c).args.words.now 0 (data_words_of (message c) (start c).args.shape.layers) ∙ (start c).requires.fact_2

front : (c : After-write_words) → take (start c).args.data_words (last c) ≡ data_words_of (message c) (start c).args.shape.layers
front c =
    let a = start c in
    let ws = data_words_of (message c) a.args.shape.layers in
    ap (take a.args.data_words) (written c)
    ∙ ap (λ n. take n (sets a.args.words.now 0 ws)) a.requires.fact_1.count
    ∙ front-written a.args.words.now ws (omega (arith, a.requires.fact_2, a.requires.fact_1.checks, a.requires.fact_1.count))

pub fill_check_words-requires : goal.fill_check_words-requires
fill_check_words-requires c =
    let w = (goal.at.fill_check_words-requires c).After-write_words in
    let a = start w in
    let e = (sized w).word_size-size.ensures in record {
      size_value_1 = ap (λ b. bits (size_of b)) e ∙ size_is a.args.shape.layers ∙ sym e;
      size_value_2 = omega (arith, length_last w, a.requires.fact_1.checks);
      size_value_3 = subst (λ b. length (last w) < 2 ^ b) (sym e) (omega (arith, length_last w, words-fit a.args.shape.full a.args.shape.layers a.args.shape.shaped));
      words = subst (λ b. Words (size_of b) (take a.args.data_words (last w))) (sym e)
          (subst (Words (size_of (word_size a.args.shape.layers))) (sym (front w)) (data-words (message w) a.args.shape.layers));
    }

pub returns : goal.returns
returns c =
    let w = (goal.at.returns c).After-write_words in
    let a = start w in
    c.fill_check_words.ensures
    ∙ ap (λ b. with_check_words (size_of b) a.args.data_words (last w)) (sized w).word_size-size.ensures
    ∙ block-filled (message w) a.args.shape.full a.args.shape.layers a.args.data_words (last w) a.requires.fact_1.count (front w) (length_last w)
