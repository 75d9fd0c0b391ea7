-- What was read is lawful, so that the corrector answers by the nearest block alone.
-- Assumes nothing.
use Rattle.std.proofs.Common.{sym, ap, ap₂, ◌∙◌, ◌-◌, ◌≤◌, arith, length}
use Rattle.reed_solomon.specs.Correct.{correct_of}
use Rattle.symbol.specs.Shapes.{word_size, words, word-size-range}
use Rattle.sampling.specs.Sampled.{block_words_of, block_marks_of}
use Rattle.sampling.specs.Flat.{flat_marked}
use Rattle.recovery.specs.Correcting.{corrected-by}
use Rattle.recovery.specs.LawfulWords.{block-lawful, length-block-of, length-marks-of}
use Rattle.recovery.proofs.correcting.correct_block.Goals as goal
use Rattle.recovery.proofs.correcting.correct_block.Goals.{After-copy_from_slice, After-correct, After-mark_flat, After-read_block, After-word_size-size, Start}

-- the way back from the corrector
abbrev flattened : After-correct → After-mark_flat
flattened c = (goal.at.After-correct c).After-mark_flat

abbrev copied : After-mark_flat → After-copy_from_slice
copied c = (goal.at.After-mark_flat c).After-copy_from_slice

abbrev read : After-copy_from_slice → After-read_block
read c = (goal.at.After-copy_from_slice c).After-read_block

abbrev sized : After-read_block → After-word_size-size
sized c = (goal.at.After-read_block c).After-word_size-size

abbrev start : After-word_size-size → Start
start c = (goal.at.After-word_size-size c).Start

small : (c : After-word_size-size) → c.word_size-size.result ≤ 12
small c = omega (arith, c.word_size-size.ensures, word-size-range (start c).args.shape.layers)

pub mark_flat-requires : goal.mark_flat-requires
mark_flat-requires c =
    let copy = (goal.at.mark_flat-requires c).After-copy_from_slice in
    let r = read copy in
    let a = start (sized r) in
    let n = ap length r.read_block.ensures.block_after ∙ sym (length-block-of a.args.shape.full a.args.shape.layers a.args.upright.now) in (
      small (sized r),
      omega (arith, n, a.requires.upright_len.2),
      ap length copy.copy_from_slice.ensures.after ∙ ap length r.read_block.ensures.marks_after
          ∙ sym (length-marks-of a.args.shape.full a.args.shape.layers a.args.upright.now) ∙ sym n,
    )

pub overflow_cast-size : goal.overflow_cast-size
overflow_cast-size c = omega (arith, small (sized (read (copied (goal.at.overflow_cast-size c).After-mark_flat))))

pub returns : goal.returns
returns c =
    let fixed = (goal.at.returns c).After-correct in
    let flat = flattened fixed in
    let copy = copied flat in
    let r = read copy in
    let a = start (sized r) in
    let f = a.args.shape.full in
    let L = a.args.shape.layers in
    let D = a.args.data_words in
    let u = a.args.upright.now in
    let buffer = a.args.found.now in
    let ws = block_words_of f L u in
    let e = (sized r).word_size-size.ensures in
    let marks =
    flat.mark_flat.ensures
    ∙ ap₂ (λ b w. flat_marked b D w copy.copy_from_slice.new.self) e r.read_block.ensures.block_after
    ∙ ap (flat_marked (word_size L) D ws) (copy.copy_from_slice.ensures.after ∙ r.read_block.ensures.marks_after) in
    let same =
    ap₂ (λ b w. correct_of b (length w - D) w flat.mark_flat.new.marks buffer) e r.read_block.ensures.block_after
    ∙ ap₂ (λ k m. correct_of (word_size L) (k - D) ws m buffer) (sym (length-block-of f L u)) marks in record {
      received_after = r.read_block.ensures.block_after;
      unread_after = r.read_block.ensures.marks_after;
      marks_after = marks;
      corrected = corrected-by (word_size L) (words f L - D) ws (flat_marked (word_size L) D ws (block_marks_of f L u))
          (block-lawful f L D u a.args.shape.shaped a.requires.upright_len.1 a.requires.upright_len.2) buffer fixed.correct.new.corrected fixed.correct.result
          (a.requires.marks_len.1 ∙ length-block-of f L u)
          (fixed.correct.ensures.value ∙ ap (λ r. r.number) same) (fixed.correct.ensures.corrected_after ∙ ap (λ r. r.words) same);
    }
