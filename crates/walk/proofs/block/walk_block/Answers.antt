-- The block that was found is the nearest, or there is none.
-- Assumes nothing.
use Rattle.std.proofs.Common.{◌≡◌, Err, sym, ap, ap₂, ◌∙◌, List, ℕ, ◌-◌, ◌≤◌, le_refl, arith, length}
use Rattle.block_code.specs.Nearest as code
use Rattle.symbol.specs.Shapes.{words}
use Rattle.sampling.specs.Sampled.{block_words_of, block_marks_of}
use Rattle.encoder.specs.EncodeLaws.{words-all}
use Rattle.walk.specs.declared.Refusal.TheVariants.{Uncorrected}
use Rattle.walk.specs.Counts.{marked_of, marked_all}
use Rattle.walk.specs.Walk.{Walk, reading_of}
use Rattle.walk.specs.Told.{plain_layout}
use Rattle.walk.specs.Upright.{judged-is}
use Rattle.walk.specs.BlockLaws.{block-found, block_none, block-left, none_left}
use Rattle.walk.proofs.block.walk_block.Goals as goal
use Rattle.walk.proofs.block.walk_block.Goals.{After-correct_block, Start}

abbrev start : After-correct_block → Start
start c = (goal.at.After-correct_block c).Start

abbrev found : After-correct_block → List ℕ
found c = c.correct_block.new.found

-- the words of the block
abbrev count : Start → ℕ
count a = words a.args.layout.shape.full a.args.layout.shape.layers

few : (a : Start) → count a ≤ 1664
few a = words-all a.args.layout.shape.full a.args.layout.shape.layers a.args.layout.shape.shaped

length_found : (c : After-correct_block) → length (found c) ≡ count (start c)
length_found c = c.correct_block.auto.found ∙ (start c).requires.marks_len.1

-- what was counted are the corrector's marks
erased : {e : ℕ} {marks given : List ℕ} → e ≡ marked_of (length marks) marks → marks ≡ given → e ≡ code.unread given
erased {e} {marks} p q = p ∙ marked_all marks ∙ ap code.unread q

pub judge_block-requires : goal.judge_block-requires
judge_block-requires c = length_found (goal.at.judge_block-requires c).After-correct_block

pub returns-then-correct_block : goal.returns-then-correct_block
returns-then-correct_block c =
    let k = (goal.at.returns-then-correct_block c).After-correct_block in
    let a = start k in
    let l = plain_layout a.args.layout in
    let u = a.args.upright.now in
    let ws = block_words_of l.full l.layers u in
    let ms = block_marks_of l.full l.layers u in
    let e = k.correct_block.ensures.corrected.yes c.if-correct_block.true in record {
      value = c.judge_block.ensures
          ∙ judged-is l ws ms (found k) (reading_of l (found k))
          ∙ sym (ap (λ (w : Walk). w.outcome) (block-found l ws ms (found k) e));
      left = block-left l ws ms (found k) k.correct_block.ensures.received_after k.correct_block.ensures.unread_after e;
    }

pub count_marked-erasures-requires : goal.count_marked-erasures-requires
count_marked-erasures-requires c =
    let k = (goal.at.count_marked-erasures-requires c).After-correct_block in
    let a = start k in
    let n = k.correct_block.auto.marks ∙ a.requires.marks_len.0 in
    (omega (arith, n, few a), le_refl _)

pub overflow_cast-checks : goal.overflow_cast-checks
overflow_cast-checks c =
    let k = (goal.at.overflow_cast-checks c).After-correct_block in
    let a = start k in
    omega (arith, k.correct_block.auto.received, a.requires.received_len.0, few a)

pub returns : goal.returns
returns c =
    let k = (goal.at.returns c).After-correct_block in
    let a = start k in
    let l = plain_layout a.args.layout in
    let u = a.args.upright.now in
    let ws = block_words_of l.full l.layers u in
    let ms = block_marks_of l.full l.layers u in
    let e = k.correct_block.ensures.corrected.no c.if-correct_block.false in record {
      value = ap₂ (λ e K. Err (Uncorrected e K)) (erased c.count_marked-erasures.ensures k.correct_block.ensures.marks_after)
          (ap (λ n. n - l.data_words) (k.correct_block.auto.received ∙ a.requires.received_len.0))
          ∙ sym (ap (λ (w : Walk). w.outcome) (block_none l ws ms e));
      left = none_left l ws ms k.correct_block.new.received k.correct_block.new.unread (found k) e;
    }
