-- What was read is lawful, so that the corrector answers by the nearest block alone.
-- Assumes nothing.
use Rattle.std.proofs.Common.{ap, ap₂, ◌∙◌}
use Rattle.reed_solomon.specs.Correct.{correct_of}
use Rattle.sampling.specs.Sampled.{mode_words_of, mode_marks_of}
use Rattle.encoder.specs.ModeMessage.{mode_checks}
use Rattle.recovery.specs.Correcting.{corrected-by}
use Rattle.recovery.specs.LawfulWords.{mode-lawful, length-mode-of}
use Rattle.recovery.proofs.correcting.correct_mode_with.Goals as goal

pub returns : goal.returns
returns c =
    let ws = mode_words_of c.args.frame.full c.args.frame.side c.args.upright.now in
    let ms = mode_marks_of c.args.frame.full c.args.frame.side c.args.upright.now in
    let same =
    ap (λ k. correct_of 4 k c.read_mode.new.mode_words c.read_mode.new.marks c.args.corrected.now)
    c.mode_checks_of.ensures
    ∙ ap₂ (λ r m. correct_of 4 (mode_checks c.args.frame.full) r m c.args.corrected.now) c.read_mode.ensures.mode_words_after c.read_mode.ensures.marks_after in
    corrected-by 4 (mode_checks c.args.frame.full) ws ms (mode-lawful c.args.frame.full c.args.frame.side c.args.upright.now) c.args.corrected.now
    c.correct.new.corrected c.correct.result
    (c.requires.received_len.2 ∙ length-mode-of c.args.frame.full c.args.frame.side c.args.upright.now)
    (c.correct.ensures.value ∙ ap (λ r. r.number) same) (c.correct.ensures.corrected_after ∙ ap (λ r. r.words) same)
