-- What is left of the search is the whole search's answer.
-- Assumes nothing.
use Rattle.std.proofs.Common.{◌≡◌, sym, ap, ◌∙◌, true, ◌+◌, ◌-◌, arith}
use Rattle.list_laws.specs.Search.{first_from, first-here, first_next, first-none}
use Rattle.stream.specs.Below.{Bytes, below_of}
use Rattle.stream_writer.specs.Encoding.{words_needed}
use Rattle.symbol.specs.Shapes.{word_size, word-size-range}
use Rattle.encoder.specs.Plan.{fits, fits_listed, planned_for}
use Rattle.encoder.specs.PlanLaws.{fit_words, Tried, tried-fits, tried-answer, long-refused}
use Rattle.encoder.proofs.planning.first_fit.Goals as goal
use Rattle.encoder.proofs.planning.first_fit.Goals.{then-word_size-size, else-word_size-size, Joined-word_size-size, Then-fits}

pub returns-then-message-gt4992 : goal.returns-then-message-gt4992
returns-then-message-gt4992 c =
    let bytes = below_of 256 c.args.message.now (λ i h. omega (arith, c.type_inv.message i)) in
    ap (planned_for c.args.message.now) (sym (long-refused c.args.message.now bytes (omega arith) c.args.percent))

pub count_words-words-requires-then-word_size-size : goal.count_words-words-requires-then-word_size-size
count_words-words-requires-then-word_size-size c =
    let r = word-size-range c.listed-shape.result.layers in (omega (arith, r, c.word_size-size.ensures), omega (arith, r, c.word_size-size.ensures))

-- the words were counted, in words of the shape's size
counted : (c : Joined-word_size-size) → c.if-word_size-size.words ≡ words_needed c.if-word_size-size.size c.args.message.now
counted c =
    elim c.if-word_size-size.branch [
      | then-word_size-size w ↦
          w.words-is ∙ w.count_words-words-then-word_size-size.ensures ∙ ap (λ b. words_needed b c.args.message.now) (sym w.size-is)
      | else-word_size-size w ↦ w.words-is ∙ c.loop-i.invariant.counted ∙ ap (λ b. words_needed b c.args.message.now) (sym w.size-is)
    ]

sized : (c : Joined-word_size-size) → c.if-word_size-size.size ≡ word_size c.listed-shape.result.layers
sized c =
    elim c.if-word_size-size.branch [
      | then-word_size-size w ↦ w.size-is ∙ w.word_size-size.ensures
      | else-word_size-size w ↦ w.size-is ∙ sym w.if-word_size-size.false ∙ c.word_size.ensures
    ]

tried : (c : Joined-word_size-size)
    → Tried c.args.message.now c.loop-i.i c.listed-shape.result.full c.listed-shape.result.layers c.if-word_size-size.words
tried c =
    record {
      family = c.listed-shape.ensures.0;
      shaped = c.listed-shape.ensures.1;
      count = counted c ∙ ap (λ b. words_needed b c.args.message.now) (sized c);
    }

bytes : (c : Joined-word_size-size) → Bytes c.args.message.now
bytes c = below_of 256 c.args.message.now (λ i h. omega (arith, c.type_inv.message i))

-- the shape's test is the definition's
tested : (c : Joined-word_size-size) → (let s = c.listed-shape.result in
    fits c.args.percent s.full s.layers c.if-word_size-size.words ≡ fits_listed c.args.message.now c.args.percent c.loop-i.i)
tested c = tried-fits (tried c) (omega arith) c.args.percent (bytes c)

passed : (c : Then-fits) → (let s = c.listed-shape.result in fits c.args.percent s.full s.layers c.if-word_size-size.words ≡ true)
passed c = sym c.fits.ensures ∙ c.if-fits.true

pub invariant_of-result : goal.invariant_of-result
invariant_of-result c = record { held = fit_words c.args.percent _ _ _ (passed (goal.at.invariant_of-result c).Then-fits) }

pub returns-then-fits : goal.returns-then-fits
returns-then-fits c =
    let j = (goal.at.returns-then-fits c).Joined-word_size-size in
    let p = passed (goal.at.returns-then-fits c).Then-fits in
    let test = fits_listed c.args.message.now c.args.percent in
    let i = c.loop-i.i in
    tried-answer (tried j) (omega arith) c.args.percent p
    ∙ ap (planned_for c.args.message.now)
    (sym (first-here test i (33 - i) (omega arith) (sym (tested j) ∙ p)) ∙ c.loop-i.invariant.searched)

pub loop-i-preserved : goal.loop-i-preserved
loop-i-preserved c =
    let j = (goal.at.loop-i-preserved c).Joined-word_size-size in
    let test = fits_listed c.args.message.now c.args.percent in
    let i = c.loop-i.i in record {
      counted = counted j;
      searched =
          ap (first_from test (i + 1)) (let z : 33 - (i + 1) ≡ 33 - i - 1 = omega arith in z)
          ∙ sym (first_next test i (33 - i) (omega arith) (sym (tested j) ∙ sym c.fits.ensures ∙ c.if-fits.false))
          ∙ c.loop-i.invariant.searched;
    }

pub returns : goal.returns
returns c =
    let test = fits_listed c.args.message.now c.args.percent in
    let i = c.loop-i.i in
    ap (planned_for c.args.message.now)
    (sym (first-none test i) ∙ ap (first_from test i) (let z : 0 ≡ 33 - i = omega arith in z) ∙ c.loop-i.invariant.searched)
