-- The refusal of the search, the short buffer, the symbol.
-- Assumes nothing.
use Rattle.std.proofs.Common.{◌≡◌, ◌≢◌, refl, sym, ap, ◌∙◌, subst, Ok, Err, List, ℕ, ◌*◌, ◌≤◌, ◌<◌, arith, length}
use Rattle.std.proofs.lemmas.Result.{err_from_is_err_and}
use Rattle.stream.specs.Below.{below_of}
use Rattle.symbol.specs.Shapes.{number_of, is_full, layers}
use Rattle.symbol.specs.ShapeTable.{shape_of}
use Rattle.encoder.specs.declared.Refusal.{Refusal}
use Rattle.encoder.specs.declared.Refusal.TheVariants.{Empty, Percentage, TooLong, Room}
use Rattle.encoder.specs.declared.chosen.Choice.{Choice}
use Rattle.encoder.specs.Plan.{refused, plan_of}
use Rattle.encoder.specs.Answer.{refusal_number, encoded}
use Rattle.encoder.specs.Encode.{drawn_message}
use Rattle.encoder.specs.Fitting.{Fitting}
use Rattle.encoder.specs.EncodeLaws.{encode-refused, encode-short, encode-made, Answered, answered, square-small}
use Rattle.encoder.proofs.encode_chosen.Goals as goal
use Rattle.encoder.proofs.encode_chosen.Goals.{In_ok-choice}

refusal-some : (r : Refusal) → (refused (refusal_number r)).number ≢ 0
unfolding refused
refusal-some Empty e = omega arith
refusal-some Percentage e = omega arith
refusal-some TooLong e = omega arith
refusal-some Room e = omega arith

pub returns-in_err-choice : goal.returns-in_err-choice
returns-in_err-choice c =
    let m = c.args.message.now in
    let r = c.in_err-choice.field-0.0 in
    let p = err_from_is_err_and c.from_residual.result c.from_residual.ensures.1 in
    let told : encoded (Err r) ≡ plan_of m c.args.percent = c.in_err-choice.ensures in
    let e = encode-refused m c.args.percent c.args.grid.now (λ z. refusal-some r (ap (λ a. a.number) told ∙ z)) in record {
      value = rw (p.1, p.2) (told ∙ sym (ap (λ r. r.answer) e));
      grid_after = sym (ap (λ r. r.grid) e);
    }

-- what a choice says of the message
module _ (c : In_ok-choice) where
  abbrev choice : Choice
  choice = c.in_ok-choice.choice

  abbrev message : List ℕ
  message = c.args.message.now

  planned : encoded (Ok choice) ≡ plan_of message c.args.percent
  planned = c.in_ok-choice.ensures

  known : Answered message (encoded (Ok choice))
  known =
      answered message c.args.percent (below_of 256 message (λ i h. omega (arith, c.type_inv.message i))) (encoded (Ok choice)) planned refl

  named : (let s = choice.shape in (is_full (number_of s.full s.layers) ≡ s.full) × (layers (number_of s.full s.layers) ≡ s.layers))
  named = let s = choice.shape in shape_of s.full s.layers s.shaped

  fits : Fitting message choice.shape.full choice.shape.layers choice.data_words
  fits = rw named.0 at (rw named.1 at known.fits)

  zero : (plan_of message c.args.percent).number ≡ 0
  zero = sym (ap (λ r. r.number) planned)

pub overflow_mul-side : goal.overflow_mul-side
overflow_mul-side c =
    let k = (goal.at.overflow_mul-side c).In_ok-choice in
    omega (arith, subst (λ n. n * n ≤ 22801) (sym c.side-side.ensures) (square-small (known k)))

pub returns-then-grid-side : goal.returns-then-grid-side
returns-then-grid-side c =
    let k = (goal.at.returns-then-grid-side c).In_ok-choice in
    let grid = c.args.grid.now in
    let short = subst (λ n. length grid < n * n) c.side-side.ensures c.if-grid-side.true in
    let e =
    encode-short (message k) c.args.percent grid (zero k)
    (subst (λ r. length grid < r.side * r.side) (planned k) short) in record {
      value = sym (ap (λ r. r.answer) e);
      grid_after = sym (ap (λ r. r.grid) e);
    }

pub draw_message-requires : goal.draw_message-requires
draw_message-requires c =
    let k = (goal.at.draw_message-requires c).In_ok-choice in
    (fits k, subst (λ n. n * n ≤ length c.args.grid.now) c.side-side.ensures c.if-grid-side.false)

pub returns : goal.returns
returns c =
    let k = (goal.at.returns c).In_ok-choice in
    let grid = c.args.grid.now in
    let room = subst (λ n. n * n ≤ length grid) c.side-side.ensures c.if-grid-side.false in
    let e =
    encode-made (message k) c.args.percent grid (zero k)
    (subst (λ r. r.side * r.side ≤ length grid) (planned k) room) in record {
      value = planned k ∙ sym (ap (λ r. r.answer) e);
      grid_after = c.draw_message.ensures
          ∙ sym (rw (named k).0 (rw (named k).1 refl))
          ∙ ap (λ r. drawn_message (message k) (is_full r.shape) (layers r.shape) grid) (planned k)
          ∙ sym (ap (λ r. r.grid) e);
    }
