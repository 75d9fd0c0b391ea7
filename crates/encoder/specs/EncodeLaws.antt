-- The three outcomes of encoding, and what an answer of 0 says of the message.
-- Assumes nothing.
use Rattle.std.specs.Prelude.{◌≡◌, ◌≢◌, Bool, true, false, cond, List, ℕ, ◌+◌, ◌*◌, ◌-◌, ◌≤◌, ◌<◌, T, ltb, leb, length}
use Rattle.std.proofs.Math.Path.{refl}
use Rattle.std.proofs.Common.{sym, ap, ◌∙◌, subst, le_trans, mul-le-mul, arith, leb→le}
use borrow.Author.Tests.{eq-eqb, ne_eqb, le-leb, lt-leb, ltb-true, ltb-false}
use Rattle.list_laws.specs.Range.{all}
use Rattle.stream.specs.Below.{Bytes}
use Rattle.symbol.specs.Shapes.{side, bits, word_size, words, is_full, layers, number_of, Shaped}
use Rattle.symbol.specs.DataPlaces.{side-most}
use Rattle.symbol.specs.ShapeTable.{every_shape, at-shape}
use Rattle.encoder.specs.declared.Encoded.{Encoded}
use Rattle.encoder.specs.Plan.{refused, listed, planned, plan_of}
use Rattle.encoder.specs.Encode.{result, drawn_message, encode_of}
use Rattle.encoder.specs.PlanLaws.{number-back}
use Rattle.encoder.specs.Fitting.{Fitting, plan-fits, fitting}

module _ (message : List ℕ) (percent : ℕ) (grid : List ℕ) where
  abbrev plan : Encoded
  plan = plan_of message percent

  pub encode-refused : plan.number ≢ 0 → encode_of message percent grid ≡ result plan grid
  unfolding encode_of
  encode-refused h = rw (ne_eqb plan.number 0 h) refl

  pub encode-short : plan.number ≡ 0 → length grid < plan.side * plan.side → encode_of message percent grid ≡ result (refused 4) grid
  unfolding encode_of
  encode-short e h = rw (eq-eqb plan.number 0 e, lt-leb (plan.side * plan.side) (length grid) h) refl

  pub encode-made : plan.number ≡ 0 → plan.side * plan.side ≤ length grid
      → encode_of message percent grid ≡ result plan (drawn_message message (is_full plan.shape) (layers plan.shape) grid)
  unfolding encode_of
  encode-made e h = rw (eq-eqb plan.number 0 e, le-leb (plan.side * plan.side) (length grid) h) refl

-- an answer of 0 names a shape that the message fits, with its words and side
pub record Answered (message : List ℕ) (e : Encoded) : Type 0 where
  pub fits : Fitting message (is_full e.shape) (layers e.shape) e.data_words
  pub side-is : e.side ≡ side (is_full e.shape) (layers e.shape)
  pub checks-are : e.check_words ≡ words (is_full e.shape) (layers e.shape) - e.data_words
  pub number_is : number_of (is_full e.shape) (layers e.shape) ≡ e.shape
  pub large : is_full e.shape ≡ true → 4 ≤ layers e.shape

-- F1 to F3 are not listed
listed-large : (i : ℕ) → is_full (listed i) ≡ true → 4 ≤ layers (listed i)
unfolding listed is_full layers
listed-large i = go (ltb i 4) refl
  where
    go : (b : Bool) → ltb i 4 ≡ b → ltb 4 (cond b (i + 1) (i + 4)) ≡ true
        → 4 ≤ cond (ltb 4 (cond b (i + 1) (i + 4))) (cond b (i + 1) (i + 4) - 4) (cond b (i + 1) (i + 4))
    go true e t = absurd (omega (arith, ltb-true i 4 e, ltb-true 4 (i + 1) t))
    go false e t = subst (λ b. 4 ≤ cond b (i + 4 - 4) (i + 4)) (sym t) (omega (arith, ltb-false i 4 e))

pub answered : (message : List ℕ) (percent : ℕ) → Bytes message → (e : Encoded) → e ≡ plan_of message percent → e.number ≡ 0 → Answered message e
unfolding planned
answered message percent x e p z =
    let made = plan-fits message percent (sym (ap (λ r. r.number) p) ∙ z) in
    subst (Answered message) (sym (p ∙ made.answer))
    (record {
      fits = fitting message percent x made;
      side-is = refl;
      checks-are = refl;
      number_is = number-back (listed made.place);
      large = listed-large made.place;
    })

-- no block has more words than F32's
pub words-all : (f : Bool) (L : ℕ) → Shaped f L → words f L ≤ 1664
words-all f L s = leb→le _ _ (at-shape (λ f L. leb (words f L) 1664) test f L s)
  where
    test : T (every_shape (λ f L. leb (words f L) 1664))
    test = unfold every_shape all words bits word_size in tt

pub square-small : {message : List ℕ} {e : Encoded} → Answered message e → e.side * e.side ≤ 22801
square-small {e = e} a =
    let h : e.side ≤ 151 = omega (arith, a.side-is, side-most _ _ a.fits.shaped) in
    le_trans (mul-le-mul {n₁ = e.side} {m₁ = e.side} {n₂ = 151} {m₂ = 151} h h) (omega arith)
