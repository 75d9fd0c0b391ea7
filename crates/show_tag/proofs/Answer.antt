-- What an answer of 0 says of the side, which the picture's functions ask for.
-- Assumes nothing.
use Rattle.std.proofs.Common.{◌≡◌, ◌*◌, ◌≤◌, ℕ, List, Bool, true, false, length, eqb, leb, refl, sym, ap, ◌∙◌, subst, arith}
use borrow.Author.Tests.{eqb-true, eqb-false, leb-true, leb-false}
use Rattle.stream.specs.Below.{Bytes}
use Rattle.symbol.specs.DataPlaces.{side-most}
use Rattle.encoder.specs.declared.Encoded.{Encoded}
use Rattle.encoder.specs.Plan.{refused, plan_of}
use Rattle.encoder.specs.Encode.{encode_of}
use Rattle.encoder.specs.EncodeLaws.{encode-refused, encode-short, encode-made, answered}

module _ (message : List ℕ) (percent : ℕ) (grid : List ℕ) where
  abbrev plan : Encoded
  plan = plan_of message percent

  abbrev answer : Encoded
  answer = (encode_of message percent grid).answer

  -- the answer is the plan's, and the grid has room for it
  planned : answer.number ≡ 0 → (answer ≡ plan) × (plan.side * plan.side ≤ length grid)
  unfolding refused
  planned z = go (eqb plan.number 0) (leb (plan.side * plan.side) (length grid)) refl refl
    where
      go : (b l : Bool) → eqb plan.number 0 ≡ b → leb (plan.side * plan.side) (length grid) ≡ l
          → (answer ≡ plan) × (plan.side * plan.side ≤ length grid)
      go true true e f = (
        ap (λ r. r.answer) (encode-made message percent grid (eqb-true _ _ e) (leb-true _ _ f)),
        leb-true _ _ f,
      )
      go true false e f =
          let short = encode-short message percent grid (eqb-true _ _ e) (leb-false _ _ f) in
          let four : ◌≡◌ {A = ℕ} 4 0 = sym (ap (λ r. r.answer.number) short) ∙ z in
          absurd (omega arith)
      go false l e f =
          let same = encode-refused message percent grid (eqb-false _ _ e) in
          absurd (eqb-false _ _ e (sym (ap (λ r. r.answer.number) same) ∙ z))

  pub side-fits : Bytes message → (e : Encoded) → e ≡ answer → e.number ≡ 0 → (e.side ≤ 151) × (e.side * e.side ≤ length grid)
  side-fits x e p z =
      let q = planned (sym (ap (λ r. r.number) p) ∙ z) in
      let a = answered message percent x e (p ∙ q.0) z in (
        omega (arith, a.side-is, side-most _ _ a.fits.shaped),
        subst (λ r. r.side * r.side ≤ length grid) (sym (p ∙ q.0)) q.1,
      )
