-- The set's number is 4, or not.
-- Assumes nothing.
use Rattle.std.proofs.Common.{sym, ap, inl, inr}
use Rattle.stream.specs.Codes.{set_number, width}
use Rattle.stream.proofs.codes.width_of.Goals as goal

pub returns-in-Upper : goal.returns-in-Upper
unfolding width
returns-in-Upper c =
    elim c.in-Upper.is [
      | inl e ↦ sym (ap (λ s. width (set_number s)) e)
      | inr (inl e) ↦ sym (ap (λ s. width (set_number s)) e)
      | inr (inr (inl e)) ↦ sym (ap (λ s. width (set_number s)) e)
      | inr (inr (inr e)) ↦ sym (ap (λ s. width (set_number s)) e)
    ]

pub returns-in-Digit : goal.returns-in-Digit
unfolding width
returns-in-Digit c = sym (ap (λ s. width (set_number s)) c.in-Digit.is)
