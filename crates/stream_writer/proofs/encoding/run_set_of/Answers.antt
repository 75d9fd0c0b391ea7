-- By the sets.
-- Assumes nothing.
use Rattle.std.proofs.Common.{sym, ap, ◌∙◌, inl, inr}
use Rattle.stream.specs.Codes.{set_number}
use Rattle.stream.specs.Stream.{run_set}
use Rattle.stream_writer.proofs.encoding.run_set_of.Goals as goal

pub returns-in-Upper : goal.returns-in-Upper
unfolding run_set
returns-in-Upper c =
    elim c.in-Upper.is [
      | inl e ↦ ap set_number e ∙ sym (ap (λ s. run_set (set_number s)) e)
      | inr (inl e) ↦ ap set_number e ∙ sym (ap (λ s. run_set (set_number s)) e)
      | inr (inr e) ↦ ap set_number e ∙ sym (ap (λ s. run_set (set_number s)) e)
    ]

pub returns-in-Punct : goal.returns-in-Punct
unfolding run_set
returns-in-Punct c =
    elim c.in-Punct.is [
      | inl e ↦ sym (ap (λ s. run_set (set_number s)) e)
      | inr e ↦ sym (ap (λ s. run_set (set_number s)) e)
    ]
