-- One ring more: what the reading's loop meets.
-- Assumes nothing.
use Rattle.std.specs.Prelude.{◌≡◌, true, false, List, ℕ, suc, ◌+◌, ◌-◌, ◌/◌, ◌≤◌, ◌<◌}
use Rattle.std.proofs.Math.Path.{refl, sym, ap}
use Rattle.std.proofs.Common.{◌∙◌, eq-eqb, ne_eqb}
use native.Mathlib.Omega.{arith}
use Rattle.decoder.specs.Decode.{refused}
use Rattle.grid_text.specs.Border.{light_ring}
use Rattle.read_tag.specs.Within.{told_at, read_inside, read_from, read_within}

module _ (g : List ℕ) (side : ℕ) (buffer : List ℕ) where
  pub whole : read_from g side buffer ((side + 1) / 2) 0 11 ≡ read_within g side buffer
  unfolding read_within
  whole = refl

  module _ (most rings before : ℕ) (w : read_from g side buffer (most - rings) rings before ≡ read_within g side buffer) where
    pub none_left : most ≤ rings → refused before buffer ≡ read_within g side buffer
    unfolding read_from
    none_left h = ap (λ n. read_from g side buffer n rings before) (let z : 0 ≡ most - rings = omega arith in z) ∙ w

    module _ (h : rings < most) where
      abbrev number : ℕ
      number = (read_inside g side buffer rings).answer.number

      one_left : read_from g side buffer (suc (most - (rings + 1))) rings before ≡ read_within g side buffer
      one_left = ap (λ n. read_from g side buffer n rings before) (let z : suc (most - (rings + 1)) ≡ most - rings = omega arith in z) ∙ w

      pub answered : number ≡ 0 → read_inside g side buffer rings ≡ read_within g side buffer
      unfolding read_from
      answered e = sym (rw (eq-eqb number 0 e) refl) ∙ one_left

      pub stopped : (number ≡ 0 → ⊥) → light_ring g side rings ≡ false
          → refused (told_at g side buffer before rings) buffer ≡ read_within g side buffer
      unfolding read_from
      stopped n e = sym (rw (ne_eqb number 0 n, e) refl) ∙ one_left

      pub ring-off : (number ≡ 0 → ⊥) → light_ring g side rings ≡ true
          → read_from g side buffer (most - (rings + 1)) (rings + 1) (told_at g side buffer before rings) ≡ read_within g side buffer
      unfolding read_from
      ring-off n e = sym (rw (ne_eqb number 0 n, e) refl) ∙ one_left
