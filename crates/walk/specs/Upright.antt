-- The stages over the grid turned upright, u, as the code has them.
-- Assumes nothing.
use Rattle.std.specs.Prelude
use Rattle.std.specs.Prelude.{◌≡◌, Result, Ok, Err, Some, None, refl, Bool, true, false, List, ℕ, ◌+◌, ◌≤◌, eqb, leb}
use Rattle.std.proofs.Common.{subst, arith, eqb→eq, leb→le}
use Rattle.std.proofs.Math.Option.{Option, none, some}
use Rattle.list_laws.specs.Tests.{both-parts, holds}
use Rattle.finite_field.specs.Field.{size_of}
use Rattle.block_code.specs.Nearest.{nearest}
use Rattle.stream.specs.declared.items.Refusal.{Refusal}
use Rattle.stream.specs.Items as items
use Rattle.symbol.specs.Shapes.{side, words, most_words, Shaped}
use Rattle.sampling.specs.Sampled.{mode_words_of, mode_marks_of, block_words_of, block_marks_of}
use Rattle.encoder.specs.ModeMessage.{mode_checks}
use Rattle.recovery.specs.Stages.{said_layers, said_words, lawful_mode}
use Rattle.recovery.specs.Said.{said-some, said-shaped, said-most}
use Rattle.recovery.specs.LawfulWords.{found-nibbles}
use Rattle.walk.specs.declared.Refusal.TheVariants as Out
use Rattle.walk.specs.declared.mode.Said.{Said}
use Rattle.walk.specs.Walk.{Layout, Outcome, says, Walk, ended, stream_walk, lawful_walk, layout_of}

-- what a verdict makes of a block
abbrev pub judged_of : Layout → Result ℕ Refusal → Outcome
judged_of l (Ok n) = says l n
judged_of l (Err cause) = Err (Out.Faulty cause)

pub judged-is : (l : Layout) (received unread found : List ℕ) (r : items.Reading)
    → judged_of l (items.verdict_of r) ≡ (stream_walk l received unread found r).outcome
judged-is l received unread found (items.message text) = refl
judged-is l received unread found (items.refused x bit) = refl

-- L and D that corrected mode words say
abbrev pub said_of : Bool → Option (List ℕ) → Prelude.Option Said
said_of f none = None
said_of f (some ms) = Some (record { layers = said_layers f ms; data_words = said_words f ms })

module _ (u : List ℕ) where
  abbrev pub mode_of : Bool → ℕ → Option (List ℕ)
  mode_of f n = nearest (size_of 4) (mode_checks f) (mode_checks f) (mode_words_of f n u) (mode_marks_of f n u)

  -- 15
  abbrev pub said_walk : Bool → ℕ → ℕ → Prelude.Option Said → Walk
  said_walk f n p None = ended Out.Mode
  said_walk f n p (Some s) =
      lawful_walk (layout_of f s.layers p s.data_words) (block_words_of f s.layers u) (block_marks_of f s.layers u) n

  abbrev pub upright_walk : Bool → ℕ → ℕ → Walk
  upright_walk f n p = said_walk f n p (said_of f (mode_of f n))

-- lawful mode words give the side, and leave three check words
pub lawful-parts : (f : Bool) (n L D : ℕ) → lawful_mode f n L D ≡ true → (side f L ≡ n) × (D + 3 ≤ words f L)
unfolding lawful_mode
lawful-parts f n L D e =
    let parts = both-parts (eqb (side f L) n) (leb (D + 3) (words f L)) (holds e) in
    (eqb→eq (side f L) n parts.0, leb→le (D + 3) (words f L) parts.1)

-- what L and D that mode words say can be
pub record Sayable (f : Bool) (L D : ℕ) : Type 0 where
  pub shaped : Shaped f L
  pub least : 1 ≤ D
  pub most : D ≤ 2048

few : (f : Bool) → most_words f ≤ 2048
unfolding most_words
few false = omega arith
few true = omega arith

module _ (u : List ℕ) (f : Bool) (n : ℕ) where
  abbrev SayableIf : Prelude.Option Said → Type 0
  SayableIf (Some s) = Sayable f s.layers s.data_words
  SayableIf None = Unit {0}

  sayable-if : (o : Option (List ℕ)) → mode_of u f n ≡ o → SayableIf (said_of f o)
  sayable-if none e = tt
  sayable-if (some ms) e =
      let h = found-nibbles _ _ _ ms e in
      record { shaped = said-shaped f ms h; least = said-some f ms; most = omega (arith, said-most f ms h, few f) }

  pub sayable : {s : Said} → said_of f (mode_of u f n) ≡ Some s → Sayable f s.layers s.data_words
  sayable e = subst SayableIf e (sayable-if (mode_of u f n) refl)
