-- What the decoder's answer says of the message buffer, whatever the grid.
-- Assumes nothing.
use Rattle.std.specs.Prelude.{◌≡◌, Ok, Err, refl, Bool, true, false, cond, List, ℕ, ◌≤◌, leb, length}
use Rattle.std.proofs.Common.{arith, leb-true}
use Rattle.walk.specs.Walk.{Outcome, Walk, walk_of}
use Rattle.decoder.specs.Decode.{Result, refused, answer_by, decode_of}

-- the message fits its buffer, and a refusal leaves the buffer as it was
pub record Kept (buffer : List ℕ) (r : Result) : Type 0 where
  pub fits : r.answer.length ≤ length buffer
  pub kept : (r.answer.number ≡ 0 → ⊥) → r.message ≡ buffer

pub refused-kept : (k : ℕ) (buffer : List ℕ) → Kept buffer (refused k buffer)
refused-kept k buffer = record { fits = omega arith; kept = λ n. refl }

pub pick : {buffer : List ℕ} (b : Bool) {r s : Result} → (b ≡ true → Kept buffer r) → Kept buffer s → Kept buffer (cond b r s)
pick true f k = f refl
pick false f k = k

answer-kept : (buffer : List ℕ) (w : Walk) (o : Outcome) → Kept buffer (answer_by buffer w o)
answer-kept buffer w (Ok m) =
    pick (leb m.bytes (length buffer)) (λ e. record { fits = leb-true _ _ e; kept = λ n. absurd (n refl) }) (refused-kept 21 buffer)
answer-kept buffer w (Err refusal) = refused-kept _ buffer

pub decode-kept : (g buffer : List ℕ) (n : ℕ) → Kept buffer (decode_of g n buffer)
unfolding decode_of
decode-kept g buffer n = answer-kept buffer (walk_of g n) (walk_of g n).outcome
