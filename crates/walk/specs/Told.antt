-- What the walk answers, as the definitions have it, and what it leaves in its buffers, which lend the same slices before and after.
-- Assumes nothing.
use Rattle.std.specs.Prelude.{◌≡◌, Result, Ok, Err}
use Rattle.std.proofs.Math.Path.{refl}
use Rattle.walk.specs.declared.Layout.{Layout as Found}
use Rattle.walk.specs.declared.Told.{Told}
use Rattle.walk.specs.declared.Refusal.{Refusal}
use Rattle.walk.specs.declared.Buffers.{Buffers}
use Rattle.walk.specs.Walk.{Layout, Outcome, says, Walk, ended, layout_of, Left, ended-left}

abbrev pub plain_layout : Found → Layout
plain_layout l = layout_of l.shape.full l.shape.layers l.position l.data_words

abbrev pub plain : Result Told Refusal → Outcome
plain (Ok told) = says (plain_layout told.layout) told.bytes
plain (Err refusal) = Err refusal

pub record SameBuffers (old new : Buffers) : Type 0 where
  pub received : new.received.ghost_name ≡ old.received.ghost_name
  pub unread : new.unread.ghost_name ≡ old.unread.ghost_name
  pub found : new.found.ghost_name ≡ old.found.ghost_name

-- what a stage answers, and leaves in its buffers
pub record Walked (w : Walk) (old : Buffers) (result : Result Told Refusal) (new : Buffers) : Type 0 where
  pub value : plain result ≡ w.outcome
  pub left : Left w new.received.now new.unread.now new.found.now
  pub same : SameBuffers old new

-- a refusal leaves nothing to say of them
pub walked-ended : {w : Walk} (r : Refusal) (b : Buffers) → w ≡ ended r → Walked w b (Err r) b
walked-ended r b e =
    rw e (record {
      value = refl;
      left = ended-left r b.received.now b.unread.now b.found.now;
      same = record { received = refl; unread = refl; found = refl };
    })
