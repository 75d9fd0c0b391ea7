-- What the end of a walk says of the grid: for each outcome what held at the stages before, and why it is that outcome; and that a grid of
-- which this holds ends so.
-- Assumes nothing.
use Rattle.std.specs.Prelude.{◌≡◌, Ok, Err, Some, ◌⊎◌, true, false, not, List, ℕ, ◌+◌, ◌*◌, ◌≤◌, ◌<◌, eqb, length}
use Rattle.std.proofs.Math.Path.{refl, ap, ap₂, subst}
use Rattle.std.proofs.Common.{sym, ◌∙◌, inl, inr, ⊎_elim, arith, eqb-true}
use Rattle.std.proofs.Math.Bool.{Bool, cond}
use Rattle.std.proofs.Math.Option.{Option, none, some}
use Rattle.std.proofs.lemmas.Bool.{eqb-false}
use Rattle.stream.specs.Items as items
use Rattle.symbol.specs.Shapes.{words, side, Shaped}
use Rattle.orientation.specs.Modules.{lawful_modules}
use Rattle.orientation.specs.Sides.{is_side}
use Rattle.orientation.specs.Family.{looks_full}
use Rattle.orientation.specs.Position.{position}
use Rattle.orientation.specs.PositionLaws.{found-best}
use Rattle.orientation.specs.Placement.{best_matches, best_positions}
use Rattle.recovery.specs.Stages.{mode_in, said_layers, said_words, lawful_mode, failed_mode, block_words_in}
use Rattle.recovery.specs.declared.said.Failed.{Failed}
use Rattle.recovery.specs.FailedMode.{failed_number, failed_conditions, conditions-number, unlawful-some}
use Rattle.recovery.specs.Said.{said-shaped}
use Rattle.recovery.specs.LawfulWords.{found-nibbles}
use Rattle.orientation.specs.declared.position.Unplaced.{Unplaced as Cause}
use Rattle.stream.specs.declared.items.Refusal as items-of
use Rattle.walk.specs.declared.Refusal.{Refusal}
use Rattle.walk.specs.declared.Refusal.TheVariants.{Side, Length, Module, Unplaced, Mode, Unlawful, Uncorrected, Faulty}
use Rattle.walk.specs.Walk.{Layout, Outcome, says, refusal_number, number_of, Walk, ended, reading_of, checks, erasures, nearest_block, stream_walk, found_walk}
use Rattle.walk.specs.Walk.{block_walk, lawful_walk, layout_of, unread_in, shape_walk, mode_walk, place_walk, grid_walk, walk_of}
use Rattle.walk.specs.Faults.{refusal}
use Rattle.walk.specs.BlockLaws.{walk-lawful, walk-failed}
use Rattle.walk.specs.Upright.{lawful-parts}
use Rattle.walk.specs.GridLaws.{side-refused, length-refused, module-refused, grid-taken}

module _ (g : List ℕ) (n : ℕ) where
  -- a grid to which none of 11, 12 and 13 applies
  pub record Taken : Type 0 where
    pub side-is : is_side n ≡ true
    pub size_is : length g ≡ n * n
    pub modules-are : lawful_modules g ≡ true

  -- a grid whose position is known
  pub record Placed (f : Bool) (p : ℕ) : Type 0 where
    pub taken : Taken
    pub judged : looks_full n g ≡ f
    pub placed : position f n g ≡ some p

  -- a grid whose mode message was read: the corrected mode words, and what they say
  pub record ModeRead (l : Layout) : Type 0 where
    pub at : Placed l.full l.position
    pub mode : List ℕ
    pub corrected : mode_in l.full n l.position g ≡ some mode
    pub layers-said : said_layers l.full mode ≡ l.layers
    pub words-said : said_words l.full mode ≡ l.data_words

  -- a grid of a lawful shape, with the words and unread marks at its block's places
  pub record Sampled (l : Layout) (received unread : List ℕ) : Type 0 where
    pub moded : ModeRead l
    pub lawful : lawful_mode l.full n l.layers l.data_words ≡ true
    pub received_is : block_words_in l.full l.layers l.position g ≡ received
    pub unread-is : unread_in l.full l.layers l.position g ≡ unread

  -- The ends

  -- 11, 12, 13 and 15
  pub data Plain : Refusal → Type 0 where
    no-side : is_side n ≡ false → Plain Side
    no_size : is_side n ≡ true → (length g ≡ n * n → ⊥) → Plain Length
    no-module : is_side n ≡ true → length g ≡ n * n → lawful_modules g ≡ false → Plain Module
    no_mode : (f : Bool) (p : ℕ) → Placed f p → mode_in f n p g ≡ none → Plain Mode

  -- 14
  pub record NoPosition (cause : Cause) : Type 0 where
    pub taken : Taken
    pub no-position : position (looks_full n g) n g ≡ none
    pub best-is : best_matches (looks_full n g) n g ≡ cause.best
    pub positions-are : best_positions (looks_full n g) n g ≡ cause.positions

  -- 16
  pub record NoShape (failed : Failed) : Type 0 where
    pub layout : Layout
    pub moded : ModeRead layout
    pub unlawful : lawful_mode layout.full n layout.layers layout.data_words ≡ false
    pub failed-is : failed_conditions layout.full n layout.layers layout.data_words ≡ Some failed

  -- 17
  pub record NoBlock (e K : ℕ) : Type 0 where
    pub layout : Layout
    pub received : List ℕ
    pub unread : List ℕ
    pub sampled : Sampled layout received unread
    pub no_block : nearest_block layout received unread ≡ none
    pub erasures-are : erasures layout received unread ≡ e
    pub checks-are : checks layout ≡ K

  -- 18, 19, 20
  pub record NoMessage (cause : items-of.Refusal) : Type 0 where
    pub layout : Layout
    pub received : List ℕ
    pub unread : List ℕ
    pub sampled : Sampled layout received unread
    pub found : List ℕ
    pub block-is : nearest_block layout received unread ≡ some found
    pub refused-at : reading_of layout found ≡ items.refused cause.fault cause.bit

  -- a message, with the words that it was read from
  pub record Message (l : Layout) (bytes : ℕ) (received unread found text : List ℕ) : Type 0 where
    pub sampled : Sampled l received unread
    pub block-is : nearest_block l received unread ≡ some found
    pub message-is : reading_of l found ≡ items.message text
    pub size : length text ≡ bytes

  abbrev pub EndsBy : Refusal → Type 0
  EndsBy Side = Plain Side
  EndsBy Length = Plain Length
  EndsBy Module = Plain Module
  EndsBy (Unplaced cause) = NoPosition cause
  EndsBy Mode = Plain Mode
  EndsBy (Unlawful failed) = NoShape failed
  EndsBy (Uncorrected e K) = NoBlock e K
  EndsBy (Faulty cause) = NoMessage cause

  abbrev pub EndsIn : Walk → Outcome → Type 0
  EndsIn w (Ok message) = Message message.layout message.bytes w.received w.unread w.found w.text
  EndsIn w (Err refusal) = EndsBy refusal

  abbrev Ends : Walk → Type 0
  Ends w = EndsIn w w.outcome

  -- What the end says

  module _ (l : Layout) (received unread : List ℕ) (s : Sampled l received unread) where
    stream-ends : (found : List ℕ) → nearest_block l received unread ≡ some found → (r : items.Reading)
        → reading_of l found ≡ r → Ends (stream_walk l received unread found r)
    stream-ends found e (items.message text) j = record { sampled = s; block-is = e; message-is = j; size = refl }
    stream-ends found e (items.refused x bit) j =
        record { layout = l; received = received; unread = unread; sampled = s; found = found; block-is = e; refused-at = j }

    found-ends : (o : Option (List ℕ)) → nearest_block l received unread ≡ o → Ends (found_walk l received unread o)
    found-ends none e =
        record { layout = l; received = received; unread = unread; sampled = s; no_block = e; erasures-are = refl; checks-are = refl }
    found-ends (some found) e = stream-ends found e (reading_of l found) refl

    block-ends : Ends (block_walk l received unread)
    unfolding block_walk
    block-ends = found-ends (nearest_block l received unread) refl

  shape-ends : (f : Bool) (p L D : ℕ) → ModeRead (layout_of f L p D) → Ends (shape_walk g f n p L D)
  shape-ends f p L D m = go (lawful_mode f n L D) refl
    where
      l : Layout
      l = layout_of f L p D

      r : List ℕ
      r = block_words_in f L p g

      u : List ℕ
      u = unread_in f L p g

      go : (b : Bool) → lawful_mode f n L D ≡ b → Ends (lawful_walk l r u n)
      go true e =
          subst Ends (sym (walk-lawful l r u n e))
          (block-ends l r u (record { moded = m; lawful = e; received_is = refl; unread-is = refl }))
      go false e =
          let x = unlawful-some f n L D e in
          subst Ends (sym (walk-failed l r u n x.1)) (record { layout = l; moded = m; unlawful = e; failed-is = x.1 })

  mode-ends : (f : Bool) (p : ℕ) → Placed f p → (o : Option (List ℕ)) → mode_in f n p g ≡ o → Ends (mode_walk g f n p o)
  mode-ends f p a none e = no_mode f p a e
  mode-ends f p a (some ms) e =
      shape-ends f p (said_layers f ms) (said_words f ms)
      (record { at = a; mode = ms; corrected = e; layers-said = refl; words-said = refl })

  grid-ends : Taken → Ends (grid_walk g n)
  unfolding grid_walk
  grid-ends t = go (position (looks_full n g) n g) refl
    where
      go : (o : Option ℕ) → position (looks_full n g) n g ≡ o → Ends (place_walk g (looks_full n g) n o)
      go none e = record { taken = t; no-position = e; best-is = refl; positions-are = refl }
      go (some p) e = mode-ends (looks_full n g) p (record { taken = t; judged = refl; placed = e }) (mode_in (looks_full n g) n p g) refl

  -- THE THEOREM: what the walk's end says holds of the grid
  pub walk_ends : EndsIn (walk_of g n) (walk_of g n).outcome
  unfolding walk_of
  walk_ends = by_side (is_side n) refl
    where
      after : Bool → Bool → Walk
      after size modules = cond (not size) (ended Length) (cond (not modules) (ended Module) (grid_walk g n))

      by-modules : is_side n ≡ true → length g ≡ n * n → (b : Bool) → lawful_modules g ≡ b → Ends (after true b)
      by-modules s z false e = no-module s z e
      by-modules s z true e = grid-ends (record { side-is = s; size_is = z; modules-are = e })

      by_size : is_side n ≡ true → (b : Bool) → eqb (length g) (n * n) ≡ b → Ends (after b (lawful_modules g))
      by_size s false e = no_size s (eqb-false _ _ e)
      by_size s true e = by-modules s (eqb-true _ _ e) (lawful_modules g) refl

      by_side : (b : Bool) → is_side n ≡ b → Ends (cond (not b) (ended Side) (after (eqb (length g) (n * n)) (lawful_modules g)))
      by_side false e = no-side e
      by_side true e = by_size e (eqb (length g) (n * n)) refl

  -- A grid of which this holds ends so

  placed-walk : {f : Bool} {p : ℕ} → Placed f p → walk_of g n ≡ mode_walk g f n p (mode_in f n p g)
  unfolding grid_walk
  placed-walk {f} {p} a =
      grid-taken g n a.taken.side-is a.taken.size_is a.taken.modules-are
      ∙ ap (λ b. place_walk g b n (position b n g)) a.judged
      ∙ ap (place_walk g f n) a.placed

  moded-walk : {l : Layout} → ModeRead l → walk_of g n ≡ shape_walk g l.full n l.position l.layers l.data_words
  moded-walk {l} m =
      placed-walk m.at
      ∙ ap (mode_walk g l.full n l.position) m.corrected
      ∙ ap₂ (shape_walk g l.full n l.position) m.layers-said m.words-said

  pub sampled-walk : {l : Layout} {received unread : List ℕ} → Sampled l received unread
      → walk_of g n ≡ found_walk l received unread (nearest_block l received unread)
  unfolding block_walk
  sampled-walk {l} s = moded-walk s.moded ∙ walk-lawful l _ _ n s.lawful ∙ ap₂ (block_walk l) s.received_is s.unread-is

  pub plain_walk : {r : Refusal} → Plain r → walk_of g n ≡ ended r
  plain_walk (no-side s) = side-refused g n s
  plain_walk (no_size s z) = length-refused g n s z
  plain_walk (no-module s z m) = module-refused g n s z m
  plain_walk (no_mode f p a e) = placed-walk a ∙ ap (mode_walk g f n p) e

  pub unplaced-walk : {cause : Cause} → NoPosition cause → walk_of g n ≡ ended (Unplaced cause)
  unfolding grid_walk
  unplaced-walk u =
      grid-taken g n u.taken.side-is u.taken.size_is u.taken.modules-are
      ∙ ap (place_walk g (looks_full n g) n) u.no-position
      ∙ ap₂ (λ b p. ended (Unplaced (record { best = b; positions = p }))) u.best-is u.positions-are

  pub unlawful-walk : {failed : Failed} → NoShape failed → walk_of g n ≡ ended (Unlawful failed)
  unlawful-walk u = moded-walk u.moded ∙ walk-failed u.layout _ _ n u.failed-is

  pub uncorrected-walk : {e K : ℕ} → NoBlock e K → walk_of g n ≡ ended (Uncorrected e K)
  uncorrected-walk u =
      sampled-walk u.sampled ∙ ap (found_walk u.layout u.received u.unread) u.no_block
      ∙ ap₂ (λ e K. ended (Uncorrected e K)) u.erasures-are u.checks-are

  pub faulty-walk : {cause : items-of.Refusal} → NoMessage cause → walk_of g n ≡ ended (Faulty cause)
  faulty-walk u =
      sampled-walk u.sampled ∙ ap (found_walk u.layout u.received u.unread) u.block-is
      ∙ ap (stream_walk u.layout u.received u.unread u.found) u.refused-at

  pub message-walk : {l : Layout} {bytes : ℕ} {received unread found text : List ℕ} → Message l bytes received unread found text
      → walk_of g n ≡ record { outcome = says l bytes; received = received; unread = unread; found = found; text = text }
  message-walk {l} {bytes} {received} {unread} {found} {text} m =
      sampled-walk m.sampled ∙ ap (found_walk l received unread) m.block-is ∙ ap (stream_walk l received unread found) m.message-is
      ∙ ap (λ k. record { outcome = says l k; received = received; unread = unread; found = found; text = text }) m.size

  -- What that gives of a number

  -- 16 goes with 1 if the side's condition fails, 2 if D's, 3 if both
  pub unlawful-number : {failed : Failed} (u : NoShape failed)
      → failed_mode u.layout.full n u.layout.layers u.layout.data_words ≡ failed_number (Some failed)
  unlawful-number u =
      sym (conditions-number u.layout.full n u.layout.layers u.layout.data_words) ∙ ap failed_number u.failed-is

  -- 18 is of the whole block and goes with bit 0
  pub faulty-number : {cause : items-of.Refusal} → NoMessage cause
      → (let k = items.number_of cause.fault in ((k ≡ 18) × (cause.bit ≡ 0)) ⊎ (k ≡ 19) ⊎ (k ≡ 20))
  faulty-number m = ⊎_elim inl (λ x. inr x.0) (refusal _ _ m.refused-at)

  plain-number : {r : Refusal} → Plain r → 11 ≤ refusal_number r
  plain-number (no-side s) = omega arith
  plain-number (no_size s z) = omega arith
  plain-number (no-module s z m) = omega arith
  plain-number (no_mode f p a e) = omega arith

  -- "0 is success": it comes with a message alone
  pub only-message : (w : Walk) (o : Outcome) → EndsIn w o → number_of o ≡ 0 → (l : Layout) × (bytes : ℕ) × (o ≡ says l bytes)
  only-message w (Ok message) h e = (message.layout, message.bytes, refl)
  only-message w (Err Side) h e = absurd (omega arith)
  only-message w (Err Length) h e = absurd (omega arith)
  only-message w (Err Module) h e = absurd (omega arith)
  only-message w (Err (Unplaced cause)) h e = absurd (omega arith)
  only-message w (Err Mode) h e = absurd (omega arith)
  only-message w (Err (Unlawful failed)) h e = absurd (omega arith)
  only-message w (Err (Uncorrected x K)) h e = absurd (omega arith)
  only-message w (Err (Faulty cause)) h e =
      ⊎_elim (λ x. absurd (omega (arith, x.0))) (⊎_elim (λ x. absurd (omega arith)) (λ x. absurd (omega arith))) (faulty-number h)

  -- What that gives of a layout

  pub moded-shaped : {l : Layout} → ModeRead l → Shaped l.full l.layers
  unfolding mode_in
  moded-shaped {l} m =
      subst (Shaped l.full) m.layers-said (said-shaped l.full m.mode (found-nibbles _ _ _ m.mode m.corrected))

  pub moded-position : {l : Layout} → ModeRead l → l.position < 8
  moded-position {l} m = (found-best l.full n g m.at.placed).lawful

  pub sampled-checks : {l : Layout} {received unread : List ℕ} → Sampled l received unread
      → (side l.full l.layers ≡ n) × (l.data_words + 3 ≤ words l.full l.layers)
  sampled-checks {l} s = lawful-parts l.full n l.layers l.data_words s.lawful
