-- The turns of the loops that read words: a module more, a word more.
-- Assumes nothing.
use mathlib.Core.Path.{◌≡◌, refl, ap, ◌∙◌}
use mathlib.Core.Bool.{cond}
use mathlib.Core.List.{List}
use Prim.Native.Nat.{ℕ, ◌+◌, ◌*◌, ◌%◌, ◌≤◌, ◌<◌}
use native.Mathlib.Nat.{pow-le-pow_right}
use native.Mathlib.Numerals.{add-one}
use native.Mathlib.Omega.{arith}
use lib.Dec.{eqb}
use lib.ListN.{length, get_or}
use Rattle.symbol.specs.GridWords.{value, unread, value-lt, value_same}
use Rattle.symbol.specs.Drawing.{PlacesFit}
use Rattle.symbol.specs.Tables.{part, length-part, part-at, fits-at, word_room}
use Rattle.sampling.specs.Sampled.{tabled, table_module, unread-same}

module _ (u : ℕ → ℕ) where
  pub no_value : 0 ≡ value 0 u
  unfolding value
  no_value = refl

  pub no-unread : 0 ≡ unread 0 u
  unfolding unread
  no-unread = refl

  module _ (b : ℕ) where
    pub value-next : {v : ℕ} → v ≡ value b u → 2 * v + u b % 2 ≡ value (b + 1) u
    unfolding value
    value-next e = rw (add-one b) (ap (λ v. 2 * v + u b % 2) e)

    pub unread-next : {m r : ℕ} → m ≡ unread b u → r ≡ cond (eqb (u b) 2) 1 m → r ≡ unread (b + 1) u
    unfolding unread
    unread-next e f = rw (add-one b) (f ∙ ap (cond (eqb (u b) 2) 1) e)

    pub value-most : {v : ℕ} → v ≡ value b u → b ≤ 12 → v ≤ 4096
    value-most e h = omega (arith, value-lt b u, pow-le-pow_right {n = 2} (omega arith) {i = b} {j = 12} h)

-- the places of word w fit as the table's do
pub word_fits : (size skip w n : ℕ) → w < n → (places : List ℕ) {room : ℕ} → PlacesFit places 0 (skip + n * size) room
    → PlacesFit places (skip + w * size) size room
word_fits size skip w n h places fit b k = fits-at places fit (skip + w * size + b) (omega (arith, word_room size skip w n h))

-- the modules at word w's places are the word's
module _ (size skip : ℕ) (places u : List ℕ) (w : ℕ) (room : skip + w * size + size ≤ length places) where
  abbrev places_of : List ℕ
  places_of = part places (skip + w * size) size

  from_place : (b : ℕ) → b < size → tabled places_of u b ≡ table_module size skip places u w b
  from_place b h =
      ap (λ p. get_or u p 0)
      (part-at places (skip + w * size) size room b h
      ∙ ap (λ i. get_or places i 0) (let z : skip + w * size + b ≡ skip + (w * size + b) = omega arith in z))

  pub word_value : {v : ℕ} → v ≡ value (length places_of) (tabled places_of u) → v ≡ value size (table_module size skip places u w)
  word_value e =
      e ∙ ap (λ n. value n (tabled places_of u)) (length-part places (skip + w * size) size room) ∙ value_same size _ _ from_place

  pub word-unread : {m : ℕ} → m ≡ unread (length places_of) (tabled places_of u) → m ≡ unread size (table_module size skip places u w)
  word-unread e =
      e ∙ ap (λ n. unread n (tabled places_of u)) (length-part places (skip + w * size) size room) ∙ unread-same size _ _ from_place
