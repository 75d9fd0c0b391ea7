-- One byte more: what the reading's loop meets. And what a side says of the modules.
-- Assumes nothing.
use Rattle.std.specs.Prelude.{◌≡◌, Bool, ◌&&◌, List, [], ◌∷◌, ◌++◌, ℕ, ◌+◌, ◌*◌, ◌<◌, ◌≤◌, Option, Some, None, option_and_then, length, get_or, take, drop}
use Rattle.std.proofs.Math.Path.{refl, sym}
use Rattle.std.proofs.Common.{ap, ◌∙◌, append_assoc, append-nil, add-one, arith, take-suc, take_at}
use Rattle.std.proofs.Math.Bool.{true, false, cond}
use Rattle.std.proofs.Math.Dec.{eqb, leb}
use Rattle.std.proofs.lemmas.List.Edits.{sets, sets-eq}
use borrow.Author.Tests.{eqb-true, leb-true, leb-false, eq-eqb}
use lib.Pointwise.{pointwise}
use Rattle.grid_text.specs.declared.scanning.Scan.{Scan}
use Rattle.grid_text.specs.declared.scanning.Scan.TheVariants.{Gap, Rows}
use Rattle.grid_text.specs.Kinds.{kind_of}
use Rattle.grid_text.specs.Scanning.{step, shown}
use Rattle.grid_text.specs.Grid.{after, one_module, modules, judged, side_from, is_bitmap, side_of, modules_of}

after_one : (s : Scan) (l : List ℕ) (b : ℕ) → after s (l ++ b ∷ []) ≡ step (after s l) (kind_of b)
unfolding after
after_one s [] b = refl
after_one s (x ∷ l) b = after_one (step s (kind_of x)) l b

modules-one : (s : Scan) (l : List ℕ) (b : ℕ) → modules s (l ++ b ∷ []) ≡ modules s l ++ one_module (shown (after s l) (kind_of b))
unfolding after modules
modules-one s [] b = append-nil (one_module (shown s (kind_of b)))
modules-one s (x ∷ l) b =
    ap (λ m. one_module (shown s (kind_of x)) ++ m) (modules-one (step s (kind_of x)) l b)
    ∙ sym (append_assoc (one_module (shown s (kind_of x))) (modules (step s (kind_of x)) l) _)

module _ (s : Scan) (bytes : List ℕ) where
  pub after_none : s ≡ after s (take 0 bytes)
  unfolding after
  after_none = refl

  pub modules-none : [] ≡ modules s (take 0 bytes)
  unfolding modules
  modules-none = refl

  module _ (i : ℕ) (h : i < length bytes) where
    one_more : take (i + 1) bytes ≡ take i bytes ++ get_or bytes i 0 ∷ []
    one_more = rw add-one (take-suc bytes i 0 h)

    pub after_next : step (after s (take i bytes)) (kind_of (get_or bytes i 0)) ≡ after s (take (i + 1) bytes)
    after_next = sym (ap (after s) one_more ∙ after_one s (take i bytes) (get_or bytes i 0))

    pub modules-next : modules s (take i bytes) ++ one_module (shown (after s (take i bytes)) (kind_of (get_or bytes i 0)))
        ≡ modules s (take (i + 1) bytes)
    modules-next = sym (ap (modules s) one_more ∙ modules-one s (take i bytes) (get_or bytes i 0))

pub too_short : (bytes : List ℕ) → length bytes < 2 → false ≡ is_bitmap bytes
unfolding is_bitmap
too_short [] h = refl
too_short (a ∷ []) h = go (eqb a 80)
  where
    go : (b : Bool) → false ≡ b && false
    go true = refl
    go false = refl
too_short (a ∷ b ∷ bytes) h = absurd (omega arith)

pub begins : (bytes : List ℕ) → get_or bytes 0 0 ≡ 80 → eqb (get_or bytes 1 0) 49 ≡ is_bitmap bytes
unfolding is_bitmap
begins bytes e = sym (rw (eq-eqb (get_or bytes 0 0) 80 e) refl)

-- a prefix P1 is what makes a bitmap
pub prefix-begins : (bytes : List ℕ) → pointwise eqb (take 2 bytes) (80 ∷ 49 ∷ []) ≡ is_bitmap bytes
unfolding is_bitmap
prefix-begins [] = refl
prefix-begins (a ∷ []) = go (eqb a 80)
  where
    go : (b : Bool) → b && false ≡ b && false
    go b = refl
prefix-begins (a ∷ b ∷ bytes) = go (eqb a 80) (eqb b 49)
  where
    go : (p q : Bool) → p && (q && true) ≡ p && q
    go true true = refl
    go true false = refl
    go false q = refl

pub one-length : (m : Option ℕ) → length (one_module m) ≤ 1
one-length None = omega arith
one-length (Some m) = omega arith

module _ (bytes : List ℕ) where
  pub bitmap-long : is_bitmap bytes ≡ true → 2 ≤ length bytes
  bitmap-long e = go (leb 2 (length bytes)) refl
    where
      go : (b : Bool) → leb 2 (length bytes) ≡ b → 2 ≤ length bytes
      go true l = leb-true 2 (length bytes) l
      go false l =
          absurd (let z = too_short bytes (leb-false 2 (length bytes) l) in let y : ◌≡◌ {A = ℕ} 0 1 = cc in omega arith)

  pub side-bitmap : is_bitmap bytes ≡ true → (room : ℕ) → side_from (Gap None) (drop 2 bytes) room ≡ side_of bytes room
  unfolding side_of
  side-bitmap e room = sym (rw e refl)

  pub side-rows : is_bitmap bytes ≡ false → (room : ℕ) → side_from (Rows None 0) bytes room ≡ side_of bytes room
  unfolding side_of
  side-rows e room = sym (rw e refl)

  pub modules-bitmap : is_bitmap bytes ≡ true → modules (Gap None) (drop 2 bytes) ≡ modules_of bytes
  unfolding modules_of
  modules-bitmap e = sym (rw e refl)

  pub modules-rows : is_bitmap bytes ≡ false → modules (Rows None 0) bytes ≡ modules_of bytes
  unfolding modules_of
  modules-rows e = sym (rw e refl)

-- where there is a side, the modules are side² in number, there is room for them, and the front of the buffer holds them, no more
module _ (side count room : ℕ) where
  judged-says : (n : ℕ) → judged side count room ≡ Some n → (n ≡ side) × (count ≡ n * n) × (count ≤ room)
  unfolding judged
  judged-says n = go (eqb (side * side) count) (leb count room) refl refl
    where
      go : (b l : Bool) → eqb (side * side) count ≡ b → leb count room ≡ l → cond b (cond l (Some side) None) None ≡ Some n
          → (n ≡ side) × (count ≡ n * n) × (count ≤ room)
      go true true e f h =
          let same : n ≡ side = cc in
          (same, sym (eqb-true (side * side) count e) ∙ ap (λ k. k * k) (sym same), leb-true count room f)
      go true false e f h = absurd (cc)
      go false l e f h = absurd (cc)

from_says : (o : Option ℕ) (count room n : ℕ) → option_and_then (λ side. judged side count room) o ≡ Some n
    → (o ≡ Some n) × (count ≡ n * n) × (count ≤ room)
from_says None count room n h = absurd (cc)
from_says (Some side) count room n h = let j = judged-says side count room n h in (ap Some (sym j.0), j.1, j.2)

pub side-says : (bytes : List ℕ) (room side : ℕ) → side_of bytes room ≡ Some side
    → (length (modules_of bytes) ≡ side * side) × (length (modules_of bytes) ≤ room)
unfolding side_of modules_of
side-says bytes room side = go (is_bitmap bytes)
  where
    go : (b : Bool) → cond b (side_from (Gap None) (drop 2 bytes) room) (side_from (Rows None 0) bytes room) ≡ Some side
        → let met = cond b (modules (Gap None) (drop 2 bytes)) (modules (Rows None 0) bytes) in
        (length met ≡ side * side) × (length met ≤ room)
    go true h = let f = from_says _ _ room side h in (f.1, f.2)
    go false h = let f = from_says _ _ room side h in (f.1, f.2)

-- then the front of the grid is the modules
pub front-is : (bytes grid : List ℕ) (side : ℕ) → side_of bytes (length grid) ≡ Some side
    → take (side * side) (sets grid 0 (modules_of bytes)) ≡ modules_of bytes
front-is bytes grid side e =
    let says = side-says bytes (length grid) side e in
    ap (take (side * side)) (sets-eq (modules_of bytes) grid 0 (omega (arith, says.1)))
    ∙ take_at (modules_of bytes) (drop (0 + length (modules_of bytes)) grid) (side * side) says.0
