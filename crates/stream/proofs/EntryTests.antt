-- A list mapped, at a place inside it; and an entry of two, neither of which is the character b.
-- Assumes nothing.
use mathlib.Core.Path.{◌≡◌, refl}
use mathlib.Core.Bool.{Bool, true, false, cond}
use mathlib.Core.List.{List, [], ◌∷◌, map}
use Prim.Native.Nat.{ℕ, zero, suc, ◌<◌}
use native.Mathlib.Nat.{le_of_suc-le-suc, not-suc-le-zero}
use lib.ListN.{length, get_or}
use Rattle.stream.specs.declared.codes.Entry.{Entry}
use Rattle.stream.specs.Codes.{is_char}

module _ {A B : Type 0} (f : A → B) (d : A) (e : B) where
  pub get_or-map-in : (xs : List A) (k : ℕ) → k < length xs → get_or (map f xs) k e ≡ f (get_or xs k d)
  get_or-map-in [] k h = absurd (not-suc-le-zero h)
  get_or-map-in (x ∷ xs) zero h = refl
  get_or-map-in (x ∷ xs) (suc k) h = get_or-map-in xs k (le_of_suc-le-suc h)

pub no_char : (b : ℕ) (t : Bool) (x y : Entry) → is_char b x ≡ false → is_char b y ≡ false → is_char b (cond t x y) ≡ false
no_char b true x y p q = p
no_char b false x y p q = q
