-- Worked examples, no part of what the crate promises: places of C1, C4, F1, F4, F5, F12 and F32 as a program that was written apart from
-- these definitions gives them.
-- Assumes nothing.
use Rattle.std.specs.Prelude.{◌≡◌, refl, Bool, true, false, List, [], ◌∷◌, map, ℕ, ◌+◌, ◌*◌, ◌-◌}
use Rattle.symbol.specs.Shapes.{side, square, core}
use Rattle.symbol.specs.Places.{turned, domino, layer_cell, cell, spread, data_place}
use Rattle.symbol.specs.Places.{core_place, orientation_cell, orientation_place, mode_run, mode_column, mode_cell, mode_place}

-- a shape; some data bits and their places; the places of orientation modules 0, 4, 8 and 9, one at each corner; the places of the first
-- mode bit of the upper side, the last of the right, the first of the lower and the sixth of the left
pub record Case : Type 0 where
  pub full : Bool
  pub layers : ℕ
  pub bits : List ℕ
  pub places : List ℕ
  pub orientation : List ℕ
  pub mode : List ℕ

unfoldable pub cases : List Case
cases =
    record {
      full = false;
      layers = 1;
      bits = 0 ∷ 1 ∷ 3 ∷ 20 ∷ 34 ∷ 52 ∷ 69 ∷ 102 ∷ 103 ∷ [];
      places = 0 ∷ 1 ∷ 16 ∷ 150 ∷ 214 ∷ 224 ∷ 103 ∷ 2 ∷ 17 ∷ [];
      orientation = 47 ∷ 42 ∷ 191 ∷ 183 ∷ [];
      mode = 34 ∷ 162 ∷ 190 ∷ 77 ∷ [];
    }
    ∷ record {
      full = false;
      layers = 4;
      bits = 0 ∷ 1 ∷ 3 ∷ 16 ∷ 121 ∷ 202 ∷ 304 ∷ 405 ∷ 606 ∷ 607 ∷ [];
      places = 0 ∷ 1 ∷ 28 ∷ 216 ∷ 457 ∷ 83 ∷ 402 ∷ 572 ∷ 170 ∷ 197 ∷ [];
      orientation = 251 ∷ 234 ∷ 503 ∷ 495 ∷ [];
      mode = 226 ∷ 450 ∷ 502 ∷ 305 ∷ [];
    }
    ∷ record {
      full = true;
      layers = 1;
      bits = 0 ∷ 1 ∷ 3 ∷ 25 ∷ 42 ∷ 64 ∷ 85 ∷ 126 ∷ 127 ∷ [];
      places = 0 ∷ 1 ∷ 20 ∷ 248 ∷ 347 ∷ 360 ∷ 150 ∷ 2 ∷ 21 ∷ [];
      orientation = 59 ∷ 54 ∷ 319 ∷ 307 ∷ [];
      mode = 42 ∷ 282 ∷ 318 ∷ 154 ∷ [];
    }
    ∷ record {
      full = true;
      layers = 4;
      bits = 0 ∷ 1 ∷ 3 ∷ 16 ∷ 140 ∷ 234 ∷ 352 ∷ 469 ∷ 702 ∷ 703 ∷ [];
      places = 0 ∷ 1 ∷ 32 ∷ 248 ∷ 526 ∷ 219 ∷ 369 ∷ 785 ∷ 194 ∷ 225 ∷ [];
      orientation = 287 ∷ 270 ∷ 703 ∷ 691 ∷ [];
      mode = 258 ∷ 642 ∷ 702 ∷ 442 ∷ [];
    }
    ∷ record {
      full = true;
      layers = 5;
      bits = 0 ∷ 1 ∷ 3 ∷ 20 ∷ 192 ∷ 320 ∷ 480 ∷ 640 ∷ 958 ∷ 959 ∷ [];
      places = 0 ∷ 1 ∷ 38 ∷ 407 ∷ 36 ∷ 1228 ∷ 190 ∷ 208 ∷ 344 ∷ 381 ∷ [];
      orientation = 455 ∷ 432 ∷ 949 ∷ 937 ∷ [];
      mode = 420 ∷ 876 ∷ 948 ∷ 640 ∷ [];
    }
    ∷ record {
      full = true;
      layers = 12;
      bits = 0 ∷ 1 ∷ 3 ∷ 48 ∷ 729 ∷ 1216 ∷ 1824 ∷ 2432 ∷ 3646 ∷ 3647 ∷ [];
      places = 0 ∷ 2 ∷ 136 ∷ 1742 ∷ 3479 ∷ 1334 ∷ 3832 ∷ 2023 ∷ 1634 ∷ 1701 ∷ [];
      orientation = 1835 ∷ 1782 ∷ 2719 ∷ 2707 ∷ [];
      mode = 1770 ∷ 2586 ∷ 2718 ∷ 2170 ∷ [];
    }
    ∷ record {
      full = true;
      layers = 32;
      bits = 0 ∷ 1 ∷ 3 ∷ 128 ∷ 3993 ∷ 6656 ∷ 9984 ∷ 13312 ∷ 19966 ∷ 19967 ∷ [];
      places = 0 ∷ 1 ∷ 152 ∷ 10268 ∷ 4522 ∷ 20798 ∷ 19513 ∷ 4629 ∷ 10034 ∷ 10185 ∷ [];
      orientation = 10487 ∷ 10350 ∷ 12463 ∷ 12451 ∷ [];
      mode = 10338 ∷ 12162 ∷ 12462 ∷ 11242 ∷ [];
    }
    ∷ []

abbrev mode_bits : Bool → List ℕ
mode_bits f = let run = mode_run f in 0 ∷ (2 * run - 1) ∷ (2 * run) ∷ (3 * run + 5) ∷ []

pub examples-right : (map (λ (c : Case). map (data_place c.full c.layers) c.bits) cases ≡ map (λ (c : Case). c.places) cases)
    × (map (λ (c : Case). map (orientation_place c.full (side c.full c.layers)) (0 ∷ 4 ∷ 8 ∷ 9 ∷ [])) cases
    ≡ map (λ (c : Case). c.orientation) cases)
    × (map (λ (c : Case). map (mode_place c.full (side c.full c.layers)) (mode_bits c.full)) cases
    ≡ map (λ (c : Case). c.mode) cases)
unfolding cases side square core turned domino layer_cell cell spread data_place core_place orientation_cell orientation_place mode_run mode_column
    mode_cell mode_place
examples-right = (refl, refl, refl)
