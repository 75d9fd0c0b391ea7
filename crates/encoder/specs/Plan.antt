-- The shape of a message (document 01, "From bytes to words": "Shape"), and the encoder's answer before room is asked for: numbers 0 to 3.
-- Assumes nothing.
use Rattle.std.specs.Prelude.{Bool, cond, ◌&&◌, ◌||◌, List, ℕ, ◌+◌, ◌*◌, ◌-◌, ◌/◌, eqb, leb, ltb, length}
use Rattle.std.proofs.Math.Option.{Option, none, some}
use Rattle.list_laws.specs.Search.{first_from}
use Rattle.encoder.specs.declared.Encoded.{Encoded}
use Rattle.stream.specs.Stream.{bits_of}
use Rattle.stream.specs.Stuffing.{stuff}
use Rattle.symbol.specs.Shapes.{side, word_size, words, most_words, is_full, layers}

-- "Any other number comes with zeros in every other field"
unfoldable pub refused : ℕ → Encoded
refused n = record { number = n; shape = 0; side = 0; data_words = 0; check_words = 0 }

-- the data words of a message with L layers: "The stream is stuffed anew for each B"
unfoldable pub data_words_of : List ℕ → ℕ → List ℕ
data_words_of message L = stuff (word_size L) (bits_of message)

-- "K at least ceil(percent·n/100) + 3"
unfoldable pub least_check : ℕ → ℕ → ℕ
least_check percent n = (percent * n + 99) / 100 + 3

-- D words fit a shape: K = n − D is large enough, "and the D limit kept"
unfoldable pub fits : ℕ → Bool → ℕ → ℕ → Bool
fits percent f L D = leb (D + least_check percent (words f L)) (words f L) && leb D (most_words f)

-- the shapes in the order in which they are tried, by their numbers: "C1 to C4, F4 to F32"
unfoldable pub listed : ℕ → ℕ
listed i = cond (ltb i 4) (i + 1) (i + 4)

-- how many they are
abbrev pub shapes : ℕ
shapes = 33

unfoldable pub fits_listed : List ℕ → ℕ → ℕ → Bool
fits_listed message percent i =
    let s = listed i in
    fits percent (is_full s) (layers s) (length (data_words_of message (layers s)))

-- the answer for the shape with number s
unfoldable pub planned : List ℕ → ℕ → Encoded
planned message s =
    let D = length (data_words_of message (layers s)) in
    record {
      number = 0;
      shape = s;
      side = side (is_full s) (layers s);
      data_words = D;
      check_words = words (is_full s) (layers s) - D;
    }

abbrev pub planned_for : List ℕ → Option ℕ → Encoded
planned_for message none = refused 3
planned_for message (some i) = planned message (listed i)

-- 1 "message empty", 2 "percentage outside 5 to 95", 3 "no listed shape fits"
unfoldable pub plan_of : List ℕ → ℕ → Encoded
plan_of message percent =
    cond (eqb (length message) 0) (refused 1)
    (cond (ltb percent 5 || ltb 95 percent) (refused 2) (planned_for message (first_from (fits_listed message percent) 0 shapes)))
