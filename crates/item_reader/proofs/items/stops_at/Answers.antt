-- The bits left are 1s if the number that they say is the largest.
-- Assumes nothing.
use Rattle.std.proofs.Common.{le-ltb, lt-ltb, ◌≡◌, refl, sym, ap, ap₂, ◌∙◌, Bool, true, false, ◌&&◌, List, ℕ, ◌-◌, ◌^◌, ◌≤◌, ◌<◌, arith, eqb, length, take_all, pow_pos}
use Rattle.stream.specs.Below.{Bits}
use Rattle.stream.specs.Bits.{value, all_ones}
use Rattle.stream.specs.Items.{stops}
use Rattle.stream.specs.Ones.{and-false, ones-by-value}
use Rattle.item_reader.specs.Places.{rest}
use Rattle.item_reader.proofs.WordParts.{one_shl, rest-is-bits}
use Rattle.item_reader.proofs.items.stops_at.Goals as goal

-- the stop rule, by the number of bits first and then by what they say
stops-not : (B : ℕ) (l : List ℕ) → B ≤ length l → stops B l ≡ false
unfolding stops
stops-not B l h = ap (λ t. all_ones l && t) (le-ltb (length l) B h) ∙ and-false (all_ones l)

stops-by-value : (B : ℕ) (l : List ℕ) → Bits l → length l < B → stops B l ≡ eqb (value 0 l) (2 ^ length l - 1)
unfolding stops
stops-by-value B l x h = ap (λ t. all_ones l && t) (lt-ltb (length l) B h) ∙ and-true (all_ones l) ∙ ones-by-value l x
  where
    and-true : (a : Bool) → (a && true) ≡ a
    and-true true = refl
    and-true false = refl

pub returns-then-word_size-left : goal.returns-then-word_size-left
returns-then-word_size-left c =
    let a = c.args in
    let r = rest a.h a.words.now a.place.word a.place.bit in
    sym (stops-not a.word_size r (omega arith))

pub overflow_sub-result : goal.overflow_sub-result
overflow_sub-result c =
    let a = c.args in
    let r = rest a.h a.words.now a.place.word a.place.bit in
    omega (arith, one_shl a.left (omega arith), pow_pos a.left)

pub returns : goal.returns
returns c =
    let a = c.args in
    let r = rest a.h a.words.now a.place.word a.place.bit in
    let t = c.take_bits-last.ensures in
    let said = t.says ∙ ap (value 0) (take_all a.left r (let h : length r ≤ a.left = omega arith in h)) in
    let most = ap (λ n. n - 1) (one_shl a.left (omega arith)) ∙ ap (λ n. 2 ^ n - 1) c.requires.left_value in
    ap₂ eqb said most ∙ sym (stops-by-value a.word_size r (rest-is-bits a.h a.words.now a.place.word a.place.bit) (omega arith))
