-- What the code's steps need of lines and records.
-- Assumes nothing.
use Rattle.std.specs.Prelude.{◌≡◌, refl, Bool, true, false, cond, ◌&&◌, ◌||◌, MatchBool, List, [], ◌∷◌, ◌++◌, ℕ, zero, suc, ◌+◌, ◌*◌, ◌-◌, ◌≤◌, ◌<◌, min, eqb, ltb, leb, length, get_or, take, drop}
use Rattle.std.proofs.Common.{sym, ap, ◌∙◌, add-one, arith, eqb→eq, leb→le, length-append, length-drop, drop-drop, append-nil, take_at, drop_at, drop_of_length-le, drop-cons, take_all, eq-eqb, ne_eqb, leb-true, leb-false}
use Rattle.std.specs.List.{AllWithin, HoldsAt}
use Rattle.std.proofs.Math.Option.{Option, none, some}
use Rattle.encoder.specs.Plan.{refused, fits_listed, planned, planned_for, plan_of}
use Rattle.encoder.specs.PlanLaws.{listed-bounds}
use Rattle.list_laws.specs.Search.{first_from, first_found}
use Rattle.list_laws.specs.Tests.{both-parts, holds}
use Rattle.list_laws.specs.Putting.{at_front}
use Rattle.listing.specs.Line.{message_length, unused, all_zero, sound, line_of, record_at, first_lines, lines_from}

-- the test for zeros: it fails at a byte that is not 0, goes on at one that is, and holds at the end
pub zero-fails : (l : List ℕ) (i : ℕ) → i < length l → (get_or l i 0 ≡ 0 → ⊥) → all_zero (drop i l) ≡ false
unfolding all_zero
zero-fails l i h n = ap all_zero (drop-cons l i 0 h) ∙ ap (λ b. b && all_zero (drop (suc i) l)) (ne_eqb (get_or l i 0) 0 n)

pub zero-next : (l : List ℕ) (i : ℕ) → i < length l → get_or l i 0 ≡ 0 → all_zero (drop i l) ≡ all_zero (drop (i + 1) l)
unfolding all_zero
zero-next l i h e =
    ap all_zero (drop-cons l i 0 h)
    ∙ ap (λ b. b && all_zero (drop (suc i) l)) (eq-eqb (get_or l i 0) 0 e)
    ∙ ap (λ k. all_zero (drop k l)) (sym (add-one i))

pub zero-end : (l : List ℕ) (i : ℕ) → length l ≤ i → all_zero (drop i l) ≡ true
unfolding all_zero
zero-end l i h = ap all_zero (drop_of_length-le l h)

-- what a chain over the bytes says of them is the test for zeros
all-pass : (l : List ℕ) → AllWithin (λ b. eqb b 0 ≡ true) l 0 (length l) → all_zero l ≡ true
unfolding all_zero
all-pass [] h = refl
all-pass (b ∷ l) h = ap (λ t. t && all_zero l) (h 0 0 (omega arith) (omega arith)) ∙ all-pass l (λ k d o i. h (suc k) d (omega arith) (omega arith))

one-fails : (l : List ℕ) (k : ℕ) → k < length l → HoldsAt (λ b. eqb b 0 ≡ false) l k → all_zero l ≡ false
unfolding all_zero
one-fails [] k h f = absurd (omega arith)
one-fails (b ∷ l) zero h f = ap (λ t. t && all_zero l) (f 0)
one-fails (b ∷ l) (suc k) h f = ap (λ t. eqb b 0 && t) (one-fails l k (omega arith) f) ∙ and_false (eqb b 0)
  where
    and_false : (t : Bool) → t && false ≡ false
    and_false true = refl
    and_false false = refl

pub zero-says : (l : List ℕ) (t : Bool)
    → MatchBool t (AllWithin (λ b. eqb b 0 ≡ true) l 0 (length l)) ((k : ℕ) × (k < length l) × HoldsAt (λ b. eqb b 0 ≡ false) l k)
    → t ≡ all_zero l
zero-says l true h = sym (all-pass l h)
zero-says l false h = sym (one-fails l h.0 h.1 h.2)

-- a shape's number is at most 36
planned-most : (text : List ℕ) (o : Option ℕ) → ((k : ℕ) → o ≡ some k → k < 33) → (planned_for text o).shape ≤ 36
unfolding refused planned
planned-most text none h = omega arith
planned-most text (some k) h = (listed-bounds k (h k refl)).1

pub shape-most : (text : List ℕ) (percent : ℕ) → (plan_of text percent).shape ≤ 36
unfolding plan_of refused
shape-most text percent = go (eqb (length text) 0) (ltb percent 5 || ltb 95 percent)
  where
    go : (a b : Bool) → (cond a (refused 1) (cond b (refused 2) (planned_for text (first_from (fits_listed text percent) 0 33)))).shape ≤ 36
    go true b = omega arith
    go false true = omega arith
    go false false = planned-most text (first_from (fits_listed text percent) 0 33) (λ k e. (first_found (fits_listed text percent) 33 0 k e).1)

-- what a sound record's first byte may be
pub sound-parts : (bytes : List ℕ) → sound bytes ≡ true
    → (length bytes ≡ 32) × (1 ≤ message_length bytes) × (message_length bytes ≤ 30)
unfolding sound
sound-parts bytes e =
    let m = message_length bytes in
    let a = both-parts (eqb (length bytes) 32) (leb 1 m && (leb m 30 && all_zero (unused bytes))) (holds e) in
    let b = both-parts (leb 1 m) (leb m 30 && all_zero (unused bytes)) a.1 in
    let c = both-parts (leb m 30) (all_zero (unused bytes)) b.1 in
    (eqb→eq (length bytes) 32 a.0, leb→le 1 m b.0, leb→le m 30 c.0)

-- the part of the bytes that the code takes for a record
pub record-part : (bytes : List ℕ) (k end : ℕ) → end ≡ 32 * k + min 32 (length bytes - 32 * k)
    → take (end - 32 * k) (drop (32 * k) bytes) ≡ record_at bytes k
unfolding record_at
record-part bytes k end e = go (leb 32 (length bytes - 32 * k)) refl
  where
    go : (t : Bool) → leb 32 (length bytes - 32 * k) ≡ t → take (end - 32 * k) (drop (32 * k) bytes) ≡ take 32 (drop (32 * k) bytes)
    go true h = ap (λ n. take n (drop (32 * k) bytes)) (let z : end - 32 * k ≡ 32 = omega (arith, leb-true 32 (length bytes - 32 * k) h) in z)
    go false h =
        let l = length-drop (32 * k) bytes in
        take_all (end - 32 * k) (drop (32 * k) bytes) (omega (arith, leb-false 32 (length bytes - 32 * k) h))
        ∙ sym (take_all 32 (drop (32 * k) bytes) (omega (arith, leb-false 32 (length bytes - 32 * k) h)))

-- a cut of at most 32 bytes off the front
cut_front : (l a b : List ℕ) → l ≡ a ++ b → length a ≡ min 32 (length l) → (a ≡ take 32 l) × (b ≡ drop 32 l)
cut_front l a b e h = go (leb 32 (length l)) refl
  where
    sizes : length l ≡ length a + length b
    sizes = ap length e ∙ length-append a b

    go : (t : Bool) → leb 32 (length l) ≡ t → (a ≡ take 32 l) × (b ≡ drop 32 l)
    go true y =
        let full : length a ≡ 32 = omega (arith, leb-true 32 (length l) y) in
        (sym (ap (take 32) e ∙ take_at a b 32 full), sym (ap (drop 32) e ∙ drop_at a b 32 full))
    go false n =
        let short = leb-false 32 (length l) n in
        let none : b ≡ [] = no_more b (omega (arith, sizes)) in
        (sym (take_all 32 l (omega arith) ∙ e ∙ ap (λ k. a ++ k) none ∙ append-nil a), none ∙ sym (let past : length l ≤ 32 = omega arith in drop_of_length-le l past))
      where
        no_more : (k : List ℕ) → length k ≡ 0 → k ≡ []
        no_more [] z = refl
        no_more (x ∷ k) z = absurd (omega arith)

-- so the bytes that are cut off next are the next record
pub record-next : (bytes : List ℕ) (k : ℕ) {l a b : List ℕ} → l ≡ drop (32 * k) bytes → l ≡ a ++ b → length a ≡ min 32 (length l)
    → (a ≡ record_at bytes k) × (b ≡ drop (32 * (k + 1)) bytes)
unfolding record_at
record-next bytes k {l} {a} {b} i e h =
    let c = cut_front l a b e h in (
      c.0 ∙ ap (take 32) i,
      c.1 ∙ ap (drop 32) i ∙ drop-drop 32 (32 * k) bytes ∙ ap (λ n. drop n bytes) (let z : 32 * k + 32 ≡ 32 * (k + 1) = omega arith in z),
    )

pub no_lines : (first : ℕ) (bytes : List ℕ) → first_lines first bytes 0 ≡ []
unfolding first_lines
no_lines first bytes = refl

pub lines_more : (first : ℕ) (bytes : List ℕ) (k : ℕ)
    → first_lines first bytes (k + 1) ≡ first_lines first bytes k ++ line_of (first + k) (record_at bytes k)
unfolding first_lines
lines_more first bytes k = ap (first_lines first bytes) (add-one k)

-- "an empty file gives no output"
pub no_bytes : (first : ℕ) → lines_from first [] ≡ []
unfolding lines_from first_lines
no_bytes first = refl

-- a text at the front of a buffer lies in it
pub front_fits : (text buffer after : List ℕ) → after ≡ at_front text buffer → length text ≤ length after
front_fits text buffer after e = omega (arith, ap length e, length-append text (drop (length text) buffer))
