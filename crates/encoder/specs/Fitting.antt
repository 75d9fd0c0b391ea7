-- A message in the shape that its plan names: what drawing asks for, and what reading back will rest on.
-- Assumes nothing.
use Rattle.std.specs.Prelude.{◌≡◌, refl, Bool, true, cond, ◌||◌, List, ◌++◌, ℕ, zero, suc, ◌+◌, ◌*◌, ◌-◌, ◌^◌, ◌≤◌, ◌<◌, eqb, ltb, leb, length, get_or, take, drop}
use Rattle.std.proofs.Common.{sym, ap, ap₂, ◌∙◌, subst, arith, leb→le, length-append, take_at}
use Rattle.std.proofs.Math.Bool.{false}
use Rattle.std.proofs.Math.Option.{Option, none, some}
use Rattle.std.proofs.Math.Nat.{mul-le-mul_right, div-add-mod'}
use Rattle.std.proofs.lemmas.List.Edits.{sets, sets-eq}
use borrow.Author.Tests.{eqb-false, ltb-true, ltb-false}
use Rattle.list_laws.specs.Search.{first_from, first_found}
use Rattle.list_laws.specs.Tests.{both-parts, holds}
use Rattle.finite_field.specs.Field as field
use Rattle.block_code.specs.Block.{Words, Valid}
use Rattle.block_code.specs.CheckWords.{check_words_of, with_check_words}
use Rattle.block_code.specs.CheckWordsLaws.{length-check-words, check-words-valid}
use Rattle.block_code.specs.WordLists.{words-below}
use Rattle.stream.specs.Below.{Bytes}
use Rattle.stream.specs.Stream.{bits_of}
use Rattle.stream.specs.Stuffing.{stuff}
use Rattle.stream.specs.StuffingLaws.{stuffed-codewords, codeword-at}
use Rattle.stream.proofs.PartLaws.{words-of-message, message-bits}
use Rattle.symbol.specs.Shapes.{bits, word_size, words, most_words, most_layers, is_full, layers, Shaped, bits_most, word-size-range}
use Rattle.encoder.specs.declared.Encoded.{Encoded}
use Rattle.encoder.specs.Plan.{data_words_of, least_check, fits, listed, fits_listed, planned, planned_for, refused, plan_of}
use Rattle.encoder.specs.PlanLaws.{listed-bounds, layers-most}
use Rattle.encoder.specs.Encode.{block}

pub record Fitting (message : List ℕ) (f : Bool) (L D : ℕ) : Type 0 where
  pub shaped : Shaped f L
  pub count : D ≡ length (data_words_of message L)
  pub some_words : 1 ≤ D
  pub checks : D + 3 ≤ words f L
  pub most : D ≤ most_words f
  pub short : length message ≤ 4992

-- a plan that is no refusal is that of one shape of the list
pub record Planned (message : List ℕ) (percent : ℕ) : Type 0 where
  pub place : ℕ
  pub in_list : place < 33
  pub some_bytes : 0 < length message
  pub fit : fits_listed message percent place ≡ true
  pub answer : plan_of message percent ≡ planned message (listed place)

-- the answer 0 is that of a plan
pub plan-fits : (message : List ℕ) (percent : ℕ) → (plan_of message percent).number ≡ 0 → Planned message percent
unfolding plan_of refused
plan-fits message percent e =
    go (eqb (length message) 0) refl (ltb percent 5 || ltb 95 percent) refl (first_from test 0 33) refl e
  where
    test : ℕ → Bool
    test = fits_listed message percent

    staged : Bool → Bool → Option ℕ → Encoded
    staged a b o = cond a (refused 1) (cond b (refused 2) (planned_for message o))

    go : (a : Bool) → eqb (length message) 0 ≡ a → (b : Bool) → (ltb percent 5 || ltb 95 percent) ≡ b
        → (o : Option ℕ) → first_from test 0 33 ≡ o → (staged a b o).number ≡ 0 → Planned message percent
    go true p b q o r z = absurd (omega (arith, z))
    go false p true q o r z = absurd (omega (arith, z))
    go false p false q none r z = absurd (omega (arith, z))
    go false p false q (some i) r z =
        let found = first_found test 33 0 i r in
        record {
          place = i;
          in_list = found.1;
          some_bytes = omega (arith, eqb-false (length message) 0 p);
          fit = found.0;
          answer =
              ap (λ a. staged a (ltb percent 5 || ltb 95 percent) (first_from test 0 33)) p
              ∙ ap (λ b. staged false b (first_from test 0 33)) q
              ∙ ap (staged false false) r;
        }

listed-shaped : (i : ℕ) → i < 33 → Shaped (is_full (listed i)) (layers (listed i))
unfolding is_full layers
listed-shaped i h = go (ltb 4 (listed i)) refl
  where
    go : (b : Bool) → ltb 4 (listed i) ≡ b → Shaped b (cond b (listed i - 4) (listed i))
    go true e =
        record {
          some = omega (arith, ltb-true 4 (listed i) e);
          most = unfold most_layers in omega (arith, listed-bounds i h);
        }
    go false e =
        record { some = (listed-bounds i h).0; most = unfold most_layers in ltb-false 4 (listed i) e }

-- a message of a plan fits its shape
pub fitting : (message : List ℕ) (percent : ℕ) → Bytes message → (p : Planned message percent)
    → (let s = listed p.place in Fitting message (is_full s) (layers s) (length (data_words_of message (layers s))))
unfolding fits_listed fits least_check data_words_of
fitting message percent x p =
    let s = listed p.place in
    let f = is_full s in
    let L = layers s in
    let D = length (data_words_of message L) in
    let tests = both-parts (leb (D + least_check percent (words f L)) (words f L)) (leb D (most_words f)) (holds p.fit) in
    let enough = leb→le (D + least_check percent (words f L)) (words f L) tests.0 in
    let size = word-size-range L in
    let sh = listed-shaped p.place p.in_list in
    let bytes = words-of-message (word_size L) (omega (arith, size)) message x in
    record {
      shaped = sh;
      count = refl;
      some_words = at_least (length (data_words_of message L)) (word_size L) (omega (arith, bytes, p.some_bytes));
      checks = omega (arith, enough);
      most = leb→le D (most_words f) tests.1;
      short = omega (arith, bytes, bits-hold f L D (omega (arith, enough)), bits_most f L (layers-most s (listed-bounds p.place p.in_list).1));
    }
  where
    at_least : (D B : ℕ) → 0 < D * B → 1 ≤ D
    at_least zero B h = absurd (omega (arith, h))
    at_least (suc D) B h = omega arith

    bits-hold : (f : Bool) (L D : ℕ) → D ≤ words f L → D * word_size L ≤ bits f L
    bits-hold f L D h =
        unfold words in omega (arith, mul-le-mul_right (word_size L) h, div-add-mod' (bits f L) (word_size L))

pub size_is : (L : ℕ) → field.bits (field.size_of (word_size L)) ≡ word_size L
unfolding word_size
size_is L = go (leb L 2) (leb L 8) (leb L 22)
  where
    go : (a b c : Bool)
        → field.bits (field.size_of (cond a 6 (cond b 8 (cond c 10 12)))) ≡ cond a 6 (cond b 8 (cond c 10 12))
    go true b c = refl
    go false true c = refl
    go false false true = refl
    go false false false = refl

-- data words are words of the size
pub data-words : (message : List ℕ) (L : ℕ) → Words (field.size_of (word_size L)) (data_words_of message L)
unfolding data_words_of
data-words message L =
    let ws = stuff (word_size L) (bits_of message) in
    let good = stuffed-codewords (word_size L) (omega (arith, word-size-range L)) (bits_of message) (message-bits message) in
    words-below (field.size_of (word_size L)) ws (length ws) refl
    (λ i h. subst (λ b. get_or ws i 0 < 2 ^ b) (sym (size_is L)) (codeword-at (word_size L) ws good i h).fits)

-- the block is valid, and as long as its shape says
pub block-valid : (message : List ℕ) (f : Bool) (L : ℕ)
    → Valid (field.size_of (word_size L)) (words f L - length (data_words_of message L)) (block message f L)
unfolding block
block-valid message f L = check-words-valid (field.size_of (word_size L)) _ (data_words_of message L) (data-words message L)

pub length-block : (message : List ℕ) (f : Bool) (L : ℕ) → length (data_words_of message L) ≤ words f L → length (block message f L) ≡ words f L
unfolding block
length-block message f L h =
    length-append (data_words_of message L) _
    ∙ ap (λ n. length (data_words_of message L) + n) (length-check-words (field.size_of (word_size L)) (words f L - length (data_words_of message L)) (data_words_of message L))
    ∙ omega arith

-- the data words, stored at the front of a block that is long enough
pub front-written : (l ws : List ℕ) → length ws ≤ length l → take (length ws) (sets l 0 ws) ≡ ws
front-written l ws h = ap (take (length ws)) (sets-eq ws l 0 (omega arith)) ∙ take_at ws (drop (0 + length ws) l) (length ws) refl

-- a block as long as its shape says, whose first words are the message's, with check words
pub block-filled : (message : List ℕ) (f : Bool) (L D : ℕ) (l : List ℕ) → D ≡ length (data_words_of message L) → take D l ≡ data_words_of message L
    → length l ≡ words f L → with_check_words (field.size_of (word_size L)) D l ≡ block message f L
unfolding block
block-filled message f L D l d e n =
    ap (λ ws. ws ++ check_words_of (field.size_of (word_size L)) (length l - D) ws) e
    ∙ ap₂ (λ m k. data_words_of message L ++ check_words_of (field.size_of (word_size L)) (m - k) (data_words_of message L)) n d
