-- Two or four words of 4 bits, and their check words.
-- Assumes nothing.
use Rattle.std.proofs.Common.{◌≡◌, refl, sym, ap, ◌∙◌, subst, Bool, true, false, List, [], ◌∷◌, ◌++◌, ℕ, ◌+◌, ◌*◌, ◌-◌, ◌/◌, ◌%◌, ◌≤◌, ◌<◌, arith, mul-le-mul, length, take, drop, length-take-le, length-drop, length-append, take_at}
use Rattle.finite_field.specs.Field.{size_of}
use Rattle.block_code.specs.Block.{Words}
use Rattle.symbol.specs.Shapes.{most_words}
use Rattle.symbol.specs.DataPlaces.{most-layers}
use Rattle.symbol.specs.Places.{mode_run}
use Rattle.encoder.specs.ModeMessage.{mode_data, mode_checks, mode_codewords}
use Rattle.encoder.specs.ModeLaws.{mode-data-words, mode-filled}
use Rattle.encoder.proofs.mode.fill_mode_words.Goals as goal
use Rattle.encoder.proofs.mode.fill_mode_words.Goals.{then-shape, else-shape, Joined-shape, After-copy_from_slice}

-- how many numbers D − 1 can be, and the words that say L and D
abbrev parts : Bool → ℕ × ℕ
parts true = (2048, 4)
parts false = (64, 2)

abbrev said : ℕ → List ℕ
said v = v / 4096 % 16 ∷ v / 256 % 16 ∷ v / 16 % 16 ∷ v % 16 ∷ []

abbrev last : ℕ → List ℕ → List ℕ
last n l = take (4 - (4 - n)) (drop {A = ℕ} (4 - n) l)

parts-most : (f : Bool) → (parts f).0 ≤ 2048
parts-most true = omega arith
parts-most false = omega arith

last-length : (f : Bool) (v : ℕ) → length (last (parts f).1 (said v)) ≡ (parts f).1
last-length true v = refl
last-length false v = refl

last-is : (f : Bool) (L D : ℕ) → last (parts f).1 (said ((L - 1) * (parts f).0 + (D - 1))) ≡ mode_data f L D
unfolding mode_data
last-is true L D = refl
last-is false L D = refl

run-is : (f : Bool) → mode_run f ≡ (parts f).1 + mode_checks f
unfolding mode_run mode_checks
run-is true = refl
run-is false = refl

checks-some : (f : Bool) → (0 < mode_checks f) × ((parts f).1 + mode_checks f < 16)
unfolding mode_checks
checks-some true = (omega arith, omega arith)
checks-some false = (omega arith, omega arith)

module _ (c : Joined-shape) where
  abbrev f : Bool
  f = c.args.shape.full

  family : c.if-shape.most ≡ parts f
  family = elim c.if-shape.branch [ then-shape w ↦ w.most-is ∙ ap parts (sym w.if-shape.true) | else-shape w ↦ w.most-is ∙ ap parts (sym w.if-shape.false) ]

  count : c.if-shape.most.1 ≡ (parts f).1
  count = ap (λ m. m.1) family

  small : (c.args.shape.layers - 1) * c.if-shape.most.0 ≤ 65536
  small =
      let s = c.args.shape in
      let few : s.layers ≤ 32 = most-layers s.full s.layers s.shaped in
      let most : c.if-shape.most.0 ≤ 2048 = omega (arith, ap (λ m. m.0) family, parts-most f) in
      omega (arith, mul-le-mul {n₁ = s.layers - 1} {m₁ = c.if-shape.most.0} {n₂ = 32} {m₂ = 2048} (omega arith) most)

  room : c.if-shape.most.1 ≤ length c.args.words.now
  room = omega (arith, count, c.requires.2, run-is f)

  front : length (take c.if-shape.most.1 c.args.words.now) ≡ c.if-shape.most.1
  front = length-take-le c.if-shape.most.1 c.args.words.now room

pub overflow_mul-v : goal.overflow_mul-v
overflow_mul-v c = omega (arith, small (goal.at.overflow_mul-v c).Joined-shape)

words-few : (f : Bool) → most_words f ≤ 2048
unfolding most_words
words-few true = omega arith
words-few false = omega arith

pub overflow_add-v : goal.overflow_add-v
overflow_add-v c = omega (arith, small (goal.at.overflow_add-v c).Joined-shape, c.requires.1, words-few c.args.shape.full)

pub slice_bounds-copy_from_slice-end : goal.slice_bounds-copy_from_slice-end
slice_bounds-copy_from_slice-end c = room (goal.at.slice_bounds-copy_from_slice-end c).Joined-shape

pub slice_bounds-copy_from_slice-end-2 : goal.slice_bounds-copy_from_slice-end-2
slice_bounds-copy_from_slice-end-2 c = sym (front (goal.at.slice_bounds-copy_from_slice-end-2 c).Joined-shape)

pub copy_from_slice-requires : goal.copy_from_slice-requires
copy_from_slice-requires c =
    let j = (goal.at.copy_from_slice-requires c).Joined-shape in
    let s = c.args.shape in
    front j
    ∙ subst (λ m. m.1 ≡ length (last m.1 (said ((s.layers - 1) * m.0 + (c.args.data_words - 1))))) (sym (family j))
    (sym (last-length s.full _))

-- the words stored before the check words
module _ (c : After-copy_from_slice) where
  abbrev joined : Joined-shape
  joined = (goal.at.After-copy_from_slice c).Joined-shape

  abbrev stored : List ℕ
  stored = c.copy_from_slice.new.self ++ drop c.if-shape.most.1 c.args.words.now

  data-is : c.copy_from_slice.new.self ≡ mode_data c.args.shape.full c.args.shape.layers c.args.data_words
  data-is =
      let s = c.args.shape in
      c.copy_from_slice.ensures.after
      ∙ ap (λ m. last m.1 (said ((s.layers - 1) * m.0 + (c.args.data_words - 1)))) (family joined)
      ∙ last-is s.full s.layers c.args.data_words

  data-length : length c.copy_from_slice.new.self ≡ c.if-shape.most.1
  data-length = c.copy_from_slice.ensures.len ∙ front joined

  stored-front : take c.if-shape.most.1 stored ≡ mode_data c.args.shape.full c.args.shape.layers c.args.data_words
  stored-front =
      ap (λ n. take n stored) (sym data-length)
      ∙ take_at c.copy_from_slice.new.self (drop c.if-shape.most.1 c.args.words.now) (length c.copy_from_slice.new.self) refl ∙ data-is

  stored-length : length stored ≡ mode_run c.args.shape.full
  stored-length =
      length-append c.copy_from_slice.new.self (drop c.if-shape.most.1 c.args.words.now)
      ∙ omega (arith, data-length, length-drop c.if-shape.most.1 c.args.words.now, room joined, c.requires.2)

pub fill_check_words-requires : goal.fill_check_words-requires
fill_check_words-requires c =
    let w = (goal.at.fill_check_words-requires c).After-copy_from_slice in
    let f = c.args.shape.full in record {
      size_value_1 = refl;
      size_value_2 = omega (arith, stored-length w, run-is f, count (joined w), checks-some f);
      size_value_3 = omega (arith, stored-length w, run-is f, checks-some f);
      words = subst (Words (size_of 4)) (sym (stored-front w)) (mode-data-words f c.args.shape.layers c.args.data_words);
    }

pub returns : goal.returns
returns c =
    let w = (goal.at.returns c).After-copy_from_slice in
    let s = c.args.shape in
    c.fill_check_words.ensures
    ∙ mode-filled s.full s.layers c.args.data_words c.if-shape.most.1 (stored w) (stored-front w)
    (omega (arith, stored-length w, run-is s.full, count (joined w)))
