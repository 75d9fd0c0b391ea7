-- Words from an upright grid u (document 01, "How a grid is read", step 3), through a table of places or at the places themselves, and that
-- they are those of the grid that was turned upright.
-- Assumes nothing.
use Rattle.std.specs.Prelude.{◌≡◌, refl, Bool, cond, List, [], ◌∷◌, ◌++◌, ℕ, zero, suc, ◌+◌, ◌*◌, ◌≤◌, ◌<◌, eqb, length, get_or}
use Rattle.std.proofs.Math.Path.{ap}
use Rattle.std.proofs.Common.{ap₂, ◌∙◌, arith}
use Rattle.list_laws.specs.Filled.{tabulate}
use Rattle.list_laws.specs.Writes.{writes, writes-same}
use Rattle.symbol.specs.Shapes.{side, words, word_size, skipped, core, Shaped}
use Rattle.symbol.specs.Places.{mode_run, mode_place, data_place}
use Rattle.symbol.specs.DataPlaces.{data-lt}
use Rattle.symbol.specs.CorePlaces.{mode-lt}
use Rattle.symbol.specs.GridWords.{value, unread, module_at, mode_module, block_module, mode_word, block_word, value_same, block-index}

-- the module at place i of a table
abbrev pub tabled : List ℕ → List ℕ → ℕ → ℕ
tabled places u i = get_or u (get_or places i 0) 0

-- module b of word w, after the places that are skipped
abbrev pub table_module : ℕ → ℕ → List ℕ → List ℕ → ℕ → ℕ → ℕ
table_module size skip places u w b = tabled places u (skip + (w * size + b))

-- bit b of mode word w, and of word w of the block
abbrev pub mode_module_of : Bool → ℕ → List ℕ → ℕ → ℕ → ℕ
mode_module_of f n u w b = get_or u (mode_place f n (w * 4 + b)) 0

abbrev pub block_module_of : Bool → ℕ → List ℕ → ℕ → ℕ → ℕ
block_module_of f L u w b = get_or u (data_place f L (skipped f L + (w * word_size L + b))) 0

-- the words, where an unread module counts as 0, and their marks: "A word with an unread module is marked"
unfoldable pub mode_words_of : Bool → ℕ → List ℕ → List ℕ
mode_words_of f n u = tabulate (λ w. value 4 (mode_module_of f n u w)) (mode_run f)

unfoldable pub mode_marks_of : Bool → ℕ → List ℕ → List ℕ
mode_marks_of f n u = tabulate (λ w. unread 4 (mode_module_of f n u w)) (mode_run f)

unfoldable pub block_words_of : Bool → ℕ → List ℕ → List ℕ
block_words_of f L u = tabulate (λ w. value (word_size L) (block_module_of f L u w)) (words f L)

unfoldable pub block_marks_of : Bool → ℕ → List ℕ → List ℕ
block_marks_of f L u = tabulate (λ w. unread (word_size L) (block_module_of f L u w)) (words f L)

pub unread-same : (b : ℕ) (u v : ℕ → ℕ) → ((j : ℕ) → j < b → u j ≡ v j) → unread b u ≡ unread b v
unfolding unread
unread-same zero u v e = refl
unread-same (suc b) u v e = ap₂ (λ (x y : ℕ). cond (eqb x 2) 1 y) (e b (omega arith)) (unread-same b u v (λ j l. e j (omega arith)))

pub tabulate-same : {A : Type 0} (n : ℕ) (f g : ℕ → A) → ((i : ℕ) → i < n → f i ≡ g i) → tabulate f n ≡ tabulate g n
unfolding tabulate
tabulate-same zero f g e = refl
tabulate-same {A} (suc n) f g e =
    ap₂ (λ (l : List A) (x : A). l ++ x ∷ []) (tabulate-same n f g (λ i h. e i (omega arith))) (e n (omega arith))

-- the same modules give the same words and marks
module _ (size n : ℕ) (u v : ℕ → ℕ → ℕ) (e : (w b : ℕ) → w < n → b < size → u w b ≡ v w b) where
  pub values_same : tabulate (λ w. value size (u w)) n ≡ tabulate (λ w. value size (v w)) n
  values_same = tabulate-same n _ _ (λ w h. value_same size (u w) (v w) (λ b k. e w b h k))

  pub marks-same : tabulate (λ w. unread size (u w)) n ≡ tabulate (λ w. unread size (v w)) n
  marks-same = tabulate-same n _ _ (λ w h. unread-same size (u w) (v w) (λ b k. e w b h k))

-- the words of u, the grid g in position p turned upright, are those that GridWords takes from g
module _ (n p : ℕ) (g before : List ℕ) (room : n * n ≤ length before) {u : List ℕ} (made : u ≡ writes before (λ k. k) (module_at n p g) (n * n)) where
  pub upright-at : (k : ℕ) → k < n * n → get_or u k 0 ≡ module_at n p g k
  upright-at k h =
      ap (λ u. get_or u k 0) made
      ∙ writes-same 0 before (λ k. k) (module_at n p g) (n * n) (λ i j x y z. z) (λ i x. omega arith) k h

  module _ (f : Bool) (wide : 2 * core f < n) where
    mode-module : (w b : ℕ) → w < mode_run f → b < 4 → mode_module_of f n u w b ≡ mode_module f n p g w b
    unfolding mode_module
    mode-module w b h k = upright-at _ (mode-lt f n wide _ (omega arith))

    pub mode-words-upright : mode_words_of f n u ≡ tabulate (mode_word f n p g) (mode_run f)
    unfolding mode_words_of mode_word
    mode-words-upright = values_same 4 (mode_run f) _ _ mode-module

    pub mode-marks-upright : mode_marks_of f n u ≡ tabulate (λ w. unread 4 (mode_module f n p g w)) (mode_run f)
    unfolding mode_marks_of
    mode-marks-upright = marks-same 4 (mode_run f) _ _ mode-module

  module _ (f : Bool) (L : ℕ) (sh : Shaped f L) (is : n ≡ side f L) where
    block-module : (w b : ℕ) → w < words f L → b < word_size L → block_module_of f L u w b ≡ block_module f L p g w b
    unfolding block_module
    block-module w b h k =
        upright-at _ (omega (arith, data-lt f L sh _ (block-index f L w b h k), ap (λ n. n * n) is))
        ∙ ap (λ n. module_at n p g (data_place f L (skipped f L + (w * word_size L + b)))) is

    pub block-words-upright : block_words_of f L u ≡ tabulate (block_word f L p g) (words f L)
    unfolding block_words_of block_word
    block-words-upright = values_same (word_size L) (words f L) _ _ block-module

    pub block-marks-upright : block_marks_of f L u ≡ tabulate (λ w. unread (word_size L) (block_module f L p g w)) (words f L)
    unfolding block_marks_of
    block-marks-upright = marks-same (word_size L) (words f L) _ _ block-module
