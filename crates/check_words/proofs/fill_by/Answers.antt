-- The buffer's front is the generator, and is lent as such.
-- Assumes nothing.
use Rattle.std.proofs.Common.{◌≡◌, sym, ap, ◌∙◌, ℕ, ◌-◌, arith, length, take, length-take-le, take_at}
use Rattle.finite_field.specs.Field.{size_of}
use Rattle.block_code.specs.CheckWords.{generator}
use Rattle.check_words.proofs.fill_by.Goals as goal
use Rattle.check_words.proofs.fill_by.Goals.{After-make_generator, Start}

abbrev start : After-make_generator → Start
start c = (goal.at.After-make_generator c).Start

abbrev check : Start → ℕ
check s = length s.args.block.now - s.args.data_words

front_length : (s : Start) → length (take (check s) s.args.g.now) ≡ check s
front_length s = length-take-le (check s) s.args.g.now (omega (arith, s.requires.g_in_bounds))

made-length : (c : After-make_generator) → length c.make_generator.new.g ≡ check (start c)
made-length c = c.make_generator.auto.g ∙ front_length (start c)

pub slice_bounds-make_generator-end-2 : goal.slice_bounds-make_generator-end-2
slice_bounds-make_generator-end-2 c = sym (front_length (goal.at.slice_bounds-make_generator-end-2 c).Start)

pub make_generator-requires : goal.make_generator-requires
make_generator-requires c =
    let s = (goal.at.make_generator-requires c).Start in record {
      length_bound = omega (arith, front_length s);
    }

pub slice_bounds-fill_tail-end-2 : goal.slice_bounds-fill_tail-end-2
slice_bounds-fill_tail-end-2 c =
    let e = (goal.at.slice_bounds-fill_tail-end-2 c).After-make_generator in
    sym (ap length (take_at e.make_generator.new.g _ _ (made-length e)) ∙ made-length e)

pub fill_tail-requires : goal.fill_tail-requires
fill_tail-requires c =
    let e = (goal.at.fill_tail-requires c).After-make_generator in
    let s = start e in record {
      is_generator = take_at e.make_generator.new.g _ _ (made-length e)
          ∙ e.make_generator.ensures
          ∙ ap (generator (size_of s.args.field.now.size)) (front_length s);
      data_words_in_bounds_1 = s.requires.data_words_in_bounds_1;
      data_words_in_bounds_2 = s.requires.data_words_in_bounds_2;
    }
