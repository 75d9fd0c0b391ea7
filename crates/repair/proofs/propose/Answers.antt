-- Each step's contract is the next one's premise; `proposed` puts them together.
-- Assumes nothing.
use Rattle.std.proofs.Common.{rules, ◌++◌, drop, take, replicate, ◌≡◌, sym, ap, ◌∙◌, subst, ℕ, ◌+◌, ◌-◌, ◌/◌, ◌^◌, ◌≤◌, ◌<◌, zero-add, arith, lit≤, length, get_or}
use Rattle.list_laws.specs.Range.{one-most, count_most}
use Rattle.finite_field.specs.Field.{size_of, bits, Word}
use Rattle.evaluation.specs.Evaluation.{value_at}
use Rattle.std.proofs.lemmas.List.{length-take-le}
use Rattle.evaluation.proofs.Clearing.{cleared-zeros}
use Rattle.evaluation.proofs.Parts.{put-length, given-front, asked-front, value-front, valued-front}
use Rattle.correction.specs.Steps.{taken_at}
use Rattle.repair.proofs.Proposing.{copied, proposed}
use Rattle.repair.proofs.propose.Goals as goal

pub erase-requires : goal.erase-requires
erase-requires c =
    let work = c.requires.work in
    let fits : c.args.received.now.limit ≤ c.args.received.now.check_words = c.requires.marks_bound_2 in
    let below : c.args.received.now.check_words < length c.args.received.now.marks.now = c.requires.marks_bound_3 in
    let words : length c.args.received.now.marks.now < 2 ^ bits (size_of c.args.field.now.size) = c.requires.marks_bound_4 in
    let size : length c.copy_from_slice.new.self ≡ c.args.received.now.check_words
    = ap length c.copy_from_slice.ensures.after ∙ length-take-le c.args.received.now.check_words c.args.s.now (omega (arith, c.requires.syndromes_3)) in
    let put : length (c.copy_from_slice.new.self ++ drop c.args.received.now.check_words c.args.u.now) ≡ length c.args.u.now
    = put-length c.args.received.now.check_words c.args.u.now c.copy_from_slice.new.self size (omega (arith, work.erased.longer)) in
    let entries : (j : ℕ) → get_or (c.copy_from_slice.new.self ++ drop c.args.received.now.check_words c.args.u.now) j 0 ≡ get_or c.args.s.now j 0
    = copied c.args.received.now.check_words c.args.s.now c.args.u.now c.copy_from_slice.new.self c.copy_from_slice.ensures.after
    (omega (arith, c.requires.syndromes_3)) c.requires.syndromes_2 work.erased.zeros in record {
      words = λ i. subst (Word (size_of c.args.field.now.size)) (sym (entries i)) (c.requires.syndromes_1 i);
      marks_len_bound_1 = omega arith;
      marks_len_bound_2 = omega (arith, put, work.erased.longer);
      marks_len_bound_3 = λ j h. entries j ∙ c.requires.syndromes_2 j h;
    }

pub locate-degree-requires : goal.locate-degree-requires
locate-degree-requires c =
    let work = c.requires.work in
    let fits : c.args.received.now.limit ≤ c.args.received.now.check_words = c.requires.marks_bound_2 in
    let below : c.args.received.now.check_words < length c.args.received.now.marks.now = c.requires.marks_bound_3 in
    let words : length c.args.received.now.marks.now < 2 ^ bits (size_of c.args.field.now.size) = c.requires.marks_bound_4 in
    let size : length c.copy_from_slice.new.self ≡ c.args.received.now.check_words
    = ap length c.copy_from_slice.ensures.after ∙ length-take-le c.args.received.now.check_words c.args.s.now (omega (arith, c.requires.syndromes_3)) in
    let put : length (c.copy_from_slice.new.self ++ drop c.args.received.now.check_words c.args.u.now) ≡ length c.args.u.now
    = put-length c.args.received.now.check_words c.args.u.now c.copy_from_slice.new.self size (omega (arith, work.erased.longer)) in record {
      words = c.erase.ensures.words;
      u_in_bounds = omega (arith, c.erase.auto.u, put, work.erased.longer);
      t_in_bounds_1 = omega (arith, work.locator.longer);
      t_in_bounds_2 = omega (arith, work.shorter.longer);
      t_in_bounds_3 = work.locator.zeros;
      t_in_bounds_4 = work.shorter.zeros;
    }

pub overflow_add-degree : goal.overflow_add-degree
overflow_add-degree c =
    let work = c.requires.work in
    let fits : c.args.received.now.limit ≤ c.args.received.now.check_words = c.requires.marks_bound_2 in
    let below : c.args.received.now.check_words < length c.args.received.now.marks.now = c.requires.marks_bound_3 in
    let words : length c.args.received.now.marks.now < 2 ^ bits (size_of c.args.field.now.size) = c.requires.marks_bound_4 in
    omega (arith, c.locate-degree.ensures.located.length-le, work.locator.longer)

pub evaluate-requires : goal.evaluate-requires
evaluate-requires c =
    let work = c.requires.work in
    let size = size_of c.args.field.now.size in
    let n = length c.args.received.now.marks.now in
    let fits : c.args.received.now.limit ≤ c.args.received.now.check_words = c.requires.marks_bound_2 in
    let below : c.args.received.now.check_words < n = c.requires.marks_bound_3 in
    let words : n < 2 ^ bits size = c.requires.marks_bound_4 in
    let found = c.locate-degree.ensures.located in
    let terms : c.locate-degree.result + 1 ≤ length c.locate-degree.new.p
    = omega (arith, found.length-le, c.locate-degree.auto.p, work.locator.longer) in
    let places : n ≤ length c.locate-degree.new.q = omega (arith, c.locate-degree.auto.q, work.shorter.longer) in record {
      given = given-front size (c.locate-degree.result + 1) c.locate-degree.new.p terms (record {
        words = λ i _. found.words i;
        n-lt = omega (arith, found.length-le);
        n-le = terms;
      });
      asked = asked-front size n c.locate-degree.new.q places (record {
        first-le = lit≤ tt;
        last-le = omega arith;
        fits = places;
        words = c.locate-degree.ensures.words;
      });
    }

pub gather-m-requires : goal.gather-m-requires
gather-m-requires c =
    let work = c.requires.work in
    let marks = c.args.received.now.marks.now in
    let fits : c.args.received.now.limit ≤ c.args.received.now.check_words = c.requires.marks_bound_2 in
    let below : c.args.received.now.check_words < length c.args.received.now.marks.now = c.requires.marks_bound_3 in
    let words : length c.args.received.now.marks.now < 2 ^ bits (size_of c.args.field.now.size) = c.requires.marks_bound_4 in
    let size : length c.copy_from_slice.new.self ≡ c.args.received.now.check_words
    = ap length c.copy_from_slice.ensures.after ∙ length-take-le c.args.received.now.check_words c.args.s.now (omega (arith, c.requires.syndromes_3)) in
    let put : length (c.copy_from_slice.new.self ++ drop c.args.received.now.check_words c.args.u.now) ≡ length c.args.u.now
    = put-length c.args.received.now.check_words c.args.u.now c.copy_from_slice.new.self size (omega (arith, work.erased.longer)) in
    let fits : c.args.received.now.check_words ≤ length c.erase.new.u = omega (arith, c.erase.auto.u, put, work.erased.longer) in
    let front = length-take-le c.args.received.now.check_words c.erase.new.u fits in
    let zeros : c.fill.new.self ≡ replicate (length (take c.args.received.now.check_words c.erase.new.u)) 0 = search rules in
    let cleared : c.fill.new.self ≡ replicate c.args.received.now.check_words 0 = zeros ∙ ap (λ (n : ℕ). replicate n 0) front in
    let over : length (c.fill.new.self ++ drop c.args.received.now.check_words c.erase.new.u) ≡ length c.erase.new.u
    = put-length c.args.received.now.check_words c.erase.new.u c.fill.new.self (c.fill.ensures.len ∙ front) fits in
    let size = size_of c.args.field.now.size in
    let n = length marks in
    let p = c.locate-degree.new.p in
    let q = c.locate-degree.new.q in
    let terms : c.locate-degree.result + 1 ≤ length p
    = omega (arith, c.locate-degree.ensures.located.length-le, c.locate-degree.auto.p, work.locator.longer) in
    let places : n ≤ length q = omega (arith, c.locate-degree.auto.q, work.shorter.longer) in
    let valued = valued-front size n q places c.locate-degree.ensures.words c.evaluate.auto.out
    (value-front size (c.locate-degree.result + 1) p terms) c.evaluate.ensures in
    let kept : length (c.evaluate.new.out ++ drop n q) ≡ length q
    = put-length n q c.evaluate.new.out (c.evaluate.auto.out ∙ length-take-le n q places) places in record {
      locator_values = record { words = valued.words; values = λ j h. valued.values j h ∙ ap (value_at size (c.locate-degree.result + 1) p) (zero-add j) };
      marks_in_bounds_1 = omega (arith, kept, c.locate-degree.auto.q, work.shorter.longer);
      marks_in_bounds_2 = omega arith;
      marks_in_bounds_3 = omega (arith, work.missing.longer);
      marks_in_bounds_2_1 = omega (arith, over, c.erase.auto.u, put, work.erased.longer);
      marks_in_bounds_2_2 = work.missing.zeros;
      marks_in_bounds_2_3 = cleared-zeros c.args.received.now.check_words c.erase.new.u c.erase.ensures.above (ap (λ l. l ++ drop c.args.received.now.check_words c.erase.new.u) cleared);
    }

pub corrections-requires : goal.corrections-requires
corrections-requires c =
    let work = c.requires.work in
    let fits : c.args.received.now.limit ≤ c.args.received.now.check_words = c.requires.marks_bound_2 in
    let below : c.args.received.now.check_words < length c.args.received.now.marks.now = c.requires.marks_bound_3 in
    let words : length c.args.received.now.marks.now < 2 ^ bits (size_of c.args.field.now.size) = c.requires.marks_bound_4 in
    let size : length c.copy_from_slice.new.self ≡ c.args.received.now.check_words
    = ap length c.copy_from_slice.ensures.after ∙ length-take-le c.args.received.now.check_words c.args.s.now (omega (arith, c.requires.syndromes_3)) in
    let put : length (c.copy_from_slice.new.self ++ drop c.args.received.now.check_words c.args.u.now) ≡ length c.args.u.now
    = put-length c.args.received.now.check_words c.args.u.now c.copy_from_slice.new.self size (omega (arith, work.erased.longer)) in
    let fits : c.args.received.now.check_words ≤ length c.erase.new.u = omega (arith, c.erase.auto.u, put, work.erased.longer) in
    let front = length-take-le c.args.received.now.check_words c.erase.new.u fits in
    let zeros : c.fill.new.self ≡ replicate (length (take c.args.received.now.check_words c.erase.new.u)) 0 = search rules in
    let cleared : c.fill.new.self ≡ replicate c.args.received.now.check_words 0 = zeros ∙ ap (λ (n : ℕ). replicate n 0) front in
    let over : length (c.fill.new.self ++ drop c.args.received.now.check_words c.erase.new.u) ≡ length c.erase.new.u
    = put-length c.args.received.now.check_words c.erase.new.u c.fill.new.self (c.fill.ensures.len ∙ front) fits in
    let gather = c.gather-m in
    let marks = c.args.received.now.marks.now in
    let taken = taken_at (size_of c.args.field.now.size) c.locate-degree.result c.locate-degree.new.p marks in
    let few : gather.result ≤ length marks = omega (arith, gather.ensures.vanishing.degree, count_most (length marks) taken) in record {
      g_words = gather.ensures.words;
      syndrome_words = c.requires.syndromes_1;
      m_in_bounds_1 = omega (arith, gather.auto.g, over, c.erase.auto.u, put, work.erased.longer);
      m_in_bounds_2 = omega (arith, c.requires.syndromes_3);
      m_in_bounds_3 = omega (arith, gather.auto.places, work.missing.longer);
      m_in_bounds_4 = omega arith;
      zero_from_1 = gather.ensures.rest;
      zero_from_2 = λ i h. subst (λ (n : ℕ). n ≤ 1) (sym (gather.ensures.noted i h)) (one-most (taken i));
    }

pub returns : goal.returns
returns c =
    let work = c.requires.work in
    let fits : c.args.received.now.limit ≤ c.args.received.now.check_words = c.requires.marks_bound_2 in
    let below : c.args.received.now.check_words < length c.args.received.now.marks.now = c.requires.marks_bound_3 in
    let words : length c.args.received.now.marks.now < 2 ^ bits (size_of c.args.field.now.size) = c.requires.marks_bound_4 in
    let entries : (j : ℕ) → get_or (c.copy_from_slice.new.self ++ drop c.args.received.now.check_words c.args.u.now) j 0 ≡ get_or c.args.s.now j 0
    = copied c.args.received.now.check_words c.args.s.now c.args.u.now c.copy_from_slice.new.self c.copy_from_slice.ensures.after
    (omega (arith, c.requires.syndromes_3)) c.requires.syndromes_2 work.erased.zeros in
    let count-marks = c.count_marks in
    let t = (c.args.received.now.limit - count-marks.result) / 2 in
    proposed (size_of c.args.field.now.size) c.args.received.now.check_words c.args.received.now.limit t c.args.received.now.marks.now c.args.s.now fits words
    (omega (arith, count-marks.ensures, c.requires.marks_bound_1)) (omega (arith, count-marks.ensures, c.requires.marks_bound_1)) entries c.erase.ensures
    c.locate-degree.ensures.located c.gather-m.ensures c.corrections.ensures
