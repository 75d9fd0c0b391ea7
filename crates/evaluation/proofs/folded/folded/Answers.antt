-- The polynomial itself is one class, copied into zeros.
-- Assumes nothing.
use Rattle.std.proofs.Common.{◌++◌, drop, get_or, sym, ◌≡◌, ap, ◌∙◌, ℕ, ◌+◌, ◌-◌, ◌^◌, arith, length}
use lib.ListN.{length-replicate}
use Rattle.list_laws.specs.Filled.{filled, length-filled, tabulate-get_or}
use Rattle.finite_field.specs.Field.{size_of, bits}
use Rattle.finite_field.specs.FieldLaws.{one_word, most-words}
use Rattle.evaluation.specs.Evaluation.{value_at}
use Rattle.evaluation.proofs.Elements.{zeros-from, zero-words}
use Rattle.evaluation.proofs.Classes.{folded-given}
use Rattle.evaluation.proofs.folded.folded.Goals as goal

pub fold_by-requires : goal.fold_by-requires
fold_by-requires g c =
    let size = size_of c.args.field.now.size in
    let N = g.row.WORDS in
    let a = c.zeros-a in
    let b = c.zeros-b in
    let copied : c.copy_from_slice.new.self ++ drop (length c.args.from.now) a.result
    ≡ filled (λ (i : ℕ). get_or c.args.from.now i 0) (length c.args.from.now) a.result
    = ap (λ l. l ++ drop (length c.args.from.now) a.result) (c.copy_from_slice.ensures.after ∙ sym (tabulate-get_or 0 c.args.from.now)) in
    let whole : N - 1 + 1 ≡ 2 ^ bits size = omega (arith, c.requires.words, one_word size) in
    let given = folded-given size a.result (zeros-from N a.ensures) copied c.requires.given (N - 1) whole in
    let a-long : length a.result ≡ N = ap length a.ensures ∙ length-replicate {A = ℕ} N 0 in
    let b-long : length b.result ≡ N = ap length b.ensures ∙ length-replicate {A = ℕ} N 0 in record {
      divided = c.requires.factors_2;
      folded = (value_at size (length c.args.from.now) c.args.from.now, rw c.requires.factors_1 given);
      words = zero-words size b.result (zeros-from N b.ensures);
      long_1 = omega (arith, c.requires.words, ap length copied, length-filled (λ (i : ℕ). get_or c.args.from.now i 0) (length c.args.from.now) a.result (omega (arith, c.requires.given.n-lt, c.requires.words)));
      long_2 = omega (arith, c.requires.words);
      n_bound = omega (arith, c.requires.given.n-lt, most-words size);
      asked = c.requires.asked;
      cleared = c.requires.cleared;
    }

pub returns : goal.returns
returns g c =
    let size = size_of c.args.field.now.size in
    let N = g.row.WORDS in
    let a = c.zeros-a in
    let copied : c.copy_from_slice.new.self ++ drop (length c.args.from.now) a.result
    ≡ filled (λ (i : ℕ). get_or c.args.from.now i 0) (length c.args.from.now) a.result
    = ap (λ l. l ++ drop (length c.args.from.now) a.result) (c.copy_from_slice.ensures.after ∙ sym (tabulate-get_or 0 c.args.from.now)) in
    let whole : N - 1 + 1 ≡ 2 ^ bits size = omega (arith, c.requires.words, one_word size) in
    let given = folded-given size a.result (zeros-from N a.ensures) copied c.requires.given (N - 1) whole in
    c.fold_by.ensures (value_at size (length c.args.from.now) c.args.from.now) (rw c.requires.factors_1 given)
