-- The word is tested as the definition tests it.
-- Assumes nothing.
use Rattle.std.proofs.Common.{eq-eqb, ne_eqb, sym, ap, ◌∙◌, ◌||◌, ◌-◌, ◌*◌, ◌%◌, ◌^◌, arith, eqb}
use Rattle.stream.specs.Stuffing.{flat}
use Rattle.item_reader.proofs.WordParts.{one_shl}
use Rattle.stream_reader.proofs.message.is_flat.Goals as goal

pub returns-then-word-eq0 : goal.returns-then-word-eq0
unfolding flat
returns-then-word-eq0 c =
    let a = c.args in
    let zero = eq-eqb a.word 0 c.if-word-eq0.true in
    zero ∙ sym (ap (λ t. t || eqb a.word (2 ^ a.word_size - 1)) zero)

pub returns-else-word-eq0 : goal.returns-else-word-eq0
unfolding flat
returns-else-word-eq0 c =
    let a = c.args in
    ap (λ w. eqb w (1 * 2 ^ a.word_size % 18446744073709551616 - 1)) c.from.ensures
    ∙ ap (λ n. eqb a.word (n - 1)) (one_shl a.word_size (omega arith))
    ∙ sym (ap (λ t. t || eqb a.word (2 ^ a.word_size - 1)) (ne_eqb a.word 0 c.if-word-eq0.false))
