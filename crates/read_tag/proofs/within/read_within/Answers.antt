-- A ring more: what is read inside of it is answered, or ends the reading, or leaves the rest to be read.
use Rattle.std.proofs.Common.{◌≡◌, ◌+◌, ◌-◌, ◌/◌, refl, sym, ap, ◌∙◌, arith, rules}
use Rattle.decoder.specs.Decode.{refused}
use Rattle.decoder.specs.Kept.{decode-kept}
use Rattle.grid_text.specs.Border.{inner_side, inner}
use Rattle.read_tag.specs.Within.{told, read_inside, read_from}
use Rattle.read_tag.specs.WithinLaws.{whole, none_left, answered, stopped, ring-off}
use Rattle.read_tag.proofs.within.read_within.Goals as goal

pub loop-rings-init : goal.loop-rings-init
loop-rings-init c =
    let a = c.args in
    let all : (a.side + 1) / 2 - 0 ≡ (a.side + 1) / 2 = omega arith in
    record {
      room = refl;
      kept = refl;
      same = ap (λ n. read_from a.grid.now a.side a.message.now n 0 11) all ∙ whole a.grid.now a.side a.message.now;
    }

pub returns-then-answer-eq0-clause-value : goal.returns-then-answer-eq0-clause-value
returns-then-answer-eq0-clause-value c =
    let a = c.args in
    let l = c.loop-rings in
    let r = c.read_inside-answer.ensures in
    let same = ap (λ m. read_inside a.grid.now a.side m l.rings) l.invariant.kept in
    let number = ap (λ d. d.number) r.value ∙ ap (λ s. s.answer.number) same in
    r.value ∙ ap (λ s. s.answer) (same ∙ answered a.grid.now a.side a.message.now ((a.side + 1) / 2) l.rings l.refusal l.invariant.same (omega arith) (sym number ∙ c.if-answer-eq0.true))

pub returns-then-answer-eq0-clause-message_after : goal.returns-then-answer-eq0-clause-message_after
returns-then-answer-eq0-clause-message_after c =
    let a = c.args in
    let l = c.loop-rings in
    let r = c.read_inside-answer.ensures in
    let same = ap (λ m. read_inside a.grid.now a.side m l.rings) l.invariant.kept in
    let number = ap (λ d. d.number) r.value ∙ ap (λ s. s.answer.number) same in
    r.message_after ∙ ap (λ s. s.message) (same ∙ answered a.grid.now a.side a.message.now ((a.side + 1) / 2) l.rings l.refusal l.invariant.same (omega arith) (sym number ∙ c.if-answer-eq0.true))

pub returns-then-not-is_light_ring-clause-value : goal.returns-then-not-is_light_ring-clause-value
returns-then-not-is_light_ring-clause-value c =
    let a = c.args in
    let l = c.loop-rings in
    let r = c.read_inside-answer.ensures in
    let same = ap (λ m. read_inside a.grid.now a.side m l.rings) l.invariant.kept in
    let number = ap (λ d. d.number) r.value ∙ ap (λ s. s.answer.number) same in
    let refusing : (read_inside a.grid.now a.side a.message.now l.rings).answer.number ≡ 0 → ⊥ = λ e. c.if-answer-eq0.false (number ∙ e) in
    let refusal = c.tell-refusal.ensures ∙ ap (told l.refusal) number in
    let end = stopped a.grid.now a.side a.message.now ((a.side + 1) / 2) l.rings l.refusal l.invariant.same (omega arith) refusing (sym c.is_light_ring.ensures ∙ c.if-not-is_light_ring.true) in
    c.refused.ensures ∙ ap (λ k. (refused k a.message.now).answer) refusal ∙ ap (λ s. s.answer) end

pub returns-then-not-is_light_ring-clause-message_after : goal.returns-then-not-is_light_ring-clause-message_after
returns-then-not-is_light_ring-clause-message_after c =
    let a = c.args in
    let l = c.loop-rings in
    let r = c.read_inside-answer.ensures in
    let same = ap (λ m. read_inside a.grid.now a.side m l.rings) l.invariant.kept in
    let number = ap (λ d. d.number) r.value ∙ ap (λ s. s.answer.number) same in
    let refusing : (read_inside a.grid.now a.side a.message.now l.rings).answer.number ≡ 0 → ⊥ = λ e. c.if-answer-eq0.false (number ∙ e) in
    let kept = (decode-kept (inner a.grid.now a.side l.rings) a.message.now (inner_side a.side l.rings)).kept refusing in
    let end = stopped a.grid.now a.side a.message.now ((a.side + 1) / 2) l.rings l.refusal l.invariant.same (omega arith) refusing (sym c.is_light_ring.ensures ∙ c.if-not-is_light_ring.true) in
    r.message_after ∙ ap (λ s. s.message) same ∙ kept ∙ ap (λ s. s.message) end

pub loop-rings-preserved : goal.loop-rings-preserved
loop-rings-preserved c =
    let a = c.args in
    let l = c.loop-rings in
    let r = c.read_inside-answer.ensures in
    let same = ap (λ m. read_inside a.grid.now a.side m l.rings) l.invariant.kept in
    let number = ap (λ d. d.number) r.value ∙ ap (λ s. s.answer.number) same in
    let refusing : (read_inside a.grid.now a.side a.message.now l.rings).answer.number ≡ 0 → ⊥ = λ e. c.if-answer-eq0.false (number ∙ e) in
    let refusal = c.tell-refusal.ensures ∙ ap (told l.refusal) number in
    let kept = (decode-kept (inner a.grid.now a.side l.rings) a.message.now (inner_side a.side l.rings)).kept refusing in
    let most = (a.side + 1) / 2 in
    record {
      room = search rules;
      kept = r.message_after ∙ ap (λ s. s.message) same ∙ kept;
      same =
          ap (read_from a.grid.now a.side a.message.now (most - (l.rings + 1)) (l.rings + 1)) refusal
          ∙ ring-off a.grid.now a.side a.message.now most l.rings l.refusal l.invariant.same (omega arith) refusing (sym c.is_light_ring.ensures ∙ c.if-not-is_light_ring.false);
    }

pub returns-clause-value : goal.returns-clause-value
returns-clause-value c =
    let a = c.args in
    let l = c.loop-rings in
    c.refused-2.ensures ∙ ap (λ s. s.answer) (none_left a.grid.now a.side a.message.now ((a.side + 1) / 2) l.rings l.refusal l.invariant.same (omega arith))

pub returns-clause-message_after : goal.returns-clause-message_after
returns-clause-message_after c =
    let a = c.args in
    let l = c.loop-rings in
    l.invariant.kept ∙ ap (λ s. s.message) (none_left a.grid.now a.side a.message.now ((a.side + 1) / 2) l.rings l.refusal l.invariant.same (omega arith))
