-- From the top down each coefficient takes the one below it, which is still the old one; the lowest takes none.
-- Assumes nothing.
use Rattle.std.proofs.Common.{rules, ◌≡◌, sym, ap, ap₂, ◌∙◌, subst, ℕ, ◌+◌, ◌-◌, ◌≤◌, ◌<◌, arith, length, get_or, set}
use Rattle.list_laws.specs.Downward.{Between, between-down}
use Rattle.finite_field.specs.Xor.{◌⊕◌}
use Rattle.finite_field.specs.Field.{size_of, Word, product, power}
use Rattle.correction.proofs.Rooting.{raised, rooted}
use Rattle.correction.proofs.values.times_root.Goals as goal

pub times_power-requires : goal.times_power-requires
times_power-requires c =
    let l = c.loop-j in
    let top : l.j - 1 + 1 ≡ l.j = omega arith in record {
      word = rw top (subst (Word (size_of c.args.field.now.size)) (sym (l.invariant.below l.j (omega arith))) (c.requires.words l.j));
      k_bound = c.requires.k_bound_1;
    }

pub loop-j-preserved : goal.loop-j-preserved
loop-j-preserved c =
    let l = c.loop-j in
    let size = size_of c.args.field.now.size in
    let g₀ = c.args.g.now in
    let fits : c.args.m + 2 ≤ length g₀ = search rules in
    let pos : 0 < l.j = search rules in
    let here : l.j - 1 + 1 ≡ l.j = omega arith in
    let back : l.j + 1 - 1 ≡ l.j = omega arith in
    let taken : c.times_power.result ≡ product size (get_or g₀ l.j 0) (power size c.args.k)
    = rw here at c.times_power.ensures ∙ ap (λ (a : ℕ). product size a (power size c.args.k)) (l.invariant.below l.j (omega arith)) in
    let now = set l.g l.j (c.times_power.result ⊕ get_or l.g (l.j - 1) 0) in
    let next : Between (raised size c.args.k g₀) (l.j + 1 - 1) (c.args.m + 2) g₀ now
    = between-down (omega arith) (omega arith) fits l.invariant (ap (λ (i : ℕ). set l.g i (c.times_power.result ⊕ get_or l.g (l.j - 1) 0)) (sym back))
    (ap₂ ◌⊕◌ taken (l.invariant.below (l.j - 1) (omega arith)) ∙ ap (raised size c.args.k g₀) (sym back)) in
    rw here (rw back at next)

pub times_power-requires-2 : goal.times_power-requires-2
times_power-requires-2 c =
    let l = c.loop-j in record {
      word = subst (Word (size_of c.args.field.now.size)) (sym (l.invariant.below 0 (omega arith))) (c.requires.words 0);
      k_bound = c.requires.k_bound_1;
    }

pub returns : goal.returns
returns c =
    let l = c.loop-j in
    let size = size_of c.args.field.now.size in
    let g₀ = c.args.g.now in
    let fits : c.args.m + 2 ≤ length g₀ = search rules in
    let done : l.j ≡ 0 = search rules in
    let d : Between (raised size c.args.k g₀) 1 (c.args.m + 2) g₀ l.g
    = subst (λ (i : ℕ). Between (raised size c.args.k g₀) i (c.args.m + 2) g₀ l.g) (ap (λ i. i + 1) done) l.invariant in
    rooted size c.args.k c.args.m c.requires.words fits d
    (c.times_power-2.ensures ∙ ap (λ (a : ℕ). product size a (power size c.args.k)) (d.below 0 (omega arith)))
