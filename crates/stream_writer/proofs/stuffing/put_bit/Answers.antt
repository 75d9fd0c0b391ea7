-- The code's tests are those of `put`.
-- Assumes nothing.
use Rattle.std.proofs.Common.{eq-eqb, ne_eqb, ◌≡◌, sym, ap, ap₂, ◌∙◌, ◌≢◌, true, false, ◌&&◌, ◌||◌, ℕ, ◌*◌, ◌+◌, ◌-◌, ◌%◌, ◌^◌, ◌≤◌, ◌<◌, mod-eq_of_lt, arith, eqb, pow_mono, pow_pos}
use Rattle.list_laws.specs.Range.{one}
use Rattle.stream.specs.declared.stuffing.Put.TheVariants.{Part, Word}
use Rattle.stream.specs.Stuffing.{flat, put}
use Rattle.stream.specs.PutLaws.{State, put-by, not-flat}
use Rattle.stream_writer.proofs.stuffing.put_bit.Goals as goal

shl_one : (h : ℕ) → h ≤ 11 → (1 * 2 ^ h) % 2 ^ 64 ≡ 2 ^ h
shl_one h l = mod-eq_of_lt (let x : 1 * 2 ^ h < 2 ^ 64 = omega (arith, pow_mono {i = h} {j = 11} l) in x) ∙ omega arith

small : {h k v : ℕ} → h ≤ 11 → State h k v → v < 2048
small {h} {k} l s = omega (arith, s.fits, pow_mono {i = k} {j = 11} (omega (arith, s.few)))

module _ (h k v b : ℕ) (n : k ≢ h) (e : k + 1 ≡ h) where
  -- h bits that are all 0s, all 1s, or neither
  zeros : v * 2 + b ≡ 0 → Word 1 ≡ put h k v b
  unfolding flat
  zeros z =
      let w = v * 2 + b in
      let even = ap₂ ◌&&◌ (eq-eqb (k + 1) h e) (ap (λ t. t || eqb w (2 ^ h - 1)) (eq-eqb w 0 z)) in
      sym (put-by h k v b false true (ne_eqb k h n) even
      ∙ ap Word (let x : w * 2 + one (eqb w 0) ≡ 1 = omega (arith, ap one (eq-eqb w 0 z)) in x))

  ones : v * 2 + b ≢ 0 → v * 2 + b ≡ 2 ^ h - 1 → Word ((v * 2 + b) * 2) ≡ put h k v b
  unfolding flat
  ones y z =
      let w = v * 2 + b in
      let even = ap₂ ◌&&◌ (eq-eqb (k + 1) h e) (ap₂ ◌||◌ (ne_eqb w 0 y) (eq-eqb w (2 ^ h - 1) z)) in
      sym (put-by h k v b false true (ne_eqb k h n) even
      ∙ ap Word (let x : w * 2 + one (eqb w 0) ≡ w * 2 = omega (arith, ap one (ne_eqb w 0 y)) in x))

  mixed : v * 2 + b ≢ 0 → v * 2 + b ≢ 2 ^ h - 1 → Part h (v * 2 + b) ≡ put h k v b
  mixed y z =
      sym (put-by h k v b false false (ne_eqb k h n) (ap₂ ◌&&◌ (eq-eqb (k + 1) h e) (not-flat h (v * 2 + b) y z))
      ∙ ap (λ k. Part k (v * 2 + b)) e)

pub overflow_mul-w : goal.overflow_mul-w
overflow_mul-w c = omega (arith, small c.requires.fact_1.1 c.requires.fact_2)

pub overflow_add-w : goal.overflow_add-w
overflow_add-w c = omega (arith, small c.requires.fact_1.1 c.requires.fact_2)

pub returns-then-k-h : goal.returns-then-k-h
unfolding put
returns-then-k-h c = simp (eq-eqb _ _ c.if-k-h.true)

pub returns-then-w-eq0 : goal.returns-then-w-eq0
returns-then-w-eq0 c =
    let a = c.args in
    zeros a.h a.k a.v a.b c.if-k-h.false c.if-k-h-2.true c.if-w-eq0.true

pub overflow_sub-h : goal.overflow_sub-h
overflow_sub-h c = let h = c.args.h in rw (shl_one h (omega arith)) (pow_pos h)

pub overflow_mul-result : goal.overflow_mul-result
overflow_mul-result c = omega (arith, small c.requires.fact_1.1 c.requires.fact_2)

pub returns-then-w-h : goal.returns-then-w-h
returns-then-w-h c =
    let a = c.args in
    ones a.h a.k a.v a.b c.if-k-h.false c.if-k-h-2.true c.if-w-eq0.false
    (c.if-w-h.true ∙ ap (λ x. x - 1) (shl_one a.h (omega arith)))

pub returns-then-k-h-2 : goal.returns-then-k-h-2
returns-then-k-h-2 c =
    let a = c.args in
    mixed a.h a.k a.v a.b c.if-k-h.false c.if-k-h-2.true c.if-w-eq0.false
    (λ e. c.if-w-h.false (e ∙ ap (λ x. x - 1) (sym (shl_one a.h (omega arith)))))

pub returns : goal.returns
unfolding put
returns c = simp (ne_eqb _ _ c.if-k-h.false, ne_eqb _ _ c.if-k-h-2.false)
