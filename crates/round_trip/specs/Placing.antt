-- An upright tag is put in a position by turning it upright from the position that takes this one back.
-- Assumes nothing.
use Rattle.std.specs.Prelude.{◌≡◌, refl, ◌≢◌, List, ℕ, zero, suc, ◌*◌, ◌<◌, length, get_or}
use Rattle.std.proofs.Common.{sym, ap, ◌∙◌, subst, arith, ext_get_or}
use Rattle.list_laws.specs.Writes.{writes, length-writes, writes-same}
use Rattle.symbol.specs.Positions.{place_in, placed, back, place_in-lt, place_in-onto, length-placed, placed_at}
use Rattle.symbol.specs.GridWords.{module_at}

pub back-lt : (p : ℕ) → p < 8 → back p < 8
unfolding back
back-lt zero h = omega arith
back-lt (suc zero) h = omega arith
back-lt (suc (suc zero)) h = omega arith
back-lt (suc (suc (suc zero))) h = omega arith
back-lt (suc (suc (suc (suc p)))) h = h

-- only a quarter turn and three of them aren't their own
pub back-own : (p : ℕ) → p ≢ 1 → p ≢ 3 → p ≡ back p
unfolding back
back-own zero a b = refl
back-own (suc zero) a b = absurd (a refl)
back-own (suc (suc zero)) a b = refl
back-own (suc (suc (suc zero))) a b = absurd (b refl)
back-own (suc (suc (suc (suc p)))) a b = refl

pub placed-by-back : (n p : ℕ) (g before : List ℕ) → length before ≡ n * n
    → writes before (λ k. k) (module_at n (back p) g) (n * n) ≡ placed n p g
unfolding module_at
placed-by-back n p g before room =
    ext_get_or 0 _ _ (len ∙ sym (length-placed n p g)) (λ k h. same k (subst (λ m. k < m) len h))
  where
    from : ℕ → ℕ
    from k = get_or g (place_in n (back p) k) 0

    len : length (writes before (λ k. k) from (n * n)) ≡ n * n
    len = length-writes before (λ k. k) from (n * n) ∙ room

    same : (k : ℕ) → k < n * n → get_or (writes before (λ k. k) from (n * n)) k 0 ≡ get_or (placed n p g) k 0
    same k h =
        writes-same 0 before (λ k. k) from (n * n) (λ i j a b e. e) (λ i l. subst (λ m. i < m) (sym room) l) k h
        ∙ sym (placed_at n p g (place_in n (back p) k) (place_in-lt n (back p) k h))
        ∙ ap (λ x. get_or (placed n p g) x 0) (place_in-onto n p k h)
