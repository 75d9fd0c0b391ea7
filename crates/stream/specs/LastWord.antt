-- The last word by document 01's letter ("Stuffing"): "the last word is filled with 1s; if it would be all 1s its last bit is 0".
-- Assumes nothing.
use Rattle.std.specs.Prelude.{◌≡◌, refl, ◌≢◌, Bool, true, false, cond, ◌&&◌, [], ◌∷◌, ℕ, zero, suc, ◌+◌, ◌*◌, ◌-◌, ◌^◌, ◌≤◌, eqb}
use Rattle.std.proofs.Common.{sym, ap, ap₂, ◌∙◌, ⊎_elim, add-mul, mul_assoc, arith, eqb→eq, pow_pos, eqb-true, eq-eqb, ne_eqb}
use Rattle.std.proofs.Math.Nat.{pow-succ'}
use Rattle.std.proofs.lemmas.Bool.{eqb-false}
use Rattle.list_laws.specs.Range.{one}
use Rattle.list_laws.specs.Tests.{both-parts, either, holds}
use Rattle.stream.specs.Stuffing.{flat, put, after, fill, finish}
use Rattle.stream.specs.PutLaws.{State, flat-no, put-by, part-state}
use Rattle.stream.specs.StuffingLaws.{fill_none, fill_more}

-- n 1s after the bits that say v
unfoldable pub padded : ℕ → ℕ → ℕ
padded n v = v * 2 ^ n + (2 ^ n - 1)

-- "if it would be all 1s its last bit is 0"
unfoldable pub last_word : ℕ → ℕ → ℕ
last_word B w = cond (eqb w (2 ^ B - 1)) (w - 1) w

padded-more : (n v : ℕ) → padded n (v * 2 + 1) ≡ padded (suc n) v
unfolding padded
padded-more n v = omega (arith, add-mul (v * 2) 1 (2 ^ n), mul_assoc v 2 (2 ^ n), ap (λ p. v * p) (pow-succ' 2 n), pow_pos n)

not-all-ones : (B w : ℕ) → w ≢ 2 ^ B - 1 → last_word B w ≡ w
unfolding last_word
not-all-ones B w n = ap (λ t. cond t (w - 1) w) (ne_eqb w (2 ^ B - 1) n)

all_ones_lem : (B w : ℕ) → w ≡ 2 ^ B - 1 → last_word B w ≡ w - 1
unfolding last_word
all_ones_lem B w e = ap (λ t. cond t (w - 1) w) (eq-eqb w (2 ^ B - 1) e)

fill-pads : (h n k v : ℕ) → 1 ≤ h → State h k v → 1 ≤ k → k + n ≡ suc h → fill h n k v ≡ last_word (suc h) (padded n v) ∷ []
unfolding padded flat
fill-pads h zero k v l s g e = absurd (omega (arith, s.few))
fill-pads h (suc n) k v l s g e = fill_more h l n k v g ∙ go (eqb k h) refl (eqb (k + 1) h && flat h w) refl (fill-pads h n)
  where
    w : ℕ
    w = v * 2 + 1

    on : (x : ℕ) → x ≡ last_word (suc h) (padded n w) → x ∷ fill h n 0 0 ≡ last_word (suc h) (padded (suc n) v) ∷ []
    on x q = ap₂ (λ x ws. x ∷ ws) (q ∙ ap (last_word (suc h)) (padded-more n v)) (fill_none h l n 0)

    go : (a : Bool) → eqb k h ≡ a → (t : Bool) → (eqb (k + 1) h && flat h w) ≡ t
        → ((k v : ℕ) → 1 ≤ h → State h k v → 1 ≤ k → k + n ≡ suc h → fill h n k v ≡ last_word (suc h) (padded n v) ∷ [])
        → after (put h k v 1) (λ k v. fill h n k v) ≡ last_word (suc h) (padded (suc n) v) ∷ []
    go true p t q ih =
        let same = eqb-true k h p in
        let none : n ≡ 0 = omega arith in
        let plain : padded n w ≡ w = ap (λ n. padded n w) none ∙ omega arith in
        let odd = flat-no h v (s.uneven same) in
        ap (λ p. after p (λ k v. fill h n k v)) (put-by h k v 1 true t p q)
        ∙ on w (sym (ap (last_word (suc h)) plain ∙ not-all-ones (suc h) w (omega arith)))
    go false p true q ih =
        let parts = both-parts (eqb (k + 1) h) (flat h w) (holds q) in
        let full = eqb→eq (k + 1) h parts.0 in
        let last : n ≡ 1 = omega arith in
        let equal = either (eqb w 0) (eqb w (2 ^ h - 1)) parts.1 in
        let high : w ≡ 2 ^ h - 1 = ⊎_elim (λ z. absurd (omega (arith, eqb→eq w 0 z))) (eqb→eq w (2 ^ h - 1)) equal in
        let ones : padded n w ≡ 2 ^ suc h - 1 = ap (λ n. padded n w) last ∙ omega (arith, pow_pos h) in
        ap (λ p. after p (λ k v. fill h n k v)) (put-by h k v 1 false true p q)
        ∙ on (w * 2 + one (eqb w 0))
        (ap (λ t. w * 2 + one t) (ne_eqb w 0 (omega arith)) ∙ omega (arith, pow_pos h, all_ones_lem (suc h) (padded n w) ones))
    go false p false q ih =
        let some = eqb-false k h p in
        let open-word = put-by h k v 1 false false p q in
        ap (λ p. after p (λ k v. fill h n k v)) open-word
        ∙ ih (k + 1) w l (part-state l s (omega arith) open-word) (omega arith) (omega arith)
        ∙ ap (λ x. last_word (suc h) x ∷ []) (padded-more n v)

pub last_word_lem : (h k v : ℕ) → 1 ≤ h → State h k v → 1 ≤ k → finish h k v ≡ last_word (suc h) (padded (suc h - k) v) ∷ []
unfolding finish
last_word_lem h k v l s g = fill-pads h (suc h - k) k v l s g (omega (arith, s.few))
