-- One more bit into a word: what the word so far stands for, and why no whole word is all 0s or all 1s.
-- Assumes nothing.
use Rattle.std.specs.Prelude.{◌≡◌, refl, ◌≢◌, Bool, true, false, cond, ◌&&◌, ◌||◌, List, [], ◌∷◌, ◌++◌, ℕ, suc, ◌+◌, ◌*◌, ◌-◌, ◌/◌, ◌^◌, ◌≤◌, ◌<◌, eqb, length}
use Rattle.std.proofs.Common.{sym, ap, ap₂, ◌∙◌, subst, true≢false, arith, add-one, length-append, pow_mono, eqb-true, ne_eqb}
use Rattle.std.proofs.lemmas.Bool.{eqb-false}
use Rattle.list_laws.specs.Range.{one}
use Rattle.stream.specs.declared.stuffing.Put.{Put}
use Rattle.stream.specs.declared.stuffing.Put.TheVariants.{Part, Word}
use Rattle.stream.specs.Bits.{bits, length-bits, bits-snoc}
use Rattle.stream.specs.Stuffing.{flat, put, word_bits}

-- a word so far: k bits that say v, and no stuffed bit is due
pub record State (h k v : ℕ) : Type 0 where
  pub few : k ≤ h
  pub fits : v < 2 ^ k
  pub uneven : k ≡ h → flat h v ≡ false

-- a word of B bits that is neither all 0s nor all 1s
pub record Codeword (B w : ℕ) : Type 0 where
  pub fits : w < 2 ^ B
  pub uneven : flat B w ≡ false

abbrev pub Codewords : ℕ → List ℕ → Type 0
Codewords B [] = Unit {0}
Codewords B (w ∷ ws) = Codeword B w × Codewords B ws

pub not-flat : (n v : ℕ) → v ≢ 0 → v ≢ 2 ^ n - 1 → flat n v ≡ false
unfolding flat
not-flat n v p q = ap₂ (λ s t. s || t) (ne_eqb v 0 p) (ne_eqb v (2 ^ n - 1) q)

-- a part of a word, or a word, that stands for the bits t
abbrev pub Fits : ℕ → List ℕ → Put → Type 0
Fits h t (Part k v) = State h k v × (bits k v ≡ t)
Fits h t (Word w) = Codeword (suc h) w × (word_bits h w ≡ t)

-- what flat says, for omega
pub flat-no : (n v : ℕ) → flat n v ≡ false → (v ≢ 0) × (v ≢ 2 ^ n - 1)
unfolding flat
flat-no n v e = go (eqb v 0) refl (eqb v (2 ^ n - 1)) refl e
  where
    go : (s : Bool) → eqb v 0 ≡ s → (t : Bool) → eqb v (2 ^ n - 1) ≡ t → (s || t) ≡ false → (v ≢ 0) × (v ≢ 2 ^ n - 1)
    go true p t q x = absurd (true≢false x)
    go false p true q x = absurd (true≢false x)
    go false p false q x = (eqb-false v 0 p, eqb-false v (2 ^ n - 1) q)

-- `put` by its tests
pub put-by : (h k v b : ℕ) (s t : Bool) → eqb k h ≡ s → (eqb (k + 1) h && flat h (v * 2 + b)) ≡ t
    → put h k v b ≡ (let w = v * 2 + b in cond s (Word w) (cond t (Word (w * 2 + one (eqb w 0))) (Part (k + 1) w)))
unfolding put
put-by h k v b s t e f =
    let w = v * 2 + b in ap₂ (λ s t. cond s (Word w) (cond t (Word (w * 2 + one (eqb w 0))) (Part (k + 1) w))) e f

-- a word by its first h bits, which say v
word-by : (h w v : ℕ) (t : Bool) → w / 2 ≡ v → flat h v ≡ t → word_bits h w ≡ cond t (bits h v) (bits (suc h) w)
unfolding word_bits
word-by h w v t e f = ap (λ x. cond (flat h x) (bits h x) (bits (suc h) w)) e ∙ ap (λ t. cond t (bits h v) (bits (suc h) w)) f

-- h equal bits and their opposite
opposite-fits : (h v : ℕ) → 1 ≤ h → v < 2 ^ h → flat h v ≡ true → Fits h (bits h v) (Word (v * 2 + one (eqb v 0)))
opposite-fits h v l m f = go (eqb v 0) refl
  where
    two : 2 ≤ 2 ^ h
    two = pow_mono {i = 1} l

    -- w is neither all 0s nor all 1s
    fits : (w : ℕ) → w / 2 ≡ v → w ≢ 0 → w ≢ 2 ^ suc h - 1 → Fits h (bits h v) (Word w)
    fits w e p q = (record { fits = omega arith; uneven = not-flat (suc h) w p q }, word-by h w v true e f)

    go : (t : Bool) → eqb v 0 ≡ t → Fits h (bits h v) (Word (v * 2 + one t))
    go true e = let z = eqb-true v 0 e in fits (v * 2 + 1) (omega arith) (omega arith) (omega (arith, two))
    go false e = let z = eqb-false v 0 e in fits (v * 2 + 0) (omega arith) (omega arith) (omega arith)

pub put-fits : (h k v b : ℕ) → 1 ≤ h → State h k v → b < 2 → Fits h (bits k v ++ b ∷ []) (put h k v b)
unfolding put
put-fits h k v b l s m = go (eqb k h) refl
  where
    w : ℕ
    w = v * 2 + b

    next : Bool → Put
    next t = cond t (Word (w * 2 + one (eqb w 0))) (Part (k + 1) w)

    more : bits (k + 1) w ≡ bits k v ++ b ∷ []
    more = ap (λ n. bits n w) (add-one k) ∙ bits-snoc k v b m

    fits : w < 2 ^ (k + 1)
    fits = rw add-one (omega (arith, s.fits))

    short : k ≢ h → (e t : Bool) → eqb (k + 1) h ≡ e → flat h w ≡ t → Fits h (bits k v ++ b ∷ []) (next (e && t))
    short n true true p q = let e = eqb-true (k + 1) h p in
        subst (λ t. Fits h t (Word (w * 2 + one (eqb w 0)))) (ap (λ n. bits n w) (sym e) ∙ more) (opposite-fits h w l (rw e at fits) q)
    short n true false p q = (record { few = omega (arith, s.few); fits = fits; uneven = λ e. q }, more)
    short n false t p q = (record { few = omega (arith, s.few); fits = fits; uneven = λ e. absurd (eqb-false (k + 1) h p e) }, more)

    go : (t : Bool) → eqb k h ≡ t → Fits h (bits k v ++ b ∷ []) (cond t (Word w) (next (eqb (k + 1) h && flat h w)))
    go true p =
        let e = eqb-true k h p in
        let odd = flat-no h v (s.uneven e) in
        let lt : v < 2 ^ h = rw e at s.fits in (
          record { fits = omega arith; uneven = not-flat (suc h) w (omega arith) (omega arith) },
          word-by h w v false (omega arith) (s.uneven e) ∙ bits-snoc h v b m ∙ ap (λ n. bits n v ++ b ∷ []) (sym e),
        )
    go false p = short (eqb-false k h p) (eqb (k + 1) h) (flat h w) refl refl

pub part-state : {h k v b k' v' : ℕ} → 1 ≤ h → State h k v → b < 2 → put h k v b ≡ Part k' v' → State h k' v'
part-state {h} {k} {v} {b} l s m e = let f = subst (Fits h (bits k v ++ b ∷ [])) e (put-fits h k v b l s m) in f.0

-- a whole word is below 2^B
pub word_below : (h k v b x : ℕ) → 1 ≤ h → State h k v → b < 2 → put h k v b ≡ Word x → x < 2 ^ suc h
word_below h k v b x l s m e = let f = subst (Fits h (bits k v ++ b ∷ [])) e (put-fits h k v b l s m) in f.0.fits

pub part-grows : (k v b k' v' : ℕ) → bits k' v' ≡ bits k v ++ b ∷ [] → k' ≡ k + 1
part-grows k v b k' v' e = sym (length-bits k' v') ∙ ap length e ∙ length-append (bits k v) (b ∷ []) ∙ ap (λ n. n + 1) (length-bits k v)

pub start : (h : ℕ) → 1 ≤ h → State h 0 0
start h l = record { few = omega arith; fits = omega arith; uneven = λ e. absurd (omega arith) }
