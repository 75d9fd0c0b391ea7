-- Stuffing and unstuffing: unstuffed words are the stream and then fewer than B 1s, and no word is all 0s or all 1s.
-- Assumes nothing.
use Rattle.std.specs.Prelude.{◌≡◌, Bool, true, false, length, get_or}
use Rattle.std.proofs.Math.Path.{refl, ap, ap₂, subst}
use Rattle.std.proofs.Common.{sym, ◌∙◌, le_of_suc-le-suc, not-suc-le-zero, length-append, ne_eqb}
use Rattle.std.proofs.Math.Bool.{cond}
use mathlib.Core.List.{List, [], ◌∷◌, ◌++◌, append_assoc, append-nil}
use Prim.Native.Nat.{ℕ, zero, suc, ◌+◌, ◌*◌, ◌-◌, ◌/◌, ◌≤◌, ◌<◌}
use native.Mathlib.Omega.{arith}
use Rattle.std.proofs.Math.ListN.{replicate}
use Rattle.std.proofs.lemmas.List.{length-replicate}
use Rattle.stream.specs.declared.stuffing.Put.{Put}
use Rattle.stream.specs.declared.stuffing.Put.TheVariants.{Part, Word}
use Rattle.stream.specs.Below.{Bits, below-append}
use Rattle.stream.specs.Bits.{bits, length-bits, bits-are-bits}
use Rattle.stream.specs.Stuffing.{flat, put, after, fill, finish, stuff_from, stuff, word_bits, unstuff_from, unstuff}
use Rattle.stream.specs.PutLaws.{State, Codeword, Codewords, Fits, put-fits, part-grows, start}

-- the words ws stand for the bits t and then fewer than B 1s
pub record Stuffed (h : ℕ) (ws t : List ℕ) : Type 0 where
  pub ones : ℕ
  pub few : ones ≤ h
  pub same : unstuff_from h ws ≡ t ++ replicate ones 1
  pub good : Codewords (suc h) ws

module _ (h : ℕ) (l : 1 ≤ h) where
  pub fill_none : (n v : ℕ) → fill h n 0 v ≡ []
  unfolding fill
  fill_none zero v = refl
  fill_none (suc n) v = refl

  pub fill_more : (n k v : ℕ) → 1 ≤ k → fill h (suc n) k v ≡ after (put h k v 1) (λ k v. fill h n k v)
  unfolding fill
  fill_more n k v g = ap (λ t. cond t [] (after (put h k v 1) (λ k v. fill h n k v))) (ne_eqb k 0 (omega arith))

  -- n 1s make the word whole
  fill-stuffs : (n k v : ℕ) → State h k v → k + n ≡ suc h → 1 ≤ k → (r : Stuffed h (fill h n k v) (bits k v)) × (r.ones ≤ n)
  unfolding unstuff_from
  fill-stuffs zero k v s e g = absurd (omega (arith, s.few))
  fill-stuffs (suc n) k v s e g =
      subst (λ ws. (r : Stuffed h ws (bits k v)) × (r.ones ≤ suc n)) (sym (fill_more n k v g))
      (go (put h k v 1) (put-fits h k v 1 l s (omega arith)) (fill-stuffs n))
    where
      go : (p : Put) → Fits h (bits k v ++ 1 ∷ []) p
          → ((k v : ℕ) → State h k v → k + n ≡ suc h → 1 ≤ k → (r : Stuffed h (fill h n k v) (bits k v)) × (r.ones ≤ n))
          → (r : Stuffed h (after p (λ k v. fill h n k v)) (bits k v)) × (r.ones ≤ suc n)
      go (Part k' v') f ih =
          let longer = part-grows k v 1 k' v' f.1 in
          let r = ih k' v' f.0 (omega arith) (omega arith) in (
            record {
              ones = suc r.0.ones;
              few = omega arith;
              same = r.0.same ∙ ap (λ t. t ++ replicate r.0.ones 1) f.1 ∙ simp append_assoc;
              good = r.0.good;
            },
            omega arith,
          )
      go (Word w) f ih = (
        record {
          ones = 1;
          few = l;
          same = ap (λ ws. word_bits h w ++ unstuff_from h ws) (fill_none n 0) ∙ append-nil (word_bits h w) ∙ f.1;
          good = (f.0, subst (Codewords (suc h)) (sym (fill_none n 0)) tt);
        },
        omega arith,
      )

  finish-stuffs : (k v : ℕ) → State h k v → Stuffed h (finish h k v) (bits k v)
  unfolding finish unstuff_from bits
  finish-stuffs zero v s =
      record {
        ones = 0;
        few = omega arith;
        same = ap (unstuff_from h) (fill_none (suc h - 0) v);
        good = subst (Codewords (suc h)) (sym (fill_none (suc h - 0) v)) tt;
      }
  finish-stuffs (suc k) v s = (fill-stuffs (suc h - suc k) (suc k) v s (omega (arith, s.few)) (omega arith)).0

  pub stuff-from : (t : List ℕ) → Bits t → (k v : ℕ) → State h k v → Stuffed h (stuff_from h k v t) (bits k v ++ t)
  unfolding stuff_from unstuff_from bits
  stuff-from [] x k v s = subst (Stuffed h (finish h k v)) (sym (append-nil (bits k v))) (finish-stuffs k v s)
  stuff-from (b ∷ t) x k v s = go (put h k v b) (put-fits h k v b l s x.0) (stuff-from t x.1)
    where
      go : (p : Put) → Fits h (bits k v ++ b ∷ []) p → ((k v : ℕ) → State h k v → Stuffed h (stuff_from h k v t) (bits k v ++ t))
          → Stuffed h (after p (λ k v. stuff_from h k v t)) (bits k v ++ b ∷ t)
      go (Part k' v') f ih =
          subst (Stuffed h (stuff_from h k' v' t)) (ap (λ u. u ++ t) f.1 ∙ append_assoc (bits k v) (b ∷ []) t) (ih k' v' f.0)
      go (Word w) f ih =
          let r : Stuffed h (stuff_from h 0 0 t) t = ih 0 0 (start h l) in
          record {
            ones = r.ones;
            few = r.few;
            same = ap₂ ◌++◌ f.1 r.same ∙ simp append_assoc;
            good = (f.0, r.good);
          }

stuffed : (B : ℕ) → 2 ≤ B → (t : List ℕ) → Bits t → Stuffed (B - 1) (stuff B t) t
unfolding stuff bits
stuffed B two t x = stuff-from (B - 1) (omega arith) t x 0 0 (start (B - 1) (omega arith))

-- unstuffing what was stuffed gives the stream and then fewer than B 1s
pub unstuff-stuff : (B : ℕ) → 2 ≤ B → (t : List ℕ) → Bits t → (n : ℕ) × (n < B) × (unstuff B (stuff B t) ≡ t ++ replicate n 1)
unfolding unstuff
unstuff-stuff B two t x = let r = stuffed B two t x in (r.ones, omega arith, r.same)

-- no stuffed word is all 0s or all 1s, and each is below 2^B
pub stuffed-codewords : (B : ℕ) → 2 ≤ B → (t : List ℕ) → Bits t → Codewords B (stuff B t)
stuffed-codewords B two t x = subst (λ B'. Codewords B' (stuff B t)) (let e : suc (B - 1) ≡ B = omega arith in e) (stuffed B two t x).good

pub codeword-at : (B : ℕ) (ws : List ℕ) → Codewords B ws → (i : ℕ) → i < length ws → Codeword B (get_or ws i 0)
codeword-at B [] c i h = absurd (not-suc-le-zero h)
codeword-at B (w ∷ ws) c zero h = c.0
codeword-at B (w ∷ ws) c (suc i) h = codeword-at B ws c.1 i (le_of_suc-le-suc h)

word-length : (h w : ℕ) → (h ≤ length (word_bits h w)) × (length (word_bits h w) ≤ suc h)
unfolding word_bits
word-length h w = go (flat h (w / 2))
  where
    go : (t : Bool) → (h ≤ length (cond t (bits h (w / 2)) (bits (suc h) w))) × (length (cond t (bits h (w / 2)) (bits (suc h) w)) ≤ suc h)
    go true = omega (arith, length-bits h (w / 2))
    go false = omega (arith, length-bits (suc h) w)

-- unstuffed words are 0s and 1s
word-is-bits : (h w : ℕ) → Bits (word_bits h w)
unfolding word_bits
word-is-bits h w = go (flat h (w / 2))
  where
    go : (t : Bool) → Bits (cond t (bits h (w / 2)) (bits (suc h) w))
    go true = bits-are-bits h (w / 2)
    go false = bits-are-bits (suc h) w

pub unstuff-is-bits : (h : ℕ) (words : List ℕ) → Bits (unstuff_from h words)
unfolding unstuff_from
unstuff-is-bits h [] = tt
unstuff-is-bits h (w ∷ ws) = below-append 2 (word_bits h w) (unstuff_from h ws) (word-is-bits h w) (unstuff-is-bits h ws)

-- D words hold from D(B − 1) to DB stream bits
pub unstuff-length : (h : ℕ) (ws : List ℕ) → (length ws * h ≤ length (unstuff_from h ws)) × (length (unstuff_from h ws) ≤ length ws * suc h)
unfolding unstuff_from
unstuff-length h [] = omega arith
unstuff-length h (w ∷ ws) = simp length-append (omega (arith, word-length h w, unstuff-length h ws))

-- a stream of n bits takes from n/B to (n + B − 1)/(B − 1) words
pub words-length : (B : ℕ) → 2 ≤ B → (t : List ℕ) → Bits t
    → (length t ≤ length (stuff B t) * B) × (length (stuff B t) * (B - 1) < length t + B)
words-length B two t x = go (B - 1) (omega arith) (stuff B t) (stuffed B two t x)
  where
    go : (h : ℕ) → suc h ≡ B → (ws : List ℕ) → Stuffed h ws t → (length t ≤ length ws * B) × (length ws * h < length t + B)
    go h e ws r = rw (← e) (omega (arith, unstuff-length h ws, simp (length-append, length-replicate) at (ap length r.same), r.few))
