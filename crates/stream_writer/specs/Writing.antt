-- What the encoder's loops do: bits go into words and words into a buffer, as far as it reaches. Nothing is said of where bits come from.
-- Assumes nothing.
use Rattle.std.specs.Prelude.{◌≡◌, refl, List, [], ◌∷◌, ◌++◌, ℕ, suc, ◌+◌, ◌-◌, ◌/◌, ◌%◌, ◌^◌, ◌≤◌, ◌<◌, length, set}
use Rattle.std.proofs.Math.Path.{sym, subst}
use Rattle.std.proofs.Common.{ap, ap₂, ◌∙◌, append_assoc, append-nil, add-zero, length-append, shr-shr}
use native.Mathlib.Omega.{arith}
use Rattle.std.proofs.lemmas.List.Edits.{sets}
use Rattle.stream.specs.declared.stuffing.Put.{Put}
use Rattle.stream.specs.declared.stuffing.Put.TheVariants.{Part, Word}
use Rattle.stream.specs.Bits.{bits, bits-snoc}
use Rattle.stream.specs.Stuffing.{put, after, fill, finish, stuff_from, stuff}
use Rattle.stream.specs.PutLaws.{State, Fits, put-fits, part-state, part-grows, start}
use Rattle.stream.specs.StuffingLaws.{fill_none, fill_more}
use Rattle.stream_writer.specs.declared.stuffing.Out.{Out}

-- the bits t are written: from n words and k bits that say v, with the buffer a, to n', k', v' and a'
pub record Coded (h : ℕ) (t : List ℕ) (n k v : ℕ) (a : List ℕ) (n' k' v' : ℕ) (a' : List ℕ) : Type 0 where
  pub state : State h k' v'
  pub words : List ℕ
  pub count : n' ≡ n + length words
  pub stored : a' ≡ sets a n words
  pub says : (rest : List ℕ) → words ++ stuff_from h k' v' rest ≡ stuff_from h k v (t ++ rest)

-- the writer can go on from o, in words of h + 1 bits: `most` words at most are counted
abbrev pub Ready : ℕ → ℕ → Out → Type 0
Ready h most o = (1 ≤ h) × (h ≤ 11) × (o.count ≤ most) × State h o.bits o.value

-- the bits t are written, from o with the buffer a to o' with a'
abbrev pub Wrote : ℕ → List ℕ → Out → List ℕ → Out → List ℕ → Type 0
Wrote h t o a o' a' = Coded h t o.count o.bits o.value a o'.count o'.bits o'.value a'

sets-append : (ws us a : List ℕ) (n : ℕ) → sets (sets a n ws) (n + length ws) us ≡ sets a n (ws ++ us)
sets-append [] us a n = ap (λ k. sets a k us) (add-zero n)
sets-append (w ∷ ws) us a n =
    ap (λ k. sets (sets (set a n w) (suc n) ws) k us) (let e : n + suc (length ws) ≡ suc n + length ws = omega arith in e)
    ∙ sets-append ws us (set a n w) (suc n)

pub coded_none : {h n k v : ℕ} {a : List ℕ} → State h k v → Coded h [] n k v a n k v a
coded_none {n} s = record { state = s; words = []; count = omega arith; stored = refl; says = λ rest. refl }

-- one stretch of bits after another
pub coded-then : {h n k v n' k' v' n'' k'' v'' : ℕ} {t t' a a' a'' : List ℕ}
    → Coded h t n k v a n' k' v' a' → Coded h t' n' k' v' a' n'' k'' v'' a'' → Coded h (t ++ t') n k v a n'' k'' v'' a''
coded-then {h} {n} {k} {v} {t} {t'} {a} c d =
    record {
      state = d.state;
      words = c.words ++ d.words;
      count = rw length-append (omega (arith, c.count, d.count));
      stored = d.stored ∙ ap₂ (λ a n. sets a n d.words) c.stored c.count ∙ sets-append c.words d.words a n;
      says = λ rest. append_assoc c.words d.words _ ∙ ap (λ l. c.words ++ l) (d.says rest) ∙ c.says (t' ++ rest)
          ∙ ap (stuff_from h k v) (sym (append_assoc t t' rest));
    }

-- one bit, which leaves the word open or makes it whole
module _ {h n k v b : ℕ} {a : List ℕ} (l : 1 ≤ h) (s : State h k v) (m : b < 2) where
  pub coded-part : {k' v' : ℕ} → put h k v b ≡ Part k' v' → Coded h (b ∷ []) n k v a n k' v' a
  unfolding stuff_from
  coded-part e =
      record {
        state = part-state l s m e;
        words = [];
        count = omega arith;
        stored = refl;
        says = λ rest. sym (ap (λ p. after p (λ k v. stuff_from h k v rest)) e);
      }

  pub coded-word : {x : ℕ} {a' : List ℕ} → put h k v b ≡ Word x → a' ≡ set a n x → Coded h (b ∷ []) n k v a (n + 1) 0 0 a'
  unfolding stuff_from
  coded-word {x} e f =
      record {
        state = start h l;
        words = x ∷ [];
        count = refl;
        stored = f;
        says = λ rest. sym (ap (λ p. after p (λ k v. stuff_from h k v rest)) e);
      }

-- the w bits of c go out from the highest: all but the lowest i are written
module _ (h w c : ℕ) (n₀ k₀ v₀ : ℕ) (a₀ : List ℕ) where
  abbrev pub Sent : ℕ → ℕ → ℕ → ℕ → List ℕ → Type 0
  Sent i n k v a = Coded h (bits (w - i) (c / 2 ^ i)) n₀ k₀ v₀ a₀ n k v a

  pub sent-none : State h k₀ v₀ → Sent w n₀ k₀ v₀ a₀
  unfolding bits
  sent-none s =
      subst (λ t. Coded h t n₀ k₀ v₀ a₀ n₀ k₀ v₀ a₀) (ap (λ m. bits m (c / 2 ^ w)) (let e : 0 ≡ w - w = omega arith in e)) (coded_none s)

  pub sent-more : (i : ℕ) {n k v n' k' v' : ℕ} {a a' : List ℕ} → 0 < i → i ≤ w → Sent i n k v a
      → Coded h ((c / 2 ^ (i - 1) % 2) ∷ []) n k v a n' k' v' a' → Sent (i - 1) n' k' v' a'
  sent-more i {n'} {k'} {v'} {a'} g f d e =
      subst (λ t. Coded h t n₀ k₀ v₀ a₀ n' k' v' a')
      (sym (bits-snoc (w - i) (c / 2 ^ i) (c / 2 ^ (i - 1) % 2) (omega arith))
      ∙ ap₂ bits (let e : suc (w - i) ≡ w - (i - 1) = omega arith in e)
      (omega (arith, ap (λ x. c / 2 ^ x) (let e : i ≡ i - 1 + 1 = omega arith in e) ∙ sym (shr-shr c (i - 1) 1))))
      (coded-then d e)

  pub sent-all : {n k v : ℕ} {a : List ℕ} → Sent 0 n k v a → Coded h (bits w c) n₀ k₀ v₀ a₀ n k v a
  sent-all {n} {k} {v} {a} d =
      subst (λ t. Coded h t n₀ k₀ v₀ a₀ n k v a)
      (ap₂ bits (let e : w - 0 ≡ w = omega arith in e) (let e : c / 2 ^ 0 ≡ c = omega arith in e)) d

-- one 1 more into the last word
finish-put : (h k v : ℕ) → 1 ≤ h → State h k v → 1 ≤ k → finish h k v ≡ after (put h k v 1) (λ k v. finish h k v)
unfolding finish
finish-put h k v l s g =
    ap (λ n. fill h n k v) (let e : suc h - k ≡ suc (h - k) = omega (arith, s.few) in e)
    ∙ fill_more h l (h - k) k v g
    ∙ go (put h k v 1) (put-fits h k v 1 l s (omega arith))
  where
    go : (p : Put) → Fits h (bits k v ++ 1 ∷ []) p → after p (λ k' v'. fill h (h - k) k' v') ≡ after p (λ k' v'. fill h (suc h - k') k' v')
    go (Part k' v') f =
        let longer = part-grows k v 1 k' v' f.1 in
        ap (λ n. fill h n k' v') (let e : h - k ≡ suc h - k' = omega arith in e)
    go (Word x) f = ap (λ l. x ∷ l) (fill_none h l (h - k) 0 ∙ sym (fill_none h l (suc h - 0) 0))

-- the last word is being filled: from n words and k bits that say v, with the buffer a, to n', k', v' and a'
pub record Ending (h n k v : ℕ) (a : List ℕ) (n' k' v' : ℕ) (a' : List ℕ) : Type 0 where
  pub state : State h k' v'
  pub words : List ℕ
  pub count : n' ≡ n + length words
  pub stored : a' ≡ sets a n words
  pub says : words ++ finish h k' v' ≡ finish h k v

pub ending-none : {h n k v : ℕ} {a : List ℕ} → State h k v → Ending h n k v a n k v a
ending-none s = record { state = s; words = []; count = omega arith; stored = refl; says = refl }

module _ {h n₀ k₀ v₀ n k v : ℕ} {a₀ a : List ℕ} (l : 1 ≤ h) (d : Ending h n₀ k₀ v₀ a₀ n k v a) (some : 1 ≤ k) where
  pub ending-part : {k' v' : ℕ} → put h k v 1 ≡ Part k' v' → Ending h n₀ k₀ v₀ a₀ n k' v' a
  ending-part e =
      record {
        state = part-state l d.state (omega arith) e;
        words = d.words;
        count = d.count;
        stored = d.stored;
        says = sym (ap (λ l. d.words ++ l) (finish-put h k v l d.state some ∙ ap (λ p. after p (λ k v. finish h k v)) e)) ∙ d.says;
      }

  pub ending-word : {x : ℕ} {a' : List ℕ} → put h k v 1 ≡ Word x → a' ≡ set a n x → Ending h n₀ k₀ v₀ a₀ (n + 1) 0 0 a'
  ending-word {x} e f =
      record {
        state = start h l;
        words = d.words ++ x ∷ [];
        count = rw length-append (omega (arith, d.count));
        stored = f ∙ ap₂ (λ a n. set a n x) d.stored d.count ∙ sets-append d.words (x ∷ []) a₀ n₀;
        says = append_assoc d.words (x ∷ []) (finish h 0 0)
            ∙ sym (ap (λ l. d.words ++ l) (finish-put h k v l d.state some ∙ ap (λ p. after p (λ k v. finish h k v)) e)) ∙ d.says;
      }

-- all bits are written and the last word is full: the buffer holds the stuffed words, as far as it reaches
pub all_words : {h n k v n' v' : ℕ} {t a a' a'' : List ℕ} → 1 ≤ h → Coded h t 0 0 0 a n k v a' → Ending h n k v a' n' 0 v' a''
    → (n' ≡ length (stuff (h + 1) t)) × (a'' ≡ sets a 0 (stuff (h + 1) t))
unfolding stuff stuff_from finish
all_words {h} {n} {k} {v} {v' = v'} {t} {a} l c d = (
  d.count ∙ ap (λ n. n + length d.words) c.count ∙ omega (arith, ap length whole, length-append c.words d.words),
  d.stored ∙ ap₂ (λ a n. sets a n d.words) c.stored c.count ∙ sets-append c.words d.words a 0 ∙ ap (sets a 0) whole,
)
  where
    whole : c.words ++ d.words ≡ stuff (h + 1) t
    whole =
        ap (λ l. c.words ++ l) (sym (append-nil d.words) ∙ ap (λ l. d.words ++ l) (sym (fill_none h l (suc h - 0) v')) ∙ d.says)
        ∙ c.says []
        ∙ ap₂ (λ h t. stuff_from h 0 0 t) (let e : h ≡ h + 1 - 1 = omega arith in e) (append-nil t)
