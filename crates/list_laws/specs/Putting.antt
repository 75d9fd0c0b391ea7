-- Text put into a buffer, part after part.
-- Assumes nothing.
use Rattle.std.specs.Prelude.{◌≡◌, refl, List, [], ◌∷◌, ◌++◌, ℕ, suc, ◌+◌, ◌-◌, ◌≤◌, ◌<◌, length, get_or, take, drop, set}
use Rattle.std.proofs.Common.{sym, ap, ap₂, ◌∙◌, append_assoc, add-zero, zero-add, add-suc, suc-add, add-one, arith, length-append, length-drop, drop_of_length-le, take_all, drop-cons, drop-drop}
use Rattle.std.proofs.lemmas.List.Edits.{sets, sets-eq}
use Rattle.std.proofs.Math.Seq.{length-sets}
use Rattle.std.proofs.lemmas.List.{set_comm}
use borrow.Rule.Slice.PartMut.{put_mid, mid_of}
use Rattle.list_laws.specs.Parts.{put-tail}

-- a buffer with a text at its front, the rest as it was
abbrev pub at_front : List ℕ → List ℕ → List ℕ
at_front text buffer = text ++ drop (length text) buffer

sets-append : (a b l : List ℕ) (n : ℕ) → sets (sets l n a) (n + length a) b ≡ sets l n (a ++ b)
sets-append [] b l n = ap (λ k. sets l k b) (add-zero n)
sets-append (x ∷ a) b l n =
    ap (λ k. sets (sets (set l n x) (suc n) a) k b) (add-suc n (length a) ∙ sym (suc-add n (length a)))
    ∙ sets-append a b (set l n x) (suc n)

-- from the back: the last byte first, then the rest
pub sets_last : (a l : List ℕ) (n x : ℕ) → sets l n (a ++ x ∷ []) ≡ sets (set l (n + length a) x) n a
sets_last [] l n x = ap (λ k. set l k x) (sym (add-zero n))
sets_last (y ∷ a) l n x =
    sets_last a (set l n y) (suc n) x
    ∙ ap (λ k. sets (set (set l n y) k x) (suc n) a) (suc-add n (length a) ∙ sym (add-suc n (length a)))
    ∙ ap (λ k. sets k (suc n) a) (set_comm l n (n + suc (length a)) y x (λ e. absurd (omega (arith, add-suc n (length a)))))

-- from the front: the byte at i, then the rest; and nothing is left at the end
pub sets-next : (l word : List ℕ) (from i : ℕ) → i < length word
    → sets l (from + i) (drop i word) ≡ sets (set l (from + i) (get_or word i 0)) (from + (i + 1)) (drop (i + 1) word)
sets-next l word from i h =
    ap (sets l (from + i)) (drop-cons word i 0 h)
    ∙ ap₂ (λ k m. sets (set l (from + i) (get_or word i 0)) k (drop m word)) (let z : suc (from + i) ≡ from + (i + 1) = omega arith in z)
    (sym (add-one i))

pub sets-done : (l word : List ℕ) (k i : ℕ) → length word ≤ i → l ≡ sets l k (drop i word)
sets-done l word k i h = ap (sets l k) (sym (drop_of_length-le word h))

-- a text was stored from place `at` on: what the line is then, and the place after the text
pub record Put (text before : List ℕ) (at : ℕ) (after : List ℕ) (next : ℕ) : Type 0 where
  pub stored : after ≡ sets before at text
  pub end : next ≡ at + length text

pub put-length : {text before after : List ℕ} {at next : ℕ} → Put text before at after next → length after ≡ length before
put-length {text} {before} {after} {at} p = ap length p.stored ∙ length-sets before at text

pub put_same : {a b l m : List ℕ} {at next : ℕ} → a ≡ b → Put a l at m next → Put b l at m next
put_same {l = l} {at = at} e p = record { stored = p.stored ∙ ap (sets l at) e; end = p.end ∙ ap (λ t. at + length t) e }

pub put-none : (l : List ℕ) (at : ℕ) → Put [] l at l at
put-none l at = record { stored = refl; end = sym (add-zero at) }

pub put_one : (l : List ℕ) (at x : ℕ) → Put (x ∷ []) l at (set l at x) (at + 1)
put_one l at x = record { stored = refl; end = refl }

-- a byte, and a text after it
pub put-cons : {text l after : List ℕ} {at from next x : ℕ} → from ≡ at + 1 → Put text (set l at x) from after next
    → Put (x ∷ text) l at after next
put-cons {text} {l} {after} {at} {from} {next} {x} e p =
    record { stored = p.stored ∙ ap (λ k. sets (set l at x) k text) (e ∙ add-one at); end = omega (arith, p.end) }

-- one text and then another
pub put_then : {a b l m n : List ℕ} {at mid next : ℕ} → Put a l at m mid → Put b m mid n next → Put (a ++ b) l at n next
put_then {a} {b} {l} {m} {n} {at} {mid} {next} p q =
    record {
      stored = q.stored ∙ ap₂ (λ x k. sets x k b) p.stored p.end ∙ sets-append a b l at;
      end = omega (arith, p.end, q.end, length-append a b);
    }

-- a text at the front of a buffer that has room for it
pub put_front : {text before after : List ℕ} {next : ℕ} → Put text before 0 after next → next ≤ length before
    → (next ≡ length text) × (after ≡ at_front text before)
put_front {text} {before} {after} {next} p h = (
  omega (arith, p.end),
  p.stored ∙ sets-eq text before 0 (omega (arith, p.end)) ∙ ap (λ k. text ++ drop k before) (zero-add (length text)),
)

-- a part `&mut l[at..]` that came back with a text at its front
pub put-part : (l text back : List ℕ) (at n : ℕ) → at + n ≤ length l → n ≡ length text
    → back ≡ at_front text (mid_of at (length l - at) l) → Put text l at (put_mid at (length l - at) l back) (at + n)
put-part l text back at n h e b =
    record {
      stored =
          put-tail at l back
          ∙ ap (λ y. take at l ++ y)
          (b
          ∙ ap (at_front text) (take_all (length l - at) (drop at l) (simp length-drop (omega arith)))
          ∙ ap (λ y. text ++ y) (drop-drop (length text) at l))
          ∙ sym (append_assoc (take at l) text (drop (at + length text) l))
          ∙ sym (sets-eq text l at (omega arith));
      end = omega arith;
    }
