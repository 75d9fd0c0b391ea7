-- The encoder's loop over a message: turns of it, and how many words there are.
-- Assumes nothing.
use Rattle.std.specs.Prelude.{◌≡◌, refl, Bool, true, false, cond, List, [], ◌∷◌, ◌++◌, ℕ, zero, suc, ◌+◌, ◌*◌, ◌-◌, ◌≤◌, ◌<◌, eqb, leb, length, drop}
use Rattle.std.proofs.Common.{sym, ap, ◌∙◌, subst, append_assoc, append-nil, arith, length-append}
use Rattle.stream.specs.declared.stuffing.Put.{Put}
use Rattle.stream.specs.declared.stuffing.Put.TheVariants.{Part, Word}
use Rattle.stream.specs.Below.{Bytes}
use Rattle.stream.specs.Codes.{set_number, set-number-below}
use Rattle.stream.specs.Stream.{stream_from, next_part, bits_of}
use Rattle.stream.specs.Stuffing.{put, after, fill, finish, stuff_from, stuff}
use Rattle.stream.specs.PutLaws.{start}
use Rattle.stream.specs.StuffingLaws.{fill_none}
use Rattle.stream.specs.StreamLaws.{stream_end}
use Rattle.stream.proofs.PartLaws.{bits-length}
use Rattle.stream_writer.specs.declared.encoding.Turn.{Turn}
use Rattle.stream_writer.specs.declared.stuffing.Out.{Out}
use Rattle.stream_writer.specs.Writing.{Coded, Wrote, coded_none, coded-then}

-- the words that a message takes in words of B bits. A message of more than 4,992 bytes fits no shape, since every byte takes at least
-- 4 stream bits and no shape holds more than 19,968 bits: 4,993 stands for it, more words than any shape has
unfoldable pub words_needed : ℕ → List ℕ → ℕ
words_needed B m = cond (leb (length m) 4992) (length (stuff B (bits_of m))) 4993

fill-most : (h n k v : ℕ) → 1 ≤ h → length (fill h n k v) ≤ 1
unfolding fill
fill-most h zero k v l = omega arith
fill-most h (suc n) k v l = go (eqb k 0) (put h k v 1) (λ k v. fill-most h n k v l)
  where
    go : (t : Bool) (p : Put) → ((k v : ℕ) → length (fill h n k v) ≤ 1) → length (cond t [] (after p (λ k v. fill h n k v))) ≤ 1
    go true p ih = omega arith
    go false (Part k v) ih = ih k v
    go false (Word w) ih = omega (arith, ap length (fill_none h l n 0))

-- at most a word for each bit, and the last
stuff-most : (h : ℕ) (t : List ℕ) (k v : ℕ) → 1 ≤ h → length (stuff_from h k v t) ≤ length t + 1
unfolding stuff_from finish
stuff-most h [] k v l = fill-most h (suc h - k) k v l
stuff-most h (b ∷ t) k v l = go (put h k v b) (λ k v. stuff-most h t k v l)
  where
    go : (p : Put) → ((k v : ℕ) → length (stuff_from h k v t) ≤ length t + 1)
        → length (after p (λ k v. stuff_from h k v t)) ≤ suc (length t) + 1
    go (Part k v) ih = omega (arith, ih k v)
    go (Word w) ih = omega (arith, ih 0 0)

pub coded-count : {h n k v n' k' v' : ℕ} {t a a' : List ℕ} → 1 ≤ h → Coded h t n k v a n' k' v' a' → n' ≤ n + length t + 1
coded-count {h} {n} {k} {v} {k' = k'} {v' = v'} {t} l c =
    omega (
      arith,
      c.count,
      sym (length-append c.words (stuff_from h k' v' [])) ∙ ap length (c.says [] ∙ ap (stuff_from h k v) (append-nil t)),
      stuff-most h t k v l,
    )

-- nothing is written
abbrev pub none : Out
none = record { count = 0; bits = 0; value = 0 }

-- one turn: from byte i in set s, with what is written before it, to the byte, the set and what is written after it
pub record Turned (h : ℕ) (m : List ℕ) (i s : ℕ) (o : Out) (a : List ℕ) (t : Turn) (a' : List ℕ) : Type 0 where
  pub more : i < t.next
  pub inside : t.next ≤ length m
  pub bits : List ℕ
  pub written : Wrote h bits o a t.out a'
  pub says : stream_from next_part 0 s (drop i m) ≡ bits ++ stream_from next_part 0 (set_number t.set) (drop t.next m)

-- the message is written as far as byte i
pub record Written (h : ℕ) (m a : List ℕ) (i s : ℕ) (o : Out) (a' : List ℕ) : Type 0 where
  pub inside : i ≤ length m
  pub known : s < 5
  pub bits : List ℕ
  pub written : Wrote h bits none a o a'
  pub says : bits ++ stream_from next_part 0 s (drop i m) ≡ bits_of m

pub written_none : {h : ℕ} {m a : List ℕ} → 1 ≤ h → Written h m a 0 0 none a
unfolding bits_of
written_none {h} l = record { inside = omega arith; known = omega arith; bits = []; written = coded_none (start h l); says = refl }

pub written-more : {h i s : ℕ} {o : Out} {t : Turn} {m a a' a'' : List ℕ}
    → Written h m a i s o a' → Turned h m i s o a' t a'' → Written h m a t.next (set_number t.set) t.out a''
written-more {t = turn} w t =
    record {
      inside = t.inside;
      known = set-number-below turn.set;
      bits = w.bits ++ t.bits;
      written = coded-then w.written t.written;
      says = append_assoc w.bits t.bits _ ∙ ap (λ l. w.bits ++ l) (sym t.says) ∙ w.says;
    }

pub written_count : {h i s : ℕ} {o : Out} {m a a' : List ℕ} → 1 ≤ h → Bytes m → Written h m a i s o a' → o.count ≤ 23 * length m + 1
written_count {i = i} {s} {m = m} l x w =
    omega (
      arith,
      coded-count l w.written,
      sym (length-append w.bits (stream_from next_part 0 s (drop i m))) ∙ ap length w.says,
      bits-length m x,
    )

pub written_all : {h i s : ℕ} {o : Out} {m a a' : List ℕ} → length m ≤ i → Written h m a i s o a' → Wrote h (bits_of m) none a o a'
written_all {h} {i} {s} {o} {m} {a} {a'} e w =
    subst (λ t. Wrote h t none a o a')
    (sym (append-nil w.bits) ∙ ap (λ l. w.bits ++ l) (sym (stream_end next_part m i s e)) ∙ w.says)
    w.written
