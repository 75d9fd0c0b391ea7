-- Bytes stored one after the other into the message's buffer b.
-- Assumes nothing.
use mathlib.Core.Path.{◌≡◌, sym, ap, ap₂, ◌∙◌}
use mathlib.Core.List.{List, [], ◌∷◌, ◌++◌}
use Prim.Native.Nat.{ℕ, suc, ◌+◌, ◌*◌, ◌≤◌}
use native.Mathlib.Nat.{add-zero, add-suc, suc-add}
use native.Mathlib.Omega.{arith}
use lib.ListN.{length, take, drop, set, length-drop}
use lib.Seq.{sets, length-sets, drop-drop}
use Rattle.stream.specs.Bits.{value}
use Rattle.stream.specs.Items.{bytes_of}
use Rattle.item_reader.specs.Places.{Taken}
use Rattle.stream_reader.specs.Scan.{bytes-more, length-bytes_of}

pub sets-snoc : (b : List ℕ) (n : ℕ) (o : List ℕ) (v : ℕ) → sets b n (o ++ v ∷ []) ≡ set (sets b n o) (n + length o) v
sets-snoc b n [] v = ap (λ k. set b k v) (sym (add-zero n))
sets-snoc b n (a ∷ o) v =
    sets-snoc (set b n a) (suc n) o v
    ∙ ap (λ k. set (sets (set b n a) (suc n) o) k v) (suc-add n (length o) ∙ sym (add-suc n (length o)))

-- i raw bytes of the bits r are in the buffer from byte n on, and p is what follows them
pub record Stored (b : List ℕ) (n : ℕ) (r : List ℕ) (i : ℕ) (b' p : List ℕ) : Type 0 where
  pub buffer : b' ≡ sets b n (bytes_of i r)
  pub ahead : p ≡ drop (8 * i) r

module _ {b : List ℕ} {n : ℕ} {r : List ℕ} {i : ℕ} {b' p : List ℕ} (s : Stored b n r i b' p) where
  pub stored-length : length b' ≡ length b
  stored-length = ap length s.buffer ∙ length-sets b n (bytes_of i r)

  pub stored-left : 8 * (i + 1) ≤ length r → 8 ≤ length p
  stored-left h = omega (arith, ap length s.ahead, length-drop (8 * i) r)

  pub stored_more : (v : ℕ) (p' : List ℕ) → Taken p 8 v p' → Stored b n r (i + 1) (set b' (n + i) v) p'
  stored_more v p' t =
      let o = bytes_of i r in
      let byte = t.says ∙ ap (λ q. value 0 (take 8 q)) s.ahead in
      record {
        buffer =
            ap₂ (λ q k. set q (n + k) v) s.buffer (sym (length-bytes_of i r))
            ∙ sym (sets-snoc b n o v)
            ∙ ap (sets b n) (ap (λ v. o ++ v ∷ []) byte ∙ sym (bytes-more i r));
        ahead =
            t.left
            ∙ ap (drop 8) s.ahead
            ∙ drop-drop 8 (8 * i) r
            ∙ ap (λ k. drop k r) (let e : 8 * i + 8 ≡ 8 * (i + 1) = omega arith in e);
      }
