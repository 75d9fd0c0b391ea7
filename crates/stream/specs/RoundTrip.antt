-- What the encoder writes is what the reader reads: for any lawful way to cut a run into parts, and for document 01's.
-- Assumes nothing.
use Rattle.std.specs.Prelude.{◌≡◌, Bool, true, false, cond, not, leb, get_or, replicate}
use Rattle.std.proofs.Math.Path.{refl, sym, ap, subst, subst₂}
use Rattle.std.proofs.Common.{ap₂, ◌∙◌, add-zero, arith, length-append, take-append-drop, take_at, drop_at, leb-true, leb-false}
use mathlib.Core.List.{List, [], ◌∷◌, ◌++◌, append_assoc}
use Prim.Native.Nat.{ℕ, ◌+◌, ◌*◌, ◌-◌, ◌^◌, ◌≤◌, ◌<◌}
use Rattle.std.proofs.Math.ListN.{length, take, drop}
use Rattle.std.proofs.Math.Seq.{length-take-le}
use Rattle.list_laws.specs.Tests.{holds, true_of}
use Rattle.list_laws.specs.Range.{all, all_of}
use Rattle.stream.specs.declared.codes.CodeSet.{CodeSet}
use Rattle.stream.specs.declared.codes.Entry.TheVariants.{Char, Latch, Binary}
use Rattle.stream.specs.declared.items.Item.TheVariants.{Single, Turn, Raw}
use Rattle.stream.specs.declared.items.Fault.TheVariants.{FlatWord}
use Rattle.stream.specs.Below.{Bytes, below-take, below-drop}
use Rattle.stream.specs.Bits.{bits, value, length-bits, value-of-bits}
use Rattle.stream.specs.Codes.{set_number, entry, width, code_of}
use Rattle.stream.specs.Latches.{path, latch_code, path_bits, latch_bits}
use Rattle.stream.specs.Stream.{target, char_bits, run_set, count_bits, bytes_bits, binary_bits, part_bits, stream_from}
use Rattle.stream.specs.Stuffing.{flat, stuff, unstuff}
use Rattle.stream.specs.Items.{found_item, message, field, bytes_at, count_at, item_by, item_at, bytes_of, read_from, read_items, judge, refused}
use Rattle.stream.specs.PutLaws.{Codewords}
use Rattle.stream.specs.StuffingLaws.{codeword-at, unstuff-stuff, stuffed-codewords}
use Rattle.stream.specs.CodeLaws.{Leads, char-facts, run-facts, width-bounds}
use Rattle.stream.specs.StreamLaws.{Lawful, stream-char, stream-part, by-turns}
use Rattle.stream.specs.StreamLength.{length-bytes, length-binary, stream_bits}
use Rattle.stream.specs.ItemLaws.{item_by_lem, short-by, long-by, bytes-by}
use Rattle.stream.specs.ReadingLaws.{Live, live-long, live-append, live-code, Reads, reads-item, reads-ones}

-- the number in bits that stand after o others
field_at : (p : List ℕ) (o w c : ℕ) (q : List ℕ) → length p ≡ o → c < 2 ^ w → field (p ++ (bits w c ++ q)) o w ≡ c
unfolding field
field_at p o w c q e h =
    ap (λ l. value 0 (take w l)) (drop_at p (bits w c ++ q) o e)
    ∙ ap (value 0) (take_at (bits w c) q w (length-bits w c))
    ∙ value-of-bits w c h

item-code : (s c w : ℕ) (q : List ℕ) → width s ≡ w → c < 2 ^ w → item_at s (bits w c ++ q) ≡ item_by (bits w c ++ q) w (entry s c)
item-code s c w q e h =
    let l = bits w c ++ q in
    item_by_lem l s c (omega (arith, e, length-append (bits w c) q, length-bits w c)) (ap (field l 0) e ∙ field_at [] 0 w c q refl h)
    ∙ ap (λ w. item_by l w (entry s c)) e

bytes_back : (l q : List ℕ) → Bytes l → bytes_of (length l) (bytes_bits l ++ q) ≡ l
unfolding bytes_of bytes_bits
bytes_back [] q x = refl
bytes_back (b ∷ l) q x =
    ap (λ y. value 0 (take 8 y) ∷ bytes_of (length l) (drop 8 y)) (append_assoc (bits 8 b) (bytes_bits l) q)
    ∙ ap₂ (λ y z. value 0 y ∷ bytes_of (length l) z)
    (take_at (bits 8 b) (bytes_bits l ++ q) 8 (length-bits 8 b))
    (drop_at (bits 8 b) (bytes_bits l ++ q) 8 (length-bits 8 b))
    ∙ ap₂ (λ y z. y ∷ z) (value-of-bits 8 b x.0) (bytes_back l q x.1)

-- the count of n bytes, 8n bits x
count-back : (n : ℕ) (x q : List ℕ) → 1 ≤ n → n ≤ 2078 → length x ≡ 8 * n
    → count_at (bits 5 31 ++ (count_bits n ++ (x ++ q))) 5 ≡ found_item (Raw n) (5 + length (count_bits n))
unfolding count_bits
count-back n x q h g e = go (leb n 31) refl
  where
    size : (c : List ℕ) → length (bits 5 31 ++ (c ++ (x ++ q))) ≡ 5 + (length c + (8 * n + length q))
    size c = simp (length-append, length-bits, e)

    go : (t : Bool) → leb n 31 ≡ t → let c : List ℕ = cond t (bits 5 n) (bits 5 0 ++ bits 11 (n - 31)) in
        count_at (bits 5 31 ++ (c ++ (x ++ q))) 5 ≡ found_item (Raw n) (5 + length c)
    go true z =
        let few = leb-true n 31 z in
        let l = bits 5 31 ++ (bits 5 n ++ (x ++ q)) in
        let long = size (bits 5 n) in
        let five = length-bits 5 n in
        short-by l 5 n (omega arith) (field_at (bits 5 31) 5 5 n (x ++ q) (length-bits 5 31) (omega arith)) (omega arith)
        ∙ bytes-by l 10 n (omega arith)
        ∙ ap (λ o. found_item (Raw n) (5 + o)) (sym five)
    go false z =
        let many = leb-false n 31 z in
        let c = bits 5 0 ++ bits 11 (n - 31) in
        let l = bits 5 31 ++ (c ++ (x ++ q)) in
        let long = size c in
        let sixteen : length c ≡ 16 = simp (length-append, length-bits) in
        let at_five : l ≡ bits 5 31 ++ (bits 5 0 ++ (bits 11 (n - 31) ++ (x ++ q))) = simp append_assoc in
        let at-ten : l ≡ bits 5 31 ++ bits 5 0 ++ (bits 11 (n - 31) ++ (x ++ q)) = simp append_assoc in
        long-by l 5 (n - 31) (omega arith)
        (ap (λ l. field l 5 5) at_five ∙ field_at (bits 5 31) 5 5 0 (bits 11 (n - 31) ++ (x ++ q)) (length-bits 5 31) (omega arith))
        (ap (λ l. field l 10 11) at-ten
        ∙ field_at (bits 5 31 ++ bits 5 0) 10 11 (n - 31) (x ++ q) (simp (length-append, length-bits)) (omega arith))
        ∙ ap (bytes_at l 21) (let same : n - 31 + 31 ≡ n = omega arith in same)
        ∙ bytes-by l 21 n (omega arith)
        ∙ ap (λ o. found_item (Raw n) (5 + o)) (sym sixteen)

module _ (B : ℕ) (some : 0 < B) (small : B ≤ 12) where
  reads-char : (s c b : ℕ) (q m : List ℕ) → entry s c ≡ Char b → c < 2 ^ width s - 1 → Reads B s q m
      → Reads B s (bits (width s) c ++ q) (b ∷ m)
  unfolding item_by
  reads-char s c b q m e h r =
      reads-item B some small s (width s) (Single b) (bits (width s) c) q (b ∷ []) m (live-code B some small (width s) c q h)
      (item-code s c (width s) q refl (omega arith) ∙ ap (item_by (bits (width s) c ++ q) (width s)) e) (omega (arith, width-bounds s))
      (length-bits (width s) c ∙ sym (add-zero (width s))) refl r

  reads-latch : (s c : ℕ) (t : CodeSet) (q m : List ℕ) → entry s c ≡ Latch t → c < 2 ^ width s → Live B q → Reads B (set_number t) q m
      → Reads B s (bits (width s) c ++ q) m
  unfolding item_by
  reads-latch s c t q m e h v r =
      reads-item B some small s (width s) (Turn t) (bits (width s) c) q [] m (live-append B some small (bits (width s) c) q v)
      (item-code s c (width s) q refl h ∙ ap (item_by (bits (width s) c ++ q) (width s)) e) (omega (arith, width-bounds s))
      (length-bits (width s) c ∙ sym (add-zero (width s))) refl r

  reads-path : (ts : List ℕ) (s t : ℕ) (q m : List ℕ) → Leads s ts t → Live B q → Reads B t q m
      → Reads B s (path_bits s ts ++ q) m
  unfolding path_bits
  reads-path [] s t q m h v r = subst (λ x. Reads B x q m) (sym h) r
  reads-path (u ∷ ts) s t q m h v r =
      subst (λ l. Reads B s l m) (sym (append_assoc (bits (width s) (latch_code s u)) (path_bits u ts) q))
      (reads-latch s (latch_code s u) h.0.0 (path_bits u ts ++ q) m h.0.2 h.1 (live-append B some small (path_bits u ts) q v)
      (subst (λ x. Reads B x (path_bits u ts ++ q) m) (sym h.0.1) (reads-path ts u t q m h.2 v r)))

  live-binary : (l q : List ℕ) → 1 ≤ length l → Live B (binary_bits l ++ q)
  live-binary l q h = live-long B some small (binary_bits l ++ q) (omega (arith, length-append (binary_bits l) q, length-binary l))

  reads-binary : (s : ℕ) (l q m : List ℕ) → width s ≡ 5 → entry s 31 ≡ Binary → 1 ≤ length l → length l ≤ 2078 → Bytes l
      → Reads B s q m → Reads B s (binary_bits l ++ q) (l ++ m)
  unfolding item_by binary_bits
  reads-binary s l q m e f h g x r =
      reads-item B some small s (5 + length c) (Raw n) (binary_bits l) q l m (live-binary l q h) found (omega arith)
      (length-binary l) bytes r
    where
      n : ℕ
      n = length l

      c : List ℕ
      c = count_bits n

      later : List ℕ
      later = bytes_bits l ++ q

      front : binary_bits l ++ q ≡ bits 5 31 ++ (c ++ later)
      front = simp append_assoc

      found : item_at s (binary_bits l ++ q) ≡ found_item (Raw n) (5 + length c)
      found =
          ap (item_at s) front
          ∙ item-code s 31 5 (c ++ later) e (omega arith)
          ∙ ap (item_by (bits 5 31 ++ (c ++ later)) 5) f
          ∙ count-back n (bytes_bits l) q h g (length-bytes l)

      bytes : bytes_of n (drop (5 + length c) (binary_bits l ++ q)) ≡ l
      bytes =
          ap (λ y. bytes_of n (drop (5 + length c) y)) (front ∙ sym (append_assoc (bits 5 31) c later))
          ∙ ap (bytes_of n) (drop_at (bits 5 31 ++ c) later (5 + length c) (simp (length-append, length-bits)))
          ∙ bytes_back l q x

  -- the stream, and then bits q that end the reading
  module _ (cut : ℕ → ℕ) (lawful : Lawful cut) (q : List ℕ) (end : (s : ℕ) → Reads B s q []) where
    reads-stream : (s : ℕ) (m : List ℕ) → s < 5 → Bytes m → Reads B s (stream_from cut 0 s m ++ q) m
    unfolding stream_from char_bits part_bits latch_bits
    reads-stream =
        by-turns cut lawful (λ s m. s < 5 → Bytes m → Reads B s (stream_from cut 0 s m ++ q) m) (λ s h x. end s)
        (λ s b m e ih h x.
        let t = target s b in
        let f = char-facts s b h x.0 (holds e) in
        let c = bits (width t) (code_of t b) in
        let later = stream_from cut 0 t m ++ q in
        subst (λ l. Reads B s l (b ∷ m)) (sym (ap (λ l. l ++ q) (stream-char cut s b m e) ∙ simp append_assoc))
        (reads-path (path s t) s t (c ++ later) (b ∷ m) f.leads (live-code B some small (width t) (code_of t b) later f.uneven)
        (reads-char t (code_of t b) b later m f.says f.uneven (ih f.set x.1))))
        (λ s b m n e f h k g ih i x.
        let t = run_set s in
        let r = run-facts s i in
        let l = take n (b ∷ m) in
        let size = length-take-le n (b ∷ m) g in
        let later = stream_from cut 0 t (drop n (b ∷ m)) ++ q in
        let front = ap (λ l. l ++ q) (stream-part cut s b m n e f h) ∙ simp append_assoc in
        subst₂ (λ l m. Reads B s l m) (sym front) (take-append-drop n (b ∷ m))
        (reads-path (path s t) s t (binary_bits l ++ later) (l ++ drop n (b ∷ m)) r.leads (live-binary l later (omega arith))
        (reads-binary t l later (drop n (b ∷ m)) r.wide r.says (omega arith) (omega arith) (below-take 256 n (b ∷ m) x)
        (ih r.set (below-drop 256 n (b ∷ m) x)))))

-- the bits of the words of a message, by any lawful cut, are read to the message
pub round-trip-by : (cut : ℕ → ℕ) → Lawful cut → (text : List ℕ) → Bytes text → (B : ℕ) → 2 ≤ B → B ≤ 12
    → read_items B (unstuff B (stuff B (stream_from cut 0 0 text))) ≡ message text
unfolding read_items
round-trip-by cut lawful text x B low high =
    let stream = stream_from cut 0 0 text in
    let r = unstuff-stuff B low stream (stream_bits cut lawful 0 text) in
    let some : 0 < B = omega arith in
    ap (read_from B 0 0 0) r.2
    ∙ reads-stream B some high cut lawful (replicate r.0 1) (λ s. reads-ones B some high r.0 s r.1) 0 text (omega arith) x 0

-- number 18 cannot arise
pub judge-codewords : (B : ℕ) (words : List ℕ) → Codewords B words → judge B words ≡ read_items B (unstuff B words)
unfolding judge
judge-codewords B words c =
    ap (λ t. cond t (read_items B (unstuff B words)) (refused FlatWord 0))
    (true_of (all (length words) (λ i. not (flat B (get_or words i 0))))
    (all_of (length words) (λ i. not (flat B (get_or words i 0))) (λ i h. holds (ap not (codeword-at B words c i h).uneven))))

pub judge-by : (cut : ℕ → ℕ) → Lawful cut → (text : List ℕ) → Bytes text → (B : ℕ) → 2 ≤ B → B ≤ 12
    → judge B (stuff B (stream_from cut 0 0 text)) ≡ message text
judge-by cut lawful text x B low high =
    let stream = stream_from cut 0 0 text in
    judge-codewords B (stuff B stream) (stuffed-codewords B low stream (stream_bits cut lawful 0 text))
    ∙ round-trip-by cut lawful text x B low high
