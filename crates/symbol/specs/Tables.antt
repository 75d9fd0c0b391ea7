-- Tables of places: what a loop that stored place k at k has left, drawing through it, and the part of it that is a word's.
-- Assumes nothing.
use Rattle.std.specs.Prelude.{◌≡◌, refl, List, ℕ, ◌+◌, ◌*◌, ◌-◌, ◌≤◌, ◌<◌, length, get_or, take, drop}
use Rattle.std.proofs.Common.{sym, ap, ◌∙◌, subst, zero-add, arith, length-take, length-drop, mul-le-mul_right}
use Rattle.std.proofs.lemmas.List.{get_or-take, get_or-drop}
use Rattle.list_laws.specs.Writes.{writes, writes-same, writes-cong}
use Rattle.symbol.specs.Drawing.{PlacesFit}

pub fits-at : (table : List ℕ) {n room : ℕ} → PlacesFit table 0 n room → (i : ℕ) → i < n → get_or table i 0 < room
fits-at table {n} {room} fit i h = subst (λ k. get_or table k 0 < room) (zero-add i) (fit i h)

module _ (before : List ℕ) (place : ℕ → ℕ) (n : ℕ) (enough : n ≤ length before) {table : List ℕ} (made : table ≡ writes before (λ k. k) place n) where
  pub table_at : (i : ℕ) → i < n → get_or table i 0 ≡ place i
  table_at i h =
      ap (λ t. get_or t i 0) made ∙ writes-same 0 before (λ k. k) place n (λ a b x y e. e) (λ a x. omega arith) i h

  module _ {m : ℕ} (all : m ≡ n) where
    pub table_fits : (room : ℕ) → ((i : ℕ) → i < n → place i < room) → PlacesFit table 0 m room
    table_fits room lt i h =
        let k : i < n = omega arith in
        subst (λ k. get_or table k 0 < room) (sym (zero-add i)) (subst (λ k. k < room) (sym (table_at i k)) (lt i k))

    pub table-draws : (g : List ℕ) (v : ℕ → ℕ) {h : List ℕ} → h ≡ writes g (λ i. get_or table i 0) v m → h ≡ writes g place v n
    table-draws g v e = e ∙ ap (writes g (λ i. get_or table i 0) v) all ∙ writes-cong g _ _ _ _ n table_at (λ i k. refl)

-- the places of a word of `size` bits from one on
abbrev pub part : List ℕ → ℕ → ℕ → List ℕ
part places from size = take (from + size - from) (drop from places)

module _ (places : List ℕ) (from size : ℕ) (room : from + size ≤ length places) where
  pub length-part : length (part places from size) ≡ size
  length-part = omega (arith, length-take (from + size - from) (drop from places), length-drop from places)

  pub part-at : (b : ℕ) → b < size → get_or (part places from size) b 0 ≡ get_or places (from + b) 0
  part-at b h = get_or-take (from + size - from) (drop from places) b 0 (omega arith) ∙ get_or-drop from places b 0

-- the first places of a table
pub front_fits : (places : List ℕ) (n all : ℕ) {room : ℕ} → n ≤ all → n ≤ length places → PlacesFit places 0 all room
    → PlacesFit (take n places) 0 (length (take n places)) room
front_fits places n all {room} few long fit i h =
    let short : i < n = omega (arith, h, length-take n places) in
    subst (λ p. p < room) (sym (ap (λ j. get_or (take n places) j 0) (zero-add i) ∙ get_or-take n places i 0 short))
    (fits-at places fit i (omega arith))

-- word w of n and its places stand before the end
module _ (size skip w n : ℕ) (h : w < n) where
  pub word_room : skip + w * size + size ≤ skip + n * size
  word_room = omega (arith, mul-le-mul_right size h)

  pub part_fits : (places : List ℕ) {m room : ℕ} → skip + n * size ≤ length places → m ≡ length (part places (skip + w * size) size)
      → PlacesFit places 0 (skip + n * size) room → PlacesFit (part places (skip + w * size) size) 0 m room
  part_fits places {room = room} long e fit b k =
      let enough : skip + w * size + size ≤ length places = omega (arith, word_room) in
      let short : b < size = omega (arith, k, length-part places (skip + w * size) size enough) in
      subst (λ p. p < room) (sym (ap (λ i. get_or (part places (skip + w * size) size) i 0) (zero-add b) ∙ part-at places (skip + w * size) size enough b short))
      (fits-at places fit (skip + w * size + b) (omega (arith, word_room)))
