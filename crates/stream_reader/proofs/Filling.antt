-- A turn of the loop that writes the message: the bytes read so far stand at the front of the buffer, which was b.
-- Assumes nothing.
use Rattle.std.specs.Prelude.{Option, Result, Ok, Err, IsOk}
use mathlib.Core.Path.{◌≡◌, refl, sym, ap, ap₂, ◌∙◌, subst}
use mathlib.Core.Bool.{Bool, true, false, cond, not}
use mathlib.Core.List.{List, ◌++◌}
use Prim.Native.Nat.{ℕ, ◌+◌, ◌-◌, ◌≤◌, ◌<◌}
use native.Mathlib.Omega.{arith}
use lib.ListN.{length, get_or, drop, length-append, length-drop}
use lib.Seq.{sets, sets-eq, take_at, drop_at, drop-drop}
use Rattle.list_laws.specs.Range.{all}
use Rattle.stream.specs.declared.items.Item.{Item}
use Rattle.stream.specs.declared.items.Fault.{Fault}
use Rattle.stream.specs.declared.items.Fault.TheVariants.{FlatWord}
use Rattle.stream.specs.Stuffing.{flat, unstuff, unstuff_from}
use Rattle.stream.specs.Below.{Bits}
use Rattle.stream.specs.Items.{found_item, Reading, message, refused, prepend, adds, yields, extra, set_after, stops, item_at, read_from, read_items, judge}
use Rattle.stream.specs.StuffingLaws.{unstuff-is-bits}
use Rattle.item_reader.specs.declared.reading.Place.{Place}
use Rattle.stream_reader.specs.Scan.{Scanned, length-adds, scan-item, scan-fault, scan-stop}
use Rattle.stream_reader.specs.Steps.{Stepped}
use Rattle.stream_reader.specs.Written.{Room, written}

-- words whose message has room are not refused by 18, a flat word
pub judged : (B : ℕ) (words b : List ℕ) → Room (judge B words) b → judge B words ≡ read_items B (unstuff B words)
unfolding judge
judged B words b = go (all (length words) (λ i. not (flat B (get_or words i 0))))
  where
    go : (t : Bool) → Room (cond t (read_items B (unstuff B words)) (refused FlatWord 0)) b
        → cond t (read_items B (unstuff B words)) (refused FlatWord 0) ≡ read_items B (unstuff B words)
    go true r = refl
    go false r = absurd r

pub read-room : (B : ℕ) (words b : List ℕ) → Room (judge B words) b → Room (read_items B (unstuff_from (B - 1) words)) b
unfolding unstuff
read-room B words b r = subst (λ q. Room q b) (judged B words b r) r

pub written_all : (B : ℕ) (words b b' : List ℕ) → Room (judge B words) b → b' ≡ written (read_items B (unstuff_from (B - 1) words)) b
    → b' ≡ written (judge B words) b
unfolding unstuff
written_all B words b b' r e = e ∙ ap (λ q. written q b) (sym (judged B words b r))

prefix-room : (o b : List ℕ) (r : Reading) → Room (prepend o r) b → length o ≤ length b
prefix-room o b (message m) h = omega (arith, length-append o m)
prefix-room o b (refused n at) h = absurd h

-- n bytes are read, and the buffer b is now b'
pub record Filled (B : ℕ) (l : List ℕ) (at s n : ℕ) (b b' : List ℕ) : Type 0 where
  pub done : List ℕ
  pub size : length done ≡ n
  pub read : Scanned B l at s done
  pub buffer : b' ≡ done ++ drop n b

-- bytes o stored after those
stored-after : (d o b : List ℕ) (n : ℕ) → length d ≡ n → n + length o ≤ length b → sets (d ++ drop n b) n o ≡ (d ++ o) ++ drop (n + length o) b
stored-after d o b n e h =
    let b' = d ++ drop n b in
    let long : n + length o ≤ length b' = omega (arith, length-append d (drop n b), length-drop n b) in
    let later = sym (drop-drop (length o) n b') ∙ ap (drop (length o)) (drop_at d (drop n b) n e) ∙ drop-drop (length o) n b in
    sets-eq o b' n long ∙ ap₂ (λ p q. (p ++ o) ++ q) (take_at d (drop n b) n e) later

module _ (B : ℕ) (some : 0 < B) (small : B ≤ 12) (l : List ℕ) (x : Bits l) (at s n : ℕ) (b b' : List ℕ)
    (k : Filled B l at s n b b') (room : Room (read_items B l) b) where
  room_for : (at' s' : ℕ) (o : List ℕ) → Scanned B l at' s' o → length o ≤ length b
  room_for at' s' o r = prefix-room o b (read_from B 0 at' s' (drop at' l)) (subst (λ r. Room r b) r.says room)

  pub filled-length : length b' ≡ length b
  filled-length = omega (arith, ap length k.buffer, length-append k.done (drop n b), length-drop n b, k.size, room_for at s k.done k.read)

  module _ (i : Item) (u : ℕ) (v : stops B (drop at l) ≡ false) (e : item_at s (drop at l) ≡ found_item i u) where
    next : (1 ≤ u) × Scanned B l (at + (u + extra i)) (set_after s i) (k.done ++ adds i (drop u (drop at l)))
    next = scan-item B some small l x at s k.done k.read i u v e

    pub item-bounds : (1 ≤ u) × (at + (u + extra i) ≤ length l) × (n + yields i ≤ length b) × (n + yields i ≤ length l)
    item-bounds =
        let o = adds i (drop u (drop at l)) in
        let sizes = length-append k.done o in
        let add = length-adds i (drop u (drop at l)) in (
          next.0,
          next.1.within,
          omega (arith, room_for (at + (u + extra i)) (set_after s i) (k.done ++ o) next.1, sizes, add, k.size),
          omega (arith, next.1.within, next.1.few, sizes, add, k.size),
        )

    -- the item's bytes o, which follow its codes, are stored
    pub filled-item : (at' s' m : ℕ) (r o : List ℕ) → r ≡ drop u (drop at l) → o ≡ adds i r → at' ≡ at + (u + extra i) → s' ≡ set_after s i
        → m ≡ yields i → Filled B l at' s' (n + m) b (sets b' n o)
    filled-item at' s' m r o er eo p q y =
        let bytes = adds i (drop u (drop at l)) in
        let same : o ≡ bytes = eo ∙ ap (adds i) er in
        let add = length-adds i (drop u (drop at l)) in
        let long : n + length bytes ≡ n + m = omega (arith, add) in
        rw (p, q)
        record {
          done = k.done ++ bytes;
          size = length-append k.done bytes ∙ ap₂ ◌+◌ k.size (add ∙ sym y);
          read = next.1;
          buffer =
              ap₂ (λ b o. sets b n o) k.buffer same
              ∙ stored-after k.done bytes b n k.size (omega (arith, item-bounds.2, add))
              ∙ ap (λ n. (k.done ++ bytes) ++ drop n b) long;
        }

  pub filled-stop : stops B (drop at l) ≡ true → b' ≡ written (read_items B l) b
  filled-stop e =
      k.buffer
      ∙ ap (λ n. k.done ++ drop n b) (sym k.size)
      ∙ sym (ap (λ r. written r b) (scan-stop B some small l x at s k.done k.read e))

-- no item of words whose message has room is at fault
module _ (B : ℕ) (some : 0 < B) (small : B ≤ 12) (words : List ℕ) (at s n : ℕ) (b b' : List ℕ)
    (k : Filled B (unstuff_from (B - 1) words) at s n b b') (room : Room (read_items B (unstuff_from (B - 1) words)) b) where
  pub filled-found : (at' s' : ℕ) (f : Result (Option (Item × Place)) Fault) → Stepped B words at s f at' s' → IsOk f
  filled-found at' s' (Ok x) m = refl
  filled-found at' s' (Err e) m =
      absurd
      (subst (λ r. Room r b)
      (scan-fault B some small (unstuff_from (B - 1) words) (unstuff-is-bits (B - 1) words) at s k.done k.read e m.0 m.1)
      room)
