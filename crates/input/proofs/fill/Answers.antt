-- What each read gives is what it consumed, and it stands behind what the reads before it gave.
use Rattle.std.proofs.Common.{rules, ◌≡◌, ◌≤◌, ℕ, ◌+◌, List, ◌++◌, length, take, sym, ap, ◌∙◌, subst, length-take-le, Option}
use Rattle.std.proofs.Math.Seq.{take-append-add}
use Rattle.std.proofs.lemmas.List.{take-append-le}
use Rattle.std.proofs.KnownBytes.{Consumes-trans}
use Rattle.std.specs.Io.KnownBytes.{Consumes}
use borrow.Rule.Slice.PartMut.{put_mid, post_of}
use Rattle.input.proofs.fill.Goals as goal

take-put_mid-add : (a k n : ℕ) (xs ys : List ℕ) → a ≤ length xs → n ≤ length ys → take (a + n) (put_mid a k xs ys) ≡ take a xs ++ take n ys
take-put_mid-add a k n xs ys within fits =
    let after = post_of a k xs in
    ap (λ m. take (m + n) (take a xs ++ (ys ++ after))) (sym (length-take-le a xs within)) ∙ take-append-add (take a xs) (ys ++ after) n ∙ ap (λ l. take a xs ++ l) (take-append-le n ys after fits)

-- a read that gave n bytes, behind those that were there
more : (a k n : ℕ) (xs ys : List ℕ) (r0 r1 r2 : Option (List ℕ)) → a ≤ length xs → n ≤ length ys → Consumes r0 r1 (take a xs) → Consumes r1 r2 (take n ys) → Consumes r0 r2 (take (a + n) (put_mid a k xs ys))
more a k n xs ys r0 r1 r2 within fits first second =
    subst (Consumes r0 r2) (sym (take-put_mid-add a k n xs ys within fits)) (Consumes-trans r0 r1 r2 (take a xs) (take n ys) first second)

pub loop-at-preserved : goal.loop-at-preserved
loop-at-preserved g c = record {
  in_range = search rules;
  bytes = more _ _ _ _ _ _ _ _ c.loop-at.invariant.in_range (search rules) c.loop-at.invariant.bytes c.in-Ok.ensures.bytes.0;
}
