-- What happens to a tag's modules before it is read (document 01, "Demand 3's words"): a list of changes says what each becomes.
-- Assumes nothing.
use Rattle.std.specs.Prelude.{◌≡◌, refl, List, [], ◌∷◌, ℕ, zero, suc, ◌≤◌, ◌<◌, leb, length, get_or}
use Rattle.std.proofs.Math.Path.{sym, ap}
use Rattle.std.proofs.Common.{◌∙◌, le_of_suc-le-suc, not-suc-le-zero, arith, ext_get_or, le-leb}
use Rattle.std.proofs.Math.Bool.{cond}
use Rattle.std.proofs.Math.ListN.{get_or-eq_default}
use Rattle.std.proofs.lemmas.Bool.{lt-leb}
use Rattle.list_laws.specs.Filled.{tabulate, tabulate-get_or, length-tabulate, get_or-tabulate}

-- a module after its change: to 0, 1 or 2, unread; a number above 2 leaves it
unfoldable pub changed_to : ℕ → ℕ → ℕ
changed_to was change = cond (leb change 2) change was

-- module k of the tag becomes what entry k of the changes says; beyond them it stays
unfoldable pub damaged : List ℕ → List ℕ → List ℕ
damaged tag changes = tabulate (λ k. changed_to (get_or tag k 0) (get_or changes k 3)) (length tag)

-- no changes: the tag itself
pub damaged-none : (tag : List ℕ) → damaged tag [] ≡ tag
unfolding damaged changed_to
damaged-none tag = tabulate-get_or 0 tag

-- an entry is the same whatever stands for those beyond the list
pub entry-any : (l : List ℕ) (k d e : ℕ) → k < length l → get_or l k d ≡ get_or l k e
entry-any [] k d e h = absurd (not-suc-le-zero h)
entry-any (x ∷ l) zero d e h = refl
entry-any (x ∷ l) (suc k) d e h = entry-any l k d e (le_of_suc-le-suc h)

-- the three cases of a module, as the code meets them
module _ (changes : List ℕ) (k was : ℕ) where
  pub stays-beyond : length changes ≤ k → was ≡ changed_to was (get_or changes k 3)
  unfolding changed_to
  stays-beyond h = sym (ap (λ c. cond (leb c 2) c was) (get_or-eq_default changes 3 h))

  module _ (h : k < length changes) where
    pub stays-above : 2 < get_or changes k 0 → was ≡ changed_to was (get_or changes k 3)
    unfolding changed_to
    stays-above l =
        sym (ap (λ c. cond (leb c 2) c was) (entry-any changes k 3 0 h) ∙ ap (λ b. cond b (get_or changes k 0) was) (lt-leb _ _ l))

    pub changes-to : get_or changes k 0 ≤ 2 → get_or changes k 0 ≡ changed_to was (get_or changes k 3)
    unfolding changed_to
    changes-to l =
        sym (ap (λ c. cond (leb c 2) c was) (entry-any changes k 3 0 h) ∙ ap (λ b. cond b (get_or changes k 0) was) (le-leb _ _ l))

-- a change for each module, none above 2: exactly those. So every grid of 0, 1 and 2 arises from a tag of its size
pub damaged-all : (tag changes : List ℕ) → length changes ≡ length tag → ((k : ℕ) → k < length changes → get_or changes k 0 ≤ 2)
    → damaged tag changes ≡ changes
unfolding damaged
damaged-all tag changes e h =
    ext_get_or 0 _ _ (length-tabulate _ (length tag) ∙ sym e)
    (λ k l.
    let inside : k < length tag = omega (arith, l, length-tabulate (λ k. changed_to (get_or tag k 0) (get_or changes k 3)) (length tag)) in
    get_or-tabulate _ 0 (length tag) k inside ∙ sym (changes-to changes k (get_or tag k 0) (omega (arith, e)) (h k (omega (arith, e)))))
