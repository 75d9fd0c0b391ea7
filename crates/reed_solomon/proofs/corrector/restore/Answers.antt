-- The coefficients, the other way round.
-- Assumes nothing.
use Rattle.std.proofs.Common.{◌≡◌, sym, ap, ◌∙◌, List, ℕ, ◌-◌, ◌≤◌, ◌<◌, length, get_or, take, reverse, ext_get_or, arith}
use Rattle.std.proofs.lemmas.List.{get_or-take, get_or-reverse, length-take-le}
use Rattle.list_laws.specs.Filled.{length-tabulate, get_or-tabulate}
use Rattle.reed_solomon.proofs.Clean.{restored}
use Rattle.reed_solomon.proofs.corrector.restore.Goals as goal

reversed-front : (n : ℕ) (l : List ℕ) → n ≤ length l → length (reverse (take n l)) ≡ n → reverse (take n l) ≡ restored l n
reversed-front n l h size =
    let long = length-take-le n l h in
    let f : ℕ → ℕ = λ i. get_or l (n - 1 - i) 0 in
    ext_get_or 0 (reverse (take n l)) (restored l n) (size ∙ sym (length-tabulate f n))
    (λ i k.
    let below : i < n = rw size at k in
    let last : n - 1 - i < n = omega arith in
    get_or-reverse (take n l) i 0 (rw long below)
    ∙ ap (λ m. get_or (take n l) (m - 1 - i) 0) long
    ∙ get_or-take n l (n - 1 - i) 0 last
    ∙ sym (get_or-tabulate f 0 n i below))

pub returns : goal.returns
returns c =
    let n = length c.args.to.now in
    let copied = c.copy_from_slice.ensures.after in
    let turned : c.reverse.new.self ≡ reverse (take n c.args.from.now) = c.reverse.ensures.after ∙ ap reverse copied in
    turned
    ∙ reversed-front n c.args.from.now c.requires
    (sym (ap length turned) ∙ c.reverse.ensures.len ∙ c.copy_from_slice.ensures.len)
