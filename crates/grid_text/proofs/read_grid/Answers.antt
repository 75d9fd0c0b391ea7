-- The bytes after P1, or all of them.
-- Assumes nothing.
use Rattle.std.proofs.Common.{◌≡◌, sym, ap, subst, ◌∙◌, ℕ, ◌<◌, Option, None, length, IfSome}
use lib.Seq.{sets}
use Rattle.grid_text.specs.declared.scanning.Scan.TheVariants.{Gap}
use Rattle.grid_text.specs.Grid.{modules, side_from, side_of}
use Rattle.grid_text.specs.GridLaws.{prefix-begins, side-bitmap, side-rows, modules-bitmap, modules-rows}
use Rattle.grid_text.specs.SideLaws.{side-positive}
use Rattle.grid_text.proofs.read_grid.Goals as goal
use Rattle.grid_text.proofs.read_grid.Goals.{Start}

positive : (c : Start) (r : Option ℕ) → r ≡ side_of c.args.bytes.now (length c.args.grid.now) → IfSome r (λ side. 0 < side)
positive c r e = subst (λ o. IfSome o (λ side. 0 < side)) (sym e) (side-positive c.args.bytes.now (length c.args.grid.now))

pub returns-in-Some : goal.returns-in-Some
returns-in-Some c =
    let a = c.args in
    let e = c.in-Some.ensures.cases in
    let yes = sym (prefix-begins a.bytes.now) ∙ e.0 in
    let value = c.read_from.ensures.value ∙ ap (λ l. side_from (Gap None) l (length a.grid.now)) e.1 ∙ side-bitmap a.bytes.now yes (length a.grid.now) in record {
      value = value;
      positive = positive (goal.at.returns-in-Some c).Start c.read_from.result value;
      grid_after = c.read_from.ensures.grid_after ∙ ap (λ l. sets a.grid.now 0 (modules (Gap None) l)) e.1 ∙ ap (sets a.grid.now 0) (modules-bitmap a.bytes.now yes);
    }

pub returns-in-None : goal.returns-in-None
returns-in-None c =
    let a = c.args in
    let no = sym (prefix-begins a.bytes.now) ∙ c.in-None.ensures.cases in
    let value = c.read_from-in-None.ensures.value ∙ side-rows a.bytes.now no (length a.grid.now) in record {
      value = value;
      positive = positive (goal.at.returns-in-None c).Start c.read_from-in-None.result value;
      grid_after = c.read_from-in-None.ensures.grid_after ∙ ap (sets a.grid.now 0) (modules-rows a.bytes.now no);
    }
