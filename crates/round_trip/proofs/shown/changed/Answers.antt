-- The three cases of a module.
-- Assumes nothing.
use Rattle.std.proofs.Common.{sym, ap, ◌∙◌, ◌<◌, ◌≤◌, subst}
use Rattle.std.specs.Option.{is_some}
use borrow.Author.Tests.{ltb-true, ltb-false}
use Rattle.round_trip.specs.Changes.{entry-any, stays-beyond, stays-above, changes-to}
use Rattle.round_trip.proofs.shown.changed.Goals as goal

pub returns-in-Some : goal.returns-in-Some
returns-in-Some c =
    let a = c.args in
    let at = c.in-Some.ensures.lookup in
    let inside = ltb-true _ _ (sym at.0) in
    let is = at.1 ∙ entry-any a.changes.now a.k _ 0 inside in
    is ∙ changes-to a.changes.now a.k a.was inside (subst (λ x. x ≤ 2) is c.if-change-le-UNREAD.true)

pub returns-in_default : goal.returns-in_default
returns-in_default c =
    let a = c.args in
    let at = c.in-Some.ensures.lookup in
    let inside = ltb-true _ _ (sym at.0) in
    let is = at.1 ∙ entry-any a.changes.now a.k _ 0 inside in
    stays-above a.changes.now a.k a.was inside (subst (λ x. 2 < x) is c.if-change-le-UNREAD.false)

pub returns-in_default-2 : goal.returns-in_default-2
returns-in_default-2 c =
    let a = c.args in
    stays-beyond a.changes.now a.k a.was (ltb-false _ _ (sym c.get.ensures.lookup.0 ∙ ap is_some c.in_default.is))
