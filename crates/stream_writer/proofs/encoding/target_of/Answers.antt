-- The current set if it has the byte, else the first that has.
-- Assumes nothing.
use Rattle.std.proofs.Common.{◌≡◌, true, ◌<◌, rules, tests, arith, sym, ap, ◌∙◌}
use Rattle.stream.specs.Codes.{set_number, set-number-below, code_of, home, coded}
use Rattle.stream.specs.CodeLaws.{coded-in, home-code}
use Rattle.stream.specs.Stream.{target}
use Rattle.stream_writer.proofs.Turns.{coded-no, target-here, target-home}
use Rattle.stream_writer.proofs.encoding.target_of.Goals as goal
use Rattle.stream_writer.proofs.encoding.target_of.Goals.{In_ok-home}

pub returns-in_err-home : goal.returns-in_err-home
returns-in_err-home c = rw c.from_residual.ensures (coded-no c.args.b c.in_err-home.ensures)

-- the first set has the byte
there : (c : In_ok-home) → (code_of (set_number c.in_ok-home.home) c.args.b < 32) × (coded c.args.b ≡ true)
there c =
    let h = c.in_ok-home.home in
    let e = c.in_ok-home.ensures.0 in
    let first : home c.args.b < 5 = omega (arith, e, set-number-below h) in
    let below : code_of (set_number h) c.args.b < 32 = rw e (home-code c.args.b first) in
    (below, coded-in (set_number h) c.args.b (set-number-below h) below)

pub returns-then-eq : goal.returns-then-eq
returns-then-eq c =
    let t = there (goal.at.returns-then-eq c).In_ok-home in
    let same : c.in_ok-home.home ≡ c.args.set = search (rules, tests) in
    let e = c.in_ok-home.ensures in (
      t.1,
      target-here (set_number c.in_ok-home.home) c.args.b t.0 ∙ ap (λ s. target (set_number s) c.args.b) same,
      c.from.ensures ∙ e.1 ∙ ap (λ s. code_of s c.args.b) (sym e.0),
    )

pub returns-in-Some : goal.returns-in-Some
returns-in-Some c =
    let t = there (goal.at.returns-in-Some c).In_ok-home in
    let below : code_of (set_number c.args.set) c.args.b < 32 = omega (arith, c.in-Some.ensures) in
    (t.1, target-here (set_number c.args.set) c.args.b below, c.in-Some.ensures.0)

pub returns-in-None : goal.returns-in-None
returns-in-None c =
    let t = there (goal.at.returns-in-None c).In_ok-home in
    let e = c.in_ok-home.ensures in (
      t.1,
      e.0 ∙ target-home (set_number c.args.set) c.args.b c.in-None.ensures,
      c.from-in-None.ensures ∙ e.1 ∙ ap (λ s. code_of s c.args.b) (sym e.0),
    )
