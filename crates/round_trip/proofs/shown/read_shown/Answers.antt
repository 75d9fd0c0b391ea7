-- Turned upright from the position that takes it back, the tag is in the position; the rest is damage's and decode's.
-- Assumes nothing.
use Rattle.std.proofs.Common.{sym, ap, ◌∙◌, subst, ◌*◌, ◌<◌, arith}
use Rattle.list_laws.specs.Writes.{writes}
use Rattle.symbol.specs.GridWords.{module_at}
use Rattle.decoder.specs.Decode.{decode_of}
use Rattle.round_trip.specs.Changes.{damaged}
use Rattle.round_trip.specs.Placing.{back-lt, placed-by-back}
use Rattle.round_trip.proofs.shown.read_shown.Goals as goal
use Rattle.round_trip.proofs.shown.read_shown.Goals.{After-back_of, Start}

abbrev start : After-back_of → Start
start c = (goal.at.After-back_of c).Start

pub numbered-back-requires : goal.numbered-back-requires
numbered-back-requires c =
    let b = (goal.at.numbered-back-requires c).After-back_of in
    let s = start b in
    subst (λ q. q < 8) (sym b.back_of.ensures) (back-lt s.args.position s.requires.1)

pub turn_upright-requires : goal.turn_upright-requires
turn_upright-requires c = (c.requires.0, c.requires.2, omega (arith, c.requires.3))

pub returns : goal.returns
returns c =
    let a = c.args in
    let e =
    c.damage.ensures
    ∙ ap (λ g. damaged g a.changes.now)
    (c.turn_upright.ensures
    ∙ ap (λ q. writes a.tag.now (λ k. k) (module_at a.side q a.made.now) (a.side * a.side)) (c.numbered-back.ensures ∙ c.back_of.ensures)
    ∙ placed-by-back a.side a.position a.made.now a.tag.now (sym c.requires.3)) in record {
      value = c.decode.ensures.value ∙ ap (λ g. (decode_of g a.side a.read.now).answer) e;
      read_after = c.decode.ensures.message_after ∙ ap (λ g. (decode_of g a.side a.read.now).message) e;
    }
