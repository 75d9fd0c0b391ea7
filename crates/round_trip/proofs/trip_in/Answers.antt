-- The encoder answers as planned, since its buffer has room; its tag is the made one.
-- Assumes nothing.
use Rattle.std.proofs.Common.{◌≡◌, sym, ap, ◌∙◌, [], ◌*◌, ◌≤◌, arith, length, length-take-le}
use Rattle.stream.specs.Below.{Bytes, below_of}
use Rattle.symbol.specs.DataPlaces.{side-most}
use Rattle.encoder.specs.Plan.{plan_of}
use Rattle.encoder.specs.EncodeLaws.{Answered, answered, square-small}
use Rattle.decoder.specs.Decode.{refused}
use Rattle.round_trip.specs.MadeTag.{encode-planned}
use Rattle.round_trip.specs.RoundTrip.{trip-refused, trip-read}
use Rattle.round_trip.proofs.trip_in.Goals as goal
use Rattle.round_trip.proofs.trip_in.Goals.{After-encode-answer, Else-answer-ne0, Start}

abbrev start : After-encode-answer → Start
start e = (goal.at.After-encode-answer e).Start

bytes : (e : After-encode-answer) → Bytes (start e).args.message.now
bytes e =
    below_of 256 (start e).args.message.now (λ i h. omega (arith, e.type_inv.message i))

planned : (e : After-encode-answer) → e.encode-answer.result ≡ plan_of (start e).args.message.now (start e).args.percent
planned e =
    let s = start e in
    e.encode-answer.ensures.value ∙ encode-planned s.args.message.now s.args.percent (bytes e) s.args.made.now s.requires.0

-- a tag was made
abbrev encoded : Else-answer-ne0 → After-encode-answer
encoded c = (goal.at.Else-answer-ne0 c).After-encode-answer

known : (c : Else-answer-ne0) → Answered (start (encoded c)).args.message.now (encoded c).encode-answer.result
known c =
    let e = encoded c in
    answered (start e).args.message.now (start e).args.percent (bytes e) e.encode-answer.result (planned e) c.if-answer-ne0.false

narrow : (c : Else-answer-ne0) → (encoded c).encode-answer.result.side ≤ 151
narrow c = omega (arith, (known c).side-is, side-most _ _ (known c).fits.shaped)

-- and it lies at the front of both grids
made-room : (c : Else-answer-ne0) → let n = (encoded c).encode-answer.result.side in n * n ≤ length (encoded c).encode-answer.new.grid
made-room c = omega (arith, square-small (known c), (encoded c).encode-answer.auto, (start (encoded c)).requires.0)

tag-room : (c : Else-answer-ne0) → let n = (encoded c).encode-answer.result.side in n * n ≤ length (start (encoded c)).args.tag.now
tag-room c = omega (arith, square-small (known c), (start (encoded c)).requires.1)

pub returns-then-answer-ne0 : goal.returns-then-answer-ne0
returns-then-answer-ne0 c =
    let e = (goal.at.returns-then-answer-ne0 c).After-encode-answer in
    let a = (start e).args in
    let t =
    trip-refused a.message.now a.percent a.position a.changes.now a.read.now
    (λ z. c.if-answer-ne0.true (ap (λ r. r.number) (planned e) ∙ z)) in record {
      value = c.refused.ensures ∙ ap (λ r. (refused r.number []).answer) (planned e) ∙ sym (ap (λ r. r.answer) t);
      read_after = sym (ap (λ r. r.message) t);
    }

pub overflow_mul-area : goal.overflow_mul-area
overflow_mul-area c = omega (arith, square-small (known c))

pub slice_bounds-read_shown-end : goal.slice_bounds-read_shown-end
slice_bounds-read_shown-end c = made-room c

pub slice_bounds-read_shown-end-2 : goal.slice_bounds-read_shown-end-2
slice_bounds-read_shown-end-2 c = sym (length-take-le _ _ (made-room (goal.at.slice_bounds-read_shown-end-2 c).Else-answer-ne0))

pub slice_bounds-read_shown-end-3 : goal.slice_bounds-read_shown-end-3
slice_bounds-read_shown-end-3 c = tag-room (goal.at.slice_bounds-read_shown-end-3 c).Else-answer-ne0

pub slice_bounds-read_shown-end-4 : goal.slice_bounds-read_shown-end-4
slice_bounds-read_shown-end-4 c = sym (length-take-le _ _ (tag-room (goal.at.slice_bounds-read_shown-end-4 c).Else-answer-ne0))

pub read_shown-requires : goal.read_shown-requires
read_shown-requires c =
    let m = (goal.at.read_shown-requires c).Else-answer-ne0 in
    (narrow m, (start (encoded m)).requires.2, sym (length-take-le _ _ (made-room m)), sym (length-take-le _ _ (tag-room m)))

pub returns : goal.returns
returns c =
    let m = (goal.at.returns c).Else-answer-ne0 in
    let e = encoded m in
    let a = c.args in
    let t =
    trip-read a.message.now a.percent a.position a.changes.now a.read.now (bytes e) a.made.now c.requires.0
    (sym (ap (λ r. r.number) (planned e)) ∙ c.if-answer-ne0.false) c.encode-answer.result (planned e) _ c.encode-answer.ensures.grid_after in record {
      value = c.read_shown.ensures.value ∙ ap (λ r. r.answer) t;
      read_after = c.read_shown.ensures.read_after ∙ ap (λ r. r.message) t;
    }
