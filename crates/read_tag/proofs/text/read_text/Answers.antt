-- The front of the grid is the modules that the bytes say.
use Rattle.std.proofs.Common.{◌*◌, take, sym, ap, rules, length, ◌≡◌, ◌∙◌, Some}
use Rattle.grid_text.specs.Grid.{side_of}
use Rattle.grid_text.specs.GridLaws.{front-is}
use Rattle.read_tag.specs.Within.{read_within}
use Rattle.read_tag.specs.TextLaws.{no-grid, tag_read}
use Rattle.read_tag.proofs.text.read_text.Goals as goal

pub returns-in_err-modules : goal.returns-in_err-modules
returns-in_err-modules c =
    let long : length c.args.grid.now ≡ 65025 = search rules in
    let none = sym (c.in_err-modules.ensures.value ∙ ap (side_of c.args.bytes.now) long) in
    let says = no-grid c.args.bytes.now c.args.message.now none in record {
      value = c.from_residual.ensures ∙ says.0;
      message_after = says.1;
    }

pub returns : goal.returns
returns c =
    let bytes = c.args.bytes.now in
    let buffer = c.args.message.now in
    let n = c.from-side.result in
    let given = sym (ap Some c.from-side.ensures ∙ c.in_ok-modules.ensures.value) in
    let front = c.in_ok-modules.ensures.grid_after in
    let tag = ap (λ l. read_within l n buffer) (ap (take (n * n)) front ∙ front-is bytes c.args.grid.now n given) in
    let long : length c.args.grid.now ≡ 65025 = search rules in
    let says = tag_read bytes buffer n (sym (ap (side_of bytes) long) ∙ given) in record {
      value = ap Some (c.read_within.ensures.value ∙ ap (λ s. s.answer) tag) ∙ says.0;
      message_after = c.read_within.ensures.message_after ∙ ap (λ s. s.message) tag ∙ says.1;
    }
