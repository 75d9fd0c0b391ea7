-- The generator of the first k roots stands in front; the rest is as it was.
-- Assumes nothing.
use Rattle.std.proofs.Common.{rules, ◌≡◌, ap, ◌∙◌, arith, length}
use Rattle.finite_field.specs.Field.{size_of}
use Rattle.check_words.proofs.Generating.{generating, generating-none, generating-words, generating-next, generating-all}
use Rattle.check_words.proofs.make_generator.Goals as goal

pub loop-k-init : goal.loop-k-init
loop-k-init c = (search rules, generating-none _ _)

pub add_root-requires : goal.add_root-requires
add_root-requires c =
    let l = c.loop-k in record {
      words = generating-words (size_of c.args.field.now.size) c.args.g.now l.k l.invariant.1;
      k_bound_1 = omega arith;
      k_bound_2 = omega arith;
    }

pub loop-k-preserved : goal.loop-k-preserved
loop-k-preserved c =
    let l = c.loop-k in (
      search rules,
      generating-next (size_of c.args.field.now.size) c.args.g.now l.k l.invariant.1 c.add_root.ensures,
    )

pub returns : goal.returns
returns c =
    let done : c.loop-k.k ≡ length c.args.g.now = omega arith in
    c.loop-k.invariant.1 ∙ ap (generating (size_of c.args.field.now.size) c.args.g.now) done ∙ generating-all (size_of c.args.field.now.size) c.args.g.now
