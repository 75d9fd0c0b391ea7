-- What is left to be read gives what the whole gives; what was refused changed nothing.
use Rattle.std.proofs.Common.{◌≡◌, ◌-◌, length}
use Rattle.read_tag.specs.Within.{read_from, read_within}
use Rattle.read_tag.proofs.within.read_within.Given as goal

abbrev pub invariant-loop-rings : goal.invariant-loop-rings
invariant-loop-rings l = record {
  room : length l.inner ≡ length l.initial.inner;
  kept : l.message ≡ l.initial.message;
  same : read_from l.grid l.side l.initial.message (l.most - l.rings) l.rings l.refusal ≡ read_within l.grid l.side l.initial.message;
}
