use Rattle.std.proofs.Common.{◌≡◌, ◌++◌, length, take}
use Rattle.ml_mbox.specs.Quoting.{quoted}
use Rattle.ml_mbox.proofs.quotes.add_quoted.Given as goal

abbrev pub invariant-loop-line : goal.invariant-loop-line
invariant-loop-line l = record {
  text_is : l.out ++ quoted l.rest ≡ l.initial.out ++ quoted l.text;
  front : take (length l.initial.out) l.out ≡ l.initial.out;
}

abbrev pub decreases-loop-line : goal.decreases-loop-line
decreases-loop-line l = length l.rest
