use Rattle.std.proofs.Common.{◌≡◌, ◌++◌, length}
use Rattle.ml_header.specs.Steps.{AreWhole}
use Rattle.ml_digest.specs.Steps.{named_text}
use Rattle.ml_digest.proofs.messages.add_named.Given as goal

abbrev pub invariant-loop-field : goal.invariant-loop-field
invariant-loop-field l = record {
  whole : AreWhole l.fields;
  text_is : l.out ++ named_text l.name l.fields ≡ l.initial.out ++ named_text l.name l.initial.fields;
}

abbrev pub decreases-loop-field : goal.decreases-loop-field
decreases-loop-field l = length l.fields
