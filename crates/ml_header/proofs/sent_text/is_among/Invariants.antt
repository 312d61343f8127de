use Rattle.std.proofs.Common.{◌≡◌, length}
use Rattle.ml_header.specs.Places.{text_of}
use Rattle.ml_header.specs.Rewriting as words
use Rattle.ml_header.specs.Rewriting.{names_of}
use Rattle.ml_header.proofs.sent_text.is_among.Given as goal

abbrev pub invariant-loop-name : goal.invariant-loop-name
invariant-loop-name l = words.is_among (names_of l.rest) (text_of l.field) ≡ words.is_among (names_of l.names) (text_of l.field)

abbrev pub decreases-loop-name : goal.decreases-loop-name
decreases-loop-name l = length l.rest
