-- A text that is cut in two, and one that isn't.
use Rattle.std.proofs.Common.{Option, Some, None}
use Rattle.ml_base.specs.Bytes.{Text}

abbrev pub two : Text → Text → Option (Text × Text)
two a b = Some (a, b)

abbrev pub no_two : Option (Text × Text)
no_two = None
