-- Places of a kind that a walk over the files may skip.
use Rattle.std.proofs.Common.{◌∙◌, ◌≤◌, ℕ, List, Result, Ok, Err, IfOk, false, arith}
use Rattle.ml_base.specs.Absent.{NoneOf, NoPutOf}
use Rattle.ml_base.specs.Dir.{Dir, with_puts}
use Rattle.ml_base.specs.declared.puts.Put.{Put}
use Rattle.ml_base.proofs.Laid.{untouched}

-- if no put names a file of a range, and the files below a layer have none there, then the layer has none there either
pub none_laid : {E : Type 0} (dir : Dir) (puts : List Put) (kind from end : ℕ) (result : Result ℕ E) → NoPutOf puts kind from end → IfOk result (λ at. (from ≤ at) × (at ≤ end)) → IfOk result (NoneOf dir kind from)
    → IfOk result (NoneOf (with_puts dir puts) kind from)
none_laid dir puts kind from end (Ok n) named range none = λ at up below. untouched dir puts (record { kind = kind; at = at }) (named at up (omega (arith, below, range.1))) ∙ none at up below
none_laid dir puts kind from end (Err e) named range none = tt
