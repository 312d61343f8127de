use Rattle.std.proofs.Common.{refl, arith}
use Rattle.ml_base.proofs.maps.MapFilesFiles.get.Goals as goal

pub returns-then-fails-clause-kept : goal.returns-then-fails-clause-kept
returns-then-fails-clause-kept c = record { dir = refl; failing = c.fails.ensures.failing; made = c.fails.ensures.later; faults = omega arith }

pub returns-in_err-copied-clause-kept : goal.returns-in_err-copied-clause-kept
returns-in_err-copied-clause-kept c = record { dir = refl; failing = c.fails.ensures.failing; made = c.fails.ensures.later; faults = omega arith }

pub returns-clause-kept : goal.returns-clause-kept
returns-clause-kept c = record { dir = refl; failing = c.fails.ensures.failing; made = c.fails.ensures.later; faults = omega arith }
