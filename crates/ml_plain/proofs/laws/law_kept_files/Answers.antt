use Rattle.ml_plain.proofs.KeptExact.{floor_exact, slot_there, slot_is}
use Rattle.ml_plain.proofs.laws.law_kept_files.Goals as goal

pub returns-clause-floor : goal.returns-clause-floor
returns-clause-floor c = floor_exact

pub returns-clause-slot : goal.returns-clause-slot
returns-clause-slot c = slot_there

pub returns-clause-only : goal.returns-clause-only
returns-clause-only c = slot_is
