use Rattle.ml_subs.proofs.Represented.{added, removed, kept_elsewhere, others_kept}
use Rattle.ml_subs.proofs.laws.law_changes.Goals as goal

pub returns-clause-added : goal.returns-clause-added
returns-clause-added c = added

pub returns-clause-removed : goal.returns-clause-removed
returns-clause-removed c = removed

pub returns-clause-elsewhere : goal.returns-clause-elsewhere
returns-clause-elsewhere c = kept_elsewhere

pub returns-clause-others : goal.returns-clause-others
returns-clause-others c = others_kept
