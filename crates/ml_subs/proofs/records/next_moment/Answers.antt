use Rattle.std.proofs.Common.{refl}
use Rattle.ml_subs.proofs.records.next_moment.Goals as goal

pub returns-in-Undated : goal.returns-in-Undated
returns-in-Undated c = rw c.in-Undated.is refl
