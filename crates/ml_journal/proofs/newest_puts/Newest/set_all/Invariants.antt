use Rattle.std.proofs.Common.{◌≡◌}
use Rattle.ml_base.specs.Dir.{Dir, with_puts}
use Rattle.ml_journal.specs.Newest.{with_newest}
use Rattle.ml_journal.proofs.newest_puts.Newest.set_all.Given as goal

abbrev pub invariant-loop-put : goal.invariant-loop-put
invariant-loop-put l = (dir : Dir) → with_newest l.self.puts dir ≡ with_puts (with_newest l.initial.self.puts dir) l.yielded
