use Rattle.std.proofs.Common.{◌≡◌, ◌<◌, ◌^◌, length, take}
use Rattle.ml_journal.specs.Records.{spelled_puts}
use Rattle.ml_journal.proofs.record_writer.puts_size.Given as goal

abbrev pub invariant-loop-put : goal.invariant-loop-put
invariant-loop-put l = (l.size ≡ length (spelled_puts (take l.put-index l.puts))) × (l.size < 10 ^ 18)
