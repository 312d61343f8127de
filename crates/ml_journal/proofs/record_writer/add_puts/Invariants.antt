use Rattle.std.proofs.Common.{Ok, take}
use Rattle.ml_journal.specs.Buffering.{Buffers}
use Rattle.ml_journal.specs.Records.{spelled_puts}
use Rattle.ml_journal.proofs.record_writer.add_puts.Given as goal

abbrev pub invariant-loop-put : goal.invariant-loop-put
invariant-loop-put g l = Buffers g.S.Site (Ok tt) (spelled_puts (take l.put-index l.puts)) l.initial.writer l.writer l.initial.site l.site
