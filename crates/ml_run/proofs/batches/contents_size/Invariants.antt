use Rattle.std.proofs.Common.{◌≡◌, ◌≤◌, ◌+◌, ◌-◌, ◌^◌, min, drop}
use Rattle.ml_journal.specs.Records.{content_size}
use Rattle.ml_run.proofs.batches.contents_size.Given as goal

abbrev pub invariant-loop-put : goal.invariant-loop-put
invariant-loop-put l = record {
  so_far : min (l.size + content_size (drop l.put-index l.puts)) (2 ^ 64 - 1) ≡ min (content_size l.puts) (2 ^ 64 - 1);
  fits : l.size ≤ 2 ^ 64 - 1;
}
