use Rattle.std.proofs.Common.{sym, arith}
use Rattle.ml_split.proofs.RuleLines.{bucket_small}
use Rattle.ml_split.proofs.rule_reader.read_bucket.Goals as goal

pub overflow_cast-result : goal.overflow_cast-result
overflow_cast-result c = omega (arith, bucket_small c.args.text.now c.in_ok-bucket.bucket (sym c.in_ok-bucket.ensures))
