use Rattle.std.proofs.Common.{◌∙◌, subst}
use Rattle.ml_base.specs.Bytes.{Text}
use Rattle.ml_bounce.specs.Answers.{IsBucketOf}
use Rattle.ml_bounce.proofs.buckets.open_bucket.Goals as goal

pub returns-clause-value : goal.returns-clause-value
returns-clause-value g c told =
    subst (λ (k : Text). IsBucketOf (g.F.Files.map c.args.files.now) c.args.set k c.in_ok-entries.entries) (c.as_slice.ensures ∙ c.in_ok-key.ensures.key) (c.in_ok-entries.ensures.value told)
