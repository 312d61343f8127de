use Rattle.std.proofs.Common.{◌∙◌, ap}
use Rattle.ml_base.specs.Address.{key}
use Rattle.ml_base.specs.Bytes.{Text}
use Rattle.ml_bounce.specs.Changes.{is_probed}
use Rattle.ml_bounce.specs.Ledger.{entry_under}
use Rattle.ml_bounce.proofs.Leading.{probed_some, probed_there}
use Rattle.ml_bounce.proofs.Ledgers.{bucket_in}
use Rattle.ml_bounce.proofs.bounces.is_probed_at.Goals as goal

pub returns-clause-read : goal.returns-clause-read
returns-clause-read g c told = (
  c.in_ok-bucket.bucket.entries,
  c.in_ok-bucket.ensures.value told,
  probed_some (key c.args.who.now) c.args.t c.in_ok-bucket.bucket.entries c.is_probed_in.result
      (c.is_probed_in.ensures ∙ ap (λ (k : Text). is_probed c.args.t (entry_under k c.in_ok-bucket.bucket.entries).stage) c.in_ok-bucket.ensures.key),
)

pub returns-clause-value : goal.returns-clause-value
returns-clause-value g c told dir ledger same is =
    let k = key c.args.who.now in
    let read = returns-clause-read g c told in
    read.2 ∙ probed_there dir c.args.set k read.0 ledger (bucket_in dir (g.F.Files.map c.args.files.now) c.args.set k read.0 same read.1) is c.args.t
