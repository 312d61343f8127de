use Rattle.std.proofs.Common.{◌≡◌, List, Some, rules}
use Rattle.std.proofs.lemmas.Result.{IfOk-weaker}
use Rattle.ml_base.specs.declared.puts.Put.{Put}
use Rattle.ml_bounce.specs.Ledger.{find_entry}
use Rattle.ml_bounce.proofs.Acted.{acted_made}
use Rattle.ml_bounce.proofs.stage_changes.act_in.Goals as goal

pub returns : goal.returns
returns c =
    let bucket = c.args.bucket.now in
    let found : Some c.in-Some.entry.now ≡ find_entry bucket.key bucket.entries = search rules in
    IfOk-weaker _ _ _ (λ (txn : List Put) put. acted_made c.args.set bucket.key bucket.entries c.args.now c.in-Some.entry.now c.in_ok-new.new txn found c.in_ok-new.ensures put) c.settled.ensures
