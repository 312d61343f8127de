use Rattle.std.proofs.Common.{refl}
use Rattle.ml_bounce.specs.Changes.{is_warned}
use Rattle.ml_bounce.specs.Ledger.{LedgerEntry, WarnFailed}
use Rattle.ml_bounce.proofs.Leading.{entry_made}
use Rattle.ml_bounce.proofs.entry_changes.warn_failed_in.Goals as goal

pub returns : goal.returns
returns c =
    let e = c.in_ok-entry.entry in
    entry_made (λ (f : LedgerEntry). is_warned c.args.t f.stage) (λ f. record f { stage = WarnFailed c.args.now }) (λ f. refl) c.args.set c.args.bucket.now.key c.args.bucket.now.entries c.is_warned.result e
    (record e { stage = WarnFailed c.args.now }) c.in_ok-put_entry.field-0 c.in_ok-entry.ensures c.is_warned.ensures c.if-not-is_warned.false refl c.in_ok-put_entry.ensures
