use Rattle.std.proofs.Common.{◌∙◌, ap}
use Rattle.ml_base.specs.Address.{key}
use Rattle.ml_base.specs.Bytes.{Text}
use Rattle.ml_base.specs.Dir.{same_name}
use Rattle.ml_base.specs.Name.{is_file}
use Rattle.ml_base.proofs.Bools.{name_itself}
use Rattle.ml_bounce.specs.Answers.{key_file, forgets}
use Rattle.ml_bounce.specs.Files.{bucket_of}
use Rattle.ml_keyed.proofs.Keys.{bucket_below}
use Rattle.ml_bounce.proofs.Ledgers.{bucket_in, forgotten_by, forgets_only, ledger_file_of}
use Rattle.ml_bounce.proofs.entry_removals.forget.Goals as goal

pub returns-clause-read : goal.returns-clause-read
returns-clause-read g c told = (
  c.in_ok-bucket.bucket.entries,
  c.in_ok-bucket.ensures.value told,
  c.in_ok-forgotten.ensures ∙ ap (λ (k : Text). forgets c.args.set k c.in_ok-bucket.bucket.entries) c.in_ok-bucket.ensures.key,
)

pub returns-clause-value : goal.returns-clause-value
returns-clause-value g c told dir ledger same is =
    let read = returns-clause-read g c told in
    forgotten_by dir c.args.set (key c.args.who.now) read.0 ledger c.in_ok-forgotten.field-0 (bucket_in dir (g.F.Files.map c.args.files.now) c.args.set (key c.args.who.now) read.0 same read.1) read.2 is

pub returns-clause-others : goal.returns-clause-others
returns-clause-others g c =
    forgets_only (λ name. same_name name (key_file c.args.set (key c.args.who.now))) c.args.set (key c.args.who.now) c.in_ok-bucket.bucket.entries c.in_ok-forgotten.field-0 (name_itself (key_file c.args.set (key c.args.who.now)))
    (c.in_ok-forgotten.ensures ∙ ap (λ (k : Text). forgets c.args.set k c.in_ok-bucket.bucket.entries) c.in_ok-bucket.ensures.key)

pub returns-clause-files : goal.returns-clause-files
returns-clause-files g c =
    forgets_only is_file c.args.set (key c.args.who.now) c.in_ok-bucket.bucket.entries c.in_ok-forgotten.field-0 (ledger_file_of c.args.set (bucket_of (key c.args.who.now)) c.requires (bucket_below (key c.args.who.now)))
    (c.in_ok-forgotten.ensures ∙ ap (λ (k : Text). forgets c.args.set k c.in_ok-bucket.bucket.entries) c.in_ok-bucket.ensures.key)
