use Rattle.ml_bounce.specs.Answers.{ledger_kind}
use Rattle.ml_bounce.specs.Files.{ledger_name}
use Rattle.ml_bounce.proofs.Exact.{bucket_read, bucket_unread}
use Rattle.ml_bounce.proofs.buckets.read_bucket.Goals as goal

pub returns-in-Some-clause-value : goal.returns-in-Some-clause-value
returns-in-Some-clause-value g c told =
    bucket_read (g.F.Files.map c.args.files.now) c.file_name-name.result (ledger_name (ledger_kind c.args.set) c.args.n) c.args.n c.in_ok-file.file c.text_of.result.now c.in_ok-entries.field-0 c.in-Some.entries
    c.file_name-name.ensures.name (c.in_ok-file.ensures.value told) c.text_of.ensures c.in_ok-entries.ensures c.in-Some.is

pub returns-clause-names : goal.returns-clause-names
returns-clause-names g c = record {
  named = c.file_name-name.ensures.name;
  damaged = λ told.
      bucket_unread (g.F.Files.map c.args.files.now) c.file_name-name.result (ledger_name (ledger_kind c.args.set) c.args.n) c.args.n c.in_ok-file.file c.text_of.result.now c.in_ok-entries.field-0
      c.file_name-name.ensures.name (c.in_ok-file.ensures.value told) c.text_of.ensures c.in_ok-entries.ensures c.in-None.is;
}
