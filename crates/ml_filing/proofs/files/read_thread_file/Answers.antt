use Rattle.std.proofs.Common.{◌∙◌, ap, sym}
use Rattle.ml_filing.specs.Reading.{threads_in}
use Rattle.ml_filing.proofs.Exact.{threads_found, threads_lost, threads_read}
use Rattle.ml_filing.proofs.files.read_thread_file.Goals as goal

pub returns-in-Some-clause-value : goal.returns-in-Some-clause-value
returns-in-Some-clause-value g c told =
    threads_found (g.F.Files.map c.args.files.now) c.args.n c.threads-name.result c.in_ok-file.file c.text_of.result.now c.in_ok-threads.field-0 c.in-Some.threads c.threads-name.ensures.name (c.in_ok-file.ensures.value told) c.text_of.ensures c.in_ok-threads.ensures
    c.in-Some.is

pub returns-clause-names : goal.returns-clause-names
returns-clause-names g c = record {
  named = c.threads-name.ensures.name;
  damaged = λ told.
      threads_lost (g.F.Files.map c.args.files.now) c.args.n c.threads-name.result c.in_ok-file.file c.text_of.result.now c.in_ok-threads.field-0 c.threads-name.ensures.name (c.in_ok-file.ensures.value told) c.text_of.ensures c.in_ok-threads.ensures c.in-None.is;
}

pub returns-in-Some-clause-each : goal.returns-in-Some-clause-each
returns-in-Some-clause-each g c =
    (threads_read c.args.n c.in_ok-file.file c.in-Some.threads (ap (threads_in c.args.n) (sym c.text_of.ensures) ∙ sym c.in_ok-threads.ensures ∙ c.in-Some.is)).each
