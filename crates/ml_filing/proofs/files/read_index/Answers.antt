use Rattle.ml_filing.proofs.Looking.{index_found, index_lost}
use Rattle.ml_filing.proofs.files.read_index.Goals as goal

pub returns-in-Some-clause-value : goal.returns-in-Some-clause-value
returns-in-Some-clause-value g c told =
    index_found (g.F.Files.map c.args.files.now) c.args.group c.index-name.result c.in_ok-file.file c.text_of.result.now c.in_ok-entries.field-0 c.in-Some.entries c.index-name.ensures.name (c.in_ok-file.ensures.value told) c.text_of.ensures c.in_ok-entries.ensures
    c.in-Some.is

pub returns-clause-names : goal.returns-clause-names
returns-clause-names g c = record {
  named = c.index-name.ensures.name;
  damaged = λ told.
      index_lost (g.F.Files.map c.args.files.now) c.args.group c.index-name.result c.in_ok-file.file c.text_of.result.now c.in_ok-entries.field-0 c.index-name.ensures.name (c.in_ok-file.ensures.value told) c.text_of.ensures c.in_ok-entries.ensures c.in-None.is;
}
