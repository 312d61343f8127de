use Rattle.std.proofs.Common.{◌∙◌, refl, sym}
use Rattle.ml_filing.proofs.Exact.{count_read}
use Rattle.ml_filing.proofs.Looking.{count_found, count_lost}
use Rattle.ml_filing.proofs.files.read_count.Goals as goal

pub returns-in-Some-clause-value : goal.returns-in-Some-clause-value
returns-in-Some-clause-value g c told =
    count_found (g.F.Files.map c.args.files.now) c.in_ok-file.file c.text_of.result.now c.count_of.result c.in-Some.count (c.in_ok-file.ensures.value told) c.text_of.ensures c.count_of.ensures c.in-Some.is

pub returns-clause-names : goal.returns-clause-names
returns-clause-names g c = record {
  named = refl;
  damaged = λ told.
      count_lost (g.F.Files.map c.args.files.now) c.in_ok-file.file c.text_of.result.now c.count_of.result (c.in_ok-file.ensures.value told) c.text_of.ensures c.count_of.ensures c.in-None.is;
}

pub returns-in-Some-clause-few : goal.returns-in-Some-clause-few
returns-in-Some-clause-few g c = (count_read c.text_of.result.now c.in-Some.count (sym c.count_of.ensures ∙ c.in-Some.is)).few
