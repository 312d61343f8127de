use Rattle.std.proofs.Common.{◌∙◌, ap}
use Rattle.ml_subs.proofs.Counted.{count_low}
use Rattle.ml_subs.proofs.counts.count_of.Goals as goal

pub returns-then-count-least-clause-names : goal.returns-then-count-least-clause-names
returns-then-count-least-clause-names g c = record {
  named = c.count-name.ensures.name;
  damaged = λ told n least fits e.
      let found = c.in-Some.ensures.some in
      let there = c.in_ok-file.ensures.value told ∙ ap (g.F.Files.map c.args.files.now) c.count-name.ensures.name in
      count_low c.in_ok-file.file c.in-Some.count c.args.least n found.0 found.1 c.if-count-least.true least fits (there ∙ e);
}
