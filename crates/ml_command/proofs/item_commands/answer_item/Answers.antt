use Rattle.std.proofs.Common.{IsTrue}
use Rattle.ml_journal.specs.Log.{directory}
use Rattle.ml_run.proofs.Named.{names_map}
use Rattle.ml_run.specs.Batches.{IsOfNext}
use Rattle.ml_run.specs.Single.{IsAlone}
use Rattle.ml_command.specs.Single.{IsOwn}
use Rattle.ml_command.proofs.OneItem.{answers_it, no_input, own_item}
use Rattle.ml_command.proofs.item_commands.answer_item.Goals as goal

pub returns : goal.returns
returns g c =
    let item = c.args.item in
    let r = c.run_item-site.ensures in
    let status = c.run_item-site.result.0.status in
    let answered = c.run_item-site.result.0.answered in
    let told = IsTrue g.S.Site.tells_all in
    let old = g.S.Site.disk c.args.site in
    let new = g.S.Site.disk c.run_item-site.result.1 in
    let output = g.S.Site.output c.run_item-site.result.1 in record {
      answered = answered;
      known = r.known;
      few = r.few;
      done = r.done;
      whole = r.whole;
      complete = λ t q s. answers_it told status answered new.reads output item q (g.S.Site.output c.args.site) (no_input status r.known) (r.complete t q s);
      instants = r.instants;
      at_rest = r.at_rest;
      anywhere = r.anywhere;
      answers = r.answers;
      rest = r.closed.rest;
      settled = r.closed.settled;
      of_disk = r.counts.of_disk;
      of_output = r.counts.of_output;
      named = λ t e. names_map told (IsOfNext (IsAlone item) answered) (IsOwn item) (directory old.reads) (directory new.reads) output (λ files who name of. own_item answered item files who name of) (r.refusals.named t e);
      gate = r.closed.gate;
      nolist = r.refusals.nolist;
      syncs = r.syncs;
    }
