use Rattle.std.proofs.Common.{refl, IsTrue, arith}
use Rattle.ml_command.proofs.Statuses.{keeps, back, known, misses}
use Rattle.ml_command.proofs.spool_command.spool.Goals as goal

pub returns : goal.returns
returns g c =
    let run = c.run-site.result.0.status in
    let status = c.exit_status.result in
    let is = c.exit_status.ensures in record {
      answered = c.run-site.result.0.answered;
      run = run;
      status_is = is;
      known = known run status is c.run-site.ensures.counts.statuses;
      few = c.run-site.ensures.counts.few;
      whole = c.run-site.ensures.whole;
      complete = c.run-site.ensures.complete;
      instants = c.run-site.ensures.crashes.instants;
      at_rest = c.run-site.ensures.crashes.at_rest;
      rest = λ none one two. c.run-site.ensures.closed.rest none (λ e. one (keeps run status 71 is refl e)) (λ e. two (keeps run status 73 is refl e));
      settled = c.run-site.ensures.closed.settled;
      anywhere = c.run-site.ensures.anywhere;
      taken = λ told all ending q b.
          let t = c.run-site.ensures.taken told all ending q b in
          record { taken = t.taken; rest = t.rest; before_is = t.before_is; after_is = t.after_is; items = t.items; ending = t.ending; stream = t.stream; holds = (t.holds.0, λ e. t.holds.1 (back run status 74 is (omega arith) e)) };
      of_input = λ e. c.run-site.ensures.counts.of_input (back run status 74 is (omega arith) e);
      of_disk = λ e. c.run-site.ensures.counts.site.of_disk (back run status 111 is (omega arith) e);
      of_output = λ e. c.run-site.ensures.counts.site.of_output (back run status 73 is (omega arith) e);
      named = λ t e. c.run-site.ensures.refusals.named t (back run status 75 is (omega arith) e);
      gate = λ some one two three. c.run-site.ensures.closed.gate some (λ e. one (keeps run status 71 is refl e)) (λ e. two (keeps run status 73 is refl e)) (λ e. three (keeps run status 111 is refl e));
      nolist = λ told files found none. misses (IsTrue g.S.Site.tells_all) run status (g.S.Site.output c.args.site) (g.S.Site.output c.run-site.result.1) is (c.run-site.ensures.refusals.nolist told files found none);
      takes = λ bytes left.
          let t = c.run-site.ensures.few bytes left in
          record { taken = t.taken; rest = t.rest; before_is = t.before_is; after_is = t.after_is; items = t.items; ending = t.ending; stream = t.stream; few = t.few; more = λ e. t.more (back run status 72 is (omega arith) e) };
      streamed = c.run-site.ensures.stream.streamed;
      answers = c.run-site.ensures.stream.answers;
      syncs = c.run-site.ensures.syncs;
    }
