use Rattle.std.proofs.Common.{◌≡◌, ◌∙◌, ◌++◌, Some, None, ap, sym, subst}
use Rattle.std.specs.Prelude.{IsErrAnd, IsOkAnd}
use Rattle.ml_base.specs.Bytes.{Text}
use Rattle.ml_journal.specs.Calls.{ChangesDirectory, Keeps}
use Rattle.ml_journal.specs.Log.{directory}
use Rattle.ml_journal.specs.Stores.{site_of}
use Rattle.ml_journal.specs.declared.errors.CommitError.TheVariants as commits
use Rattle.ml_ending.specs.declared.lines.Why.{Why}
use Rattle.ml_ending.proofs.Said.{at_site}
use Rattle.ml_run.specs.Settling.{IsRefused, IsUnsettled, LeavesSettling}
use Rattle.ml_run.proofs.Leaving.{answers_leave, commit_leaves}
use Rattle.ml_run.proofs.Settled.{answers_refused, commit_cause, commit_refused, spends_on}
use Rattle.ml_run.proofs.batch_commit.settle.Goals as goal

pub returns-in-Ok-give-clause-done : goal.returns-in-Ok-give-clause-done
returns-in-Ok-give-clause-done g c =
    let start = site_of c.args.store in record {
      dir = λ t. ap directory (c.give.ensures.disk.reads t) ∙ c.in-Ok.ensures.done t;
      put = λ t. c.in-Ok-give.ensures.ok t ∙ ap (λ (o : Text). o ++ c.args.lines.now) (at_site (λ s. g.S.Site.output s ≡ g.S.Site.output start) c.commit_owned.result _ c.in-Ok.is (c.commit_owned.ensures.keeps.output t));
      spends = λ t. spends_on g.S.Site _ _ start (site_of c.in-Ok.committed) (site_of c.give.new.self) t (g.met.S.Site.all_has_reads t) (c.in-Ok.ensures.spends t) c.give.ensures.disk;
    }

pub returns-in-Ok-give-clause-instants : goal.returns-in-Ok-give-clause-instants
returns-in-Ok-give-clause-instants g c =
    let start = site_of c.args.store in
    answers_leave g.S.Site start (site_of c.in-Ok.committed) (site_of c.give.new.self) c.args.txn c.args.lines.now g.met.S.Site.all_has_reads
    (at_site (ChangesDirectory g.S.Site c.args.txn start) c.commit_owned.result _ c.in-Ok.is c.commit_owned.ensures.directory) c.in-Ok.ensures.done
    (λ t. at_site (λ s. g.S.Site.output s ≡ g.S.Site.output start) c.commit_owned.result _ c.in-Ok.is (c.commit_owned.ensures.keeps.output t)) c.give.ensures.instants

pub returns-in-Err-give-clause-refused : goal.returns-in-Err-give-clause-refused
returns-in-Err-give-clause-refused g c =
    let start = site_of c.args.store in
    subst (IsUnsettled g.S.Site c.args.txn c.args.lines.now None start) (sym c.leave.ensures.site)
    (answers_refused g.S.Site _ start (site_of c.in-Ok.committed) (site_of c.give.new.self) c.args.txn c.args.lines.now c.in-Ok.ensures.done
    (at_site (Keeps g.S.Site 5 _ start) c.commit_owned.result _ c.in-Ok.is c.commit_owned.ensures.keeps) c.give.ensures.disk c.in-Err-give.ensures.err c.in-Err-give.ensures.cause)

pub returns-in-Err-give-clause-instants : goal.returns-in-Err-give-clause-instants
returns-in-Err-give-clause-instants g c =
    let start = site_of c.args.store in
    subst (LeavesSettling g.S.Site c.args.txn c.args.lines.now start) (sym c.leave.ensures.site)
    (answers_leave g.S.Site start (site_of c.in-Ok.committed) (site_of c.give.new.self) c.args.txn c.args.lines.now g.met.S.Site.all_has_reads
    (at_site (ChangesDirectory g.S.Site c.args.txn start) c.commit_owned.result _ c.in-Ok.is c.commit_owned.ensures.directory) c.in-Ok.ensures.done
    (λ t. at_site (λ s. g.S.Site.output s ≡ g.S.Site.output start) c.commit_owned.result _ c.in-Ok.is (c.commit_owned.ensures.keeps.output t)) c.give.ensures.instants)

pub returns-in-Err-clause-refused : goal.returns-in-Err-clause-refused
returns-in-Err-clause-refused g c =
    let start = site_of c.args.store in
    let keeps = at_site (Keeps g.S.Site 5 _ start) c.commit_owned.result _ c.in-Err.is c.commit_owned.ensures.keeps in
    commit_refused g.S.Site _ start c.in-Err.site c.args.txn c.args.lines.now c.why_refused.result
    (at_site (ChangesDirectory g.S.Site c.args.txn start) c.commit_owned.result _ c.in-Err.is c.commit_owned.ensures.directory) keeps
    (subst (λ (w : Why). IsRefused g.S.Site (Some w) start c.in-Err.site) (sym c.why_refused.ensures)
    (commit_cause g.S.Site c.in-Err.error start c.in-Err.site (λ e. keeps.cause (subst (λ r. IsErrAnd r (λ x. x.0 ≡ commits.Fault)) (sym c.in-Err.is) e))))
    (λ none. subst (λ r. IsOkAnd r (λ store. site_of store ≡ start)) c.in-Err.is (c.commit_owned.ensures.empty none))

pub returns-in-Err-clause-instants : goal.returns-in-Err-clause-instants
returns-in-Err-clause-instants g c =
    let start = site_of c.args.store in
    commit_leaves g.S.Site start c.in-Err.site c.args.txn c.args.lines.now (at_site (ChangesDirectory g.S.Site c.args.txn start) c.commit_owned.result _ c.in-Err.is c.commit_owned.ensures.directory)
