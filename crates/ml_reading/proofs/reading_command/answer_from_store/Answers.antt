use Rattle.std.proofs.Common.{◌≡◌, subst, sym}
use Rattle.ml_base.specs.Dir.{Dir}
use Rattle.ml_plain.specs.Directory.{IsState}
use Rattle.ml_journal.specs.Log.{directory}
use Rattle.ml_journal.specs.Stores.{site_of, the_dir}
use Rattle.ml_journal.proofs.Held.{some_dir}
use Rattle.ml_reading.specs.Readings.{IsAnswer}
use Rattle.ml_reading.proofs.Given.{same_dir, finished_status, told_reading, finished_reading, told_reads, finished_reads, unread_refusal}
use Rattle.ml_reading.proofs.Outcomes.{finished_gives}
use Rattle.ml_reading.proofs.reading_command.answer_from_store.Goals as goal

pub returns-in-Ok-clause-instants : goal.returns-in-Ok-clause-instants
returns-in-Ok-clause-instants g c t =
    let start = site_of c.args.store in
    let read = site_of c.answer.new.files in
    let kept = c.answer.ensures.kept.kept in
    let told = g.met.S.Site.all_has_reads t in
    let dir = directory (g.S.Site.disk start).reads in
    let answer : IsAnswer (g.Q.Question.meaning c.args.question.now) dir c.in-Ok.text = record { files = the_dir dir; is = some_dir dir (c.requires told); text_is = c.in-Ok.ensures.value told } in
    told_reading g.S.Site start read c.give_text.result.1 (g.Q.Question.meaning c.args.question.now) c.as_slice.result.now c.give_text.result.0 kept.instants (kept.reads told) (kept.output_is t)
    (subst (IsAnswer (g.Q.Question.meaning c.args.question.now) dir) (sym c.as_slice.ensures) answer) c.give_text.ensures t

pub returns-in-Err-clause-instants : goal.returns-in-Err-clause-instants
returns-in-Err-clause-instants g c t =
    let start = site_of c.args.store in
    let read = site_of c.answer.new.files in
    let kept = c.answer.ensures.kept.kept in
    let told = g.met.S.Site.all_has_reads t in
    finished_reading g.S.Site start read c.close_unread.result.1 (g.Q.Question.meaning c.args.question.now) c.in-Err.why c.close_unread.result.0 kept.instants (kept.reads told) (kept.output_is t) c.close_unread.ensures t

pub returns-in-Err-clause-statuses : goal.returns-in-Err-clause-statuses
returns-in-Err-clause-statuses g c = finished_status g.S.Site (site_of c.answer.new.files) c.close_unread.result.1 c.close_unread.result.0 (g.Q.Question.meaning c.args.question.now) c.in-Err.why c.in-Err.ensures.known c.close_unread.ensures

pub returns-in-Ok-clause-given : goal.returns-in-Ok-clause-given
returns-in-Ok-clause-given g c told =
    let start = site_of c.args.store in
    let kept = c.answer.ensures.kept.kept in
    let m = g.Q.Question.meaning c.args.question.now in
    let dir = directory (g.S.Site.disk start).reads in
    let answer : IsAnswer m dir c.in-Ok.text = record { files = the_dir dir; is = some_dir dir (c.requires told); text_is = c.in-Ok.ensures.value told } in
    told_reads g.S.Site (site_of c.answer.new.files) c.give_text.result.1 m dir c.as_slice.result.now (g.S.Site.output start) c.give_text.result.0 (λ t. kept.output_is t) (subst (IsAnswer m dir) (sym c.as_slice.ensures) answer) c.give_text.ensures

pub returns-in-Err-clause-given : goal.returns-in-Err-clause-given
returns-in-Err-clause-given g c told =
    let start = site_of c.args.store in
    let kept = c.answer.ensures.kept.kept in
    let m = g.Q.Question.meaning c.args.question.now in
    let dir = directory (g.S.Site.disk start).reads in
    finished_reads g.S.Site (site_of c.answer.new.files) c.close_unread.result.1 m dir (g.S.Site.output start) c.close_unread.result.0 c.in-Err.why (λ t. kept.output_is t)
    (unread_refusal c.in-Err.why m dir (the_dir dir) _ (some_dir dir (c.requires told)) (c.in-Err.ensures.reason told)) c.close_unread.ensures

pub returns-in-Err-clause-complete : goal.returns-in-Err-clause-complete
returns-in-Err-clause-complete g c told files q is state =
    let start = site_of c.args.store in
    let kept = c.answer.ensures.kept.kept in
    let dir = directory (g.S.Site.disk start).reads in
    let same : files ≡ the_dir dir = same_dir dir files is in
    finished_gives g.S.Site (site_of c.answer.new.files) c.close_unread.result.1 (g.S.Site.output start) c.close_unread.result.0 ((g.Q.Question.meaning c.args.question.now).of_list q.plain) c.in-Err.why (λ t. kept.output_is t)
    (c.in-Err.ensures.complete told q (subst (λ (d : Dir). IsState d q) same state)) c.close_unread.ensures
