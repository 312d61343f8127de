use Rattle.std.proofs.Common.{◌||◌, ◌∙◌, refl, sym, ap}
use Rattle.ml_base.specs.Dir.{touches_only}
use Rattle.ml_base.specs.declared.names.Set.TheVariants as sets
use Rattle.ml_queue.specs.Answers.{ids_name}
use Rattle.ml_acts.specs.Doing.{is_bucket}
use Rattle.ml_acts.proofs.Damages.{ok_then}
use Rattle.ml_acts.proofs.OfActs.{act_reply, act_wider}
use Rattle.ml_joining.specs.Operations.{answer_reply}
use Rattle.ml_joining.specs.Reads.{is_for_mail, is_read_to_join, is_touched_with_mail}
use Rattle.ml_joining.specs.Written.{is_written_to}
use Rattle.ml_joining.proofs.Asked.{unspelled}
use Rattle.ml_joining.proofs.Spared.{act_alone, act_more, asked_act, asking_alone, told_act}
use Rattle.ml_joining.proofs.Ways.{adding_to_join, asking_to_join, mail_to}
use Rattle.ml_joining.proofs.Does.{asking_may, joining_may, leaving_may, no_puts, only_reply}
use Rattle.ml_joining.proofs.Written.{queue_to, queue_to_join}
use Rattle.ml_joining.proofs.changes.carry_out.Goals as goal

pub returns-in-Only-clause-apart : goal.returns-in-Only-clause-apart
returns-in-Only-clause-apart g c change may told dir p alike is e about =
    rw c.in-Only.is (only_reply dir p c.new.result c.reply_of.result (answer_reply c.in-Only.answer) c.new.ensures c.reply_of.ensures.value is)

pub returns-in-TellAlready-clause-apart : goal.returns-in-TellAlready-clause-apart
returns-in-TellAlready-clause-apart g c change may told =
    rw c.in-TellAlready.is (ok_then c.notify.result (λ done does dir p alike is e about. does dir p (alike ids_name (mail_to change c.args.set c.args.x.now.named ids_name refl)) (no_puts dir p c.new-none.ensures is) e) (c.notify.ensures.apart told))

pub returns-in-TellAbsent-clause-apart : goal.returns-in-TellAbsent-clause-apart
returns-in-TellAbsent-clause-apart g c change may told =
    rw c.in-TellAbsent.is (ok_then c.notify-in-TellAbsent.result (λ done does dir p alike is e about. does dir p (alike ids_name (mail_to change c.args.set c.args.x.now.named ids_name refl)) (no_puts dir p c.new-none-in-TellAbsent.ensures is) e) (c.notify-in-TellAbsent.ensures.apart told))

pub returns-in-AskSender-clause-apart : goal.returns-in-AskSender-clause-apart
returns-in-AskSender-clause-apart g c change may told = rw c.in-AskSender.is (ok_then c.ask.result (λ done does dir p alike is e about. does dir p (λ name m. alike name (mail_to change c.args.set c.args.x.now.named name m)) is e) (c.ask.ensures.apart told))

pub returns-in-AskSubject-clause-apart : goal.returns-in-AskSubject-clause-apart
returns-in-AskSubject-clause-apart g c change may told =
    rw c.in-AskSubject.is (ok_then c.ask-in-AskSubject.result (λ done does dir p alike is e about. does dir p (λ name m. alike name (mail_to change c.args.set c.args.x.now.named name m)) is e) (c.ask-in-AskSubject.ensures.apart told))

pub returns-in-AskModerators-clause-apart : goal.returns-in-AskModerators-clause-apart
returns-in-AskModerators-clause-apart g c change may told =
    rw (c.in-AskModerators.is, asking_may change c.args.x.now.member (rw c.in-AskModerators.is at may)) (ok_then c.ask_moderators.result (λ done does dir p alike is e about. does dir p (λ name m. alike name (asking_to_join c.args.set c.args.x.now.named name m)) is e) (c.ask_moderators.ensures.apart told))

pub returns-in-Join-clause-apart : goal.returns-in-Join-clause-apart
returns-in-Join-clause-apart g c change may told =
    let set = c.args.set in
    let x = c.args.x.now in
    let is = joining_may change x.member (rw c.in-Join.is at may) in
    rw (c.in-Join.is, is.0) (ok_then c.join.result (λ done does dir p alike list e about. rw (unspelled p set x about is.1) (does dir p (λ name m. alike name (adding_to_join set x.named name m)) list e (sym about.member ∙ is.1))) (c.join.ensures.apart told))

pub returns-in-Leave-clause-apart : goal.returns-in-Leave-clause-apart
returns-in-Leave-clause-apart g c change may told =
    let is = leaving_may change c.args.x.now.member (rw c.in-Leave.is at may) in
    rw (c.in-Leave.is, is.0) (ok_then c.leave.result (λ done does dir p alike list e about. does dir p alike list e about is.1) (c.leave.ensures.apart told))

pub returns-in-Only-clause-act : goal.returns-in-Only-clause-act
returns-in-Only-clause-act g c change may = act_reply g.met.F.Files.kept_self c.new.ensures c.reply_of.ensures.kept

pub returns-in-TellAlready-clause-act : goal.returns-in-TellAlready-clause-act
returns-in-TellAlready-clause-act g c change may =
    let writes = is_written_to change c.args.set c.args.x.now.named in
    told_act change c.args.set c.args.x.now.named (c.notify.ensures.act writes (queue_to change c.args.set c.args.x.now.named) (ap (touches_only writes) c.new-none.ensures))

pub returns-in-TellAbsent-clause-act : goal.returns-in-TellAbsent-clause-act
returns-in-TellAbsent-clause-act g c change may =
    let writes = is_written_to change c.args.set c.args.x.now.named in
    told_act change c.args.set c.args.x.now.named (c.notify-in-TellAbsent.ensures.act writes (queue_to change c.args.set c.args.x.now.named) (ap (touches_only writes) c.new-none-in-TellAbsent.ensures))

pub returns-in-AskSender-clause-act : goal.returns-in-AskSender-clause-act
returns-in-AskSender-clause-act g c change may = asked_act change c.args.set c.args.x.now.named c.ask.ensures.act

pub returns-in-AskSubject-clause-act : goal.returns-in-AskSubject-clause-act
returns-in-AskSubject-clause-act g c change may = asked_act change c.args.set c.args.x.now.named c.ask-in-AskSubject.ensures.act

pub returns-in-AskModerators-clause-act : goal.returns-in-AskModerators-clause-act
returns-in-AskModerators-clause-act g c change may =
    rw (asking_may change c.args.x.now.member (rw c.in-AskModerators.is at may))
    (act_wider (act_alone (λ name. is_for_mail name || is_bucket sets.Moderators name) (is_read_to_join c.args.set c.args.x.now.named) asking_alone (asking_to_join c.args.set c.args.x.now.named) c.ask_moderators.ensures.act) (queue_to_join c.args.set c.args.x.now.named))

pub returns-in-Join-clause-act : goal.returns-in-Join-clause-act
returns-in-Join-clause-act g c change may =
    rw (joining_may change c.args.x.now.member (rw c.in-Join.is at may)).0
    (act_more (is_touched_with_mail c.args.set c.args.x.now.named) (is_read_to_join c.args.set c.args.x.now.named) (adding_to_join c.args.set c.args.x.now.named) c.join.ensures.act)

pub returns-in-Leave-clause-act : goal.returns-in-Leave-clause-act
returns-in-Leave-clause-act g c change may = rw (leaving_may change c.args.x.now.member (rw c.in-Leave.is at may)).0 c.leave.ensures.act

pub returns-in-Only-clause-found : goal.returns-in-Only-clause-found
returns-in-Only-clause-found g c told = rw c.in-Only.is (record { puts = c.new.ensures; is = c.reply_of.ensures.value })

pub returns-in-TellAlready-clause-found : goal.returns-in-TellAlready-clause-found
returns-in-TellAlready-clause-found g c told = rw c.in-TellAlready.is (rw c.new-none.ensures at (c.notify.ensures.found told))

pub returns-in-TellAbsent-clause-found : goal.returns-in-TellAbsent-clause-found
returns-in-TellAbsent-clause-found g c told = rw c.in-TellAbsent.is (rw c.new-none-in-TellAbsent.ensures at (c.notify-in-TellAbsent.ensures.found told))

pub returns-in-AskSender-clause-found : goal.returns-in-AskSender-clause-found
returns-in-AskSender-clause-found g c told = rw c.in-AskSender.is (c.ask.ensures.found told)

pub returns-in-AskSubject-clause-found : goal.returns-in-AskSubject-clause-found
returns-in-AskSubject-clause-found g c told = rw c.in-AskSubject.is (c.ask-in-AskSubject.ensures.found told)

pub returns-in-AskModerators-clause-found : goal.returns-in-AskModerators-clause-found
returns-in-AskModerators-clause-found g c told = rw c.in-AskModerators.is (c.ask_moderators.ensures.found told)

pub returns-in-Join-clause-found : goal.returns-in-Join-clause-found
returns-in-Join-clause-found g c told = rw c.in-Join.is (c.join.ensures.found told)

pub returns-in-Leave-clause-found : goal.returns-in-Leave-clause-found
returns-in-Leave-clause-found g c told = rw c.in-Leave.is (c.leave.ensures.found told)
