use Rattle.std.proofs.Common.{◌≡◌, ◌∙◌, ◌||◌, Bool, true, sym, ap, subst, IfOk, refl}
use Rattle.ml_address.specs.Views.{request_view, who_view}
use Rattle.ml_plain.specs.Managing as spec
use Rattle.ml_acts.specs.Doing.{DoesList}
use Rattle.ml_base.specs.Address.{address_of}
use Rattle.ml_plain.specs.Plain.{Plain}
use Rattle.ml_plain.specs.declared.Reply.{Reply}
use Rattle.ml_manage.specs.Reads.{IsDamagedFor, is_of_warning, is_post_asked, is_read_for, is_read_for_sender, is_seen_for_sender}
use Rattle.ml_manage.specs.Written.{is_written_for_sender}
use Rattle.ml_manage.proofs.Others.{is_of_sender}
use Rattle.ml_manage.proofs.ForRequests.{done_for, done_of, for_asked, for_other, spared_for}
use Rattle.ml_acts.proofs.OfActs.{act_so, act_wider}
use Rattle.ml_address.specs.declared.Request.{Request}
use Rattle.ml_manage.specs.Found.{FoundByRequest}
use Rattle.ml_acts.proofs.Damages.{ok_then}
use Rattle.ml_manage.proofs.Spared.{none_named, warning_none}
use Rattle.ml_base.specs.Dir.{same_name}
use Rattle.ml_queue.specs.Answers.{ids_name}
use Rattle.ml_plain.specs.Bouncing.{address_named}
use Rattle.ml_acts.specs.Damaged.{IsDamaged}
use Rattle.ml_acts.proofs.Spared.{ids_spared}
use Rattle.ml_manage.proofs.rules.by_request.Goals as goal

pub returns-in-Bounce-clause-act : goal.returns-in-Bounce-clause-act
returns-in-Bounce-clause-act g c = for_asked g.F.Files (is_written_for_sender c.args.sender.now) (λ r name. is_read_for_sender c.args.config.now c.args.sender.now r name ≡ true) c.in-Bounce.is _ (λ name own. own) c.of_bounce.ensures.act

pub returns-in-WarnBounce-clause-act : goal.returns-in-WarnBounce-clause-act
returns-in-WarnBounce-clause-act g c = for_other g.F.Files (is_written_for_sender c.args.sender.now) (λ r name. is_read_for_sender c.args.config.now c.args.sender.now r name ≡ true) c.in-WarnBounce.is (λ name. tt) c.of_warning.ensures.act

pub returns-in-ProbeBounce-clause-act : goal.returns-in-ProbeBounce-clause-act
returns-in-ProbeBounce-clause-act g c = for_other g.F.Files (is_written_for_sender c.args.sender.now) (λ r name. is_read_for_sender c.args.config.now c.args.sender.now r name ≡ true) c.in-ProbeBounce.is (λ name. tt) c.of_probe.ensures.act

pub returns-in-Owner-clause-act : goal.returns-in-Owner-clause-act
returns-in-Owner-clause-act g c = for_other g.F.Files (is_written_for_sender c.args.sender.now) (λ r name. is_read_for_sender c.args.config.now c.args.sender.now r name ≡ true) c.in-Owner.is (λ name. tt) c.to_owner.ensures.act

pub returns-in-Help-clause-act : goal.returns-in-Help-clause-act
returns-in-Help-clause-act g c =
    let conf = c.args.config.now in
    let sender = c.args.sender.now in
    let r = request_view c.args.request.now in
    let of = is_of_sender c.args.request.now c.requires.request c.in-Help.is in
    let bad = IsDamagedFor (g.F.Files.map c.args.files.now) conf r in
    act_wider
    (act_so g.F.Files c.by_sender.result (λ name. is_read_for_sender conf sender r name ≡ true) bad bad (λ name. is_read_for conf (address_of sender) r name ≡ true) c.args.files.now c.by_sender.new.files
    (λ name e. of.reads conf sender name ∙ e) (λ name e is. is) c.by_sender.ensures.act)
    (λ name e. of.writes sender name ∙ e)

pub returns-in-Bounce-clause-found : goal.returns-in-Bounce-clause-found
returns-in-Bounce-clause-found g c told =
    subst (λ (r : Request). IfOk c.of_bounce.result (FoundByRequest (g.F.Files.map c.args.files.now) c.args.config.now c.args.sender.now c.args.message.now (request_view r))) (sym c.in-Bounce.is) (c.of_bounce.ensures.found told)

pub returns-in-WarnBounce-clause-found : goal.returns-in-WarnBounce-clause-found
returns-in-WarnBounce-clause-found g c told =
    subst (λ (r : Request). IfOk c.of_warning.result (FoundByRequest (g.F.Files.map c.args.files.now) c.args.config.now c.args.sender.now c.args.message.now (request_view r))) (sym c.in-WarnBounce.is) (c.of_warning.ensures.found told)

pub returns-in-ProbeBounce-clause-found : goal.returns-in-ProbeBounce-clause-found
returns-in-ProbeBounce-clause-found g c told =
    subst (λ (r : Request). IfOk c.of_probe.result (FoundByRequest (g.F.Files.map c.args.files.now) c.args.config.now c.args.sender.now c.args.message.now (request_view r))) (sym c.in-ProbeBounce.is) (c.of_probe.ensures.found told)

pub returns-in-Owner-clause-found : goal.returns-in-Owner-clause-found
returns-in-Owner-clause-found g c told =
    subst (λ (r : Request). IfOk c.to_owner.result (FoundByRequest (g.F.Files.map c.args.files.now) c.args.config.now c.args.sender.now c.args.message.now (request_view r))) (sym c.in-Owner.is) (c.to_owner.ensures.found told)

pub returns-in-ReplyBounce-clause-found : goal.returns-in-ReplyBounce-clause-found
returns-in-ReplyBounce-clause-found g c told =
    subst (λ (r : Request). FoundByRequest (g.F.Files.map c.args.files.now) c.args.config.now c.args.sender.now c.args.message.now (request_view r) (c.new.result, c.plain.result)) (sym c.in-ReplyBounce.is) (record { puts = c.new.ensures; is = c.plain.ensures })

pub returns-in-Help-clause-found : goal.returns-in-Help-clause-found
returns-in-Help-clause-found g c told =
    ok_then c.by_sender.result (λ done is. (is_of_sender c.args.request.now c.requires.request c.in-Help.is).found (g.F.Files.map c.args.files.now) c.args.config.now c.args.sender.now c.args.message.now done is) (c.by_sender.ensures.found told)

pub returns-in-Bounce-clause-apart : goal.returns-in-Bounce-clause-apart
returns-in-Bounce-clause-apart g c told = done_of c.of_bounce.result _ _ (is_seen_for_sender c.args.config.now c.args.sender.now) (spec.by_request c.args.now.seconds c.args.sender.now c.args.message.now) c.in-Bounce.is (c.of_bounce.ensures.apart told)

pub returns-in-WarnBounce-clause-apart : goal.returns-in-WarnBounce-clause-apart
returns-in-WarnBounce-clause-apart g c told = done_of c.of_warning.result _ _ (is_seen_for_sender c.args.config.now c.args.sender.now) (spec.by_request c.args.now.seconds c.args.sender.now c.args.message.now) c.in-WarnBounce.is (c.of_warning.ensures.apart told)

pub returns-in-ProbeBounce-clause-apart : goal.returns-in-ProbeBounce-clause-apart
returns-in-ProbeBounce-clause-apart g c told = done_of c.of_probe.result _ _ (is_seen_for_sender c.args.config.now c.args.sender.now) (spec.by_request c.args.now.seconds c.args.sender.now c.args.message.now) c.in-ProbeBounce.is (c.of_probe.ensures.apart told)

pub returns-in-Owner-clause-apart : goal.returns-in-Owner-clause-apart
returns-in-Owner-clause-apart g c told =
    done_for c.to_owner.result _ _ (is_seen_for_sender c.args.config.now c.args.sender.now) (spec.by_request c.args.now.seconds c.args.sender.now c.args.message.now) c.in-Owner.is
    (ok_then c.to_owner.result (λ done does dir p alike is same. does dir p (alike ids_name refl) is same) (c.to_owner.ensures.apart told))

pub returns-in-Help-clause-apart : goal.returns-in-Help-clause-apart
returns-in-Help-clause-apart g c told =
    let sender = c.args.sender.now in
    let r = request_view c.args.request.now in
    let of = is_of_sender c.args.request.now c.requires.request c.in-Help.is in
    ok_then c.by_sender.result
    (λ done does dir p alike is same.
    subst (λ (s : Plain × Reply). DoesList dir done s) (sym (of.step c.args.now.seconds sender c.args.message.now p))
    (does dir p (λ name e. alike name (ap (λ (b : Bool). is_post_asked r name || b) (of.reads c.args.config.now sender name) ∙ e)) is same))
    (c.by_sender.ensures.apart told)

pub returns-in-Bounce-clause-spared : goal.returns-in-Bounce-clause-spared
returns-in-Bounce-clause-spared g c told =
    spared_for c.of_bounce.result (g.F.Files.map c.args.files.now) c.args.config.now (is_seen_for_sender c.args.config.now c.args.sender.now) c.in-Bounce.is (λ dir p alike is same. c.of_bounce.ensures.spared told dir p alike is)

pub returns-in-ProbeBounce-clause-spared : goal.returns-in-ProbeBounce-clause-spared
returns-in-ProbeBounce-clause-spared g c told =
    spared_for c.of_probe.result (g.F.Files.map c.args.files.now) c.args.config.now (is_seen_for_sender c.args.config.now c.args.sender.now) c.in-ProbeBounce.is (λ dir p alike is same. c.of_probe.ensures.spared told dir p alike is)

pub returns-in-WarnBounce-clause-spared : goal.returns-in-WarnBounce-clause-spared
returns-in-WarnBounce-clause-spared g c told =
    let old = g.F.Files.map c.args.files.now in
    let set = c.in-WarnBounce.set in
    let x = address_named (who_view c.in-WarnBounce.who) in
    spared_for c.of_warning.result old c.args.config.now (is_seen_for_sender c.args.config.now c.args.sender.now) c.in-WarnBounce.is
    (λ dir p alike is same. none_named g.F.Files c.of_warning.result (λ name. is_of_warning set x name ≡ true) (IsDamaged old) told
    (λ name e bad. warning_none old dir p is set x name e (alike name e) bad) c.of_warning.ensures.act.names)

pub returns-in-Owner-clause-spared : goal.returns-in-Owner-clause-spared
returns-in-Owner-clause-spared g c told =
    let old = g.F.Files.map c.args.files.now in
    spared_for c.to_owner.result old c.args.config.now (is_seen_for_sender c.args.config.now c.args.sender.now) c.in-Owner.is
    (λ dir p alike is same. none_named g.F.Files c.to_owner.result (λ name. same_name name ids_name ≡ true) (IsDamaged old) told
    (λ name e bad. ids_spared old dir p is name e (alike name e) bad) c.to_owner.ensures.act.names)

pub returns-in-Help-clause-spared : goal.returns-in-Help-clause-spared
returns-in-Help-clause-spared g c told dir p alike is same =
    let r = request_view c.args.request.now in
    let of = is_of_sender c.args.request.now c.requires.request c.in-Help.is in
    c.by_sender.ensures.spared told dir p (λ name e. alike name (ap (λ (b : Bool). is_post_asked r name || b) (of.reads c.args.config.now c.args.sender.now name) ∙ e)) is same
