use Rattle.std.proofs.Common.{◌≡◌, true, Bool, IfOk, Some, ◌∙◌, sym, ap, subst}
use Rattle.std.proofs.lemmas.Result.{IfOk-weaker}
use Rattle.ml_address.specs.Requests.{PlainRequest, Post}
use Rattle.ml_address.specs.Views.{request_view}
use Rattle.ml_base.specs.Bytes.{Text}
use Rattle.ml_base.specs.Dir.{Dir, touches_only}
use Rattle.ml_base.specs.declared.names.Name.{Name}
use Rattle.ml_config.specs.declared.configuration.Config.{Config}
use Rattle.ml_plain.specs.Managing as spec
use Rattle.ml_manage.specs.Found.{FoundByRequest}
use Rattle.ml_manage.specs.Reads.{IsDamagedFor, is_read_for_sender}
use Rattle.ml_manage.specs.Written.{is_written_for_sender}
use Rattle.ml_manage.proofs.Written.{sender_beside}
use Rattle.ml_post.specs.Answering.{IsDamagedOfTicket, accepts, is_answered_by}
use Rattle.ml_post.specs.Found.{FoundByPost}
use Rattle.ml_post.specs.Posting.{is_posted_by}
use Rattle.ml_post.specs.Publishing.{sent_key}
use Rattle.ml_acts.specs.Acting.{AnswersAct}
use Rattle.ml_acts.specs.Asked.{IsDamagedOf, Next}
use Rattle.ml_acts.specs.Damaged.{IsDamaged}
use Rattle.ml_acts.specs.Doing.{is_of_posting}
use Rattle.ml_acts.proofs.OfActs.{act_held, act_so, act_wider}
use Rattle.ml_acts.proofs.Queued.{posting_beside, touches_weaker}
use Rattle.ml_acts.proofs.UnderConfig.{config_held}
use Rattle.ml_list.specs.Delivering.{IsRequested, IsTaskOf, is_other}
use Rattle.ml_list.specs.Found.{FoundOfRequest}
use Rattle.ml_list.specs.Looked.{AlikeForRequest}
use Rattle.ml_list.specs.Moderating.{answer_to}
use Rattle.ml_list.specs.Reads.{is_of_acts}
use Rattle.ml_list.specs.Written.{is_delivered_by}
use Rattle.ml_list.proofs.Delivered.{does_so}
use Rattle.ml_list.proofs.Finding.{found_other}
use Rattle.ml_list.proofs.Looked.{other_alike}
use Rattle.ml_list.proofs.Readable.{of_answered, of_managed, of_posted}
use Rattle.ml_list.proofs.Requested.{answer_alike, answer_delivered, answer_found, answer_mail, answer_requested, answer_sent, delivered_other, mail_other, managed_other, requested_other}
use Rattle.ml_list.proofs.deliveries.by_request.Goals as goal

pub manage-requires : goal.manage-requires
manage-requires g c =
    let config = c.args.config.now in
    let request = request_view c.args.request.now in record {
      moment = c.args.now.range;
      config = c.requires.config;
      room = c.requires.room;
      request = managed_other config.local config.host c.args.recipient.now request (subst (IsTaskOf request) c.in-Manage.is c.task_of.ensures) c.requires.read;
    }

pub returns-in-Post-clause-value : goal.returns-in-Post-clause-value
returns-in-Post-clause-value g c told =
    let config = c.args.config.now in
    let old = g.F.Files.map c.args.files.now in
    let sender = c.args.sender.now in
    let m = c.args.message.now in
    let request = request_view c.args.request.now in
    let is : request ≡ Post = subst (IsTaskOf request) c.in-Post.is c.task_of.ensures in
    IfOk-weaker c.post_with_memo.result _ _
    (λ done does dir p alike list same.
    does_so dir done _ _ (ap (spec.by_request c.args.now.seconds sender m p) is) (does dir p (subst (λ (r : PlainRequest). AlikeForRequest config sender m (Some r) old dir) is alike) list same))
    (c.post_with_memo.ensures.apart told)

pub returns-in-Post-clause-sound : goal.returns-in-Post-clause-sound
returns-in-Post-clause-sound g c told dir p alike list same =
    let request = request_view c.args.request.now in
    let is : request ≡ Post = subst (IsTaskOf request) c.in-Post.is c.task_of.ensures in
    c.post_with_memo.ensures.spared told dir p
    (subst (λ (r : PlainRequest). AlikeForRequest c.args.config.now c.args.sender.now c.args.message.now (Some r) (g.F.Files.map c.args.files.now) dir) is alike) list

pub returns-in-Decide-clause-value : goal.returns-in-Decide-clause-value
returns-in-Decide-clause-value g c told =
    let config = c.args.config.now in
    let old = g.F.Files.map c.args.files.now in
    let sender = c.args.sender.now in
    let m = c.args.message.now in
    let ticket = c.in-Decide.ticket in
    let cookie = c.in-Decide.cookie in
    let accept = accepts c.in-Decide.decision in
    let request = request_view c.args.request.now in
    let is : request ≡ answer_to ticket cookie accept = subst (IsTaskOf request) c.in-Decide.is c.task_of.ensures in
    IfOk-weaker c.decide_held.result _ _
    (λ done does dir p alike list same.
    does_so dir done _ _ (ap (spec.by_request c.args.now.seconds sender m p) is ∙ answer_sent ticket cookie c.args.now.seconds sender m p accept)
    (does dir p (answer_alike ticket cookie config sender m accept old dir (subst (λ (r : PlainRequest). AlikeForRequest config sender m (Some r) old dir) is alike)) list same))
    (c.decide_held.ensures.value told)

pub returns-in-Decide-clause-sound : goal.returns-in-Decide-clause-sound
returns-in-Decide-clause-sound g c told dir p alike list same =
    let config = c.args.config.now in
    let old = g.F.Files.map c.args.files.now in
    let sender = c.args.sender.now in
    let m = c.args.message.now in
    let ticket = c.in-Decide.ticket in
    let cookie = c.in-Decide.cookie in
    let accept = accepts c.in-Decide.decision in
    let request = request_view c.args.request.now in
    let is : request ≡ answer_to ticket cookie accept = subst (IsTaskOf request) c.in-Decide.is c.task_of.ensures in
    c.decide_held.ensures.sound told dir p (answer_alike ticket cookie config sender m accept old dir (subst (λ (r : PlainRequest). AlikeForRequest config sender m (Some r) old dir) is alike)) list

pub returns-in-Manage-clause-value : goal.returns-in-Manage-clause-value
returns-in-Manage-clause-value g c told =
    let old = g.F.Files.map c.args.files.now in
    let request = request_view c.args.request.now in
    let other : is_other request ≡ true = subst (IsTaskOf request) c.in-Manage.is c.task_of.ensures in
    IfOk-weaker c.manage.result _ _
    (λ done does dir p alike list same. does dir p (other_alike c.args.config.now c.args.sender.now c.args.message.now request old dir other alike) list same)
    (c.manage.ensures.apart told)

pub returns-in-Manage-clause-sound : goal.returns-in-Manage-clause-sound
returns-in-Manage-clause-sound g c told dir p alike list same =
    let request = request_view c.args.request.now in
    let other : is_other request ≡ true = subst (IsTaskOf request) c.in-Manage.is c.task_of.ensures in
    c.manage.ensures.spared told dir p (other_alike c.args.config.now c.args.sender.now c.args.message.now request (g.F.Files.map c.args.files.now) dir other alike) list same

-- what a request names as damaged
abbrev IsAsked : Dir → Config → Text → Text → PlainRequest → Name → Type 0
IsAsked dir c sender m r name = IsDamaged dir name × IsRequested dir c sender m (Some r) name

pub returns-in-Post-clause-act : goal.returns-in-Post-clause-act
returns-in-Post-clause-act g c =
    let config = c.args.config.now in
    let sender = c.args.sender.now in
    let m = c.args.message.now in
    let asked = Next (sent_key config m) in
    let dir = g.F.Files.map c.args.files.now in
    let r = c.post_with_memo.result in
    let request = request_view c.args.request.now in
    let is : request ≡ Post = subst (IsTaskOf request) c.in-Post.is c.task_of.ensures in
    subst (λ (q : PlainRequest). AnswersAct g.F.Files (λ name. is_of_acts name ≡ true) (IsAsked dir config sender m q) c.args.files.now c.post_with_memo.new.files r) (sym is)
    (act_wider (act_so g.F.Files r (λ name. is_of_acts name ≡ true) (IsDamagedOf dir asked) (IsAsked dir config sender m Post) (λ name. is_posted_by config sender name ≡ true) c.args.files.now c.post_with_memo.new.files
    (λ name e. of_posted name config sender e) (λ name e bad. (bad.damaged, (e, bad.own))) (act_held config dir g.F.Files (λ d. IsDamagedOf d asked) c.requires.loaded c.post_with_memo.ensures.act)) posting_beside)

pub returns-in-Decide-clause-act : goal.returns-in-Decide-clause-act
returns-in-Decide-clause-act g c =
    let config = c.args.config.now in
    let sender = c.args.sender.now in
    let m = c.args.message.now in
    let dir = g.F.Files.map c.args.files.now in
    let r = c.decide_held.result in
    let ticket = c.in-Decide.ticket in
    let cookie = c.in-Decide.cookie in
    let accept = accepts c.in-Decide.decision in
    let request = request_view c.args.request.now in
    let is : request ≡ answer_to ticket cookie accept = subst (IsTaskOf request) c.in-Decide.is c.task_of.ensures in
    subst (λ (q : PlainRequest). AnswersAct g.F.Files (λ name. is_of_acts name ≡ true) (IsAsked dir config sender m q) c.args.files.now c.decide_held.new.files r) (sym is)
    (act_wider (act_so g.F.Files r (λ name. is_of_acts name ≡ true) (IsDamagedOfTicket dir config ticket cookie accept) (IsAsked dir config sender m (answer_to ticket cookie accept)) (λ name. is_answered_by ticket accept name ≡ true) c.args.files.now c.decide_held.new.files
    (λ name e. of_answered name ticket accept e) (λ name e bad. (bad.damaged, (answer_requested ticket cookie config sender accept name e, answer_mail ticket cookie dir config m accept name bad.own bad.read))) c.decide_held.ensures.act) posting_beside)

pub returns-in-Manage-clause-act : goal.returns-in-Manage-clause-act
returns-in-Manage-clause-act g c =
    let config = c.args.config.now in
    let sender = c.args.sender.now in
    let m = c.args.message.now in
    let dir = g.F.Files.map c.args.files.now in
    let request = request_view c.args.request.now in
    let other : is_other request ≡ true = subst (IsTaskOf request) c.in-Manage.is c.task_of.ensures in
    act_wider (act_so g.F.Files c.manage.result (λ name. is_of_acts name ≡ true) (IsDamagedFor dir config request) (IsAsked dir config sender m request) (λ name. is_read_for_sender config sender request name ≡ true) c.args.files.now c.manage.new.files (λ name e. of_managed name config sender request e)
    (λ name e bad. (bad.damaged, (requested_other config sender name request other e, mail_other dir config m name request other bad.own))) (act_held config dir g.F.Files (λ d. IsDamagedFor d config request) c.requires.loaded c.manage.ensures.act)) (λ name e. sender_beside sender request name e)

pub returns-in-Post-clause-asked : goal.returns-in-Post-clause-asked
returns-in-Post-clause-asked g c =
    let request = request_view c.args.request.now in
    let is : request ≡ Post = subst (IsTaskOf request) c.in-Post.is c.task_of.ensures in
    subst (λ (q : PlainRequest). IfOk c.post_with_memo.result (λ done. touches_only (is_delivered_by c.args.sender.now (Some q)) done.0 ≡ true)) (sym is) c.post_with_memo.ensures.act.own

pub returns-in-Decide-clause-asked : goal.returns-in-Decide-clause-asked
returns-in-Decide-clause-asked g c =
    let sender = c.args.sender.now in
    let ticket = c.in-Decide.ticket in
    let cookie = c.in-Decide.cookie in
    let accept = accepts c.in-Decide.decision in
    let request = request_view c.args.request.now in
    let is : request ≡ answer_to ticket cookie accept = subst (IsTaskOf request) c.in-Decide.is c.task_of.ensures in
    let may : is_delivered_by sender (Some request) ≡ is_of_posting = ap (λ (q : PlainRequest). is_delivered_by sender (Some q)) is ∙ answer_delivered ticket cookie sender accept in
    subst (λ (f : Name → Bool). IfOk c.decide_held.result (λ done. touches_only f done.0 ≡ true)) (sym may) c.decide_held.ensures.act.own

pub returns-in-Manage-clause-asked : goal.returns-in-Manage-clause-asked
returns-in-Manage-clause-asked g c =
    let sender = c.args.sender.now in
    let request = request_view c.args.request.now in
    let other : is_other request ≡ true = subst (IsTaskOf request) c.in-Manage.is c.task_of.ensures in
    IfOk-weaker c.manage.result _ _
    (λ done own. touches_weaker (is_written_for_sender sender request) (is_delivered_by sender (Some request)) done.0 (λ name e. delivered_other sender name request other e) own) c.manage.ensures.act.own

pub returns-in-Post-clause-found : goal.returns-in-Post-clause-found
returns-in-Post-clause-found g c told =
    let conf = c.args.config.now in
    let dir = g.F.Files.map c.args.files.now in
    let sender = c.args.sender.now in
    let m = c.args.message.now in
    let request = request_view c.args.request.now in
    let is : request ≡ Post = subst (IsTaskOf request) c.in-Post.is c.task_of.ensures in
    subst (λ (q : PlainRequest). IfOk c.post_with_memo.result (FoundOfRequest dir conf sender m q)) (sym is)
    (subst (λ (d : Dir). IfOk c.post_with_memo.result (FoundByPost d conf sender m)) (config_held conf dir (c.requires.loaded told)) (c.post_with_memo.ensures.found told))

pub returns-in-Decide-clause-found : goal.returns-in-Decide-clause-found
returns-in-Decide-clause-found g c told =
    let conf = c.args.config.now in
    let dir = g.F.Files.map c.args.files.now in
    let sender = c.args.sender.now in
    let m = c.args.message.now in
    let ticket = c.in-Decide.ticket in
    let cookie = c.in-Decide.cookie in
    let accept = accepts c.in-Decide.decision in
    let request = request_view c.args.request.now in
    let is : request ≡ answer_to ticket cookie accept = subst (IsTaskOf request) c.in-Decide.is c.task_of.ensures in
    subst (λ (q : PlainRequest). IfOk c.decide_held.result (FoundOfRequest dir conf sender m q)) (sym is)
    (IfOk-weaker c.decide_held.result _ _ (λ done found. answer_found ticket cookie dir conf sender m accept done found) (c.decide_held.ensures.found told))

pub returns-in-Manage-clause-found : goal.returns-in-Manage-clause-found
returns-in-Manage-clause-found g c told =
    let conf = c.args.config.now in
    let dir = g.F.Files.map c.args.files.now in
    let sender = c.args.sender.now in
    let m = c.args.message.now in
    let request = request_view c.args.request.now in
    let other : is_other request ≡ true = subst (IsTaskOf request) c.in-Manage.is c.task_of.ensures in
    IfOk-weaker c.manage.result _ _ (λ done is. found_other dir conf sender m done request other is)
    (subst (λ (d : Dir). IfOk c.manage.result (FoundByRequest d conf sender m request)) (config_held conf dir (c.requires.loaded told)) (c.manage.ensures.found told))
