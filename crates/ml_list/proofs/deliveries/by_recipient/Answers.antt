use Rattle.std.proofs.Common.{◌≡◌, true, IfOk, Option, Some, sym, subst, rules, None}
use Rattle.ml_address.specs.Reading.{request_of}
use Rattle.ml_address.specs.Requests.{PlainRequest}
use Rattle.ml_address.specs.Views.{request_view}
use Rattle.ml_base.specs.Dir.{touches_only}
use Rattle.ml_acts.specs.Damaged.{IsDamaged}
use Rattle.ml_acts.specs.Acting.{AnswersAct}
use Rattle.ml_list.specs.Delivering.{IsRequested}
use Rattle.ml_list.specs.Reads.{is_of_acts}
use Rattle.ml_list.specs.Written.{is_delivered_by}
use Rattle.ml_list.specs.Found.{FoundOfRecipient}
use Rattle.std.proofs.lemmas.Result.{IfOk-weaker}
use Rattle.ml_plain.specs.Managing as spec
use Rattle.ml_acts.specs.Doing.{DoesList}
use Rattle.ml_list.specs.Looked.{AlikeForRequest}
use Rattle.ml_list.proofs.deliveries.by_recipient.Goals as goal

pub returns-clause-act : goal.returns-clause-act
returns-clause-act g c =
    let config = c.args.config.now in
    let dir = g.F.Files.map c.args.files.now in
    let read : request_of config.local config.host c.args.recipient.now ≡ Some (request_view c.in-Some.request) = search rules in
    subst (λ (o : Option PlainRequest). AnswersAct g.F.Files (λ name. is_of_acts name ≡ true) (λ name. IsDamaged dir name × IsRequested dir config c.args.sender.now c.args.message.now o name) c.args.files.now c.by_request.new.files c.by_request.result) (sym read) c.by_request.ensures.act

pub returns-clause-asked : goal.returns-clause-asked
returns-clause-asked g c =
    let config = c.args.config.now in
    let read : request_of config.local config.host c.args.recipient.now ≡ Some (request_view c.in-Some.request) = search rules in
    subst (λ (o : Option PlainRequest). IfOk c.by_request.result (λ done. touches_only (is_delivered_by c.args.sender.now o) done.0 ≡ true)) (sym read) c.by_request.ensures.asked

pub returns-in_default-clause-found : goal.returns-in_default-clause-found
returns-in_default-clause-found g c told =
    let config = c.args.config.now in
    let none : request_of config.local config.host c.args.recipient.now ≡ None = search rules in
    subst (λ (o : Option PlainRequest). FoundOfRecipient (g.F.Files.map c.args.files.now) config c.args.sender.now c.args.message.now o (c.new.result, c.plain.result)) (sym none) (record { puts = c.new.ensures; is = c.plain.ensures })

pub returns-clause-found : goal.returns-clause-found
returns-clause-found g c told =
    let config = c.args.config.now in
    let read : request_of config.local config.host c.args.recipient.now ≡ Some (request_view c.in-Some.request) = search rules in
    subst (λ (o : Option PlainRequest). IfOk c.by_request.result (FoundOfRecipient (g.F.Files.map c.args.files.now) config c.args.sender.now c.args.message.now o)) (sym read) (c.by_request.ensures.found told)

pub returns-clause-value : goal.returns-clause-value
returns-clause-value g c told =
    let config = c.args.config.now in
    let old = g.F.Files.map c.args.files.now in
    let sender = c.args.sender.now in
    let m = c.args.message.now in
    let read : request_of config.local config.host c.args.recipient.now ≡ Some (request_view c.in-Some.request) = search rules in
    IfOk-weaker c.by_request.result _ _
    (λ done does dir p alike is same.
    subst (λ (o : Option PlainRequest). DoesList dir done (spec.by_recipient c.args.now.seconds sender m p o)) (sym read) (does dir p (subst (λ (o : Option PlainRequest). AlikeForRequest config sender m o old dir) read alike) is same))
    (c.by_request.ensures.value told)

pub returns-clause-sound : goal.returns-clause-sound
returns-clause-sound g c told dir p alike is same =
    let config = c.args.config.now in
    let read : request_of config.local config.host c.args.recipient.now ≡ Some (request_view c.in-Some.request) = search rules in
    c.by_request.ensures.sound told dir p (subst (λ (o : Option PlainRequest). AlikeForRequest config c.args.sender.now c.args.message.now o (g.F.Files.map c.args.files.now) dir) read alike) is same
