use Rattle.std.proofs.Common.{◌≡◌, ◌∙◌, true, Option, Some, sym, subst, inl, inr, None, IfOk}
use Rattle.std.proofs.lemmas.Result.{IfOk-weaker}
use Rattle.ml_address.specs.Views.{request_view}
use Rattle.ml_base.specs.Address.{address_of}
use Rattle.ml_base.specs.Bytes.{Text}
use Rattle.ml_manage.specs.Reads.{IsDamagedFor, is_read_for, is_seen_for}
use Rattle.ml_manage.specs.Written.{is_written_for}
use Rattle.ml_manage.proofs.Senders.{of_list, of_nobody, of_somebody}
use Rattle.ml_acts.specs.Acting.{AnswersWithin}
use Rattle.ml_manage.specs.Found.{FoundBySender}
use Rattle.ml_acts.proofs.Damages.{ok_then}
use Rattle.ml_acts.specs.Doing.{Alike}
use Rattle.ml_manage.proofs.rules.by_sender.Goals as goal

pub returns-clause-act : goal.returns-clause-act
returns-clause-act g c =
    let config = c.args.config.now in
    let request = request_view c.args.request.now in
    let some : Some c.in-Some.who ≡ address_of c.args.sender.now = sym (sym c.in_ok-who.ensures ∙ c.in-Some.is) in
    subst (λ (o : Option Text). AnswersWithin (is_written_for o request) g.F.Files (λ name. is_read_for config o request name ≡ true) (IsDamagedFor (g.F.Files.map c.args.files.now) config request) c.args.files.now c.manage_checked.new.files c.manage_checked.result) some c.manage_checked.ensures.act

pub returns-in_default-clause-found : goal.returns-in_default-clause-found
returns-in_default-clause-found g c told =
    let none : None ≡ address_of c.args.sender.now = sym (sym c.in_ok-who.ensures ∙ c.in_default.is) in
    subst (λ (o : Option Text). FoundBySender (g.F.Files.map c.args.files.now) c.args.config.now o c.args.message.now (request_view c.args.request.now) (c.new.result, c.plain.result)) none (record { puts = c.new.ensures; is = c.plain.ensures })

pub returns-then-is_from_list-clause-found : goal.returns-then-is_from_list-clause-found
returns-then-is_from_list-clause-found g c told =
    let some : Some c.in-Some.who ≡ address_of c.args.sender.now = sym (sym c.in_ok-who.ensures ∙ c.in-Some.is) in
    subst (λ (o : Option Text). FoundBySender (g.F.Files.map c.args.files.now) c.args.config.now o c.args.message.now (request_view c.args.request.now) (c.new-then-is_from_list.result, c.plain-then-is_from_list.result)) some
    (inl (sym c.is_from_list.ensures ∙ c.if-is_from_list.true, record { puts = c.new-then-is_from_list.ensures; is = c.plain-then-is_from_list.ensures }))

pub returns-clause-found : goal.returns-clause-found
returns-clause-found g c told =
    let some : Some c.in-Some.who ≡ address_of c.args.sender.now = sym (sym c.in_ok-who.ensures ∙ c.in-Some.is) in
    subst (λ (o : Option Text). IfOk c.manage_checked.result (FoundBySender (g.F.Files.map c.args.files.now) c.args.config.now o c.args.message.now (request_view c.args.request.now))) some
    (IfOk-weaker c.manage_checked.result _ _ (λ done is. inr is) (c.manage_checked.ensures.found told))

pub returns-in_default-clause-apart : goal.returns-in_default-clause-apart
returns-in_default-clause-apart g c told dir p alike is same =
    of_nobody dir p c.args.now.seconds c.args.message.now (request_view c.args.request.now) (c.new.result, c.plain.result) (address_of c.args.sender.now) is
    (sym c.in_ok-who.ensures ∙ c.in_default.is) c.new.ensures c.plain.ensures

pub returns-then-is_from_list-clause-apart : goal.returns-then-is_from_list-clause-apart
returns-then-is_from_list-clause-apart g c told dir p alike is same =
    of_list dir p c.args.now.seconds c.args.message.now (request_view c.args.request.now) (c.new-then-is_from_list.result, c.plain-then-is_from_list.result) (address_of c.args.sender.now) c.in-Some.who is
    (sym c.in_ok-who.ensures ∙ c.in-Some.is) (sym c.is_from_list.ensures ∙ c.if-is_from_list.true) c.new-then-is_from_list.ensures c.plain-then-is_from_list.ensures

pub returns-clause-apart : goal.returns-clause-apart
returns-clause-apart g c told =
    let some : address_of c.args.sender.now ≡ Some c.in-Some.who = sym c.in_ok-who.ensures ∙ c.in-Some.is in
    let request = request_view c.args.request.now in
    ok_then c.manage_checked.result
    (λ done does dir p alike is same. of_somebody dir p c.args.now.seconds c.args.message.now request done (address_of c.args.sender.now) c.in-Some.who some (sym c.is_from_list.ensures ∙ c.if-is_from_list.false)
    (does dir p (subst (λ (o : Option Text). Alike (is_seen_for c.args.config.now o request) (g.F.Files.map c.args.files.now) dir) some alike) is same))
    (c.manage_checked.ensures.apart told)

pub returns-clause-spared : goal.returns-clause-spared
returns-clause-spared g c told dir p alike is same =
    let some : address_of c.args.sender.now ≡ Some c.in-Some.who = sym c.in_ok-who.ensures ∙ c.in-Some.is in
    let request = request_view c.args.request.now in
    c.manage_checked.ensures.spared told dir p (subst (λ (o : Option Text). Alike (is_seen_for c.args.config.now o request) (g.F.Files.map c.args.files.now) dir) some alike) is same
