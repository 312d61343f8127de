use Rattle.std.proofs.Common.{◌∙◌, ◌++◌, List, sym, subst}
use Rattle.ml_subs.specs.declared.member_list.Member.{Member}
use Rattle.ml_subs.specs.Reading.{AreRead}
use Rattle.ml_base.proofs.Options.{some_left}
use Rattle.ml_subs.proofs.Options.{none_left}
use Rattle.ml_subs.proofs.Layouts.{left_all, left_first, left_more}
use Rattle.ml_subs.proofs.checked_texts.known_members.Goals as goal

pub loop-rest-init : goal.loop-rest-init
loop-rest-init c = (c.requires.0, c.requires.1.each, c.requires.1.spelled, subst (λ (l : List Member). AreRead c.args.layout c.args.n c.args.body.now (l ++ c.requires.0)) (sym c.new-out.ensures) c.requires.1)

pub known_record-record-requires : goal.known_record-record-requires
known_record-record-requires c =
    let before = c.loop-rest.invariant in
    left_first c.args.layout c.args.n c.loop-rest.rest.now before.0 before.1 before.2 (some_left _ (sym c.is_empty.ensures ∙ c.loop-rest-test.true))

pub loop-rest-preserved : goal.loop-rest-preserved
loop-rest-preserved c =
    let before = c.loop-rest.invariant in
    left_more c.args.layout c.args.n c.args.body.now c.loop-rest.rest.now c.loop-rest.out before.0 before.1 before.2 before.3 c.known_record-record.result.0 c.known_record-record.result.1.now c.known_record-record.ensures.value
    c.push.new.self c.in_ok-push.ensures.ok (some_left _ (sym c.is_empty.ensures ∙ c.loop-rest-test.true))

pub returns : goal.returns
returns c =
    let before = c.loop-rest.invariant in
    left_all c.args.layout c.args.n c.args.body.now c.loop-rest.rest.now c.loop-rest.out before.0 before.2 before.3 (none_left _ (sym c.is_empty.ensures ∙ c.loop-rest-test.false))
