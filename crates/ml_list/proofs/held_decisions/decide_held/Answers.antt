use Rattle.std.proofs.Common.{◌∙◌, List, sym, inl, inr, IfOk, subst}
use Rattle.std.proofs.lemmas.Result.{IfOk-weaker}
use Rattle.ml_base.specs.Address.{address_of}
use Rattle.ml_base.specs.declared.puts.Put.{Put}
use Rattle.ml_plain.specs.declared.Reply.{Reply}
use Rattle.ml_plain.specs.Answers as answers
use Rattle.ml_acts.proofs.OfActs.{act_held}
use Rattle.ml_post.specs.Answering.{IsDamagedOfTicket, accepts}
use Rattle.ml_list.specs.Moderating.{answer_to}
use Rattle.ml_list.proofs.Delivered.{answered_by, does_so, looped_back, no_sender, unchanged}
use Rattle.ml_base.specs.Dir.{Dir}
use Rattle.ml_acts.proofs.UnderConfig.{config_held}
use Rattle.ml_post.specs.Deciding.{FoundByDecision}
use Rattle.ml_list.proofs.held_decisions.decide_held.Goals as goal

pub returns-then-not-is_usable-clause-value : goal.returns-then-not-is_usable-clause-value
returns-then-not-is_usable-clause-value g c told dir p alike is same =
    let m = c.args.message.now in
    let request = answer_to c.args.ticket c.args.letters.now (accepts c.args.decision) in
    does_so dir (c.new.result, c.plain.result) (p, answers.nosender) _ (no_sender c.args.now.seconds m p request (address_of c.args.sender.now) (sym c.is_usable.ensures ∙ c.if-not-is_usable.true))
    (unchanged dir p (c.new.result, c.plain.result) answers.nosender is c.new.ensures c.plain.ensures)

pub returns-then-is_from_list-clause-value : goal.returns-then-is_from_list-clause-value
returns-then-is_from_list-clause-value g c told dir p alike is same =
    let m = c.args.message.now in
    let request = answer_to c.args.ticket c.args.letters.now (accepts c.args.decision) in
    let done : List Put × Reply = (c.new-then-is_from_list.result, c.plain-then-is_from_list.result) in
    does_so dir done (p, answers.looped) _
    (looped_back c.args.now.seconds m p request (address_of c.args.sender.now) (sym c.is_usable.ensures ∙ c.if-not-is_usable.false) (sym c.is_from_list.ensures ∙ c.if-is_from_list.true))
    (unchanged dir p done answers.looped is c.new-then-is_from_list.ensures c.plain-then-is_from_list.ensures)

pub returns-clause-value : goal.returns-clause-value
returns-clause-value g c told =
    IfOk-weaker c.decide.result _ _
    (λ done does dir p alike is same.
    does_so dir done _ _
    (answered_by c.args.now.seconds c.args.message.now p c.args.ticket c.args.letters.now (accepts c.args.decision) (address_of c.args.sender.now) (sym c.is_usable.ensures ∙ c.if-not-is_usable.false) (sym c.is_from_list.ensures ∙ c.if-is_from_list.false))
    (does dir p alike is same))
    (c.decide.ensures.apart told)

pub returns-clause-sound : goal.returns-clause-sound
returns-clause-sound g c told = c.decide.ensures.spared told

pub returns-clause-act : goal.returns-clause-act
returns-clause-act g c = act_held c.args.config.now (g.F.Files.map c.args.files.now) g.F.Files (λ d. IsDamagedOfTicket d c.args.config.now c.args.ticket c.args.letters.now (accepts c.args.decision)) c.requires.loaded c.decide.ensures.act

pub returns-then-not-is_usable-clause-found : goal.returns-then-not-is_usable-clause-found
returns-then-not-is_usable-clause-found g c told = inl (sym c.is_usable.ensures ∙ c.if-not-is_usable.true, record { puts = c.new.ensures; is = c.plain.ensures })

pub returns-then-is_from_list-clause-found : goal.returns-then-is_from_list-clause-found
returns-then-is_from_list-clause-found g c told =
    inr (inl (sym c.is_from_list.ensures ∙ c.if-is_from_list.true, record { puts = c.new-then-is_from_list.ensures; is = c.plain-then-is_from_list.ensures }))

pub returns-clause-found : goal.returns-clause-found
returns-clause-found g c told =
    let conf = c.args.config.now in
    let dir = g.F.Files.map c.args.files.now in
    IfOk-weaker c.decide.result _ _ (λ done is. inr (inr is))
    (subst (λ (d : Dir). IfOk c.decide.result (FoundByDecision d conf c.args.ticket (accepts c.args.decision))) (config_held conf dir (c.requires.loaded told)) (c.decide.ensures.found told))
