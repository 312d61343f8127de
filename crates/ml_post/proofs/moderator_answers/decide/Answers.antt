use Rattle.std.proofs.Common.{refl}
use Rattle.ml_acts.specs.Configured.{with_config}
use Rattle.ml_acts.proofs.Damages.{ok_then}
use Rattle.ml_acts.proofs.UnderConfig.{config_of}
use Rattle.ml_post.specs.Answering.{accepts}
use Rattle.ml_post.proofs.Decided.{answer_under}
use Rattle.ml_post.proofs.moderator_answers.decide.Goals as goal

pub returns-clause-value : goal.returns-clause-value
returns-clause-value g c told allowed =
    let config = c.args.config.now in
    let old = g.F.Files.map c.args.files.now in
    ok_then c.answer_ticket.result
    (λ done does p is. does (with_config config old) p (record { same = λ name e next. refl; waits = λ other more drawn. refl }) is (config_of config old p allowed is)) (c.answer_ticket.ensures.apart told)

pub returns-clause-apart : goal.returns-clause-apart
returns-clause-apart g c told =
    let config = c.args.config.now in
    ok_then c.answer_ticket.result
    (λ done does dir p alike is same. does dir p (answer_under config config c.args.ticket (accepts c.args.decision) (g.F.Files.map c.args.files.now) dir alike) is same) (c.answer_ticket.ensures.apart told)

pub returns-clause-spared : goal.returns-clause-spared
returns-clause-spared g c told dir p alike is =
    let config = c.args.config.now in
    c.answer_ticket.ensures.spared told dir p (answer_under config config c.args.ticket (accepts c.args.decision) (g.F.Files.map c.args.files.now) dir alike) is
