use Rattle.std.proofs.Common.{ap, rules}
use Rattle.ml_base.specs.PartErrors.{OnDamaged}
use Rattle.ml_base.proofs.DamagedNames.{on_damaged}
use Rattle.ml_reading.specs.declared.question.Answer.TheVariants as answers
use Rattle.ml_mbox_questions.specs.Mailboxes.{IsBadForMailbox}
use Rattle.ml_mbox_questions.proofs.Ranged.{no_bad, own_mailbox}
use Rattle.ml_mbox_questions.proofs.Represented.{posts_stand}
use Rattle.ml_mbox_questions.proofs.query.MboxQueryQuestion.answer.Goals as goal

pub returns-in_err-text-clause-sound : goal.returns-in_err-text-clause-sound
returns-in_err-text-clause-sound g c told q state =
    let dir = g.F.Files.map c.args.files.now in
    let query = c.args.self.now in
    let e = c.in_err-text.field-0.0 in
    let none : OnDamaged e (λ _. ⊥) =
    on_damaged e (IsBadForMailbox dir query.first query.last) (λ _. ⊥) (λ name bad. no_bad dir q.plain.posts (posts_stand dir q state) query.first query.last name bad) (c.in_err-text.ensures.names.damaged told) in
    search rules

pub returns-clause-complete : goal.returns-clause-complete
returns-clause-complete g c told q state =
    let dir = g.F.Files.map c.args.files.now in
    let query = c.args.self.now in
    ap answers.Text (own_mailbox dir q.plain.posts (posts_stand dir q state) query.first query.last c.in_ok-text.text (c.in_ok-text.ensures.value told))
