use Rattle.std.proofs.Common.{◌∙◌, ap, sym, ℕ}
use Rattle.ml_config.specs.declared.configuration.Config.{Config}
use Rattle.ml_mbox_questions.specs.Imports.{import_answer, mails_of}
use Rattle.ml_mbox_questions.proofs.Imported.{known_answer}
use Rattle.ml_mbox_questions.proofs.Represented.{same_config}
use Rattle.ml_mbox_questions.proofs.import_question.ImportingQuestion.answer.Goals as goal

pub returns-clause-complete : goal.returns-clause-complete
returns-clause-complete g c told q state =
    let dir = g.F.Files.map c.args._files.now in
    let config = c.args.config.now in
    let it = c.args.self.now in
    c.in_ok-answer.ensures
    ∙ ap (λ (n : ℕ). import_answer config n it.moment (mails_of it.text)) c.words.view_is
    ∙ ap (λ (d : Config). import_answer d it.words it.moment (mails_of it.text)) (sym (same_config dir config q (c.requires.config told) state))

pub returns-clause-known : goal.returns-clause-known
returns-clause-known g c =
    let it = c.args.self.now in
    known_answer it.words it.moment it.text c.args.config.now c.words.inside.first it.moment (mails_of it.text) c.in_ok-answer.answer c.in_ok-answer.ensures
