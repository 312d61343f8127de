use Rattle.std.proofs.Common.{◌≡◌, ◌∙◌, ap, List, [], Option, Err}
use Rattle.std.specs.Prelude.{unwrap_or}
use Rattle.ml_mbox.specs.declared.mails.Boxed.{Boxed}
use Rattle.ml_mbox_questions.specs.Imports.{import_answer, mails_of}
use Rattle.ml_mbox_questions.proofs.Imported.{long_answer, stream_answer}
use Rattle.ml_mbox_questions.proofs.import_question.answer_of.Goals as goal

pub returns-in-Ok : goal.returns-in-Ok
returns-in-Ok c =
    let all : c.in-Some.mails ≡ mails_of c.args.mailbox.now = ap (λ (o : Option (List Boxed)). unwrap_or o []) c.in-Some.ensures.value ∙ ap mails_of (c.as_slice-text.ensures ∙ c.mailbox.view_is) in
    stream_answer c.args.config.now c.args.first c.args.moment c.in-Some.mails c.in-Ok.stream c.in-Ok.ensures.text c.in-Ok.ensures.fits
    ∙ ap (λ (ms : List Boxed). import_answer c.args.config.now c.args.first c.args.moment ms) all

pub returns-in-Err-Long : goal.returns-in-Err-Long
returns-in-Err-Long c =
    let all : c.in-Some.mails ≡ mails_of c.args.mailbox.now = ap (λ (o : Option (List Boxed)). unwrap_or o []) c.in-Some.ensures.value ∙ ap mails_of (c.as_slice-text.ensures ∙ c.mailbox.view_is) in
    long_answer c.args.config.now c.args.first c.args.moment c.in-Some.mails (c.in-Err-Long.ensures.long (ap Err c.in-Err-Long.field-0-is))
    ∙ ap (λ (ms : List Boxed). import_answer c.args.config.now c.args.first c.args.moment ms) all
