use Rattle.std.proofs.Common.{◌≡◌, ap, ◌∙◌, subst}
use Rattle.ml_base.specs.Bytes.{Text}
use Rattle.ml_reading.specs.Queries.{text_or_absent}
use Rattle.ml_split_questions.specs.Moves.{PlainMove}
use Rattle.ml_split_questions.specs.Texts.{moving_text}
use Rattle.ml_split_questions.proofs.move_question.MovingQuestion.answer.Goals as goal

pub returns-clause-complete : goal.returns-clause-complete
returns-clause-complete g c told q state =
    let rules = c.args.self.now.rules in
    let moment = c.args.self.now.moment in
    let set = c.words.inside.set in
    let into = c.words.inside.into in
    let first = c.words.inside.first in
    let found = c.in_ok-stream.ensures.value told (q.plain.sets set) (state.list.sets set) in
    subst (λ (w : PlainMove). c.one.result ≡ text_or_absent (moving_text rules (q.plain.sets w.set) w.name w.set w.into w.first moment)) c.words.view_is
    (c.one.ensures ∙ ap text_or_absent found ∙ ap (λ (name : Text). text_or_absent (moving_text rules (q.plain.sets set) name set into first moment)) c.as_slice.ensures)
