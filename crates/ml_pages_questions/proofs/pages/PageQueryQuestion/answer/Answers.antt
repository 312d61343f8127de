use Rattle.std.proofs.Common.{ap, ◌∙◌, sym}
use Rattle.ml_config.specs.declared.configuration.Config.{Config}
use Rattle.std.proofs.lemmas.Result.{IfOk-weaker}
use Rattle.ml_pages_questions.specs.Questions.{answer_of}
use Rattle.ml_pages_questions.proofs.Paths.{path_of}
use Rattle.ml_pages_questions.proofs.Represented.{archive, same_config}
use Rattle.ml_pages_questions.proofs.pages.PageQueryQuestion.answer.Goals as goal

pub returns-clause-complete : goal.returns-clause-complete
returns-clause-complete g c told q state =
    let dir = g.F.Files.map c.args.files.now in
    let config = c.args.config.now in
    let query = c.args.self.now in
    IfOk-weaker c.page_of.result _ _
    (λ answer is. is.0 q.plain.posts (archive dir config (c.requires.config told) q state) ∙ ap (λ (d : Config). answer_of query d q.plain.posts) (sym (same_config dir config (c.requires.config told) q state)))
    (c.page_of.ensures.value told)

pub returns-clause-sound : goal.returns-clause-sound
returns-clause-sound g c told q state = c.page_of.ensures.sound told q.plain.posts (archive (g.F.Files.map c.args.files.now) c.args.config.now (c.requires.config told) q state)

pub returns-clause-path : goal.returns-clause-path
returns-clause-path g c = path_of c.args.self.now c.page_of.result c.page_of.ensures.names.named
