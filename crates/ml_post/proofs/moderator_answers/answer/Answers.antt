use Rattle.std.proofs.Common.{◌≡◌, Bool, IfOk, true, subst, sym}
use Rattle.ml_plain.specs.Directory.{IsList}
use Rattle.ml_plain.specs.Managing.{answer}
use Rattle.ml_plain.specs.Plain.{Plain}
use Rattle.ml_acts.specs.Acting.{AnswersPost}
use Rattle.ml_acts.specs.Configured.{with_config}
use Rattle.ml_acts.specs.Doing.{DoesList}
use Rattle.ml_post.specs.Answering.{IsDamagedOfTicket, is_answered_by}
use Rattle.ml_post.specs.Deciding.{FoundByDecision}
use Rattle.ml_base.specs.Dir.{Dir}
use Rattle.ml_post.specs.Alike.{AlikeForAnswer}
use Rattle.ml_post.proofs.moderator_answers.answer.Goals as goal

pub returns-clause-value : goal.returns-clause-value
returns-clause-value g c told allowed =
    let dir = with_config c.args.config.now (g.F.Files.map c.args.files.now) in
    subst (λ (b : Bool). IfOk c.decide.result (λ done. (p : Plain) → IsList dir p → DoesList dir done (answer c.args.now c.args.ticket c.args.letters.now b p))) c.of.ensures (c.decide.ensures.value told allowed)

pub returns-clause-act : goal.returns-clause-act
returns-clause-act g c =
    let dir = with_config c.args.config.now (g.F.Files.map c.args.files.now) in
    subst (λ (b : Bool). AnswersPost g.F.Files (λ name. is_answered_by c.args.ticket b name ≡ true) (IsDamagedOfTicket dir c.args.config.now c.args.ticket c.args.letters.now b) c.args.files.now c.decide.new.files c.decide.result) c.of.ensures c.decide.ensures.act

pub returns-clause-found : goal.returns-clause-found
returns-clause-found g c told =
    let dir = with_config c.args.config.now (g.F.Files.map c.args.files.now) in
    subst (λ (b : Bool). IfOk c.decide.result (FoundByDecision dir c.args.config.now c.args.ticket b)) c.of.ensures (c.decide.ensures.found told)

pub returns-clause-apart : goal.returns-clause-apart
returns-clause-apart g c told =
    subst (λ (b : Bool). IfOk c.decide.result (λ done. (dir : Dir) (p : Plain) → AlikeForAnswer c.args.config.now c.args.ticket b (g.F.Files.map c.args.files.now) dir → IsList dir p → p.config ≡ c.args.config.now
    → DoesList dir done (answer c.args.now c.args.ticket c.args.letters.now b p))) c.of.ensures (c.decide.ensures.apart told)

pub returns-clause-spared : goal.returns-clause-spared
returns-clause-spared g c told dir p alike is =
    c.decide.ensures.spared told dir p (subst (λ (b : Bool). AlikeForAnswer c.args.config.now c.args.ticket b (g.F.Files.map c.args.files.now) dir) (sym c.of.ensures) alike) is
