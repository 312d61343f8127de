use Rattle.std.proofs.Common.{arith, subst, sym}
use Rattle.std.specs.Prelude.{IfOk}
use Rattle.ml_base.specs.Dir.{Dir}
use Rattle.ml_base.proofs.ReadingLemmas.{kept_read, kept_then}
use Rattle.ml_plain.specs.Directory.{IsState}
use Rattle.ml_reading.specs.Readings.{IsAnswered}
use Rattle.ml_reading.specs.declared.question.Answer.TheVariants as answers
use Rattle.ml_reading.proofs.Outcomes.{reason_from}
use Rattle.ml_reading.proofs.reading_command.answer.Goals as goal

pub returns-in-Ok-Some-clause-value : goal.returns-in-Ok-Some-clause-value
returns-in-Ok-Some-clause-value g c told =
    let same = g.met.F.Files.kept_map c.args.files.now c.load.new.files told c.load.ensures.reads.kept in
    subst (λ (d : Dir). IfOk c.answer_with.result (λ text. IsAnswered (g.Q.Question.meaning c.args.question.now) d (answers.Text text))) same (c.answer_with.ensures.value told)

pub returns-in-Ok-Some-clause-complete : goal.returns-in-Ok-Some-clause-complete
returns-in-Ok-Some-clause-complete g c told q state =
    let same = g.met.F.Files.kept_map c.args.files.now c.load.new.files told c.load.ensures.reads.kept in
    c.answer_with.ensures.complete told q (subst (λ (d : Dir). IsState d q) (sym same) state)

pub returns-in-Ok-Some-clause-reason : goal.returns-in-Ok-Some-clause-reason
returns-in-Ok-Some-clause-reason g c told =
    let same = g.met.F.Files.kept_map c.args.files.now c.load.new.files told c.load.ensures.reads.kept in
    let later = c.load.ensures.reads.later in
    reason_from c.answer_with.result (g.Q.Question.meaning c.args.question.now) (g.F.Files.map c.load.new.files) (g.F.Files.map c.args.files.now) _ _ same (λ rose. omega (arith, rose, later)) (c.answer_with.ensures.reason told)

pub returns-in-Ok-Some-clause-kept : goal.returns-in-Ok-Some-clause-kept
returns-in-Ok-Some-clause-kept g c = kept_then g.F.Files g.met.F.Files.kept_then c.args.files.now c.load.new.files c.answer_with.new.files (kept_read g.F.Files c.args.files.now c.load.new.files c.load.result c.load.ensures.reads) c.answer_with.ensures.kept
