use Rattle.std.proofs.Common.{IsTrue, ap, rules, ◌∙◌}
use Rattle.ml_base.specs.Name.{is_in_table}
use Rattle.ml_base.specs.PartErrors.{OnDamaged}
use Rattle.ml_base.proofs.DamagedNames.{on_damaged}
use Rattle.ml_reading.specs.declared.question.Answer.TheVariants as answers
use Rattle.ml_check.specs.Damage.{Breaks, IsDamagedInCheck, MayRead}
use Rattle.ml_check.specs.Laws.{without_kept}
use Rattle.ml_check.proofs.Answered.{line_is}
use Rattle.ml_check.proofs.Counting.{law_counted}
use Rattle.ml_check.proofs.Damaged.{breaks_damaged}
use Rattle.ml_check.proofs.Tabled.{read_in_table}
use Rattle.ml_check.proofs.question.CheckQuestion.answer.Goals as goal

pub returns-in_err-sizes-clause-names : goal.returns-in_err-sizes-clause-names
returns-in_err-sizes-clause-names g c =
    let e = c.in_err-sizes.field-0.0 in
    let failed = c.in_err-sizes.ensures.names in
    let dir = g.F.Files.map c.args.files.now in
    let config = c.args.config.now in
    record {
      named = let own : OnDamaged e MayRead = failed.named in search rules;
      damaged = λ told.
          let breaks : OnDamaged e (Breaks config dir) = failed.damaged told in
          let bad : OnDamaged e (IsDamagedInCheck config dir) = on_damaged e (Breaks config dir) (IsDamagedInCheck config dir) (λ name b. breaks_damaged config dir name (c.requires.config told) b) breaks in
          search rules;
    }

pub returns-in_err-sizes-clause-path : goal.returns-in_err-sizes-clause-path
returns-in_err-sizes-clause-path g c =
    let e = c.in_err-sizes.field-0.0 in
    let own : OnDamaged e (λ name. IsTrue (is_in_table name)) = on_damaged e MayRead (λ name. IsTrue (is_in_table name)) read_in_table c.in_err-sizes.ensures.names.named in
    search rules

pub returns-in_err-sizes-clause-sound : goal.returns-in_err-sizes-clause-sound
returns-in_err-sizes-clause-sound g c told q state =
    let e = c.in_err-sizes.field-0.0 in
    let failed = c.in_err-sizes.ensures.names in
    let dir = g.F.Files.map c.args.files.now in
    let config = c.args.config.now in
    let breaks : OnDamaged e (Breaks config dir) = failed.damaged told in
    let none : OnDamaged e (λ _. ⊥) = on_damaged e (Breaks config dir) (λ _. ⊥) (λ name b. (breaks_damaged config dir name (c.requires.config told) b).not_whole (without_kept q) (law_counted dir q state)) breaks in
    search rules

pub returns-clause-complete : goal.returns-clause-complete
returns-clause-complete g c told q state =
    let dir = g.F.Files.map c.args.files.now in
    let same = line_is dir q c.in_ok-sizes.sizes state (c.in_ok-sizes.ensures.value told) in
    ap answers.Text (c.in_ok-whole_line.ensures ∙ same)
