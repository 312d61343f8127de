use Rattle.std.proofs.Common.{None, cond, refl, sym, ◌∙◌, subst}
use Rattle.ml_base.specs.Dir.{Dir}
use Rattle.ml_base.specs.Ranges.{is_drawn}
use Rattle.ml_drawn.specs.declared.series.Series.TheVariants.{Ids}
use Rattle.ml_drawn.specs.Answers.{IsTaking}
use Rattle.ml_drawn.proofs.OfFiles.{file_absent, none_there, thing_there, released}
use Rattle.ml_drawn.proofs.Numbered.{absent_is, there_drawn}
use Rattle.ml_queue.specs.Queue.{IsOut, out_text}
use Rattle.ml_queue.specs.Answers.{entry_name}
use Rattle.ml_queue.proofs.entry_calls.sent.Goals as goal

pub returns-then-not-branch-clause-read : goal.returns-then-not-branch-clause-read
returns-then-not-branch-clause-read g c told =
    let dir = g.F.Files.map c.args.files.now in
    file_absent dir Ids c.args.id _ refl (absent_is (cond (is_drawn c.args.id) (dir (entry_name c.args.id)) None) (sym (c.in_ok-is_there.ensures.value told) ∙ c.if-not-branch.true))

pub returns-then-not-branch-clause-value : goal.returns-then-not-branch-clause-value
returns-then-not-branch-clause-value g c told queue is = sym (none_there IsOut out_text Ids (g.F.Files.map c.args.files.now) queue is c.args.id (returns-then-not-branch-clause-read g c told))

pub returns-clause-read : goal.returns-clause-read
returns-clause-read g c told =
    let dir = g.F.Files.map c.args.files.now in
    let same = g.met.F.Files.kept_map c.args.files.now c.is_there.new.files told c.is_there.ensures.are_kept.kept in
    let drawn = c.in_ok-is_there.ensures.drawn c.if-not-branch.false in
    let there = there_drawn dir Ids c.args.id drawn (sym (c.in_ok-is_there.ensures.value told) ∙ c.if-not-branch.false) in
    (drawn, there, subst (λ (dir : Dir). IsTaking dir Ids c.args.id c.in_ok-take_out.field-0) same (c.in_ok-take_out.ensures.value told))

pub returns-clause-value : goal.returns-clause-value
returns-clause-value g c told queue is =
    let dir = g.F.Files.map c.args.files.now in
    let by = returns-clause-read g c told in
    let found = thing_there IsOut out_text Ids dir queue is c.args.id (by.1).0 by.0 (by.1).1 in
    ((found.0, found.1), released IsOut out_text Ids dir queue is c.args.id c.in_ok-take_out.field-0 found.0 by.2 found.1)
