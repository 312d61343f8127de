use Rattle.std.proofs.Common.{◌∙◌, ap, map, take}
use Rattle.ml_bounce.specs.Changes as spec
use Rattle.ml_bounce.specs.Ledger.{Ledger}
use Rattle.ml_bounce.proofs.Collecting.{due_sorted, ledger_of_files}
use Rattle.ml_bounce.proofs.due_entries.due.Goals as goal

pub returns-clause-value : goal.returns-clause-value
returns-clause-value g c told ledger is =
    c.in_ok-actions_of.ensures
    ∙ ap (λ (l : Ledger). map spec.action_of (take c.args.max l)) (due_sorted (g.F.Files.map c.args.files.now) c.args.set c.args.now c.in_ok-found.found c.in_ok-sorted.sorted ledger (c.in_ok-found.ensures.value told)
    c.in_ok-sorted.ensures.permutation c.in_ok-sorted.ensures.sorted is)

pub returns-clause-read : goal.returns-clause-read
returns-clause-read g c told =
    let files = c.in_ok-found.ensures.value told in
    let made = ledger_of_files (g.F.Files.map c.args.files.now) c.args.set files.0 files.1 in
    (made.0, made.1, returns-clause-value g c told made.0 made.1)
