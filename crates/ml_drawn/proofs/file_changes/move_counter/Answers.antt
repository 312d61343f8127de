use Rattle.std.proofs.Common.{◌+◌, ℕ, Option, Some, subst}
use Rattle.ml_drawn.specs.Answers.{IsNextNumber}
use Rattle.ml_drawn.proofs.file_changes.move_counter.Goals as goal

pub returns-in_ok-counter_put-in-Some-clause-value : goal.returns-in_ok-counter_put-in-Some-clause-value
returns-in_ok-counter_put-in-Some-clause-value g c told =
    let dir = g.F.Files.map c.args.files.now in
    let number = c.in-Some.number in
    let next = subst (λ (o : Option ℕ). IsNextNumber dir c.args.series (c.args.low + 1) c.args.next o) c.in-Some.is (c.in_ok-number.ensures.value told) in
    record { found = Some (record { number = number; bytes = next.0 }); first = next.1; is = c.in_ok-counter_put-in-Some.ensures }
