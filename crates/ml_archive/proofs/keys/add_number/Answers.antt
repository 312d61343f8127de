use Rattle.std.proofs.Common.{◌≡◌, []}
use Rattle.std.specs.Prelude.{unwrap_or}
use Rattle.ml_archive.proofs.Adding.{added, took_none, took_some}
use Rattle.ml_archive.proofs.keys.add_number.Goals as goal
use Rattle.ml_archive.proofs.keys.add_number.Goals.{in-Some, in-None}

pub returns-clause-value : goal.returns-clause-value
returns-clause-value c k =
    let before : c.match-remove.numbers ≡ unwrap_or c.remove.result [] = elim c.match-remove.branch [
      | in-Some w ↦ took_some c.remove.result c.match-remove.numbers w.in-Some.numbers w.in-Some.is w.numbers-is
      | in-None w ↦ took_none c.remove.result c.match-remove.numbers w.new-numbers.result w.in-None.is w.numbers-is w.new-numbers.ensures
    ] in
    added c.args.keys.now.entries c.remove.new.self.entries c.insert.new.self.entries c.args.key.now k c.in_ok-from_slice.field-0 c.push.new.self c.match-remove.numbers c.args.number c.remove.result
    c.in_ok-from_slice.ensures.items c.remove.ensures.entries c.in_ok-insert.ensures.entries c.remove.ensures.value before c.in_ok-push.ensures.ok
