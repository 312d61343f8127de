use Rattle.ml_split_questions.proofs.Moved.{moved, moved_joined}
use Rattle.ml_split_questions.proofs.answers.moving.Goals as goal

pub returns-clause-value : goal.returns-clause-value
returns-clause-value g c = λ tells ms is.
    moved c.args.rules.now ms c.args.name.now c.args.set c.args.into c.args.first c.args.now c.in_ok-members.members c.in_ok-parts.parts c.in-Some.part.now c.in_ok-write_moves.field-0 c.requires is.few
    (c.in_ok-members.ensures.value tells ms is) c.in_ok-parts.ensures c.in-Some.ensures c.in_ok-write_moves.ensures

pub returns-clause-union : goal.returns-clause-union
returns-clause-union g c = λ tells.
    let found = c.in_ok-members.ensures.union tells in (
      found.0,
      found.1,
      moved_joined c.args.rules.now found.0 c.args.name.now c.args.set c.args.into c.args.first c.args.now c.in_ok-members.members c.in_ok-parts.parts c.in-Some.part.now c.in_ok-write_moves.field-0 c.requires found.2
          c.in_ok-parts.ensures c.in-Some.ensures c.in_ok-write_moves.ensures,
    )
