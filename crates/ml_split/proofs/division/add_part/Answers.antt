use Rattle.std.proofs.Common.{◌∙◌, ◌++◌, ◌∷◌, [], ap₂, List, ℕ}
use Rattle.ml_split.proofs.Seen.{name_new, name_old, names_grown}
use Rattle.ml_split.proofs.division.add_part.Goals as goal

pub returns-in_ok-push-clause-parts : goal.returns-in_ok-push-clause-parts
returns-in_ok-push-clause-parts c =
    name_new c.args.name c.args.seen.now.keys c.args.parts.now.items c.push.new.self.items c.in_ok-insert.field-0 c.requires c.in_ok-insert.ensures.added c.if-branch.true
    (c.in_ok-push.ensures.items ∙ ap₂ (λ (n : List ℕ) (m : List (List ℕ)). c.args.parts.now.items ++ record { name = n; members = m } ∷ []) c.in_ok-from_slice.ensures c.new.ensures)

pub returns-in_ok-push-clause-names : goal.returns-in_ok-push-clause-names
returns-in_ok-push-clause-names c =
    names_grown c.args.name c.args.seen.now.keys c.insert.new.self.keys c.args.parts.now.items c.push.new.self.items c.requires c.in_ok-insert.ensures.keys
    (c.in_ok-push.ensures.items ∙ ap₂ (λ (n : List ℕ) (m : List (List ℕ)). c.args.parts.now.items ++ record { name = n; members = m } ∷ []) c.in_ok-from_slice.ensures c.new.ensures)

pub returns-else-branch-clause-parts : goal.returns-else-branch-clause-parts
returns-else-branch-clause-parts c = name_old c.args.name c.args.seen.now.keys c.args.parts.now.items c.in_ok-insert.field-0 c.requires c.in_ok-insert.ensures.added c.if-branch.false
