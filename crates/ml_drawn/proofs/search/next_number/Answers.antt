use Rattle.std.proofs.Common.{◌<◌, ◌∙◌, sym, ap, arith, is_some, cond, None}
use Rattle.ml_base.specs.Dir.{Dir}
use Rattle.ml_base.specs.Ranges.{is_drawn}
use Rattle.ml_drawn.specs.Names.{thing_name}
use Rattle.ml_drawn.proofs.Numbered.{first_there}
use Rattle.ml_drawn.proofs.search.next_number.Goals as goal

pub returns-then-branch-clause-value : goal.returns-then-branch-clause-value
returns-then-branch-clause-value g c told =
    let before = c.loop-number.invariant in
    let number = c.loop-number.number in
    let same = g.met.F.Files.kept_map c.args.files.now c.loop-number.files told before.are_kept.kept in
    let there = c.in_ok-is_there.ensures.value told ∙ ap (λ (dir : Dir). is_some (cond (is_drawn number) (dir (thing_name c.args.series number)) None)) same in
    let end = c.min-end.ensures in
    let below : number < c.args.next = omega (arith, end) in
    first_there (g.F.Files.map c.args.files.now) c.args.series c.args.from number c.args.next before.onward below (c.in_ok-is_there.ensures.drawn c.if-branch.true) (before.none told) (sym there ∙ c.if-branch.true)
