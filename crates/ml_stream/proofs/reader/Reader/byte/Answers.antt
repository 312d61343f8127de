use Rattle.std.proofs.Common.{ℕ, Option, Some, None, sym, subst, get_or, arith, ◌≡◌}
use Rattle.ml_stream.specs.Reading.{Stands, Steps}
use Rattle.ml_stream.proofs.Bytewise.{one_taken, none_taken}
use Rattle.std.proofs.lemmas.Grind.{common_steps}
use Rattle.ml_stream.proofs.Cuts.{on_exit, byte_kept}
use Rattle.ml_stream.proofs.reader.Reader.byte.Goals as goal

pub returns-then-branch-clause-read : goal.returns-then-branch-clause-read
returns-then-branch-clause-read g c bs =
    let left = g.I.Source.left c.args.input.now in
    let after = g.I.Source.left c.fill.new.input in
    let place = c.args.self.now.place in
    subst (λ (a : Option ℕ). Stands place a left bs → Steps place c.saturating_add-self-then-branch.result a after bs (Some (get_or c.fill.new.buf 0 0))) (sym c.in_default.is)
    (one_taken place c.saturating_add-self-then-branch.result left after bs c.fill.new.buf c.in_ok-fill.field-0 (omega arith) c.saturating_add-self-then-branch.ensures c.if-branch.true c.in_ok-fill.ensures.full)

pub returns-else-branch-clause-read : goal.returns-else-branch-clause-read
returns-else-branch-clause-read g c bs =
    let left = g.I.Source.left c.args.input.now in
    let after = g.I.Source.left c.fill.new.input in
    let place = c.args.self.now.place in
    subst (λ (a : Option ℕ). Stands place a left bs → Steps place place a after bs None) (sym c.in_default.is)
    (none_taken place left after bs c.fill.new.buf c.in_ok-fill.field-0 (omega arith) c.if-branch.false c.in_ok-fill.ensures.full)

pub returns-in_err-fill-clause-stops : goal.returns-in_err-fill-clause-stops
returns-in_err-fill-clause-stops g c bs s =
    on_exit c.from_residual.result (g.I.Source.left c.fill.new.input ≡ Some bs)
    (byte_kept c.args.self.now.place c.args.self.now.ahead (g.I.Source.left c.args.input.now) (g.I.Source.left c.fill.new.input) bs c.fill.new.buf c.in_default.is (grind (arith, common_steps)) s (c.in_err-fill.ensures.cut s.own s.is_left))
