use Rattle.ml_stream.proofs.Elements.{item_ok}
use Rattle.std.proofs.Common.{◌≡◌, sym, subst}
use Rattle.ml_stream.specs.Reading.{EndsEarly, Fails}
use Rattle.ml_stream.specs.Stream.{elements_at}
use Rattle.ml_stream.specs.declared.stream_error.StreamError.{StreamError}
use Rattle.ml_stream.proofs.Cuts.{at_exit, elements_first, elements_second, elements_third}
use Rattle.ml_stream.proofs.reader.Reader.elements.Goals as goal

pub returns-clause-read : goal.returns-clause-read
returns-clause-read g c bs s =
    let a = c.in_ok-number.ensures.read bs s in
    let b = c.in_ok-moment.ensures.read a.0 a.2 in
    let d = c.in_ok-act.ensures.read b.0 b.2 in
    (d.0, item_ok c.args.letter c.args.self.now.place c.number.new.self.place c.moment.new.self.place c.act.new.self.place bs a.0 b.0 d.0 c.in_ok-number.number c.in_ok-moment.moment c.in_ok-act.act a.1 b.1 d.1, d.2)

pub returns-in_err-number-clause-stops : goal.returns-in_err-number-clause-stops
returns-in_err-number-clause-stops g c bs s =
    at_exit c.from_residual.result (λ (e : StreamError). e ≡ c.in_err-number.field-0.0) (λ (e : StreamError). EndsEarly e (g.I.Source.left c.number.new.input) bs (λ t. Fails (elements_at c.args.letter c.args.self.now.place t))) c.from_residual.ensures.1
    (λ e is. subst (λ (x : StreamError). EndsEarly x (g.I.Source.left c.number.new.input) bs (λ t. Fails (elements_at c.args.letter c.args.self.now.place t))) (sym is)
    (elements_first c.in_err-number.field-0.0 (g.I.Source.left c.number.new.input) bs c.args.letter c.args.self.now.place (c.in_err-number.ensures.stops bs s)))

pub returns-in_err-moment-clause-stops : goal.returns-in_err-moment-clause-stops
returns-in_err-moment-clause-stops g c bs s =
    let a = c.in_ok-number.ensures.read bs s in
    at_exit c.from_residual-in_err-moment.result (λ (e : StreamError). e ≡ c.in_err-moment.field-0.0) (λ (e : StreamError). EndsEarly e (g.I.Source.left c.moment.new.input) bs (λ t. Fails (elements_at c.args.letter c.args.self.now.place t))) c.from_residual-in_err-moment.ensures.1
    (λ e is. subst (λ (x : StreamError). EndsEarly x (g.I.Source.left c.moment.new.input) bs (λ t. Fails (elements_at c.args.letter c.args.self.now.place t))) (sym is)
    (elements_second c.in_err-moment.field-0.0 (g.I.Source.left c.moment.new.input) bs a.0 c.args.letter c.args.self.now.place c.number.new.self.place c.in_ok-number.number a.1 (c.in_err-moment.ensures.stops a.0 a.2)))

pub returns-in_err-act-clause-stops : goal.returns-in_err-act-clause-stops
returns-in_err-act-clause-stops g c bs s =
    let a = c.in_ok-number.ensures.read bs s in
    let b = c.in_ok-moment.ensures.read a.0 a.2 in
    at_exit c.from_residual-in_err-act.result (λ (e : StreamError). e ≡ c.in_err-act.field-0.0) (λ (e : StreamError). EndsEarly e (g.I.Source.left c.act.new.input) bs (λ t. Fails (elements_at c.args.letter c.args.self.now.place t))) c.from_residual-in_err-act.ensures.1
    (λ e is. subst (λ (x : StreamError). EndsEarly x (g.I.Source.left c.act.new.input) bs (λ t. Fails (elements_at c.args.letter c.args.self.now.place t))) (sym is)
    (elements_third c.in_err-act.field-0.0 (g.I.Source.left c.act.new.input) bs a.0 b.0 c.args.letter c.args.self.now.place c.number.new.self.place c.moment.new.self.place c.in_ok-number.number c.in_ok-moment.moment a.1 b.1 (c.in_err-act.ensures.stops b.0 b.2)))
