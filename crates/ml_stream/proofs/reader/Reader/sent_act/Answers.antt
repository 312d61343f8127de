use Rattle.ml_stream.proofs.Elements.{sent_ok}
use Rattle.std.proofs.Common.{◌≡◌, sym, subst}
use Rattle.ml_stream.specs.Reading.{EndsEarly, Fails}
use Rattle.ml_stream.specs.Stream.{got, element_at, id_of, sent_at}
use Rattle.ml_stream.specs.declared.stream_error.StreamError.{StreamError}
use Rattle.ml_plain.specs.declared.Act.TheVariants.{Sent}
use Rattle.ml_stream.proofs.Cuts.{at_exit, breaks_first}
use Rattle.ml_stream.proofs.reader.Reader.sent_act.Goals as goal

pub returns-clause-read : goal.returns-clause-read
returns-clause-read g c bs s =
    let a = c.in_ok-id.ensures.read bs s in
    (a.0, sent_ok c.args.self.now.place c.positive.new.self.place bs a.0 c.in_ok-id.id a.1, a.2)

pub returns-in_err-id-clause-stops : goal.returns-in_err-id-clause-stops
returns-in_err-id-clause-stops g c bs s =
    at_exit c.from_residual.result (λ (e : StreamError). e ≡ c.in_err-id.field-0.0) (λ (e : StreamError). EndsEarly e (g.I.Source.left c.positive.new.input) bs (λ t. Fails (sent_at c.args.self.now.place t))) c.from_residual.ensures.1
    (λ e is. subst (λ (x : StreamError). EndsEarly x (g.I.Source.left c.positive.new.input) bs (λ t. Fails (sent_at c.args.self.now.place t))) (sym is)
    (breaks_first c.in_err-id.field-0.0 (g.I.Source.left c.positive.new.input) bs (λ t. element_at 16 id_of c.args.self.now.place t) (λ id. got (Sent id.value) id.place id.rest) (c.in_err-id.ensures.stops bs s)))
