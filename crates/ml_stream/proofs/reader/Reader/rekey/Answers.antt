use Rattle.ml_stream.proofs.Elements.{rekey_ok}
use Rattle.std.proofs.Common.{◌≡◌, sym, subst}
use Rattle.ml_stream.specs.Reading.{EndsEarly, Fails}
use Rattle.ml_stream.specs.Stream.{got, element_at, key_of, rekey_at}
use Rattle.ml_stream.specs.declared.stream_error.StreamError.{StreamError}
use Rattle.ml_plain.specs.declared.Act.TheVariants.{Rekey}
use Rattle.ml_stream.proofs.Cuts.{at_exit, breaks_first}
use Rattle.ml_stream.proofs.reader.Reader.rekey.Goals as goal

pub returns-clause-read : goal.returns-clause-read
returns-clause-read g c bs s =
    let a = c.in_ok-key.ensures.read bs s in
    (a.0, rekey_ok c.args.self.now.place c.key.new.self.place bs a.0 c.in_ok-key.key a.1, a.2)

pub returns-in_err-key-clause-stops : goal.returns-in_err-key-clause-stops
returns-in_err-key-clause-stops g c bs s =
    at_exit c.from_residual.result (λ (e : StreamError). e ≡ c.in_err-key.field-0.0) (λ (e : StreamError). EndsEarly e (g.I.Source.left c.key.new.input) bs (λ t. Fails (rekey_at c.args.self.now.place t))) c.from_residual.ensures.1
    (λ e is. subst (λ (x : StreamError). EndsEarly x (g.I.Source.left c.key.new.input) bs (λ t. Fails (rekey_at c.args.self.now.place t))) (sym is)
    (breaks_first c.in_err-key.field-0.0 (g.I.Source.left c.key.new.input) bs (λ t. element_at 64 key_of c.args.self.now.place t) (λ key. got (Rekey key.value) key.place key.rest) (c.in_err-key.ensures.stops bs s)))
