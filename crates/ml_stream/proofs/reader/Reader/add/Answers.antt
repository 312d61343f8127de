use Rattle.ml_plain.specs.declared.Act.TheVariants.{Add}
use Rattle.ml_stream.proofs.Elements.{member_ok}
use Rattle.std.proofs.Common.{◌≡◌, sym, subst}
use Rattle.ml_stream.specs.Reading.{EndsEarly, Fails}
use Rattle.ml_stream.specs.Stream.{got, and_then, element_at, add_at}
use Rattle.ml_stream.specs.declared.stream_error.StreamError.{StreamError}
use Rattle.ml_base.specs.Name.{set_of}
use Rattle.ml_base.specs.Address.{address_of}
use Rattle.ml_stream.proofs.Cuts.{at_exit, breaks_first, breaks_then}
use Rattle.ml_stream.proofs.Locality.{element_local}
use Rattle.ml_stream.proofs.reader.Reader.add.Goals as goal

pub returns-clause-read : goal.returns-clause-read
returns-clause-read g c bs s =
    let a = c.in_ok-set.ensures.read bs s in
    let b = c.in_ok-who.ensures.read a.0 a.2 in
    (b.0, member_ok (λ set who. Add set who) c.args.self.now.place c.set.new.self.place c.address.new.self.place bs a.0 b.0 c.in_ok-set.set c.in_ok-who.who a.1 b.1, b.2)

pub returns-in_err-set-clause-stops : goal.returns-in_err-set-clause-stops
returns-in_err-set-clause-stops g c bs s =
    at_exit c.from_residual.result (λ (e : StreamError). e ≡ c.in_err-set.field-0.0) (λ (e : StreamError). EndsEarly e (g.I.Source.left c.set.new.input) bs (λ t. Fails (add_at c.args.self.now.place t))) c.from_residual.ensures.1
    (λ e is. subst (λ (x : StreamError). EndsEarly x (g.I.Source.left c.set.new.input) bs (λ t. Fails (add_at c.args.self.now.place t))) (sym is)
    (breaks_first c.in_err-set.field-0.0 (g.I.Source.left c.set.new.input) bs (λ t. element_at 6 set_of c.args.self.now.place t) (λ set. and_then (element_at 400 address_of set.place set.rest) (λ who. got (Add set.value who.value) who.place who.rest)) (c.in_err-set.ensures.stops bs s)))

pub returns-in_err-who-clause-stops : goal.returns-in_err-who-clause-stops
returns-in_err-who-clause-stops g c bs s =
    let a = c.in_ok-set.ensures.read bs s in
    at_exit c.from_residual-in_err-who.result (λ (e : StreamError). e ≡ c.in_err-who.field-0.0) (λ (e : StreamError). EndsEarly e (g.I.Source.left c.address.new.input) bs (λ t. Fails (add_at c.args.self.now.place t))) c.from_residual-in_err-who.ensures.1
    (λ e is. subst (λ (x : StreamError). EndsEarly x (g.I.Source.left c.address.new.input) bs (λ t. Fails (add_at c.args.self.now.place t))) (sym is)
    (breaks_then c.in_err-who.field-0.0 (g.I.Source.left c.address.new.input) bs a.0 (λ t. element_at 6 set_of c.args.self.now.place t) (λ set. and_then (element_at 400 address_of set.place set.rest) (λ who. got (Add set.value who.value) who.place who.rest)) c.in_ok-set.set c.set.new.self.place (element_local 6 set_of c.args.self.now.place) a.1
    (breaks_first c.in_err-who.field-0.0 (g.I.Source.left c.address.new.input) a.0 (λ t. element_at 400 address_of c.set.new.self.place t) (λ who. got (Add c.in_ok-set.set who.value) who.place who.rest) (c.in_err-who.ensures.stops a.0 a.2))))
