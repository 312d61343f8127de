use Rattle.std.proofs.Common.{◌∙◌, ap, sym, Ok, ◌≡◌, refl}
use Rattle.ml_stream.specs.Stream.{comma_at}
use Rattle.ml_stream.proofs.Bytewise.{first_is, end_is, one_further}
use Rattle.ml_stream.proofs.Elements.{comma_some, comma_bad}
use Rattle.ml_stream.specs.Reading.{EndsEarly, Fails}
use Rattle.ml_stream.specs.declared.stream_error.StreamError.{StreamError}
use Rattle.ml_stream.specs.declared.stream_error.StreamError.TheVariants.{Fault, Short, Bad}
use Rattle.ml_stream.proofs.Cuts.{at_exit, breaks_none, breaks_byte, bad_not, short_not}
use Rattle.ml_stream.proofs.reader.Reader.comma.Goals as goal

pub returns-then-b-eq44-clause-read : goal.returns-then-b-eq44-clause-read
returns-then-b-eq44-clause-read g c bs s =
    let t = c.in_ok-b.ensures.read bs s in (
      t.rest,
      ap (comma_at c.args.start c.args.self.now.place) (first_is bs t.rest c.in_ok-b.field-0 c.in-Some.b t.is_all c.in-Some.is)
          ∙ comma_some c.args.start c.args.self.now.place c.in-Some.b t.rest c.if-b-eq44.true
          ∙ ap (λ p. Ok (record { value = tt; place = p; rest = t.rest })) (sym (one_further c.args.self.now.place c.byte.new.self.place c.in_ok-b.field-0 c.in-Some.b t.place_is c.in-Some.is)),
      t.stands,
    )

pub returns-else-b-eq44-clause-read : goal.returns-else-b-eq44-clause-read
returns-else-b-eq44-clause-read g c bs s =
    let t = c.in_ok-b.ensures.read bs s in
    ap (comma_at c.args.start c.args.self.now.place) (first_is bs t.rest c.in_ok-b.field-0 c.in-Some.b t.is_all c.in-Some.is)
    ∙ comma_bad c.args.start c.args.self.now.place c.in-Some.b t.rest c.if-b-eq44.false

pub returns-in_default-clause-read : goal.returns-in_default-clause-read
returns-in_default-clause-read g c bs s =
    let t = c.in_ok-b.ensures.read bs s in
    ap (comma_at c.args.start c.args.self.now.place) (end_is bs t.rest c.in_ok-b.field-0 t.is_all c.in_default.is t.end)

pub returns-in_err-b-clause-stops : goal.returns-in_err-b-clause-stops
returns-in_err-b-clause-stops g c bs s =
    at_exit c.from_residual.result (λ (e : StreamError). e ≡ Fault) (λ (e : StreamError). EndsEarly e (g.I.Source.left c.byte.new.input) bs (λ t. Fails (comma_at c.args.start c.args.self.now.place t))) c.from_residual.ensures.1
    (λ e is. breaks_none e (g.I.Source.left c.byte.new.input) bs (λ t. Fails (comma_at c.args.start c.args.self.now.place t)) (c.in_err-b.ensures.stops bs s) (Short c.args.start, refl))

pub returns-in_default-clause-stops : goal.returns-in_default-clause-stops
returns-in_default-clause-stops g c bs s =
    let t = c.in_ok-b.ensures.read bs s in
    breaks_byte (Short c.args.start) c.byte.new.self.place c.byte.new.self.ahead c.in_ok-b.field-0 (g.I.Source.left c.byte.new.input) bs t.rest (λ t. Fails (comma_at c.args.start c.args.self.now.place t)) t.is_all c.in_ok-b.ensures.ahead t.stands (short_not c.args.start)

pub returns-else-b-eq44-clause-stops : goal.returns-else-b-eq44-clause-stops
returns-else-b-eq44-clause-stops g c bs s =
    let t = c.in_ok-b.ensures.read bs s in
    breaks_byte (Bad c.args.start) c.byte.new.self.place c.byte.new.self.ahead c.in_ok-b.field-0 (g.I.Source.left c.byte.new.input) bs t.rest (λ t. Fails (comma_at c.args.start c.args.self.now.place t)) t.is_all c.in_ok-b.ensures.ahead t.stands (bad_not c.args.start)
