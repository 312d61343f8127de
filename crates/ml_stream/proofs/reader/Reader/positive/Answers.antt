use Rattle.std.proofs.Common.{◌∙◌, ap, sym, ◌≡◌, subst}
use Rattle.ml_stream.specs.Stream.{positive_within, content_at, element_at}
use Rattle.ml_stream.proofs.Elements.{element_ok}
use Rattle.ml_stream.specs.Reading.{EndsEarly, Fails}
use Rattle.ml_stream.specs.declared.stream_error.StreamError.{StreamError}
use Rattle.ml_stream.specs.declared.stream_error.StreamError.TheVariants.{Bad}
use Rattle.ml_stream.proofs.Cuts.{at_exit, breaks_element, breaks_got, breaks_comma, bad_not}
use Rattle.ml_stream.proofs.Locality.{content_local}
use Rattle.ml_stream.proofs.reader.Reader.positive.Goals as goal

pub returns-clause-read : goal.returns-clause-read
returns-clause-read g c bs s =
    let h = c.in_ok-text.ensures.read bs s in
    let k = c.in_ok-comma.ensures.read h.0 h.2 in
    (k.0, element_ok c.args.digits c.args.self.now.place c.content.new.self.place c.comma.new.self.place (positive_within c.args.most) bs c.in_ok-text.text h.0 k.0 c.in-Some.value h.1 (ap (positive_within c.args.most) (sym c.as_slice.ensures) ∙ sym c.in-Some.ensures.value) k.1, k.2)

pub returns-in_err-text-clause-stops : goal.returns-in_err-text-clause-stops
returns-in_err-text-clause-stops g c bs s =
    at_exit c.from_residual.result (λ (e : StreamError). e ≡ c.in_err-text.field-0.0) (λ (e : StreamError). EndsEarly e (g.I.Source.left c.content.new.input) bs (λ t. Fails (element_at c.args.digits (positive_within c.args.most) c.args.self.now.place t))) c.from_residual.ensures.1
    (λ e is. subst (λ (x : StreamError). EndsEarly x (g.I.Source.left c.content.new.input) bs (λ t. Fails (element_at c.args.digits (positive_within c.args.most) c.args.self.now.place t))) (sym is)
    (breaks_element c.in_err-text.field-0.0 c.args.digits c.args.self.now.place (positive_within c.args.most) (g.I.Source.left c.content.new.input) bs (c.in_err-text.ensures.stops bs s)))

pub returns-in_default-clause-stops : goal.returns-in_default-clause-stops
returns-in_default-clause-stops g c bs s =
    let h = c.in_ok-text.ensures.read bs s in
    breaks_got (Bad c.args.self.now.place) c.content.new.self.place c.content.new.self.ahead (g.I.Source.left c.content.new.input) bs h.0 (λ t. content_at c.args.self.now.place c.args.digits t) c.in_ok-text.text (λ t. Fails (element_at c.args.digits (positive_within c.args.most) c.args.self.now.place t)) (content_local c.args.self.now.place c.args.digits) h.1 c.in_ok-text.ensures.ahead h.2 (bad_not c.args.self.now.place)

pub returns-in_err-comma-clause-stops : goal.returns-in_err-comma-clause-stops
returns-in_err-comma-clause-stops g c bs s =
    let h = c.in_ok-text.ensures.read bs s in
    at_exit c.from_residual-in_err-comma.result (λ (e : StreamError). e ≡ c.in_err-comma.field-0.0) (λ (e : StreamError). EndsEarly e (g.I.Source.left c.comma.new.input) bs (λ t. Fails (element_at c.args.digits (positive_within c.args.most) c.args.self.now.place t))) c.from_residual-in_err-comma.ensures.1
    (λ e is. subst (λ (x : StreamError). EndsEarly x (g.I.Source.left c.comma.new.input) bs (λ t. Fails (element_at c.args.digits (positive_within c.args.most) c.args.self.now.place t))) (sym is)
    (breaks_comma c.in_err-comma.field-0.0 c.args.digits c.args.self.now.place c.content.new.self.place (positive_within c.args.most) (g.I.Source.left c.comma.new.input) bs c.in_ok-text.text h.0 c.in-Some.value h.1 (ap (positive_within c.args.most) (sym c.as_slice.ensures) ∙ sym c.in-Some.ensures.value) (c.in_err-comma.ensures.stops h.0 h.2)))
