use Rattle.std.proofs.Common.{◌∙◌, ap, sym, ◌≡◌, subst, refl}
use Rattle.std.proofs.lemmas.Result.{err_from_is_err_and}
use Rattle.ml_stream.specs.Stream.{item_at, elements_at, and_then, some_item, End}
use Rattle.ml_stream.proofs.Bytewise.{first_is, end_is, one_further}
use Rattle.ml_stream.proofs.Elements.{item_letter, item_bad, item_end, tells_too}
use Rattle.ml_stream.specs.Reading.{EndsEarly, IsNoItem}
use Rattle.ml_stream.specs.declared.stream_error.StreamError.{StreamError}
use Rattle.ml_stream.specs.declared.stream_error.StreamError.TheVariants.{Fault, Bad}
use Rattle.ml_stream.proofs.Cuts.{at_exit, breaks_none, breaks_byte, breaks_item, bad_not}
use Rattle.ml_stream.proofs.reader.Reader.item.Goals as goal

pub returns-in_default-clause-read : goal.returns-in_default-clause-read
returns-in_default-clause-read g c bs s =
    let t = c.in_ok-b.ensures.read bs s in
    (t.rest, item_end c.args.self.now.place c.byte.new.self.place c.in_ok-b.field-0 bs t.rest (end_is bs t.rest c.in_ok-b.field-0 t.is_all c.in_default.is t.end) (t.end c.in_default.is) c.in_default.is t.place_is, t.stands)

pub returns-in_default-read_letter-clause-read : goal.returns-in_default-read_letter-clause-read
returns-in_default-read_letter-clause-read g c bs s =
    let t = c.in_ok-b.ensures.read bs s in
    ap (item_at c.args.self.now.place) (first_is bs t.rest c.in_ok-b.field-0 c.in-Some.b t.is_all c.in-Some.is) ∙ item_bad c.args.self.now.place c.in-Some.b t.rest (sym c.in_default-read_letter.ensures)

pub returns-in_err-elements-clause-read : goal.returns-in_err-elements-clause-read
returns-in_err-elements-clause-read g c bs s =
    let p = err_from_is_err_and c.from_residual-in_err-elements.result c.from_residual-in_err-elements.ensures.1 in
    let t = c.in_ok-b.ensures.read bs s in
    let letter = item_letter c.args.self.now.place c.byte.new.self.place c.in-Some.b c.in-Some-read_letter.letter t.rest (sym c.in-Some-read_letter.ensures) (one_further c.args.self.now.place c.byte.new.self.place c.in_ok-b.field-0 c.in-Some.b t.place_is c.in-Some.is) in
    rw (p.1, p.2) (tells_too c.in_err-elements.field-0.0 (elements_at c.in-Some-read_letter.letter c.byte.new.self.place t.rest) (item_at c.args.self.now.place bs)
    (λ x e. ap (item_at c.args.self.now.place) (first_is bs t.rest c.in_ok-b.field-0 c.in-Some.b t.is_all c.in-Some.is) ∙ letter ∙ ap (λ r. and_then r some_item) e)
    (c.in_err-elements.ensures.read t.rest t.stands))

pub returns-clause-read : goal.returns-clause-read
returns-clause-read g c bs s =
    let t = c.in_ok-b.ensures.read bs s in
    let letter = item_letter c.args.self.now.place c.byte.new.self.place c.in-Some.b c.in-Some-read_letter.letter t.rest (sym c.in-Some-read_letter.ensures) (one_further c.args.self.now.place c.byte.new.self.place c.in_ok-b.field-0 c.in-Some.b t.place_is c.in-Some.is) in
    let k = c.in_ok-elements.ensures.read t.rest t.stands in
    (k.0, ap (item_at c.args.self.now.place) (first_is bs t.rest c.in_ok-b.field-0 c.in-Some.b t.is_all c.in-Some.is) ∙ letter ∙ ap (λ r. and_then r some_item) k.1, k.2)

pub returns-in_err-b-clause-stops : goal.returns-in_err-b-clause-stops
returns-in_err-b-clause-stops g c bs s =
    at_exit c.from_residual.result (λ (e : StreamError). e ≡ Fault) (λ (e : StreamError). EndsEarly e (g.I.Source.left c.byte.new.input) bs (IsNoItem c.args.self.now.place)) c.from_residual.ensures.1
    (λ e is. breaks_none e (g.I.Source.left c.byte.new.input) bs (IsNoItem c.args.self.now.place) (c.in_err-b.ensures.stops bs s) (End, refl))

pub returns-in_default-read_letter-clause-stops : goal.returns-in_default-read_letter-clause-stops
returns-in_default-read_letter-clause-stops g c bs s =
    let t = c.in_ok-b.ensures.read bs s in
    breaks_byte (Bad c.args.self.now.place) c.byte.new.self.place c.byte.new.self.ahead c.in_ok-b.field-0 (g.I.Source.left c.byte.new.input) bs t.rest (IsNoItem c.args.self.now.place) t.is_all c.in_ok-b.ensures.ahead t.stands (bad_not c.args.self.now.place)

pub returns-in_err-elements-clause-stops : goal.returns-in_err-elements-clause-stops
returns-in_err-elements-clause-stops g c bs s =
    let t = c.in_ok-b.ensures.read bs s in
    at_exit c.from_residual-in_err-elements.result (λ (e : StreamError). e ≡ c.in_err-elements.field-0.0) (λ (e : StreamError). EndsEarly e (g.I.Source.left c.elements.new.input) bs (IsNoItem c.args.self.now.place)) c.from_residual-in_err-elements.ensures.1
    (λ e is. subst (λ (x : StreamError). EndsEarly x (g.I.Source.left c.elements.new.input) bs (IsNoItem c.args.self.now.place)) (sym is)
    (breaks_item c.in_err-elements.field-0.0 c.args.self.now.place c.byte.new.self.place c.in-Some.b c.in-Some-read_letter.letter (g.I.Source.left c.elements.new.input) bs t.rest (first_is bs t.rest c.in_ok-b.field-0 c.in-Some.b t.is_all c.in-Some.is) (sym c.in-Some-read_letter.ensures)
    (one_further c.args.self.now.place c.byte.new.self.place c.in_ok-b.field-0 c.in-Some.b t.place_is c.in-Some.is) (c.in_err-elements.ensures.stops t.rest t.stands)))
