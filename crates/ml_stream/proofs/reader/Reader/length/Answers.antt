use Rattle.std.proofs.Common.{◌≡◌, true, ◌∙◌, sym, ap, arith, add-one, ◌+◌, ◌-◌, ◌*◌, ◌++◌, [], ◌∷◌, refl, append_assoc}
use Rattle.ml_base.specs.Numbers.{is_next_digit}
use Rattle.ml_stream.specs.Stream.{length_at, got}
use Rattle.ml_stream.proofs.Bytewise.{first_is, end_is, one_further, len_colon, len_bad_colon, len_digit, len_bad, digit_keeps}
use Rattle.ml_stream.specs.Reading.{EndsEarly, Fails}
use Rattle.ml_stream.specs.declared.stream_error.StreamError.{StreamError}
use Rattle.ml_stream.specs.declared.stream_error.StreamError.TheVariants.{Fault, Short, Bad}
use Rattle.ml_stream.proofs.Cuts.{at_exit, breaks_none, breaks_byte, breaks_further, bad_not, short_not}
use Rattle.ml_stream.proofs.reader.Reader.length.Goals as goal

pub returns-in_default-clause-read : goal.returns-in_default-clause-read
returns-in_default-clause-read g c bs s =
    let h = c.loop-b.invariant.reads bs s in
    let t = c.in_ok-b.ensures.read h.0 h.1 in
    sym h.2 ∙ ap (length_at c.args.start c.args.limit c.loop-b.count c.loop-b.n c.loop-b.self.place) (end_is h.0 t.rest c.in_ok-b.field-0 t.is_all c.in_default.is t.end)

pub returns-then-count-eq0-clause-read : goal.returns-then-count-eq0-clause-read
returns-then-count-eq0-clause-read g c bs s =
    let h = c.loop-b.invariant.reads bs s in
    let t = c.in_ok-b.ensures.read h.0 h.1 in
    sym h.2 ∙ ap (length_at c.args.start c.args.limit c.loop-b.count c.loop-b.n c.loop-b.self.place) (first_is h.0 t.rest c.in_ok-b.field-0 c.in-Some.b t.is_all c.in-Some.is)
    ∙ len_bad_colon c.args.start c.args.limit c.loop-b.count c.loop-b.n c.loop-b.self.place c.in-Some.b t.rest c.if-b-eq58.true c.if-count-eq0.true

pub returns-then-b-eq58-clause-read : goal.returns-then-b-eq58-clause-read
returns-then-b-eq58-clause-read g c bs s =
    let h = c.loop-b.invariant.reads bs s in
    let t = c.in_ok-b.ensures.read h.0 h.1 in
    let place = one_further c.loop-b.self.place c.byte.new.self.place c.in_ok-b.field-0 c.in-Some.b t.place_is c.in-Some.is in (
      t.rest,
      sym h.2 ∙ ap (length_at c.args.start c.args.limit c.loop-b.count c.loop-b.n c.loop-b.self.place) (first_is h.0 t.rest c.in_ok-b.field-0 c.in-Some.b t.is_all c.in-Some.is)
          ∙ len_colon c.args.start c.args.limit c.loop-b.count c.loop-b.n c.loop-b.self.place c.in-Some.b t.rest c.if-b-eq58.true c.if-count-eq0.false ∙ ap (λ p. got c.loop-b.n p t.rest) (sym place),
      t.stands,
    )

pub returns-then-not-is_next_digit-clause-read : goal.returns-then-not-is_next_digit-clause-read
returns-then-not-is_next_digit-clause-read g c bs s =
    let h = c.loop-b.invariant.reads bs s in
    let t = c.in_ok-b.ensures.read h.0 h.1 in
    sym h.2 ∙ ap (length_at c.args.start c.args.limit c.loop-b.count c.loop-b.n c.loop-b.self.place) (first_is h.0 t.rest c.in_ok-b.field-0 c.in-Some.b t.is_all c.in-Some.is)
    ∙ len_bad c.args.start c.args.limit c.loop-b.count c.loop-b.n c.loop-b.self.place c.in-Some.b t.rest c.if-b-eq58.false (sym c.is_next_digit.ensures ∙ c.if-not-is_next_digit.true)

pub loop-b-preserved : goal.loop-b-preserved
loop-b-preserved g c =
    let is : is_next_digit c.args.limit c.loop-b.count c.loop-b.n c.in-Some.b ≡ true = sym c.is_next_digit.ensures ∙ c.if-not-is_next_digit.false in
    let keeps = digit_keeps c.args.limit c.loop-b.count c.loop-b.n c.in-Some.b c.loop-b.invariant.count is in
    record {
      n = keeps.0;
      count = keeps.1;
      later = omega (arith, c.in_ok-b.ensures.cause.later);
      fronts = λ bs s.
          let h = c.loop-b.invariant.fronts bs s in
          let t = c.in_ok-b.ensures.read h.1 h.3 in
          let place = one_further c.loop-b.self.place c.byte.new.self.place c.in_ok-b.field-0 c.in-Some.b t.place_is c.in-Some.is in (
            h.0 ++ c.in-Some.b ∷ [],
            t.rest,
            h.2 ∙ ap (λ x. h.0 ++ x) (first_is h.1 t.rest c.in_ok-b.field-0 c.in-Some.b t.is_all c.in-Some.is) ∙ sym (append_assoc h.0 (c.in-Some.b ∷ []) t.rest),
            t.stands,
            λ more. ap (λ p. length_at c.args.start c.args.limit (c.loop-b.count + 1) (10 * c.loop-b.n + (c.in-Some.b - 48)) p more) place
                ∙ ap (λ k. length_at c.args.start c.args.limit k (10 * c.loop-b.n + (c.in-Some.b - 48)) (c.loop-b.self.place + 1) more) (add-one c.loop-b.count)
                ∙ sym (len_digit c.args.start c.args.limit c.loop-b.count c.loop-b.n c.loop-b.self.place c.in-Some.b more c.if-b-eq58.false is)
                ∙ h.4 (c.in-Some.b ∷ more)
                ∙ ap (length_at c.args.start c.args.limit 0 0 c.args.self.now.place) (sym (append_assoc h.0 (c.in-Some.b ∷ []) more)),
          );
      reads = λ bs s.
          let h = c.loop-b.invariant.reads bs s in
          let t = c.in_ok-b.ensures.read h.0 h.1 in
          let place = one_further c.loop-b.self.place c.byte.new.self.place c.in_ok-b.field-0 c.in-Some.b t.place_is c.in-Some.is in (
            t.rest,
            t.stands,
            ap (λ p. length_at c.args.start c.args.limit (c.loop-b.count + 1) (10 * c.loop-b.n + (c.in-Some.b - 48)) p t.rest) place
                ∙ ap (λ k. length_at c.args.start c.args.limit k (10 * c.loop-b.n + (c.in-Some.b - 48)) (c.loop-b.self.place + 1) t.rest) (add-one c.loop-b.count)
                ∙ sym (sym h.2 ∙ ap (length_at c.args.start c.args.limit c.loop-b.count c.loop-b.n c.loop-b.self.place) (first_is h.0 t.rest c.in_ok-b.field-0 c.in-Some.b t.is_all c.in-Some.is)
                ∙ len_digit c.args.start c.args.limit c.loop-b.count c.loop-b.n c.loop-b.self.place c.in-Some.b t.rest c.if-b-eq58.false is),
          );
    }

pub returns-in_err-b-clause-stops : goal.returns-in_err-b-clause-stops
returns-in_err-b-clause-stops g c bs s =
    let h = c.loop-b.invariant.fronts bs s in
    at_exit c.from_residual.result (λ (e : StreamError). e ≡ Fault) (λ (e : StreamError). EndsEarly e (g.I.Source.left c.byte.new.input) bs (λ t. Fails (length_at c.args.start c.args.limit 0 0 c.args.self.now.place t))) c.from_residual.ensures.1
    (λ e is. breaks_further e (g.I.Source.left c.byte.new.input) bs h.0 h.1 (λ t. Fails (length_at c.args.start c.args.limit c.loop-b.count c.loop-b.n c.loop-b.self.place t)) (λ t. Fails (length_at c.args.start c.args.limit 0 0 c.args.self.now.place t)) h.2
    (breaks_none e (g.I.Source.left c.byte.new.input) h.1 (λ t. Fails (length_at c.args.start c.args.limit c.loop-b.count c.loop-b.n c.loop-b.self.place t)) (c.in_err-b.ensures.stops h.1 h.3) (Short c.args.start, refl))
    (λ t f. (f.0, sym (h.4 t) ∙ f.1)))

pub returns-in_default-clause-stops : goal.returns-in_default-clause-stops
returns-in_default-clause-stops g c bs s =
    let h = c.loop-b.invariant.fronts bs s in
    let t = c.in_ok-b.ensures.read h.1 h.3 in
    breaks_further (Short c.args.start) (g.I.Source.left c.byte.new.input) bs h.0 h.1 (λ t. Fails (length_at c.args.start c.args.limit c.loop-b.count c.loop-b.n c.loop-b.self.place t)) (λ t. Fails (length_at c.args.start c.args.limit 0 0 c.args.self.now.place t)) h.2
    (breaks_byte (Short c.args.start) c.byte.new.self.place c.byte.new.self.ahead c.in_ok-b.field-0 (g.I.Source.left c.byte.new.input) h.1 t.rest (λ t. Fails (length_at c.args.start c.args.limit c.loop-b.count c.loop-b.n c.loop-b.self.place t)) t.is_all c.in_ok-b.ensures.ahead t.stands (short_not c.args.start))
    (λ t f. (f.0, sym (h.4 t) ∙ f.1))

pub returns-then-count-eq0-clause-stops : goal.returns-then-count-eq0-clause-stops
returns-then-count-eq0-clause-stops g c bs s =
    let h = c.loop-b.invariant.fronts bs s in
    let t = c.in_ok-b.ensures.read h.1 h.3 in
    breaks_further (Bad c.args.start) (g.I.Source.left c.byte.new.input) bs h.0 h.1 (λ t. Fails (length_at c.args.start c.args.limit c.loop-b.count c.loop-b.n c.loop-b.self.place t)) (λ t. Fails (length_at c.args.start c.args.limit 0 0 c.args.self.now.place t)) h.2
    (breaks_byte (Bad c.args.start) c.byte.new.self.place c.byte.new.self.ahead c.in_ok-b.field-0 (g.I.Source.left c.byte.new.input) h.1 t.rest (λ t. Fails (length_at c.args.start c.args.limit c.loop-b.count c.loop-b.n c.loop-b.self.place t)) t.is_all c.in_ok-b.ensures.ahead t.stands (bad_not c.args.start))
    (λ t f. (f.0, sym (h.4 t) ∙ f.1))

pub returns-then-not-is_next_digit-clause-stops : goal.returns-then-not-is_next_digit-clause-stops
returns-then-not-is_next_digit-clause-stops g c bs s =
    let h = c.loop-b.invariant.fronts bs s in
    let t = c.in_ok-b.ensures.read h.1 h.3 in
    breaks_further (Bad c.args.start) (g.I.Source.left c.byte.new.input) bs h.0 h.1 (λ t. Fails (length_at c.args.start c.args.limit c.loop-b.count c.loop-b.n c.loop-b.self.place t)) (λ t. Fails (length_at c.args.start c.args.limit 0 0 c.args.self.now.place t)) h.2
    (breaks_byte (Bad c.args.start) c.byte.new.self.place c.byte.new.self.ahead c.in_ok-b.field-0 (g.I.Source.left c.byte.new.input) h.1 t.rest (λ t. Fails (length_at c.args.start c.args.limit c.loop-b.count c.loop-b.n c.loop-b.self.place t)) t.is_all c.in_ok-b.ensures.ahead t.stands (bad_not c.args.start))
    (λ t f. (f.0, sym (h.4 t) ∙ f.1))
