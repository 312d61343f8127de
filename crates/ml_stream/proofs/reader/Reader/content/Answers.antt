use Rattle.std.proofs.Common.{◌≡◌, ◌∙◌, inl, ap, sym, Ok, length, arith, subst, List, ℕ, ◌++◌, Some, ◌<◌}
use Rattle.std.proofs.lemmas.Grind.{common_steps}
use Rattle.std.proofs.lemmas.List.{take-append-le, take_all}
use Rattle.ml_stream.proofs.Elements.{content_filled, content_ended}
use Rattle.ml_stream.specs.Reading.{EndsEarly, Fails, IsUnfinished}
use Rattle.ml_stream.specs.Stream.{length_at, content_at, bytes_at}
use Rattle.ml_stream.specs.declared.stream_error.StreamError.{StreamError}
use Rattle.ml_stream.specs.declared.stream_error.StreamError.TheVariants.{Fault, Memory, Short}
use Rattle.ml_stream.proofs.Cuts.{at_exit, breaks_first, breaks_map, breaks_read, breaks_content, breaks_all, short_not, length_unfinished}
use Rattle.ml_stream.proofs.Locality.{length_local}
use Rattle.std.specs.Prelude.{[]}
use Rattle.std.proofs.lemmas.Bool.Decides.{when_false}
use Rattle.ml_stream.proofs.reader.Reader.content.Goals as goal

pub returns-then-not-branch-clause-read : goal.returns-then-not-branch-clause-read
returns-then-not-branch-clause-read g c bs s =
    let h = c.in_ok-len.ensures.read bs s in
    content_ended c.args.self.now.place c.args.limit c.length.new.self.place c.in_ok-len.len bs h.0 c.fill.new.buf c.in_ok-fill.field-0 c.length.new.self.ahead
    (g.I.Source.left c.length.new.input) (g.I.Source.left c.fill.new.input) h.1 h.2 c.in_ok-len.ensures.ahead (grind (arith, common_steps)) c.in_ok-fill.ensures.full (grind arith)

pub returns-clause-read : goal.returns-clause-read
returns-clause-read g c bs s =
    let h = c.in_ok-len.ensures.read bs s in
    let k = content_filled c.args.self.now.place c.args.limit c.length.new.self.place c.in_ok-len.len c.saturating_add-self.result bs h.0 c.fill.new.buf c.in_ok-fill.field-0 c.length.new.self.ahead
    (g.I.Source.left c.length.new.input) (g.I.Source.left c.fill.new.input) h.1 h.2 c.in_ok-len.ensures.ahead (grind (arith, common_steps)) c.in_ok-fill.ensures.full (grind arith) c.saturating_add-self.ensures in
    let len : length c.fill.new.buf ≡ c.in_ok-bytes.bytes.len = grind (arith, common_steps) in
    let all : c.from_vec.result ≡ c.fill.new.buf = c.from_vec.ensures ∙ take-append-le c.in_ok-bytes.bytes.len c.fill.new.buf _ (omega arith) ∙ take_all c.in_ok-bytes.bytes.len c.fill.new.buf (omega arith) in
    (k.0, k.1 ∙ ap (λ b. Ok (record { value = b; place = c.saturating_add-self.result; rest = k.0 })) (sym all), k.2)

pub returns-in_err-len-clause-stops : goal.returns-in_err-len-clause-stops
returns-in_err-len-clause-stops g c bs s =
    at_exit c.from_residual.result (λ (e : StreamError). e ≡ c.in_err-len.field-0.0) (λ (e : StreamError). EndsEarly e (g.I.Source.left c.length.new.input) bs (λ t. IsUnfinished (content_at c.args.self.now.place c.args.limit t))) c.from_residual.ensures.1
    (λ e is. subst (λ (x : StreamError). EndsEarly x (g.I.Source.left c.length.new.input) bs (λ t. IsUnfinished (content_at c.args.self.now.place c.args.limit t))) (sym is)
    (breaks_map c.in_err-len.field-0.0 (g.I.Source.left c.length.new.input) bs (λ t. Fails (content_at c.args.self.now.place c.args.limit t)) (λ t. IsUnfinished (content_at c.args.self.now.place c.args.limit t))
    (breaks_first c.in_err-len.field-0.0 (g.I.Source.left c.length.new.input) bs (λ t. length_at c.args.self.now.place c.args.limit 0 0 c.args.self.now.place t) (bytes_at c.args.self.now.place) (c.in_err-len.ensures.stops bs s)) (λ t f. inl f)))

pub returns-in_err-bytes-clause-stops : goal.returns-in_err-bytes-clause-stops
returns-in_err-bytes-clause-stops g c bs s =
    let h = c.in_ok-len.ensures.read bs s in
    at_exit c.from_residual-in_err-bytes.result (λ (e : StreamError). e ≡ Memory) (λ (e : StreamError). EndsEarly e (g.I.Source.left c.length.new.input) bs (λ t. IsUnfinished (content_at c.args.self.now.place c.args.limit t))) c.from_residual-in_err-bytes.ensures.1
    (λ e is. breaks_read e c.length.new.self.place c.length.new.self.ahead (g.I.Source.left c.length.new.input) bs h.0 (λ t. length_at c.args.self.now.place c.args.limit 0 0 c.args.self.now.place t) c.in_ok-len.len (λ t. IsUnfinished (content_at c.args.self.now.place c.args.limit t)) (length_local c.args.self.now.place c.args.limit 0 0 c.args.self.now.place) h.1 c.in_ok-len.ensures.ahead h.2 (λ front got. length_unfinished c.args.self.now.place c.args.limit c.in_ok-len.len c.length.new.self.place front got))

pub returns-in_err-fill-clause-stops : goal.returns-in_err-fill-clause-stops
returns-in_err-fill-clause-stops g c bs s =
    let h = c.in_ok-len.ensures.read bs s in
    at_exit c.from_residual-in_err-fill.result (λ (e : StreamError). e ≡ Fault) (λ (e : StreamError). EndsEarly e (g.I.Source.left c.fill.new.input) bs (λ t. IsUnfinished (content_at c.args.self.now.place c.args.limit t))) c.from_residual-in_err-fill.ensures.1
    (λ e is. breaks_content e c.args.self.now.place c.args.limit c.length.new.self.place c.in_ok-len.len _ c.length.new.self.ahead (g.I.Source.left c.length.new.input) (g.I.Source.left c.fill.new.input) bs h.0 h.1 c.in_ok-len.ensures.ahead h.2 (grind (arith, common_steps)) (c.in_err-fill.ensures.cut h.2.own h.2.is_left))

pub returns-then-not-branch-clause-stops : goal.returns-then-not-branch-clause-stops
returns-then-not-branch-clause-stops g c bs s =
    let h = c.in_ok-len.ensures.read bs s in
    breaks_all (Short c.args.self.now.place) (g.I.Source.left c.fill.new.input) bs (λ t. IsUnfinished (content_at c.args.self.now.place c.args.limit t)) (when_false ((rest : List ℕ) × (h.2.own ≡ c.fill.new.buf ++ rest) × (g.I.Source.left c.fill.new.input ≡ Some rest)) ((length h.2.own < length c.fill.new.buf) × (g.I.Source.left c.fill.new.input ≡ Some [])) (grind arith) (c.in_ok-fill.ensures.full h.2.own h.2.is_left)).1 (short_not c.args.self.now.place)
