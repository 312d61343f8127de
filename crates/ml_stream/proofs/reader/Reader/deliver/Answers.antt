use Rattle.std.proofs.Common.{◌≡◌, sym, subst}
use Rattle.ml_stream.specs.Reading.{EndsEarly, Fails}
use Rattle.ml_stream.specs.Stream.{deliver_at}
use Rattle.ml_stream.specs.declared.stream_error.StreamError.{StreamError}
use Rattle.ml_stream.proofs.Elements.{deliver_ok}
use Rattle.ml_stream.proofs.Cuts.{at_exit, deliver_first, deliver_second, deliver_third}
use Rattle.ml_stream.proofs.reader.Reader.deliver.Goals as goal

pub returns-clause-read : goal.returns-clause-read
returns-clause-read g c bs s =
    let a = c.in_ok-sender.ensures.read bs s in
    let b = c.in_ok-recipient.ensures.read a.0 a.2 in
    let d = c.in_ok-message.ensures.read b.0 b.2 in
    (d.0, deliver_ok c.args.self.now.place c.text.new.self.place c.text-2.new.self.place c.text-3.new.self.place bs a.0 b.0 d.0 c.in_ok-sender.sender c.in_ok-recipient.recipient c.in_ok-message.message a.1 b.1 d.1, d.2)

pub returns-in_err-sender-clause-stops : goal.returns-in_err-sender-clause-stops
returns-in_err-sender-clause-stops g c bs s =
    at_exit c.from_residual.result (λ (e : StreamError). e ≡ c.in_err-sender.field-0.0) (λ (e : StreamError). EndsEarly e (g.I.Source.left c.text.new.input) bs (λ t. Fails (deliver_at c.args.self.now.place t))) c.from_residual.ensures.1
    (λ e is. subst (λ (x : StreamError). EndsEarly x (g.I.Source.left c.text.new.input) bs (λ t. Fails (deliver_at c.args.self.now.place t))) (sym is)
    (deliver_first c.in_err-sender.field-0.0 (g.I.Source.left c.text.new.input) bs c.args.self.now.place (c.in_err-sender.ensures.stops bs s)))

pub returns-in_err-recipient-clause-stops : goal.returns-in_err-recipient-clause-stops
returns-in_err-recipient-clause-stops g c bs s =
    let a = c.in_ok-sender.ensures.read bs s in
    at_exit c.from_residual-in_err-recipient.result (λ (e : StreamError). e ≡ c.in_err-recipient.field-0.0) (λ (e : StreamError). EndsEarly e (g.I.Source.left c.text-2.new.input) bs (λ t. Fails (deliver_at c.args.self.now.place t))) c.from_residual-in_err-recipient.ensures.1
    (λ e is. subst (λ (x : StreamError). EndsEarly x (g.I.Source.left c.text-2.new.input) bs (λ t. Fails (deliver_at c.args.self.now.place t))) (sym is)
    (deliver_second c.in_err-recipient.field-0.0 (g.I.Source.left c.text-2.new.input) bs a.0 c.args.self.now.place c.text.new.self.place c.in_ok-sender.sender a.1 (c.in_err-recipient.ensures.stops a.0 a.2)))

pub returns-in_err-message-clause-stops : goal.returns-in_err-message-clause-stops
returns-in_err-message-clause-stops g c bs s =
    let a = c.in_ok-sender.ensures.read bs s in
    let b = c.in_ok-recipient.ensures.read a.0 a.2 in
    at_exit c.from_residual-in_err-message.result (λ (e : StreamError). e ≡ c.in_err-message.field-0.0) (λ (e : StreamError). EndsEarly e (g.I.Source.left c.text-3.new.input) bs (λ t. Fails (deliver_at c.args.self.now.place t))) c.from_residual-in_err-message.ensures.1
    (λ e is. subst (λ (x : StreamError). EndsEarly x (g.I.Source.left c.text-3.new.input) bs (λ t. Fails (deliver_at c.args.self.now.place t))) (sym is)
    (deliver_third c.in_err-message.field-0.0 (g.I.Source.left c.text-3.new.input) bs a.0 b.0 c.args.self.now.place c.text.new.self.place c.text-2.new.self.place c.in_ok-sender.sender c.in_ok-recipient.recipient a.1 b.1 (c.in_err-message.ensures.stops b.0 b.2)))
