use Rattle.std.proofs.Common.{IfErr, sym, subst}
use Rattle.ml_stream.specs.Reading.{EndsEarly, Fails}
use Rattle.ml_stream.specs.Stream.{act_at}
use Rattle.ml_stream.specs.declared.stream_error.StreamError.{StreamError}
use Rattle.ml_stream.specs.declared.reader.Letter.{Letter}
use Rattle.ml_stream.proofs.reader.Reader.act.Goals as goal

pub returns-in-Add-clause-stops : goal.returns-in-Add-clause-stops
returns-in-Add-clause-stops g c bs s =
    subst (λ (l : Letter). IfErr c.add.result (λ (e : StreamError). EndsEarly e (g.I.Source.left c.add.new.input) bs (λ t. Fails (act_at l c.args.self.now.place t)))) (sym c.in-Add.is) (c.add.ensures.stops bs s)

pub returns-in-Floor-clause-stops : goal.returns-in-Floor-clause-stops
returns-in-Floor-clause-stops g c bs s =
    subst (λ (l : Letter). IfErr c.floor.result (λ (e : StreamError). EndsEarly e (g.I.Source.left c.floor.new.input) bs (λ t. Fails (act_at l c.args.self.now.place t)))) (sym c.in-Floor.is) (c.floor.ensures.stops bs s)

pub returns-in-Rekey-clause-stops : goal.returns-in-Rekey-clause-stops
returns-in-Rekey-clause-stops g c bs s =
    subst (λ (l : Letter). IfErr c.rekey.result (λ (e : StreamError). EndsEarly e (g.I.Source.left c.rekey.new.input) bs (λ t. Fails (act_at l c.args.self.now.place t)))) (sym c.in-Rekey.is) (c.rekey.ensures.stops bs s)

pub returns-in-Remove-clause-stops : goal.returns-in-Remove-clause-stops
returns-in-Remove-clause-stops g c bs s =
    subst (λ (l : Letter). IfErr c.remove.result (λ (e : StreamError). EndsEarly e (g.I.Source.left c.remove.new.input) bs (λ t. Fails (act_at l c.args.self.now.place t)))) (sym c.in-Remove.is) (c.remove.ensures.stops bs s)

pub returns-in-Deliver-clause-stops : goal.returns-in-Deliver-clause-stops
returns-in-Deliver-clause-stops g c bs s =
    subst (λ (l : Letter). IfErr c.deliver.result (λ (e : StreamError). EndsEarly e (g.I.Source.left c.deliver.new.input) bs (λ t. Fails (act_at l c.args.self.now.place t)))) (sym c.in-Deliver.is) (c.deliver.ensures.stops bs s)

pub returns-in-Sent-clause-stops : goal.returns-in-Sent-clause-stops
returns-in-Sent-clause-stops g c bs s =
    subst (λ (l : Letter). IfErr c.sent_act.result (λ (e : StreamError). EndsEarly e (g.I.Source.left c.sent_act.new.input) bs (λ t. Fails (act_at l c.args.self.now.place t)))) (sym c.in-Sent.is) (c.sent_act.ensures.stops bs s)
