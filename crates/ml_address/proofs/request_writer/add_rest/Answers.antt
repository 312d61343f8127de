use Rattle.ml_address.proofs.request_writer.add_rest.Goals as goal

pub returns-in-Unsubscribe : goal.returns-in-Unsubscribe
returns-in-Unsubscribe c = rw c.in-Unsubscribe.is c.add_change-in-Unsubscribe.ensures

pub returns-in-ProbeBounce : goal.returns-in-ProbeBounce
returns-in-ProbeBounce c = rw c.in-ProbeBounce.is c.add_returned-in-ProbeBounce.ensures
