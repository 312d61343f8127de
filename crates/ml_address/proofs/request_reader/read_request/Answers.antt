use Rattle.ml_address.proofs.Inverse.{placed}
use Rattle.ml_address.proofs.request_reader.read_request.Goals as goal

pub returns-clause-places : goal.returns-clause-places
returns-clause-places c = placed c.args.local.now c.args.host.now c.args.recipient.now c.found_request.result c.found_request.ensures
