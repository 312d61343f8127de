use Rattle.std.proofs.Common.{◌≡◌, false, true, Some, Result, Ok, Err, IfOk, ap, ◌∙◌}
use Rattle.ml_base.specs.Bytes.{Text}
use Rattle.ml_base.specs.Splits.{has_byte}
use Rattle.ml_address.specs.Requests.{PlainRequest, is_in_range}
use Rattle.ml_address.specs.Reading.{request_of}
use Rattle.ml_address.specs.Writing.{request_text}
use Rattle.ml_address.specs.Views.{request_view}
use Rattle.ml_address.proofs.Written.{request_read}
use Rattle.ml_address.proofs.request_writer.write_request.Goals as goal

read_back : {E : Type 0} (r : Result Text E) (local host : Text) (request : PlainRequest) → has_byte 64 host ≡ false → is_in_range request ≡ true
    → IfOk r (λ out. out ≡ request_text local host request) → IfOk r (λ out. request_of local host out ≡ Some request)
read_back (Ok out) local host request clean ranges h = ap (request_of local host) h ∙ request_read local host request clean ranges
read_back (Err e) local host request clean ranges h = tt

pub returns-clause-read : goal.returns-clause-read
returns-clause-read c = read_back c.request_bytes.result c.args.local.now c.args.host.now (request_view c.args.request.now) c.requires.host c.requires.range c.request_bytes.ensures
