use Rattle.std.proofs.Common.{◌∙◌, sym, refl}
use Rattle.ml_address.specs.Reading as spec
use Rattle.ml_address.proofs.Tables.{decides}
use Rattle.ml_address.proofs.request_reader.mailed_request.Goals as goal

pub returns-in-Some : goal.returns-in-Some
returns-in-Some c =
    c.bounce.ensures ∙ sym (decides (spec.mailed_rows c.args.set) refl 0 _ c.args.text.now c.in-Some.rest.now refl (sym c.in-Some.ensures))
