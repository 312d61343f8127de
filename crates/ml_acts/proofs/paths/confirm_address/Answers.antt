use Rattle.std.proofs.Common.{◌≡◌, true, ap, ap₂, ◌∙◌}
use Rattle.std.proofs.lemmas.Bool.{and_from, lt-ltb}
use Rattle.ml_base.specs.Bytes.{Text}
use Rattle.ml_base.specs.Ranges.{is_moment}
use Rattle.ml_base.specs.Splits.{has_byte}
use Rattle.ml_address.specs.Requests.{is_who}
use Rattle.ml_acts.proofs.Letters.{host_clean, parts_are}
use Rattle.ml_acts.proofs.paths.confirm_address.Goals as goal

pub write_request-requires-clause-host : goal.write_request-requires-clause-host
write_request-requires-clause-host c = ap (has_byte 64) c.as_slice-3.ensures ∙ host_clean c.args.config.now c.requires.config

pub write_request-requires-clause-range : goal.write_request-requires-clause-range
write_request-requires-clause-range c =
    let moment : is_moment c.args.now.seconds ≡ true = lt-ltb c.args.now.seconds 253_402_300_800 c.args.now.range in
    let who : is_who (record { local = c.local.result.now; host = c.host.result.now }) ≡ true =
    ap₂ (λ (l h : Text). is_who (record { local = l; host = h })) c.local.ensures c.host.ensures ∙ parts_are c.args.x.now c.key_of.ensures.address in
    and_from _ _ c.requires.asked (and_from _ _ (and_from _ _ moment c.new_cookie-cookie.ensures.letters) who)
