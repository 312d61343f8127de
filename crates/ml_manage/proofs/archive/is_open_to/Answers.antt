use Rattle.ml_base.specs.Address.{key}
use Rattle.ml_acts.proofs.Damages.{ok_then}
use Rattle.std.proofs.Common.{◌≡◌, true, false, rules}
use Rattle.ml_manage.specs.Found.{is_closed}
use Rattle.ml_manage.proofs.Finding.{open_by}
use Rattle.ml_manage.proofs.Apart.{open_apart, reader_subscriber}
use Rattle.ml_manage.proofs.archive.is_open_to.Goals as goal

pub returns-clause-found : goal.returns-clause-found
returns-clause-found g c told =
    let conf = c.args.config.now in
    let free : is_closed conf ≡ false = search rules in
    let only : conf.flags.g ≡ true = search rules in
    ok_then c.is_subscriber.result (λ b tells. open_by (g.F.Files.map c.args.files.now) conf (key c.args.sender.now) b free only tells) (c.is_subscriber.ensures.found told)

pub returns-clause-apart : goal.returns-clause-apart
returns-clause-apart g c told =
    let conf = c.args.config.now in
    let free : is_closed conf ≡ false = search rules in
    let only : conf.flags.g ≡ true = search rules in
    ok_then c.is_subscriber.result
    (λ b tells dir p alike is same. open_apart conf c.args.sender.now p b free only same (tells dir p (reader_subscriber (g.F.Files.map c.args.files.now) dir conf c.args.sender.now alike only) is)) (c.is_subscriber.ensures.apart told)
