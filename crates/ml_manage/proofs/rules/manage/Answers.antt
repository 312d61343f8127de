use Rattle.std.proofs.Common.{refl}
use Rattle.ml_address.specs.Views.{request_view}
use Rattle.ml_acts.specs.Configured.{with_config}
use Rattle.ml_acts.proofs.UnderConfig.{config_there, room_under, config_of}
use Rattle.ml_manage.specs.Reads.{is_seen_for_sender}
use Rattle.ml_acts.proofs.Damages.{ok_then}
use Rattle.ml_manage.proofs.Apart.{under_alike}
use Rattle.ml_manage.proofs.rules.manage.Goals as goal

pub by_request-requires-clause-room : goal.by_request-requires-clause-room
by_request-requires-clause-room g c told = room_under c.args.config.now (g.F.Files.map c.args.files.now) (c.requires.room told)

pub by_request-requires-clause-loaded : goal.by_request-requires-clause-loaded
by_request-requires-clause-loaded g c told = config_there c.args.config.now (g.F.Files.map c.args.files.now) c.requires.config

pub returns-clause-value : goal.returns-clause-value
returns-clause-value g c told =
    let config = c.args.config.now in
    let old = g.F.Files.map c.args.files.now in
    ok_then c.by_request.result (λ done does p is. does (with_config config old) p (λ name e. refl) is (config_of config old p c.requires.config is)) (c.by_request.ensures.apart told)

pub returns-clause-apart : goal.returns-clause-apart
returns-clause-apart g c told =
    let config = c.args.config.now in
    let seen = is_seen_for_sender config c.args.sender.now (request_view c.args.request.now) in
    ok_then c.by_request.result (λ done does dir p alike is same. does dir p (under_alike seen config (g.F.Files.map c.args.files.now) dir p is same alike) is same) (c.by_request.ensures.apart told)

pub returns-clause-spared : goal.returns-clause-spared
returns-clause-spared g c told dir p alike is same =
    let config = c.args.config.now in
    let seen = is_seen_for_sender config c.args.sender.now (request_view c.args.request.now) in
    c.by_request.ensures.spared told dir p (under_alike seen config (g.F.Files.map c.args.files.now) dir p is same alike) is same
