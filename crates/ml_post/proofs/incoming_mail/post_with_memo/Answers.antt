use Rattle.std.proofs.Common.{refl}
use Rattle.ml_acts.specs.Configured.{with_config}
use Rattle.ml_acts.proofs.Damages.{ok_then}
use Rattle.ml_acts.proofs.UnderConfig.{config_of, room_under}
use Rattle.ml_post.proofs.Apart.{posted_under}
use Rattle.ml_post.proofs.incoming_mail.post_with_memo.Goals as goal

pub post_with_config-requires-clause-room : goal.post_with_config-requires-clause-room
post_with_config-requires-clause-room g c told = room_under c.args.config.now (g.F.Files.map c.args.files.now) (c.requires.room told)

pub returns-clause-value : goal.returns-clause-value
returns-clause-value g c told =
    let config = c.args.config.now in
    let old = g.F.Files.map c.args.files.now in
    ok_then c.post_with_config.result (λ done does p is. does (with_config config old) p (λ name e next. refl) is (config_of config old p c.requires.config is)) (c.post_with_config.ensures.apart told)

pub returns-clause-apart : goal.returns-clause-apart
returns-clause-apart g c told =
    let config = c.args.config.now in
    ok_then c.post_with_config.result
    (λ done does dir p alike is same. does dir p (posted_under config config c.args.sender.now c.args.message.now (g.F.Files.map c.args.files.now) dir alike) is same) (c.post_with_config.ensures.apart told)

pub returns-clause-spared : goal.returns-clause-spared
returns-clause-spared g c told dir p alike is =
    let config = c.args.config.now in
    c.post_with_config.ensures.spared told dir p (posted_under config config c.args.sender.now c.args.message.now (g.F.Files.map c.args.files.now) dir alike) is
