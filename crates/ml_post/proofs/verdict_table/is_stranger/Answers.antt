use Rattle.std.proofs.Common.{◌≡◌, true, rules}
use Rattle.ml_base.specs.Address.{key}
use Rattle.ml_post.proofs.Finding.{stranger_by}
use Rattle.ml_post.proofs.verdict_table.is_stranger.Goals as goal

pub returns-clause-found : goal.returns-clause-found
returns-clause-found g c told =
    let only : c.args.config.now.flags.u ≡ true = search rules in
    stranger_by (g.F.Files.map c.args.files.now) c.args.config.now (key c.args.who.now) c.in_ok-user.user only (c.in_ok-user.ensures.found told)
