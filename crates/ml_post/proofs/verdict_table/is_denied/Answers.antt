use Rattle.std.proofs.Common.{◌≡◌, true, rules}
use Rattle.ml_base.specs.Address.{key}
use Rattle.ml_acts.proofs.Damages.{ok_then}
use Rattle.ml_post.proofs.Finding.{denied_by}
use Rattle.ml_post.proofs.verdict_table.is_denied.Goals as goal

pub returns-clause-found : goal.returns-clause-found
returns-clause-found g c told =
    let k = key c.args.who.now in
    let has : c.args.config.now.flags.k ≡ true = search rules in
    ok_then c.is_member.result (λ b tells. denied_by (g.F.Files.map c.args.files.now) c.args.config.now k b has tells) (c.is_member.ensures.found told)
