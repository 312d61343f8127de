use Rattle.std.proofs.Common.{rules}
use Rattle.ml_joining.proofs.Apart.{keys_apart}
use Rattle.ml_joining.proofs.requests.is_signed.Goals as goal

pub returns-clause-found : goal.returns-clause-found
returns-clause-found g c told = (c.in_ok-keys.keys, c.in_ok-keys.ensures.value told)

pub returns-clause-apart : goal.returns-clause-apart
returns-clause-apart g c told dir p same is =
    let keys = keys_apart (g.F.Files.map c.args.files.now) dir c.in_ok-keys.keys p same (c.in_ok-keys.ensures.value told) is in
    search rules
