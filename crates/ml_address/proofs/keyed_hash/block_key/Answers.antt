use Rattle.std.proofs.Common.{◌++◌, ◌∙◌, ap, length}
use Rattle.std.proofs.lemmas.List.{drop-replicate}
use Rattle.std.proofs.lemmas.Bool.{le-ltb}
use Rattle.ml_address.proofs.keyed_hash.block_key.Goals as goal

pub returns-else-key-gt-BLOCK : goal.returns-else-key-gt-BLOCK
returns-else-key-gt-BLOCK c =
    rw (le-ltb 64 (length c.args.key.now) c.if-key-gt-BLOCK.false)
    (c.put_front-else-key-gt-BLOCK.ensures ∙ ap (λ t. c.args.key.now ++ t) (drop-replicate (length c.args.key.now) 64 0))
