use Rattle.std.proofs.lemmas.Result.{IfOk-weaker}
use Rattle.ml_base.proofs.DamagedNames.{err_damaged}
use Rattle.ml_filing.specs.Answers.{IsOtherSize}
use Rattle.ml_filing.proofs.Indexed.{own_size, posted}
use Rattle.ml_filing.proofs.post_reader.message_of.Goals as goal

pub returns-clause-value : goal.returns-clause-value
returns-clause-value g c told posts is =
    let dir = g.F.Files.map c.args.files.now in
    IfOk-weaker _ _ _ (λ bytes there. posted dir posts is c.args.entry.now.number bytes c.requires.low c.requires.high there) (c.read_bytes.ensures.value told)

pub returns-clause-sound : goal.returns-clause-sound
returns-clause-sound g c told posts group is among =
    let dir = g.F.Files.map c.args.files.now in
    let e = c.args.entry.now in
    err_damaged c.read_bytes.result (λ _. IsOtherSize dir e.number e.size) (λ _. ⊥) (λ name other. own_size dir posts is group e among other) (c.read_bytes.ensures.names.damaged told)
