use Rattle.std.proofs.Common.{sym, subst, List}
use Rattle.std.specs.Prelude.{IsTrue}
use Rattle.ml_base.specs.Dir.{are_files}
use Rattle.ml_base.specs.declared.puts.Put.{Put}
use Rattle.ml_list.proofs.Risen.{rise_files}
use Rattle.ml_list.proofs.floor_rise.rise.Goals as goal

pub returns-clause-files : goal.returns-clause-files
returns-clause-files g c = subst (λ (txn : List Put). IsTrue (are_files txn)) (sym c.in_ok-rise_txn.ensures) (rise_files c.args.floor c.args.at c.in-Some.bytes c.requires.up c.requires.most)
