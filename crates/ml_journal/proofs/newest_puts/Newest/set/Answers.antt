use Rattle.ml_journal.proofs.Tables.{still_files}
use Rattle.ml_journal.proofs.newest_puts.Newest.set.Goals as goal

pub invariant_of-self : goal.invariant_of-self
invariant_of-self c = record { files = still_files c.set_put.result c.args.self.now.puts c.set_put.new.puts c.args.name c.args.bytes c.requires c.set_put.ensures c.args.self.now.files }
